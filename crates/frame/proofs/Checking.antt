-- The ways through a content that was read: refusals 3 to 6, and its information.
-- Assumes nothing.
use Prim.Native.Nat.{ℕ, suc, ◌+◌, ◌-◌, ◌*◌, ◌/◌, ◌%◌, ◌<◌, ◌≤◌}
use mathlib.Core.Path.{◌≡◌, refl, sym, ap, ◌∙◌}
use mathlib.Core.Bool.{Bool, true, false}
use mathlib.Core.List.{List, [], ◌∷◌}
use native.Mathlib.Numerals.{add-one}
use native.Mathlib.Omega.{arith}
use borrow.Author.Tests.{lt-ltb, le-ltb}
use lib.ListN.{length, get_or, take, drop}
use lib.Seq.{length-take-le, take_all, take-take, drop-cons, get_or-take}
use Rattle.octets.specs.Bits.{bits, number, AreOctets}
use Rattle.octets.specs.Lay.{put}
use Rattle.octets.proofs.Laws.{length_bits, bits_take, bits_drop}
use Rattle.octets.proofs.Packing.{packed_bits}
use Rattle.octets.proofs.Window.{number_cons}
use Rattle.fcs.specs.Division.{fcs}
use Rattle.fcs.proofs.Registers.{fcs_octets}
use Rattle.frame.specs.Reader.{Reading, refused, information, same, ahead, check, checked, read_told, read_reply, read_leaves, Reads}
use Rattle.frame.specs.Inner.{Stands}
use Rattle.std.specs.Prelude.{Result, Ok}
use Rattle.frame.specs.declared.FrameReadRefusal.{FrameReadRefusal}
use Rattle.frame.proofs.Sights.{drop_take}

-- a refusal's answer
pub reads_refused : (x : Reading) (out : List ℕ) (k : ℕ) (r : Result ℕ FrameReadRefusal) → x ≡ refused k → read_told r ≡ read_reply (refused k) → Reads x out r out
reads_refused x out k r e t = record { reply = t ∙ sym (ap read_reply e); output = sym (ap (λ (y : Reading). read_leaves y out) e) }

-- the answer where information is given
pub reads_given : (x : Reading) (os out₀ out₁ : List ℕ) (n : ℕ) → x ≡ information os → length os ≡ n → out₁ ≡ put os out₀ → Reads x out₀ (Ok n) out₁
reads_given x os out₀ out₁ n e l o =
    record {
      reply = ap (λ (m : ℕ). read_told (Ok m)) (sym l) ∙ sym (ap read_reply e);
      output = o ∙ sym (ap (λ (y : Reading). read_leaves y out₀) e);
    }

-- equal readings have one answer
pub reads_as : {x y : Reading} {out₀ out₁ : List ℕ} {r : Result ℕ FrameReadRefusal} → x ≡ y → Reads y out₀ r out₁ → Reads x out₀ r out₁
reads_as {out₀ = out₀} e a = record { reply = a.reply ∙ sym (ap read_reply e); output = a.output ∙ sym (ap (λ (z : Reading). read_leaves z out₀) e) }

-- bits are the same as themselves, and the same only if equal
pub same_refl : (p : List Bool) → same p p ≡ true
unfolding same
same_refl [] = refl
same_refl (true ∷ p) = same_refl p
same_refl (false ∷ p) = same_refl p

pub same_eq : (p q : List Bool) → same p q ≡ true → p ≡ q
unfolding same
same_eq [] [] e = refl
same_eq [] (b ∷ q) e = absurd (let z : ◌≡◌ {A = ℕ} 0 1 = cc in omega arith)
same_eq (a ∷ p) [] e = absurd (let z : ◌≡◌ {A = ℕ} 0 1 = cc in omega arith)
same_eq (true ∷ p) (true ∷ q) e = ap (λ (l : List Bool). true ∷ l) (same_eq p q e)
same_eq (true ∷ p) (false ∷ q) e = absurd (let z : ◌≡◌ {A = ℕ} 0 1 = cc in omega arith)
same_eq (false ∷ p) (true ∷ q) e = absurd (let z : ◌≡◌ {A = ℕ} 0 1 = cc in omega arith)
same_eq (false ∷ p) (false ∷ q) e = ap (λ (l : List Bool). false ∷ l) (same_eq p q e)

pub same_not : (p q : List Bool) → (p ≡ q → ⊥) → same p q ≡ false
same_not p q n = go (same p q) refl
  where
    go : (b : Bool) → same p q ≡ b → same p q ≡ false
    go true e = absurd (n (same_eq p q e))
    go false e = e

-- the content's bits are cs, of which there are size, and they stand in t where there is room for them
module _ (cs : List Bool) (size : ℕ) (long : length cs ≡ size) where
  pub checked_3 : (size % 8 ≡ 0 → ⊥) → checked cs ≡ refused 3
  unfolding checked
  checked_3 h = rw (long, lt-ltb 0 (size % 8) (omega arith))

  pub checked_4 : size % 8 ≡ 0 → size / 8 < 3 → checked cs ≡ refused 4
  unfolding checked
  checked_4 h l = rw (long, le-ltb 0 (size % 8) (omega arith), lt-ltb (size / 8) 3 l)

  pub checked_5 : size % 8 ≡ 0 → 66 < size / 8 → checked cs ≡ refused 5
  unfolding checked
  checked_5 h u = rw (long, le-ltb 0 (size % 8) (omega arith), le-ltb (size / 8) 3 (omega arith), lt-ltb 66 (size / 8) u)

module _ (t : List ℕ) (size : ℕ) (room : length t ≡ 66) where
  -- the FCS of the first n octets is the number f, and the two octets behind them are x and y
  module _ (n x y f : ℕ) (h : size % 8 ≡ 0) (hn : n + 2 ≡ size / 8) (few : 3 ≤ size / 8) (many : size / 8 ≤ 66)
      (ox : AreOctets t) (ex : x ≡ get_or t n 0) (ey : y ≡ get_or t (n + 1) 0) (ef : f ≡ number (fcs (bits (take n t)))) where
    is_size : length (take size (bits t)) ≡ size
    is_size = length-take-le size (bits t) (omega (arith, length_bits t))

    start : size - 16 ≡ n * 8
    start = omega arith

    is_ahead : ahead (take size (bits t)) ≡ bits (take n t)
    is_ahead =
        rw (is_size, start) (take-take (n * 8) size (bits t) (omega arith) ∙ sym (bits_take n t))

    two : drop n t ≡ x ∷ y ∷ drop (n + 1 + 1) t
    two =
        rw (ex, ey, add-one (n + 1), add-one n)
        (drop-cons t n 0 (omega arith) ∙ ap (λ (l : List ℕ). get_or t n 0 ∷ l) (drop-cons t (suc n) 0 (omega arith)))

    is_check : check (take size (bits t)) ≡ bits (x ∷ y ∷ [])
    unfolding bits
    is_check =
        let e : size - n * 8 ≡ 16 = omega arith in
        rw (is_size, start, drop_take (n * 8) size (bits t), e, ← bits_drop n t, two)

    x_octet : x < 256
    x_octet = rw ex (ox n (omega arith))

    y_octet : y < 256
    y_octet = rw ey (ox (n + 1) (omega arith))

    check_number : number (bits (x ∷ y ∷ [])) ≡ x + y * 256
    unfolding bits number
    check_number = omega (arith, number_cons x (y ∷ []) x_octet, number_cons y [] y_octet)

    wrong : (f ≡ x + y * 256 → ⊥) → checked (take size (bits t)) ≡ refused 6
    unfolding checked
    wrong q =
        rw (
          is_check,
          is_ahead,
          is_size,
          le-ltb 0 (size % 8) (omega arith),
          le-ltb (size / 8) 3 few,
          le-ltb 66 (size / 8) many,
          same_not (bits (x ∷ y ∷ [])) (fcs (bits (take n t))) (λ e. q (ef ∙ ap number (sym e) ∙ check_number)),
        )

    front_octets : AreOctets (take n t)
    front_octets i hi =
        let l : length (take n t) ≡ n = length-take-le n t (omega arith) in
        rw (get_or-take n t i 0 (omega arith)) (ox i (omega arith))

    is_fcs : f ≡ x + y * 256 → bits (x ∷ y ∷ []) ≡ fcs (bits (take n t))
    is_fcs q =
        let F = number (fcs (bits (take n t))) in
        let a : x ≡ F % 256 = omega (arith, x_octet) in
        let b : y ≡ F / 256 = omega (arith, x_octet) in
        ap (λ (m : ℕ). bits (m ∷ y ∷ [])) a ∙ ap (λ (m : ℕ). bits (F % 256 ∷ m ∷ [])) b ∙ fcs_octets (take n t)

    right : f ≡ x + y * 256 → checked (take size (bits t)) ≡ information (take n t)
    unfolding checked
    right q =
        rw (
          is_check,
          is_ahead,
          is_size,
          le-ltb 0 (size % 8) (omega arith),
          le-ltb (size / 8) 3 few,
          le-ltb 66 (size / 8) many,
          is_fcs q,
          same_refl (fcs (bits (take n t))),
        )
        (ap information (packed_bits (take n t) front_octets))

    module _ (cs : List Bool) (long : length cs ≡ size) (stands : Stands size cs t) where
      is_content : cs ≡ take size (bits t)
      is_content = sym (stands size (omega arith) (omega arith) ∙ take_all size cs (omega arith))

      pub checked_6 : (f ≡ x + y * 256 → ⊥) → checked cs ≡ refused 6
      checked_6 q = ap checked is_content ∙ wrong q

      pub checked_ok : f ≡ x + y * 256 → checked cs ≡ information (take n t)
      checked_ok q = ap checked is_content ∙ right q
