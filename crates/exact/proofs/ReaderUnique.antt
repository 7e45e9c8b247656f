-- What `frame::read_frame` ensures leaves one reply and one output only; a refusal leaves the output as it was.
-- Assumes nothing.
use Prim.Native.Nat.{ℕ, suc, ◌*◌, ◌/◌, ◌%◌}
use mathlib.Core.Path.{◌≡◌, refl, sym, ap, ◌∙◌}
use mathlib.Core.Bool.{Bool, true, false, not}
use mathlib.Core.List.{List, [], ◌∷◌}
use native.Mathlib.Omega.{arith}
use lib.Dec.{ltb, eqb}
use lib.ListN.{length, take}
use Rattle.octets.specs.Bits.{bits}
use Rattle.octets.specs.Lay.{put}
use Rattle.octets.specs.Places.{pick}
use Rattle.fcs.specs.Division.{fcs}
use Rattle.frame.specs.Limits.{most_bits, information_room, fewest_content, most_content}
use Rattle.frame.specs.Stuffing.{Cutting, uncut, cut_into}
use Rattle.frame.specs.Frame.{framed}
use Rattle.frame.specs.Reader.{Reading, refused, information, refused_if, same, ahead, check, checked, alone, read_frame, Reply, read_told, Reads}
use Rattle.std.specs.Prelude.{Result, Ok, Err}
use Rattle.frame.specs.declared.FrameReadRefusal.{FrameReadRefusal}
use Rattle.frame.specs.declared.FrameReadRefusal.TheVariants.{BadLent, BadFlags, SplitOctet, TooShort, TooLong, WrongCheck}

-- the answer that a reply tells
abbrev back : Reply → Result ℕ FrameReadRefusal
back p =
    pick (eqb p.no 0) (Ok p.count)
    (pick (eqb p.no 1) (Err BadLent)
    (pick (eqb p.no 2) (Err BadFlags)
    (pick (eqb p.no 3) (Err SplitOctet)
    (pick (eqb p.no 4) (Err TooShort)
    (pick (eqb p.no 5) (Err TooLong) (Err WrongCheck))))))

-- each answer is told by its reply
back_told : (r : Result ℕ FrameReadRefusal) → back (read_told r) ≡ r
back_told (Ok n) = refl
back_told (Err BadLent) = refl
back_told (Err BadFlags) = refl
back_told (Err SplitOctet) = refl
back_told (Err TooShort) = refl
back_told (Err TooLong) = refl
back_told (Err WrongCheck) = refl

-- two replies and outputs that fit one reading are the same
pub read_unique : (x : Reading) (out₀ : List ℕ) (r r' : Result ℕ FrameReadRefusal) (out₁ out₁' : List ℕ) → Reads x out₀ r out₁ → Reads x out₀ r' out₁' → (r ≡ r') × (out₁ ≡ out₁')
read_unique x out₀ r r' out₁ out₁' a b =
    (sym (back_told r) ∙ ap back (a.reply ∙ sym b.reply) ∙ back_told r', a.output ∙ sym b.output)

-- a reply that is not success leaves the output as it was
pub read_refusal_writes_nothing : (x : Reading) (out₀ : List ℕ) (r : Result ℕ FrameReadRefusal) (out₁ : List ℕ) → Reads x out₀ r out₁ → ((read_told r).no ≡ 0 → ⊥) → out₁ ≡ out₀
read_refusal_writes_nothing (refused k) out₀ r out₁ a h = a.output
read_refusal_writes_nothing (information os) out₀ r out₁ a h = absurd (h (ap (λ (p : Reply). p.no) a.reply))

-- a test with a number other than 0 refuses nothing by 0
never_if : (t : Bool) (k : ℕ) (x : Reading) → (x ≡ refused 0 → ⊥) → refused_if t (suc k) x ≡ refused 0 → ⊥
never_if true k x h e = let z : suc k ≡ 0 = cc in omega arith
never_if false k x h e = h e

-- nor do the checks of a content
checked_never : (cs : List Bool) → checked cs ≡ refused 0 → ⊥
unfolding checked
checked_never cs =
    never_if (ltb 0 (length cs % 8)) 2 _
    (never_if (ltb (length cs / 8) fewest_content) 3 _
    (never_if (ltb most_content (length cs / 8)) 4 _
    (never_if (not (same (check cs) (fcs (ahead cs)))) 5 _ (λ e. let z : ◌≡◌ {A = ℕ} 0 1 = cc in omega arith))))

-- nor what is found
alone_never : (x : Cutting) → alone x ≡ refused 0 → ⊥
unfolding alone
alone_never uncut e = let z : ◌≡◌ {A = ℕ} 2 0 = cc in omega arith
alone_never (cut_into cs []) e = checked_never cs e
alone_never (cut_into cs (b ∷ r)) e = let z : ◌≡◌ {A = ℕ} 2 0 = cc in omega arith

-- no refusal of the reader has the number 0
pub read_never_zero : (run : List ℕ) (count room : ℕ) → read_frame run count room ≡ refused 0 → ⊥
unfolding read_frame
read_never_zero run count room =
    never_if (ltb most_bits count) 0 _
    (never_if (ltb (length run * 8) count) 0 _
    (never_if (ltb room information_room) 0 _ (alone_never (framed (take count (bits run))))))

-- success writes the information that was read, nothing else, and tells its length
pub read_success_writes : (run : List ℕ) (count room : ℕ) (out₀ : List ℕ) (r : Result ℕ FrameReadRefusal) (out₁ : List ℕ) → Reads (read_frame run count room) out₀ r out₁ → (read_told r).no ≡ 0
    → (os : List ℕ) × (read_frame run count room ≡ information os) × (out₁ ≡ put os out₀) × (r ≡ Ok (length os))
read_success_writes run count room out₀ r out₁ a h = go (read_frame run count room) (read_never_zero run count room) a
  where
    go : (x : Reading) → (x ≡ refused 0 → ⊥) → Reads x out₀ r out₁ → (os : List ℕ) × (x ≡ information os) × (out₁ ≡ put os out₀) × (r ≡ Ok (length os))
    go (refused k) n b = absurd (n (ap refused (sym (ap (λ (p : Reply). p.no) b.reply) ∙ h)))
    go (information os) n b = (os, refl, b.output, sym (back_told r) ∙ ap back b.reply)
