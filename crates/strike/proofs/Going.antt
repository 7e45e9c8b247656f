-- A field rewritten piece by piece: octets put one run after the other; the octets of several positions, and of those set in a block;
-- and the pieces that a group, a Par(2) block and a field are made of.
-- Assumes nothing.
use Prim.Native.Nat.{ℕ, zero, suc, ◌+◌, ◌-◌, ◌*◌, ◌%◌, ◌≤◌, ◌<◌}
use mathlib.Core.Path.{◌≡◌, refl, sym, ap, ◌∙◌}
use mathlib.Core.Bool.{true, false}
use mathlib.Core.List.{List, [], ◌∷◌, ◌++◌, append_assoc, append-nil}
use native.Mathlib.Omega.{arith}
use Rattle.tree.specs.Order.{Ascending, AllBelow}
use Rattle.tree.proofs.Ascending.{numbers_between}
use lib.ListN.{length, get_or, set, length-append}
use lib.Seq.{sets, length-sets}
use Rattle.tree.specs.Block.{set_bits, block_numbers, numbers, behind, ended}
use Rattle.tree.specs.Codes.{subs_behind, group_behind, pars_behind, rest_behind, field_behind, of_s}
use Rattle.tree.specs.Form.{form_at, group_form, pars_form}
use Rattle.tree.specs.Form.{Fine}
use Rattle.tree.proofs.Few.{few, group_few}
use Rattle.tree.proofs.Forms.{and_parts}
use Rattle.tree.proofs.Filling.{sets_append}
use Rattle.meaning.specs.Written.{marked}
use Rattle.meaning.specs.Writing.{is_empty}
use Rattle.meaning.proofs.Blocks.{sets_marked, length_marked, block_some}
use Rattle.names.specs.Masks.{npar_places, spar_places}
use Rattle.names.specs.Inner.{kept_place}
use Rattle.names.specs.declared.Keep.{Keep}
use Rattle.std.specs.Prelude.{Option}
use Rattle.strike.specs.Inner.{sieved, block_kept, SubsFine, sub_kept, subs_kept, lower_kept, group_kept, whole_par, par_kept, pars_kept, rest_kept, field_kept, Puts}
use Rattle.strike.specs.declared.Spot.{Spot}

-- ---- octets put one run after the other

-- nothing is put
pub puts_none : {e f : ℕ} → e ≡ f → (out : List ℕ) (to : ℕ) → Puts [] f out to out (record { from = e; to = to })
puts_none h out to = record { read = h; at = omega arith; out = refl }

-- what is put changes no length
pub puts_size : {a : List ℕ} {e : ℕ} {out₀ : List ℕ} {to : ℕ} {out₁ : List ℕ} {r : Spot} → Puts a e out₀ to out₁ r → length out₁ ≡ length out₀
puts_size {a} {out₀ = out₀} {to} x = ap length x.out ∙ length-sets out₀ to a

-- what is put in two steps
pub puts_then : {a b : List ℕ} {e f : ℕ} {out₀ out₁ out₂ : List ℕ} {to : ℕ} {r v : Spot} → Puts a e out₀ to out₁ r → Puts b f out₁ r.to out₂ v
    → Puts (a ++ b) f out₀ to out₂ v
puts_then {a} {b} {out₀ = out₀} {to = to} x y = record {
  read = y.read;
  at = omega (arith, x.at, y.at, length-append a b);
  out = y.out ∙ rw (x.at, x.out) (sym (sets_append out₀ to a b));
}

-- where there is room for both there is room for the first
room_first : (a b : List ℕ) (to size : ℕ) → to + length (a ++ b) ≤ size → to + length a ≤ size
room_first a b to size h = omega (arith, length-append a b)

-- behind what was put: the octets b, and the place f behind them, of the place that reading has come to
module _ {a : List ℕ} {e : ℕ} {out₀ : List ℕ} {to : ℕ} {out₁ : List ℕ} {r : Spot} (x : Puts a e out₀ to out₁ r) (b : ℕ → List ℕ) where
  room_behind : to + length (a ++ b e) ≤ length out₀ → r.to + length (b r.from) ≤ length out₁
  room_behind h = rw x.read (omega (arith, x.at, puts_size x, length-append a (b e)))

  puts_behind : (f : ℕ → ℕ) {out₂ : List ℕ} {v : Spot} → Puts (b r.from) (f r.from) out₁ r.to out₂ v → Puts (a ++ b e) (f e) out₀ to out₂ v
  puts_behind f y = puts_then x (rw x.read at y)

-- marking changes no length
pub marked-length : (a : List ℕ) → length (marked a) ≡ length a
unfolding marked
marked-length [] = refl
marked-length (d ∷ ds) = length_marked d ds

-- bit 8 is set in the last octet that was put
pub puts_marked : {a : List ℕ} {e : ℕ} {out₀ : List ℕ} {to : ℕ} {out₁ : List ℕ} {r : Spot} → Puts a e out₀ to out₁ r → 0 < length a → to + length a ≤ length out₀
    → Puts (marked a) e out₀ to (set out₁ (r.to - 1) (get_or out₁ (r.to - 1) 0 % 128 + 128)) r
puts_marked {a = []} x some room = absurd (omega arith)
puts_marked {a = d ∷ ds} {out₀ = out₀} {to} {r = r} x some room =
    let n : r.to - 1 ≡ to + length ds = omega (arith, x.at) in
    record {
      read = x.read;
      at = omega (arith, x.at, length_marked d ds);
      out = rw (n, x.out) (sets_marked d ds out₀ to room);
    }

-- ---- the octets of several positions

-- the place behind a block, within the octets
pub behind_within : (m : ℕ) (l : List ℕ) (e : ℕ) → e ≤ length l → behind m l e ≤ length l
behind_within m l e h = (few 0 m 0 l e h).1

-- a Par(2) block is well-formed
abbrev pub ParFine : List ℕ → ℕ → Type 0
ParFine l e = (form_at 64 l e ≡ Fine) × (group_form l (behind 64 l e) ≡ Fine)

-- octets made of positions one after the other, each read at the place behind the one before, and never behind the end; so many of them are
-- well-formed from a place on
pub record Stepped (one : ℕ → ℕ → List ℕ) (many : List ℕ → ℕ → List ℕ) (past : ℕ → ℕ) (pasts : ℕ → ℕ → ℕ) (fine : ℕ → Type 0) (fines : ℕ → ℕ → Type 0) (size : ℕ) : Type 1 where
  pub none : (e : ℕ) → many [] e ≡ []
  pub next : (q : ℕ) (qs : List ℕ) (e : ℕ) → many (q ∷ qs) e ≡ one q e ++ many qs (past e)
  pub stay : (e : ℕ) → pasts 0 e ≡ e
  pub pass : (k e : ℕ) → pasts (suc k) e ≡ pasts k (past e)
  pub within : (e : ℕ) → e ≤ size → past e ≤ size
  pub each : (k e : ℕ) → fines (suc k) e → fine e × fines k (past e)
  pub nothing : (e : ℕ) → fines 0 e
  pub both : (k e : ℕ) → fine e → fines k (past e) → fines (suc k) e

-- NPar(3) blocks, and Par(2) blocks
pub subs_stepped : (k : Keep) (c : ℕ) (p : Option ℕ) (l : List ℕ)
    → Stepped (λ t e. sub_kept k c p t l e) (λ ts e. subs_kept k c p ts l e) (λ e. behind 64 l e) (λ n e. subs_behind n l e) (λ e. form_at 64 l e ≡ Fine) (λ n e. SubsFine n l e) (length l)
unfolding subs_kept subs_behind SubsFine
subs_stepped k c p l = record {
  none = λ e. refl;
  next = λ q qs e. refl;
  stay = λ e. refl;
  pass = λ n e. refl;
  within = λ e h. behind_within 64 l e h;
  each = λ n e h. h;
  nothing = λ e. tt;
  both = λ n e h g. (h, g);
}

pub pars_stepped : (k : Keep) (b : ℕ) (p : Option ℕ) (l : List ℕ)
    → Stepped (λ q e. par_kept k b p q l e) (λ qs e. pars_kept k b p qs l e) (λ e. group_behind l (behind 64 l e)) (λ n e. pars_behind n l e) (λ e. ParFine l e) (λ n e. pars_form n l e ≡ Fine) (length l)
unfolding pars_kept pars_behind pars_form
pars_stepped k b p l = record {
  none = λ e. refl;
  next = λ q qs e. refl;
  stay = λ e. refl;
  pass = λ n e. refl;
  within = λ e h. (group_few 0 l (behind 64 l e) (behind_within 64 l e h)).1;
  each = λ n e h. let x = and_parts (form_at 64 l e) _ h in let y = and_parts (group_form l (behind 64 l e)) _ x.1 in ((x.0, y.0), y.1);
  nothing = λ e. refl;
  both = λ n e h g. rw (h.0, h.1) g;
}

-- where the block is one octet with the delimiting bit alone, there is no position, and nothing is put
no_position : (l : List ℕ) (e : ℕ) → get_or l e 0 ≡ 128 → numbers 7 128 0 l e ≡ []
unfolding block_numbers set_bits
no_position [] e h = absurd (omega (arith, h))
no_position (o ∷ l) zero h = rw h refl
no_position (o ∷ l) (suc e) h = no_position l e h

pub pars_none : (k : Keep) (b : ℕ) (p : Option ℕ) (l : List ℕ) (e : ℕ) → get_or l e 0 ≡ 128 → (out : List ℕ) (start : Spot)
    → Puts (pars_kept k b p (numbers 7 128 0 l e) l start.from) (pars_behind (length (numbers 7 128 0 l e)) l start.from) out start.to out start
unfolding pars_kept pars_behind
pars_none k b p l e h out start = rw (no_position l e h) (puts_none refl out start.to)

-- of the octets that all positions give from a spot on, all but those that the positions still to come give from here on were put
pub record Going (many : List ℕ → ℕ → List ℕ) (pasts : ℕ → ℕ → ℕ) (fines : ℕ → ℕ → Type 0) (size : ℕ) (all : List ℕ) (start : Spot) (out₀ : List ℕ) (todo out : List ℕ) (spot : Spot) : Type 0 where
  pub within : spot.from ≤ size
  pub fine : fines (length todo) spot.from
  pub read : pasts (length todo) spot.from ≡ pasts (length all) start.from
  pub at : spot.to + length (many todo spot.from) ≡ start.to + length (many all start.from)
  pub puts : sets out spot.to (many todo spot.from) ≡ sets out₀ start.to (many all start.from)
  pub long : length out ≡ length out₀

module _ {one : ℕ → ℕ → List ℕ} {many : List ℕ → ℕ → List ℕ} {past : ℕ → ℕ} {pasts : ℕ → ℕ → ℕ} {fine : ℕ → Type 0} {fines : ℕ → ℕ → Type 0} {size : ℕ} (x : Stepped one many past pasts fine fines size) where
  -- over two lists of positions
  pub many_append : (qs ts : List ℕ) (e : ℕ) → many (qs ++ ts) e ≡ many qs e ++ many ts (pasts (length qs) e)
  many_append [] ts e = rw (x.none e, x.stay e)
  many_append (q ∷ qs) ts e =
      x.next q (qs ++ ts) e
      ∙ rw (x.next q qs e, x.pass (length qs) e, many_append qs ts (past e)) (sym (append_assoc (one q e) (many qs (past e)) (many ts (pasts (length qs) (past e)))))

  pub pasts_append : (qs ts : List ℕ) (e : ℕ) → pasts (length (qs ++ ts)) e ≡ pasts (length ts) (pasts (length qs) e)
  pasts_append [] ts e = rw (x.stay e)
  pasts_append (q ∷ qs) ts e = x.pass (length (qs ++ ts)) e ∙ rw (x.pass (length qs) e) (pasts_append qs ts (past e))

  -- of a single one
  many_one : (q e : ℕ) → many (q ∷ []) e ≡ one q e
  many_one q e = x.next q [] e ∙ rw (x.none (past e)) (append-nil (one q e))

  pasts_one : (e : ℕ) → pasts 1 e ≡ past e
  pasts_one e = x.pass 0 e ∙ x.stay (past e)

  pasts_within : (k e : ℕ) → e ≤ size → pasts k e ≤ size
  pasts_within zero e h = rw (x.stay e) h
  pasts_within (suc k) e h = rw (x.pass k e) (pasts_within k (past e) (x.within e h))

  -- of two lists of positions that are fine together, each is
  fines_parts : (qs ts : List ℕ) (e : ℕ) → fines (length (qs ++ ts)) e → fines (length qs) e × fines (length ts) (pasts (length qs) e)
  fines_parts [] ts e h = (x.nothing e, rw (x.stay e) h)
  fines_parts (q ∷ qs) ts e h =
      let y = x.each (length (qs ++ ts)) e h in
      let z = fines_parts qs ts (past e) y.1 in
      (x.both (length qs) e y.0 z.0, rw (x.pass (length qs) e) z.1)

  -- nothing was put yet
  pub going_none : (all out : List ℕ) (start : Spot) → start.from ≤ size → fines (length all) start.from → Going many pasts fines size all start out all out start
  going_none all out start h f = record { within = h; fine = f; read = refl; at = refl; puts = refl; long = refl }

  -- all were put
  pub going_end : {all out₀ out : List ℕ} {start spot : Spot} → Going many pasts fines size all start out₀ [] out spot
      → Puts (many all start.from) (pasts (length all) start.from) out₀ start.to out spot
  going_end {spot = spot} g =
      let e : length (many [] spot.from) ≡ 0 = rw (x.none spot.from) in
      record { read = sym (x.stay spot.from) ∙ g.read; at = omega (arith, g.at, e); out = rw (x.none spot.from) at g.puts }

  -- some positions, and others behind them, are still to come
  module _ {all out₀ : List ℕ} {start : Spot} (qs todo : List ℕ) {out : List ℕ} {spot : Spot} (g : Going many pasts fines size all start out₀ (qs ++ todo) out spot) where
    pub going_room : start.to + length (many all start.from) ≤ length out₀ → spot.to + length (many qs spot.from) ≤ length out
    going_room h =
        let e = ap length (many_append qs todo spot.from) in
        omega (arith, g.at, g.long, e, length-append (many qs spot.from) (many todo (pasts (length qs) spot.from)))

    pub going_turn : {out₁ : List ℕ} {spot₁ : Spot} → Puts (many qs spot.from) (pasts (length qs) spot.from) out spot.to out₁ spot₁
        → Going many pasts fines size all start out₀ todo out₁ spot₁
    going_turn y =
        let e = many_append qs todo spot.from in
        let rest = many todo (pasts (length qs) spot.from) in
        record {
          within = rw y.read (pasts_within (length qs) spot.from g.within);
          fine = rw y.read (fines_parts qs todo spot.from g.fine).1;
          read = rw y.read (sym (pasts_append qs todo spot.from) ∙ g.read);
          at = rw y.read (omega (arith, y.at, g.at, ap length e, length-append (many qs spot.from) rest));
          puts = rw (y.read, y.at, y.out) (sym (sets_append out spot.to (many qs spot.from) rest) ∙ ap (sets out spot.to) (sym e) ∙ g.puts);
          long = puts_size y ∙ g.long;
        }

  -- a single one, and others behind it
  module _ {all out₀ : List ℕ} {start : Spot} (q : ℕ) (todo : List ℕ) {out : List ℕ} {spot : Spot} (g : Going many pasts fines size all start out₀ (q ∷ todo) out spot) where
    pub going_room_one : start.to + length (many all start.from) ≤ length out₀ → spot.to + length (one q spot.from) ≤ length out
    going_room_one h = rw (many_one q spot.from) at (going_room (q ∷ []) todo g h)

    pub going_fine_one : fine spot.from
    going_fine_one = (x.each (length todo) spot.from g.fine).0

    pub going_turn_one : {out₁ : List ℕ} {spot₁ : Spot} → Puts (one q spot.from) (past spot.from) out spot.to out₁ spot₁
        → Going many pasts fines size all start out₀ todo out₁ spot₁
    going_turn_one y = going_turn (q ∷ []) todo g (rw (← (many_one q spot.from), ← (pasts_one spot.from)) at y)

-- ---- the positions set in a block

-- some are still to come, in ascending order, and each can be counted in a code
pub record Counting (many : List ℕ → ℕ → List ℕ) (pasts : ℕ → ℕ → ℕ) (fines : ℕ → ℕ → Type 0) (size : ℕ) (all : List ℕ) (start : Spot) (out₀ : List ℕ) (todo out : List ℕ) (spot : Spot) : Type 0 where
  pub going : Going many pasts fines size all start out₀ todo out spot
  pub above : ℕ
  pub rising : Ascending above todo
  pub low : AllBelow 512 todo

module _ {size : ℕ} {one : ℕ → ℕ → List ℕ} {many : List ℕ → ℕ → List ℕ} {past : ℕ → ℕ} {pasts : ℕ → ℕ → ℕ} {fine : ℕ → Type 0} {fines : ℕ → ℕ → Type 0} (x : Stepped one many past pasts fine fines size) where
  -- none has come yet
  pub counting_all : (w m : ℕ) (l : List ℕ) (e : ℕ) → w ≤ 7 → length l ≤ 64 → (out : List ℕ) (start : Spot) → start.from ≤ size → fines (length (numbers w m 0 l e)) start.from
      → Counting many pasts fines size (numbers w m 0 l e) start out (numbers w m 0 l e) out start
  counting_all w m l e narrow short out start h f =
      let b = numbers_between w m 0 l e narrow short in
      record { going = going_none x (numbers w m 0 l e) out start h f; above = 0; rising = b.0; low = b.1 }

  module _ {all todo out₀ out : List ℕ} {start spot : Spot} (y : Counting many pasts fines size all start out₀ todo out spot) where
    -- none is left
    pub counting_end : todo ≡ [] → Puts (many all start.from) (pasts (length all) start.from) out₀ start.to out spot
    counting_end s = going_end x (rw s at y.going)

    -- one comes
    module _ {q : ℕ} {rest : List ℕ} (s : todo ≡ q ∷ rest) where
      come : Counting many pasts fines size all start out₀ (q ∷ rest) out spot
      come = rw s at y

      pub counting_low : (0 < q) × (q ≤ 511)
      unfolding Ascending AllBelow
      counting_low = (omega (arith, come.rising.0), omega (arith, come.low.0))

      pub counting_fine : fine spot.from
      counting_fine = going_fine_one x q rest come.going

      pub counting_room : start.to + length (many all start.from) ≤ length out₀ → spot.to + length (one q spot.from) ≤ length out
      counting_room h = going_room_one x q rest come.going h

      pub counting_turn : {out₁ : List ℕ} {spot₁ : Spot} → Puts (one q spot.from) (past spot.from) out spot.to out₁ spot₁ → Counting many pasts fines size all start out₀ rest out₁ spot₁
      unfolding Ascending AllBelow
      counting_turn z = record { going = going_turn_one x q rest come.going z; above = q; rising = come.rising.1; low = come.low.1 }

-- ---- the pieces

-- an NPar(3) block, kept or passed over
module _ (k : Keep) (c : ℕ) (p : Option ℕ) (t : ℕ) (l : List ℕ) (e : ℕ) where
  pub sub_kept_lem : {ps : Option ℕ} → ps ≡ npar_places k (c + t * 512) → kept_place p t ≡ true → sub_kept k c p t l e ≡ block_kept 6 64 ps l e
  unfolding sub_kept
  sub_kept_lem n h = rw (n, h)

  pub sub_passed : kept_place p t ≡ false → sub_kept k c p t l e ≡ []
  unfolding sub_kept
  sub_passed h = rw h

-- a Par(2) block, kept or passed over
module _ (k : Keep) (b : ℕ) (p : Option ℕ) (q : ℕ) (l : List ℕ) (e : ℕ) where
  pub par_kept_lem : kept_place p q ≡ true → par_kept k b p q l e ≡ whole_par k (b + q * of_s) l e
  unfolding par_kept
  par_kept_lem h = rw h

  pub par_passed : kept_place p q ≡ false → par_kept k b p q l e ≡ []
  unfolding par_kept
  par_passed h = rw h

-- behind NPar(2): nothing where it ends the block; nothing where nothing of SPar(2) is kept; else SPar(2) and its blocks
module _ (k : Keep) (c : ℕ) (l : List ℕ) (e : ℕ) where
  pub group_ended : ended l e ≡ true → (group_kept k c l e ≡ []) × (group_behind l e ≡ e)
  unfolding group_kept group_behind
  group_ended h = (rw h, rw h)

  module _ {p : Option ℕ} (s : p ≡ spar_places k c) (h : ended l e ≡ false) where
    pub group_empty : is_empty (sieved 6 64 p l e) ≡ true → group_kept k c l e ≡ []
    unfolding group_kept lower_kept
    group_empty n = rw (h, ← s, n)

    module _ (n : is_empty (sieved 6 64 p l e) ≡ false) where
      abbrev subs : ℕ → List ℕ
      subs f = subs_kept k c p (numbers 6 64 0 l e) l f

      group_some : group_kept k c l e ≡ block_kept 6 64 p l e ++ subs (behind 64 l e)
      unfolding group_kept lower_kept
      group_some = rw (h, ← s, n)

      module _ (out₀ : List ℕ) (to : ℕ) (room : to + length (group_kept k c l e) ≤ length out₀) where
        pub group_room : to + length (block_kept 6 64 p l e) ≤ length out₀
        group_room = room_first (block_kept 6 64 p l e) (subs (behind 64 l e)) to (length out₀) (rw group_some at room)

        module _ {out₁ : List ℕ} {r : Spot} (x : Puts (block_kept 6 64 p l e) (behind 64 l e) out₀ to out₁ r) where
          pub group_room_behind : r.to + length (subs r.from) ≤ length out₁
          group_room_behind = room_behind x subs (rw group_some at room)

          pub group_puts : {out₂ : List ℕ} {v : Spot} → Puts (subs r.from) (subs_behind (length (numbers 6 64 0 l e)) l r.from) out₁ r.to out₂ v
              → Puts (group_kept k c l e) (group_behind l e) out₀ to out₂ v
          unfolding group_behind
          group_puts y = rw (group_some, h) (puts_behind x subs (λ f. subs_behind (length (numbers 6 64 0 l e)) l f) y)

-- a Par(2) block: NPar(2) and what is behind it, with bit 8 in the last octet
module _ (k : Keep) (c : ℕ) (l : List ℕ) (e : ℕ) {p : Option ℕ} (n : p ≡ npar_places k c) where
  whole_is : whole_par k c l e ≡ marked (block_kept 6 64 p l e ++ group_kept k c l (behind 64 l e))
  unfolding whole_par
  whole_is = rw n

  whole_length : length (whole_par k c l e) ≡ length (block_kept 6 64 p l e ++ group_kept k c l (behind 64 l e))
  whole_length = ap length whole_is ∙ marked-length (block_kept 6 64 p l e ++ group_kept k c l (behind 64 l e))

  module _ (out₀ : List ℕ) (to : ℕ) (room : to + length (whole_par k c l e) ≤ length out₀) where
    within : to + length (block_kept 6 64 p l e ++ group_kept k c l (behind 64 l e)) ≤ length out₀
    within = omega (arith, whole_length)

    pub whole_room : to + length (block_kept 6 64 p l e) ≤ length out₀
    whole_room = room_first (block_kept 6 64 p l e) (group_kept k c l (behind 64 l e)) to (length out₀) within

    module _ {out₁ : List ℕ} {r : Spot} (x : Puts (block_kept 6 64 p l e) (behind 64 l e) out₀ to out₁ r) where
      pub whole_room_behind : r.to + length (group_kept k c l r.from) ≤ length out₁
      whole_room_behind = room_behind x (group_kept k c l) within

      module _ {out₂ : List ℕ} {v : Spot} (y : Puts (group_kept k c l r.from) (group_behind l r.from) out₁ r.to out₂ v) where
        whole_put : Puts (block_kept 6 64 p l e ++ group_kept k c l (behind 64 l e)) (group_behind l (behind 64 l e)) out₀ to out₂ v
        whole_put = puts_behind x (group_kept k c l) (group_behind l) y

        -- which has an octet at least
        whole_some : 0 < length (block_kept 6 64 p l e ++ group_kept k c l (behind 64 l e))
        whole_some = omega (arith, length-append (block_kept 6 64 p l e) (group_kept k c l (behind 64 l e)), block_some 6 64 (sieved 6 64 p l e))

        -- and so a last one, within the output
        pub whole_last : (0 < v.to) × (v.to ≤ length out₂)
        whole_last = omega (arith, whole_put.at, whole_some, puts_size whole_put, within)

        pub whole_puts : Puts (whole_par k c l e) (group_behind l (behind 64 l e)) out₀ to (set out₂ (v.to - 1) (get_or out₂ (v.to - 1) 0 % 128 + 128)) v
        whole_puts = rw whole_is (puts_marked whole_put whole_some within)

-- a field: NPar(1), SPar(1) and its blocks
module _ (k : Keep) (b : ℕ) (l : List ℕ) (at : ℕ) {n : Option ℕ} (np : n ≡ npar_places k b) (out₀ : List ℕ) (to : ℕ) (room : to + length (field_kept k b l at) ≤ length out₀) where
  field_is : {p : Option ℕ} → p ≡ spar_places k b → field_kept k b l at ≡ block_kept 7 128 n l at ++ rest_kept k b p l (behind 128 l at)
  unfolding field_kept
  field_is sp = rw (np, sp)

  pub field_room_one : to + length (block_kept 7 128 n l at) ≤ length out₀
  field_room_one = room_first (block_kept 7 128 n l at) (rest_kept k b (spar_places k b) l (behind 128 l at)) to (length out₀) (rw (field_is refl) at room)

  module _ {out₁ : List ℕ} {r : Spot} (x : Puts (block_kept 7 128 n l at) (behind 128 l at) out₀ to out₁ r) {p : Option ℕ} (sp : p ≡ spar_places k b) where
    abbrev pars : ℕ → List ℕ
    pars f = pars_kept k b p (numbers 7 128 0 l r.from) l f

    room_rest : r.to + length (block_kept 7 128 p l r.from ++ pars (behind 128 l r.from)) ≤ length out₁
    unfolding rest_kept
    room_rest = room_behind x (rest_kept k b p l) (rw (field_is sp) at room)

    pub field_room_two : r.to + length (block_kept 7 128 p l r.from) ≤ length out₁
    field_room_two = room_first (block_kept 7 128 p l r.from) (pars (behind 128 l r.from)) r.to (length out₁) room_rest

    module _ {out₂ : List ℕ} {v : Spot} (y : Puts (block_kept 7 128 p l r.from) (behind 128 l r.from) out₁ r.to out₂ v) where
      pub field_room_three : v.to + length (pars v.from) ≤ length out₂
      field_room_three = room_behind y pars room_rest

      pub field_puts : {out₃ : List ℕ} {u : Spot} → Puts (pars v.from) (pars_behind (length (numbers 7 128 0 l r.from)) l v.from) out₂ v.to out₃ u
          → Puts (field_kept k b l at) (field_behind l at) out₀ to out₃ u
      unfolding rest_kept field_behind rest_behind
      field_puts z = rw (field_is sp) (puts_behind x (rest_kept k b p l) (rest_behind l) (puts_behind y pars (λ f. pars_behind (length (numbers 7 128 0 l r.from)) l f) z))
