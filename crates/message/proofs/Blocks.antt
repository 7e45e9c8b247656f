-- The NS blocks read one after the other: what is left to judge from a place on is what was to judge at the start.
-- Assumes nothing.
use Prim.Native.Nat.{ℕ, zero, suc, ◌+◌, ◌<◌, ◌≤◌}
use mathlib.Core.Path.{◌≡◌, refl, ◌∙◌}
use mathlib.Core.List.{List}
use native.Mathlib.Omega.{arith}
use borrow.Author.Tests.{le-leb, lt-leb, lt-ltb, le-ltb, eq-eqb, ne_eqb}
use lib.Dec.{ltb, eqb}
use lib.ListN.{length, get_or}
use Rattle.tree.specs.Form.{Fine, Early, BadLength}
use Rattle.octets.specs.Places.{pick}
use Rattle.message.specs.Nonstandard.{ns_form}

-- the blocks from place e on decide the form of those from place start on, and blocks enough may follow
pub record Decides (l : List ℕ) (start e : ℕ) : Type 0 where
  pub blocks : ℕ
  pub enough : length l ≤ e + blocks
  pub same : ns_form (length l) l start ≡ ns_form blocks l e

-- the block at the start decides
pub first : (l : List ℕ) (start : ℕ) → Decides l start start
first l start = record { blocks = length l; enough = omega arith; same = refl }

-- a block that is due behind the octets is missing
pub missing : (l : List ℕ) (start e : ℕ) → Decides l start e → length l ≤ e → ns_form (length l) l start ≡ Early (length l)
unfolding ns_form
missing l start e d h = d.same ∙ none d.blocks
  where
    none : (k : ℕ) → ns_form k l e ≡ Early (length l)
    none zero = refl
    none (suc k) = rw (le-leb (length l) e h)

-- a block at e decides by its length n, or else the next one does, and one block less may follow
pub record Block (l : List ℕ) (start e n : ℕ) : Type 0 where
  pub more : ℕ
  pub enough : length l ≤ e + suc more
  pub same :
      ns_form (length l) l start
      ≡ pick (ltb n 2) (BadLength e)
      (pick (ltb 63 n) (BadLength e)
      (pick (ltb (length l) (e + 1 + n)) (Early (length l))
      (pick (eqb (e + 1 + n) (length l)) Fine
      (ns_form more l (e + 1 + n)))))

-- the block at a place of the octets is one
pub turn : (l : List ℕ) (start e : ℕ) → Decides l start e → e < length l → Block l start e (get_or l e 0)
unfolding ns_form
turn l start e d h = go d.blocks d.enough d.same
  where
    go : (k : ℕ) → length l ≤ e + k → ns_form (length l) l start ≡ ns_form k l e → Block l start e (get_or l e 0)
    go zero f s = absurd (omega arith)
    go (suc k) f s = record { more = k; enough = f; same = s ∙ rw (lt-leb (length l) e h) }

-- a block of a good length that reaches behind the octets, that fills them, or behind which the next one is due
module _ (l : List ℕ) (start e n : ℕ) (b : Block l start e n) (few : 2 ≤ n) (many : n ≤ 63) where
  pub cut : length l < e + 1 + n → ns_form (length l) l start ≡ Early (length l)
  cut h = b.same ∙ rw (le-ltb n 2 few, le-ltb 63 n many, lt-ltb (length l) (e + 1 + n) h)

  pub full : e + 1 + n ≡ length l → ns_form (length l) l start ≡ Fine
  full h = b.same ∙ rw (le-ltb n 2 few, le-ltb 63 n many, le-ltb (length l) (e + 1 + n) (omega arith), eq-eqb (e + 1 + n) (length l) h)

  pub next : e + 1 + n ≤ length l → (e + 1 + n ≡ length l → ⊥) → Decides l start (e + 1 + n)
  next h k =
      record {
        blocks = b.more;
        enough = omega (arith, b.enough);
        same = b.same ∙ rw (le-ltb n 2 few, le-ltb 63 n many, le-ltb (length l) (e + 1 + n) h, ne_eqb (e + 1 + n) (length l) k);
      }
