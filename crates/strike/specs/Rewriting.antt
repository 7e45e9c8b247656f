-- To be believed: a field rewritten (RULES, Striking): of its codes some are kept, and these are written in minimal form.
-- Assumes nothing.
use Rattle.std.specs.Prelude.{ℕ, List, [], ◌∷◌, ◌≡◌, ltb, length, Option, Some, None}
use Rattle.octets.specs.Lay.{put}
use Rattle.octets.specs.Places.{pick}
use Rattle.tree.specs.Form.{is_fine}
use Rattle.tree.specs.Fields.{base_of, codes_in, form_in, most_octets}
use Rattle.tree.specs.declared.Field.{Field}
use Rattle.meaning.specs.Written.{written}
use Rattle.names.specs.Named.{keeps}
use Rattle.names.specs.Masks.{only}
use Rattle.names.specs.declared.Keep.{Keep}

-- the minimal form of those codes of the field at a place that are kept
unfoldable pub kept : Keep → Field → List ℕ → ℕ → List ℕ
kept k f l at = written (base_of f) (only (keeps k) (codes_in f l at))

-- of a field that is well-formed; nothing of any other, or where the output has under 64 octets
unfoldable pub rewritten : Keep → Field → List ℕ → ℕ → ℕ → List ℕ
rewritten k f l at room = pick (ltb room most_octets) [] (pick (is_fine (form_in l at)) (kept k f l at) [])

-- how many octets they are; none where there is nothing
abbrev pub counted : List ℕ → Option ℕ
counted [] = None
counted (o ∷ os) = Some (length (o ∷ os))

-- the number of octets n, or none, and the output out₁ are those of rewriting the field at a place of l into out₀
pub record Rewrites (k : Keep) (f : Field) (l : List ℕ) (at : ℕ) (out₀ : List ℕ) (n : Option ℕ) (out₁ : List ℕ) : Type 0 where
  pub count : n ≡ counted (rewritten k f l at (length out₀))
  pub output : out₁ ≡ put (rewritten k f l at (length out₀)) out₀
