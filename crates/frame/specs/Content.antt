-- Inner: a content as the reader takes it, eight bits of a run at a time: what is kept of it, what the last bits tell of the next, and what is found.
-- Assumes nothing.
use Rattle.std.specs.Prelude.{ℕ, ◌+◌, ◌-◌, ◌*◌, ◌/◌, ◌%◌, ◌^◌, ◌<◌, ◌≤◌, Bool, true, not, Option, Some, None, List, ◌++◌, ◌≡◌, eqb, length, drop}
use Rattle.std.specs.Int.Count.{count_leading_zeros}
use Rattle.octets.specs.Bits.{number, odd}
use Rattle.octets.specs.Places.{pick, last_place}
use Rattle.frame.specs.Stuffing.{Cutting, uncut, cut_into}
use Rattle.frame.specs.Pen.{low_bits}
use Rattle.frame.specs.Inner.{Stands, takens, NoSix, closes}
use Rattle.frame.specs.declared.Kept.{Kept}
use Rattle.std.specs.declared.ops.ControlFlow.{ControlFlow}
use Rattle.std.specs.declared.ops.ControlFlow.TheVariants.{Continue, Break}
use Rattle.frame.specs.declared.Sixth.{Sixth}
use Rattle.frame.specs.declared.Found.{Found}

-- the bits bs were kept: the whole octets of them stand in plain, the others are at hand
pub record Keeps (bs : List Bool) (plain : List ℕ) (kept : Kept) : Type 0 where
  pub size : kept.size ≡ length bs
  pub whole : Stands (length bs / 8 * 8) bs plain
  pub rest : kept.rest ≡ number (drop (length bs / 8 * 8) bs)

-- width bits more can be counted
abbrev pub Able : Kept → ℕ → Type 0
Able kept width = kept.size + width ≤ last_place

-- the bits bs are kept behind whatever was kept before
pub record Gains (bs : List Bool) (plain₀ : List ℕ) (kept₀ : Kept) (plain₁ : List ℕ) (kept₁ : Kept) : Type 0 where
  pub size : kept₁.size ≡ kept₀.size + length bs
  pub room : length plain₁ ≡ length plain₀
  pub keeps : (done : List Bool) → Keeps done plain₀ kept₀ → Keeps (done ++ bs) plain₁ kept₁

-- ---- what eleven bits tell, the last of which is the highest

-- how many ones may still come: as many as the last five bits do not end with
abbrev pub left_told : ℕ → ℕ
left_told t = 5 - count_leading_zeros 5 (31 - t / 64)

-- whether the last zero stands in the content: it does not behind five ones
abbrev pub kept_told : ℕ → Bool
kept_told t = not (eqb (t / 2 ^ left_told t % 32) 31)

-- ---- the next bits, above eleven in a word

-- the five lowest bits of a number are ones
abbrev pub five_ones : ℕ → Bool
five_ones x = eqb (x % 32) 31

-- the n lowest bits of a number mark the bits that stand behind five ones
abbrev pub MarksFives : ℕ → ℕ → ℕ → Type 0
MarksFives n fives w = (i : ℕ) → i < n → odd (fives / 2 ^ i) ≡ five_ones (w / 64 / 2 ^ i)

-- the next n bits were taken
pub record Passes (w n : ℕ) (plain₀ : List ℕ) (kept₀ : Kept) (plain₁ : List ℕ) (kept₁ : Kept) : Type 0 where
  pub no_six : NoSix (left_told (w % 2048)) (low_bits n (w / 2048))
  pub gains : Gains (takens (left_told (w % 2048)) (low_bits n (w / 2048))) plain₀ kept₀ plain₁ kept₁

-- a sixth one follows n of them, and the zero before the six ones is one of the content or not
pub record SixAt (w n : ℕ) (real : Bool) : Type 0 where
  pub few : n < 8
  pub one : odd (w / 2 ^ n / 2048) ≡ true
  pub left : left_told (w / 2 ^ n % 2048) ≡ 0
  pub kept : real ≡ kept_told (w / 2 ^ n % 2048)

-- eight bits were taken, or those up to a sixth one
abbrev pub TakenAs : ℕ → List ℕ → Kept → List ℕ → ControlFlow Sixth Kept → Type 0
TakenAs w plain₀ kept₀ plain₁ (Continue kept) = Passes w 8 plain₀ kept₀ plain₁ kept
TakenAs w plain₀ kept₀ plain₁ (Break six) = SixAt w six.place six.real × Passes w six.place plain₀ kept₀ plain₁ six.kept

-- ---- the end

-- the sixth one in a row, at a place with the bits r behind it: the content's end is looked for
pub record Ends (r : List Bool) (at : ℕ) (plain₀ : List ℕ) (kept : Kept) (real : Bool) (plain₁ : List ℕ) (found : Option Found) : Type 0 where
  pub answer : found ≡ pick (closes real r) (Some (record { bits = kept.size - 6; next = at - 6 })) None
  pub plain : closes real r ≡ true → (bs : List Bool) → Keeps bs plain₀ kept → Stands (length bs) bs plain₁

-- the cutting x of the bits bs is a content of so many bits, which stand in plain, and what follows from a place on
pub record FindsUpto (x : Cutting) (bs : List Bool) (count : ℕ) (plain : List ℕ) (size next : ℕ) : Type 0 where
  pub content : List Bool
  pub cutting : x ≡ cut_into content (drop next bs)
  pub long : length content ≡ size
  pub stands : Stands size content plain
  pub within : next ≤ count

-- the answer r, with what plain has, is the cutting x of the bits bs
abbrev pub Finds : Cutting → List Bool → ℕ → List ℕ → Option Found → Type 0
Finds x bs count plain None = x ≡ uncut
Finds x bs count plain (Some found) = FindsUpto x bs count plain found.bits found.next
