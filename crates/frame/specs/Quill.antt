-- Inner: bits put by the frame writer, with the zeros that they need: what a quill holds, and what a step puts.
-- Assumes nothing.
use Rattle.std.specs.Prelude.{ℕ, ◌+◌, ◌*◌, ◌<◌, Bool, List, ◌≡◌}
use Rattle.frame.specs.Stuffing.{stuffed}
use Rattle.frame.specs.Pen.{Pen, low_bits, Ready, Adds, left_after}
use Rattle.frame.specs.declared.Quill.{Quill}

-- the pen that stands where a quill does
abbrev pub pen_of : Quill → Pen
pen_of quill = record { at = quill.at * 8 + quill.held; octet = quill.word }

-- there is room for so many bits more
abbrev pub Room : Quill → ℕ → Type 0
Room quill room = Ready quill.out.now (pen_of quill) room

-- the bits bs were put
pub record Puts (bs : List Bool) (quill₀ quill₁ : Quill) : Type 0 where
  pub same : quill₁.out.ghost_name ≡ quill₀.out.ghost_name
  pub adds : Adds bs quill₀.out.now (pen_of quill₀) quill₁.out.now (pen_of quill₁)

-- how many ones may still come behind the last four bits
abbrev pub left_of : ℕ → ℕ
left_of last = left_after 4 (low_bits 4 last)

-- the bits bs were put with the zeros that they need, and the last four bits change
pub record Marks (bs : List Bool) (last₀ : ℕ) (quill₀ : Quill) (last₁ : ℕ) (quill₁ : Quill) : Type 0 where
  pub puts : Puts (stuffed (left_of last₀) bs) quill₀ quill₁
  pub last : last₁ < 16
  pub left : left_of last₁ ≡ left_after (left_of last₀) bs
