-- `frame::put_frame` meets its contract: flags, content and flags are put one after the other from the start of the output (`frame_adds`), and a
-- frame has at most 697 bits (`frame-length`), for which there is room. Assumes nothing.
use Prim.Native.Nat.{ℕ, ◌+◌, ◌*◌, ◌<◌, ◌≤◌}
use mathlib.Core.Path.{◌≡◌, sym, ap, ◌∙◌}
use mathlib.Core.List.{List, ◌++◌}
use native.Mathlib.Omega.{arith}
use lib.ListN.{length, take, drop, replicate}
use lib.Seq.{length-take-le}
use Rattle.frame.specs.Limits.{most_bits, most_information, most_opening, most_closing, frame_room}
use Rattle.frame.specs.Stuffing.{stuffed}
use Rattle.frame.specs.Frame.{flags, content, frame}
use Rattle.frame.specs.Pen.{Ready, Adds}
use Rattle.frame.specs.Quill.{pen_of, Room, Puts}
use Rattle.frame.specs.declared.Quill.{Quill}
use borrow.Author.Rules.{rules}
use Rattle.frame.proofs.Pens.{start, ready_start, ready_then, ready_less, holds_all}
use Rattle.frame.proofs.Flags.{length_flags}
use Rattle.frame.proofs.Zeros.{length_frame, frame-length, flags_filled, frame_adds}
use Rattle.frame.proofs.Quills.{room_then}
use Rattle.frame.proofs.put_frame.Goals as goal

-- the content's bits with their zeros
abbrev size : List ℕ → ℕ
size info = length (stuffed 4 (content info))

module _ (info : List ℕ) (opening closing : ℕ) (out first : List ℕ) (h : (length info ≤ most_information) × (opening ≤ most_opening) × (closing ≤ most_closing) × (frame_room ≤ length out))
    (f : first ≡ replicate (length (take opening out)) 126) where
  -- all parts together fit
  fits : opening * 8 + (size info + closing * 8) < most_bits
  fits = omega (arith, length_frame info opening closing, frame-length info opening closing h.0 h.1 h.2)

  -- the opening flags are put
  opened : Adds (flags opening) out start (first ++ drop opening out) (record { at = opening * 8 + 0; octet = 0 })
  opened =
      let n : length (take opening out) ≡ opening = length-take-le opening out (omega (arith, h.1, h.3)) in
      flags_filled opening out first (omega (arith, h.1, h.3)) (f ∙ ap (λ (k : ℕ). replicate k 126) n)

  -- the room behind each part
  room : Ready (first ++ drop opening out) (record { at = opening * 8 + 0; octet = 0 }) (size info + closing * 8)
  room = ready_then most_bits _ (ready_start out h.3) opened (omega (arith, fits, length_flags opening))

  module _ (quill₁ quill₂ : Quill) (y : Adds (stuffed 4 (content info)) (first ++ drop opening out) (record { at = opening * 8 + 0; octet = 0 }) quill₁.out.now (pen_of quill₁)) where
    filled : Room quill₁ (closing * 8)
    filled = ready_then _ _ room y (omega arith)

    module _ (z : Puts (flags closing) quill₁ quill₂) where
      closed : Room quill₂ 0
      closed = room_then _ _ filled z (omega (arith, length_flags closing))

      -- the whole frame was put
      whole : Adds (frame info opening closing) out start quill₂.out.now (pen_of quill₂)
      whole = frame_adds info opening closing opened y z.adds

pub put_content-requires : goal.put_content-requires
put_content-requires c =
    let a = c.args in
    (c.fcs_of-check.ensures, ready_less _ (size a.info.now) (room a.info.now a.opening a.closing a.out.now c.fill.new.self c.requires (c.fill.ensures.after (λ y e. e))) (omega arith))

pub put_flags-requires : goal.put_flags-requires
put_flags-requires c =
    let a = c.args in
    let p = c.put_content in
    (omega (arith, c.requires.2), filled a.info.now a.opening a.closing a.out.now c.fill.new.self c.requires (c.fill.ensures.after (λ y e. e)) p.new.self p.new.self p.ensures.adds)

pub overflow_mul-size : goal.overflow_mul-size
overflow_mul-size c =
    let a = c.args in
    let p = c.put_content in
    omega (arith, (closed a.info.now a.opening a.closing a.out.now c.fill.new.self c.requires (c.fill.ensures.after (λ y e. e)) p.new.self c.put_flags.new.self p.ensures.adds c.put_flags.ensures).few)

pub overflow_add-size : goal.overflow_add-size
overflow_add-size c =
    let a = c.args in
    let p = c.put_content in
    omega (arith, (closed a.info.now a.opening a.closing a.out.now c.fill.new.self c.requires (c.fill.ensures.after (λ y e. e)) p.new.self c.put_flags.new.self p.ensures.adds c.put_flags.ensures).few)

pub put_last-requires : goal.put_last-requires
put_last-requires c =
    let a = c.args in
    let p = c.put_content in
    closed a.info.now a.opening a.closing a.out.now c.fill.new.self c.requires (c.fill.ensures.after (λ y e. e)) p.new.self c.put_flags.new.self p.ensures.adds c.put_flags.ensures

pub returns : goal.returns
returns c =
    let a = c.args in
    let p = c.put_content in
    let w = whole a.info.now a.opening a.closing a.out.now c.fill.new.self c.requires (c.fill.ensures.after (λ y e. e)) p.new.self c.put_flags.new.self p.ensures.adds c.put_flags.ensures in
    let h = holds_all w in
    let out = c.put_last.ensures.whole a.out.now (frame a.info.now a.opening a.closing) (sym w.size) h in
    (h.at, search (rules, out))
