-- `frame::Quill::put_content` meets its contract: the content is the information's bits and those of the FCS's two octets (`content_octets`), put one
-- after the other (`Marked`). Assumes nothing.
use Prim.Native.Nat.{ℕ, ◌/◌, ◌%◌, ◌<◌}
use mathlib.Core.Path.{◌≡◌}
use mathlib.Core.List.{List, [], ◌∷◌}
use native.Mathlib.Omega.{arith}
use lib.ListN.{length}
use Rattle.octets.specs.Bits.{bits, number}
use Rattle.fcs.specs.Division.{fcs}
use Rattle.frame.specs.Stuffing.{stuffed}
use Rattle.frame.specs.Frame.{content}
use Rattle.frame.specs.Quill.{Room, Marks}
use Rattle.frame.specs.declared.Quill.{Quill}
use Rattle.frame.proofs.Zeros.{Splits, content_octets, splits_end}
use Rattle.frame.proofs.Marking.{left_none, Marked, marked_none, marked_front, marked_turn, marked_end}
use Rattle.frame.proofs.Quill.put_content.Goals as goal

module _ (info : List ℕ) (f : ℕ) (check : List ℕ) (quill : Quill) (low : f < 65536) (hf : f ≡ number (fcs (bits info))) (ec : check ≡ f % 256 ∷ f / 256 % 256 ∷ [])
    (h : Room quill (length (stuffed 4 (content info)))) where
  parts : Splits (content info) (bits info) (bits check)
  parts =
      let e : f / 256 % 256 ≡ f / 256 = omega arith in
      rw (ec, e) (content_octets info f hf)

  -- all of the content is left to put, and then the FCS
  all : Marked (content info) (content info) 0 quill 0 quill
  all = marked_none (content info) 0 quill (omega arith, rw left_none h)

  last : {last₁ : ℕ} {quill₁ : Quill} → Marks (bits info) 0 quill last₁ quill₁ → Marked (content info) (bits check) 0 quill last₁ quill₁
  last x = marked_turn parts all x

pub put_octets-last-requires : goal.put_octets-last-requires
put_octets-last-requires c =
    let a = c.args in
    let k = c.to_le_bytes-octets in
    marked_front (parts a.info.now a.check k.result a.self.now c.ranges.check.fits c.requires.0 k.ensures c.requires.1) (all a.info.now a.check k.result a.self.now c.ranges.check.fits c.requires.0 k.ensures c.requires.1)

pub put_octets-requires : goal.put_octets-requires
put_octets-requires c =
    let a = c.args in
    let k = c.to_le_bytes-octets in
    marked_front (splits_end (bits k.result)) (last a.info.now a.check k.result a.self.now c.ranges.check.fits c.requires.0 k.ensures c.requires.1 c.put_octets-last.ensures)

pub returns : goal.returns
returns c =
    let a = c.args in
    let k = c.to_le_bytes-octets in
    let x = last a.info.now a.check k.result a.self.now c.ranges.check.fits c.requires.0 k.ensures c.requires.1 c.put_octets-last.ensures in
    rw left_none at (marked_end (marked_turn (splits_end (bits k.result)) x c.put_octets.ensures)).puts
