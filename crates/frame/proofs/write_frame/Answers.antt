-- `frame::write_frame` meets its contract: each refusal is the first whose test holds, and behind all tests the frame is written.
-- Assumes nothing.
use Prim.Native.Nat.{ℕ, ◌≤◌}
use mathlib.Core.Path.{◌≡◌, refl, sym, ap, ◌∙◌}
use mathlib.Core.Bool.{Bool, true, false}
use mathlib.Core.List.{List}
use borrow.Author.Tests.{lt-ltb, le-ltb, leb-true, leb-false}
use lib.Dec.{ltb, leb}
use lib.ListN.{length}
use Rattle.std.specs.Prelude.{Result}
use Rattle.octets.specs.Places.{both}
use Rattle.frame.specs.Frame.{frame}
use Rattle.frame.specs.Limits.{frame_room}
use Rattle.frame.specs.Writer.{Writing, refused, sent, refused_if, write_frame, write_reply, write_leaves, Writes}
use Rattle.frame.specs.declared.FrameWriteRefusal.{FrameWriteRefusal}
use Rattle.frame.proofs.Ranges.{contained, between}
use Rattle.frame.proofs.write_frame.Goals as goal

-- two tests of one refusal: what a range does not contain is refused, and what it contains passes
outside : (lo hi x k : ℕ) (w : Writing) → both (leb lo x) (leb x hi) ≡ false → refused_if (ltb x lo) k (refused_if (ltb hi x) k w) ≡ refused k
outside lo hi x k w e = go (leb lo x) refl e
  where
    go : (t : Bool) → leb lo x ≡ t → both t (leb x hi) ≡ false → refused_if (ltb x lo) k (refused_if (ltb hi x) k w) ≡ refused k
    go false f e = rw (lt-ltb x lo (leb-false lo x f))
    go true f e = rw (le-ltb x lo (leb-true lo x f), lt-ltb hi x (leb-false x hi e))

inside : (lo hi x k : ℕ) (w : Writing) → both (leb lo x) (leb x hi) ≡ true → refused_if (ltb x lo) k (refused_if (ltb hi x) k w) ≡ w
inside lo hi x k w e = let b = between lo hi x e in rw (le-ltb x lo b.0, le-ltb hi x b.1)

-- equal writings have one answer
writes_as : {x y : Writing} {out₀ out₁ : List ℕ} {r : Result ℕ FrameWriteRefusal} → x ≡ y → Writes y out₀ r out₁ → Writes x out₀ r out₁
writes_as {out₀ = out₀} e a = record { reply = a.reply ∙ sym (ap write_reply e); output = a.output ∙ sym (ap (λ (z : Writing). write_leaves z out₀) e) }

module _ (info : List ℕ) (opening closing room : ℕ) (enough : frame_room ≤ room) where
  -- behind each test
  first : Writing
  first = refused_if (ltb closing 1) 8 (refused_if (ltb 3 closing) 8 (sent (frame info opening closing)))

  second : Writing
  second = refused_if (ltb opening 2) 8 (refused_if (ltb 5 opening) 8 first)

  roomy : write_frame info opening closing room ≡ refused_if (ltb (length info) 1) 7 (refused_if (ltb 64 (length info)) 7 second)
  unfolding write_frame first second
  roomy = rw (le-ltb room frame_room enough)

pub returns-then-out-lt-FRAME_ROOM : goal.returns-then-out-lt-FRAME_ROOM
unfolding write_frame
returns-then-out-lt-FRAME_ROOM c = rw (lt-ltb _ _ c.if-out-lt-FRAME_ROOM.true) (record { reply = refl; output = refl })

pub returns-then-not-contains : goal.returns-then-not-contains
unfolding first second
returns-then-not-contains c =
    let a = c.args in
    let r = c.new.ensures in
    let e = contained c.new.result _ r.start r.end r.exhausted c.contains.ensures.value in
    writes_as (roomy a.info.now a.opening a.closing (length a.out.now) c.if-out-lt-FRAME_ROOM.false ∙ outside 1 64 (length a.info.now) 7 _ (sym e ∙ c.if-not-contains.true))
    (record { reply = refl; output = refl })

pub returns-then-not-contains-2 : goal.returns-then-not-contains-2
unfolding first second
returns-then-not-contains-2 c =
    let a = c.args in
    let r = c.new.ensures in
    let s = c.new-2.ensures in
    let e = contained c.new.result _ r.start r.end r.exhausted c.contains.ensures.value in
    let f = contained c.new-2.result _ s.start s.end s.exhausted c.contains-2.ensures.value in
    writes_as (roomy a.info.now a.opening a.closing (length a.out.now) c.if-out-lt-FRAME_ROOM.false ∙ inside 1 64 (length a.info.now) 7 _ (sym e ∙ c.if-not-contains.false)
    ∙ outside 2 5 a.opening 8 _ (sym f ∙ c.if-not-contains-2.true))
    (record { reply = refl; output = refl })

pub returns-then-not-contains-3 : goal.returns-then-not-contains-3
unfolding first second
returns-then-not-contains-3 c =
    let a = c.args in
    let r = c.new.ensures in
    let s = c.new-2.ensures in
    let t = c.new-3.ensures in
    let e = contained c.new.result _ r.start r.end r.exhausted c.contains.ensures.value in
    let f = contained c.new-2.result _ s.start s.end s.exhausted c.contains-2.ensures.value in
    let g = contained c.new-3.result _ t.start t.end t.exhausted c.contains-3.ensures.value in
    writes_as (roomy a.info.now a.opening a.closing (length a.out.now) c.if-out-lt-FRAME_ROOM.false ∙ inside 1 64 (length a.info.now) 7 _ (sym e ∙ c.if-not-contains.false)
    ∙ inside 2 5 a.opening 8 _ (sym f ∙ c.if-not-contains-2.false) ∙ outside 1 3 a.closing 8 _ (sym g ∙ c.if-not-contains-3.true))
    (record { reply = refl; output = refl })

pub put_frame-requires : goal.put_frame-requires
put_frame-requires c =
    let a = c.args in
    let r = c.new.ensures in
    let s = c.new-2.ensures in
    let t = c.new-3.ensures in
    let e = contained c.new.result _ r.start r.end r.exhausted c.contains.ensures.value in
    let f = contained c.new-2.result _ s.start s.end s.exhausted c.contains-2.ensures.value in
    let g = contained c.new-3.result _ t.start t.end t.exhausted c.contains-3.ensures.value in
    ((between 1 64 (length a.info.now) (sym e ∙ c.if-not-contains.false)).1, (between 2 5 a.opening (sym f ∙ c.if-not-contains-2.false)).1, (between 1 3 a.closing (sym g ∙ c.if-not-contains-3.false)).1, c.if-out-lt-FRAME_ROOM.false)

pub returns : goal.returns
unfolding first second
returns c =
    let a = c.args in
    let r = c.new.ensures in
    let s = c.new-2.ensures in
    let t = c.new-3.ensures in
    let e = contained c.new.result _ r.start r.end r.exhausted c.contains.ensures.value in
    let f = contained c.new-2.result _ s.start s.end s.exhausted c.contains-2.ensures.value in
    let g = contained c.new-3.result _ t.start t.end t.exhausted c.contains-3.ensures.value in
    let p = c.put_frame.ensures in
    writes_as (roomy a.info.now a.opening a.closing (length a.out.now) c.if-out-lt-FRAME_ROOM.false ∙ inside 1 64 (length a.info.now) 7 _ (sym e ∙ c.if-not-contains.false)
    ∙ inside 2 5 a.opening 8 _ (sym f ∙ c.if-not-contains-2.false) ∙ inside 1 3 a.closing 8 _ (sym g ∙ c.if-not-contains-3.false))
    (record { reply = ap (λ (n : ℕ). record { no = 0; count = n }) p.0; output = p.1 })
