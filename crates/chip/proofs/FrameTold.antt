-- What an operation on frames tells fits the 32 bits in which the firmware gets it.
-- Assumes nothing.
use Prim.Native.Nat.{ℕ, ◌≤◌}
use mathlib.Core.Path.{◌≡◌, refl, ap}
use mathlib.Core.Bool.{Bool, true, false}
use mathlib.Core.List.{List}
use native.Mathlib.Omega.{arith}
use borrow.Author.Tests.{ltb-false}
use lib.Dec.{ltb}
use lib.ListN.{length}
use Rattle.frame.specs.Limits.{most_information, most_bits, frame_room, fewest_opening, most_opening, fewest_closing, most_closing}
use Rattle.frame.specs.Reader.{Reading, refused, information, read_frame, Reply, read_told, read_reply, Reads}
use Rattle.frame.specs.Writer.{Writing, refused_if, write_frame, write_told, write_reply, Writes}
use Rattle.std.specs.Prelude.{Result}
use Rattle.frame.specs.declared.FrameReadRefusal.{FrameReadRefusal}
use Rattle.frame.specs.declared.FrameWriteRefusal.{FrameWriteRefusal}
use Rattle.exact.proofs.Exact.{accepted_is_frame}
use Rattle.frame.proofs.Zeros.{frame-length}

-- ---- the reader

-- at most 64 octets
pub octets_few : (run : List ℕ) (count : ℕ) {out₀ : List ℕ} {r : Result ℕ FrameReadRefusal} {out₁ : List ℕ} → Reads (read_frame run count (length out₀)) out₀ r out₁ → (read_told r).count ≤ most_information
octets_few run count {out₀} {r} t = go (read_frame run count (length out₀)) refl t.reply
  where
    go : (x : Reading) → read_frame run count (length out₀) ≡ x → read_told r ≡ read_reply x → (read_told r).count ≤ most_information
    go (refused k) q h = omega (arith, ap (λ (p : Reply). p.count) h)
    go (information os) q h = omega (arith, ap (λ (p : Reply). p.count) h, (accepted_is_frame run count (length out₀) os q).few)

-- ---- the writer

-- a test that refuses sends nothing
few_if : (t : Bool) (k : ℕ) (x : Writing) → (t ≡ false → (write_reply x).count ≤ most_bits) → (write_reply (refused_if t k x)).count ≤ most_bits
few_if true k x h = omega arith
few_if false k x h = h refl

-- no more bits are sent than a run may have
sent_few : (info : List ℕ) (opening closing room : ℕ) → (write_reply (write_frame info opening closing room)).count ≤ most_bits
unfolding write_frame
sent_few info opening closing room =
    few_if (ltb room frame_room) 1 _ (λ a.
    few_if (ltb (length info) 1) 7 _ (λ b.
    few_if (ltb most_information (length info)) 7 _ (λ l.
    few_if (ltb opening fewest_opening) 8 _ (λ c.
    few_if (ltb most_opening opening) 8 _ (λ o.
    few_if (ltb closing fewest_closing) 8 _ (λ d.
    few_if (ltb most_closing closing) 8 _ (λ m.
    omega (arith, frame-length info opening closing (ltb-false most_information (length info) l) (ltb-false most_opening opening o) (ltb-false most_closing closing m)))))))))

-- at most 704 bits
pub bits_few : (info : List ℕ) (opening closing : ℕ) {out₀ : List ℕ} {r : Result ℕ FrameWriteRefusal} {out₁ : List ℕ}
    → Writes (write_frame info opening closing (length out₀)) out₀ r out₁ → (write_told r).count ≤ most_bits
bits_few info opening closing {out₀} t = omega (arith, ap (λ (p : Reply). p.count) t.reply, sent_few info opening closing (length out₀))
