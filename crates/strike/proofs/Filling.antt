-- The minimal block of what is kept, put octet by octet.
-- Assumes nothing.
use Prim.Native.Nat.{ℕ, ◌+◌, ◌*◌, ◌/◌, ◌%◌, ◌^◌, ◌≤◌, ◌<◌}
use mathlib.Core.List.{List, []}
use mathlib.Core.Path.{◌≡◌, ap, ◌∙◌}
use native.Mathlib.Omega.{arith}
use lib.Bits.{bit_and}
use lib.ListN.{length, get_or, set, drop, drop_of_length-le}
use lib.Seq.{sets}
use Rattle.octets.proofs.Laws.{drop_next}
use Rattle.std.specs.Prelude.{Option}
use Rattle.tree.specs.Levels.{width_of, mark_of}
use Rattle.tree.specs.declared.Level.{Level}
use Rattle.tree.specs.declared.Level.TheVariants.{Top, Low}
use Rattle.tree.proofs.Giving.{mark_power}
use Rattle.strike.specs.Inner.{block_kept}
use Rattle.strike.specs.declared.Sieve.{Sieve}
use Rattle.strike.proofs.Copying.{Lays, lays_none, lays_turn, lays_all}
use Rattle.strike.proofs.Extents.{framed, kept_few, kept_at, kept_last}
use Rattle.strike.proofs.Sifting.{kept_octet, kept_below, Sieves, sieve_keeps, sieve_next}

pub mark_most : (v : Level) → mark_of v ≤ 128
mark_most Top = omega arith
mark_most Low = omega arith

-- i octets of the block are put, and one at least is left; the sieve stands at octet i
pub record Filling (v : Level) (places : Option ℕ) (s : List ℕ) (e to : ℕ) (out₀ : List ℕ) (sieve : Sieve) (i : ℕ) (out : List ℕ) : Type 0 where
  pub sieves : Sieves v places (width_of v * i) sieve
  pub within : i < length (block_kept (width_of v) (mark_of v) places s e)
  pub lays : Lays (block_kept (width_of v) (mark_of v) places s e) (drop i (block_kept (width_of v) (mark_of v) places s e)) to out₀ (to + i) out

module _ {v : Level} {places : Option ℕ} {s : List ℕ} (short : length s ≤ 64) (e to : ℕ) where
  pub filling_none : (out : List ℕ) {sieve : Sieve} → Sieves v places 0 sieve → Filling v places s e to out sieve 0 out
  filling_none out h =
      let start : to + 0 ≡ to = omega arith in
      let none : width_of v * 0 ≡ 0 = omega arith in
      record { sieves = rw none h; within = (kept_few (framed v s short) places e).0; lays = rw start (lays_none (block_kept (width_of v) (mark_of v) places s e) to out) }

  module _ {out₀ out : List ℕ} {sieve : Sieve} {i : ℕ} (r : Filling v places s e to out₀ sieve i out) where
    -- what is kept of an octet is below the delimiter
    pub filling_below : (d : ℕ) → bit_and (d % mark_of sieve.level) (sieve.names % mark_of sieve.level) < mark_of v
    filling_below d = omega (arith, sieve_keeps r.sieves d, kept_below (width_of v) places (width_of v * i) d, mark_power v)

    -- an octet is put, and it is not the last; the last is put
    pub filling_more : (x : ℕ) {d : ℕ} {next : Sieve} → i + 1 < length (block_kept (width_of v) (mark_of v) places s e) → x ≡ bit_and (d % mark_of sieve.level) (sieve.names % mark_of sieve.level) → d ≡ get_or s (e + i) 0
        → (next.level ≡ sieve.level) × (next.names ≡ sieve.names / 2 ^ sieve.step) × (next.step ≡ sieve.step) → Filling v places s e to out₀ next (i + 1) (set out (to + i) x)
    filling_more x {d = d} h k g n =
        let at : to + i + 1 ≡ to + (i + 1) = omega arith in
        let on : width_of v * i + width_of v ≡ width_of v * (i + 1) = omega arith in
        let there : get_or (block_kept (width_of v) (mark_of v) places s e) i 0 ≡ x = kept_at (framed v s short) places e i x h (k ∙ sieve_keeps r.sieves d ∙ ap (kept_octet (width_of v) places (width_of v * i)) g) in
        record {
          sieves = rw on at (sieve_next r.sieves n);
          within = h;
          lays = rw at at (lays_turn x r.lays (rw there at (drop_next (block_kept (width_of v) (mark_of v) places s e) i r.within)));
        }

    pub filling_last : (x n : ℕ) {d : ℕ} → n + 1 ≡ length (block_kept (width_of v) (mark_of v) places s e) → n ≡ i → x ≡ bit_and (d % mark_of sieve.level) (sieve.names % mark_of sieve.level) → d ≡ get_or s (e + n) 0
        → set out (to + n) (x + mark_of v) ≡ sets out₀ to (block_kept (width_of v) (mark_of v) places s e)
    filling_last x n {d} h j k g =
        let end : i + 1 ≡ length (block_kept (width_of v) (mark_of v) places s e) = omega arith in
        let there : get_or (block_kept (width_of v) (mark_of v) places s e) i 0 ≡ x + mark_of v = kept_last (framed v s short) places e i x end (k ∙ sieve_keeps r.sieves d ∙ ap (kept_octet (width_of v) places (width_of v * i)) (rw j at g)) in
        let none : drop (i + 1) (block_kept (width_of v) (mark_of v) places s e) ≡ [] = drop_of_length-le (block_kept (width_of v) (mark_of v) places s e) {i = i + 1} (omega arith) in
        rw j (lays_all (lays_turn (x + mark_of v) r.lays (rw there at (drop_next (block_kept (width_of v) (mark_of v) places s e) i r.within))) none).1
