-- `fill::Octets::fill_field` meets its contract: NPar(1), and then what SPar(1) announces.
-- Assumes nothing.
use Prim.Native.Nat.{ℕ, ◌+◌, ◌≤◌}
use mathlib.Core.Path.{◌≡◌, refl, ap}
use mathlib.Core.List.{List, ◌++◌}
use native.Mathlib.Omega.{arith}
use lib.ListN.{length, length-append}
use Rattle.tree.specs.Block.{numbers, behind}
use Rattle.tree.specs.Codes.{par_codes, rest_codes, field_codes}
use Rattle.tree.proofs.Few.{codes_few}
use Rattle.fill.specs.Storing.{most_of_field, most_codes}
use Rattle.fill.proofs.Stored.{fills_then}
use Rattle.fill.proofs.Octets.fill_field.Goals as goal

-- its codes are those of both, of which there are few
parts : (b : ℕ) (s : List ℕ) (at : ℕ) → let e = behind 128 s at in field_codes b s at ≡ numbers 7 128 b s at ++ par_codes b (numbers 7 128 0 s e) s (behind 128 s e)
unfolding field_codes rest_codes
parts b s at = refl

sizes : (b : ℕ) (s : List ℕ) (at n : ℕ) → length s ≤ 64 → n ≤ most_of_field
    → let e = behind 128 s at in n + length (numbers 7 128 b s at) + length (par_codes b (numbers 7 128 0 s e) s (behind 128 s e)) ≤ most_codes
sizes b s at n few h =
    let e = behind 128 s at in
    omega (arith, ap length (parts b s at), codes_few b s at, length-append (numbers 7 128 b s at) (par_codes b (numbers 7 128 0 s e) s (behind 128 s e)))

pub fill_block-first-requires : goal.fill_block-first-requires
fill_block-first-requires g c =
    let a = c.args in
    (omega (arith, c.requires.0), omega (arith, sizes a.base a.self.run.now a.at a.n c.args.self.few c.requires.1))

pub fill_pars-requires : goal.fill_pars-requires
fill_pars-requires g c =
    let a = c.args in
    let f = c.fill_block-first.ensures in (
      c.requires.0,
      rw (c.top_behind.ensures, f.at) (omega (arith, f.count, sizes a.base a.self.run.now a.at a.n c.args.self.few c.requires.1)),
    )

pub returns : goal.returns
returns g c =
    let a = c.args in
    let first = c.fill_block-first.ensures in
    let both = fills_then first (rw (c.top_behind.ensures, first.at) at c.fill_pars.ensures) in
    let p = parts a.base a.self.run.now a.at in
    (rw p both.count, rw p both.list)
