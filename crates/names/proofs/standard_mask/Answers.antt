-- `names::standard_mask` meets its contract: of all printed blocks but six it is computed that their standard positions are the named ones but position 6.
-- Assumes nothing.
use mathlib.Core.Bool.{not, false}
use mathlib.Core.Path.{refl}
use borrow.Author.Rules.{rules}
use borrow.Author.Tests.{ne_eqb}
use lib.Dec.{eqb}
use Rattle.octets.specs.Places.{pick}
use Rattle.tree.specs.Codes.{code_of}
use Rattle.names.specs.Masks.{mask_of}
use Rattle.names.proofs.Blocks.{every}
use Rattle.names.proofs.Printings.{mask_standard}
use Rattle.names.proofs.standard_mask.Goals as goal

pub returns-in_default : goal.returns-in_default
unfolding every mask_of
returns-in_default c =
    let x = c.args.under in
    mask_standard
    (λ x. pick (eqb x (code_of 1 0 0 0)) false (pick (eqb x (code_of 2 0 0 0)) false (pick (eqb x (code_of 2 5 0 0)) false (pick (eqb x (code_of 2 3 1 0)) false (pick (eqb x (code_of 2 8 1 0)) false (not (eqb x (code_of 2 9 0 0))))))))
    1073741791 x refl
    (rw (
      ne_eqb x (code_of 1 0 0 0) (search rules),
      ne_eqb x (code_of 2 0 0 0) (search rules),
      ne_eqb x (code_of 2 5 0 0) (search rules),
      ne_eqb x (code_of 2 3 1 0) (search rules),
      ne_eqb x (code_of 2 8 1 0) (search rules),
      ne_eqb x (code_of 2 9 0 0) (search rules),
    ))
