-- `writer::Codes::ns_agrees` meets its contract: its tests are those of `ns_agrees`.
-- Assumes nothing.
use mathlib.Core.Path.{◌≡◌, sym, ap, ◌∙◌}
use mathlib.Core.Bool.{not}
use Rattle.tree.proofs.Forms.{form_told}
use Rattle.tree.specs.Fields.{is_in}
use Rattle.meaning.specs.Writing.{ns_agrees}
use Rattle.writer.proofs.Parents.{empty_none, empty_some, searched_in}
use Rattle.writer.proofs.Codes.ns_agrees.Goals as goal

pub returns-then-ns-eq0 : goal.returns-then-ns-eq0
unfolding ns_agrees
returns-then-ns-eq0 c =
    let announced : c.is_ok-announced.result ≡ is_in 134217735 c.args.self.list.now = c.is_ok-announced.ensures.value ∙ searched_in _ _ _ c.args.self.up c.binary_search.ensures.position in
    rw (empty_none c.args.ns.now c.if-ns-eq0.true) (ap not announced)

pub returns-then-is_fine : goal.returns-then-is_fine
unfolding ns_agrees
returns-then-is_fine c =
    let announced : c.is_ok-announced.result ≡ is_in 134217735 c.args.self.list.now = c.is_ok-announced.ensures.value ∙ searched_in _ _ _ c.args.self.up c.binary_search.ensures.position in
    let fine = rw (c.ns_form.ensures, form_told _ (tt {0})) at (sym c.is_fine.ensures ∙ c.if-is_fine.true) in
    rw (empty_some c.args.ns.now c.if-ns-eq0.false, fine) announced

pub returns : goal.returns
unfolding ns_agrees
returns c = let fine = rw (c.ns_form.ensures, form_told _ (tt {0})) at (sym c.is_fine.ensures ∙ c.if-is_fine.false) in
    rw (empty_some c.args.ns.now c.if-ns-eq0.false, fine)
