use Rattle.std.proofs.Common.{◌<◌, [], List, length, get_or, take, sym, subst, arith}
use Rattle.std.proofs.lemmas.List.{take_more}
use Rattle.html_edits.specs.Placing.{AreSplices}
use Rattle.html_edits.specs.Placing.AreSplices.{no_splices, one_more}
use Rattle.html_edits.specs.declared.edits.Edit.{Edit}
use Rattle.html_edits.specs.declared.edits.Edit.TheVariants.{Tag}
use Rattle.html_edits.specs.declared.splicing.Splice.{Splice}
use Rattle.html_edits.proofs.placing.splices_of.Goals as goal

pub loop-edit-init : goal.loop-edit-init
loop-edit-init c =
    subst (λ (xs : List Splice). AreSplices c.args.language c.args.page.now c.args.tags.now [] xs)
    (sym c.new-splices.ensures.items) no_splices

pub loop-edit-preserved : goal.loop-edit-preserved
loop-edit-preserved c =
    let none : Edit = Tag 0 record { ref_ptr = (0, 0); now = [] } in
    let within : c.loop-edit.edit-index < length c.args.edits.now = omega arith in
    let more = one_more (take c.loop-edit.edit-index c.args.edits.now) c.loop-edit.splices.items
    (get_or c.args.edits.now c.loop-edit.edit-index none) c.in_ok-splice_of.field-0
    c.loop-edit.invariant c.in_ok-splice_of.ensures in
    rw (take_more c.args.edits.now c.loop-edit.edit-index none within, c.in_ok-push.ensures.items) more
