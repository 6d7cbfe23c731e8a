use Rattle.std.proofs.Common.{take}
use Rattle.html_edits.specs.Placing.{AreSplices}
use Rattle.html_edits.proofs.placing.splices_of.Given as goal

abbrev pub invariant-loop-edit : goal.invariant-loop-edit
invariant-loop-edit l = AreSplices l.language l.page l.tags (take l.edit-index l.edits) l.splices.items
