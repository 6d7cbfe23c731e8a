use Rattle.std.proofs.Common.{◌≡◌, length}
use Rattle.html_edits.specs.Changing.{is_changed}
use Rattle.html_edits.proofs.changing.is_changed.Given as goal

abbrev pub invariant-changes : goal.invariant-changes
invariant-changes l = is_changed l.language l.rest l.name ≡ is_changed l.language l.changes l.name

abbrev pub decreases-changes : goal.decreases-changes
decreases-changes l = length l.rest
