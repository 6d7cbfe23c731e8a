use Rattle.std.proofs.Common.{◌≡◌, length}
use Rattle.html_edits.specs.Placing.{begin_tags}
use Rattle.html_edits.proofs.placing.begin_tags.Given as goal

abbrev pub invariant-tags : goal.invariant-tags
invariant-tags l = begin_tags l.page l.wanted l.rest ≡ begin_tags l.page l.places l.tags

abbrev pub decreases-tags : goal.decreases-tags
decreases-tags l = length l.rest
