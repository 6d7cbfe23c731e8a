use Rattle.std.proofs.Common.{map, length}
use Rattle.css_html.specs.Views.{attribute_of}
use Rattle.html_edits.specs.Changing.{AreMade}
use Rattle.html_edits.proofs.changing.are_made.Given as goal

abbrev pub invariant-changes : goal.invariant-changes
invariant-changes l =
    AreMade l.language l.rest (map attribute_of l.old) (map attribute_of l.new)
    → AreMade l.language l.changes (map attribute_of l.old) (map attribute_of l.new)

abbrev pub decreases-changes : goal.decreases-changes
decreases-changes l = length l.rest
