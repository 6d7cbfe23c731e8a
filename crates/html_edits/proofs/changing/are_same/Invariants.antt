use Rattle.std.proofs.Common.{◌≡◌, map, length}
use Rattle.css_html.specs.Views.{attribute_of}
use Rattle.html_edits.specs.Changing.{names_and_values}
use Rattle.html_edits.proofs.changing.are_same.Given as goal

abbrev pub invariant-attributes : goal.invariant-attributes
invariant-attributes l =
    names_and_values (map attribute_of l.left) ≡ names_and_values (map attribute_of l.right)
    → names_and_values (map attribute_of l.attributes) ≡ names_and_values (map attribute_of l.others)

abbrev pub decreases-attributes : goal.decreases-attributes
decreases-attributes l = length l.left
