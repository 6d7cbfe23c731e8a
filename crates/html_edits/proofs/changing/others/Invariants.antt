use Rattle.std.proofs.Common.{◌≡◌, ◌++◌, map, length}
use Rattle.css_html.specs.Views.{attribute_of}
use Rattle.html_edits.specs.Changing.{others}
use Rattle.html_edits.proofs.changing.others.Given as goal

abbrev pub invariant-attributes : goal.invariant-attributes
invariant-attributes l =
    map attribute_of l.found.items ++ others l.language l.changes (map attribute_of l.rest)
    ≡ others l.language l.changes (map attribute_of l.attributes)

abbrev pub decreases-attributes : goal.decreases-attributes
decreases-attributes l = length l.rest
