use Rattle.std.proofs.Common.{◌≡◌, map, length}
use Rattle.css_html.specs.Views.{attribute_of}
use Rattle.html_edits.specs.Attributes.{first_named}
use Rattle.html_edits.proofs.attributes.first_named.Given as goal

abbrev pub invariant-attributes : goal.invariant-attributes
invariant-attributes l =
    first_named l.language l.name (map attribute_of l.rest) ≡ first_named l.language l.name (map attribute_of l.attributes)

abbrev pub decreases-attributes : goal.decreases-attributes
decreases-attributes l = length l.rest
