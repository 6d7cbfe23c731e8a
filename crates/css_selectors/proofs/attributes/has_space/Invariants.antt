use Rattle.std.proofs.Common.{◌≡◌, length}
use Rattle.std.specs.List.{list_any}
use Rattle.css_text.specs.Characters.{is_space}
use Rattle.css_selectors.proofs.attributes.has_space.Given as goal

abbrev pub invariant-bytes : goal.invariant-bytes
invariant-bytes l = list_any is_space l.rest ≡ list_any is_space l.text

abbrev pub decreases-bytes : goal.decreases-bytes
decreases-bytes l = length l.rest
