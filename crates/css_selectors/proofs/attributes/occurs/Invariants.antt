use Rattle.std.proofs.Common.{◌≡◌, length}
use Rattle.css_selector_text.specs.AttributeTests.{occurs_in}
use Rattle.css_selectors.proofs.attributes.occurs.Given as goal

abbrev pub invariant-bytes : goal.invariant-bytes
invariant-bytes l = occurs_in l.ignores_case l.text l.rest ≡ occurs_in l.ignores_case l.text l.value

abbrev pub decreases-bytes : goal.decreases-bytes
decreases-bytes l = length l.rest
