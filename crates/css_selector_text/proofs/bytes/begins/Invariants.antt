use Rattle.std.proofs.Common.{◌≡◌, length}
use Rattle.css_selector_text.specs.AttributeTests.{begins}
use Rattle.css_selector_text.proofs.bytes.begins.Given as goal

abbrev pub invariant-bytes : goal.invariant-bytes
invariant-bytes l = begins l.ignores_case l.wanted l.found ≡ begins l.ignores_case l.text l.value

abbrev pub decreases-bytes : goal.decreases-bytes
decreases-bytes l = length l.wanted
