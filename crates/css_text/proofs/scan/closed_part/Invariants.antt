use Rattle.std.proofs.Common.{◌-◌, length}
use Rattle.css_text.proofs.bytes.GapSteps.{Passed}
use Rattle.css_text.proofs.scan.closed_part.Given as goal

abbrev pub invariant-loop-part : goal.invariant-loop-part
invariant-loop-part l = Passed l.text l.len l.spaced

abbrev pub decreases-loop-part : goal.decreases-loop-part
decreases-loop-part l = length l.text - l.len
