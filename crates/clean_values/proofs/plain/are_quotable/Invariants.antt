use Rattle.std.proofs.Common.{◌≡◌, length}
use Rattle.clean_values.specs.Plain.{are_quotable}
use Rattle.clean_values.proofs.plain.are_quotable.Given as goal

-- What is left decides.
abbrev pub invariant-bytes : goal.invariant-bytes
invariant-bytes l = are_quotable l.bytes ≡ are_quotable l.left

abbrev pub decreases-bytes : goal.decreases-bytes
decreases-bytes l = length l.left
