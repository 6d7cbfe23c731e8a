use Rattle.std.proofs.Common.{◌≡◌, length}
use Rattle.clean_values.specs.Checks.{begins_with}
use Rattle.clean_values.proofs.checks.begins_with.Given as goal

-- What is left decides.
abbrev pub invariant-bytes : goal.invariant-bytes
invariant-bytes l = begins_with l.front l.text ≡ begins_with l.left l.rest

abbrev pub decreases-bytes : goal.decreases-bytes
decreases-bytes l = length l.left
