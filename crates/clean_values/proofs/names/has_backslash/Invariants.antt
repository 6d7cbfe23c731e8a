use Rattle.std.proofs.Common.{◌≡◌, length}
use Rattle.clean_values.specs.Values.{has_backslash}
use Rattle.clean_values.proofs.names.has_backslash.Given as goal

-- What is left decides.
abbrev pub invariant-bytes : goal.invariant-bytes
invariant-bytes l = has_backslash l.word ≡ has_backslash l.left

abbrev pub decreases-bytes : goal.decreases-bytes
decreases-bytes l = length l.left
