use Rattle.std.proofs.Common.{◌≡◌, length, map}
use Rattle.clean_values.specs.Values.{is_listed}
use Rattle.clean_values.proofs.names.is_listed.Given as goal

-- What is left decides.
abbrev pub invariant-names : goal.invariant-names
invariant-names l =
    is_listed (map (λ name. name.now) l.names) l.word ≡ is_listed (map (λ name. name.now) l.left) l.word

abbrev pub decreases-names : goal.decreases-names
decreases-names l = length l.left
