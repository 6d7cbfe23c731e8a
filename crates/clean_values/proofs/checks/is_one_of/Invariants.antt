use Rattle.std.proofs.Common.{◌≡◌, length, map}
use Rattle.clean_values.specs.Checks.{is_one_of}
use Rattle.clean_values.proofs.checks.is_one_of.Given as goal

-- What is left decides.
abbrev pub invariant-texts : goal.invariant-texts
invariant-texts l =
    is_one_of (map (λ one. one.now) l.texts) l.text ≡ is_one_of (map (λ one. one.now) l.left) l.text

abbrev pub decreases-texts : goal.decreases-texts
decreases-texts l = length l.left
