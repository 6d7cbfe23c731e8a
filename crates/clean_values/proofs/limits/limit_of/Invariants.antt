use Rattle.std.proofs.Common.{◌≡◌, length, map}
use Rattle.clean_values.specs.Limits.{limit_of}
use Rattle.clean_values.specs.Views.{limits_of}
use Rattle.clean_values.proofs.limits.limit_of.Given as goal

-- What is left decides.
abbrev pub invariant-properties : goal.invariant-properties
invariant-properties l =
    limit_of (limits_of l.limits).properties (limits_of l.limits).limits l.name
    ≡ limit_of (map (λ text. text.now) l.properties) (map (λ text. text.now) l.texts) l.name

abbrev pub decreases-properties : goal.decreases-properties
decreases-properties l = length l.properties
