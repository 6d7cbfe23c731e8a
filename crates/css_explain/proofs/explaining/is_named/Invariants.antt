use Rattle.std.proofs.Common.{◌≡◌, length, map}
use Rattle.css_styles.specs.Contenders.{is_named}
use Rattle.css_explain.proofs.explaining.is_named.Given as goal

-- the name is none of the properties so far
abbrev pub invariant-properties : goal.invariant-properties
invariant-properties l =
    is_named (map (λ property. property.now) l.rest) l.name
    ≡ is_named (map (λ property. property.now) l.properties) l.name

abbrev pub decreases-properties : goal.decreases-properties
decreases-properties l = length l.rest
