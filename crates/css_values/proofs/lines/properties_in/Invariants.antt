use Rattle.std.proofs.Common.{◌≡◌, ◌++◌, length, map, option_map}
use Rattle.css_values.specs.Lines.{properties_in}
use Rattle.css_values.specs.Views.{stated_of}
use Rattle.css_values.proofs.lines.properties_in.Given as goal

-- Those that were found, and what is left.
abbrev pub invariant-pairs : goal.invariant-pairs
invariant-pairs l =
    properties_in (map (λ text. text.now) l.texts)
    ≡ option_map (λ more. map stated_of l.found.items ++ more) (properties_in (map (λ text. text.now) l.left))

abbrev pub decreases-pairs : goal.decreases-pairs
decreases-pairs l = length l.left
