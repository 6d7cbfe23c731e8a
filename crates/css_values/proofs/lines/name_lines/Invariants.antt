use Rattle.std.proofs.Common.{◌≡◌, ◌++◌, length, map}
use Rattle.std.specs.String.{string_bytes}
use Rattle.css_values.specs.Lines.{name_lines}
use Rattle.css_values.proofs.lines.name_lines.Given as goal

-- What was written, and what is left.
abbrev pub invariant-names : goal.invariant-names
invariant-names l =
    name_lines (map (λ name. name.now) l.names)
    ≡ string_bytes l.out ++ name_lines (map (λ name. name.now) l.left)

abbrev pub decreases-names : goal.decreases-names
decreases-names l = length l.left
