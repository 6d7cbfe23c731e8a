use Rattle.std.proofs.Common.{◌≡◌, ◌++◌, length, map, option_map}
use Rattle.std.specs.String.{string_bytes}
use Rattle.css_values.specs.Lines.{value_lines}
use Rattle.css_values.specs.Views.{value_of}
use Rattle.css_values.proofs.lines.value_lines.Given as goal

-- What was written, and what is left.
abbrev pub invariant-values : goal.invariant-values
invariant-values l =
    value_lines (map (option_map value_of) l.values)
    ≡ string_bytes l.out ++ value_lines (map (option_map value_of) l.left)

abbrev pub decreases-values : goal.decreases-values
decreases-values l = length l.left
