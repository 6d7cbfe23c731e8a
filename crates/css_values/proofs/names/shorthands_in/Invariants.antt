use Rattle.std.proofs.Common.{◌≡◌, ◌++◌, length, map}
use denote.Text.{Utf8}
use denote.Shadow.{shadow}
use Rattle.css_values.specs.Names.{shorthands_in}
use Rattle.css_values.proofs.names.shorthands_in.Given as goal

-- Those that were found, and what is left.
abbrev pub invariant-rows : goal.invariant-rows
invariant-rows l =
    shadow (Utf8 l.rest)
    × (shorthands_in l.table l.name ≡ map (λ text. text.now) l.found.items ++ shorthands_in l.rest l.name)

abbrev pub decreases-rows : goal.decreases-rows
decreases-rows l = length l.rest
