use Rattle.std.proofs.Common.{◌≡◌, length, map}
use Rattle.std.specs.List.{list_any}
use Rattle.css_syntax.specs.Tokens.{spells}
use Rattle.sheet_calls.proofs.functions.is_listed.Given as goal

abbrev pub invariant-names : goal.invariant-names
invariant-names l =
    list_any (λ one. spells one l.name) (map (λ one. one.now) l.left)
    ≡ list_any (λ one. spells one l.name) (map (λ one. one.now) l.names)

abbrev pub decreases-names : goal.decreases-names
decreases-names l = length l.left
