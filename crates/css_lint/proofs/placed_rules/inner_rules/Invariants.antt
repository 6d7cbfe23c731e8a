use Rattle.std.proofs.Common.{◌≡◌, ◌++◌, length, map}
use denote.Shadow.{shadow}
use denote.Text.{Utf8}
use Rattle.css_lint.specs.PlacedRules.{inner_rules}
use Rattle.css_lint.specs.PlacedViews.{rule_at}
use Rattle.css_lint.proofs.placed_rules.inner_rules.Given as goal

-- the rule sets so far, and those of the rest
abbrev pub invariant-statements : goal.invariant-statements
invariant-statements l =
    shadow (Utf8 l.rest)
    × (map rule_at l.rules.items ++ inner_rules l.end l.rest ≡ inner_rules l.end l.text)

abbrev pub decreases-statements : goal.decreases-statements
decreases-statements l = length l.rest
