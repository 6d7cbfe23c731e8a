use Rattle.std.proofs.Common.{◌≡◌, ◌++◌, length, map}
use denote.Shadow.{shadow}
use denote.Text.{Utf8}
use Rattle.css_lint.specs.PlacedRules.{sets_in}
use Rattle.css_lint.specs.PlacedViews.{set_of}
use Rattle.css_lint.proofs.placed_rules.sets_in.Given as goal

-- the declarations so far, and those of the rest
abbrev pub invariant-items : goal.invariant-items
invariant-items l =
    shadow (Utf8 l.rest)
    × (map set_of l.sets.items ++ sets_in l.in_block l.end l.rest ≡ sets_in l.in_block l.end l.text)

abbrev pub decreases-items : goal.decreases-items
decreases-items l = length l.rest
