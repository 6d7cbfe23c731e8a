use Rattle.std.proofs.Common.{◌≡◌, ◌++◌, length, map}
use Rattle.std.specs.List.{flat_map}
use Rattle.css_selector_text.specs.NameViews.{names_of}
use Rattle.css_lint.specs.InRules.{style_rule_places}
use Rattle.css_lint.specs.Places.{place_of}
use Rattle.css_lint.specs.PlacedViews.{rule_at}
use Rattle.css_lint.proofs.in_rules.push_style_rules.Given as goal

-- what is found so far, and of the rest
abbrev pub invariant-rules : goal.invariant-rules
invariant-rules l =
    map place_of l.found.items
    ++ flat_map (style_rule_places (names_of l.names)) (map rule_at l.left)
    ≡ map place_of l.initial.found.items
    ++ flat_map (style_rule_places (names_of l.names)) (map rule_at l.rules)

abbrev pub decreases-rules : goal.decreases-rules
decreases-rules l = length l.left
