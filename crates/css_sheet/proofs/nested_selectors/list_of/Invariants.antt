use Rattle.std.proofs.Common.{◌≡◌, ◌++◌, map}
use Rattle.std.specs.Vec.Iter.{into_iter_items}
use Rattle.css_selector_text.specs.SpecificityViews.{counts_of}
use Rattle.css_sheet.specs.NestedSelectors.{element_selectors, greatest_of, nesting_counts}
use Rattle.css_sheet.specs.RuleViews.{rule_selector_of}
use Rattle.css_sheet.proofs.nested_selectors.list_of.Given as goal

-- those so far, and those that are left
abbrev pub invariant-selectors : goal.invariant-selectors
invariant-selectors l =
    (l.list.items ++ element_selectors (map rule_selector_of (into_iter_items l.one-iterator))
    ≡ element_selectors (map rule_selector_of l.fn.selectors.items))
    × (greatest_of (counts_of l.most)
    (element_selectors (map rule_selector_of (into_iter_items l.one-iterator)))
    ≡ nesting_counts (map rule_selector_of l.fn.selectors.items))
