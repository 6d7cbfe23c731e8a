use Rattle.std.proofs.Common.{◌≡◌, ◌++◌, map}
use Rattle.std.specs.Vec.Iter.{into_iter_items}
use Rattle.css_selector_text.specs.reading.ReadViews.{placed_of}
use Rattle.css_sheet.specs.RuleSelectors.{selector_read}
use Rattle.css_sheet.specs.RuleViews.{rule_selector_of}
use Rattle.css_sheet.proofs.selectors.rule_selectors.Given as goal

-- those so far, and those that are left
abbrev pub invariant-selectors : goal.invariant-selectors
invariant-selectors l =
    map rule_selector_of l.selectors.items
    ++ map selector_read (map placed_of (into_iter_items l.listed-iterator))
    ≡ map selector_read (map placed_of l.fn.all.items)
