use Rattle.std.proofs.Common.{◌≡◌, map}
use Rattle.css_index.specs.Found.{AreAll, MatchesAt}
use Rattle.css_sheet.specs.SheetRuleViews.{sheet_rule_of}
use Rattle.css_tree.specs.Pages.{page_document}
use Rattle.page_calls.specs.Readings.{selector_as}
use Rattle.simplecss_calls.specs.WinnerNumbers.{selectors_read}
use Rattle.simplecss_calls.proofs.FirstConditions.{Before}
use Rattle.simplecss_calls.proofs.tested.find_on.Given as goal

-- the indices of the rules so far that match
abbrev pub invariant-loop-rule : goal.invariant-loop-rule
invariant-loop-rule l = record {
  count : l.index ≡ l.rule-index;
  all : AreAll (Before (MatchesAt page_document l.node (selectors_read (selector_as l.kind)
      (map sheet_rule_of l.rules))) l.rule-index) l.indices.items;
}
