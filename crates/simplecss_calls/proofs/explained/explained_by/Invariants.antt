use Rattle.std.proofs.Common.{◌≡◌, ◌+◌, map}
use Rattle.call_answers.proofs.PageLines.{LinesWithin}
use Rattle.css_sheet.specs.SheetRuleViews.{sheet_rule_of}
use Rattle.simplecss_calls.specs.ExplainNumbers.{IsExplainedBy}
use Rattle.simplecss_calls.specs.internal.Contents.{names_of_asked as names_of, own_of_asked as own_of}
use Rattle.simplecss_calls.proofs.explained.explained_by.Given as goal

-- the numbers of the elements so far, which are few enough, by a walk with the same selectors
abbrev pub invariant-loop-index : goal.invariant-loop-index
invariant-loop-index l = record {
  lines : LinesWithin l.most (λ index. IsExplainedBy (names_of l.asked) (own_of l.asked) l.fn.walk.walk.selectors
      (map sheet_rule_of l.rules) l.fn.walk.page (l.range.from + index)) l.index
      l.out.items;
  page : l.walk.page ≡ l.fn.walk.page;
  selectors : l.walk.walk.selectors ≡ l.fn.walk.walk.selectors;
}
