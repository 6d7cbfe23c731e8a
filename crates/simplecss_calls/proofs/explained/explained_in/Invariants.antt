use Rattle.std.proofs.Common.{◌+◌, map}
use Rattle.call_answers.proofs.PageLines.{LinesWithin}
use Rattle.css_sheet.specs.SheetRuleViews.{sheet_rule_of}
use Rattle.page_calls.specs.Readings.{selector_as}
use Rattle.simplecss_calls.specs.ExplainNumbers.{IsExplainedBy}
use Rattle.simplecss_calls.specs.WinnerNumbers.{selectors_read}
use Rattle.simplecss_calls.specs.internal.Contents.{names_of_asked as names_of, own_of_asked as own_of}
use Rattle.simplecss_calls.proofs.explained.explained_in.Given as goal

-- the numbers of the elements so far, which are few enough
abbrev pub invariant-loop-index : goal.invariant-loop-index
invariant-loop-index l =
    LinesWithin l.most (λ index. IsExplainedBy (names_of l.asked) (own_of l.asked)
    (selectors_read (selector_as l.kind) (map sheet_rule_of l.rules)) (map sheet_rule_of l.rules) l.page
    (l.range.from + index)) l.index l.out.items
