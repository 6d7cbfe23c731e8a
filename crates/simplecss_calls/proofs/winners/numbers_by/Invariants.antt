use Rattle.std.proofs.Common.{◌≡◌, ◌+◌}
use Rattle.css_selector_text.specs.Components.{Selector}
use Rattle.call_answers.proofs.PageLines.{LinesWithin}
use Rattle.simplecss_calls.specs.WinnerNumbers.{IsWonOf}
use Rattle.simplecss_calls.specs.internal.Contents.{AreReadBy, asked_by, own_by}
use Rattle.simplecss_calls.proofs.winners.numbers_by.Given as goal

-- the numbers of the elements so far, which are few enough, by a walk with the same rules
abbrev pub invariant-loop-index : goal.invariant-loop-index
invariant-loop-index l = record {
  lines : (read : Selector → Selector)
      → AreReadBy read l.fn.styles.rules l.fn.styles.walk.selectors
      → LinesWithin l.most (λ index. IsWonOf (asked_by l.wanted) (own_by l.wanted) read l.fn.styles.rules
      l.fn.styles.page (l.range.from + index)) l.index l.out.items;
  page : l.styles.page ≡ l.fn.styles.page;
  rules : l.styles.rules ≡ l.fn.styles.rules;
  selectors : l.styles.walk.selectors ≡ l.fn.styles.walk.selectors;
}
