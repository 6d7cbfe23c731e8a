use Rattle.std.proofs.Common.{◌≡◌, ◌+◌}
use Rattle.call_answers.proofs.PageLines.{LinesWithin}
use Rattle.simplecss_calls.specs.WinnerNumbers.{IsMatchedBy}
use Rattle.simplecss_calls.proofs.matches.matched_by.Given as goal

-- the numbers of the elements so far, which are few enough, by a walk with the same selectors
abbrev pub invariant-loop-index : goal.invariant-loop-index
invariant-loop-index l = record {
  lines : LinesWithin l.most (λ index. IsMatchedBy l.fn.walk.walk.selectors l.fn.walk.page (l.range.from + index)) l.index
      l.out.items;
  page : l.walk.page ≡ l.fn.walk.page;
  selectors : l.walk.walk.selectors ≡ l.fn.walk.walk.selectors;
}
