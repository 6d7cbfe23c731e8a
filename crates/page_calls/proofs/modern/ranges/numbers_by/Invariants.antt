use Rattle.std.proofs.Common.{◌≡◌, ◌+◌}
use Rattle.call_answers.proofs.PageLines.{LinesWithin}
use Rattle.page_calls.specs.Ranges.{IsNumberAt}
use Rattle.page_calls.proofs.modern.ranges.numbers_by.Given as goal

-- the numbers of the elements so far, which are few enough, by a walk of the same selectors
abbrev pub invariant-loop-index : goal.invariant-loop-index
invariant-loop-index l = record {
  lines : LinesWithin l.most (λ index. IsNumberAt l.fn.walk.walk.selectors l.fn.walk.page (l.range.from + index)) l.index
      l.numbers.items;
  page : l.walk.page ≡ l.fn.walk.page;
  selectors : l.walk.walk.selectors ≡ l.fn.walk.walk.selectors;
}
