use Rattle.std.proofs.Common.{◌+◌}
use Rattle.call_answers.proofs.PageLines.{LinesWithin}
use Rattle.page_calls.specs.Ranges.{IsNumberAt}
use Rattle.page_calls.proofs.modern.ranges.tested_numbers.Given as goal

-- the numbers of the elements so far, which are few enough
abbrev pub invariant-loop-index : goal.invariant-loop-index
invariant-loop-index l =
    LinesWithin l.most (λ index. IsNumberAt l.selectors l.page (l.range.from + index)) l.index l.numbers.items
