use Rattle.std.proofs.Common.{◌≡◌, ◌++◌, length, map}
use Rattle.css_sheet.specs.ReaderViews.{level_of, condition_at}
use Rattle.call_answers.specs.SheetNumbers.{level_numbers}
use Rattle.sheet_calls.proofs.sheets.level_numbers.Given as goal

-- the numbers of the group rules so far, and of those that are left
abbrev pub invariant-levels : goal.invariant-levels
invariant-levels l =
    l.out.items ++ level_numbers (map (λ level. condition_at (level_of level)) l.left)
    ≡ level_numbers (map (λ level. condition_at (level_of level)) l.levels)

abbrev pub decreases-levels : goal.decreases-levels
decreases-levels l = length l.left
