use Rattle.std.proofs.Common.{take}
use Rattle.std.specs.List.{All}
use Rattle.css_open_elements.specs.Opened.{IsOfLast}
use Rattle.css_index.proofs.above.are_of_last.Given as goal

-- the first numbers are of the last
abbrev pub invariant-loop-number : goal.invariant-loop-number
invariant-loop-number l = All (IsOfLast l.path.opened) (take l.number-index l.numbers)
