use Rattle.std.proofs.Common.{take}
use Rattle.std.specs.List.{All}
use Rattle.css_open_elements.specs.Opened.{IsOpen}
use Rattle.css_index.proofs.above.are_open.Given as goal

-- the first numbers are open
abbrev pub invariant-loop-number : goal.invariant-loop-number
invariant-loop-number l = All (IsOpen l.path.opened) (take l.number-index l.numbers)
