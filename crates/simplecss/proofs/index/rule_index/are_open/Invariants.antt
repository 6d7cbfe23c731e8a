use Rattle.std.specs.Prelude.{Contains, All}
use Rattle.std.proofs.Common.{take}
use Rattle.simplecss.proofs.index.rule_index.are_open.Given as goal

-- the first numbers are open
abbrev pub invariant-loop-number : goal.invariant-loop-number
invariant-loop-number l = All (Contains l.path.listed) (take l.number-index l.numbers)
