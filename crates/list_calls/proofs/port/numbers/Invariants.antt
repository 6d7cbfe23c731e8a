use Rattle.std.proofs.Common.{◌≡◌, take}
use Rattle.call_answers.specs.SelectorNumbers.{port_numbers}
use Rattle.list_calls.proofs.port.numbers.Given as goal

-- the numbers of the selectors so far
abbrev pub invariant-loop-selector : goal.invariant-loop-selector
invariant-loop-selector l = l.out.items ≡ port_numbers (take l.selector-index l.selectors)
