use Rattle.std.proofs.Common.{◌≡◌, take, string_bytes}
use Rattle.call_answers.specs.SelectorNumbers.{port_texts}
use Rattle.list_calls.proofs.port.texts.Given as goal

-- the texts of the selectors so far
abbrev pub invariant-loop-selector : goal.invariant-loop-selector
invariant-loop-selector l = string_bytes l.out ≡ port_texts (take l.selector-index l.selectors)
