use Rattle.std.proofs.Common.{◌≡◌, [], map, length}
use Rattle.call_answers.specs.Elements.{attributes_by}
use Rattle.call_answers.specs.internal.Attributes.{lists_of}
use Rattle.page_calls.proofs.attributes.empty_lists.Given as goal

-- so many empty lists
abbrev pub invariant-loop : goal.invariant-loop
invariant-loop l = lists_of l.found.items ≡ attributes_by l.counter []
