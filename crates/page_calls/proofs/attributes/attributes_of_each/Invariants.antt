use Rattle.std.proofs.Common.{map, take}
use Rattle.call_answers.specs.internal.Attributes.{placed_attribute_of}
use Rattle.call_answers.proofs.SpacedAttributes.{GivenSoFar}
use Rattle.page_calls.proofs.attributes.attributes_of_each.Given as goal

-- each element has its attributes among the first
abbrev pub invariant-loop-placed : goal.invariant-loop-placed
invariant-loop-placed l =
    GivenSoFar (map placed_attribute_of (take l.placed-index l.attributes)) l.count l.found.items
