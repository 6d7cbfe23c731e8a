use Rattle.std.proofs.Common.{◌≡◌, ◌++◌, length, map}
use Rattle.call_answers.specs.Elements.{attributes_with}
use Rattle.call_answers.specs.internal.Attributes.{placed_attribute_of}
use Rattle.call_answers.proofs.elements.attributes_with.Given as goal

-- the attributes so far, and those that are left
abbrev pub invariant-strings : goal.invariant-strings
invariant-strings l =
    map placed_attribute_of l.found.items ++ attributes_with (map (λ string. string.now) l.left) l.more
    ≡ attributes_with (map (λ string. string.now) l.strings) l.places

abbrev pub decreases-strings : goal.decreases-strings
decreases-strings l = length l.left
