use Rattle.std.proofs.Common.{◌≡◌, ◌++◌, ◌∷◌, [], map}
use Rattle.call_answers.specs.Elements.{element_row}
use Rattle.call_answers.proofs.elements.add_element.Given as goal

-- the element with its first attributes
abbrev pub invariant-loop-i : goal.invariant-loop-i
invariant-loop-i l = l.tree ≡ l.fn.tree
    ++ element_row l.fn.tree l.fn.parent l.fn.name (map (λ field. field.now) l.fields) l.i ∷ []
