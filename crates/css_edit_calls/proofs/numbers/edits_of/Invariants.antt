use Rattle.std.proofs.Common.{◌≡◌, ◌++◌, map, length}
use Rattle.std.specs.List.{flat_map}
use Rattle.css_edit_calls.specs.EditCalls.{numbers_of, text_of}
use Rattle.css_edit_calls.proofs.numbers.edits_of.Given as goal

-- the edits so far, and what is left
abbrev pub invariant-edits : goal.invariant-edits
invariant-edits l = record {
  rows : flat_map numbers_of l.found.items ++ l.rest ≡ l.numbers;
  strings : map text_of l.found.items ++ map (λ text. text.now) l.left ≡ map (λ text. text.now) l.texts;
}

abbrev pub decreases-edits : goal.decreases-edits
decreases-edits l = length l.rest
