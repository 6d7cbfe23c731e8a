use Rattle.simplecss.specs.SelectorIndices.{Adds}
use Rattle.simplecss_selector.specs.Operators.{is_word_of}
use Rattle.simplecss.proofs.ReadIndices.{OfRead}
use Rattle.simplecss.proofs.index.find.push_classes_within.Given as goal

-- the indices of the classes so far that are words of the value were added
abbrev pub invariant-loop-word : goal.invariant-loop-word
invariant-loop-word l =
    Adds l.initial.indices.items l.indices.items
    (OfRead (λ word. is_word_of word l.value) l.yielded)
