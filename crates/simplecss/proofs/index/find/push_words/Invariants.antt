use Rattle.std.proofs.Common.{map}
use Rattle.simplecss.specs.SelectorIndices.{Adds}
use Rattle.simplecss.proofs.LastIndices.{OfClasses}
use Rattle.simplecss.proofs.index.find.push_words.Given as goal

-- the indices of the words so far were added
abbrev pub invariant-loop-word : goal.invariant-loop-word
invariant-loop-word l = Adds l.initial.indices.items l.indices.items
    (OfClasses l.lasts (map (λ word. word.now) l.yielded))
