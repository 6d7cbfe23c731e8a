use Rattle.std.proofs.Common.{◌≡◌, false, map}
use Rattle.call_answers.specs.Elements.{repeats_key}
use Rattle.call_answers.proofs.elements.repeats_among_few.Given as goal

-- none of the attributes so far has the key of an earlier one
abbrev pub invariant-loop-i : goal.invariant-loop-i
invariant-loop-i l = repeats_key (map (λ field. field.now) l.fields) l.i ≡ false
