use Rattle.std.proofs.Common.{◌≡◌, false, map}
use Rattle.call_answers.specs.Elements.{keys_in, has_key}
use Rattle.call_answers.proofs.elements.has_key.Given as goal

-- none of the attributes so far has the key
abbrev pub invariant-loop-i : goal.invariant-loop-i
invariant-loop-i l = has_key (keys_in (map (λ field. field.now) l.fields) l.i) l.key ≡ false
