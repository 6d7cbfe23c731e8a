use Rattle.std.proofs.Common.{map}
use Rattle.call_answers.proofs.RepeatedKeys.{KeysAre}
use Rattle.call_answers.proofs.elements.repeats_key.Given as goal

-- the keys of the first attributes
abbrev pub invariant-loop-i : goal.invariant-loop-i
invariant-loop-i l = KeysAre (map (λ field. field.now) l.fields) l.i l.keys
