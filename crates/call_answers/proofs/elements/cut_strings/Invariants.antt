use Rattle.std.proofs.Common.{map, drop}
use Rattle.call_answers.proofs.StringCuts.{StringsSoFar}
use Rattle.call_answers.proofs.elements.cut_strings.Given as goal

-- the strings that were cut so far
abbrev pub invariant-loop-end : goal.invariant-loop-end
invariant-loop-end l = StringsSoFar l.buffer l.ends l.start (drop l.end-index l.ends)
    (map (λ string. string.now) l.strings.items)
