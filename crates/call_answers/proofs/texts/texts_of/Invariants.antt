use Rattle.std.proofs.Common.{map, drop}
use Rattle.call_answers.proofs.TextCuts.{CutSoFar}
use Rattle.call_answers.proofs.texts.texts_of.Given as goal

-- the texts that were cut so far
abbrev pub invariant-loop-end : goal.invariant-loop-end
invariant-loop-end l =
    CutSoFar l.fn.buffer l.fn.ends l.start (drop l.end-index l.fn.ends)
    (map (λ text. text.now) l.texts.items)
