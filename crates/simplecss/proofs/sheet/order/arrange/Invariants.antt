use Rattle.simplecss.proofs.RuleMoves.{IsMoving}
use Rattle.simplecss.proofs.sheet.order.arrange.Given as goal

abbrev pub invariant-loop-index : goal.invariant-loop-index
invariant-loop-index l =
    IsMoving l.initial.rules.items l.order l.index l.rules.items l.who.items l.at.items
