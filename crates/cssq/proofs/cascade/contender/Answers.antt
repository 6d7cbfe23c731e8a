use Rattle.std.proofs.Common.{Some, refl, ap, ◌∙◌, subst}
use Rattle.std.specs.List.{slice_get}
use Rattle.simplecss.specs.DeclarationViews.{declaration_of, declarations_of}
use Rattle.cssq.specs.Winners.{Wins}
use Rattle.cssq.specs.internal.RuleWinners.{InRule}
use Rattle.cssq.proofs.FromLast.{none_important}
use Rattle.cssq.proofs.cascade.contender.Goals as goal

pub returns-in_err-best-clause-outdone : goal.returns-in_err-best-clause-outdone
returns-in_err-best-clause-outdone c = λ _ j p at named.
    absurd (c.in_err-best.ensures 0 0 j p
    (refl, ap (λ ds. slice_get (declarations_of ds) j) c.deref.ensures.value ∙ at) named)

pub returns-then-not-best-clause-outdone : goal.returns-then-not-best-clause-outdone
returns-then-not-best-clause-outdone c = λ _ j p at named. (
  c.if-is_later_known.true,
  none_important (declarations_of c.deref.result.now) c.args.name.now
      (declaration_of c.in_ok-best.best) (c.in_ok-best.ensures 0) c.if-not-best.true j p
      (ap (λ ds. slice_get (declarations_of ds) j) c.deref.ensures.value ∙ at) named,
)

pub returns-clause-best : goal.returns-clause-best
returns-clause-best c = λ i. subst (λ ds. Wins (InRule i (declarations_of ds)) c.args.name.now
    (Some (declaration_of c.in_ok-best.best))) c.deref.ensures.value (c.in_ok-best.ensures i)
