use Rattle.std.proofs.Common.{false, refl, ap, arith}
use Rattle.std.proofs.lemmas.Grind.{common_steps}
use Rattle.std.proofs.lemmas.Bool.{false≢true}
use Rattle.simplecss_grammar.specs.Components.Operator.{has_word}
use Rattle.simplecss_selector.specs.OperatorViews.{operator_of}
use Rattle.simplecss_selector.proofs.OperatorMeanings.{required_by, starts_not, is_satisfied-IsSatisfied}
use Rattle.simplecss_selector.proofs.operator.AttributeOperator.matches.Goals as goal

pub returns-in-Exists-clause-answer : goal.returns-in-Exists-clause-answer
returns-in-Exists-clause-answer c = rw c.in-Exists.is refl

pub returns-in-Exists-clause-means : goal.returns-in-Exists-clause-means
returns-in-Exists-clause-means c = (λ t. rw c.in-Exists.is tt, λ h. refl)

pub returns-in-Contains-clause-answer : goal.returns-in-Contains-clause-answer
returns-in-Contains-clause-answer c = rw c.in-Contains.is c.has_word.ensures

pub returns-in-Contains-clause-means : goal.returns-in-Contains-clause-means
returns-in-Contains-clause-means c =
    rw (ap operator_of c.in-Contains.is, c.has_word.ensures)
    (is_satisfied-IsSatisfied (has_word c.in-Contains.word.now) c.args.value.now)

pub returns-then-is_empty-clause-means : goal.returns-then-is_empty-clause-means
returns-then-is_empty-clause-means c = grind (arith, common_steps)

pub returns-then-is_empty-clause-answer : goal.returns-then-is_empty-clause-answer
returns-then-is_empty-clause-answer c =
    required_by (operator_of c.args.self.now) c.args.value.now c.is_empty.result
    (returns-then-is_empty-clause-means c)

pub returns-else-is_empty-clause-means : goal.returns-else-is_empty-clause-means
returns-else-is_empty-clause-means c = grind (arith, common_steps)

pub returns-else-is_empty-clause-answer : goal.returns-else-is_empty-clause-answer
returns-else-is_empty-clause-answer c =
    required_by (operator_of c.args.self.now) c.args.value.now c.starts_with.result
    (returns-else-is_empty-clause-means c)

pub returns-in-None-clause-means : goal.returns-in-None-clause-means
returns-in-None-clause-means c = (
  λ e. absurd (false≢true e),
  λ h. absurd (starts_not (operator_of c.args.self.now) c.in-StartsWith.start.now c.args.value.now
      (ap operator_of c.in-StartsWith.is) c.in-None.ensures.cases h),
)

pub returns-in-None-clause-answer : goal.returns-in-None-clause-answer
returns-in-None-clause-answer c =
    required_by (operator_of c.args.self.now) c.args.value.now false
    (returns-in-None-clause-means c)
