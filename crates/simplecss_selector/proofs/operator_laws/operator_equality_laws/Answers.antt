use Rattle.std.proofs.Common.{sym, ◌∙◌}
use Rattle.simplecss_selector.specs.OperatorViews.{operator_of, pseudo_class_of}
use Rattle.simplecss_selector.specs.EqualityLaws.{operator_decides, pseudo_class_decides}
use Rattle.simplecss_selector.proofs.FlatEquality.{by_operator, by_class}
use Rattle.simplecss_selector.proofs.operator_laws.operator_equality_laws.Goals as goal

pub returns-clause-operators : goal.returns-clause-operators
returns-clause-operators c a b =
    let same = operator_decides (operator_of a) (operator_of b) in
    (λ e. same.0 (sym (by_operator a b) ∙ e), λ e. by_operator a b ∙ same.1 e)

pub returns-clause-classes : goal.returns-clause-classes
returns-clause-classes c a b =
    let same = pseudo_class_decides (pseudo_class_of a) (pseudo_class_of b) in
    (λ e. same.0 (sym (by_class a b) ∙ e), λ e. by_class a b ∙ same.1 e)
