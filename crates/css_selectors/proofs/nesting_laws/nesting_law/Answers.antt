use Rattle.css_selectors.proofs.NestingLaws.{matches_same, specificity_same}
use Rattle.css_selectors.proofs.nesting_laws.nesting_law.Goals as goal

pub returns-clause-matches : goal.returns-clause-matches
returns-clause-matches g c list all answers s n =
    matches_same list all g.E.Element.document (λ m. Unit {0}) (λ m is. answers m)
    (λ k a b related is. tt) s n tt

pub returns-clause-specificity : goal.returns-clause-specificity
returns-clause-specificity g c list all counts s = specificity_same list all counts s
