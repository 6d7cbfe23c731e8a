use Rattle.std.proofs.Common.{◌≡◌, ℕ, ◌≤◌, ◌∙◌, arith}
use Rattle.css_selectors.proofs.BoundLemmas.{longest_stretch-le, most_questions-counted, counted-without, counted-le-without, counted-le}
use Rattle.css_selectors.specs.CostLemmas.{most_tests-plain}
use Rattle.css_selectors.proofs.matching_laws.bound_law.Goals as goal

same_below : (a b c : ℕ) → a ≡ b → b ≤ c → a ≤ c
same_below a b c e h = omega (arith, e, h)

pub returns-clause-by_stretches : goal.returns-clause-by_stretches
returns-clause-by_stretches g c s n some without =
    most_questions-counted g.E.Element.document s n ∙ counted-without g.E.Element.document s n some without

pub returns-clause-within : goal.returns-clause-within
returns-clause-within g c parts = longest_stretch-le parts

pub returns-clause-by_parts : goal.returns-clause-by_parts
returns-clause-by_parts g c s n some without =
    same_below _ _ _ (most_questions-counted g.E.Element.document s n)
    (counted-le-without g.E.Element.document s n some without)

pub returns-clause-always : goal.returns-clause-always
returns-clause-always g c s n some =
    same_below _ _ _ (most_questions-counted g.E.Element.document s n)
    (counted-le g.E.Element.document s n some)

pub returns-clause-alone : goal.returns-clause-alone
returns-clause-alone g c parts n plain = most_tests-plain g.E.Element.document n parts plain
