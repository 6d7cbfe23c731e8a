use Rattle.std.proofs.Common.{◌<◌, sym, subst}
use Rattle.css_selector_text.specs.Components.{parts_from}
use Rattle.css_selectors.proofs.NestedCosts.{tests-le}
use Rattle.css_selectors.proofs.NestedReads.{supported_joins}
use Rattle.css_selectors.proofs.PlacementListLemmas.{count_from}
use Rattle.css_selectors.proofs.matching_laws.nested_law.Goals as goal

pub returns-clause-within : goal.returns-clause-within
returns-clause-within g c k s n some joins =
    tests-le g.E.Element.document n k (parts_from s.parts)
    (subst (λ m. 0 < m) (sym (count_from g.E.Element.document s.parts)) some) joins

pub returns-clause-supported : goal.returns-clause-supported
returns-clause-supported g c s h = supported_joins s h
