use Rattle.std.proofs.Common.{sym, ◌∙◌}
use Rattle.css_selector_text.specs.Views.{pseudo_element_of}
use Rattle.css_selectors.proofs.PartLemmas.{matched, matched_within, none_mapped}
use Rattle.css_selectors.proofs.on_marked.matches_counted.Goals as goal

pub returns-clause-answer : goal.returns-clause-answer
returns-clause-answer g c =
    matched g.E.Element.document c.args.selector.now c.parts.result.now
    (g.E.Element.node c.args.element.now)
    (sym c.parts.ensures.same) c.is_placed.result
    (sym c.pseudo_element.ensures
    ∙ none_mapped (λ e. pseudo_element_of e.now) c.pseudo_element.result c.if-is_some.ensures)
    c.is_placed.ensures.answer

pub returns-clause-at_most : goal.returns-clause-at_most
returns-clause-at_most g c =
    matched_within g.E.Element.document c.args.selector.now c.parts.result.now
    (g.E.Element.node c.args.element.now)
    (sym c.parts.ensures.same) _ _
    c.is_placed.ensures.bounded
