use Rattle.std.proofs.Common.{◌↔◌, IfOk, IsTrue, sym, subst}
use Rattle.css_selectors.specs.Meanings.{Matches}
use Rattle.page_calls.specs.Readings.{selector_as}
use Rattle.simplecss_calls.proofs.tested.is_matched.Goals as goal

pub returns-in-AsWritten : goal.returns-in-AsWritten
returns-in-AsWritten g c =
    subst (λ kind. IsTrue c.matches_counted.result ↔ Matches g.E.Element.document
    (selector_as kind c.args.selector.now) (g.E.Element.node c.args.element.now)) (sym c.in-AsWritten.is)
    c.matches_counted.ensures.answer

pub returns-in-Html : goal.returns-in-Html
returns-in-Html g c =
    subst (λ kind. IfOk c.is_matched_in_html.result (λ matched. IsTrue matched ↔ Matches g.E.Element.document
    (selector_as kind c.args.selector.now) (g.E.Element.node c.args.element.now))) (sym c.in-Html.is)
    c.is_matched_in_html.ensures
