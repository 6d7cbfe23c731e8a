use Rattle.std.proofs.Common.{◌↔◌, IsTrue, subst}
use Rattle.css_selectors.specs.Meanings.{Matches}
use Rattle.simplecss_calls.proofs.tested.is_matched_in_html.Goals as goal

pub returns : goal.returns
returns g c =
    subst (λ read. IsTrue c.matches_counted.result ↔ Matches g.E.Element.document read
    (g.E.Element.node c.args.element.now)) c.in_ok-read.ensures c.matches_counted.ensures.answer
