use Rattle.std.proofs.Common.{rules, ◌↔◌, IsTrue}
use Rattle.css_selectors.specs.AfterKeys.{MatchesAfterKey}
use Rattle.css_selectors.proofs.AfterKeyLemmas.{after_key_matches, matches_after_key}
use Rattle.css_selectors.proofs.after_key.matches_after_key.Goals as goal

pub returns-clause-answer : goal.returns-clause-answer
returns-clause-answer g c = λ has.
    let d = g.E.Element.document in
    let n = g.E.Element.node c.args.element.now in
    let s = c.args.selector.now in
    let rest : IsTrue c.are_met.result ↔ MatchesAfterKey d s n = search rules in (
      λ t. after_key_matches d n s c.requires has (rest.0 t),
      λ m. rest.1 (matches_after_key d n s c.requires m),
    )
