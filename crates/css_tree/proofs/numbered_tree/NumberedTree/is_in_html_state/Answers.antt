use Rattle.std.proofs.Common.{◌≡◌, ◌<◌, true, false, ◌&&◌, get_or, length, IfSome, is_some, ap, subst, sym, ◌∙◌}
use Rattle.css_tree.specs.HtmlStates.{is_in_state_named}
use Rattle.css_tree.specs.HtmlViews.{AreStates}
use Rattle.css_tree.proofs.HtmlStateLemmas.{in_known, read_within}
use Rattle.css_tree.proofs.numbered_tree.NumberedTree.is_in_html_state.Goals as goal

pub returns-in-Some : goal.returns-in-Some
returns-in-Some c =
    let page = c.args.self.now in
    let i = c.args.index in
    let name = c.args.name.now in
    let is_html : page.is_html ≡ true =
    ap (λ p. p.is_html) (sym c.self.view_is) ∙ ap is_some c.in-Some.is in
    let states : AreStates page.rows c.in-Some.states.items (length page.rows) =
    subst (λ p. AreStates p.rows c.in-Some.states.items (length p.rows)) c.self.view_is
    (subst (λ r. IfSome r (λ states. AreStates c.self.inside.tree.now states.items
    (length c.self.inside.tree.now))) c.in-Some.is c.self.invariant.5) in
    let text = read_within c.self.inside.texts.items i c.index-in-Some.result.now false
    (rw c.self.invariant.4 (subst (λ p. i < length p.rows) (sym c.self.view_is) c.requires))
    c.index-in-Some.ensures
    ∙ ap (λ p. get_or p.given.texts i false) c.self.view_is in
    c.is_in_named.ensures
    ∙ in_known page.rows c.index-in-Some.result.now c.in-Some.states.items c.index.result.now i name
    states c.requires c.index.ensures
    ∙ ap (λ b. is_in_state_named page.rows b i name) text
    ∙ ap (λ b. b && is_in_state_named page.rows (get_or page.given.texts i false) i name) (sym is_html)
