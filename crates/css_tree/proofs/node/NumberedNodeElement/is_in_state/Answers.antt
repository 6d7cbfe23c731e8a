use Rattle.std.proofs.Common.{◌≡◌, false, ◌||◌, ap, sym, ◌∙◌}
use Rattle.css_elements.specs.TreeNodes.{states_at}
use Rattle.css_tree.specs.Pages.{is_in_state, is_in_page_state, is_in_named}
use Rattle.css_tree.proofs.node.NumberedNodeElement.is_in_state.Goals as goal

pub returns-else-is_in : goal.returns-else-is_in
returns-else-is_in c =
    let name = c.args.name.now in
    let node = c.args.self.now in
    let off : is_in_state (states_at node.0.rows node.1) name ≡ false =
    sym (c.is_in.ensures ∙ ap (λ n. is_in_state (states_at n.0 n.1) name) c.plain.ensures
    ∙ ap (λ n. is_in_state (states_at n.0.rows n.1) name) c.self.view_is) ∙ c.if-is_in.false in
    c.is_in_further_state.ensures
    ∙ ap (λ n. is_in_page_state n.0 n.1 name || is_in_named n.0.given.states n.1 name) c.self.view_is
    ∙ ap
    (λ b. b || (is_in_page_state node.0 node.1 name || is_in_named node.0.given.states node.1 name))
    (sym off)
