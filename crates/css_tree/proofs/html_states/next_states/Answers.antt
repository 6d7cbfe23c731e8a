use Rattle.std.proofs.Common.{ap, sym, ◌∙◌}
use Rattle.css_tree.specs.HtmlViews.{html_states}
use Rattle.css_tree.specs.Surroundings.{surroundings}
use Rattle.css_tree.proofs.html_states.next_states.Goals as goal

pub take_default-is_default-requires-clause-around :
    goal.take_default-is_default-requires-clause-around
take_default-is_default-requires-clause-around c =
    c.requires.around ∙ ap (λ n. surroundings n.0 n.1) (sym c.plain-node.ensures)

pub states_of-requires-clause-around : goal.states_of-requires-clause-around
states_of-requires-clause-around c =
    c.requires.around ∙ ap (λ n. surroundings n.0 n.1) (sym c.plain-node.ensures)

pub returns-clause-value : goal.returns-clause-value
returns-clause-value c = c.states_of.ensures ∙ ap (λ n. html_states n.0 n.1) c.plain-node.ensures
