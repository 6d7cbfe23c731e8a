use Rattle.css_tree.specs.HtmlViews.{AreStates, HaveSubmits}
use Rattle.css_tree.proofs.html_states.push_states.Given as goal

-- the states of the elements so far, and which forms have a submit button
abbrev pub invariant-loop-index : goal.invariant-loop-index
invariant-loop-index l = record {
  states : AreStates l.page.rows l.states.items l.index;
  submits : HaveSubmits l.page.rows l.have_submits l.index;
}
