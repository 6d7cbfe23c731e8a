use Rattle.std.proofs.Common.{◌≡◌, ◌<◌, ◌++◌, length, map}
use Rattle.css_tree.specs.PageViews.{state_of}
use Rattle.call_answers.specs.Elements.{states_from, named_states}
use Rattle.page_calls.proofs.named_states.named_states.Given as goal

-- the states so far, and those of the names that are left
abbrev pub invariant-names : goal.invariant-names
invariant-names l = record {
  all : map state_of l.states.items
      ++ states_from l.power (map (λ name. name.now) l.left) l.elements
      ≡ named_states (map (λ name. name.now) l.names) l.elements;
  some : 0 < l.power;
}

abbrev pub decreases-names : goal.decreases-names
decreases-names l = length l.left
