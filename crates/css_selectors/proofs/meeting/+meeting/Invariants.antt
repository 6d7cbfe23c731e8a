use Rattle.std.proofs.Common.{◌+◌, ◌*◌, ◌≤◌, ◌↔◌, drop, map}
use denote.Param.Weighed.{most}
use Rattle.css_selector_text.specs.Components.{conditions_from, selectors_from}
use Rattle.css_selectors.specs.Costs.{compound_cost, list_cost}
use Rattle.css_selectors.specs.Meanings.{AreMet, MatchesAny}
use Rattle.css_selector_text.specs.Views.{condition_of, complex_of}
use Rattle.css_selector_text.specs.declared.components.Part.{size-Part}
use Rattle.css_selectors.proofs.meeting.+meeting.Given as goal

-- at the same depth, each function calls those before it
abbrev pub decreases-is_met : goal.decreases-is_met
decreases-is_met g l = 8 * goal.size-is_met g l

abbrev pub decreases-are_met : goal.decreases-are_met
decreases-are_met g l = 8 * goal.size-are_met g l + 1

abbrev pub decreases-is_placed-matches : goal.decreases-is_placed-matches
decreases-is_placed-matches g l = 8 * most (λ x. size-Part x) l.parts.now + 2

abbrev pub decreases-is_placed : goal.decreases-is_placed
decreases-is_placed g l = 8 * goal.size-is_placed g l + 3

abbrev pub decreases-matches_any : goal.decreases-matches_any
decreases-matches_any g l = 8 * goal.size-matches_any g l + 5

abbrev pub decreases-is_matched : goal.decreases-is_matched
decreases-is_matched g l = 8 * goal.size-is_matched g l + 4

abbrev pub invariant-are_met-loop-condition : goal.invariant-are_met-loop-condition
invariant-are_met-loop-condition g l =
    let d = g.E.Element.document in
    let n = g.E.Element.node l.element in
    record {
      same : AreMet d (conditions_from (map condition_of (drop l.condition-index l.conditions))) n
          ↔ AreMet d (conditions_from (map condition_of l.conditions)) n;
      kept : l.fn.tests ≤ l.tests;
      spent : l.tests + compound_cost d (conditions_from (map condition_of (drop l.condition-index l.conditions))) n
          ≤ l.fn.tests + compound_cost d (conditions_from (map condition_of l.conditions)) n;
    }

abbrev pub invariant-matches_any-loop-selector : goal.invariant-matches_any-loop-selector
invariant-matches_any-loop-selector g l =
    let d = g.E.Element.document in
    let n = g.E.Element.node l.element in
    record {
      same : MatchesAny d (selectors_from (map complex_of (drop l.selector-index l.selectors))) n
          ↔ MatchesAny d (selectors_from (map complex_of l.selectors)) n;
      kept : l.fn.tests ≤ l.tests;
      spent : l.tests + list_cost d (selectors_from (map complex_of (drop l.selector-index l.selectors))) n
          ≤ l.fn.tests + list_cost d (selectors_from (map complex_of l.selectors)) n;
    }
