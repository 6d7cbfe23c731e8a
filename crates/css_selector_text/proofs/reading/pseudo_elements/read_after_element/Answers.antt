use Rattle.std.proofs.Common.{arith, rules}
use Rattle.std.proofs.lemmas.Grind.{common_steps}
use Rattle.std.proofs.lemmas.Result.{err_from_is_err_and}
use Rattle.css_selector_text.specs.reading.Grammar.{after_element}
use Rattle.css_selector_text.specs.Views.{condition_of}
use Rattle.css_selector_text.proofs.ItemLemmas.{loop_item, loop_none, loop_over, loop_stop, finds_some, finds_none}
use Rattle.css_selector_text.proofs.reading.pseudo_elements.read_after_element.Goals as goal
use Rattle.css_selector_text.specs.NameViews.{names_of}

pub returns-in_err-condition : goal.returns-in_err-condition
returns-in_err-condition c =
    let p =
    err_from_is_err_and c.from_residual.result c.from_residual.ensures.1 in
    rw (p.1, p.2) (λ ne. loop_stop condition_of (after_element (names_of c.args.names.now)) c.conditions.conditions.items c.conditions.left c.conditions.rest.now
    c.in_err-condition.field-0.0.why c.in_err-condition.field-0.0.rest.now _ c.conditions-test.true
    (c.in_err-condition.ensures ne) c.conditions.invariant.found)

pub returns-in-None : goal.returns-in-None
returns-in-None c =
    loop_none condition_of (after_element (names_of c.args.names.now)) c.conditions.conditions.items c.conditions.left c.conditions.rest.now _
    c.conditions-test.true
    (finds_none condition_of (after_element (names_of c.args.names.now) c.conditions.rest.now) c.in_ok-condition.field-0 c.in-None.is
    c.in_ok-condition.ensures)
    c.conditions.invariant.found

pub conditions-preserved : goal.conditions-preserved
conditions-preserved c =
    record {
      text = first_of (search rules, grind (arith, common_steps));
      found = rw c.in_ok-push-in-Some.ensures.items (loop_item condition_of (after_element (names_of c.args.names.now)) c.conditions.conditions.items
          c.in-Some.condition c.conditions.left c.conditions.rest.now c.in-Some.after.now _
          c.conditions-test.true (finds_some condition_of (after_element (names_of c.args.names.now) c.conditions.rest.now) c.in_ok-condition.field-0
          c.in-Some.condition c.in-Some.after c.in-Some.is c.in_ok-condition.ensures)
          c.conditions.invariant.found);
    }

pub returns : goal.returns
returns c =
    loop_over condition_of (after_element (names_of c.args.names.now)) c.conditions.conditions.items c.conditions.left c.conditions.rest.now _
    (omega (arith, c.conditions-test.false)) c.conditions.invariant.found
