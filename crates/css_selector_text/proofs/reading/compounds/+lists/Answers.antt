use Rattle.std.proofs.Common.{map, option_map, subst, ◌∙◌, arith, rules}
use Rattle.std.proofs.lemmas.Grind.{common_steps}
use Rattle.std.proofs.lemmas.Result.{err_from_is_err_and}
use Rattle.css_selector_text.specs.reading.Grammar.{next_simple, next_condition, next_part_in, next_listed}
use Rattle.css_selector_text.specs.internal.Reads.{Finds}
use Rattle.css_selector_text.specs.NameViews.{names_of, room_seen}
use Rattle.css_selector_text.specs.Views.{simple_of, part_of, complex_of, condition_of}
use Rattle.css_selector_text.proofs.ItemLemmas.{loop_item, loop_none, loop_over, loop_stop, finds_some, finds_none}
use Rattle.css_selector_text.specs.reading.Readings.{items}
use Rattle.css_selector_text.proofs.KeptLemmas.{kept_init, kept_item, kept_none, kept_over, kept_stop}
use Rattle.css_selector_text.proofs.NestLemmas.{condition_within, condition_plain}
use Rattle.css_selector_text.proofs.reading.compounds.+lists.Goals as goal

pub read_more-returns-in_err-condition : goal.read_more-returns-in_err-condition
read_more-returns-in_err-condition t c =
    let next = next_condition (room_seen c.args.room) in
    let p =
    err_from_is_err_and c.from_residual-in_err-condition.result c.from_residual-in_err-condition.ensures.1 in
    rw (p.1, p.2) (λ ne. loop_stop condition_of next c.conditions.conditions.items c.conditions.left c.conditions.rest.now
    c.in_err-condition.field-0.0.why c.in_err-condition.field-0.0.rest.now _ c.conditions-test.true
    (c.in_err-condition.ensures ne) c.conditions.invariant.found)

pub read_more-returns-in-None : goal.read_more-returns-in-None
read_more-returns-in-None t c =
    let next = next_condition (room_seen c.args.room) in
    loop_none condition_of next c.conditions.conditions.items c.conditions.left c.conditions.rest.now _
    c.conditions-test.true
    (finds_none condition_of (next c.conditions.rest.now) c.in_ok-condition.field-0 c.in-None.is
    c.in_ok-condition.ensures)
    c.conditions.invariant.found

pub read_more-conditions-preserved : goal.read_more-conditions-preserved
read_more-conditions-preserved t c =
    let next = next_condition (room_seen c.args.room) in
    record {
      text = first_of (search rules, grind (arith, common_steps));
      found = rw c.in_ok-push-in-Some-2.ensures.items (loop_item condition_of next c.conditions.conditions.items
          c.in-Some-2.condition c.conditions.left c.conditions.rest.now c.in-Some-2.after.now _
          c.conditions-test.true (finds_some condition_of (next c.conditions.rest.now) c.in_ok-condition.field-0
          c.in-Some-2.condition c.in-Some-2.after c.in-Some-2.is c.in_ok-condition.ensures)
          c.conditions.invariant.found);
    }

pub read_more-returns : goal.read_more-returns
read_more-returns t c =
    loop_over condition_of (next_condition (room_seen c.args.room)) c.conditions.conditions.items c.conditions.left c.conditions.rest.now _
    (omega (arith, c.conditions-test.false)) c.conditions.invariant.found

pub read_parts-returns-in_err-part : goal.read_parts-returns-in_err-part
read_parts-returns-in_err-part t c =
    let next = next_part_in (names_of c.args.room.names.now) (next_condition (room_seen c.args.room)) in
    let p =
    err_from_is_err_and c.from_residual-in_err-part.result c.from_residual-in_err-part.ensures.1 in
    rw (p.1, p.2) (λ ne. loop_stop part_of next c.parts.parts.items c.parts.left c.parts.rest.now
    c.in_err-part.field-0.0.why c.in_err-part.field-0.0.rest.now _ c.parts-test.true
    (c.in_err-part.ensures ne) c.parts.invariant.found)

pub read_parts-returns-in-None : goal.read_parts-returns-in-None
read_parts-returns-in-None t c =
    let next = next_part_in (names_of c.args.room.names.now) (next_condition (room_seen c.args.room)) in
    loop_none part_of next c.parts.parts.items c.parts.left c.parts.rest.now _
    c.parts-test.true
    (finds_none part_of (next c.parts.rest.now) c.in_ok-part.field-0 c.in-None.is
    c.in_ok-part.ensures)
    c.parts.invariant.found

pub read_parts-parts-preserved : goal.read_parts-parts-preserved
read_parts-parts-preserved t c =
    let next = next_part_in (names_of c.args.room.names.now) (next_condition (room_seen c.args.room)) in
    record {
      text = first_of (search rules, grind (arith, common_steps));
      found = rw c.in_ok-push-in-Some.ensures.items (loop_item part_of next c.parts.parts.items
          c.in-Some.part c.parts.left c.parts.rest.now c.in-Some.after.now _
          c.parts-test.true (finds_some part_of (next c.parts.rest.now) c.in_ok-part.field-0
          c.in-Some.part c.in-Some.after c.in-Some.is c.in_ok-part.ensures)
          c.parts.invariant.found);
    }

pub read_parts-returns : goal.read_parts-returns
read_parts-returns t c =
    loop_over part_of (next_part_in (names_of c.args.room.names.now) (next_condition (room_seen c.args.room))) c.parts.parts.items c.parts.left c.parts.rest.now _
    (omega (arith, c.parts-test.false)) c.parts.invariant.found

pub read_selectors-selectors-init : goal.read_selectors-selectors-init
read_selectors-selectors-init t c = record {
  text = first_of (search rules, grind (arith, common_steps));
  found = kept_init _ _ (option_map complex_of c.args.first)
      (items (next_listed (names_of c.args.room.names.now) c.args.kind (next_condition (room_seen c.args.room))) c.args.text.now)
      c.in_ok-keep.ensures (search rules);
}

pub read_selectors-returns-in_err-selector : goal.read_selectors-returns-in_err-selector
read_selectors-returns-in_err-selector t c =
    let next = next_listed (names_of c.args.room.names.now) c.args.kind (next_condition (room_seen c.args.room)) in
    let p =
    err_from_is_err_and c.from_residual-in_err-selector.result c.from_residual-in_err-selector.ensures.1 in
    rw (p.1, p.2) (λ ne. kept_stop next (map complex_of c.selectors.selectors.items) c.selectors.left c.selectors.rest.now
    c.in_err-selector.field-0.0.why c.in_err-selector.field-0.0.rest.now _ c.selectors-test.true
    (c.in_err-selector.ensures ne) c.selectors.invariant.found)

pub read_selectors-returns-in-None : goal.read_selectors-returns-in-None
read_selectors-returns-in-None t c =
    let next = next_listed (names_of c.args.room.names.now) c.args.kind (next_condition (room_seen c.args.room)) in
    kept_none next (map complex_of c.selectors.selectors.items) c.selectors.left c.selectors.rest.now _
    c.selectors-test.true
    (finds_none (option_map complex_of) (next c.selectors.rest.now) c.in_ok-selector.field-0 c.in-None.is
    c.in_ok-selector.ensures)
    c.selectors.invariant.found

pub read_selectors-selectors-preserved : goal.read_selectors-selectors-preserved
read_selectors-selectors-preserved t c =
    let next = next_listed (names_of c.args.room.names.now) c.args.kind (next_condition (room_seen c.args.room)) in
    record {
      text = first_of (search rules, grind (arith, common_steps));
      found = rw c.in_ok-keep-in-Some.ensures (kept_item next (map complex_of c.selectors.selectors.items)
          (option_map complex_of c.in-Some.selector) c.selectors.left c.selectors.rest.now c.in-Some.after.now _
          c.selectors-test.true (finds_some (option_map complex_of) (next c.selectors.rest.now) c.in_ok-selector.field-0
          c.in-Some.selector c.in-Some.after c.in-Some.is c.in_ok-selector.ensures)
          c.selectors.invariant.found);
    }

pub read_selectors-returns : goal.read_selectors-returns
read_selectors-returns t c =
    kept_over (next_listed (names_of c.args.room.names.now) c.args.kind (next_condition (room_seen c.args.room)))
    (map complex_of c.selectors.selectors.items) c.selectors.left c.selectors.rest.now _
    (omega (arith, c.selectors-test.false)) c.selectors.invariant.found

pub next_condition-returns-then-begins_pseudo_class :
    goal.next_condition-returns-then-begins_pseudo_class
next_condition-returns-then-begins_pseudo_class t c =
    subst (λ s. Finds condition_of c.read_pseudo_condition.result s)
    (condition_within (room_seen c.args.room) c.args.text.now) (search rules)

pub next_condition-returns-in_err-simple : goal.next_condition-returns-in_err-simple
next_condition-returns-in_err-simple t c =
    subst (λ s. Finds condition_of c.from_residual.result s)
    (condition_within (room_seen c.args.room) c.args.text.now) (search rules)

pub next_condition-returns-in-Some : goal.next_condition-returns-in-Some
next_condition-returns-in-Some t c =
    let here = c.past_comments-text.result.now in
    condition_plain (room_seen c.args.room) c.args.text.now here c.in-Some.rest.now c.in-Some.simple
    c.past_comments-text.ensures (search rules)
    (finds_some simple_of (next_simple (names_of c.args.room.names.now) here) c.in_ok-simple.field-0
    c.in-Some.simple c.in-Some.rest c.in-Some.is c.in_ok-simple.ensures)

pub next_condition-returns-in-None : goal.next_condition-returns-in-None
next_condition-returns-in-None t c =
    (search rules) ∙ condition_within (room_seen c.args.room) c.args.text.now
