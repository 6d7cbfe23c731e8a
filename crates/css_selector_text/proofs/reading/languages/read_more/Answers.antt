use Rattle.std.proofs.Common.{arith, rules}
use Rattle.std.proofs.lemmas.Grind.{common_steps}
use Rattle.std.proofs.lemmas.Result.{err_from_is_err_and}
use Rattle.css_selector_text.specs.reading.Grammar.{next_range}
use Rattle.std.specs.Cow.{cow_str_bytes}
use Rattle.css_selector_text.proofs.ItemLemmas.{loop_item, loop_none, loop_over, loop_stop, finds_some, finds_none}
use Rattle.css_selector_text.proofs.reading.languages.read_more.Goals as goal

pub returns-in_err-range : goal.returns-in_err-range
returns-in_err-range c =
    let p =
    err_from_is_err_and c.from_residual-in_err-range.result c.from_residual-in_err-range.ensures.1 in
    rw (p.1, p.2) (λ ne. loop_stop cow_str_bytes next_range c.languages.ranges.items c.languages.left c.languages.rest.now
    c.in_err-range.field-0.0.why c.in_err-range.field-0.0.rest.now _ c.languages-test.true
    (c.in_err-range.ensures ne) c.languages.invariant.found)

pub returns-in-None : goal.returns-in-None
returns-in-None c =
    loop_none cow_str_bytes next_range c.languages.ranges.items c.languages.left c.languages.rest.now _
    c.languages-test.true
    (finds_none cow_str_bytes (next_range c.languages.rest.now) c.in_ok-range.field-0 c.in-None.is
    c.in_ok-range.ensures)
    c.languages.invariant.found

pub languages-preserved : goal.languages-preserved
languages-preserved c =
    record {
      text = first_of (search rules, grind (arith, common_steps));
      found = rw c.in_ok-push-in-Some.ensures.items (loop_item cow_str_bytes next_range c.languages.ranges.items
          c.in-Some.range c.languages.left c.languages.rest.now c.in-Some.after.now _
          c.languages-test.true (finds_some cow_str_bytes (next_range c.languages.rest.now) c.in_ok-range.field-0
          c.in-Some.range c.in-Some.after c.in-Some.is c.in_ok-range.ensures)
          c.languages.invariant.found);
    }

pub returns : goal.returns
returns c =
    loop_over cow_str_bytes next_range c.languages.ranges.items c.languages.left c.languages.rest.now _
    (omega (arith, c.languages-test.false)) c.languages.invariant.found
