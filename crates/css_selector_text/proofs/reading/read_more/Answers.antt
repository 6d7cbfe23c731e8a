use Rattle.std.proofs.Common.{arith, rules}
use Rattle.std.proofs.lemmas.Grind.{common_steps}
use Rattle.std.proofs.lemmas.Result.{err_from_is_err_and}
use Rattle.css_selector_text.specs.reading.Grammar.{next_part}
use Rattle.css_selector_text.specs.Views.{part_of}
use Rattle.css_selector_text.proofs.ItemLemmas.{loop_item, loop_none, loop_over, loop_stop, finds_some, finds_none}
use Rattle.css_selector_text.proofs.reading.read_more.Goals as goal
use Rattle.css_selector_text.specs.NameViews.{names_of}

pub returns-in_err-part-clause-reads : goal.returns-in_err-part-clause-reads
returns-in_err-part-clause-reads c =
    let p =
    err_from_is_err_and c.from_residual-in_err-part.result c.from_residual-in_err-part.ensures.1 in
    rw (p.1, p.2) (λ ne. loop_stop part_of (next_part (names_of c.args.names.now)) c.parts.parts.items c.parts.left c.parts.rest.now
    c.in_err-part.field-0.0.why c.in_err-part.field-0.0.rest.now _ c.parts-test.true
    (c.in_err-part.ensures ne) c.parts.invariant.found)

pub returns-in-None-clause-reads : goal.returns-in-None-clause-reads
returns-in-None-clause-reads c =
    loop_none part_of (next_part (names_of c.args.names.now)) c.parts.parts.items c.parts.left c.parts.rest.now _
    c.parts-test.true
    (finds_none part_of (next_part (names_of c.args.names.now) c.parts.rest.now) c.in_ok-part.field-0 c.in-None.is
    c.in_ok-part.ensures)
    c.parts.invariant.found

pub parts-preserved : goal.parts-preserved
parts-preserved c =
    record {
      text = first_of (search rules, grind (arith, common_steps));
      found = rw c.in_ok-push-in-Some.ensures.items (loop_item part_of (next_part (names_of c.args.names.now)) c.parts.parts.items
          c.in-Some.part c.parts.left c.parts.rest.now c.in-Some.after.now _
          c.parts-test.true (finds_some part_of (next_part (names_of c.args.names.now) c.parts.rest.now) c.in_ok-part.field-0
          c.in-Some.part c.in-Some.after c.in-Some.is c.in_ok-part.ensures)
          c.parts.invariant.found);
      some = first_of (search rules, grind (arith, common_steps));
    }

pub returns-clause-reads : goal.returns-clause-reads
returns-clause-reads c =
    loop_over part_of (next_part (names_of c.args.names.now)) c.parts.parts.items c.parts.left c.parts.rest.now _
    (omega (arith, c.parts-test.false)) c.parts.invariant.found
