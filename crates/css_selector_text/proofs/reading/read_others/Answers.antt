use Rattle.std.proofs.Common.{arith, rules}
use Rattle.std.proofs.lemmas.Grind.{common_steps}
use Rattle.std.proofs.lemmas.Result.{err_from_is_err_and}
use Rattle.css_selector_text.specs.reading.Grammar.{next_placed}
use Rattle.css_selector_text.specs.reading.ReadViews.{read_of, placed_of}
use Rattle.css_selector_text.proofs.ItemLemmas.{loop_item, loop_none, loop_over, loop_stop, finds_some, finds_none}
use Rattle.css_selector_text.proofs.reading.read_others.Goals as goal
use Rattle.css_selector_text.specs.NameViews.{names_of}

pub returns-in_err-read : goal.returns-in_err-read
returns-in_err-read c =
    let p =
    err_from_is_err_and c.from_residual-in_err-read.result c.from_residual-in_err-read.ensures.1 in
    rw (p.1, p.2) (λ ne. loop_stop placed_of (next_placed (names_of c.args.names.now) c.args.start) c.selectors.selectors.items c.selectors.left
    c.selectors.rest.now c.in_err-read.field-0.0.why c.in_err-read.field-0.0.rest.now _
    c.selectors-test.true (c.in_err-read.ensures ne) c.selectors.invariant.found)

pub returns-in-None : goal.returns-in-None
returns-in-None c =
    loop_none placed_of (next_placed (names_of c.args.names.now) c.args.start) c.selectors.selectors.items c.selectors.left c.selectors.rest.now _
    c.selectors-test.true
    (finds_none read_of (next_placed (names_of c.args.names.now) c.args.start c.selectors.rest.now) c.in_ok-read.field-0 c.in-None.is
    c.in_ok-read.ensures)
    c.selectors.invariant.found

pub selectors-preserved : goal.selectors-preserved
selectors-preserved c =
    record {
      text = first_of (search rules, grind (arith, common_steps));
      found = rw c.in_ok-push-in-Some.ensures.items
          (loop_item placed_of (next_placed (names_of c.args.names.now) c.args.start) c.selectors.selectors.items c.listed_of-in-Some.result
          c.selectors.left c.selectors.rest.now c.in-Some.after.now _ c.selectors-test.true
          (rw c.listed_of-in-Some.ensures (finds_some read_of (next_placed (names_of c.args.names.now) c.args.start c.selectors.rest.now)
          c.in_ok-read.field-0 c.in-Some.read c.in-Some.after c.in-Some.is c.in_ok-read.ensures))
          c.selectors.invariant.found);
    }

pub returns : goal.returns
returns c =
    loop_over placed_of (next_placed (names_of c.args.names.now) c.args.start) c.selectors.selectors.items c.selectors.left c.selectors.rest.now _
    (omega (arith, c.selectors-test.false)) c.selectors.invariant.found
