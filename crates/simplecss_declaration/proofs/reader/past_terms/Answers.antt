use Rattle.std.proofs.Common.{sym, ap, ◌∙◌, subst, List, ℕ, refl}
use Rattle.simplecss_grammar.specs.Terms.{term}
use Rattle.css_text.specs.ThisEdition.{this_edition}
use Rattle.css_text.specs.Cursor.{rest_of}
use Rattle.simplecss_declaration.specs.internal.UnreportedFaults.{FailsAt}
use Rattle.simplecss_declaration.proofs.FaultLemmas.{passed, not_passed, failed}
use Rattle.simplecss_declaration.proofs.ValueLemmas.{terms-some, terms-none, term-takes}
use Rattle.simplecss_declaration.proofs.reader.past_terms.Goals as goal

pub terms-init : goal.terms-init
terms-init c = record {
  same = refl;
  from = c.slice_tail-from.ensures;
  left = refl;
  utf8 = c.slice_tail-from.utf8;
}

pub terms-smaller : goal.terms-smaller
terms-smaller c =
    term-takes this_edition (rest_of c.terms.s) (rest_of c.skip_term.new.s) _ c.skip_term.result
    c.skip_term.ensures.reads c.terms-test.true c.skip_gap.ensures.rest

pub terms-preserved : goal.terms-preserved
terms-preserved c =
    let text = rest_of c.terms.s in
    let after = rest_of c.skip_term.new.s in
    let read =
    passed (term this_edition text) c.skip_term.result after c.skip_term.ensures.reads
    c.terms-test.true in
    let step = terms-some this_edition text after read in
    let gap = c.skip_gap.ensures.rest in
    record {
      same = c.skip_gap.ensures.text ∙ c.skip_term.ensures.text ∙ c.terms.invariant.same;
      from = c.slice_tail-from-in-terms.ensures;
      left = rw gap (sym (ap (λ r. r.1) step) ∙ c.terms.invariant.left);
      utf8 = c.slice_tail-from-in-terms.utf8;
    }

pub returns-clause-text : goal.returns-clause-text
returns-clause-text c = c.skip_term.ensures.text ∙ c.terms.invariant.same

pub returns-clause-from : goal.returns-clause-from
returns-clause-from c =
    let text = rest_of c.terms.s in
    let after = rest_of c.skip_term.new.s in
    let fault =
    failed (term this_edition text) after
    (not_passed (term this_edition text) c.skip_term.result after c.skip_term.ensures.reads
    c.terms-test.false) in
    c.terms.invariant.from
    ∙ sym (ap (λ r. r.1) (terms-none this_edition text after fault.0 fault.1))
    ∙ c.terms.invariant.left

pub returns-clause-rest : goal.returns-clause-rest
returns-clause-rest c =
    let text = rest_of c.terms.s in
    let after = rest_of c.skip_term.new.s in
    subst (λ (t : List ℕ). FailsAt (term this_edition t) after) (sym c.terms.invariant.from)
    (not_passed (term this_edition text) c.skip_term.result after c.skip_term.ensures.reads
    c.terms-test.false)
