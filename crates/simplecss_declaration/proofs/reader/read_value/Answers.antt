use Rattle.std.proofs.Common.{◌∷◌, [], sym, ap, ◌∙◌, subst, List, ℕ, refl}
use Rattle.std.specs.Str.{IsUtf8, trim}
use Rattle.css_text.specs.Reading.{before, last_or}
use Rattle.simplecss_grammar.specs.Terms.{term}
use Rattle.css_text.specs.ThisEdition.{this_edition}
use Rattle.css_text.specs.Cursor.{rest_of}
use Rattle.css_text.proofs.reading.EndsLemmas.{no_texts, ends-ends, ends-got, ends-fails, occur-to, ends-same}
use Rattle.simplecss_grammar.proofs.reading.OccurrenceLemmas.{ends-past_blank, occur-trim}
use Rattle.simplecss_grammar.proofs.reading.DeclarationsLawful.{term-occurs}
use Rattle.simplecss_declaration.proofs.FaultLemmas.{passed, not_passed, failed}
use Rattle.simplecss_declaration.proofs.ValueLemmas.{terms-some, term-takes, value-done, boundary_at_end, before-range, trimmed}
use Rattle.simplecss_declaration.proofs.reader.read_value.Goals as goal

pub terms-init : goal.terms-init
terms-init c = record {
  same = refl;
  last = rw c.slice_tail-start.ensures refl;
  left = rw c.slice_tail-start.ensures refl;
  begins = ends-same c.slice_tail-start.result.now;
  after = rw c.slice_tail-start.ensures (ends-same (rest_of c.args.s.now));
  utf8 = c.slice_tail-start.utf8;
}

pub terms-smaller : goal.terms-smaller
terms-smaller c =
    term-takes this_edition (rest_of c.terms.s) (rest_of c.skip_term.new.s) _ c.skip_term.result
    c.skip_term.ensures.reads c.terms-test.true c.skip_gap.ensures.rest

pub terms-preserved : goal.terms-preserved
terms-preserved c =
    let text = rest_of c.terms.s in
    let after = rest_of c.skip_term.new.s in
    let read = passed (term this_edition text) c.skip_term.result after c.skip_term.ensures.reads
    c.terms-test.true in
    let step = terms-some this_edition text after read in
    let gap = c.skip_gap.ensures.rest in
    record {
      same = c.skip_gap.ensures.text ∙ c.skip_term.ensures.text ∙ c.terms.invariant.same;
      last = rw (gap, c.slice_tail-end.ensures)
          (sym (ap (λ r. last_or c.terms.end.now r.0) step) ∙ c.terms.invariant.last);
      left = rw gap (sym (ap (λ r. r.1) step) ∙ c.terms.invariant.left);
      begins = rw c.slice_tail-end.ensures (ends-ends c.slice_tail-start.result.now text after
          (ends-ends c.slice_tail-start.result.now c.terms.end.now text c.terms.invariant.begins
          c.terms.invariant.after) (ends-got text no_texts (term this_edition text) tt after
          (term-occurs this_edition text) read));
      after = rw (gap, c.slice_tail-end.ensures) (ends-past_blank after);
      utf8 = c.slice_tail-end.utf8;
    }

pub range-requires-clause-end_boundary : goal.range-requires-clause-end_boundary
range-requires-clause-end_boundary c = boundary_at_end c.slice_tail-start.result.now c.terms.end.now
    c.terms.invariant.begins c.terms.invariant.utf8

pub returns-clause-reads : goal.returns-clause-reads
returns-clause-reads c =
    let fault = failed (term this_edition (rest_of c.terms.s)) (rest_of c.skip_term.new.s)
    (not_passed (term this_edition (rest_of c.terms.s)) c.skip_term.result
    (rest_of c.skip_term.new.s) c.skip_term.ensures.reads c.terms-test.false) in
    rw (← c.slice_tail-start.ensures) (
    value-done this_edition c.slice_tail-start.result.now c.terms.end.now (rest_of c.terms.s)
    (rest_of c.skip_term.new.s) fault.0 c.terms.invariant.last c.terms.invariant.left fault.1
    ∙ ap (λ (v : List ℕ). (v, rest_of c.skip_term.new.s))
    (sym (trimmed c.slice_tail-start.result.now c.terms.end.now c.range.result.now c.trim.result.now
    c.range.ensures.value c.trim.ensures.trim))
    )

pub returns-clause-occurs : goal.returns-clause-occurs
returns-clause-occurs c =
    let fault = failed (term this_edition (rest_of c.terms.s)) (rest_of c.skip_term.new.s)
    (not_passed (term this_edition (rest_of c.terms.s)) c.skip_term.result
    (rest_of c.skip_term.new.s) c.skip_term.ensures.reads c.terms-test.false) in
    rw (
      ← c.slice_tail-start.ensures,
      trimmed c.slice_tail-start.result.now c.terms.end.now c.range.result.now c.trim.result.now
          c.range.ensures.value c.trim.ensures.trim,
    )
    (occur-to c.slice_tail-start.result.now c.terms.end.now (rest_of c.skip_term.new.s)
    (trim (before c.slice_tail-start.result.now c.terms.end.now) ∷ [])
    (occur-trim c.slice_tail-start.result.now c.terms.end.now c.terms.invariant.begins
    (subst IsUtf8 (c.range.ensures.value
    ∙ before-range c.slice_tail-start.result.now c.terms.end.now) c.range.utf8))
    (ends-ends c.terms.end.now (rest_of c.terms.s)
    (rest_of c.skip_term.new.s) c.terms.invariant.after
    (ends-fails (rest_of c.terms.s) no_texts (term this_edition (rest_of c.terms.s)) fault.0
    (rest_of c.skip_term.new.s) (term-occurs this_edition (rest_of c.terms.s)) fault.1)))
