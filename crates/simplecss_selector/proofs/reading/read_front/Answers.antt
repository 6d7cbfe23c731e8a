use Rattle.std.proofs.Common.{true, false, drop, sym, ap, ◌∙◌}
use Rattle.std.proofs.lemmas.Result.{IfOk-from_err}
use Rattle.css_text.specs.ThisEdition.{this_edition}
use Rattle.simplecss_grammar.proofs.round_trip.ReadSelectors.{found-reads_back}
use Rattle.simplecss_selector.specs.SelectorTokenizers.{left_of, still_to_come}
use Rattle.simplecss_grammar.specs.Skipped.{add_each}
use Rattle.simplecss_selector.proofs.Drafting.{read-whole, selector_skips-is}
use Rattle.simplecss_selector.proofs.reading.read_front.Goals as goal

pub returns-in_err-fill_all-clause-selector : goal.returns-in_err-fill_all-clause-selector
returns-in_err-fill_all-clause-selector g c =
    IfOk-from_err c.from_residual.result _ c.from_residual.ensures.0

pub returns-in_err-fill_all-clause-rest : goal.returns-in_err-fill_all-clause-rest
returns-in_err-fill_all-clause-rest g c =
    IfOk-from_err c.from_residual.result _ c.from_residual.ensures.0

pub returns-in_err-fill_all-clause-boundary : goal.returns-in_err-fill_all-clause-boundary
returns-in_err-fill_all-clause-boundary g c =
    IfOk-from_err c.from_residual.result _ c.from_residual.ensures.0

pub returns-in_err-fill_all-clause-printed : goal.returns-in_err-fill_all-clause-printed
returns-in_err-fill_all-clause-printed g c =
    IfOk-from_err c.from_residual.result _ c.from_residual.ensures.0

pub returns-then-not-branch-clause-selector : goal.returns-then-not-branch-clause-selector
returns-then-not-branch-clause-selector g c = ap (λ r. r.0) (read-whole c.in_ok-fill_all.field-0
    false c.fill_all.new.draft c.new-draft.result (left_of c.fill_all.new.tokenizer) c.args.text.now
    (still_to_come c.from-tokenizer.result) c.new-draft.ensures c.from-tokenizer.ensures.sequence
    c.if-not-branch.true c.in_ok-fill_all.ensures.filled)

pub returns-then-not-branch-clause-rest : goal.returns-then-not-branch-clause-rest
returns-then-not-branch-clause-rest g c =
    ap (drop c.pos.result)
    (sym (c.in_ok-fill_all.ensures.text ∙ c.from-tokenizer.ensures.whole_text_is))
    ∙ c.pos.ensures.rest
    ∙ ap (λ r. r.1) (read-whole c.in_ok-fill_all.field-0 false c.fill_all.new.draft
    c.new-draft.result (left_of c.fill_all.new.tokenizer) c.args.text.now
    (still_to_come c.from-tokenizer.result) c.new-draft.ensures c.from-tokenizer.ensures.sequence
    c.if-not-branch.true c.in_ok-fill_all.ensures.filled)

pub returns-then-not-branch-clause-boundary : goal.returns-then-not-branch-clause-boundary
returns-then-not-branch-clause-boundary g c = rw (c.in_ok-fill_all.ensures.text
    ∙ c.from-tokenizer.ensures.whole_text_is) at c.pos.ensures.boundary

pub returns-clause-selector : goal.returns-clause-selector
returns-clause-selector g c =
    rw (← c.finish.ensures) at (ap (λ r. r.0) (read-whole c.in_ok-fill_all.field-0 true
    c.fill_all.new.draft c.new-draft.result (left_of c.fill_all.new.tokenizer) c.args.text.now
    (still_to_come c.from-tokenizer.result) c.new-draft.ensures c.from-tokenizer.ensures.sequence
    c.if-not-branch.false c.in_ok-fill_all.ensures.filled))

pub returns-clause-rest : goal.returns-clause-rest
returns-clause-rest g c =
    ap (drop c.pos-2.result)
    (sym (c.in_ok-fill_all.ensures.text ∙ c.from-tokenizer.ensures.whole_text_is))
    ∙ c.pos-2.ensures.rest
    ∙ ap (λ r. r.1) (read-whole c.in_ok-fill_all.field-0 true c.fill_all.new.draft
    c.new-draft.result (left_of c.fill_all.new.tokenizer) c.args.text.now
    (still_to_come c.from-tokenizer.result) c.new-draft.ensures c.from-tokenizer.ensures.sequence
    c.if-not-branch.false c.in_ok-fill_all.ensures.filled)

pub returns-clause-boundary : goal.returns-clause-boundary
returns-clause-boundary g c = rw (c.in_ok-fill_all.ensures.text
    ∙ c.from-tokenizer.ensures.whole_text_is) at c.pos-2.ensures.boundary

-- a selector that was read reads back
pub returns-clause-printed : goal.returns-clause-printed
returns-clause-printed g c = rw (sym (returns-clause-selector g c)) at
    (found-reads_back this_edition c.args.text.now c.utf8.text)

pub returns-then-not-branch-clause-reported : goal.returns-then-not-branch-clause-reported
returns-then-not-branch-clause-reported g c =
    c.in_ok-fill_all.ensures.reported
    ∙ ap (add_each g.P.Report.add (g.P.Report.state c.args.report.now)) (sym (selector_skips-is
    c.args.text.now (left_of c.fill_all.new.tokenizer) (still_to_come c.from-tokenizer.result)
    c.from-tokenizer.ensures.sequence (sym (returns-then-not-branch-clause-rest g c) ∙ ap (drop
    c.pos.result) (sym (c.in_ok-fill_all.ensures.text ∙ c.from-tokenizer.ensures.whole_text_is))
    ∙ c.pos.ensures.rest)))

pub returns-clause-reported : goal.returns-clause-reported
returns-clause-reported g c =
    c.in_ok-fill_all.ensures.reported
    ∙ ap (add_each g.P.Report.add (g.P.Report.state c.args.report.now))
    (sym (selector_skips-is c.args.text.now (left_of c.fill_all.new.tokenizer)
    (still_to_come c.from-tokenizer.result) c.from-tokenizer.ensures.sequence
    (sym (returns-clause-rest g c) ∙ ap (drop c.pos-2.result) (sym (c.in_ok-fill_all.ensures.text
    ∙ c.from-tokenizer.ensures.whole_text_is)) ∙ c.pos-2.ensures.rest)))
