use Rattle.std.proofs.Common.{map, ap, ◌∙◌}
use Rattle.css_selector_text.specs.NameViews.{names_of, prefix_of}
use Rattle.call_answers.specs.Calls.{declared_by, passed_of, passed_names}
use Rattle.page_calls.specs.ModernCalls.{IsModernRefusalCall}
use Rattle.page_calls.proofs.ModernCalls.{refusal-due, refusal-tree-failed}
use Rattle.call_answers.proofs.Handing.{handed-on}
use Rattle.page_calls.proofs.modern.refusal.Goals as goal

pub returns-in_err-read : goal.returns-in_err-read
returns-in_err-read c =
    let passed = passed_of c.args.tree in
    let error = c.in_err-read.field-0.0 in
    handed-on (IsModernRefusalCall c.args.text.now passed) c.from_residual-in_err-read.result error
    c.from_residual-in_err-read.ensures.1
    (refusal-tree-failed c.args.text.now passed error c.in_err-read.ensures)

pub returns : goal.returns
returns c =
    let passed = passed_of c.args.tree in
    refusal-due c.args.text.now c.in_ok-text.text.now passed (names_of c.names_in.result) c.in_ok-read.read.rows
    c.in_ok-text.ensures.0 c.in_ok-text.ensures.1 c.in_ok-read.ensures.0 c.in_ok-read.ensures.1
    (c.names_in.ensures
    ∙ ap (λ states. declared_by states (map prefix_of c.in_ok-read.read.prefixes.items)) c.in_ok-read.ensures.2
    ∙ ap (declared_by (passed_names passed)) c.in_ok-read.ensures.3) c.refusal.result c.refusal.ensures
