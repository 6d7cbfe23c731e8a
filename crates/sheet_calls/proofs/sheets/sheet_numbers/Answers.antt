use Rattle.std.proofs.Common.{◌≡◌, ◌≤◌, ◌<◌, length, subst, ◌∙◌}
use Rattle.std.specs.Prelude.{MatchResult}
use Rattle.std.specs.List.{flat_map}
use Rattle.css_selector_text.specs.Names.{Names}
use Rattle.css_sheet.specs.SheetItems.{sheet_items}
use Rattle.call_answers.specs.Calls.{FailsLonger}
use Rattle.call_answers.specs.SheetNumbers.{sheet_numbers, statement_numbers}
use Rattle.call_answers.proofs.PageLines.{memory_due}
use Rattle.sheet_calls.proofs.sheets.sheet_numbers.Goals as goal

pub returns-in_err-namespaces : goal.returns-in_err-namespaces
returns-in_err-namespaces c =
    let most = c.args.most in
    let whole = sheet_numbers c.args.text.now in
    memory_due (λ out. (out.items ≡ whole) × (length out.items ≤ most))
    (most < length whole) c.from_residual.result c.from_residual.ensures.1

pub returns-in_err-declared : goal.returns-in_err-declared
returns-in_err-declared c =
    let most = c.args.most in
    let whole = sheet_numbers c.args.text.now in
    memory_due (λ out. (out.items ≡ whole) × (length out.items ≤ most))
    (most < length whole) c.from_residual-in_err-declared.result c.from_residual-in_err-declared.ensures.1

-- the names are those that the sheet declares
pub returns : goal.returns
returns c =
    let most = c.args.most in
    let items = sheet_items c.args.text.now in
    subst (λ (names : Names). MatchResult c.numbers_with.result
    (λ out. (out.items ≡ flat_map (statement_numbers names) items) × (length out.items ≤ most))
    (FailsLonger (most < length (flat_map (statement_numbers names) items))))
    (c.names.ensures ∙ c.in_ok-declared.ensures ∙ c.in_ok-namespaces.ensures) c.numbers_with.ensures
