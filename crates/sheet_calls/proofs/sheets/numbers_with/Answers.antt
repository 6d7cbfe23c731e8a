use Rattle.std.proofs.Common.{◌≡◌, ◌≤◌, ◌<◌, ◌++◌, length, arith}
use Rattle.std.specs.List.{flat_map}
use Rattle.std.proofs.lemmas.Grind.{common_steps}
use Rattle.css_sheet.specs.ReaderViews.{to_come}
use Rattle.css_sheet.specs.SheetItems.{sheet_items}
use Rattle.css_selector_text.specs.NameViews.{names_of}
use Rattle.call_answers.specs.SheetNumbers.{statement_numbers}
use Rattle.call_answers.proofs.PageLines.{front_longer, memory_due}
use Rattle.sheet_calls.proofs.sheets.numbers_with.Goals as goal

pub returns-in_err-part : goal.returns-in_err-part
returns-in_err-part c =
    let most = c.args.most in
    let whole = flat_map (statement_numbers (names_of c.args.names.now)) (sheet_items c.args.text.now) in
    memory_due (λ out. (out.items ≡ whole) × (length out.items ≤ most))
    (most < length whole) c.from_residual.result c.from_residual.ensures.1

pub returns-in_err-push_part : goal.returns-in_err-push_part
returns-in_err-push_part c =
    let most = c.args.most in
    let whole = flat_map (statement_numbers (names_of c.args.names.now)) (sheet_items c.args.text.now) in
    memory_due (λ out. (out.items ≡ whole) × (length out.items ≤ most))
    (most < length whole) c.from_residual-in_err-push_part.result
    c.from_residual-in_err-push_part.ensures.1

-- the numbers up to this statement are too many
pub returns-in_err-check_count : goal.returns-in_err-check_count
returns-in_err-check_count c =
    let most = c.args.most in
    let whole = flat_map (statement_numbers (names_of c.args.names.now)) (sheet_items c.args.text.now) in
    let front = c.push_part.new.out.items in
    let rest = flat_map (statement_numbers (names_of c.args.names.now)) (to_come c.read_next.new.self) in
    let same : front ++ rest ≡ whole = grind (arith, common_steps) in
    front_longer (λ out. (out.items ≡ whole) × (length out.items ≤ most)) most
    front rest whole same c.from_residual-in_err-check_count.result
    c.in_err-check_count.field-0.0 c.from_residual-in_err-check_count.ensures.1
    c.in_err-check_count.ensures
