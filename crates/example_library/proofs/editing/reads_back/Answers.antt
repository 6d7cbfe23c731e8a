use Rattle.std.proofs.Common.{◌≡◌, ◌∷◌, [], ap, sym, ◌∙◌, subst}
use Rattle.std.specs.Bool.{Decides}
use Rattle.simplecss.specs.Printing.{sheet_text}
use Rattle.simplecss.specs.RuleViews.{rules_in}
use Rattle.simplecss.specs.Sheets.{sheet as sheet_of}
use Rattle.simplecss.specs.ThisEdition.{this_edition}
use Rattle.simplecss.proofs.RuleEquality.{rules_decide}
use Rattle.example_library.proofs.editing.reads_back.Goals as goal

pub returns : goal.returns
returns c =
    let again = c.in_ok-again.again in
    let sheet = c.args.sheet.now in
    let text : c.as_str.result.now ≡ sheet_text (rules_in sheet) =
    c.as_str.ensures.value ∙ c.in_ok-printed.ensures.ok in
    let read : rules_in again ≡ sheet_of this_edition (sheet_text (rules_in sheet) ∷ []) =
    c.in_ok-again.ensures.sheet ∙ ap (λ t. sheet_of this_edition (t ∷ [])) text in
    let same : Decides c.eq.result (rules_in again ≡ rules_in sheet) =
    subst (λ b. Decides b (rules_in again ≡ rules_in sheet)) (sym c.eq.ensures)
    (rules_decide again.rules.items sheet.rules.items) in
    subst (λ rules. Decides c.eq.result (rules ≡ rules_in sheet)) read same
