use Rattle.std.proofs.Common.{◌<◌, ℕ, List, [], map, arith, ap, Err}
use Rattle.simplecss.specs.DeclarationCounts.{kept_in_all}
use Rattle.simplecss.specs.RuleViews.{rules_in}
use Rattle.simplecss.specs.ThisEdition.{this_edition}
use Rattle.call_answers.specs.Calls.{IsReadWithin}
use Rattle.call_answers.proofs.Limits.{beyond}
use Rattle.port_calls.proofs.port.read_sheet.Goals as goal

pub returns-in_err-read : goal.returns-in_err-read
returns-in_err-read c =
    let texts : List (List ℕ) = map (λ text. text.now) c.args.texts.now in
    beyond (λ read. IsReadWithin c.args.limit texts (rules_in read)) c.from_residual.result
    c.in_err-read.field-0.0 (c.args.limit < kept_in_all this_edition texts)
    c.from_residual.ensures.1 (λ over.
    (c.in_err-read.ensures.limit (λ memory. absurd (cc))).0 (ap Err over))

pub returns : goal.returns
returns c =
    let texts : List (List ℕ) = map (λ text. text.now) c.args.texts.now in
    let not : ¬ (c.args.limit < kept_in_all this_edition texts) = λ over.
    absurd (cc ((c.in_ok-read.ensures.limit (λ e. absurd (cc))).1 over)) in (
      c.in_ok-read.ensures.sheet_of [] c.new-sheet.ensures.sheet,
      omega (arith, not),
    )
