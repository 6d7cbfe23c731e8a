use Rattle.css_clean.specs.Views.{sheet_policy_of}
use Rattle.clean_calls.proofs.Kept.{kept-sheet, kept-style}
use Rattle.clean_calls.proofs.cleaning.cleaned.Goals as goal

pub returns-in-Sheet : goal.returns-in-Sheet
returns-in-Sheet c =
    kept-sheet c.args.form (sheet_policy_of c.args.policy) c.args.text.now c.clean_sheet.result c.in-Sheet.is
    c.clean_sheet.ensures.text c.clean_sheet.ensures.clean c.clean_sheet.ensures.dropped

pub returns-in-Style : goal.returns-in-Style
returns-in-Style c =
    kept-style c.args.form (sheet_policy_of c.args.policy) c.args.text.now c.clean_style.result c.in-Style.is
    c.clean_style.ensures.text c.clean_style.ensures.read c.clean_style.ensures.bytes
    c.clean_style.ensures.dropped
