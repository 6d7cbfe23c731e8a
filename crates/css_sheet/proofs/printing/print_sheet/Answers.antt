use Rattle.css_sheet.proofs.PrintLemmas.{same-again}
use Rattle.css_sheet.proofs.printing.print_sheet.Goals as goal

pub returns-in-None-clause-again : goal.returns-in-None-clause-again
returns-in-None-clause-again c =
    same-again _ _ c.args.layout c.args.text.now _ c.in-None.is c.in_ok-out.ensures.none c.from_str.result
    c.from_str.ensures.ok
