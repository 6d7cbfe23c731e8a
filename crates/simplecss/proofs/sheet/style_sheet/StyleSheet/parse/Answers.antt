use Rattle.std.proofs.Common.{◌≡◌, [], ◌∙◌, false}
use Rattle.std.proofs.lemmas.List.Elements.{All-nil, All-cons}
use Rattle.css_text.specs.Characters.{first_edition}
use Rattle.simplecss_grammar.specs.PrintingLaws.{has_wide_space}
use Rattle.css_text.specs.ThisEdition.{this_edition}
use Rattle.simplecss_grammar.proofs.editions.SheetEditions.{sheet-editions}
use Rattle.simplecss.proofs.sheet.style_sheet.StyleSheet.parse.Goals as goal

pub returns-in-Ok-clause-sheet : goal.returns-in-Ok-clause-sheet
returns-in-Ok-clause-sheet g c =
    (rw c.in-Ok.is at c.read.ensures.sheet_of) [] c.new-sheet.ensures.sheet

pub returns-in-Ok-clause-prints_back : goal.returns-in-Ok-clause-prints_back
returns-in-Ok-clause-prints_back g c narrow =
    (rw c.in-Ok.is at c.read.ensures.prints_back) [] (All-nil _)
    (All-cons (λ text. has_wide_space text ≡ false) c.args.text.now [] narrow (All-nil _))
    c.new-sheet.ensures.sheet

pub returns-in-Ok-clause-editions : goal.returns-in-Ok-clause-editions
returns-in-Ok-clause-editions g c common =
    returns-in-Ok-clause-sheet g c
    ∙ sheet-editions this_edition first_edition c.args.text.now common
