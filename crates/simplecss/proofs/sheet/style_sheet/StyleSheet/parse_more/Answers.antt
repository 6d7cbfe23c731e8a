use Rattle.css_text.specs.ThisEdition.{this_edition}
use Rattle.simplecss_grammar.proofs.cutting.CuttingLaws.{goes_on}
use Rattle.simplecss.specs.RuleViews.{rules_in}
use Rattle.simplecss.proofs.sheet.style_sheet.StyleSheet.parse_more.Goals as goal

pub returns-in-Ok-clause-pieces : goal.returns-in-Ok-clause-pieces
returns-in-Ok-clause-pieces g c =
    goes_on this_edition (rules_in c.args.self.now) c.args.text.now (rules_in c.read.new.self)
    (rw c.in-Ok.is at c.read.ensures.sheet_of)
