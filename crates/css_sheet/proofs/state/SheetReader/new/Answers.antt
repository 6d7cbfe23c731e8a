use Rattle.std.proofs.Common.{false, List, [], length, map, sym, subst}
use Rattle.css_sheet.specs.declared.state.Level.{Level}
use Rattle.css_sheet.specs.SheetItems.{deepest_group}
use Rattle.css_sheet.specs.NothingLost.{AreSheetItems}
use Rattle.css_sheet.specs.ReaderViews.{level_of, still}
use Rattle.css_sheet.proofs.NoneIsLost.{all-items}
use Rattle.css_sheet.proofs.state.SheetReader.new.Goals as goal

pub returns-clause-all : goal.returns-clause-all
returns-clause-all c =
    let text = c.args.text.now in
    subst (λ (levels : List Level). AreSheetItems text
    (still (map level_of levels) deepest_group false [] (length text) text))
    (sym c.new.ensures.items) (all-items deepest_group false [] (length text) text)
