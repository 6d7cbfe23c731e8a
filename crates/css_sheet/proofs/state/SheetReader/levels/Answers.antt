use Rattle.std.proofs.Common.{◌∙◌, ap, map, List}
use Rattle.css_sheet.specs.declared.state.Level.{Level}
use Rattle.css_sheet.specs.ReaderViews.{level_of, condition_at}
use Rattle.css_sheet.proofs.SheetSteps.{levels-conditions}
use Rattle.css_sheet.proofs.state.SheetReader.levels.Goals as goal

pub returns : goal.returns
returns c =
    ap (λ (ls : List Level). map (λ level. condition_at (level_of level)) ls) c.deref.ensures.value
    ∙ levels-conditions c.args.self.now.levels.items
