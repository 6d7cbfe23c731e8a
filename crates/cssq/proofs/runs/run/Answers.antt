use Rattle.std.proofs.Common.{[], Err, map, subst, sym}
use Rattle.simplecss.specs.Sheets.{sheet}
use Rattle.simplecss.specs.ThisEdition.{this_edition}
use Rattle.cssq.specs.Showing.{IsShown}
use Rattle.cssq.specs.Writing.{Writes}
use Rattle.cssq.proofs.runs.run.Goals as goal

pub returns-in-Ok : goal.returns-in-Ok
returns-in-Ok g c = c.in-Ok.ensures.runs [] c.new-sheet.ensures.sheet

pub returns : goal.returns
returns g c =
    subst (λ fault. Writes
    (IsShown c.args.view (sheet this_edition (map (λ text. text.now) c.args.texts.now))) (Err fault)
    (g.W.Write.contents c.args.out.now) (g.W.Write.contents c.show.new.out))
    (sym c.fault.ensures) (c.in-Err.ensures.runs [] c.new-sheet.ensures.sheet)
