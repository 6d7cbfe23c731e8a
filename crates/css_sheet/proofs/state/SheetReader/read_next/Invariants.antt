use Rattle.css_sheet.specs.ReaderViews.{Since, moves_left}
use Rattle.css_sheet.proofs.state.SheetReader.read_next.Given as goal

-- What the steps so far did.
abbrev pub invariant-moves : goal.invariant-moves
invariant-moves l = Since l.fn.self l.step l.self

abbrev pub decreases-moves : goal.decreases-moves
decreases-moves l = moves_left l.step l.self
