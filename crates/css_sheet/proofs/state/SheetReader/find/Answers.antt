use Rattle.std.proofs.Common.{refl}
use Rattle.css_sheet.proofs.state.SheetReader.find.Goals as goal

pub returns : goal.returns
returns c = rw (c.prelude_from.ensures.read, c.block_len.ensures) refl
