-- What a handle of a page owns: nothing where it is null, or a page on the heap of the C library.
use Rattle.std.specs.Prelude.{Option}
use Rattle.std.specs.Global.{Global}
use Rattle.handles.specs.Slot.{slot_at}
use Rattle.kept_pages.specs.Sources.{PageSource}
use Rattle.kept_pages.specs.contracts.page.KeptPage.{the_row}
use base.Fml.{Fml}
use denote.RawPtr.{Ptr}

abbrev pub handle_at : Global → Option PageSource → Ptr → Fml
handle_at = slot_at the_row
