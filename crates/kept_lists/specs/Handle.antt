-- What a handle of a list owns: nothing where it is null, or a list on the heap of the C library.
use Rattle.std.specs.Prelude.{Option}
use Rattle.std.specs.Global.{Global}
use Rattle.handles.specs.Slot.{slot_at}
use Rattle.kept_lists.specs.contracts.list.KeptList.{the_row}
use Rattle.kept_lists.specs.Lists.{ListSource}
use base.Fml.{Fml}
use denote.RawPtr.{Ptr}

abbrev pub handle_at : Global → Option ListSource → Ptr → Fml
handle_at = slot_at the_row
