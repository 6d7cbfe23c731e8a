-- What a handle of a query owns: nothing where it is null, or a query on the heap of the C library.
use Rattle.std.specs.Prelude.{Option}
use Rattle.std.specs.Global.{Global}
use Rattle.handles.specs.Slot.{slot_at}
use Rattle.kept_queries.specs.Sources.{QuerySource}
use Rattle.kept_queries.specs.contracts.query.KeptQuery.{the_row}
use base.Fml.{Fml}
use denote.RawPtr.{Ptr}

abbrev pub handle_at : Global → Option QuerySource → Ptr → Fml
handle_at = slot_at the_row
