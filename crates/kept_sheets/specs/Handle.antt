-- What a handle of a style sheet owns: nothing where it is null, or a sheet on the heap of the C library.
use Rattle.std.specs.Prelude.{ℕ, List, Option}
use Rattle.std.specs.Global.{Global}
use Rattle.handles.specs.Slot.{slot_at}
use Rattle.kept_sheets.specs.contracts.sheet.KeptSheet.{the_row}
use base.Fml.{Fml}
use denote.RawPtr.{Ptr}

abbrev pub handle_at : Global → Option (List ℕ) → Ptr → Fml
handle_at = slot_at the_row
