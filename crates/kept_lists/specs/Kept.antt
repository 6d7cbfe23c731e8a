-- What the object owns: the text, lent for a lifetime of its own; that lifetime; and what was read at it.
use Rattle.std.specs.Prelude.{Option, ℕ, [], ◌∷◌}
use Rattle.std.specs.Global.{Global}
use Rattle.std.specs.contracts.impls.GlobalAllocator.TheImpl.{ghosts}
use Rattle.kept_lists.specs.declared.read_list.ReadList.{ReadList}
use Rattle.kept_lists.specs.contracts.read_list.ReadList.{the_row}
use Rattle.handles.specs.Text.{Text, text_row}
use Rattle.handles.specs.Slot.{slot_at}
use base.Fraction.{full_share}
use base.Fml.{Fml, fsep, flft, flent}
use Rattle.std.specs.Coded.{Coded, coded_option}
use mir.Raw.{raw}
use mir.Syntax.{named}
use denote.RattleType.{RattleType}
use denote.Memory.{lone}
use denote.RawPtr.{Ptr, lies_at}
use denote.Struct.Lending.{lent_at}

-- the list at the lifetime a
abbrev pub list_row : ℕ → RattleType
list_row a = the_row (record { mir = named 0; lft = a ∷ [] })

abbrev pub list_code : Coded (Option ReadList)
list_code = coded_option (list_row 0).coded

abbrev pub lender : Global → Text → ℕ → Ptr → Fml
lender alloc text a p = fsep (flent (a ∷ []) (lies_at text_row full_share p text)) (ghosts.dealloc_token alloc (raw (lone text_row.mir)) p)

abbrev pub kept_at : Global → Text → Option ReadList → ℕ → Ptr → Ptr → Fml
kept_at alloc text words a p w =
    fsep (lent_at text_row p text (a ∷ [])) (fsep (flft (a ∷ []) full_share) (fsep (lender alloc text a p) (slot_at (list_row a) alloc words w)))
