-- What the object owns: the copy of a tree, lent for a lifetime of its own; that lifetime; and what was read at it.
use Rattle.std.specs.Prelude.{Option, ℕ, [], ◌∷◌}
use Rattle.std.specs.Global.{Global}
use Rattle.std.specs.contracts.impls.GlobalAllocator.TheImpl.{ghosts}
use Rattle.kept_pages.specs.Pages.{PageText}
use Rattle.kept_pages.specs.contracts.arrays.PageArrays as Arrays
use Rattle.kept_pages.specs.contracts.read_page.ReadPage.{the_row}
use Rattle.kept_pages.specs.declared.arrays.PageArrays.{PageArrays}
use Rattle.handles.specs.Slot.{slot_at}
use base.Fraction.{full_share}
use base.Fml.{Fml, fsep, flft, flent}
use Rattle.std.specs.Coded.{Coded, coded_option}
use mir.Raw.{raw}
use mir.Syntax.{named}
use denote.RattleType.{RattleType}
use denote.Memory.{lone}
use denote.RawPtr.{Ptr, lies_at}
use denote.Struct.Lending.{lent_at}

-- the copy of a tree
abbrev pub arrays_row : RattleType
arrays_row = Arrays.the_row

-- the page at the lifetime a
abbrev pub page_row : ℕ → RattleType
page_row a = the_row (record { mir = named 0; lft = a ∷ [] })

abbrev pub page_code : Coded (Option PageText)
page_code = coded_option (page_row 0).coded

abbrev pub lender : Global → PageArrays → ℕ → Ptr → Fml
lender alloc arrays a p =
    fsep (flent (a ∷ []) (lies_at arrays_row full_share p arrays)) (ghosts.dealloc_token alloc (raw (lone arrays_row.mir)) p)

abbrev pub kept_at : Global → PageArrays → Option PageText → ℕ → Ptr → Ptr → Fml
kept_at alloc arrays page a p w =
    fsep (lent_at arrays_row p arrays (a ∷ []))
    (fsep (flft (a ∷ []) full_share) (fsep (lender alloc arrays a p) (slot_at (page_row a) alloc page w)))
