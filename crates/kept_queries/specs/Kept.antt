-- What the object owns: the copy of what a query is made of, lent for a lifetime of its own; that lifetime; and what was
-- read at it.
use Rattle.std.specs.Prelude.{Option, ℕ, [], ◌∷◌}
use Rattle.std.specs.Global.{Global}
use Rattle.std.specs.contracts.impls.GlobalAllocator.TheImpl.{ghosts}
use Rattle.kept_queries.specs.Queries.{QueryText}
use Rattle.kept_queries.specs.contracts.arrays.QueryArrays as Arrays
use Rattle.kept_queries.specs.contracts.read_query.ReadQuery.{the_row}
use Rattle.kept_queries.specs.declared.arrays.QueryArrays.{QueryArrays}
use Rattle.handles.specs.Slot.{slot_at}
use base.Fraction.{full_share}
use base.Fml.{Fml, fsep, flft, flent}
use Rattle.std.specs.Coded.{Coded, coded_option}
use mir.Raw.{raw}
use mir.Syntax.{named}
use denote.RattleType.{RattleType}
use denote.Memory.{lone}
use denote.RawPtr.{Ptr, lies_at}
use denote.Struct.Lending.{lent_at}

-- the copy
abbrev pub arrays_row : RattleType
arrays_row = Arrays.the_row

-- the query at the lifetime a
abbrev pub query_row : ℕ → RattleType
query_row a = the_row (record { mir = named 0; lft = a ∷ [] })

abbrev pub query_code : Coded (Option QueryText)
query_code = coded_option (query_row 0).coded

abbrev pub lender : Global → QueryArrays → ℕ → Ptr → Fml
lender alloc arrays a p =
    fsep (flent (a ∷ []) (lies_at arrays_row full_share p arrays)) (ghosts.dealloc_token alloc (raw (lone arrays_row.mir)) p)

abbrev pub kept_at : Global → QueryArrays → Option QueryText → ℕ → Ptr → Ptr → Fml
kept_at alloc arrays query a p w =
    fsep (lent_at arrays_row p arrays (a ∷ []))
    (fsep (flft (a ∷ []) full_share) (fsep (lender alloc arrays a p) (slot_at (query_row a) alloc query w)))
