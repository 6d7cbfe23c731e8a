-- What a slot owns: nothing where it is null, or a value on the heap of the C library.
use Rattle.std.specs.Prelude.{Option, None, Some, ◌≡◌}
use Rattle.std.specs.Box.Ownership.{box_owns}
use Rattle.std.specs.Global.{Global}
use Rattle.std.specs.contracts.impls.GlobalAllocator.TheImpl.{ghosts}
use base.Fml.{Fml, ftrue, fex}
use denote.RattleType.{RattleType}
use denote.RawPtr.{Ptr, null_ptr}

abbrev pub slot_at : (R : RattleType) → Global → Option R.Denot → Ptr → Fml
slot_at R alloc None p = fex (p ≡ null_ptr) (λ _. ftrue)
slot_at R alloc (Some x) p = box_owns (ghosts.dealloc_token alloc) R p x
