use Rattle.std.proofs.Common.{◌≡◌, ◌<◌, ℕ, Some, length}
use Rattle.std.specs.List.{slice_get}
use Rattle.css_tree.specs.Pages.{family}
use Rattle.css_tree.proofs.numbered_tree.families_of.Given as goal

-- the families of the elements so far
abbrev pub invariant-loop-index : goal.invariant-loop-index
invariant-loop-index l =
    (length l.families.items ≡ l.index)
    × ((i : ℕ) → i < l.index → (f : ℕ) × (slice_get l.families.items i ≡ Some f) × (f ≡ family l.tree i))
