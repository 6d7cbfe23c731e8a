use Rattle.std.proofs.Common.{◌≡◌, ◌++◌, length, map}
use Rattle.css_values.specs.declared.table.Slot.TheVariants.{Unread}
use Rattle.css_values.proofs.resolution.unread_slots.Given as goal

-- Those that were passed have slots.
abbrev pub invariant-properties : goal.invariant-properties
invariant-properties l = l.slots.items ++ map (λ p. Unread) l.left ≡ map (λ p. Unread) l.properties

abbrev pub decreases-properties : goal.decreases-properties
decreases-properties l = length l.left
