use Rattle.std.specs.List.{All}
use Rattle.css_styles.specs.internal.Remembered.{IsSlotOf}
use Rattle.css_styles.proofs.finder.Finder.new.Given as goal

-- the slots so far are empty
abbrev pub invariant-slots : goal.invariant-slots
invariant-slots l = All (IsSlotOf l.rules.rules) l.slots.items
