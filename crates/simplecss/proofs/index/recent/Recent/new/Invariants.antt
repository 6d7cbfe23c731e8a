use Rattle.std.specs.List.{All}
use Rattle.simplecss.specs.internal.Recents.{IsSlotOf}
use Rattle.simplecss.proofs.index.recent.Recent.new.Given as goal

abbrev pub invariant-slots : goal.invariant-slots
invariant-slots l = All (IsSlotOf l.index) l.slots.items
