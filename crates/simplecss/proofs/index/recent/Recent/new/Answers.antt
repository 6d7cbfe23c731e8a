use Rattle.std.proofs.Common.{sym, subst}
use Rattle.std.specs.List.{All}
use Rattle.simplecss.specs.internal.Recents.{IsSlotOf}
use Rattle.simplecss.proofs.RecentSlots.{no_slots, empty_more}
use Rattle.simplecss.proofs.index.recent.Recent.new.Goals as goal

pub slots-init : goal.slots-init
slots-init c = rw c.in_ok-slots.ensures.items (no_slots c.args.index.now)

pub slots-preserved : goal.slots-preserved
slots-preserved c = rw c.in_ok-push.ensures.items
    (empty_more c.args.index.now c.slots.slots.items c.slots.invariant)

pub invariant_of-result : goal.invariant_of-result
invariant_of-result c =
    subst (λ selectors. All (IsSlotOf selectors) c.slots.slots.items)
    (sym c.of.ensures) c.slots.invariant
