use Rattle.std.proofs.Common.{subst, sym, string_bytes}
use Rattle.std.specs.Option.{option_map}
use Rattle.simplecss.specs.internal.Recents.{IsFound}
use Rattle.simplecss.proofs.RecentSlots.{slot_set, found_as}
use Rattle.simplecss.proofs.index.recent.Recent.keep.Goals as goal

pub invariant_of-self : goal.invariant_of-self
invariant_of-self c =
    let slot = c.in_ok-slot.slot in
    let selectors = c.self.inside.index.value in
    let class = option_map (λ value. value.now) c.args.class in
    slot_set selectors c.self.inside.slots.items c.slot_number-number.result slot c.self.invariant
    (found_as selectors (string_bytes slot.name) c.args.name.now
    (option_map string_bytes slot.class) class c.args.indices.now slot.indices.items
    (sym c.in_ok-slot.ensures.name) (sym c.in_ok-slot.ensures.class) c.in_ok-slot.ensures.indices
    (subst (λ s. IsFound s c.args.name.now class c.args.indices.now)
    (sym c.self.view_is) c.requires))
