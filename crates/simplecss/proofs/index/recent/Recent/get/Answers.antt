use Rattle.std.proofs.Common.{refl, subst, string_bytes}
use Rattle.std.specs.Option.{option_map}
use Rattle.simplecss.specs.internal.Recents.{IsFound}
use Rattle.simplecss.proofs.RecentSlots.{slot_read, found_as}
use Rattle.simplecss.proofs.index.recent.Recent.get.Goals as goal

pub returns-in-Some-Some : goal.returns-in-Some-Some
returns-in-Some-Some c =
    let slot = c.in-Some-Some.slot in
    let found = slot_read c.self.inside.index.value c.self.inside.slots.items c.deref.result.now
    c.slot_number.result c.in-Some-Some.field-0.now slot c.deref.ensures.value c.self.invariant
    c.in-Some-Some.ensures.lookup.3.0 c.in-Some-Some.ensures.lookup.1 c.in-Some-Some.field-0-is in
    found_as c.args.self.now c.args.name.now (string_bytes slot.name)
    (option_map (λ value. value.now) c.args.class)
    (option_map string_bytes slot.class) slot.indices.items c.as_slice.result.now
    (c.if-is_for.ensures.name refl) (c.if-is_for.ensures.class refl) c.as_slice.ensures.value
    (subst (λ selectors. IsFound selectors (string_bytes slot.name)
    (option_map string_bytes slot.class) slot.indices.items) c.self.view_is found)
