use Rattle.std.proofs.Common.{◌≡◌, ◌∙◌, map, rules, sym, subst}
use Rattle.css_values.specs.Views.{property_of}
use Rattle.css_values.specs.internal.Paths.{Resolving}
use Rattle.css_values.proofs.ResolvingLemmas.{resolving-begins, unread-of}
use Rattle.css_values.proofs.resolution.computed_slots.Goals as goal

pub compute_first-requires : goal.compute_first-requires
compute_first-requires c =
    let same : c.deref_mut.result.now ≡ c.in_ok-slots.slots.items = search rules in
    subst (λ properties. Resolving c.args.limit properties c.deref_mut.result.now 0)
    (sym c.in_ok-table.ensures)
    (resolving-begins c.args.limit (map property_of c.args.properties.now) c.deref_mut.result.now
    (same ∙ c.in_ok-slots.ensures ∙ sym (unread-of c.args.properties.now)))
