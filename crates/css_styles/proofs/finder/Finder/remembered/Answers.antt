use Rattle.std.proofs.Common.{◌≡◌, ◌∙◌, sym, ap}
use Rattle.std.proofs.lemmas.Bool.Decides.{Decides-eqb}
use Rattle.std.proofs.lemmas.Slice.Eq.{slice_eq-Decides}
use Rattle.css_styles.specs.Winners.{winners}
use Rattle.css_styles.specs.internal.Remembered.{no_own}
use Rattle.css_styles.proofs.RememberedLemmas.{slot-found, slot-read}
use Rattle.css_styles.proofs.finder.Finder.remembered.Goals as goal

pub returns-in-Some-Some : goal.returns-in-Some-Some
returns-in-Some-Some c =
    let rules = c.self.inside.rules.now.rules in
    let slot = c.in-Some-Some.slot in
    let holds = slot-read rules c.self.inside.slots.items c.deref.result.now _
    c.in-Some-Some.field-0.now slot c.deref.ensures.value c.self.invariant
    c.in-Some-Some.ensures.lookup.3.0 c.in-Some-Some.ensures.lookup.1 c.in-Some-Some.field-0-is in
    let equal : slot.indices.items ≡ c.args.indices.now =
    sym c.as_slice.ensures.value
    ∙ (slice_eq-Decides Decides-eqb c.as_slice.result.now c.args.indices.now c.eq.result c.eq.ensures).0 c.if-eq.true in
    slot-found rules slot c.args.indices.now c.as_slice-in-Some-Some.result.now equal c.as_slice-in-Some-Some.ensures.value holds
    ∙ ap (λ rs. winners rs c.args.indices.now no_own) c.self.view_is
