use Rattle.std.proofs.Common.{◌∷◌, ◌+◌, set, subst, sym, arith}
use Rattle.css_values.specs.declared.table.Slot.TheVariants.{Open}
use Rattle.css_values.specs.internal.Paths.{GoesOn, circle_of, circles_of, hidden_from, slot_at, unread_circle, weights}
use Rattle.css_values.proofs.CircleLemmas.{waits-opens}
use Rattle.css_values.proofs.MergeLemmas.{merging-begins}
use Rattle.css_values.proofs.StepLemmas.{begins-room, merged-goes_on, open-none, open-some}
use Rattle.css_values.proofs.resolution.wait_for.Goals as goal

pub open-requires-clause-within : goal.open-requires-clause-within
open-requires-clause-within c = omega (arith, c.requires.unknown.1, c.requires.same_length)

pub open-requires-clause-room : goal.open-requires-clause-room
open-requires-clause-room c =
    begins-room c.args.table.now c.args.slots.now (hidden_from (circle_of c.args.last) c.args.path.now.begun)
    c.args.path.now.begun c.args.other c.requires.unknown
    (open-none (slot_at c.args.slots.now c.args.other) c.in-None.ensures)
    c.requires.same_length c.requires.room

pub returns-in_ok-next-in-Some : goal.returns-in_ok-next-in-Some
returns-in_ok-next-in-Some c = record {
  goes_on = λ limit w.
      let last = circle_of c.args.last in
      let path = circles_of c.args.path.now.circles.items in
      let opened = open-some (slot_at c.args.slots.now c.args.other) c.in-Some.place c.in-Some.ensures in
      merged-goes_on limit c.args.table.now c.args.slots.now c.args.path.now.begun (last ∷ path) _
      (c.in_ok-next-in-Some.ensures limit c.args.table.now c.args.slots.now c.args.path.now.begun
      c.args.other (weights (last ∷ path)) opened.1
      (merging-begins limit c.args.table.now c.args.slots.now c.args.path.now.begun last path
      c.args.other w c.requires.unknown opened.0));
}

pub returns-in_ok-push_last-in-None : goal.returns-in_ok-push_last-in-None
returns-in_ok-push_last-in-None c = record {
  goes_on = λ limit w.
      let table = c.args.table.now in
      let slots = c.args.slots.now in
      let begun = c.args.path.now.begun in
      let last = circle_of c.args.last in
      let path = circles_of c.args.path.now.circles.items in
      let fresh = unread_circle table begun c.args.other in
      let opens : GoesOn limit table slots (last ∷ path) (set slots c.args.other (Open begun)) (begun + 1)
      (fresh ∷ (last ∷ path)) =
      waits-opens limit table slots begun last path c.args.other w c.requires.unknown
      (open-none (slot_at slots c.args.other) c.in-None.ensures) in
      subst (λ cs. GoesOn limit table slots (last ∷ path) c.open.new.slots c.open.new.begun
      (circle_of c.open.result ∷ cs)) (sym c.in_ok-push_last-in-None.ensures)
      (subst (λ one. GoesOn limit table slots (last ∷ path) c.open.new.slots c.open.new.begun
      (one ∷ (last ∷ path))) (sym c.open.ensures.circle)
      (subst (λ n. GoesOn limit table slots (last ∷ path) c.open.new.slots n (fresh ∷ (last ∷ path)))
      (sym c.open.ensures.begun)
      (subst (λ after. GoesOn limit table slots (last ∷ path) after (begun + 1) (fresh ∷ (last ∷ path)))
      (sym c.open.ensures.slots) opens)));
}
