use Rattle.std.proofs.Common.{◌≡◌, ◌≤◌, ℕ, List, sym, subst, arith}
use Rattle.std.specs.Str.{IsCharBoundary}
use Rattle.css_text.specs.Positions.{position}
use Rattle.simplecss_grammar.proofs.cutting.RestBoundaries.{boundary_at_rest}
use Rattle.simplecss.specs.declared.place.Place.{Place}
use Rattle.simplecss.specs.Places.{IsPlace}
use Rattle.simplecss.proofs.PlaceLemmas.{place-start}
use Rattle.simplecss.proofs.place.Place.find.Goals as goal
use Rattle.simplecss.proofs.place.Place.find.Goals.{then-offset-self, else-offset-self}

pub returns : goal.returns
returns c known ends =
    let text : List ℕ = c.args.text.now in
    let offset : ℕ = c.saturating_sub-offset.result in
    let boundary : IsCharBoundary text offset =
    subst (IsCharBoundary text) (sym c.saturating_sub-offset.ensures)
    (boundary_at_rest text c.args.rest.now ends c.utf8.rest) in
    let counted : c.position_from-pos.result ≡ position text offset =
    elim c.if-offset-self.branch [
      | then-offset-self w ↦ c.position_from-pos.ensures (subst (IsPlace text) (sym w.from-is)
          (place-start text c.utf8.text)) boundary
          (subst (λ (k : Place). k.offset ≤ offset) (sym w.from-is) (omega arith))
      | else-offset-self w ↦
          c.position_from-pos.ensures (subst (IsPlace text) (sym w.from-is) known) boundary (subst
          (λ (k : Place). k.offset ≤ offset) (sym w.from-is) (omega (arith, w.if-offset-self)))
    ] in
    ((boundary, counted), c.saturating_sub-offset.ensures)
