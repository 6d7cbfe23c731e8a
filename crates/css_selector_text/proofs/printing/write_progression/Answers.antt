use Rattle.std.proofs.Common.{◌∙◌, true, refl, sym}
use Rattle.css_text.proofs.round_trip.StyledWrites.{styled_four}
use Rattle.css_selector_text.proofs.round_trip.PrintLemmas.{steps_some}
use Rattle.css_selector_text.specs.Views.{progression_of}
use Rattle.css_selector_text.proofs.printing.write_progression.Goals as goal

pub returns : goal.returns
returns g c = λ flush ok.
    let one = c.in_ok-write_str.ensures.styled flush (refl {a = true}) in
    let two = c.in_ok-write_size.ensures one.flush (refl {a = true}) in
    let three = c.in_ok-write_str-2.ensures.styled two.flush (refl {a = true}) in
    let four = c.write_offset.ensures three.flush ok in
    styled_four _ _ _ _ _ _ _ _ _ _ _ one two three four
    (steps_some (progression_of c.args.progression) c.minus.result.now c.minus.ensures
    (sym c.is_zero.ensures ∙ c.if-is_zero.false))
