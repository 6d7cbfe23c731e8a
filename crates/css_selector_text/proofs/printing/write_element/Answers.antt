use Rattle.std.proofs.Common.{true, refl}
use Rattle.css_text.proofs.round_trip.StyledWrites.{styled_two}
use Rattle.css_selector_text.proofs.printing.write_element.Goals as goal

pub returns : goal.returns
returns g c = λ flush ok.
    let one = c.in_ok-write_named.ensures flush (refl {a = true}) in
    let two = c.write_any_argument.ensures one.flush ok in
    styled_two _ _ _ _ _ _ _ one two (rw c.as_str.ensures.value refl)
