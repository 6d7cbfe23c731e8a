use Rattle.std.proofs.Common.{true, refl}
use Rattle.css_text.proofs.round_trip.StyledWrites.{styled_three}
use Rattle.css_selector_text.proofs.printing.write_numbered.Goals as goal

pub returns : goal.returns
returns g c = λ flush ok.
    let one = c.in_ok-write_str.ensures.styled flush (refl {a = true}) in
    let two = c.in_ok-write_progression.ensures one.flush (refl {a = true}) in
    let three = c.write_str-2.ensures.styled two.flush ok in
    styled_three _ _ _ _ _ _ _ _ _ one two three refl
