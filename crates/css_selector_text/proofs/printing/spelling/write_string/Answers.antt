use Rattle.std.proofs.Common.{true, refl}
use Rattle.std.specs.Prelude.{codes}
use Rattle.css_text.proofs.round_trip.StyledWrites.{styled_three}
use Rattle.css_selector_text.proofs.printing.spelling.write_string.Goals as goal

pub returns : goal.returns
returns g c = λ flush ok.
    let one = c.in_ok-write_str.ensures.styled flush (refl {a = true}) in
    let two = c.in_ok-write_bytes.ensures one.flush (refl {a = true}) in
    let three = c.write_str-2.ensures.styled two.flush ok in
    styled_three _ _ _ _ _ (codes "\"") _ (codes "\"") _ one two three refl
