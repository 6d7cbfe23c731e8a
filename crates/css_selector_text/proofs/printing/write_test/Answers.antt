use Rattle.std.proofs.Common.{true, refl, ap}
use Rattle.css_selector_text.specs.printing.Printing.{string_text}
use Rattle.css_selector_text.proofs.round_trip.PrintLemmas.{all_three}
use Rattle.css_text.proofs.round_trip.StyledWrites.{styled_three}
use Rattle.css_selector_text.proofs.printing.write_test.Goals as goal

pub returns : goal.returns
returns g c = λ flush ok.
    let one = c.in_ok-write_str.ensures.styled flush (refl {a = true}) in
    let two = c.in_ok-write_string.ensures one.flush (refl {a = true}) in
    let three = c.write_str-2.ensures.styled two.flush ok in
    styled_three _ _ _ _ _ _ _ _ _ one two three
    (all_three c.operator.ensures (ap string_text c.as_str.ensures.value) c.flag.ensures)
