use Rattle.std.proofs.Common.{true, refl, ap}
use Rattle.css_text.proofs.round_trip.StyledWrites.{styled_two}
use Rattle.css_selector_text.specs.printing.Printing.{parts_text, pseudo_element_text}
use Rattle.css_selector_text.proofs.round_trip.PrintLemmas.{both}
use Rattle.css_selector_text.proofs.printing.SelectorDisplay.fmt.Goals as goal

pub returns-clause-styled : goal.returns-clause-styled
returns-clause-styled g c = λ flush ok.
    let one = c.in_ok-write_parts.ensures flush (refl {a = true}) in
    let two = c.write_pseudo_element.ensures one.flush ok in
    styled_two _ _ _ _ _ _ _ one two
    (both (ap parts_text c.parts.ensures.same) (ap pseudo_element_text c.pseudo_element.ensures))
