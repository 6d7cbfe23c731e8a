use Rattle.std.proofs.Common.{refl}
use Rattle.css_text.proofs.round_trip.StyledWrites.{styled_three}
use Rattle.simplecss_selector.proofs.printing.write_component.Goals as goal

pub returns : goal.returns
returns g c flush ok =
    let one = c.in_ok-write_str.ensures.styled flush refl in
    let two = c.in_ok-write_str-2.ensures.styled one.flush refl in
    let three = c.write_subselectors.ensures two.flush ok in
    styled_three g.W.Write.write_str_gives _ _ _ _ _ _ _ _ one two three
    (rw (c.before-2.ensures, c.name_or_star.ensures) refl)
