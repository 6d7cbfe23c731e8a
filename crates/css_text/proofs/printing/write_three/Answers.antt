use Rattle.std.proofs.Common.{refl}
use Rattle.css_text.proofs.round_trip.StyledWrites.{styled_three}
use Rattle.css_text.proofs.printing.write_three.Goals as goal

pub returns : goal.returns
returns g c flush ok =
    let one = c.in_ok-write_str.ensures.styled flush refl in
    let two = c.in_ok-write_str-2.ensures.styled one.flush refl in
    let three = c.write_str-3.ensures.styled two.flush ok in
    styled_three g.W.Write.write_str_gives _ _ _ _ _ _ _ _ one two three refl
