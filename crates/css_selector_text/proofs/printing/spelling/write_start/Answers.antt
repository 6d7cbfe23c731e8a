use Rattle.std.proofs.Common.{◌≡◌, true, refl, arith, rules}
use Rattle.std.proofs.lemmas.Grind.{common_steps}
use Rattle.css_text.specs.Bytes.{is_digit}
use Rattle.css_text.proofs.round_trip.StyledWrites.{styled_two}
use Rattle.css_selector_text.proofs.round_trip.PrintLemmas.{start_digit}
use Rattle.css_selector_text.proofs.printing.spelling.write_start.Goals as goal

pub returns-in_ok-write_code_point-in-Some : goal.returns-in_ok-write_code_point-in-Some
returns-in_ok-write_code_point-in-Some g c = λ flush ok.
    let one = c.in_ok-write_code_point-in-Some.ensures flush (refl {a = true}) in
    let two = c.write_bytes.ensures one.flush ok in
    let digit : is_digit c.in-Some.byte ≡ true =
    first_of (search rules, grind (arith, common_steps)) in
    styled_two _ _ _ _ _ _ _ one two
    (start_digit c.args.name.now c.in-Some.byte c.in-Some.rest.now c.in-Some.ensures.0 digit)
