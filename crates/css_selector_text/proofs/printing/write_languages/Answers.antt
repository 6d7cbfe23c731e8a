use Rattle.std.proofs.Common.{◌≡◌, ◌∷◌, true, refl, ap, rules}
use Rattle.css_text.proofs.round_trip.StyledWrites.{styled_two}
use Rattle.std.specs.Cow.{cow_str_bytes}
use Rattle.css_selector_text.specs.printing.Printing.{string_text}
use Rattle.css_selector_text.proofs.round_trip.PrintLemmas.{list_first}
use Rattle.css_selector_text.proofs.printing.write_languages.Goals as goal

pub returns : goal.returns
returns g c = λ flush ok.
    let split : c.args.ranges.now ≡ c.in-Some.first.now ∷ c.in-Some.rest.now = search rules in
    let one = c.in_ok-write_string.ensures flush (refl {a = true}) in
    let two = c.write_ranges.ensures one.flush ok in
    styled_two _ _ _ _ _ _ _ one two
    (list_first string_text cow_str_bytes c.args.ranges.now c.in-Some.first.now c.in-Some.rest.now _
    (ap string_text c.as_str.ensures.value) split)
