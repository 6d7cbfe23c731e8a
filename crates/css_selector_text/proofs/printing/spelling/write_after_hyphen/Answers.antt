use Rattle.std.proofs.Common.{◌≡◌, [], true, refl, rules, arith}
use Rattle.std.specs.Prelude.{codes}
use Rattle.std.proofs.lemmas.Grind.{common_steps}
use Rattle.css_text.proofs.round_trip.StyledWrites.{styled_two}
use Rattle.css_selector_text.proofs.round_trip.PrintLemmas.{hyphen_more}
use Rattle.css_selector_text.proofs.printing.spelling.write_after_hyphen.Goals as goal

pub returns : goal.returns
returns g c = λ flush ok.
    let one = c.in_ok-write_str.ensures.styled flush (refl {a = true}) in
    let two = c.write_start.ensures one.flush ok in
    let some : c.args.name.now ≡ [] → ⊥ = first_of (search rules, grind (arith, common_steps)) in
    styled_two _ _ _ _ (codes "-") _ _ one two (hyphen_more c.args.name.now some)
