use Rattle.std.proofs.Common.{true, false, refl, sym, ◌∙◌, ◌≡◌, ◌==◌, arith}
use Rattle.std.specs.Prelude.{codes}
use Rattle.std.proofs.lemmas.Bool.Decides.{nat_tests}
use Rattle.css_text.proofs.round_trip.StyledWrites.{styled_two}
use Rattle.css_selector_text.proofs.round_trip.PrintLemmas.{sign_text}
use Rattle.css_selector_text.proofs.printing.spelling.write_escape.Goals as goal

pub returns : goal.returns
returns g c = λ flush ok.
    let some : (c.args.byte == 0) ≡ false = grind (arith, nat_tests, c.if-byte-eq0.false) in
    let one = c.in_ok-write_str.ensures.styled flush (refl {a = true}) in
    let two = c.write_char-2.ensures.styled one.flush ok in
    styled_two _ _ _ _ (codes "\\") _ _ one two
    (sign_text c.args.byte c.from.result some (sym c.is_control.ensures ∙ c.if-is_control.false)
    c.requires c.from.ensures)
