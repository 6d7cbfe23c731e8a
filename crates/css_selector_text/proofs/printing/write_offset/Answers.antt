use Rattle.std.proofs.Common.{◌++◌, ◌∙◌, true, refl, sym, ap}
use Rattle.css_selector_text.specs.printing.Printing.{signed_text}
use Rattle.css_selector_text.proofs.round_trip.PrintLemmas.{offset_some}
use Rattle.css_selector_text.specs.Views.{signed_of}
use Rattle.css_text.proofs.round_trip.StyledWrites.{styled_two}
use Rattle.css_selector_text.proofs.printing.write_offset.Goals as goal

pub returns : goal.returns
returns g c = λ flush ok.
    let one = c.in_ok-write_str.ensures.styled flush (refl {a = true}) in
    let two = c.write_signed.ensures one.flush ok in
    styled_two _ _ _ _ _ _ _ one two
    (ap (λ l. l ++ signed_text (signed_of c.args.offset)) c.plus.ensures
    ∙ offset_some (signed_of c.args.offset) (sym c.is_zero.ensures ∙ c.if-is_zero.false))
