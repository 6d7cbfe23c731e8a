use Rattle.std.proofs.Common.{true, refl, ap, ◌++◌}
use Rattle.css_selector_text.specs.printing.Printing.{identifier_text, namespace_text}
use Rattle.css_selector_text.specs.Views.{namespace_of}
use Rattle.css_selector_text.proofs.round_trip.PrintLemmas.{attribute_joined}
use Rattle.css_text.proofs.round_trip.StyledWrites.{styled_three}
use Rattle.css_selector_text.proofs.printing.write_attribute_in.Goals as goal

pub returns : goal.returns
returns g c = λ flush ok.
    let one = c.in_ok-write_opened.ensures flush (refl {a = true}) in
    let two = c.in_ok-write_test.ensures one.flush (refl {a = true}) in
    let three = c.write_str.ensures.styled two.flush ok in
    styled_three _ _ _ _ _ _ _ _ _
    one two three (attribute_joined _ _ _ _ _
    (ap (λ n. namespace_text (namespace_of c.args.namespace.now) ++ identifier_text n)
    c.as_str.ensures.value))
