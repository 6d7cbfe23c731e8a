use Rattle.std.proofs.Common.{◌<◌, ◌++◌, length, refl, true, sym, ap, ◌∙◌, arith, rules}
use Rattle.std.specs.List.{flat_map}
use Rattle.std.specs.Prelude.{codes}
use Rattle.std.proofs.lemmas.List.{take_all}
use Rattle.std.proofs.Output.{has_written_styled_of_eq}
use Rattle.std.proofs.lemmas.List.Folds.{flat_map-map}
use Rattle.std.specs.Cow.{cow_str_bytes}
use Rattle.css_selector_text.specs.printing.Printing.{further_text, string_text}
use Rattle.css_text.proofs.round_trip.StyledWrites.{styled_step, styled_two}
use Rattle.css_selector_text.proofs.printing.write_ranges.Goals as goal

pub loop-range-preserved : goal.loop-range-preserved
loop-range-preserved g c = λ plain.
    let so_far = c.loop-range.invariant plain in
    let within : c.loop-range.range-index < length c.args.ranges.now = omega arith in
    let comma = c.in_ok-write_str.ensures.styled so_far.flush (refl {a = true}) in
    styled_step _ (λ x. further_text string_text (cow_str_bytes x)) _ _ _ _ _ _ within
    c.range-item.is so_far
    (styled_two _ _ _ _ (codes ", ") _ _ comma
    (c.write_string.ensures comma.flush (search rules))
    (ap (λ t. codes ", " ++ string_text t) c.as_str.ensures.value))

pub returns : goal.returns
returns g c = λ plain ok. has_written_styled_of_eq _ _ _ _ _
    (ap (flat_map (λ x. further_text string_text (cow_str_bytes x)))
    (take_all c.loop-range.range-index c.args.ranges.now (omega arith))
    ∙ sym (flat_map-map (further_text string_text) cow_str_bytes c.args.ranges.now))
    (c.loop-range.invariant plain)
