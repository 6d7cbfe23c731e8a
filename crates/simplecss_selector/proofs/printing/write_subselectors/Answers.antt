use Rattle.std.proofs.Common.{◌<◌, length, sym, ap, ◌∙◌, arith, rules}
use Rattle.std.specs.List.{flat_map}
use Rattle.std.proofs.lemmas.List.{take_all}
use Rattle.std.proofs.Output.{has_written_styled_of_eq}
use Rattle.std.proofs.lemmas.List.Folds.{flat_map-map}
use Rattle.simplecss_grammar.specs.Printing.{subselector_text}
use Rattle.simplecss_selector.specs.internal.SelectorViews.{subselector_of}
use Rattle.css_text.proofs.round_trip.StyledWrites.{styled_step_at}
use Rattle.simplecss_selector.proofs.printing.write_subselectors.Goals as goal

pub loop-subselector-preserved : goal.loop-subselector-preserved
loop-subselector-preserved g c = λ plain.
    let so_far = c.loop-subselector.invariant plain in
    let within : c.loop-subselector.subselector-index < length c.args.subselectors.now =
    omega arith in
    styled_step_at _ (λ s. subselector_text (subselector_of s)) _ _ _ _ _ _ within so_far
    (c.write_subselector.ensures so_far.flush (search rules))

pub returns : goal.returns
returns g c = λ plain ok. has_written_styled_of_eq _ _ _ _ _
    (ap (flat_map (λ s. subselector_text (subselector_of s)))
    (take_all c.loop-subselector.subselector-index c.args.subselectors.now (omega arith))
    ∙ sym (flat_map-map subselector_text subselector_of c.args.subselectors.now))
    (c.loop-subselector.invariant plain)
