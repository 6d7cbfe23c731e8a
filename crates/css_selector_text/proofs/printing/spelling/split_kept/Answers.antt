use Rattle.css_selector_text.specs.printing.Printing.{is_kept}
use Rattle.css_selector_text.proofs.round_trip.PrintLemmas.{kept_low}
use Rattle.css_selector_text.proofs.TextLemmas.{run_boundary}
use Rattle.css_selector_text.proofs.printing.spelling.split_kept.Goals as goal

pub range-requires-clause-end_boundary : goal.range-requires-clause-end_boundary
range-requires-clause-end_boundary c =
    run_boundary (is_kept c.args.quote) (kept_low c.args.quote c.requires) c.args.text.now
    c.as_bytes.result.now c.kept_len-len.result c.as_bytes.ensures.value
    c.kept_len-len.ensures.count

pub range_from-requires : goal.range_from-requires
range_from-requires c = λ some.
    run_boundary (is_kept c.args.quote) (kept_low c.args.quote c.requires) c.args.text.now
    c.as_bytes.result.now c.kept_len-len.result c.as_bytes.ensures.value
    c.kept_len-len.ensures.count
