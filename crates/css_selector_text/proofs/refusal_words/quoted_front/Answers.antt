use Rattle.css_selector_text.specs.RefusalWords.{is_quoted}
use Rattle.css_selector_text.proofs.TextLemmas.{quoted_low, run_boundary}
use Rattle.css_selector_text.proofs.refusal_words.quoted_front.Goals as goal

pub range-requires-clause-end_boundary : goal.range-requires-clause-end_boundary
range-requires-clause-end_boundary c =
    run_boundary (is_quoted c.args.quoted) (quoted_low c.args.quoted) c.args.text.now
    c.as_bytes.result.now c.quoted_len-len.result c.as_bytes.ensures.value
    c.quoted_len-len.ensures.count
