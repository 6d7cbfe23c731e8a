use Rattle.css_text.proofs.bytes.CutLemmas.{IsCharBoundary-after_found}
use Rattle.css_text.proofs.scan.string_len.Goals as goal

pub returns-clause-after : goal.returns-clause-after
returns-clause-after c =
    IsCharBoundary-after_found c.args.text.now c.args.quote c.quote_offset.result c.utf8.text
    c.requires (rw (← c.as_bytes.ensures.value) c.quote_offset.ensures.quote)
