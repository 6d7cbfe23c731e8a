use Rattle.std.proofs.Common.{ℕ, List, ap, subst}
use Rattle.css_text.specs.Reading.{Ends}
use Rattle.css_text.proofs.reading.EndsLemmas.{ends-ends}
use Rattle.css_syntax.specs.Statements.{BlockText, block}
use Rattle.css_syntax.proofs.ItemLemmas.{block-well}
use Rattle.css_sheet.proofs.parts.begin_inside.Goals as goal

pub state_from-requires : goal.state_from-requires
state_from-requires c =
    let start = c.args.start.now in
    let rest = c.args.rest.now in
    subst (λ (r : List ℕ). Ends start r)
    (ap (λ (found : BlockText × List ℕ). found.1) c.read_block.ensures.read)
    (ends-ends start rest (block rest).1 c.requires (block-well rest).0)
