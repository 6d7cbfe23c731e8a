use Rattle.std.proofs.Common.{ℕ, List, sym, subst}
use Rattle.css_text.specs.Reading.{Ends}
use Rattle.css_text.proofs.reading.EndsLemmas.{ends-ends}
use Rattle.css_sheet.specs.SheetParts.{past_run}
use Rattle.css_sheet.proofs.PartSteps.{run-well}
use Rattle.css_sheet.proofs.parts.state_from.Goals as goal

pub front-requires : goal.front-requires
front-requires c =
    let start = c.args.start.now in
    let rest = c.args.rest.now in
    subst (λ (r : List ℕ). Ends start r) (sym c.past_run-after.ensures)
    (ends-ends start rest (past_run rest) c.requires (run-well rest).0)
