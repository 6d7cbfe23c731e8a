use Rattle.std.proofs.Common.{ℕ, List, Option, sym, subst}
use Rattle.css_text.specs.Reading.{Ends}
use Rattle.css_text.proofs.reading.WellLemmas.{EndsWell, WellFound}
use Rattle.css_syntax.specs.DeclarationLists.{past_separators}
use Rattle.css_syntax.specs.Blocks.{BlockPart}
use Rattle.css_syntax.proofs.BlockSteps.{next_block_part-well}
use Rattle.css_sheet.proofs.parts.read_inside.Goals as goal

pub go_on_inside-requires : goal.go_on_inside-requires
go_on_inside-requires c =
    let text = c.args.text.now in
    let found = c.in-Some.found in
    let P : Option (BlockPart × List ℕ) → Type 0 = WellFound (past_separators text) in
    let well : EndsWell (past_separators text) found.rest.now =
    subst P c.in-Some.ensures.read (next_block_part-well text) in
    subst (λ (s : List ℕ). Ends s found.rest.now) (sym c.in-Some.ensures.from) well.0
