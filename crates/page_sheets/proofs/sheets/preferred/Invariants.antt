use Rattle.std.proofs.Common.{◌≡◌, [], map, length}
use Rattle.page_sheets.specs.Nodes.{text_of}
use Rattle.page_sheets.specs.Sheets.{preferred_after, titled}
use Rattle.page_sheets.proofs.sheets.preferred.Given as goal

abbrev pub invariant-nodes : goal.invariant-nodes
invariant-nodes l =
    preferred_after (titled l.title l.place) (map text_of l.rest)
    ≡ preferred_after (titled [] 0) (map text_of l.nodes)

abbrev pub decreases-nodes : goal.decreases-nodes
decreases-nodes l = length l.rest
