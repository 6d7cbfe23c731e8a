use Rattle.std.proofs.Common.{◌≡◌, ◌++◌, map, length}
use Rattle.page_sheets.specs.Nodes.{text_of}
use Rattle.page_sheets.specs.Sheets.{sheets_among}
use Rattle.page_sheets.proofs.sheets.sheets_among.Given as goal

abbrev pub invariant-nodes : goal.invariant-nodes
invariant-nodes l =
    l.found.items ++ sheets_among l.title l.base (map text_of l.rest)
    ≡ sheets_among l.title l.base (map text_of l.nodes)

abbrev pub decreases-nodes : goal.decreases-nodes
decreases-nodes l = length l.rest
