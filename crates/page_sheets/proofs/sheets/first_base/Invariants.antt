use Rattle.std.proofs.Common.{◌≡◌, map, length}
use Rattle.page_sheets.specs.Nodes.{text_of}
use Rattle.page_sheets.specs.Sheets.{first_base}
use Rattle.page_sheets.proofs.sheets.first_base.Given as goal

abbrev pub invariant-nodes : goal.invariant-nodes
invariant-nodes l = first_base (map text_of l.rest) ≡ first_base (map text_of l.nodes)

abbrev pub decreases-nodes : goal.decreases-nodes
decreases-nodes l = length l.rest
