use Rattle.std.proofs.Common.{◌≡◌, ◌++◌, None, map, length}
use Rattle.page_sheets.specs.Nodes.{text_of}
use Rattle.page_sheets.specs.Page.{nodes_from}
use Rattle.page_sheets.proofs.page.nodes.Given as goal

abbrev pub invariant-rows : goal.invariant-rows
invariant-rows l =
    map text_of l.found.items ++ nodes_from l.tags l.hidden l.rest ≡ nodes_from l.tags None l.rows

abbrev pub decreases-rows : goal.decreases-rows
decreases-rows l = length l.rest
