use Rattle.std.proofs.Common.{◌≡◌, map, take}
use Rattle.css_selectors.specs.MarkedLists.{list_of}
use Rattle.css_tree.specs.Html.{list_in}
use Rattle.page_calls.proofs.marks.html_lists.Given as goal

-- those so far
abbrev pub invariant-loop-list : goal.invariant-loop-list
invariant-loop-list l =
    map list_of l.read.items ≡ map (list_in l.mode) (map list_of (take l.list-index l.lists))
