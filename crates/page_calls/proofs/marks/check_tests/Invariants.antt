use Rattle.std.proofs.Common.{◌≡◌, ◌+◌, length, map}
use Rattle.css_selectors.specs.MarkedLists.{list_of}
use Rattle.page_calls.specs.MarkedPages.{tests_on}
use Rattle.page_calls.proofs.marks.check_tests.Given as goal

-- the room that is left, and what the lists that are left need
abbrev pub invariant-lists : goal.invariant-lists
invariant-lists l =
    l.room + tests_on l.elements (map list_of l.lists)
    ≡ l.most + tests_on l.elements (map list_of l.left)

abbrev pub decreases-lists : goal.decreases-lists
decreases-lists l = length l.left
