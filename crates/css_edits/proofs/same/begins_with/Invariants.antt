use Rattle.std.proofs.Common.{◌≡◌, ◌++◌, List, drop, length}
use Rattle.css_edits.specs.internal.Views.{said_texts}
use Rattle.css_edits.proofs.same.begins_with.Given as goal

-- what follows of those that are left follows of all
abbrev pub invariant-entries : goal.invariant-entries
invariant-entries l =
    said_texts l.rest ≡ said_texts l.left ++ said_texts (drop (length l.left) l.rest)
    → said_texts l.found ≡ said_texts l.wanted ++ said_texts (drop (length l.wanted) l.found)

abbrev pub decreases-entries : goal.decreases-entries
decreases-entries l = length l.left
