use Rattle.std.proofs.Common.{◌≡◌, ◌++◌, List, map, drop, length}
use Rattle.css_edits.specs.Changes.{piece}
use Rattle.css_edits.specs.internal.Views.{said_texts}
use Rattle.css_edits.proofs.changing.begins_with_pieces.Given as goal

-- what follows of those that are left follows of all
abbrev pub invariant-entries : goal.invariant-entries
invariant-entries l =
    said_texts l.rest ≡ map (piece l.change l.text) (said_texts l.left) ++ said_texts (drop (length l.left) l.rest)
    → said_texts l.found ≡ map (piece l.change l.text) (said_texts l.old) ++ said_texts (drop (length l.old) l.found)

abbrev pub decreases-entries : goal.decreases-entries
decreases-entries l = length l.left
