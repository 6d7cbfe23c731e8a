use Rattle.std.proofs.Common.{◌≡◌, ◌++◌, true, map, length}
use denote.Shadow.{shadow}
use denote.Text.{Utf8}
use Rattle.css_syntax.specs.Placed.{placed_items}
use Rattle.css_edits.specs.Entries.{item_entry}
use Rattle.css_edits.specs.internal.Views.{entry_of}
use Rattle.css_edits.proofs.entries.items_in.Given as goal

-- the items so far, and those that are left
abbrev pub invariant-items : goal.invariant-items
invariant-items l =
    shadow (Utf8 l.rest)
    × (map entry_of l.found.items ++ map (item_entry l.end) (placed_items true l.rest)
    ≡ map (item_entry l.end) (placed_items true l.text))

abbrev pub decreases-items : goal.decreases-items
decreases-items l = length l.rest
