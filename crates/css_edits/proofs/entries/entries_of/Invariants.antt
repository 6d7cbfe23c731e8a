use Rattle.std.proofs.Common.{◌≡◌, ◌++◌, map, length}
use Rattle.std.specs.List.{flat_map}
use Rattle.css_sheet.specs.ContentViews.{content_of}
use Rattle.css_edits.specs.Entries.{content_entries}
use Rattle.css_edits.specs.internal.Views.{entry_of}
use Rattle.css_edits.proofs.entries.entries_of.Given as goal

-- the entries so far, and those of the parts that are left
abbrev pub invariant-parts : goal.invariant-parts
invariant-parts l =
    map entry_of l.found.items ++ flat_map (content_entries l.size) (map (content_of l.size) l.rest)
    ≡ flat_map (content_entries l.size) (map (content_of l.size) l.parts)

abbrev pub decreases-parts : goal.decreases-parts
decreases-parts l = length l.rest
