use Rattle.std.proofs.Common.{◌≡◌, ◌++◌, true, length, map}
use Rattle.css_sheet.specs.ContentViews.{content_of}
use Rattle.css_sheet.specs.SheetContents.{content, contents_of}
use Rattle.css_sheet.specs.internal.PartViews.{left_count, parts_to_come, source_of}
use Rattle.css_sheet.proofs.sheet_contents.read_contents.Given as goal

-- the parts so far, and those that are to come
abbrev pub invariant-parts : goal.invariant-parts
invariant-parts l =
    ((source_of l.reader).size ≡ length l.text)
    × (map (content_of (length l.text)) l.parts.items
    ++ map content (parts_to_come (λ keyword prelude. true) l.reader) ≡ contents_of l.text)

abbrev pub decreases-parts : goal.decreases-parts
decreases-parts l = left_count l.reader
