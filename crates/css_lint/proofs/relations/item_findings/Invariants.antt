use Rattle.std.proofs.Common.{◌≡◌, ◌++◌, false, length, map}
use Rattle.std.specs.List.{flat_map}
use Rattle.css_selector_text.specs.NameViews.{names_of}
use Rattle.css_sheet.specs.ImportViews.{import_of}
use Rattle.css_sheet.specs.ReaderViews.{to_come}
use Rattle.css_sheet.specs.SheetItems.{sheet_items}
use Rattle.css_lint.specs.InRules.{item_places}
use Rattle.css_lint.specs.Late.{late_from}
use Rattle.css_lint.specs.Places.{place_of}
use Rattle.css_lint.specs.Keys.{keyed_of}
use Rattle.css_lint.specs.Repeats.{keyed_item}
use Rattle.css_lint.proofs.relations.item_findings.Given as goal

-- what is found of the items so far, and of those that are still to come
abbrev pub invariant-items : goal.invariant-items
invariant-items l =
    (map place_of l.late.items ++ late_from (map import_of l.imports) l.follows (to_come l.reader)
    ≡ late_from (map import_of l.imports) false (sheet_items l.text))
    × (map keyed_of l.rules.items ++ flat_map keyed_item (to_come l.reader)
    ≡ flat_map keyed_item (sheet_items l.text))
    × (map place_of l.within.items ++ flat_map (item_places (names_of l.names)) (to_come l.reader)
    ≡ flat_map (item_places (names_of l.names)) (sheet_items l.text))

abbrev pub decreases-items : goal.decreases-items
decreases-items l = length (to_come l.reader)
