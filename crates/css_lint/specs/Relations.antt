-- The findings of a sheet that are relations of its places.
use Rattle.std.specs.Prelude.{ℕ, List, [], ◌++◌}
use Rattle.std.specs.List.{flat_map}
use Rattle.css_sheet.specs.Namespaces.{text_names}
use Rattle.css_sheet.specs.SheetItems.{sheet_items}
use Rattle.css_lint.specs.Places.{PlaceText}
use Rattle.css_lint.specs.InRules.{item_places}
use Rattle.css_lint.specs.Late.{late_rules}
use Rattle.css_lint.specs.Repeats.{repeated_imports, repeated_rules}

-- what is wrong within the rules of a sheet, in order, with the names that it declares
abbrev pub places_in_rules : List ℕ → List PlaceText
places_in_rules text = flat_map (item_places (text_names [] text)) (sheet_items text)

-- the imports that are there again, the rules that are too late, the rules whose selectors are there again, and
-- what is wrong within rules
abbrev pub related_places : List ℕ → List PlaceText
related_places text =
    repeated_imports text ++ (late_rules text ++ (repeated_rules text ++ places_in_rules text))
