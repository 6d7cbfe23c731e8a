-- The declarations whose values no browser takes, as far as the table of values says: where a page is in quirks mode, or
-- in another.
use Rattle.std.specs.Prelude.{ℕ, ◌-◌, Bool, true, false, ◌&&◌, if◌then◌else◌, List, [], ◌∷◌, length}
use Rattle.std.specs.List.{flat_map}
use Rattle.std.specs.Str.{str_to_ascii_lowercase}
use Rattle.css_syntax.specs.DeclarationLists.{ItemText, declared, at_rule_item, skipped_item}
use Rattle.css_syntax.specs.Placed.{PlacedItem, placed_items}
use Rattle.css_sheet.specs.SheetContents.{ContentText, contents_of}
use Rattle.css_sheet.specs.SheetParts.{SheetPart, states, begins, ends, stands}
use Rattle.css_values.specs.Refused.{refuses}
use Rattle.css_lint.specs.declared.kinds.Kind.TheVariants.{InvalidValue}
use Rattle.css_lint.specs.Places.{PlaceText, sized}

-- What begins at an offset and has as many bytes, if it is a declaration whose value no browser takes. The name of its
-- property may be in any case. A value that the end of the text closes is taken as it is.
abbrev pub refused_item : (in_quirks : Bool) → (start size : ℕ) → ItemText → List PlaceText
refused_item in_quirks start size (declared one) =
    if one.closed && refuses in_quirks (str_to_ascii_lowercase one.name) one.value
    then sized InvalidValue start size ∷ [] else []
refused_item in_quirks start size (at_rule_item rule) = []
refused_item in_quirks start size (skipped_item fault) = []

abbrev pub refused_at : (in_quirks : Bool) → (end : ℕ) → PlacedItem → List PlaceText
refused_at in_quirks end placed =
    refused_item in_quirks (end - length placed.from) (length placed.part.text) placed.part.item

-- those of a style attribute or of the contents of a block, which ends at an offset
abbrev pub refused_in : (in_quirks in_block : Bool) → (end : ℕ) → List ℕ → List PlaceText
refused_in in_quirks in_block end text = flat_map (refused_at in_quirks end) (placed_items in_block text)

-- Those of a part of a sheet that ends at an offset: the declarations in a style rule, which may be in others.
abbrev pub refused_in_part : (in_quirks : Bool) → (end : ℕ) → SheetPart → List PlaceText
refused_in_part in_quirks end (states text) = refused_in in_quirks true end text
refused_in_part in_quirks end (begins kind) = []
refused_in_part in_quirks end ends = []
refused_in_part in_quirks end (stands item) = []

abbrev pub refused_content : (in_quirks : Bool) → ContentText → List PlaceText
refused_content in_quirks found = refused_in_part in_quirks found.end found.part

-- those of the style rules of a sheet, in order
abbrev pub refused_places : (in_quirks : Bool) → List ℕ → List PlaceText
refused_places in_quirks text = flat_map (refused_content in_quirks) (contents_of text)

-- those of a style attribute
abbrev pub refused_in_attribute : (in_quirks : Bool) → List ℕ → List PlaceText
refused_in_attribute in_quirks text = refused_in in_quirks false (length text) text
