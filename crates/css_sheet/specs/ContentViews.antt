-- What contracts see of the parts of a sheet.
use Rattle.std.specs.Prelude.{ℕ, ◌-◌, length}
use Rattle.css_syntax.specs.Views.{item_of, prelude_of}
use Rattle.css_sheet.specs.declared.parts.RuleKind.{RuleKind}
use Rattle.css_sheet.specs.declared.parts.RuleKind.TheVariants as kinds
use Rattle.css_sheet.specs.declared.parts.Part.{Part}
use Rattle.css_sheet.specs.declared.parts.Part.TheVariants as parts
use Rattle.css_sheet.specs.declared.sheet_contents.PlacedPart.{PlacedPart}
use Rattle.css_sheet.specs.SheetContents.{ContentText}
use Rattle.css_sheet.specs.SheetParts.{SheetPart, style_rule, group_rule, states, begins, ends, stands}
use Rattle.css_sheet.specs.SheetParts.{RuleKind as KindText}

abbrev pub kind_of : RuleKind → KindText
kind_of (kinds.Style prelude) = style_rule (prelude_of prelude)
kind_of (kinds.Group keyword prelude) = group_rule keyword.now prelude.now

abbrev pub part_of : Part → SheetPart
part_of (parts.States text) = states text.now
part_of (parts.Begins kind) = begins (kind_of kind)
part_of parts.Ends = ends
part_of (parts.Stands item) = stands (item_of item)

-- a part of a sheet of this many bytes
abbrev pub content_of : (size : ℕ) → PlacedPart → ContentText
content_of size placed = record {
  part = part_of placed.part;
  from = placed.from.now;
  end = size - length placed.rest.now;
}
