-- What a sheet has, one after another: rules that begin and end, and items.
use Rattle.std.specs.Prelude.{ℕ, zero, suc, ◌-◌, Bool, true, false, List, [], ◌∷◌, length, map}
use Rattle.std.specs.List.{flat_map}
use Rattle.css_syntax.specs.DeclarationLists.{ItemText}
use Rattle.css_syntax.specs.Placed.{PlacedItem}
use Rattle.css_sheet.specs.SheetContents.{ContentText, contents_of, part_items}
use Rattle.css_sheet.specs.SheetParts.{RuleKind, style_rule, group_rule, SheetPart, states, begins, ends, stands}

-- A style rule or a group rule begins; the innermost one ends; or there is an item, which is no such rule: a
-- declaration, another at-rule, or what is skipped, with the reason.
pub data SaidText : Type 0 where
  opens : RuleKind → SaidText
  closes : SaidText
  holds : ItemText → SaidText

-- What a sheet has, and the offset at which it begins.
pub record EntryText : Type 0 where
  pub said : SaidText
  pub start : ℕ

abbrev pub said_of : EntryText → SaidText
said_of e = e.said

-- an item of a text that ends at this offset
abbrev pub item_entry : (end : ℕ) → PlacedItem → EntryText
item_entry end placed = record { said = holds placed.part.item; start = end - length placed.from }

-- What a part of a sheet is that begins at one offset and ends at another: of declarations in a style rule
-- each item is one.
abbrev pub part_entries : (start end : ℕ) → SheetPart → List EntryText
part_entries start end (states text) = map (item_entry end) (part_items (states text))
part_entries start end (begins kind) = record { said = opens kind; start = start } ∷ []
part_entries start end ends = record { said = closes; start = start } ∷ []
part_entries start end (stands item) = record { said = holds item; start = start } ∷ []

-- those of a part of a sheet of this many bytes
abbrev pub content_entries : (size : ℕ) → ContentText → List EntryText
content_entries size found = part_entries (size - length found.from) found.end found.part

-- all of a sheet, in order
abbrev pub entries : List ℕ → List EntryText
entries text = flat_map (content_entries (length text)) (contents_of text)

-- what a sheet says, without places
abbrev pub said_in : List ℕ → List SaidText
said_in text = map said_of (entries text)

-- where so many rules are open, this ends those, and each rule that begins in it
abbrev pub ends_open : (depth : ℕ) → List SaidText → Bool
ends_open zero [] = true
ends_open (suc n) [] = false
ends_open n (opens kind ∷ more) = ends_open (suc n) more
ends_open zero (closes ∷ more) = false
ends_open (suc n) (closes ∷ more) = ends_open n more
ends_open n (holds item ∷ more) = ends_open n more

-- each rule that begins ends, and no other
abbrev pub is_whole : List SaidText → Bool
is_whole said = ends_open 0 said

-- In how many rules something is, counted from the outermost style rule that it is in, after this, where it was in so
-- many before.
abbrev pub depth_after : (depth : ℕ) → SaidText → ℕ
depth_after depth (opens (style_rule prelude)) = suc depth
depth_after zero (opens (group_rule keyword prelude)) = zero
depth_after (suc n) (opens (group_rule keyword prelude)) = suc (suc n)
depth_after zero closes = zero
depth_after (suc n) closes = n
depth_after depth (holds item) = depth

-- the same after all of these
abbrev pub depth_past : (depth : ℕ) → List SaidText → ℕ
depth_past depth [] = depth
depth_past depth (said ∷ more) = depth_past (depth_after depth said) more
