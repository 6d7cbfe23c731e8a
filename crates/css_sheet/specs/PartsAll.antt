-- The parts of a sheet are all of it.
use Rattle.std.specs.Prelude.{◌≡◌, ℕ, ◌<◌, Bool, List, [], ◌∷◌, ◌++◌, length, Some}
use Rattle.css_text.specs.AsciiBytes.{open_brace, close_brace, at_sign}
use Rattle.css_text.specs.Reading.{Ends}
use Rattle.css_sheet.specs.SheetItems.{group_keyword}
use Rattle.css_sheet.specs.NothingLost.{BlankTo}
use Rattle.css_sheet.specs.SheetParts.{RuleKind, style_rule, group_rule, OpenText, from_part, SheetPart, states, begins, ends, stands, PlacedPart, Source, offset_in, given_kind, sheet_source}
use Rattle.css_sheet.specs.Sheets.{GroupRuleText, SheetText}

-- Only these are before the rest, where these rules are open, and the text is in `depth` group rules.
abbrev pub PartBegins : (depth : ℕ) → List OpenText → (text rest : List ℕ) → Type 0
PartBegins depth around text rest =
    (from_part depth around text ≡ rest) × Ends text rest

-- The head of a rule is the text from its start up to the rest: of a style rule its prelude, of a group rule
-- `@`, its name and its prelude, and then a brace. Between these are only blanks.
abbrev pub IsHead : RuleKind → (start rest : List ℕ) → Type 0
IsHead (style_rule prelude) start rest =
    (after : List ℕ) × (start ≡ prelude.text ++ after) × BlankTo after (open_brace ∷ rest)
IsHead (group_rule keyword prelude) start rest =
    (name after_name after : List ℕ) × (start ≡ at_sign ∷ (name ++ after_name))
    × (group_keyword name ≡ Some keyword) × BlankTo after_name (prelude ++ after)
    × BlankTo after (open_brace ∷ rest)

-- A part is the text from its start up to the rest: declarations all of it; of a rule that begins its head;
-- the brace at its end; and an item a byte or more.
abbrev pub IsPart : SheetPart → (start rest : List ℕ) → Type 0
IsPart (states text) start rest = start ≡ text ++ rest
IsPart (begins kind) start rest = IsHead kind start rest
IsPart ends start rest = start ≡ close_brace ∷ rest
IsPart (stands item) start rest = (length rest < length start) × Ends start rest

-- These are the parts of what is left of a sheet where these rules are open, one after another, up to its end.
-- Each byte is in one part or before one.
pub data ArePartsOf (source : Source) : List OpenText → (text : List ℕ) → List PlacedPart → Type 0 where
  -- no part is left
  no_part : (around : List OpenText) (text : List ℕ) → PartBegins source.depth around text []
      → ArePartsOf source around text []
  -- a part, which is where it says, and then those where it leaves these rules open
  part_then : (around : List OpenText) (text start rest : List ℕ) (placed : PlacedPart)
      (more : List PlacedPart)
      → PartBegins source.depth around text start
      → IsPart placed.part start rest
      → placed.from ≡ start
      → placed.sheet ≡ source.sheet
      → placed.end ≡ offset_in source rest
      → ArePartsOf source placed.around rest more
      → ArePartsOf source around text (placed ∷ more)

-- The same of a text that is in further group rules: a part begins each of them before the text does.
abbrev pub ArePartsIn : Source → List OpenText → List GroupRuleText → (text : List ℕ) → List PlacedPart
    → Type 0
ArePartsIn source around [] text parts = ArePartsOf source around text parts
ArePartsIn source around (rule ∷ rules) text [] = ⊥
ArePartsIn source around (rule ∷ rules) text (placed ∷ parts) =
    (placed.part ≡ begins (given_kind rule)) × ArePartsIn source placed.around rules text parts

-- the parts of the sheet of this number
abbrev pub AreSheetParts : (number : ℕ) → SheetText → List PlacedPart → Type 0
AreSheetParts number sheet parts =
    ArePartsIn (sheet_source number sheet) [] sheet.around sheet.text parts
