-- The parts of a sheet as numbers: ten of each item in a style rule, of each rule where its block begins, and of
-- each block where it ends.
use Rattle.std.specs.Prelude.{ℕ, ◌+◌, ◌-◌, true, List, [], ◌∷◌, length}
use Rattle.std.specs.List.{flat_map}
use Rattle.css_text.specs.AsciiBytes.{at_sign}
use Rattle.css_text.specs.Bytes.{past_byte}
use Rattle.css_syntax.specs.Contents.{at_rule_prelude}
use Rattle.css_syntax.specs.Parts.{Stated}
use Rattle.css_syntax.specs.Tokens.{past_word}
use Rattle.css_sheet.specs.SheetContents.{ContentText, contents_of, part_items}
use Rattle.css_sheet.specs.SheetParts.{RuleKind, style_rule, group_rule, SheetPart, states, begins, ends, stands}
use Rattle.call_answers.specs.ItemNumbers.{placed_row}
use Rattle.call_answers.specs.Numbers.{offset}

-- Ten numbers where the block of a style rule begins: that one does, where the rule begins, how many bytes are
-- from there to its contents, and 0; the offset and the length of what is before its block; where its contents
-- begin; and 0, 0 and 0.
abbrev pub style_row : (start contents : ℕ) → Stated → List ℕ
style_row start contents prelude =
    3 ∷ start ∷ (contents - start) ∷ 0 ∷ start ∷ length prelude.text ∷ contents ∷ 0 ∷ 0 ∷ 0 ∷ []

-- Ten where that of a group rule begins: the same four; the offset and the length of its name, which follows
-- its first byte, and of its prelude; where its contents begin; and 0.
abbrev pub group_row : (start contents name_length prelude prelude_length : ℕ) → List ℕ
group_row start contents name_length prelude prelude_length =
    12 ∷ start ∷ (contents - start) ∷ 0 ∷ (start + 1) ∷ name_length ∷ prelude ∷ prelude_length ∷ contents
    ∷ 0 ∷ []

-- ten where the innermost block ends: that it does, where its brace is, its length, and seven times 0
abbrev pub end_row : (start end : ℕ) → List ℕ
end_row start end = 13 ∷ start ∷ (end - start) ∷ 0 ∷ 0 ∷ 0 ∷ 0 ∷ 0 ∷ 0 ∷ 0 ∷ []

-- how long the name of an at-rule is, which follows its first byte
abbrev pub name_length : List ℕ → ℕ
name_length from =
    length (past_byte at_sign from) - length (past_word (past_byte at_sign from))

-- the numbers of a rule that begins, in a sheet of this many bytes, from which on `from` is left
abbrev pub begun_row : (size : ℕ) → (from : List ℕ) → (contents : ℕ) → RuleKind → List ℕ
begun_row size from contents (style_rule prelude) = style_row (offset size from) contents prelude
begun_row size from contents (group_rule keyword prelude) =
    group_row (offset size from) contents (name_length from) (offset size (at_rule_prelude from))
    (length prelude)

-- The numbers of a part: of declarations those of their items. What is in no style rule has none.
abbrev pub part_numbers : (size : ℕ) → (from : List ℕ) → (end : ℕ) → SheetPart → List ℕ
part_numbers size from end (states text) =
    flat_map (placed_row end true) (part_items (states text))
part_numbers size from end (begins kind) = begun_row size from end kind
part_numbers size from end ends = end_row (offset size from) end
part_numbers size from end (stands item) = []

abbrev pub content_numbers : (size : ℕ) → ContentText → List ℕ
content_numbers size found = part_numbers size found.from found.end found.part

-- those of the parts of the sheet, in order
abbrev pub contents_numbers : List ℕ → List ℕ
contents_numbers text = flat_map (content_numbers (length text)) (contents_of text)
