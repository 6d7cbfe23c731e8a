-- The items of a list of declarations as numbers, with the offsets and the lengths of their pieces.
use Rattle.std.specs.Prelude.{◌≡◌, ℕ, ◌+◌, Bool, false, List, [], ◌∷◌, length, Option, None, Some, Result, Ok, Err}
use Rattle.std.specs.List.{flat_map}
use Rattle.std.specs.Str.{IsUtf8}
use Rattle.css_syntax.specs.declared.quality.Fault.{Fault}
use Rattle.css_syntax.specs.declared.quality.Fault.TheVariants as faults
use Rattle.css_syntax.specs.Contents.{at_rule_prelude, item_contents, declaration_value}
use Rattle.css_syntax.specs.DeclarationLists.{DeclarationText, ItemText, declared, at_rule_item, skipped_item, ListText}
use Rattle.css_syntax.specs.Placed.{PlacedItem, placed_items}
use Rattle.css_syntax.specs.Statements.{BlockText, AtRuleText}
use Rattle.call_answers.specs.declared.answer.CallError.{CallError}
use Rattle.call_answers.specs.Calls.{FailsFor}
use Rattle.call_answers.specs.Numbers.{number_if, offset}

-- The number of what is skipped for this reason. Numbers before these are a declaration (0), an at-rule
-- with a block (1) or without one (2), and a rule (3).
abbrev pub fault_number : Fault → ℕ
fault_number faults.BrokenDeclaration = 4
fault_number faults.BadString = 5
fault_number faults.BadUrl = 6
fault_number faults.StrayBracket = 7
fault_number faults.TooDeep = 8
fault_number faults.NoBlock = 9
fault_number faults.NestedRule = 10
fault_number faults.InvalidSelector = 11

-- Ten numbers of a declaration, which begins at this offset and has this length: that it is one, these,
-- and whether nothing of it is open; the offset and the length of its name, with which it begins, and of
-- its value; whether it is important; and 0.
abbrev pub declaration_row : (start count value : ℕ) → DeclarationText → List ℕ
declaration_row start count value one =
    0 ∷ start ∷ count ∷ number_if one.closed ∷ start ∷ length one.name ∷ value ∷ length one.value
    ∷ number_if one.important ∷ 0 ∷ []

-- Ten of an at-rule: its kind, where it begins, its length, and whether its block is closed; the offset and
-- the length of its name, which follows its first byte, of its prelude, and of what is in its block, or 0
-- and 0 where it has none.
abbrev pub at_rule_with : (start count prelude block : ℕ) → AtRuleText → Option BlockText → List ℕ
at_rule_with start count prelude block rule None =
    2 ∷ start ∷ count ∷ 1 ∷ (start + 1) ∷ length rule.name ∷ prelude ∷ length rule.prelude.text ∷ 0 ∷ 0 ∷ []
at_rule_with start count prelude block rule (Some found) =
    1 ∷ start ∷ count ∷ number_if found.closed ∷ (start + 1) ∷ length rule.name ∷ prelude
    ∷ length rule.prelude.text ∷ block ∷ length found.text ∷ []

abbrev pub at_rule_row : (start count prelude block : ℕ) → AtRuleText → List ℕ
at_rule_row start count prelude block rule = at_rule_with start count prelude block rule rule.block

-- ten of what is skipped: why, where it begins, its length, and seven times 0
abbrev pub fault_row : (start count : ℕ) → Fault → List ℕ
fault_row start count fault = fault_number fault ∷ start ∷ count ∷ 0 ∷ 0 ∷ 0 ∷ 0 ∷ 0 ∷ 0 ∷ 0 ∷ []

-- Ten of an item of this length. The text that it is in ends at this offset; from the item on `from` is left
-- of that text, and from the contents of its block on `inside`.
abbrev pub row_of_item : (end : ℕ) → (from inside : List ℕ) → (count : ℕ) → ItemText → List ℕ
row_of_item end from inside count (declared one) =
    declaration_row (offset end from) count (offset end (declaration_value from)) one
row_of_item end from inside count (at_rule_item rule) =
    at_rule_row (offset end from) count (offset end (at_rule_prelude from)) (offset end inside) rule
row_of_item end from inside count (skipped_item fault) = fault_row (offset end from) count fault

abbrev pub item_row : (end : ℕ) → (from inside : List ℕ) → ListText → List ℕ
item_row end from inside part = row_of_item end from inside (length part.text) part.item

-- those of an item of a text that ends at this offset
abbrev pub placed_row : (end : ℕ) → (in_block : Bool) → PlacedItem → List ℕ
placed_row end in_block placed =
    item_row end placed.from (item_contents in_block placed.from) placed.part

-- Those of each item of a style attribute, or of the contents of a block, that ends at this offset.
abbrev pub item_numbers : (end : ℕ) → (in_block : Bool) → List ℕ → List ℕ
item_numbers end in_block text = flat_map (placed_row end in_block) (placed_items in_block text)

-- the numbers of each item of the style attribute
abbrev pub IsDeclarationsCall : List ℕ → Result (List ℕ) CallError → Type 0
IsDeclarationsCall text (Ok numbers) =
    IsUtf8 text × (numbers ≡ item_numbers (length text) false text)
IsDeclarationsCall text (Err failure) = FailsFor ⊥ (λ fault. ⊥) (¬ (IsUtf8 text)) failure
