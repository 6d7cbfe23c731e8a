-- The statements of a style sheet by the modern grammar as numbers, with the offsets and the lengths of their
-- pieces.
use Rattle.std.specs.Prelude.{◌≡◌, ◌<◌, ◌≤◌, ℕ, ◌+◌, ◌-◌, true, List, [], ◌∷◌, ◌++◌, length, min, None, Result, Ok, Err}
use Rattle.std.specs.List.{flat_map}
use Rattle.std.specs.Str.{IsUtf8}
use Rattle.css_syntax.specs.declared.quality.Fault.{Fault}
use Rattle.css_syntax.specs.Parts.{Stated}
use Rattle.css_syntax.specs.Statements.{BlockText, AtRuleText, StatementText, rule_set, at_rule_statement, skipped_statement}
use Rattle.css_sheet.specs.Places.{PlacesText}
use Rattle.css_sheet.specs.Namespaces.{text_names}
use Rattle.css_sheet.specs.RuleSelectors.{context, listed_under}
use Rattle.css_sheet.specs.SheetItems.{ConditionText, SheetItemText, sheet_items}
use Rattle.css_selector_text.specs.Components.{Placed}
use Rattle.css_selector_text.specs.Names.{Names}
use Rattle.call_answers.specs.declared.answer.CallError.{CallError}
use Rattle.call_answers.specs.Calls.{FailsWithin}
use Rattle.call_answers.specs.ItemNumbers.{at_rule_row, fault_row, item_numbers}
use Rattle.call_answers.specs.SelectorNumbers.{selector_numbers}
use Rattle.call_answers.specs.Numbers.{number_if}

-- ---- group rules

-- Six numbers of a group rule that an item is in: where it begins, its length, and the offset and the length
-- of its name, which follows its first byte, and of its prelude.
abbrev pub level_row : ConditionText → List ℕ
level_row c =
    c.places.start ∷ (c.end - c.places.start) ∷ (c.places.start + 1) ∷ length c.name ∷ c.places.prelude
    ∷ length c.prelude ∷ []

-- those of group rules, from the outermost
abbrev pub level_numbers : List ConditionText → List ℕ
level_numbers conditions = flat_map level_row conditions

-- ---- statements

-- What a statement is: a rule set with these selectors, an at-rule, or something that is skipped.
pub data ShownText : Type 0 where
  shown_rule : (prelude : Stated) (block : BlockText) (selectors : List Placed) → ShownText
  shown_at_rule : AtRuleText → ShownText
  shown_skipped : Fault → ShownText

abbrev pub unless_faulty : Stated → BlockText → Result (List Placed) Fault → ShownText
unless_faulty prelude block (Ok selectors) = shown_rule prelude block selectors
unless_faulty prelude block (Err fault) = shown_skipped fault

-- a rule set with a bad prelude, or with one part that is no selector where these names are declared, is skipped
abbrev pub shown_of : Names → StatementText → ShownText
shown_of names (rule_set prelude block) =
    unless_faulty prelude block (listed_under (context None names) prelude)
shown_of names (at_rule_statement rule) = shown_at_rule rule
shown_of names (skipped_statement fault) = shown_skipped fault

-- Ten numbers of a rule set: that it is one, where it begins, its length, and whether its block is closed; the
-- offset and the length of its prelude and of what is in its block; and 0 and 0.
abbrev pub rule_row : PlacesText → (count : ℕ) → Stated → BlockText → List ℕ
rule_row places count prelude block =
    3 ∷ places.start ∷ count ∷ number_if block.closed ∷ places.prelude ∷ length prelude.text
    ∷ places.block ∷ (places.block_end - places.block) ∷ 0 ∷ 0 ∷ []

-- ten of a statement of this length
abbrev pub shown_row : PlacesText → (count : ℕ) → ShownText → List ℕ
shown_row places count (shown_rule prelude block selectors) = rule_row places count prelude block
shown_row places count (shown_at_rule rule) =
    at_rule_row places.start count places.prelude places.block rule
shown_row places count (shown_skipped fault) = fault_row places.start count fault

-- the offset at which the prelude of a rule set ends: never after the contents of its block begin
abbrev pub prelude_end : PlacesText → Stated → ℕ
prelude_end places prelude = min (places.prelude + length prelude.text) places.block

-- the numbers of the selectors of a rule set; of anything else none
abbrev pub shown_selectors : PlacesText → ShownText → List ℕ
shown_selectors places (shown_rule prelude block selectors) =
    selector_numbers (prelude_end places prelude) selectors
shown_selectors places (shown_at_rule rule) = []
shown_selectors places (shown_skipped fault) = []

-- those of the items of its block
abbrev pub shown_items : PlacesText → ShownText → List ℕ
shown_items places (shown_rule prelude block selectors) = item_numbers places.block_end true block.text
shown_items places (shown_at_rule rule) = []
shown_items places (shown_skipped fault) = []

-- a row, how many numbers there are of group rules, of selectors and of items, and these
abbrev pub counted : (row levels selectors items : List ℕ) → List ℕ
counted row levels selectors items =
    row ++ (length levels ∷ length selectors ∷ length items ∷ (levels ++ (selectors ++ items)))

-- the numbers of a statement
abbrev pub shown_numbers : PlacesText → (count : ℕ) → List ConditionText → ShownText → List ℕ
shown_numbers places count conditions shown =
    counted (shown_row places count shown) (level_numbers conditions) (shown_selectors places shown)
    (shown_items places shown)

abbrev pub statement_numbers : Names → SheetItemText → List ℕ
statement_numbers names item =
    shown_numbers item.places (length item.part.text) item.conditions (shown_of names item.part.statement)

-- those of the statements of a sheet, with the names that it declares, where no namespace is known
abbrev pub sheet_numbers : List ℕ → List ℕ
sheet_numbers text = flat_map (statement_numbers (text_names [] text)) (sheet_items text)

-- the numbers of each statement of the style sheet, at most so many
abbrev pub IsReadCall : (most : ℕ) → List ℕ → Result (List ℕ) CallError → Type 0
IsReadCall most text (Ok numbers) =
    IsUtf8 text × (numbers ≡ sheet_numbers text) × (length numbers ≤ most)
IsReadCall most text (Err failure) =
    FailsWithin ⊥ (λ fault. ⊥) (¬ (IsUtf8 text)) ⊥
    (IsUtf8 text × (most < length (sheet_numbers text))) failure
