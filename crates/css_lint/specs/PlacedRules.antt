-- The rules of a sheet that have declarations, and these declarations, with their places.
use Rattle.std.specs.Prelude.{ℕ, ◌+◌, ◌-◌, min, Bool, true, if◌then◌else◌, List, [], ◌∷◌, length, Option, Some, None}
use Rattle.std.specs.List.{flat_map, list_any}
use Rattle.css_syntax.specs.Contents.{statement_contents}
use Rattle.css_syntax.specs.DeclarationLists.{ItemText, declared, at_rule_item, skipped_item}
use Rattle.css_syntax.specs.Parts.{Stated}
use Rattle.css_syntax.specs.Placed.{PlacedItem, placed_items, PlacedStatement, placed_statements}
use Rattle.css_syntax.specs.Statements.{BlockText, StatementText, rule_set, at_rule_statement, skipped_statement}
use Rattle.css_syntax.specs.Tokens.{spells}
use Rattle.css_lint.specs.declared.placed_rules.TheConstants.{KEYFRAMES, SCOPES}

-- ---- declarations

-- A declaration: the name of its property, whether it is important, the offset of its first byte, and how
-- many bytes it has.
pub record SetText : Type 0 where
  pub name : List ℕ
  pub important : Bool
  pub start : ℕ
  pub size : ℕ

-- what begins at an offset and has as many bytes, if it is a declaration
abbrev pub set_of_item : (start size : ℕ) → ItemText → List SetText
set_of_item start size (declared one) =
    record { name = one.name; important = one.important; start = start; size = size } ∷ []
set_of_item start size (at_rule_item rule) = []
set_of_item start size (skipped_item fault) = []

abbrev pub set_at : (end : ℕ) → PlacedItem → List SetText
set_at end placed =
    set_of_item (end - length placed.from) (length placed.part.text) placed.part.item

-- the declarations of a style attribute or of the contents of a block, which ends at an offset
abbrev pub sets_in : (in_block : Bool) → (end : ℕ) → List ℕ → List SetText
sets_in in_block end text = flat_map (set_at end) (placed_items in_block text)

-- ---- rules

-- A rule: its selectors, where they begin, what is in its block, and where that ends.
pub record RuleAt : Type 0 where
  pub prelude : Stated
  pub start : ℕ
  pub text : List ℕ
  pub end : ℕ

-- the offset after as many bytes; the greatest number stands for one that is greater
abbrev pub offset_after : (start size : ℕ) → ℕ
offset_after start size = min (start + size) 18446744073709551615

-- a rule set whose selectors begin at an offset, and the contents of its block at another one
abbrev pub inner_rule : (start inside : ℕ) → StatementText → List RuleAt
inner_rule start inside (rule_set prelude block) =
    record {
      prelude = prelude;
      start = start;
      text = block.text;
      end = offset_after inside (length block.text);
    } ∷ []
inner_rule start inside (at_rule_statement rule) = []
inner_rule start inside (skipped_statement fault) = []

abbrev pub inner_at : (end : ℕ) → PlacedStatement → List RuleAt
inner_at end placed =
    inner_rule (end - length placed.from) (end - length (statement_contents true placed.from))
    placed.part.statement

-- the rule sets directly in a block, whose contents end at an offset
abbrev pub inner_rules : (end : ℕ) → List ℕ → List RuleAt
inner_rules end text = flat_map (inner_at end) (placed_statements true text)

-- the same of the block of an at-rule, if that is asked for
abbrev pub rules_if : (asked : Bool) → (end : ℕ) → Option BlockText → List RuleAt
rules_if asked end None = []
rules_if asked end (Some block) = if asked then inner_rules end block.text else []

-- whether an at-rule of this name has keyframes
abbrev pub is_keyframes : List ℕ → Bool
is_keyframes name = list_any (λ keyword. spells keyword.now name) KEYFRAMES

-- whether one of this name has style rules, which are no items of a sheet
abbrev pub is_scope : List ℕ → Bool
is_scope name = list_any (λ keyword. spells keyword.now name) SCOPES

-- the style rules that a statement is or has, whose prelude begins at an offset, and the contents of whose
-- block end at another one
abbrev pub style_rules : (start end : ℕ) → StatementText → List RuleAt
style_rules start end (rule_set prelude block) =
    record { prelude = prelude; start = start; text = block.text; end = end } ∷ []
style_rules start end (at_rule_statement rule) = rules_if (is_scope rule.name) end rule.block
style_rules start end (skipped_statement fault) = []

-- the keyframes that it has
abbrev pub keyframes : (end : ℕ) → StatementText → List RuleAt
keyframes end (rule_set prelude block) = []
keyframes end (at_rule_statement rule) = rules_if (is_keyframes rule.name) end rule.block
keyframes end (skipped_statement fault) = []
