-- A sheet that a policy allows.
use Rattle.std.specs.Prelude.{ℕ, Bool, true, false, ◌||◌, ◌&&◌, ◌==◌, List, [], ◌∷◌, Option, Some, None}
use Rattle.css_text.specs.AsciiBytes.{backslash}
use Rattle.css_syntax.specs.Qualities.{is_whole}
use Rattle.css_syntax.specs.Parts.{Stated}
use Rattle.css_syntax.specs.Statements.{AtRuleText, BlockText, StatementText, rule_set, at_rule_statement, skipped_statement, SheetText, statements}
use Rattle.css_syntax.specs.DeclarationLists.{ItemText, declared, at_rule_item, skipped_item, ListText, items}
use Rattle.css_clean.specs.Policies.{PolicyText, is_allowed, is_safe_byte, are_safe, in_sheet, any_value, tokens_allowed}
use Rattle.css_clean.specs.declared.groups.Group.{Group}
use Rattle.css_clean.specs.Groups.{group_of, has_frames}
use Rattle.css_clean.specs.Selectors.{SheetPolicyText}
use Rattle.css_clean.specs.Preludes.{is_prelude_clean, is_rule_prelude}

-- A byte of a sheet: one that may be written in a value, or one of `>{}@\`. So there is no `<`.
abbrev pub is_sheet_byte : ℕ → Bool
is_sheet_byte b = is_safe_byte b || b == 62 || b == 123 || b == 125 || b == 64 || b == backslash

abbrev pub are_sheet_bytes : List ℕ → Bool
are_sheet_bytes [] = true
are_sheet_bytes (b ∷ text) = is_sheet_byte b && are_sheet_bytes text

-- an item is a declaration that is allowed
abbrev pub is_item_clean : PolicyText → ItemText → Bool
is_item_clean policy (declared d) = is_allowed policy d
is_item_clean policy (at_rule_item a) = false
is_item_clean policy (skipped_item fault) = false

abbrev pub are_items_clean : PolicyText → List ListText → Bool
are_items_clean policy [] = true
are_items_clean policy (part ∷ more) = is_item_clean policy part.item && are_items_clean policy more

-- A rule: each of its selectors is under the scope, or in `@keyframes` it is of frames, its block is closed, and has
-- nothing but declarations that are allowed. (Its items are read as those of a style attribute, up to the end of the
-- text, so that nothing of it is left out.)
abbrev pub is_rule_clean : SheetPolicyText → (frames : Bool) → Stated → BlockText → Bool
is_rule_clean policy frames prelude block =
    is_whole prelude.quality && block.closed
    && are_items_clean policy.declarations (items false block.text)
    && is_rule_prelude policy frames prelude.text

-- a statement of the block of a group rule is a rule
abbrev pub is_inner_clean : SheetPolicyText → (frames : Bool) → StatementText → Bool
is_inner_clean policy frames (rule_set prelude block) = is_rule_clean policy frames prelude block
is_inner_clean policy frames (at_rule_statement a) = false
is_inner_clean policy frames (skipped_statement fault) = false

abbrev pub are_inner_clean : SheetPolicyText → (frames : Bool) → List SheetText → Bool
are_inner_clean policy frames [] = true
are_inner_clean policy frames (part ∷ more) =
    is_inner_clean policy frames part.statement && are_inner_clean policy frames more

-- a block that is closed and has nothing but such rules
abbrev pub is_block_clean : SheetPolicyText → (frames : Bool) → Option BlockText → Bool
is_block_clean policy frames None = false
is_block_clean policy frames (Some block) =
    block.closed && are_inner_clean policy frames (statements false block.text)

-- a group rule of a condition that is allowed, or of a name with the prefix, with nothing but such rules
abbrev pub is_group_clean : SheetPolicyText → Group → AtRuleText → Bool
is_group_clean policy group a =
    is_whole a.prelude.quality && is_prelude_clean policy group a.prelude.text
    && is_block_clean policy (has_frames group) a.block

abbrev pub is_found_clean : SheetPolicyText → Option Group → AtRuleText → Bool
is_found_clean policy None a = false
is_found_clean policy (Some group) a = is_group_clean policy group a

-- an at-rule is `@media`, or another that the policy names, and such a group rule
abbrev pub is_at_rule_clean : SheetPolicyText → AtRuleText → Bool
is_at_rule_clean policy a = is_found_clean policy (group_of policy.media a.name) a

-- a statement of a sheet is a rule or a group rule
abbrev pub is_statement_clean : SheetPolicyText → StatementText → Bool
is_statement_clean policy (rule_set prelude block) = is_rule_clean policy false prelude block
is_statement_clean policy (at_rule_statement a) = is_at_rule_clean policy a
is_statement_clean policy (skipped_statement fault) = false

abbrev pub are_statements_clean : SheetPolicyText → List SheetText → Bool
are_statements_clean policy [] = true
are_statements_clean policy (part ∷ more) =
    is_statement_clean policy part.statement && are_statements_clean policy more

-- the place of the tokens of a whole sheet
abbrev pub sheet_tokens_allowed : SheetPolicyText → List ℕ → Bool
sheet_tokens_allowed policy text =
    tokens_allowed (in_sheet policy.declarations.functions policy.pseudos policy.media) text

-- A sheet that a policy allows: of bytes and tokens that are, and of statements that are.
abbrev pub is_clean : SheetPolicyText → List ℕ → Bool
is_clean policy text =
    are_sheet_bytes text && sheet_tokens_allowed policy text
    && are_statements_clean policy (statements false text)

-- A style attribute that a policy allows: of bytes and tokens that are, and of items that are.
abbrev pub is_style_clean : PolicyText → List ℕ → Bool
is_style_clean policy text =
    are_safe text && tokens_allowed (any_value policy) text
    && are_items_clean policy (items false text)
