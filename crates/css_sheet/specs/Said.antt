-- What a style sheet says: the list of what its parts say, in order. Comments say nothing, nor do blanks that
-- no meaning depends on, rules in which nothing is said, an `@charset` that is not at the front, and what is left
-- without a block outside of style rules.
use Rattle.std.specs.Prelude.{ℕ, zero, suc, ◌+◌, ◌-◌, Bool, true, false, not, ◌||◌, ◌&&◌, ◌==◌, if◌then◌else◌, nat_eq, List, [], ◌∷◌, ◌++◌, codes, length, map, take, slice_get, Option, Some, None}
use Rattle.std.specs.List.{flat_map, starts_with, count_by}
use Rattle.css_syntax.specs.Tokens.{spells}
use Rattle.css_syntax.specs.TokenLists.{tokens}
use Rattle.css_syntax.specs.Statements.{AtRuleText, BlockText}
use Rattle.css_syntax.specs.DeclarationLists.{DeclarationText, ItemText, declared, at_rule_item, skipped_item, ListText, is_custom, is_empty, items}
use Rattle.css_sheet.specs.declared.words.Way.TheVariants as ways
use Rattle.css_sheet.specs.Pieces.{PieceText, word, verbatim, at_rule, colon, semicolon, opens, closes}
use Rattle.css_sheet.specs.Words.{sets_custom, words}
use Rattle.css_sheet.specs.SheetItems.{is_layer}
use Rattle.css_sheet.specs.SheetContents.{ContentText, contents_of}
use Rattle.css_sheet.specs.SheetParts.{RuleKind, style_rule, group_rule, SheetPart, states, begins, ends, stands}

-- ---- declarations and at-rules

-- a text that is kept byte for byte, if it is not empty
abbrev pub verbatim_pieces : List ℕ → List PieceText
verbatim_pieces text = if is_empty text then [] else verbatim text ∷ []

-- the value of a declaration: that of a custom property byte for byte
abbrev pub value_pieces : DeclarationText → List PieceText
value_pieces one = if is_custom one.name then verbatim_pieces one.value else words ways.Value one.value

abbrev pub importance_pieces : Bool → List PieceText
importance_pieces important = if important then word (codes "!important") ∷ [] else []

abbrev pub declaration_pieces : DeclarationText → List PieceText
declaration_pieces one =
    word one.name ∷ colon ∷ (value_pieces one ++ importance_pieces one.important) ++ semicolon ∷ []

-- the at-rules that keyframes are in
abbrev pub is_keyframes : List ℕ → Bool
is_keyframes name =
    spells (codes "keyframes") name || spells (codes "-webkit-keyframes") name
    || spells (codes "-moz-keyframes") name || spells (codes "-o-keyframes") name

-- others in whose blocks what is before a colon is a name
abbrev pub is_descriptive : List ℕ → Bool
is_descriptive name =
    spells (codes "font-face") name || spells (codes "page") name || spells (codes "property") name
    || spells (codes "counter-style") name || spells (codes "viewport") name
    || spells (codes "-ms-viewport") name

-- The block of an at-rule: its words, if it is known to have declarations, but none of custom properties; or
-- else byte for byte.
abbrev pub has_words : (name text : List ℕ) → Bool
has_words name text =
    (is_keyframes name || is_descriptive name) && not (sets_custom false (tokens text))

abbrev pub block_pieces : (name text : List ℕ) → List PieceText
block_pieces name text =
    if has_words name text then words ways.Declarations text else verbatim_pieces text

abbrev pub contents_pieces : (name : List ℕ) → Option BlockText → List PieceText
contents_pieces name None = semicolon ∷ []
contents_pieces name (Some block) = opens ∷ block_pieces name block.text ++ closes ∷ []

abbrev pub at_rule_pieces : AtRuleText → List PieceText
at_rule_pieces rule =
    at_rule rule.name ∷ words ways.Value rule.prelude.text ++ contents_pieces rule.name rule.block

-- an item with this text; what is skipped says its words
abbrev pub item_pieces : (text : List ℕ) → ItemText → List PieceText
item_pieces text (declared one) = declaration_pieces one
item_pieces text (at_rule_item rule) = at_rule_pieces rule
item_pieces text (skipped_item fault) = words ways.Value text ++ semicolon ∷ []

abbrev pub listed_pieces : ListText → List PieceText
listed_pieces listed = item_pieces listed.text listed.item

-- ---- parts

abbrev pub head_pieces : RuleKind → List PieceText
head_pieces (style_rule prelude) = words ways.Selectors prelude.text
head_pieces (group_rule keyword prelude) = at_rule keyword ∷ words ways.Condition prelude

abbrev pub part_pieces : SheetPart → List PieceText
part_pieces (states text) = flat_map listed_pieces (items true text)
part_pieces (begins kind) = head_pieces kind ++ opens ∷ []
part_pieces ends = closes ∷ []
part_pieces (stands item) = item_pieces [] item

-- ---- the parts that say something

abbrev pub ends_of : ℕ → List SheetPart
ends_of zero = []
ends_of (suc n) = ends ∷ ends_of n

-- how many rules are open after a part, where `depth` are open before it
abbrev pub depth_after : (depth : ℕ) → SheetPart → ℕ
depth_after depth (states text) = depth
depth_after depth (begins kind) = depth + 1
depth_after depth ends = depth - 1
depth_after depth (stands item) = depth

-- the parts, where `depth` rules are open before them, and the ends of the rules that are open after them
abbrev pub ended : (depth : ℕ) → List SheetPart → List SheetPart
ended depth [] = ends_of depth
ended depth (part ∷ parts) = part ∷ ended (depth_after depth part) parts

-- the parts of a sheet, with the ends of all of its rules
abbrev pub whole_parts : List ℕ → List SheetPart
whole_parts text =
    ended 0 (map (λ (found : ContentText). found.part) (contents_of text))

-- The item says nothing outside of style rules: it is skipped, as what has no block, or it is an `@charset`
-- that is not in front.
abbrev pub is_idle_item : (front : Bool) → ItemText → Bool
is_idle_item front (declared one) = false
is_idle_item front (at_rule_item rule) = not front && spells (codes "charset") rule.name
is_idle_item front (skipped_item fault) = true

abbrev pub is_idle : (front : Bool) → SheetPart → Bool
is_idle front (states text) = false
is_idle front (begins kind) = false
is_idle front ends = false
is_idle front (stands item) = is_idle_item front item

-- the parts without such items, where the first may be an `@charset` that is in front
abbrev pub without_idle : (front : Bool) → List SheetPart → List SheetPart
without_idle front [] = []
without_idle front (part ∷ parts) =
    if is_idle front part then without_idle false parts else part ∷ without_idle false parts

-- a rule that says nothing if nothing is in it; `@layer` says that there is a layer
abbrev pub is_idle_kind : RuleKind → Bool
is_idle_kind (style_rule prelude) = true
is_idle_kind (group_rule keyword prelude) = not (is_layer keyword)

abbrev pub begins_idle : SheetPart → Bool
begins_idle (states text) = false
begins_idle (begins kind) = is_idle_kind kind
begins_idle ends = false
begins_idle (stands item) = false

abbrev pub is_idle_last : Option SheetPart → Bool
is_idle_last None = false
is_idle_last (Some part) = begins_idle part

-- with the end of the innermost rule, or without that rule if it says nothing and may be left out
abbrev pub with_end : (leaves_out : Bool) → List SheetPart → List SheetPart
with_end leaves_out parts =
    if leaves_out && is_idle_last (slice_get parts (length parts - 1))
    then take (length parts - 1) parts
    else parts ++ ends ∷ []

abbrev pub with_part : (leaves_out : Bool) → List SheetPart → SheetPart → List SheetPart
with_part leaves_out parts (states text) = parts ++ states text ∷ []
with_part leaves_out parts (begins kind) = parts ++ begins kind ∷ []
with_part leaves_out parts ends = with_end leaves_out parts
with_part leaves_out parts (stands item) = parts ++ stands item ∷ []

-- An `@import` or an `@namespace`, which says nothing after another rule: so a rule before it says something,
-- though nothing is in it.
abbrev pub is_front_item : ItemText → Bool
is_front_item (declared one) = false
is_front_item (at_rule_item rule) =
    spells (codes "import") rule.name || spells (codes "namespace") rule.name
is_front_item (skipped_item fault) = false

abbrev pub is_front_part : SheetPart → Bool
is_front_part (states text) = false
is_front_part (begins kind) = false
is_front_part ends = false
is_front_part (stands item) = is_front_item item

-- how many of these are among parts
abbrev pub front_count : List SheetPart → ℕ
front_count parts = count_by is_front_part parts

-- how many are still to come after a part, of `fronts` before it
abbrev pub front_after : (fronts : ℕ) → SheetPart → ℕ
front_after fronts part = if is_front_part part then fronts - 1 else fronts

-- These parts and then those, without the rules in which nothing is said and that end after `fronts` of these
-- at-rules.
abbrev pub with_parts : (fronts : ℕ) → List SheetPart → List SheetPart → List SheetPart
with_parts fronts parts [] = parts
with_parts fronts parts (part ∷ more) =
    with_parts (front_after fronts part) (with_part (fronts == 0) parts part) more

-- the parts without rules in which nothing is said, but for those before such an at-rule
abbrev pub said_of : List SheetPart → List SheetPart
said_of parts = with_parts (front_count parts) [] parts

-- an `@charset` in front, as it has to be written
abbrev pub begins_charset : List ℕ → Bool
begins_charset text = starts_with nat_eq text (codes "@charset " ++ 34 ∷ [])

-- the parts of a sheet that say something
abbrev pub said_parts : List ℕ → List SheetPart
said_parts text = said_of (without_idle (begins_charset text) (whole_parts text))

-- what a sheet says
unfoldable pub says : List ℕ → List PieceText
says text = flat_map part_pieces (said_parts text)
