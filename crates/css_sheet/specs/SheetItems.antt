-- The rule sets of a sheet, and of the blocks of its conditional group rules (CSS Conditional Rules
-- 3, section 2), in source order, each with the group rules that it is in.
use Rattle.std.specs.Prelude.{ℕ, zero, suc, ◌+◌, ◌-◌, length, Bool, true, false, if◌then◌else◌, List, [], ◌∷◌, ◌++◌, codes, Option, Some, None}
use Rattle.std.specs.Option.{is_some}
use Rattle.std.specs.Option.{option_map}
use Rattle.css_text.specs.Reading.{each}
use Rattle.css_syntax.specs.declared.quality.Fault.TheVariants.{StrayBracket}
use Rattle.css_syntax.specs.Tokens.{spells}
use Rattle.css_syntax.specs.Statements.{BlockText, AtRuleText, StatementText, rule_set, at_rule_statement, skipped_statement, SheetText, past_between, next_statement}
use Rattle.css_syntax.specs.Placed.{PlacedStatement, placed_statement}
use Rattle.css_sheet.specs.Places.{PlacesText, places_in}

-- A group rule that others are in: its name and its prelude, where it is, and the offset after it.
pub record ConditionText : Type 0 where
  pub name : List ℕ
  pub prelude : List ℕ
  pub places : PlacesText
  pub end : ℕ

-- A statement that is no group rule, with the group rules that it is in, from the outermost, and
-- where it is.
pub record SheetItemText : Type 0 where
  pub conditions : List ConditionText
  pub part : SheetText
  pub places : PlacesText

-- A brace that closes nothing, if something is at this start: it is skipped alone.
abbrev pub stray_brace : List ℕ → Option (SheetText × List ℕ)
stray_brace [] = None
stray_brace (b ∷ rest) =
    Some (record { text = b ∷ []; statement = skipped_statement StrayBracket }, rest)

abbrev pub or_brace : (start : List ℕ) → Option (SheetText × List ℕ)
    → Option (SheetText × List ℕ)
or_brace start None = stray_brace start
or_brace start (Some read) = Some read

-- The next statement of a sheet, or of the contents of a group rule, which end before its closing
-- brace: so a brace that no statement has closes nothing there.
unfoldable pub next_part : Bool → List ℕ → Option (SheetText × List ℕ)
next_part in_block text = or_brace (past_between in_block text) (next_statement in_block text)

unfoldable pub next_placed_part : Bool → List ℕ → Option (PlacedStatement × List ℕ)
next_placed_part in_block text =
    option_map (placed_statement (past_between in_block text)) (next_part in_block text)

-- the statements up to the end of the text
unfoldable pub placed_parts : Bool → List ℕ → List PlacedStatement
placed_parts in_block text = (each (next_placed_part in_block) text).0

-- The keyword that a name is, of the at-rules whose blocks have statements: in lower case and without
-- escapes, if it is one of these.
abbrev pub keyword_if : (keyword name : List ℕ) → (other : Option (List ℕ)) → Option (List ℕ)
keyword_if keyword name other = if spells keyword name then Some keyword else other

unfoldable pub group_keyword : List ℕ → Option (List ℕ)
group_keyword name =
    keyword_if (codes "media") name (keyword_if (codes "supports") name
    (keyword_if (codes "layer") name (keyword_if (codes "container") name
    (keyword_if (codes "document") name (keyword_if (codes "-moz-document") name None)))))

-- whether an at-rule of this name is about layers
abbrev pub is_layer : List ℕ → Bool
is_layer name = spells (codes "layer") name

-- the at-rules whose blocks have statements, whatever their names mean
abbrev pub is_group_name : List ℕ → Bool
is_group_name name = is_some (group_keyword name)

-- A group rule: its name, its prelude and the text of its block.
pub record GroupText : Type 0 where
  pub name : List ℕ
  pub prelude : List ℕ
  pub text : List ℕ

abbrev pub group_with : AtRuleText → Option BlockText → Option GroupText
group_with rule None = None
group_with rule (Some block) =
    if is_group_name rule.name
    then Some (record { name = rule.name; prelude = rule.prelude.text; text = block.text })
    else None

-- the group rule that a statement is, if it is one with a block
abbrev pub group_of : StatementText → Option GroupText
group_of (rule_set prelude block) = None
group_of (at_rule_statement rule) = group_with rule rule.block
group_of (skipped_statement fault) = None

-- how many group rules may be nested: one in as many others is an item itself, with its block
abbrev pub deepest_group : ℕ
deepest_group = 64

-- the condition that a group rule with these places is, with the offset after it
abbrev pub condition_of : GroupText → PlacesText → (end : ℕ) → ConditionText
condition_of group places end =
    record { name = group.name; prelude = group.prelude; places = places; end = end }

-- What reads the items of a text that ends at an offset, in group rules.
abbrev pub ItemReader : Type 0
ItemReader = List ConditionText → ℕ → List ℕ → List SheetItemText

-- the items of a statement with these places, after which this offset is, by what reads those of a
-- block
abbrev pub part_items : ItemReader → List ConditionText → (part : SheetText) → PlacesText → (end : ℕ)
    → Option GroupText → List SheetItemText
part_items read conditions part places end None =
    record { conditions = conditions; part = part; places = places } ∷ []
part_items read conditions part places end (Some group) =
    read (conditions ++ condition_of group places end ∷ []) (places.block + length group.text)
    group.text

-- the items of a statement of a text that ends at this offset
abbrev pub placed_items : ItemReader → Bool → List ConditionText → (end : ℕ) → PlacedStatement
    → List SheetItemText
placed_items read in_block conditions end placed =
    part_items read conditions placed.part (places_in end in_block placed)
    (end - length placed.after) (group_of placed.part.statement)

-- the items of statements, one after another
abbrev pub all_items : ItemReader → Bool → List ConditionText → (end : ℕ) → List PlacedStatement
    → List SheetItemText
all_items read in_block conditions end [] = []
all_items read in_block conditions end (placed ∷ more) =
    placed_items read in_block conditions end placed
    ++ all_items read in_block conditions end more

-- the statements, as items of their own
abbrev pub each_alone : Bool → List ConditionText → (end : ℕ) → List PlacedStatement
    → List SheetItemText
each_alone in_block conditions end [] = []
each_alone in_block conditions end (placed ∷ more) =
    record {
      conditions = conditions;
      part = placed.part;
      places = places_in end in_block placed;
    } ∷ each_alone in_block conditions end more

-- The items of a text that ends at this offset, in these group rules, where `n` further ones may be
-- nested.
unfoldable pub items_in : ℕ → Bool → List ConditionText → (end : ℕ) → List ℕ → List SheetItemText
items_in zero in_block conditions end text =
    each_alone in_block conditions end (placed_parts in_block text)
items_in (suc n) in_block conditions end text =
    all_items (items_in n true) in_block conditions end (placed_parts in_block text)

-- the items of a sheet
abbrev pub sheet_items : List ℕ → List SheetItemText
sheet_items text = items_in deepest_group false [] (length text) text
