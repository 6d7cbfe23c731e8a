-- The declarations of which one wins for each property of an element (CSS Cascading 5, section 6): those
-- of rules that apply to it, as they are ordered in sheets, and then the element's own: its presentation
-- declarations, and those of its style attribute.
use Rattle.std.specs.Prelude.{ℕ, ◌+◌, Bool, true, false, not, ◌||◌, if◌then◌else◌, nat_eq, List, [], ◌∷◌, ◌++◌, filter, Option, None, Some}
use Rattle.std.specs.List.{filter_map, flat_map, list_any, slice_get}
use Rattle.std.specs.Option.{is_some}
use Rattle.std.specs.Cmp.Lexicographic.{pointwise}
use Rattle.std.specs.Str.{str_eq_ignore_ascii_case}
use Rattle.css_text.specs.AsciiBytes.{hyphen}
use Rattle.css_text.specs.Bytes.{starts_two}
use Rattle.css_syntax.specs.DeclarationLists.{DeclarationText, ListText, ItemText, declared, at_rule_item, skipped_item, items}
use Rattle.css_cascade.specs.Cascade.{Weighed}
use Rattle.css_cascade.specs.Rollbacks.{rollback_of}
use Rattle.css_cascade.specs.declared.weights.Origin.{Origin}
use Rattle.css_cascade.specs.declared.weights.Origin.TheVariants.{Author, Hint}
use Rattle.css_sheet.specs.SheetOrder.{SheetRuleText, rule_counts, weight}
use Rattle.css_values.specs.Resolution.{deepest_fallback}
use Rattle.css_values.specs.Validity.{is_valid}
use Rattle.css_styles.specs.declared.winner.Source.{Source}
use Rattle.css_styles.specs.declared.winner.Source.TheVariants as sources

-- The name is that of the property: of a custom property as it is, of another in any case of its
-- ASCII letters.
abbrev pub is_property : List ℕ → List ℕ → Bool
is_property property name =
    if starts_two hyphen hyphen property then pointwise nat_eq name property
    else str_eq_ignore_ascii_case name property

-- the name is that of one of the properties
abbrev pub is_named : (properties : List (List ℕ)) → List ℕ → Bool
is_named properties name = list_any (λ property. is_property property name) properties

-- ---- declarations

-- the declaration that an item is, if it is one
abbrev pub declared_by : ItemText → Option DeclarationText
declared_by (declared one) = Some one
declared_by (at_rule_item rule) = None
declared_by (skipped_item fault) = None

abbrev pub declared_in : List ListText → List DeclarationText
declared_in parts = filter_map (λ (part : ListText). declared_by part.item) parts

-- the declarations of the block of a rule
abbrev pub rule_declarations : SheetRuleText → List DeclarationText
rule_declarations rule = declared_in (items true rule.block)

-- the declarations of a style attribute, or of such a text
abbrev pub own_declarations : List ℕ → List DeclarationText
own_declarations text = declared_in (items false text)

-- the texts of an element's declarations that are in no rule: its style attribute, and what its other
-- attributes say
pub record OwnText : Type 0 where
  pub style : List ℕ
  pub presentation : List ℕ

-- ---- contenders

-- A declaration that applies to the element; what the cascade sees of it; where it is; and how many
-- declarations are before it there.
pub record Contender : Type 0 where
  pub weight : Weighed
  pub declaration : DeclarationText
  pub source : Source
  pub place : ℕ

-- a declaration of a rule, where it is one of the rule's declarations, and the rule is one of all
abbrev pub in_rule : (rule_place : ℕ) → SheetRuleText → (place : ℕ) → DeclarationText → Contender
in_rule rule_place rule place one = record {
  weight = record {
    important = one.important;
    origin = rule.origin;
    attached = false;
    layer = rule.layer;
    specificity = weight (rule_counts rule);
    place = rule_place ∷ place ∷ [];
    rollback = rollback_of one.value;
  };
  declaration = one;
  source = sources.Rule rule_place;
  place = place;
}

-- One that is in no rule, which has no layer and no specificity: its origin, whether it is attached to the
-- element, and where it is.
abbrev pub in_no_rule : Origin → (attached : Bool) → Source → (place : ℕ) → DeclarationText → Contender
in_no_rule origin attached source place one = record {
  weight = record {
    important = one.important;
    origin = origin;
    attached = attached;
    layer = 0;
    specificity = 0 ∷ 0 ∷ 0 ∷ [];
    place = 0 ∷ place ∷ [];
    rollback = rollback_of one.value;
  };
  declaration = one;
  source = source;
  place = place;
}

-- one of the style attribute
abbrev pub in_style : (place : ℕ) → DeclarationText → Contender
in_style = in_no_rule Author true sources.Style

-- one of the presentation declarations, which are presentational hints
abbrev pub in_presentation : (place : ℕ) → DeclarationText → Contender
in_presentation = in_no_rule Hint false sources.Presentation

-- declarations one after another, each with its place among them
abbrev pub placed : ((place : ℕ) → DeclarationText → Contender) → (place : ℕ)
    → List DeclarationText → List Contender
placed contends place [] = []
placed contends place (one ∷ more) = contends place one ∷ placed contends (place + 1) more

-- It is a declaration at all: each reference `var()` of its value is valid (CSS Custom Properties for
-- Cascading Variables 1, section 3). A value that the end of the text closes is taken as it is.
abbrev pub is_declared : Contender → Bool
is_declared one =
    not one.declaration.closed || is_valid deepest_fallback one.declaration.value

-- those of them that are declarations at all, each with its place among all
abbrev pub in_turn : ((place : ℕ) → DeclarationText → Contender) → (place : ℕ)
    → List DeclarationText → List Contender
in_turn contends place all = filter is_declared (placed contends place all)

-- The declarations of a rule, which has this index among all. A rule of a pseudo-element does not apply to
-- the element itself.
abbrev pub states : (index : ℕ) → SheetRuleText → List Contender
states index rule =
    if is_some rule.pseudo_element then []
    else in_turn (in_rule index rule) 0 (rule_declarations rule)

abbrev pub states_at : (index : ℕ) → Option SheetRuleText → List Contender
states_at index None = []
states_at index (Some rule) = states index rule

-- those of the rule at an index
abbrev pub stated_at : List SheetRuleText → (index : ℕ) → List Contender
stated_at rules index = states_at index (slice_get rules index)

-- those of the rules at these indices, one after another
abbrev pub of_rules : List SheetRuleText → (indices : List ℕ) → List Contender
of_rules rules indices = flat_map (stated_at rules) indices

-- those of the element itself
abbrev pub of_own : OwnText → List Contender
of_own own =
    in_turn in_presentation 0 (own_declarations own.presentation)
    ++ in_turn in_style 0 (own_declarations own.style)

-- all that contend on an element that the rules at these indices match, and that has these of its own
abbrev pub contenders : List SheetRuleText → (indices : List ℕ) → OwnText → List Contender
contenders rules indices own = of_rules rules indices ++ of_own own

-- those of one property
abbrev pub of_property : List ℕ → List Contender → List Contender
of_property property all =
    filter (λ (one : Contender). is_property property one.declaration.name) all

-- those of several properties, as a longhand and the shorthands that set it
abbrev pub of_names : List (List ℕ) → List Contender → List Contender
of_names properties all =
    filter (λ (one : Contender). is_named properties one.declaration.name) all
