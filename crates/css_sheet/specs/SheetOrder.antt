-- The style rules of sheets in the order in which the cascade takes them (CSS Cascading 5, section
-- 6): the one of the later origin later, of one origin that of the later layer, in one layer the one with the
-- greater specificity, and of equal ones the one that is later in the sheets.
use Rattle.std.specs.Prelude.{ℕ, ◌-◌, length, Bool, true, false, ◌==◌, if◌then◌else◌, List, [], ◌∷◌, ◌++◌, count_by, map, Option, Result, Ok, Err}
use Rattle.std.specs.List.{sum_by, filter_map}
use Rattle.std.specs.Option.{option_map}
use Rattle.std.specs.Ordering.{is_lt, nat_cmp}
use Rattle.std.specs.Cmp.Lexicographic.{slice_cmp}
use Rattle.css_text.specs.Ranks.{ordered_by}
use Rattle.css_syntax.specs.declared.quality.Fault.{Fault}
use Rattle.css_syntax.specs.Parts.{Stated}
use Rattle.css_syntax.specs.DeclarationLists.{ListText, ItemText, declared, at_rule_item, skipped_item, items}
use Rattle.css_selector_text.specs.Components.{Selector}
use Rattle.css_selector_text.specs.Specificities.{Counts, specificity}
use Rattle.css_cascade.specs.Cascade.{origin_rank}
use Rattle.css_cascade.specs.Layers.{LayerText, place_of}
use Rattle.css_cascade.specs.declared.weights.Origin.{Origin}
use Rattle.css_cascade.specs.declared.weights.Origin.TheVariants.{Author}
use Rattle.css_sheet.specs.Sheets.{SheetText, origin_at, outermost_at}
use Rattle.css_sheet.specs.RuleSelectors.{SelectorRead, ListContext, selectors_under}
use Rattle.css_sheet.specs.NestedSelectors.{with_element}
use Rattle.css_sheet.specs.OpenParents.{Parent, no_rule, dropped, style, ParentsText, none_open, after_part, after_parts}
use Rattle.css_sheet.specs.SheetParts.{SheetPart, states, begins, ends, stands, PlacedPart, applies_in}
use Rattle.css_sheet.specs.SheetLayers.{layered_parts, number_in_all, sheet_layers}

-- A style rule with one selector: the origin of its sheet; the layer that it is in, by its number or its
-- rank; the number of the sheet, and the offset there of the contents of its block; the text of the selector,
-- the selector without its pseudo-element, the name of the pseudo-element if it has one, and the contents
-- of the block.
pub record SheetRuleText : Type 0 where
  pub origin : Origin
  pub layer : ℕ
  pub sheet : ℕ
  pub start : ℕ
  pub text : List ℕ
  pub selector : Selector
  pub pseudo_element : Option (List ℕ)
  pub block : List ℕ

-- ---- specificity

-- the specificity of a rule: that of its selector, with the pseudo-element
abbrev pub rule_counts : SheetRuleText → Counts
rule_counts rule = with_element (specificity rule.selector) rule.pseudo_element

abbrev pub weight : Counts → List ℕ
weight counts = counts.ids ∷ counts.classes ∷ counts.names ∷ []

-- by what rules are ordered: the origin, the rank of the layer, and then the specificity
abbrev pub rule_key : SheetRuleText → List ℕ
rule_key rule = origin_rank rule.origin ∷ rule.layer ∷ weight (rule_counts rule)

-- the first rule is before the second: the first number that differs decides
abbrev pub is_before : SheetRuleText → SheetRuleText → Bool
is_before a b = is_lt (slice_cmp nat_cmp (rule_key a) (rule_key b))

-- ---- the rules of a rule set

abbrev pub is_declared : ItemText → Bool
is_declared (declared one) = true
is_declared (at_rule_item rule) = false
is_declared (skipped_item fault) = false

-- how many declarations the contents of a block have
unfoldable pub declaration_count : List ℕ → ℕ
declaration_count block = count_by (λ (part : ListText). is_declared part.item) (items true block)

-- The contents of the block of a style rule, or a part of these that rules are between: the layer and
-- the sheet that they are in, by their numbers, the offset there, and the text.
pub record RunText : Type 0 where
  pub layer : ℕ
  pub sheet : ℕ
  pub start : ℕ
  pub text : List ℕ

-- the rule of a selector with this block, if it is supported, in a sheet of the author's
abbrev pub rule_with : RunText → SelectorRead → Option SheetRuleText
rule_with run read =
    option_map (λ selector. record {
      origin = Author;
      layer = run.layer;
      sheet = run.sheet;
      start = run.start;
      text = read.text;
      selector = selector;
      pseudo_element = read.pseudo_element;
      block = run.text;
    }) read.selector

-- the rules of these selectors, each with the whole block
abbrev pub rules_with : RunText → List SelectorRead → List SheetRuleText
rules_with run selectors = filter_map (rule_with run) selectors

-- of a list with one that is no selector, none
abbrev pub unless_invalid : RunText → Result (List SelectorRead) Fault → List SheetRuleText
unless_invalid run (Ok selectors) = rules_with run selectors
unless_invalid run (Err fault) = []

-- the rules of a rule set, whose list is read with this: none without a declaration
abbrev pub rule_set_rules : Stated → ListContext → RunText → List SheetRuleText
rule_set_rules prelude under run =
    if declaration_count run.text == 0 then []
    else unless_invalid run (selectors_under under prelude)

-- ---- the rules of sheets

-- The rules of declarations that follow one another in style rules: those of the selectors of
-- the one that they are in.
abbrev pub stated_rules : Parent → RunText → List SheetRuleText
stated_rules no_rule run = []
stated_rules dropped run = []
stated_rules (style prelude under own) run = rule_set_rules prelude under run

-- these declarations, which end where the part does
abbrev pub run_at : (layer : ℕ) → PlacedPart → List ℕ → RunText
run_at layer placed text = record {
  layer = layer;
  sheet = placed.sheet;
  start = placed.end - length text;
  text = text;
}

-- the rules of a part of a sheet in this layer and in this style rule, if all group rules that it is in
-- hold
abbrev pub rules_if_stated : (layer : ℕ) → Parent → PlacedPart → SheetPart → List SheetRuleText
rules_if_stated layer parent placed (states text) =
    if applies_in placed.around then stated_rules parent (run_at layer placed text) else []
rules_if_stated layer parent placed (begins kind) = []
rules_if_stated layer parent placed ends = []
rules_if_stated layer parent placed (stands item) = []

abbrev pub part_rules : (layer : ℕ) → Parent → PlacedPart → List SheetRuleText
part_rules layer parent placed = rules_if_stated layer parent placed placed.part

-- the rules of a part, each with the number of its layer
abbrev pub placed_rules : (outermost : ℕ → ℕ) → List LayerText → Parent → PlacedPart
    → List SheetRuleText
placed_rules outermost known parent placed =
    part_rules (number_in_all (outermost placed.sheet) placed.around known) parent placed

-- the rules of these parts, one after another, before which these style rules are open
abbrev pub rules_of_parts : (outermost : ℕ → ℕ) → List LayerText → ParentsText → List PlacedPart
    → List SheetRuleText
rules_of_parts outermost known parents [] = []
rules_of_parts outermost known parents (placed ∷ more) =
    placed_rules outermost known (after_part parents placed).innermost placed
    ++ rules_of_parts outermost known (after_part parents placed) more

-- the rules of sheets in the order of the texts, each with the number of its layer, with no origin yet
abbrev pub numbered_rules : (List ℕ → List ℕ → Bool) → List SheetText → List SheetRuleText
numbered_rules holds sheets =
    rules_of_parts (outermost_at sheets) (sheet_layers holds sheets) (none_open [])
    (layered_parts holds sheets)

-- The lists of selectors that `&` denotes in nested rules of sheets, of which the first has number 1:
-- one for each style rule with rules in it, where all group rules hold. In a list `&` denotes one
-- before it.
abbrev pub nested_lists : (List ℕ → List ℕ → Bool) → List SheetText → List (List Selector)
nested_lists holds sheets = (after_parts (none_open []) (layered_parts holds sheets)).lists

-- the rule with the origin of its sheet, and with the rank of its layer in the place of the number
abbrev pub ranked : List LayerText → List SheetText → SheetRuleText → SheetRuleText
ranked known sheets rule = record rule {
  origin = origin_at sheets rule.sheet;
  layer = place_of rule.layer known;
}

-- The rules of sheets in the order of the texts, each with its origin and the rank of its layer, where a group rule that is
-- no `@layer` holds as `holds` says of its keyword and its prelude. A style rule with group rules in it
-- has rules for the declarations before each, in it, and after it; so has one with nested style rules.
abbrev pub source_rules : (List ℕ → List ℕ → Bool) → List SheetText → List SheetRuleText
source_rules holds sheets =
    map (ranked (sheet_layers holds sheets) sheets) (numbered_rules holds sheets)

-- the rules of sheets in order
abbrev pub cascade_rules : (List ℕ → List ℕ → Bool) → List SheetText → List SheetRuleText
cascade_rules holds sheets = ordered_by is_before (source_rules holds sheets)

-- How many declarations rules have. Those of a rule set count once for each of its selectors.
abbrev pub declarations_in : List SheetRuleText → ℕ
declarations_in rules = sum_by (λ (rule : SheetRuleText). declaration_count rule.block) rules
