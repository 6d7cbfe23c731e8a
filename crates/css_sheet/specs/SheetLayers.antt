-- The layers of sheets (CSS Cascading 5, section 6.4): those of the `@layer` rules whose group rules
-- all hold and that are in no style rule that is dropped, in order. Each origin has its own.
use Rattle.std.specs.Prelude.{ℕ, ◌-◌, Bool, if◌then◌else◌, List, [], ◌∷◌, length, Option, None, Some}
use Rattle.std.specs.List.{flat_map}
use Rattle.std.specs.Option.{is_some}
use Rattle.css_syntax.specs.Statements.{BlockText, AtRuleText}
use Rattle.css_syntax.specs.DeclarationLists.{ItemText, declared, at_rule_item, skipped_item}
use Rattle.css_cascade.specs.Layers.{LayerPart, LayerText, origin_count, outermost_layers, number_at, or_outermost, with_name}
use Rattle.css_cascade.specs.LayerNames.{block_name, layer_names}
use Rattle.css_sheet.specs.SheetParts.{OpenText, RuleKind, style_rule, group_rule, SheetPart, states, begins, ends, stands, PlacedPart, applies_in, all_parts}
use Rattle.css_sheet.specs.SheetItems.{is_layer}
use Rattle.css_sheet.specs.OpenParents.{Parent, ParentsText, after_part, is_dropped, none_open}
use Rattle.css_sheet.specs.Sheets.{SheetText, outermost_at}

-- What is said of group rules, and of `@layer`: that one holds, if its prelude is a name or nothing.
abbrev pub with_layers : (List ℕ → List ℕ → Bool) → List ℕ → List ℕ → Bool
with_layers holds keyword prelude =
    if is_layer keyword then is_some (block_name prelude (0 ∷ 0 ∷ [])) else holds keyword prelude

abbrev pub or_none : {A : Type 0} → Option (List A) → List A
or_none None = []
or_none (Some all) = all

-- ---- the layer that something is in

-- The parts of the name of the layer that a rule is, from the layer that it is in on. A layer without a
-- name is told from others by the place of its contents.
abbrev pub kind_name : RuleKind → (place : List ℕ) → List LayerPart
kind_name (style_rule prelude) place = []
kind_name (group_rule keyword prelude) place =
    if is_layer keyword then or_none (block_name prelude place) else []

-- what does not apply is no layer
abbrev pub open_name : OpenText → List LayerPart
open_name rule = if rule.applies then kind_name rule.kind rule.place else []

-- the parts of the name of the layer that is innermost in these rules
abbrev pub layer_parts : List OpenText → List LayerPart
layer_parts around = flat_map open_name around

-- the number of the layer that is innermost in these rules, where all is in the outermost one
abbrev pub number_in_all : (outermost : ℕ) → List OpenText → List LayerText → ℕ
number_in_all outermost around known =
    or_outermost (number_at outermost (layer_parts around) known)

-- ---- the layers that are mentioned

-- with all of these names in one layer, one after another
abbrev pub with_names : (outer : ℕ) → List LayerText → List (List LayerPart) → List LayerText
with_names outer known [] = known
with_names outer known (name ∷ more) = with_names outer (with_name known outer name) more

-- the layers of a list of names, if it is one
abbrev pub with_list : (outer : ℕ) → (prelude : List ℕ) → List LayerText → Option BlockText
    → List LayerText
with_list outer prelude known None = with_names outer known (or_none (layer_names prelude))
with_list outer prelude known (Some block) = known

abbrev pub with_rule : (outer : ℕ) → List LayerText → AtRuleText → List LayerText
with_rule outer known rule =
    if is_layer rule.name then with_list outer rule.prelude.text known rule.block else known

-- the layers that an item in this layer mentions: those of `@layer` with a list of names
abbrev pub with_item : (outer : ℕ) → List LayerText → ItemText → List LayerText
with_item outer known (declared one) = known
with_item outer known (at_rule_item rule) = with_rule outer known rule
with_item outer known (skipped_item fault) = known

abbrev pub if_applies : Bool → (outer : ℕ) → List LayerText → ItemText → List LayerText
if_applies applies outer known item = if applies then with_item outer known item else known

-- A rule that begins mentions the layer that it is, if it is one and applies, unless the style rule that it
-- is in is dropped; an item outside of style rules mentions others. All of a sheet is in the outermost layer
-- of its origin.
abbrev pub mentioned : (outermost : ℕ) → List LayerText → Parent → List OpenText → SheetPart
    → List LayerText
mentioned outermost known parent around (states text) = known
mentioned outermost known parent around (begins kind) =
    if is_dropped parent then known else with_name known outermost (layer_parts around)
mentioned outermost known parent around ends = known
mentioned outermost known parent around (stands item) =
    if_applies (applies_in around) (number_in_all outermost around known) known item

-- where each sheet, by its number, is in the layer of this number, and what is next is in this style rule
abbrev pub with_part : (outermost : ℕ → ℕ) → List LayerText → Parent → PlacedPart → List LayerText
with_part outermost known parent placed =
    mentioned (outermost placed.sheet) known parent placed.around placed.part

-- the layers after these parts, before which these style rules are open
abbrev pub with_parts : (outermost : ℕ → ℕ) → List LayerText → ParentsText → List PlacedPart
    → List LayerText
with_parts outermost known parents [] = known
with_parts outermost known parents (placed ∷ more) =
    with_parts outermost
    (with_part outermost known (after_part parents placed).innermost placed)
    (after_part parents placed) more

-- the parts of sheets, where `holds` says which group rules hold that are no `@layer`
abbrev pub layered_parts : (List ℕ → List ℕ → Bool) → List SheetText → List PlacedPart
layered_parts holds sheets = all_parts (with_layers holds) sheets

-- The layers of sheets, those of each origin in order. One that is named in several sheets of an origin is
-- one layer, and one of the same name in sheets of another is another.
abbrev pub sheet_layers : (List ℕ → List ℕ → Bool) → List SheetText → List LayerText
sheet_layers holds sheets =
    with_parts (outermost_at sheets) outermost_layers (none_open []) (layered_parts holds sheets)

-- how many layers there are, beside the outermost ones
abbrev pub layer_count : (List ℕ → List ℕ → Bool) → List SheetText → ℕ
layer_count holds sheets = length (sheet_layers holds sheets) - origin_count
