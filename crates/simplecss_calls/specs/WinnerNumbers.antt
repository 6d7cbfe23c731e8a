-- The declarations that win on the elements of a tree, and the rules that match them, as numbers.
use Rattle.std.specs.Prelude.{◌≡◌, ◌⊎◌, ◌<◌, ◌≤◌, ℕ, ◌+◌, ◌*◌, min, take, drop, Bool, true, false, ◌&&◌, ◌||◌, ◌==◌, if◌then◌else◌, List, [], ◌∷◌, ◌++◌, length, map, bytes_eq, Option, None, Some, Result, Ok, Err}
use Rattle.std.specs.List.{filter_map, flat_map, slice_get}
use Rattle.css_matching.specs.ListTrees.{spot}
use Rattle.css_syntax.specs.Contents.{declaration_value}
use Rattle.css_syntax.specs.DeclarationLists.{DeclarationText, ItemText, declared, at_rule_item, skipped_item}
use Rattle.css_syntax.specs.Placed.{PlacedItem, placed_items}
use Rattle.css_selector_text.specs.Components.{Selector}
use Rattle.css_selectors.specs.MarkedLists.{ListText}
use Rattle.css_selectors.specs.Numberings.{NumberingText}
use Rattle.css_selector_text.specs.Specificities.{Counts}
use Rattle.css_cascade.specs.Layers.{most_layers}
use Rattle.css_cascade.specs.declared.weights.Origin.{Origin}
use Rattle.css_cascade.specs.declared.weights.Origin.TheVariants as origins
use Rattle.css_index.specs.Found.{AreMatches}
use Rattle.css_sheet.specs.SheetLayers.{layer_count}
use Rattle.css_sheet.specs.SheetOrder.{SheetRuleText, cascade_rules, nested_lists, source_rules, declarations_in, rule_counts}
use Rattle.css_sheet.specs.Sheets.{GroupRuleText, SheetText}
use Rattle.css_styles.specs.Contenders.{OwnText, contenders}
use Rattle.css_styles.specs.NumberedRules.{numbered_sheets}
use Rattle.css_styles.specs.Winners.{WinnerText, AreWinners, winners}
use Rattle.css_styles.specs.declared.winner.Source.{Source}
use Rattle.css_styles.specs.declared.winner.Source.TheVariants as sources
use Rattle.css_tree.specs.Pages.{Page, page_document}
use Rattle.call_answers.specs.declared.answer.CallError.{CallError}
use Rattle.call_answers.specs.declared.answer.CallError.TheVariants.{TooManyLayers}
use Rattle.call_answers.specs.declared.elements.ElementFault.{ElementFault}
use Rattle.simplecss_calls.specs.declared.winners.Sheets.{Sheets}
use Rattle.call_answers.specs.AnswerLines.{AreLinesWithin}
use Rattle.call_answers.specs.Calls.{FailsWithin, HasTexts, HasBadEnds, IsBrokenUtf8}
use Rattle.page_calls.specs.Ranges.{count_in}
use Rattle.page_calls.specs.declared.modern.ranges.ElementRange.{ElementRange}
use Rattle.call_answers.specs.Numbers.{number_if, offset}

-- ---- group rules

-- the first of some texts, if there is one, and those after it
abbrev pub first_text : List (List ℕ) → List ℕ
first_text [] = []
first_text (text ∷ texts) = text

abbrev pub later_texts : List (List ℕ) → List (List ℕ)
later_texts [] = []
later_texts (text ∷ texts) = texts

abbrev pub is_pair : (name text keyword prelude : List ℕ) → Bool
is_pair name text keyword prelude = bytes_eq name keyword && bytes_eq text prelude

-- A group rule holds if its keyword and its prelude are among the texts, which are pairs of these. A
-- keyword at the end has an empty prelude.
abbrev pub is_held : List (List ℕ) → (keyword prelude : List ℕ) → Bool
is_held [] keyword prelude = false
is_held (name ∷ []) keyword prelude = is_pair name [] keyword prelude || false
is_held (name ∷ text ∷ more) keyword prelude =
    is_pair name text keyword prelude || is_held more keyword prelude

-- ---- rules

-- The numbers of a declaration of a text that ends at this offset, where `from` is left from the
-- declaration on: the offset and the length of its name and of its value, and whether it is important
-- and closed.
abbrev pub declaration_numbers : (end : ℕ) → (from : List ℕ) → DeclarationText → List ℕ
declaration_numbers end from one =
    offset end from ∷ length one.name ∷ offset end (declaration_value from) ∷ length one.value
    ∷ number_if one.important ∷ number_if one.closed ∷ []

-- those of an item, if it is a declaration
abbrev pub item_numbers : (end : ℕ) → (from : List ℕ) → ItemText → Option (List ℕ)
item_numbers end from (declared one) = Some (declaration_numbers end from one)
item_numbers end from (at_rule_item rule) = None
item_numbers end from (skipped_item fault) = None

-- those of each declaration of a block that ends at this offset
abbrev pub block_numbers : (end : ℕ) → (block : List ℕ) → List (List ℕ)
block_numbers end block =
    filter_map (λ (placed : PlacedItem). item_numbers end placed.from placed.part.item)
    (placed_items true block)

-- the offset at which a block ends that begins at this one, as far as a number of 64 bits has it
abbrev pub end_of : (start : ℕ) → (block : List ℕ) → ℕ
end_of start block = min (start + length block) 18446744073709551615

-- how many declarations there are, and the numbers of each
abbrev pub counted_numbers : List (List ℕ) → List ℕ
counted_numbers all = length all ∷ flat_map (λ numbers. numbers) all

-- the length of the name of a pseudo-element, or 0 if there is none
abbrev pub name_length : Option (List ℕ) → ℕ
name_length None = 0
name_length (Some name) = length name

abbrev pub counts_numbers : Counts → List ℕ
counts_numbers c = c.ids ∷ c.classes ∷ c.names ∷ []

-- Eight numbers of a rule: of its sheet, where its declarations begin there, and of the rank of its layer; the
-- length of its selector's text, and of the name of the pseudo-element at the end of that; and the specificity.
abbrev pub rule_head : SheetRuleText → List ℕ
rule_head rule =
    rule.sheet ∷ rule.start ∷ rule.layer ∷ length rule.text ∷ name_length rule.pseudo_element
    ∷ counts_numbers (rule_counts rule)

-- the numbers of a rule: these, and those of its declarations
abbrev pub rule_numbers : SheetRuleText → List ℕ
rule_numbers rule =
    rule_head rule ++ counted_numbers (block_numbers (end_of rule.start rule.block) rule.block)

-- ---- what wins

-- The number of where a declaration is, among this number of rules: that of its rule; the number of rules if
-- it is in the style attribute; and one more if it is a presentation declaration.
abbrev pub source_number : (rules : ℕ) → Source → ℕ
source_number rules (sources.Rule rule) = rule
source_number rules sources.Style = rules
source_number rules sources.Presentation = rules + 1

-- the numbers of a declaration that wins: of where it is, and of its place there
abbrev pub winner_numbers : (rules : ℕ) → WinnerText → List ℕ
winner_numbers rules winner = source_number rules winner.source ∷ winner.place ∷ []

-- how many declarations win, and the numbers of each
abbrev pub winners_numbers : (rules : ℕ) → List WinnerText → List ℕ
winners_numbers rules found = length found ∷ flat_map (winner_numbers rules) found

-- the numbers of a declaration that wins, if one does; else two more than the number of rules, and 0
abbrev pub option_numbers : (rules : ℕ) → Option WinnerText → List ℕ
option_numbers rules None = (rules + 2) ∷ 0 ∷ []
option_numbers rules (Some winner) = winner_numbers rules winner

abbrev pub or_empty : Option (List ℕ) → List ℕ
or_empty None = []
or_empty (Some text) = text

-- the text of a number, which is empty if there is none
abbrev pub text_at : List (List ℕ) → (number : ℕ) → List ℕ
text_at texts number = or_empty (slice_get texts number)

-- Of two texts for each element, those of the element at an index: of its style attribute, and of its
-- presentation declarations.
abbrev pub own_at : List (List ℕ) → (index : ℕ) → OwnText
own_at texts index = record {
  style = text_at texts (2 * index);
  presentation = text_at texts (2 * index + 1);
}

-- The names of each property, of which these are how many it has; those after them are of none.
abbrev pub groups_in : (counts : List ℕ) → (names : List (List ℕ)) → List (List (List ℕ))
groups_in [] names = []
groups_in (count ∷ counts) names = take count names ∷ groups_in counts (drop count names)

-- the selectors of rules, where a document reads selectors in this way
abbrev pub selectors_read : (Selector → Selector) → List SheetRuleText → List Selector
selectors_read read rules = map (λ (rule : SheetRuleText). read rule.selector) rules

-- The numbers of what wins on the element at an index that has these declarations of its own, of these
-- properties if some are asked for, where a document reads selectors in this way.
abbrev pub IsWon : Option (List (List (List ℕ))) → OwnText → (Selector → Selector)
    → List SheetRuleText → Page → ℕ → List ℕ → Type 0
IsWon None own read rules page index numbers =
    (indices : List ℕ) × AreMatches page_document (spot page index) (selectors_read read rules) indices
    × (numbers ≡ winners_numbers (length rules) (winners rules indices own))
IsWon (Some asked) own read rules page index numbers =
    (indices : List ℕ) × AreMatches page_document (spot page index) (selectors_read read rules) indices
    × (found : List (Option WinnerText))
    × AreWinners (contenders rules indices own) asked found
    × (numbers ≡ flat_map (option_numbers (length rules)) found)

-- the same, where there are two texts for each element
abbrev pub IsWonOf : Option (List (List (List ℕ))) → (texts : List (List ℕ)) → (Selector → Selector)
    → List SheetRuleText → Page → ℕ → List ℕ → Type 0
IsWonOf asked texts read rules page index = IsWon asked (own_at texts index) read rules page index

-- those of the elements of a range, in order, within a limit on how many these are
abbrev pub AreWon : Option (List (List (List ℕ))) → (texts : List (List ℕ)) → (most : ℕ) → ElementRange
    → (Selector → Selector) → List SheetRuleText → Page → Option (List ℕ) → Type 0
AreWon asked texts most range read rules page =
    AreLinesWithin most (λ index. IsWonOf asked texts read rules page (range.from + index))
    (count_in range (length page.rows))

-- ---- what matches

-- how many of the selectors match the element at an index, and the index of each, in order
abbrev pub IsMatchedBy : List Selector → Page → ℕ → List ℕ → Type 0
IsMatchedBy selectors page index numbers =
    (indices : List ℕ) × AreMatches page_document (spot page index) selectors indices
    × (numbers ≡ length indices ∷ indices)

-- those of the elements of a range, in order, within a limit on how many these are
abbrev pub AreMatchedBy : (most : ℕ) → ElementRange → List Selector → Page → Option (List ℕ) → Type 0
AreMatchedBy most range selectors page =
    AreLinesWithin most (λ index. IsMatchedBy selectors page (range.from + index)) (count_in range (length page.rows))

-- those of the rules, where a document reads selectors in this way
abbrev pub AreMatched : (most : ℕ) → ElementRange → (Selector → Selector) → List SheetRuleText → Page
    → Option (List ℕ) → Type 0
AreMatched most range read rules = AreMatchedBy most range (selectors_read read rules)

-- ---- calls

-- what is passed beside a tree: the texts of sheets, of the group rules that hold and of the urls of namespaces,
-- each in a buffer, with their ends; the numbers of the sheets' origins; those of the group rules that sheets are
-- in, and in how many each is
pub record PassedSheets : Type 0 where
  pub texts : List ℕ
  pub ends : List ℕ
  pub origins : List ℕ
  pub groups : List ℕ
  pub group_ends : List ℕ
  pub around : List ℕ
  pub depths : List ℕ
  pub namespaces : List ℕ
  pub namespace_ends : List ℕ

-- what contracts see of it
abbrev pub sheets_of : Sheets → PassedSheets
sheets_of p = record {
  texts = p.texts.now;
  ends = p.ends.now;
  origins = p.origins.now;
  groups = p.groups.now;
  group_ends = p.group_ends.now;
  around = p.around.now;
  depths = p.depths.now;
  namespaces = p.namespaces.now;
  namespace_ends = p.namespace_ends.now;
}

-- the origin of a number: any other is the author's
abbrev pub origin_of : ℕ → Origin
origin_of number =
    if number == 1 then origins.User else if number == 2 then origins.UserAgent else origins.Author

-- the first of some numbers, or 0, and those after it
abbrev pub first_number : List ℕ → ℕ
first_number [] = 0
first_number (number ∷ numbers) = number

abbrev pub later_numbers : List ℕ → List ℕ
later_numbers [] = []
later_numbers (number ∷ numbers) = numbers

-- the group rule of a number, from 0 on, among these texts, which are two for each; it is nothing if there
-- are none
abbrev pub group_rule_at : (groups : List (List ℕ)) → (number : ℕ) → GroupRuleText
group_rule_at groups number = record {
  keyword = text_at groups (2 * number);
  prelude = text_at groups (2 * number + 1);
  number = number;
}

-- The sheets with these texts, with the origins of these numbers, others being the author's; each is in as
-- many of these group rules as its depth says, others in none. The namespaces with these urls are known.
abbrev pub sheets_with : (origins depths : List ℕ) → List GroupRuleText → (namespaces : List (List ℕ))
    → (texts : List (List ℕ)) → List SheetText
sheets_with origins depths rules namespaces [] = []
sheets_with origins depths rules namespaces (text ∷ texts) =
    record {
      text = text;
      origin = origin_of (first_number origins);
      around = take (first_number depths) rules;
      namespaces = namespaces;
    }
    ∷ sheets_with (later_numbers origins) (later_numbers depths) (drop (first_number depths) rules)
    namespaces texts

-- these are the texts
pub record HasSheets (passed : PassedSheets) (texts groups namespaces : List (List ℕ)) : Type 0 where
  pub sheets : HasTexts passed.texts passed.ends texts
  pub held : HasTexts passed.groups passed.group_ends groups
  pub spaces : HasTexts passed.namespaces passed.namespace_ends namespaces

-- how many declarations the rules of the sheets hold where these group rules hold
abbrev pub held_declarations : List SheetText → (groups : List (List ℕ)) → ℕ
held_declarations sheets groups = declarations_in (source_rules (is_held groups) sheets)

-- and how many layers there are
abbrev pub held_layers : List SheetText → (groups : List (List ℕ)) → ℕ
held_layers sheets groups = layer_count (is_held groups) sheets

-- the rules of the sheets where these group rules hold, in the order of the cascade and with numbers in their
-- selectors, and the lists of these numbers
abbrev pub held_rules : List SheetText → (groups : List (List ℕ)) → List SheetRuleText × NumberingText
held_rules sheets groups =
    numbered_sheets (nested_lists (is_held groups) sheets) (cascade_rules (is_held groups) sheets)

-- the sheets are these, and these are the texts of group rules
abbrev pub AreSheets : PassedSheets → List SheetText → (groups : List (List ℕ)) → Type 0
AreSheets passed sheets groups =
    (texts namespaces : List (List ℕ)) × HasSheets passed texts groups namespaces
    × (sheets
    ≡ sheets_with passed.origins passed.depths (map (group_rule_at groups) passed.around) namespaces texts)

-- they hold more than the limit
abbrev pub AreBeyond : PassedSheets → (limit : ℕ) → Type 0
AreBeyond passed limit =
    (sheets : List SheetText) × (groups : List (List ℕ)) × AreSheets passed sheets groups
    × (limit < held_declarations sheets groups)

-- there are more layers than there may be
abbrev pub AreLayeredBeyond : PassedSheets → Type 0
AreLayeredBeyond passed =
    (sheets : List SheetText) × (groups : List (List ℕ)) × AreSheets passed sheets groups
    × (most_layers < held_layers sheets groups)

-- The rules of the sheets, with at most this number of declarations, and the lists that their selectors ask by
-- numbers. There are no more layers than there may be.
abbrev pub AreRules : PassedSheets → (limit : ℕ) → List SheetRuleText → List ListText → Type 0
AreRules passed limit rules lists =
    (sheets : List SheetText) × (groups : List (List ℕ)) × AreSheets passed sheets groups
    × (held_declarations sheets groups ≤ limit) × (held_layers sheets groups ≤ most_layers)
    × (rules ≡ (held_rules sheets groups).0)
    × (lists ≡ (held_rules sheets groups).1.lists)

-- the ends of group rules or of urls of namespaces are not those of texts, or others are not
abbrev pub HasBadBeside : PassedSheets → Type 0 → Type 0
HasBadBeside sheets HasBad =
    HasBadEnds sheets.groups sheets.group_ends
    ⊎ (HasBadEnds sheets.namespaces sheets.namespace_ends ⊎ HasBad)

-- one of these texts is not UTF-8
abbrev pub IsBrokenBeside : PassedSheets → Type 0 → Type 0
IsBrokenBeside sheets IsBroken =
    IsBrokenUtf8 sheets.groups sheets.group_ends
    ⊎ (IsBrokenUtf8 sheets.namespaces sheets.namespace_ends ⊎ IsBroken)

-- why sheets are not read, and what is said of a tree and of other texts beside them
abbrev pub FailsBeside : PassedSheets → (limit : ℕ) → Type 0 → (ElementFault → Type 0) → Type 0
    → Type 0 → CallError → Type 0
FailsBeside sheets limit HasBad IsFaulty IsBroken IsLonger TooManyLayers = AreLayeredBeyond sheets
FailsBeside sheets limit HasBad IsFaulty IsBroken IsLonger failure =
    FailsWithin (HasBadEnds sheets.texts sheets.ends ⊎ HasBadBeside sheets HasBad)
    IsFaulty (IsBrokenUtf8 sheets.texts sheets.ends ⊎ IsBrokenBeside sheets IsBroken)
    (AreBeyond sheets limit) IsLonger failure
