-- What each call must write, and when it fails.
use Rattle.std.specs.Prelude.{◌≡◌, ◌≢◌, ◌<◌, ◌≤◌, ◌*◌, ◌⊎◌, ℕ, List, [], ◌∷◌, length, map, Option, None, Some, Result, Ok, Err}
use Rattle.std.specs.List.{All, slice_range}
use Rattle.std.specs.Str.{IsUtf8}
use Rattle.simplecss.specs.Components.{Component}
use Rattle.simplecss.specs.ThisEdition.{this_edition}
use Rattle.simplecss.specs.Statements.{StyleRule}
use Rattle.simplecss.specs.SelectorLists.{list_of, list_read}
use Rattle.simplecss.specs.Sheets.{sheet}
use Rattle.simplecss.specs.DeclarationCounts.{kept_in_all}
use Rattle.simplecss.specs.Skipped.{skipped}
use Rattle.css_elements.specs.Rows.{Row}
use Rattle.css_selectors.specs.Documents.{NamespacedAttribute}
use Rattle.css_selector_text.specs.Names.{Names, last_number}
use Rattle.css_tree.specs.Pages.{NamedState}
use Rattle.css_syntax.specs.Printing.{IsClosed}
use Rattle.cssq.specs.SelectorRuns.{selector_in, selector_line}
use Rattle.cssq.specs.SheetRuns.{sheet_output}
use Rattle.call_answers.specs.declared.elements.PassedTree.{PassedTree}
use Rattle.call_answers.specs.declared.elements.ElementFault.{ElementFault}
use Rattle.call_answers.specs.declared.elements.TreeAttribute.{TreeAttribute}
use Rattle.call_answers.specs.declared.elements.TreeElement.{TreeElement}
use Rattle.call_answers.specs.declared.answer.CallError.{CallError}
use Rattle.call_answers.specs.declared.answer.CallError.TheVariants.{Refused, Tree, Memory, TooManyDeclarations, NotUtf8, AnswerTooLong, TooManyLayers}
use Rattle.call_answers.specs.declared.pages.LineContent.TheVariants.{Numbers, Selected}
use Rattle.call_answers.specs.Texts.{texts_in}
use Rattle.call_answers.specs.Elements.{Strings, tree_of, strings_in, all_but, last_names, named_states, prefixes_with, attributes_with, attributes_by}
use Rattle.call_answers.specs.PortTexts.{rule_texts, skipped_texts}
use Rattle.call_answers.specs.Refusals.{read_text}
use Rattle.call_answers.specs.AnswerLines.{AreLinesOf, AreMatchLines, AreWinnerLines, AreWinnersLines}

-- A failure has its own reason. Any call may be out of memory.
abbrev pub FailsFor : Type 0 → (ElementFault → Type 0) → Type 0 → CallError → Type 0
FailsFor IsRefused IsFaulty IsBroken Refused = IsRefused
FailsFor IsRefused IsFaulty IsBroken (Tree fault) = IsFaulty fault
FailsFor IsRefused IsFaulty IsBroken Memory = Unit {0}
FailsFor IsRefused IsFaulty IsBroken TooManyDeclarations = ⊥
FailsFor IsRefused IsFaulty IsBroken NotUtf8 = IsBroken
FailsFor IsRefused IsFaulty IsBroken AnswerTooLong = ⊥
FailsFor IsRefused IsFaulty IsBroken TooManyLayers = ⊥

-- the same of a call with limits on the declarations and on the answer
abbrev pub FailsWithin : Type 0 → (ElementFault → Type 0) → Type 0 → Type 0 → Type 0 → CallError
    → Type 0
FailsWithin IsRefused IsFaulty IsBroken IsBeyond IsLonger Refused = IsRefused
FailsWithin IsRefused IsFaulty IsBroken IsBeyond IsLonger (Tree fault) = IsFaulty fault
FailsWithin IsRefused IsFaulty IsBroken IsBeyond IsLonger Memory = Unit {0}
FailsWithin IsRefused IsFaulty IsBroken IsBeyond IsLonger TooManyDeclarations = IsBeyond
FailsWithin IsRefused IsFaulty IsBroken IsBeyond IsLonger NotUtf8 = IsBroken
FailsWithin IsRefused IsFaulty IsBroken IsBeyond IsLonger AnswerTooLong = IsLonger
FailsWithin IsRefused IsFaulty IsBroken IsBeyond IsLonger TooManyLayers = ⊥

-- of a call that fails for nothing but a limit on the answer
abbrev pub FailsLonger : Type 0 → CallError → Type 0
FailsLonger = FailsWithin ⊥ (λ fault. ⊥) ⊥ ⊥

-- the line of the text's selector, or why there is none
abbrev pub IsSelectorCall : List ℕ → Result (List ℕ) CallError → Type 0
IsSelectorCall text (Ok line) =
    IsUtf8 text × (selector : List Component) × (selector_in text ≡ Some selector)
    × (line ≡ selector_line selector)
IsSelectorCall text (Err failure) =
    FailsFor (selector_in text ≡ None) (λ fault. ⊥) (¬ (IsUtf8 text)) failure

-- the texts of a buffer by their ends, each of which is UTF-8
abbrev pub HasTexts : List ℕ → List ℕ → List (List ℕ) → Type 0
HasTexts buffer ends texts = (texts_in buffer ends ≡ Some texts) × All IsUtf8 texts

-- Of the texts with these ends, the first of which begins at `start`, the first at fault has an end
-- that is before its start or past the end of the buffer; or none is, and the last does not end
-- where the buffer does.
abbrev pub HasBadEndsFrom : List ℕ → (start : ℕ) → List ℕ → Type 0
HasBadEndsFrom buffer start [] = start ≢ length buffer
HasBadEndsFrom buffer start (end ∷ ends) =
    ¬ ((start ≤ end) × (end ≤ length buffer))
    ⊎ (IsUtf8 (slice_range buffer start end) × HasBadEndsFrom buffer end ends)

-- the same of all texts of a buffer
abbrev pub HasBadEnds : List ℕ → List ℕ → Type 0
HasBadEnds buffer ends = HasBadEndsFrom buffer 0 ends

-- of the texts with these ends, the first of which begins at `start`, the first at fault is not
-- UTF-8
abbrev pub IsBrokenFrom : List ℕ → (start : ℕ) → List ℕ → Type 0
IsBrokenFrom buffer start [] = ⊥
IsBrokenFrom buffer start (end ∷ ends) =
    (start ≤ end) × (end ≤ length buffer)
    × ((¬ (IsUtf8 (slice_range buffer start end)))
    ⊎ (IsUtf8 (slice_range buffer start end) × IsBrokenFrom buffer end ends))

-- the same of all texts of a buffer
abbrev pub IsBrokenUtf8 : List ℕ → List ℕ → Type 0
IsBrokenUtf8 buffer ends = IsBrokenFrom buffer 0 ends

-- the rules of the texts of a buffer would hold more declarations than the limit
abbrev pub IsBeyond : List ℕ → List ℕ → ℕ → Type 0
IsBeyond buffer ends limit =
    (texts : List (List ℕ)) × HasTexts buffer ends texts × (limit < kept_in_all this_edition texts)

-- the texts of a buffer, whose rules hold at most this number of declarations
abbrev pub HasTextsWithin : List ℕ → List ℕ → (limit : ℕ) → List (List ℕ) → Type 0
HasTextsWithin buffer ends limit texts =
    HasTexts buffer ends texts × (kept_in_all this_edition texts ≤ limit)

-- the rules of the sheet of texts, which hold at most this number of declarations
abbrev pub IsReadWithin : (limit : ℕ) → List (List ℕ) → List StyleRule → Type 0
IsReadWithin limit texts rules =
    (rules ≡ sheet this_edition texts) × (kept_in_all this_edition texts ≤ limit)

-- what is written for the sheet of the texts, or why nothing is
abbrev pub IsSheetCall : (List StyleRule → List ℕ → Type 0) → List ℕ → List ℕ → (limit : ℕ)
    → Result (List ℕ) CallError → Type 0
IsSheetCall IsText buffer ends limit (Ok bytes) =
    (texts : List (List ℕ)) × HasTextsWithin buffer ends limit texts
    × IsText (sheet this_edition texts) bytes
IsSheetCall IsText buffer ends limit (Err failure) =
    FailsWithin (HasBadEnds buffer ends) (λ fault. ⊥) (IsBrokenUtf8 buffer ends)
    (IsBeyond buffer ends limit) ⊥ failure

-- the printed sheet, with a newline if it has a rule
abbrev pub IsPrinted : List StyleRule → List ℕ → Type 0
IsPrinted rules bytes = bytes ≡ sheet_output rules

-- what is written of each rule
abbrev pub AreRuleTexts : List StyleRule → List ℕ → Type 0
AreRuleTexts rules bytes = bytes ≡ rule_texts rules

-- what is written of each piece of the text that is skipped
abbrev pub IsSkippedCall : List ℕ → Result (List ℕ) CallError → Type 0
IsSkippedCall text (Ok bytes) =
    IsUtf8 text × (bytes ≡ skipped_texts text (skipped this_edition text))
IsSkippedCall text (Err failure) = FailsFor ⊥ (λ fault. ⊥) (¬ (IsUtf8 text)) failure

-- where the text is no list of selectors, and why, or nothing where it is one
abbrev pub IsPortRefusalCall : List ℕ → Result (List ℕ) CallError → Type 0
IsPortRefusalCall text (Ok bytes) = IsUtf8 text × (bytes ≡ read_text (list_read this_edition text))
IsPortRefusalCall text (Err failure) = FailsFor ⊥ (λ fault. ⊥) (¬ (IsUtf8 text)) failure

-- The value with what closes it, read whole. Which values are refused is not said.
abbrev pub IsCloseCall : List ℕ → Result (List ℕ) CallError → Type 0
IsCloseCall value (Ok text) = IsUtf8 value × IsClosed value text
IsCloseCall value (Err failure) = FailsFor (Unit {0}) (λ fault. ⊥) (¬ (IsUtf8 value)) failure

-- A tree as a caller passes it: its elements, a buffer of strings, where each ends, the attributes in namespaces,
-- whose strings are after those of the elements, how many names of states are after these, and the numbers of the
-- namespaces of prefixes, which are the last strings.
pub record Passed : Type 0 where
  pub elements : List TreeElement
  pub strings : List ℕ
  pub ends : List ℕ
  pub attributes : List TreeAttribute
  pub states : ℕ
  pub prefixes : List ℕ

-- what contracts see of it
abbrev pub passed_of : PassedTree → Passed
passed_of p = record {
  elements = p.elements.now;
  strings = p.strings.now;
  ends = p.ends.now;
  attributes = p.attributes.now;
  states = p.states;
  prefixes = p.prefixes.now;
}

-- the tree that is passed, or its fault
abbrev pub passed_tree : Passed → Result (List Row) ElementFault
passed_tree passed =
    tree_of passed.elements passed.strings passed.ends (length passed.attributes) passed.states
    (length passed.prefixes)

-- the strings that are passed with it, but for prefixes
abbrev pub before_prefixes : Passed → Strings
before_prefixes passed = all_but (length passed.prefixes) (strings_in passed.strings passed.ends)

-- the names of states that are passed with it
abbrev pub passed_names : Passed → List (List ℕ)
passed_names passed = last_names passed.states (before_prefixes passed)

-- the attributes in namespaces that are passed with it, each with the index of its element
abbrev pub passed_attributes : Passed → List (ℕ × NamespacedAttribute)
passed_attributes passed =
    attributes_with
    (last_names (2 * length passed.attributes) (all_but passed.states (before_prefixes passed)))
    passed.attributes

-- those of each element
abbrev pub passed_spaced : Passed → List (List NamespacedAttribute)
passed_spaced passed = attributes_by (length passed.elements) (passed_attributes passed)

-- the prefixes that are passed with it, with the numbers of their namespaces
abbrev pub passed_prefixes : Passed → List (List ℕ × ℕ)
passed_prefixes passed =
    prefixes_with
    (last_names (length passed.prefixes) (strings_in passed.strings passed.ends)) passed.prefixes

-- the states that are named
abbrev pub passed_states : Passed → List NamedState
passed_states passed = named_states (passed_names passed) passed.elements

-- What is declared for selectors: states, and prefixes with the numbers of their namespaces, of which the empty one
-- is of the default namespace.
abbrev pub declared_by : (states : List (List ℕ)) → (prefixes : List (List ℕ × ℕ)) → Names
declared_by states prefixes = record {
  states = states;
  functions = [];
  elements = [];
  element_functions = [];
  default_namespace = last_number None prefixes [];
  prefixes = prefixes;
}

-- what a tree declares
abbrev pub passed_declared : Passed → Names
passed_declared passed = declared_by (passed_names passed) (passed_prefixes passed)

-- the rules of the sheet of the texts, which hold at most this number of declarations, and a tree
abbrev pub IsReadPage : List ℕ → List ℕ → (limit : ℕ) → Passed → List StyleRule → List Row → Type 0
IsReadPage buffer ends limit passed rules rows =
    (texts : List (List ℕ)) × HasTextsWithin buffer ends limit texts × IsUtf8 passed.strings
    × (passed_tree passed ≡ Ok rows) × (rules ≡ sheet this_edition texts)

-- why texts or a tree are none, or why they have no answer
abbrev pub FailsOnPage : List ℕ → List ℕ → (limit : ℕ) → Passed → (IsLonger : Type 0) → CallError
    → Type 0
FailsOnPage buffer ends limit passed IsLonger =
    FailsWithin (HasBadEnds buffer ends) (λ fault. passed_tree passed ≡ Err fault)
    (IsBrokenUtf8 buffer ends ⊎ ¬ (IsUtf8 passed.strings)) (IsBeyond buffer ends limit) IsLonger

-- what the sheet of the texts and a tree have for an answer, or none within a limit
abbrev pub IsPage : (List StyleRule → List Row → Option (List ℕ) → Type 0) → List ℕ → List ℕ
    → (limit : ℕ) → Passed → Option (List ℕ) → Type 0
IsPage IsAnswer buffer ends limit passed answer =
    (rules : List StyleRule) × (rows : List Row) × IsReadPage buffer ends limit passed rules rows
    × IsAnswer rules rows answer

-- what is written for the sheet of the texts and a tree, or why nothing is
abbrev pub IsPageCall : (List StyleRule → List Row → Option (List ℕ) → Type 0) → List ℕ → List ℕ
    → (limit : ℕ) → Passed → Result (List ℕ) CallError → Type 0
IsPageCall IsAnswer buffer ends limit passed (Ok bytes) =
    IsPage IsAnswer buffer ends limit passed (Some bytes)
IsPageCall IsAnswer buffer ends limit passed (Err failure) =
    FailsOnPage buffer ends limit passed (IsPage IsAnswer buffer ends limit passed None) failure

-- Of texts, one is no selector, and those before it are.
abbrev pub HasNoSelector : {S : Type 0} → (List ℕ → Option S) → List (List ℕ) → Type 0
HasNoSelector selector_in [] = ⊥
HasNoSelector selector_in (text ∷ texts) =
    (selector_in text ≡ None) ⊎ ((selector_in text ≢ None) × HasNoSelector selector_in texts)

-- the texts of a buffer are texts, and one of them is no selector
abbrev pub HasRefusedText : {S : Type 0} → (List ℕ → Option S) → List ℕ → List ℕ → Type 0
HasRefusedText selector_in buffer ends =
    (texts : List (List ℕ)) × HasTexts buffer ends texts × HasNoSelector selector_in texts

-- the selectors of texts, one of each
abbrev pub AreSelectorsIn : {S : Type 0} → (List ℕ → Option S) → List (List ℕ) → List S → Type 0
AreSelectorsIn selector_in texts selectors = map selector_in texts ≡ map Some selectors

-- which of the selectors of texts match each element, or none within a limit
abbrev pub ArePortMatched : (most : ℕ) → List ℕ → List ℕ → Passed → Option (List ℕ) → Type 0
ArePortMatched most buffer ends passed answer =
    (texts : List (List ℕ)) × (selectors : List (List Component)) × (rows : List Row)
    × HasTexts buffer ends texts × AreSelectorsIn selector_in texts selectors
    × IsUtf8 passed.strings × (passed_tree passed ≡ Ok rows)
    × AreLinesOf most Numbers selectors rows answer

-- which of the selectors of texts match each element, in at most this number of bytes
abbrev pub IsPortMatchSelectorsCall : (most : ℕ) → List ℕ → List ℕ → Passed
    → Result (List ℕ) CallError → Type 0
IsPortMatchSelectorsCall most buffer ends passed (Ok bytes) =
    ArePortMatched most buffer ends passed (Some bytes)
IsPortMatchSelectorsCall most buffer ends passed (Err failure) =
    FailsWithin (HasBadEnds buffer ends ⊎ HasRefusedText selector_in buffer ends)
    (λ fault. passed_tree passed ≡ Err fault)
    (IsBrokenUtf8 buffer ends ⊎ ¬ (IsUtf8 passed.strings)) ⊥
    (ArePortMatched most buffer ends passed None) failure

-- which rules match each element, in at most this number of bytes
abbrev pub IsMatchCall : (most : ℕ) → List ℕ → List ℕ → (limit : ℕ) → Passed
    → Result (List ℕ) CallError → Type 0
IsMatchCall most = IsPageCall (AreMatchLines most)

-- all that wins on each element, in at most this number of bytes
abbrev pub IsStylesCall : (most : ℕ) → List ℕ → List ℕ → (limit : ℕ) → Passed
    → Result (List ℕ) CallError → Type 0
IsStylesCall most = IsPageCall (AreWinnersLines most)

-- what wins for a name on each element, in at most this number of bytes; the name is UTF-8
abbrev pub IsStyleCall : (most : ℕ) → List ℕ → List ℕ → (limit : ℕ) → Passed → List ℕ
    → Result (List ℕ) CallError → Type 0
IsStyleCall most buffer ends limit passed name (Err NotUtf8) =
    IsPageCall (AreWinnerLines most name) buffer ends limit passed (Err NotUtf8) ⊎ ¬ (IsUtf8 name)
IsStyleCall most buffer ends limit passed name (Err Refused) = HasBadEnds buffer ends
IsStyleCall most buffer ends limit passed name (Err Memory) = Unit {0}
IsStyleCall most buffer ends limit passed name (Err TooManyDeclarations) =
    IsBeyond buffer ends limit
IsStyleCall most buffer ends limit passed name (Err AnswerTooLong) =
    IsUtf8 name × IsPage (AreWinnerLines most name) buffer ends limit passed None
IsStyleCall most buffer ends limit passed name (Err (Tree fault)) = passed_tree passed ≡ Err fault
IsStyleCall most buffer ends limit passed name (Err TooManyLayers) = ⊥
IsStyleCall most buffer ends limit passed name (Ok bytes) =
    IsUtf8 name × IsPageCall (AreWinnerLines most name) buffer ends limit passed (Ok bytes)

-- which elements one of the selectors of a list matches, or none within a limit
abbrev pub ArePortSelected : (most : ℕ) → List ℕ → Passed → Option (List ℕ) → Type 0
ArePortSelected most text passed answer =
    (selectors : List (List Component)) × (rows : List Row) × IsUtf8 text
    × (list_of this_edition text ≡ Some selectors) × IsUtf8 passed.strings × (passed_tree passed ≡ Ok rows)
    × AreLinesOf most Selected selectors rows answer

-- which elements one of the selectors of a list matches, in at most this number of bytes
abbrev pub IsPortSelectCall : (most : ℕ) → List ℕ → Passed → Result (List ℕ) CallError → Type 0
IsPortSelectCall most text passed (Ok bytes) = ArePortSelected most text passed (Some bytes)
IsPortSelectCall most text passed (Err failure) =
    FailsWithin (list_of this_edition text ≡ None) (λ fault. passed_tree passed ≡ Err fault)
    (¬ (IsUtf8 text) ⊎ ¬ (IsUtf8 passed.strings)) ⊥ (ArePortSelected most text passed None) failure
