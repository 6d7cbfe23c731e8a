-- What queries are, and what they answer.
use Rattle.std.specs.Prelude.{◌≡◌, ◌⊎◌, ℕ, List, Result, Ok, Err}
use Rattle.std.specs.List.{flat_map}
use Rattle.std.specs.Str.{IsUtf8}
use Rattle.css_elements.specs.Rows.{Row}
use Rattle.css_selectors.specs.MarkedLists.{ListText}
use Rattle.css_sheet.specs.SheetOrder.{SheetRuleText}
use Rattle.css_tree.specs.Pages.{Page}
use Rattle.css_tree.specs.TreeNumbers.{unasked}
use Rattle.call_answers.specs.Calls.{HasBadEnds, HasTexts, IsBrokenUtf8, passed_spaced, passed_states, passed_tree}
use Rattle.call_answers.specs.declared.answer.CallError.{CallError}
use Rattle.call_answers.specs.declared.answer.CallError.TheVariants.{Memory}
use Rattle.page_calls.specs.ModernLines.{page_with}
use Rattle.page_calls.specs.declared.modern.document_kind.DocumentKind.{DocumentKind}
use Rattle.simplecss_calls.specs.Asked.{IsAskedOf}
use Rattle.simplecss_calls.specs.RuleTexts.{AreRuleTexts}
use Rattle.simplecss_calls.specs.WinnerNumbers.{AreRules, FailsBeside, rule_numbers}
use Rattle.kept_queries.specs.Sources.{QuerySource}
use Rattle.kept_queries.specs.declared.read_query.ElementNumbers.{ElementNumbers}
use Rattle.kept_queries.specs.declared.read_query.NumbersAsked.{NumbersAsked}
use Rattle.kept_queries.specs.declared.read_query.NumbersAsked.TheVariants.{Elements, Rules}

-- a query: how its document reads the names of selectors, its page, the rules of its sheets in the order of the cascade,
-- with numbers in their selectors, the lists of these numbers, and two texts of declarations for each element
pub record QueryText : Type 0 where
  pub kind : DocumentKind
  pub page : Page
  pub rules : List SheetRuleText
  pub lists : List ListText
  pub own : List (List ℕ)

-- The page of a tree with these elements. `:scope` matches its root, whatever the states of the elements say.
abbrev pub page_made_of : QuerySource → List Row → Page
page_made_of source rows =
    unasked (page_with source.kind (passed_states source.passed) (passed_spaced source.passed) source.passed.elements rows)

-- the query is that of what it is made of
pub record IsQueryOf (source : QuerySource) (text : QueryText) : Type 0 where
  pub kind : text.kind ≡ source.kind
  pub tree : (rows : List Row) × IsUtf8 source.passed.strings × (passed_tree source.passed ≡ Ok rows)
      × (text.page ≡ page_made_of source rows)
  pub sheets : AreRules source.sheets source.limit text.rules text.lists
  pub own : HasTexts source.own source.own_ends text.own

-- why there is no query: the sheets are not read, the tree has a fault, ends are not those of texts, a text is not
-- UTF-8, or an allocation failed
abbrev pub IsNoQuery : QuerySource → CallError → Type 0
IsNoQuery source =
    FailsBeside source.sheets source.limit (HasBadEnds source.own source.own_ends)
    (λ fault. passed_tree source.passed ≡ Err fault)
    (IsBrokenUtf8 source.own source.own_ends ⊎ (¬ (IsUtf8 source.passed.strings))) ⊥

-- ---- answers

-- the numbers of what is asked of each element of a range
abbrev pub AreElementNumbers : ElementNumbers → QueryText → Result (List ℕ) CallError → Type 0
AreElementNumbers asked text =
    IsAskedOf asked.content asked.most asked.range text.kind text.rules text.lists text.own text.page

-- the numbers of each rule, if no allocation fails
abbrev pub AreRuleNumbers : QueryText → Result (List ℕ) CallError → Type 0
AreRuleNumbers text (Ok numbers) = numbers ≡ flat_map rule_numbers text.rules
AreRuleNumbers text (Err error) = error ≡ Memory

-- the numbers of what is asked
abbrev pub AreNumbersAsked : NumbersAsked → QueryText → Result (List ℕ) CallError → Type 0
AreNumbersAsked (Elements asked) text outcome = AreElementNumbers asked text outcome
AreNumbersAsked Rules text outcome = AreRuleNumbers text outcome

-- the texts of the selectors of the rules, in at most this number of bytes
abbrev pub AreTextsAsked : (most : ℕ) → QueryText → Result (List ℕ) CallError → Type 0
AreTextsAsked most text = AreRuleTexts most text.rules
