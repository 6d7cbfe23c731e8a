-- What a call writes of a query are the numbers of the declarations that win.
-- Serves `query_law`.
use Rattle.std.proofs.Common.{◌≡◌, ℕ, zero, suc, ◌+◌, ◌-◌, ◌<◌, ◌≤◌, Bool, List, [], ◌∷◌, ◌++◌, drop, length, min, Option, Some, None, Result, Ok, Err, refl, sym, ap, ◌∙◌, subst, arith}
use Rattle.std.specs.List.{AllZip, range_with_len}
use Rattle.std.proofs.Math.Nat.{min-le_right}
use Rattle.css_conditions.specs.declared.device.Device.{Device}
use Rattle.css_sheet.specs.SheetOrder.{SheetRuleText, cascade_rules}
use Rattle.css_sheet.specs.Sheets.{SheetText}
use Rattle.css_tree.specs.Marks.{with_marks}
use Rattle.css_tree.specs.Pages.{Page}
use Rattle.call_answers.specs.Answers.{Answers, IsHandedOver, status_of}
use Rattle.call_answers.specs.Answers.IsHandedOver.{written, too_small}
use Rattle.call_answers.specs.Calls.{HasTexts}
use Rattle.call_answers.specs.declared.answer.CallError.{CallError}
use Rattle.call_answers.specs.declared.answer.CallError.TheVariants.{Refused, Tree, Memory, TooManyDeclarations, NotUtf8, AnswerTooLong, TooManyLayers}
use Rattle.cssq.specs.MatchRuns.{AreLines}
use Rattle.page_calls.specs.MarkedPages.{IsMarkedPage}
use Rattle.page_calls.specs.Ranges.{count_in}
use Rattle.page_calls.specs.Readings.{selector_as}
use Rattle.page_calls.specs.declared.modern.document_kind.DocumentKind.{DocumentKind}
use Rattle.page_calls.specs.declared.modern.ranges.ElementRange.{ElementRange}
use Rattle.sheet_calls.specs.Conditions.{device_of}
use Rattle.sheet_calls.specs.declared.conditions.DeviceNumbers.{DeviceNumbers}
use Rattle.simplecss_calls.specs.Asked.{AreNumbers, ContentText}
use Rattle.simplecss_calls.specs.WinnerNumbers.{IsWonOf, is_held, own_at, winners_numbers}
use Rattle.simplecss_calls.specs.declared.contents.ElementContent.TheVariants.{Winners}
use Rattle.kept_queries.specs.Queries.{AreNumbersAsked, IsQueryOf, QueryText}
use Rattle.kept_queries.specs.QueryCalls.{AnswersInNumbers}
use Rattle.kept_queries.specs.Sources.{QuerySource}
use Rattle.kept_queries.specs.declared.read_query.NumbersAsked.TheVariants.{Elements}
use Rattle.css_laws.specs.Devices.{AreAsked, holds_on}
use Rattle.css_laws.specs.Queries.{AreOfRange, AreOfWinners, AreWon, AreWrittenOf}
use Rattle.css_laws.proofs.DeviceLemmas.{asked-parts, asked-winners, rules-same}
use Rattle.css_laws.proofs.HeadlineLemmas.{numbered-long, won-are}

-- ---- lines

-- what holds of lines holds of those of the numbers from one on
lines-from : (P Q : ℕ → List ℕ → Type 0) (from count : ℕ) (lines : List (List ℕ))
    → ((index : ℕ) (line : List ℕ) → index < from + count → P index line → Q index line)
    → AllZip P (range_with_len from count) lines → AllZip Q (range_with_len from count) lines
lines-from P Q from zero [] more are = tt
lines-from P Q from zero (line ∷ lines) more are = absurd are
lines-from P Q from (suc count) [] more are = absurd are
lines-from P Q from (suc count) (line ∷ lines) more are = (
  more from line (omega arith) are.0,
  lines-from P Q (from + 1) count lines (λ index line l. more index line (omega (arith, l))) are.1,
)

lines-more : (P Q : ℕ → List ℕ → Type 0) (count : ℕ) (numbers : List ℕ)
    → ((index : ℕ) (line : List ℕ) → index < count → P index line → Q index line)
    → AreLines P count numbers → AreLines Q count numbers
lines-more P Q count numbers more are =
    (are.0, lines-from P Q 0 count are.0 (λ index line l. more index line (omega (arith, l))) are.1, are.2)

within : (range : ElementRange) (index long : ℕ) → index < count_in range long → range.from + index < long
within range index long l =
    let few : index < min range.to long - range.from = l in
    let most : min range.to long ≤ long = min-le_right range.to long in
    omega (arith, few, most)

-- ---- what wins

module _ (source : QuerySource) (range : ElementRange) (query : QueryText) (is : IsQueryOf source query)
    (page : Page) (marked : IsMarkedPage query.kind query.lists query.page page) where
  abbrev sheets : List SheetText
  sheets = is.sheets.0

  abbrev groups : List (List ℕ)
  groups = is.sheets.1

  -- on one element
  one-won : (index : ℕ) (line : List ℕ) → index < length page.rows
      → IsWonOf None query.own (selector_as query.kind) query.rules page index line
      → AreOfWinners (is_held groups) sheets query.kind page query.own index line
  one-won index line l h =
      let w = won-are source.sheets sheets groups query.rules query.lists is.sheets.2 is.sheets.5 is.sheets.6 query.kind
      query.page page (own_at query.own index) index line marked l h in (
        w.0,
        w.1 ∙ ap (λ (n : ℕ). winners_numbers n w.0) (ap length is.sheets.5 ∙ numbered-long groups sheets),
        w.2,
      )

  -- on those of the range, with the group rules that are passed
  all-won : (numbers : List ℕ)
      → AreLines (λ index. IsWonOf None query.own (selector_as query.kind) query.rules page (range.from + index))
      (count_in range (length page.rows)) numbers
      → AreOfRange (is_held groups) sheets query.kind page query.own range numbers
  all-won numbers are =
      lines-more (λ index. IsWonOf None query.own (selector_as query.kind) query.rules page (range.from + index))
      (λ index. AreOfWinners (is_held groups) sheets query.kind page query.own (range.from + index))
      (count_in range (length page.rows)) numbers
      (λ index line l h. one-won (range.from + index) line (within range index (length page.rows) l) h) are

  -- and on a device
  all-on : (of_device : DeviceNumbers) (device : Device) (properties ends : List ℕ) (names : List (List ℕ))
      → device_of of_device ≡ Some device → HasTexts properties ends names
      → AreAsked of_device properties ends source.sheets → (numbers : List ℕ)
      → AreOfRange (is_held groups) sheets query.kind page query.own range numbers
      → AreOfRange (holds_on device names) sheets query.kind page query.own range numbers
  all-on of_device device properties ends names known texts asks numbers are =
      let asked = asks sheets groups is.sheets.2 in
      let same : cascade_rules (is_held groups) sheets ≡ cascade_rules (holds_on device names) sheets =
      rules-same (is_held groups) (holds_on device names) sheets
      (asked-parts of_device device properties ends names known texts (is_held groups) sheets asked) in
      lines-more (λ index. AreOfWinners (is_held groups) sheets query.kind page query.own (range.from + index))
      (λ index. AreOfWinners (holds_on device names) sheets query.kind page query.own (range.from + index))
      (count_in range (length page.rows)) numbers
      (λ index line l h. (
        h.0,
        h.1 ∙ ap (λ (rules : List SheetRuleText). winners_numbers (length rules) h.0) same,
        asked-winners of_device device properties ends names known texts (is_held groups) sheets asked query.kind page
            (range.from + index) (own_at query.own (range.from + index)) h.0 h.2,
      )) are

  -- what is so of a range, as numbers of the query
  as-won : (holds : List (List ℕ) → List ℕ → List ℕ → Bool) (numbers : List ℕ)
      → AreOfRange (holds groups) sheets query.kind page query.own range numbers → AreWon holds source range numbers
  as-won holds numbers are = record {
    sheets = sheets;
    groups = groups;
    passed = is.sheets.2;
    rows = is.tree.0;
    tree = is.tree.2;
    page = page;
    made = marked.0 ∙ ap (λ (p : Page). with_marks p page.marks) is.tree.3;
    texts = query.own;
    own = is.own;
    won =
        subst (λ (kind : DocumentKind). AreOfRange (holds groups) sheets kind page query.own range numbers) is.kind are;
  }

-- ---- what is written

no-failure : (error : CallError) → 0 ≡ status_of error → ⊥
no-failure Refused e = absurd (cc)
no-failure (Tree fault) e = absurd (cc)
no-failure Memory e = absurd (cc)
no-failure TooManyDeclarations e = absurd (cc)
no-failure NotUtf8 e = absurd (cc)
no-failure AnswerTooLong e = absurd (cc)
no-failure TooManyLayers e = absurd (cc)

handed : (numbers old new : List ℕ) (len : ℕ) → IsHandedOver numbers 0 old new len
    → (new ≡ numbers ++ drop (length numbers) old) × (len ≡ length numbers)
handed numbers old new len (written short status is long) = (is, long)
handed numbers old new len (too_small long status is same) = absurd (let e = status in cc)

-- whatever is asked of what wins where the group rules hold that are passed
module _ (source : QuerySource) (range : ElementRange) (most : ℕ) where
  -- a query, its page with marks, and what is written of it
  record Written (numbers : List ℕ) : Type 0 where
    query : QueryText
    is : IsQueryOf source query
    page : Page
    marked : IsMarkedPage query.kind query.lists query.page page
    are : AreLines (λ index. IsWonOf None query.own (selector_as query.kind) query.rules page (range.from + index))
        (count_in range (length page.rows)) numbers

  written-of : (query : QueryText) → IsQueryOf source query → (numbers : List ℕ)
      → AreNumbersAsked (Elements (record { content = Winners; range = range; most = most })) query (Ok numbers)
      → Written numbers
  written-of query is numbers asked = record {
    query = query;
    is = is;
    page = asked.2.0;
    marked = asked.2.1;
    are =
        (subst (λ (content : ContentText). AreNumbers content query.own most range (selector_as query.kind) query.rules
        asked.2.0 (Some numbers)) asked.1 asked.2.2).0;
  }

  handed-over : (old new : List ℕ) (len : ℕ)
      → AnswersInNumbers (Some (Elements (record { content = Winners; range = range; most = most }))) (Some source) 0
      old new len
      → AreWrittenOf Written old new len
  handed-over old new len answers = by answers.0 answers.1 answers.2
    where
      by : (outcome : Result (List ℕ) CallError)
          → ((query : QueryText) × IsQueryOf source query
          × AreNumbersAsked (Elements (record { content = Winners; range = range; most = most })) query outcome)
          → Answers outcome 0 old new len → AreWrittenOf Written old new len
      by (Ok numbers) asked answered =
          let h = handed numbers old new len answered in
          (numbers, h.0, h.1, written-of asked.0 asked.1 numbers asked.2)
      by (Err error) asked answered = absurd (no-failure error answered.0)

pub written-won : (source : QuerySource) (range : ElementRange) (most : ℕ) (old new : List ℕ) (len : ℕ)
    → AnswersInNumbers (Some (Elements (record { content = Winners; range = range; most = most }))) (Some source) 0
    old new len
    → AreWrittenOf (AreWon is_held source range) old new len
written-won source range most old new len answers =
    let h = handed-over source range most old new len answers in
    let w = h.3 in (
      h.0,
      h.1,
      h.2,
      as-won source range w.query w.is w.page w.marked is_held h.0
          (all-won source range w.query w.is w.page w.marked h.0 w.are),
    )

pub written-on : (source : QuerySource) (range : ElementRange) (most : ℕ) (old new : List ℕ) (len : ℕ)
    → AnswersInNumbers (Some (Elements (record { content = Winners; range = range; most = most }))) (Some source) 0
    old new len
    → (of_device : DeviceNumbers) (device : Device) (properties ends : List ℕ) (names : List (List ℕ))
    → device_of of_device ≡ Some device → HasTexts properties ends names → AreAsked of_device properties ends source.sheets
    → AreWrittenOf (AreWon (λ groups. holds_on device names) source range) old new len
written-on source range most old new len answers of_device device properties ends names known texts asks =
    let h = handed-over source range most old new len answers in
    let w = h.3 in (
      h.0,
      h.1,
      h.2,
      as-won source range w.query w.is w.page w.marked (λ groups. holds_on device names) h.0
          (all-on source range w.query w.is w.page w.marked of_device device properties ends names known texts asks h.0
          (all-won source range w.query w.is w.page w.marked h.0 w.are)),
    )
