-- The declarations that win by rules with numbers are those that win by the rules as they were read.
-- Serves `winners_law` and `styles_law`.
use Rattle.std.proofs.Common.{◌≡◌, ℕ, zero, suc, ◌<◌, ◌↔◌, ◌⊎◌, inl, inr, Bool, false, if◌then◌else◌, List, [], ◌∷◌, ◌++◌, length, map, get_or, option_map, Option, None, Some, refl, sym, ap, ◌∙◌, subst, arith}
use Rattle.std.specs.Prelude.{All}
use Rattle.std.specs.List.{Contains, flat_map, slice_get}
use Rattle.std.specs.Option.{is_some}
use Rattle.std.proofs.lemmas.List.{length-map, map-id}
use Rattle.std.proofs.lemmas.List.Elements.{All-map, All-weaker, Contains-append_cases, Contains-append_left, Contains-append_right}
use Rattle.std.proofs.lemmas.Option.{slice_get-map}
use Rattle.css_matching.specs.ListTrees.{spot}
use Rattle.css_syntax.specs.DeclarationLists.{DeclarationText}
use Rattle.css_selector_text.specs.Components.{Selector}
use Rattle.css_selector_text.specs.Specificities.{Counts}
use Rattle.css_selectors.specs.MarkedLists.{ListText}
use Rattle.css_selectors.specs.Meanings.{Matches}
use Rattle.css_selectors.specs.Numberings.{NumberingText, no_lists, with_each_list}
use Rattle.css_cascade.specs.Rollbacks.{rollback_of}
use Rattle.css_index.specs.Found.{AreMatches, MatchesAt}
use Rattle.css_sheet.specs.NestedSelectors.{with_element}
use Rattle.css_sheet.specs.SheetOrder.{SheetRuleText, cascade_rules, nested_lists, weight}
use Rattle.css_sheet.specs.Sheets.{SheetText}
use Rattle.css_styles.specs.Contenders.{Contender, OwnText, contenders, in_turn, of_own, of_rules, rule_declarations, stated_at, states, states_at}
use Rattle.css_styles.specs.NumberedRules.{numbered_rule, numbered_rules, numbered_sheets}
use Rattle.css_styles.specs.Winners.{HaveNoHints, WinnerText, applied, as_winner, winners}
use Rattle.css_styles.specs.declared.winner.Source.TheVariants as sources
use Rattle.css_styles.proofs.DistinctLemmas.{contenders-distinct, distinct-pairs}
use Rattle.css_styles.proofs.OneLemmas.{each-is-best, one-wins}
use Rattle.css_tree.specs.Asked.{AskBefore, AskEarlier, SelectorAsksBelow}
use Rattle.css_tree.specs.Html.{html_selector}
use Rattle.css_tree.specs.Marks.{AreMarked}
use Rattle.css_tree.specs.PageMeanings.{Selects}
use Rattle.css_tree.specs.Pages.{Page, page_document}
use Rattle.css_tree.specs.declared.html.HtmlMode.{HtmlMode}
use Rattle.page_calls.specs.MarkedPages.{IsMarkedPage, list_as}
use Rattle.page_calls.specs.Readings.{selector_as}
use Rattle.page_calls.specs.declared.modern.document_kind.DocumentKind.{DocumentKind}
use Rattle.page_calls.specs.declared.modern.document_kind.DocumentKind.TheVariants.{AsWritten, Html}
use Rattle.simplecss_calls.specs.WinnerNumbers.{AreRules, AreSheets, IsWon, PassedSheets, held_rules, is_held, selectors_read, winners_numbers}
use Rattle.css_laws.specs.Headline.{Applies, AreTheWinners, SelectsAs}
use Rattle.css_laws.proofs.ChainedLists.{lists-earlier, rules-ask}
use Rattle.css_laws.proofs.CountLemmas.{counts_same}
use Rattle.css_laws.proofs.HintLemmas.{IsNoHint, no-hint-cascade, no-hints}
use Rattle.css_laws.proofs.HtmlSelectors.{before_read, earlier_read, html_sheets, read_rule, selector_asks}
use Rattle.css_laws.proofs.MeaningLemmas.{rules_mean}
use Rattle.css_laws.proofs.NumberedLists.{sheet_lists-before}

-- ---- elements of lists

module _ {X Y : Type 0} (f : X → List Y) where
  flat-from : (xs : List X) (y : Y) → Contains (flat_map f xs) y → (x : X) × Contains xs x × Contains (f x) y
  flat-from [] y c = let l = c.1 in absurd (omega (arith, l))
  flat-from (x ∷ xs) y c = by (λ d. flat-from xs y d) (Contains-append_cases (f x) (flat_map f xs) y c)
    where
      by : (Contains (flat_map f xs) y → (z : X) × Contains xs z × Contains (f z) y)
          → (Contains (f x) y ⊎ Contains (flat_map f xs) y)
          → (z : X) × Contains (x ∷ xs) z × Contains (f z) y
      by rest (inl h) = (x, (0, omega arith, refl), h)
      by rest (inr h) =
          let r = rest h in
          let l = r.1.1 in
          (r.0, (suc r.1.0, omega (arith, l), r.1.2), r.2)

  flat-to : (xs : List X) (x : X) (y : Y) → Contains xs x → Contains (f x) y → Contains (flat_map f xs) y
  flat-to [] x y c h = let l = c.1 in absurd (omega (arith, l))
  flat-to (z ∷ xs) x y c h = at (λ d. flat-to xs x y d h) c.0 c.1 c.2
    where
      at : (Contains xs x → Contains (flat_map f xs) y) → (k : ℕ) → k < suc (length xs)
          → get_or (z ∷ xs) k x ≡ x → Contains (f z ++ flat_map f xs) y
      at rest zero l e =
          Contains-append_left (f z) (flat_map f xs) y (subst (λ w. Contains (f w) y) (sym e) h)
      at rest (suc k) l e = Contains-append_right (f z) (flat_map f xs) y (rest (k, omega (arith, l), e))

-- ---- rules with numbers

numbered-from : (n : NumberingText) (rules : List SheetRuleText) (k : ℕ) (made : SheetRuleText)
    → slice_get (numbered_rules n rules).0 k ≡ Some made
    → (rule : SheetRuleText) × (slice_get rules k ≡ Some rule)
numbered-from n [] k made e = absurd (cc)
numbered-from n (rule ∷ rules) zero made e = (rule, refl)
numbered-from n (rule ∷ rules) (suc k) made e = numbered-from (numbered_rule n rule).1 rules k made e

numbered-to : (n : NumberingText) (rules : List SheetRuleText) (k : ℕ) (rule : SheetRuleText)
    → slice_get rules k ≡ Some rule
    → (made : SheetRuleText) × (slice_get (numbered_rules n rules).0 k ≡ Some made)
numbered-to n [] k rule e = absurd (cc)
numbered-to n (r ∷ rules) zero rule e = ((numbered_rule n r).0, refl)
numbered-to n (r ∷ rules) (suc k) rule e = numbered-to (numbered_rule n r).1 rules k rule e

-- ---- what they state, which is the same where their selectors count the same

-- a declaration of a rule whose selector counts so much
abbrev counting : ℕ → SheetRuleText → Counts → ℕ → DeclarationText → Contender
counting index rule c place one = record {
  weight = record {
    important = one.important;
    origin = rule.origin;
    attached = false;
    layer = rule.layer;
    specificity = weight (with_element c rule.pseudo_element);
    place = index ∷ place ∷ [];
    rollback = rollback_of one.value;
  };
  declaration = one;
  source = sources.Rule index;
  place = place;
}

states-same : (index : ℕ) (n : NumberingText) (rule : SheetRuleText)
    → states index (numbered_rule n rule).0 ≡ states index rule
states-same index n rule =
    ap (λ (c : Counts). if is_some rule.pseudo_element then []
    else in_turn (counting index rule c) 0 (rule_declarations rule))
    (counts_same n rule.selector)

stated-same : (index : ℕ) (n : NumberingText) (rules : List SheetRuleText) (k : ℕ)
    → states_at index (slice_get (numbered_rules n rules).0 k) ≡ states_at index (slice_get rules k)
stated-same index n [] k = refl
stated-same index n (rule ∷ rules) zero = states-same index n rule
stated-same index n (rule ∷ rules) (suc k) = stated-same index (numbered_rule n rule).1 rules k

rules-same : (n : NumberingText) (rules : List SheetRuleText) (indices : List ℕ)
    → of_rules (numbered_rules n rules).0 indices ≡ of_rules rules indices
rules-same n rules [] = refl
rules-same n rules (k ∷ indices) =
    ap (λ cs. cs ++ of_rules (numbered_rules n rules).0 indices) (stated-same k n rules k)
    ∙ ap (λ cs. stated_at rules k ++ cs) (rules-same n rules indices)

contenders-same : (n : NumberingText) (rules : List SheetRuleText) (indices : List ℕ) (own : OwnText)
    → contenders (numbered_rules n rules).0 indices own ≡ contenders rules indices own
contenders-same n rules indices own = ap (λ cs. cs ++ of_own own) (rules-same n rules indices)

-- ---- what they mean, as a document reads them

as-written : (lists : List (List Selector)) → map (map (selector_as AsWritten)) lists ≡ lists
as-written [] = refl
as-written (list ∷ lists) =
    ap (λ l. l ∷ map (map (selector_as AsWritten)) lists) (map-id list)
    ∙ ap (λ ls. list ∷ ls) (as-written lists)

module _ (page : Page) (nested : List (List Selector)) (rules : List SheetRuleText) (earlier : AskEarlier nested)
    (asks : All (λ (rule : SheetRuleText). SelectorAsksBelow (suc (length nested)) rule.selector) rules)
    (before : AskBefore (numbered_sheets nested rules).1.lists) where
  abbrev MeansAs : DocumentKind → Type 0
  MeansAs kind =
      (k i : ℕ) (rule made : SheetRuleText) → slice_get rules k ≡ Some rule
      → slice_get (numbered_sheets nested rules).0 k ≡ Some made → i < length page.rows
      → Matches page_document (selector_as kind made.selector) (spot page i)
      ↔ Selects page (map (map (selector_as kind)) nested) (selector_as kind rule.selector) i

  in-html : (mode : HtmlMode)
      → AreMarked (map (list_as (Html mode)) (numbered_sheets nested rules).1.lists) page → MeansAs (Html mode)
  in-html mode are k i rule made at_rule at_made lt =
      let lists = map (map (html_selector mode)) nested in
      let all = map (read_rule mode) rules in
      let made_of = numbered_sheets nested rules in
      let e = html_sheets mode nested rules in
      rules_mean page lists all (earlier_read mode nested earlier)
      (All-map (λ (rule : SheetRuleText). SelectorAsksBelow (suc (length lists)) rule.selector) (read_rule mode) rules
      (All-weaker (λ (rule : SheetRuleText). SelectorAsksBelow (suc (length nested)) rule.selector)
      (λ (rule : SheetRuleText). SelectorAsksBelow (suc (length lists)) (html_selector mode rule.selector))
      (λ rule h. selector_asks mode (suc (length lists)) rule.selector
      (subst (λ n. SelectorAsksBelow (suc n) rule.selector)
      (sym (length-map nested (map (html_selector mode)))) h)) rules asks))
      (subst (λ (m : List SheetRuleText × NumberingText). AskBefore m.1.lists) (sym e)
      (before_read mode made_of.1.lists before))
      (subst (λ (m : List SheetRuleText × NumberingText). AreMarked m.1.lists page) (sym e) are)
      k i (read_rule mode rule) (read_rule mode made)
      (slice_get-map (read_rule mode) rules k ∙ ap (option_map (read_rule mode)) at_rule)
      (ap (λ (m : List SheetRuleText × NumberingText). slice_get m.0 k) e
      ∙ slice_get-map (read_rule mode) made_of.0 k ∙ ap (option_map (read_rule mode)) at_made) lt

  pub mean-as : (kind : DocumentKind)
      → AreMarked (map (list_as kind) (numbered_sheets nested rules).1.lists) page → MeansAs kind
  mean-as AsWritten are k i rule made at_rule at_made lt =
      subst (λ lists. Matches page_document made.selector (spot page i) ↔ Selects page lists rule.selector i)
      (sym (as-written nested))
      (rules_mean page nested rules earlier asks before
      (subst (λ lists. AreMarked lists page) (map-id (numbered_sheets nested rules).1.lists) are)
      k i rule made at_rule at_made lt)
  mean-as (Html mode) are k i rule made at_rule at_made lt = in-html mode are k i rule made at_rule at_made lt

-- ---- those that apply

module _ (holds : List ℕ → List ℕ → Bool) (sheets : List SheetText) (kind : DocumentKind) (page : Page) (index : ℕ)
    (own : OwnText) (within : index < length page.rows) where
  abbrev nested : List (List Selector)
  nested = nested_lists holds sheets

  abbrev read : List SheetRuleText
  read = cascade_rules holds sheets

  abbrev numbered : List SheetRuleText × NumberingText
  numbered = numbered_sheets nested read

  abbrev f : SheetRuleText → Selector
  f rule = selector_as kind rule.selector

  abbrev SelectsAt : ℕ → Type 0
  SelectsAt k =
      (rule : SheetRuleText) × (slice_get read k ≡ Some rule) × SelectsAs holds sheets kind page index rule.selector

  module _ (are : AreMarked (map (list_as kind) numbered.1.lists) page) where
    means : MeansAs page nested read (lists-earlier holds sheets)
        (λ k d less. (rules-ask holds sheets k d less).0) (sheet_lists-before holds sheets) kind
    means =
        mean-as page nested read (lists-earlier holds sheets)
        (λ k d less. (rules-ask holds sheets k d less).0) (sheet_lists-before holds sheets) kind are

    selected : (k : ℕ) → MatchesAt page_document (spot page index) (map f numbered.0) k → SelectsAt k
    selected k h = by (slice_get numbered.0 k) refl
      where
        by : (o : Option SheetRuleText) → slice_get numbered.0 k ≡ o → SelectsAt k
        by None e =
            absurd (let none : None ≡ Some h.0 =
            sym (slice_get-map f numbered.0 k ∙ ap (option_map f) e) ∙ h.1 in cc)
        by (Some made) e =
            let rule = numbered-from (with_each_list no_lists nested) read k made e in
            let same : Some (f made) ≡ Some h.0 =
            sym (slice_get-map f numbered.0 k ∙ ap (option_map f) e) ∙ h.1 in
            let is : h.0 ≡ f made = cc in (
              rule.0,
              rule.1,
              (means k index rule.0 made rule.1 e within).0
                  (subst (λ s. Matches page_document s (spot page index)) is h.2),
            )

    matched_at : (k : ℕ) → SelectsAt k → MatchesAt page_document (spot page index) (map f numbered.0) k
    matched_at k h =
        let made = numbered-to (with_each_list no_lists nested) read k h.0 h.1 in (
          f made.0,
          slice_get-map f numbered.0 k ∙ ap (option_map f) made.1,
          (means k index h.0 made.0 h.1 made.1 within).1 h.2,
        )

    pub the-winners : HaveNoHints read → (indices : List ℕ)
        → AreMatches page_document (spot page index) (map f numbered.0) indices
        → AreTheWinners holds sheets kind page index own (winners read indices own)
    the-winners no_hints indices found = record {
      applying = contenders read indices own;
      apply = λ one. (forth one, back one);
      distinct =
          distinct-pairs (contenders read indices own)
          (contenders-distinct read own indices no_hints found.ascending);
      best = each-is-best read indices own;
      one = one-wins read indices own no_hints found.ascending;
    }
      where
        forth : (one : Contender) → Contains (contenders read indices own) one
            → Applies holds sheets kind page index own one
        forth one c = elim (Contains-append_cases (of_rules read indices) (of_own own) one c) [
          | inl h ↦
              let r = flat-from (stated_at read) indices one h in
              let s = selected r.0 ((found.exactly r.0).0 r.1) in
              inl (r.0, s.0, s.1, s.2, subst (λ o. Contains (states_at r.0 o) one) s.1 r.2)
          | inr h ↦ inr h
        ]

        back : (one : Contender) → Applies holds sheets kind page index own one
            → Contains (contenders read indices own) one
        back one (inl h) =
            Contains-append_left (of_rules read indices) (of_own own) one
            (flat-to (stated_at read) indices h.0 one
            ((found.exactly h.0).1 (matched_at h.0 (h.1, h.2, h.3)))
            (subst (λ o. Contains (states_at h.0 o) one) (sym h.2) h.4))
        back one (inr h) = Contains-append_right (of_rules read indices) (of_own own) one h

-- ---- what is found by rules with numbers

winners-numbered : (nested : List (List Selector)) (rules : List SheetRuleText) (indices : List ℕ) (own : OwnText)
    → winners (numbered_sheets nested rules).0 indices own ≡ winners rules indices own
winners-numbered nested rules indices own =
    ap (λ (cs : List Contender). map as_winner (applied cs))
    (contenders-same (with_each_list no_lists nested) rules indices own)

pub styles-are : (holds : List ℕ → List ℕ → Bool) (sheets : List SheetText) (kind : DocumentKind) (page : Page)
    (own : OwnText) (index : ℕ) (indices : List ℕ) → All IsNoHint sheets
    → AreMarked (map (list_as kind) (numbered_sheets (nested_lists holds sheets) (cascade_rules holds sheets)).1.lists)
    page → index < length page.rows
    → AreMatches page_document (spot page index)
    (selectors_read (selector_as kind) (numbered_sheets (nested_lists holds sheets) (cascade_rules holds sheets)).0)
    indices
    → AreTheWinners holds sheets kind page index own
    (winners (numbered_sheets (nested_lists holds sheets) (cascade_rules holds sheets)).0 indices own)
styles-are holds sheets kind page own index indices no_hint marked within found =
    subst (AreTheWinners holds sheets kind page index own)
    (sym (winners-numbered (nested_lists holds sheets) (cascade_rules holds sheets) indices own))
    (the-winners holds sheets kind page index own within marked (no-hint-cascade holds sheets no_hint) indices found)

-- ---- what a call writes

numbered-count : (n : NumberingText) (rules : List SheetRuleText) → length (numbered_rules n rules).0 ≡ length rules
numbered-count n [] = refl
numbered-count n (rule ∷ rules) = ap suc (numbered-count (numbered_rule n rule).1 rules)

-- there are as many rules with numbers as were read
pub numbered-long : (groups : List (List ℕ)) (sheets : List SheetText)
    → length (held_rules sheets groups).0 ≡ length (cascade_rules (is_held groups) sheets)
numbered-long groups sheets =
    numbered-count (with_each_list no_lists (nested_lists (is_held groups) sheets))
    (cascade_rules (is_held groups) sheets)

pub won-are : (passed : PassedSheets) (sheets : List SheetText) (groups : List (List ℕ)) (rules : List SheetRuleText)
    (lists : List ListText) → AreSheets passed sheets groups → rules ≡ (held_rules sheets groups).0
    → lists ≡ (held_rules sheets groups).1.lists → (kind : DocumentKind) (before page : Page) (own : OwnText)
    (index : ℕ) (numbers : List ℕ) → IsMarkedPage kind lists before page → index < length page.rows
    → IsWon None own (selector_as kind) rules page index numbers
    → (found : List WinnerText) × (numbers ≡ winners_numbers (length rules) found)
    × AreTheWinners (is_held groups) sheets kind page index own found
won-are passed sheets groups rules lists are of_rules of_lists kind before page own index numbers marked within won =
    let holds = is_held groups in
    let nested = nested_lists holds sheets in
    let read = cascade_rules holds sheets in
    let indices = won.0 in
    let on = subst (λ (ls : List ListText). AreMarked (map (list_as kind) ls) page) of_lists marked.1 in
    let found =
    subst (λ (rs : List SheetRuleText). AreMatches page_document (spot page index)
    (selectors_read (selector_as kind) rs) indices) of_rules won.1 in (
      winners read indices own,
      won.2
          ∙ ap (λ (rs : List SheetRuleText). winners_numbers (length rules) (winners rs indices own)) of_rules
          ∙ ap (winners_numbers (length rules)) (winners-numbered nested read indices own),
      the-winners holds sheets kind page index own within on (no-hints passed sheets groups are) indices found,
    )

pub numbers-are : (passed : PassedSheets) (limit : ℕ) (rules : List SheetRuleText) (lists : List ListText)
    (kind : DocumentKind) (before page : Page) (own : OwnText) (index : ℕ) (numbers : List ℕ)
    → AreRules passed limit rules lists → IsMarkedPage kind lists before page → index < length page.rows
    → IsWon None own (selector_as kind) rules page index numbers
    → (sheets : List SheetText) × (groups : List (List ℕ)) × AreSheets passed sheets groups
    × (found : List WinnerText) × (numbers ≡ winners_numbers (length rules) found)
    × AreTheWinners (is_held groups) sheets kind page index own found
numbers-are passed limit rules lists kind before page own index numbers are marked within won =
    let w = won-are passed are.0 are.1 rules lists are.2 are.5 are.6 kind before page own index numbers marked within won in
    (are.0, are.1, are.2, w.0, w.1, w.2)
