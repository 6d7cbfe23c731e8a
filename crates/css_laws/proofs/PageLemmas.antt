-- An element of a page is one element to both kinds of selectors.
-- Serves `page_law`.
use Rattle.std.proofs.Common.{◌≡◌, ◌≢◌, ℕ, zero, suc, ◌+◌, ◌<◌, ◌==◌, Bool, true, false, ◌&&◌, List, [], ◌∷◌, length, take, drop, Option, None, Some, IfSome, MatchOption, refl, sym, ap, ◌∙◌, arith}
use Rattle.std.specs.Prelude.{◌||◌, cond, is_none}
use Rattle.std.specs.Char.{to_ascii_lowercase}
use Rattle.std.specs.List.{All, list_any, onto_first}
use Rattle.std.specs.Option.{option_map, option_map_or, unwrap_or}
use Rattle.std.specs.Str.{str_eq_ignore_ascii_case}
use Rattle.std.proofs.Math.Bool.{and_assoc}
use Rattle.std.proofs.lemmas.Bool.{eq-eqb, or_parts}
use Rattle.std.proofs.lemmas.Bool.Decides.{nat_tests}
use Rattle.std.proofs.lemmas.List.Elements.{All-cons}
use Rattle.std.proofs.lemmas.List.Splits.{slice_split_none}
use Rattle.css_text.specs.AsciiBytes.{hyphen}
use Rattle.css_matching.specs.ListTrees.{spot, lesser_before}
use Rattle.simplecss_grammar.specs.Components.{Subselector, Component}
use Rattle.simplecss_grammar.specs.Components.KnownPseudoClass.{first_child, link, visited, hover, active, focus, lang}
use Rattle.simplecss_grammar.specs.Components.Operator.{exists, equals, has_word, begins_with}
use Rattle.simplecss_grammar.specs.Components.Subselector.{attribute, pseudo_class}
use Rattle.simplecss_selector.specs.Meanings.{AreNoneOrRelated}
use Rattle.css_elements.specs.Rows.{Row}
use Rattle.css_elements.specs.TreeNodes.{named_parent, is_in_language, ends_subtag, language_at}
use Rattle.simplecss_tree.specs.TreeNodes.{element_tree}
use Rattle.css_tree.specs.Counts.{count_below, last_below}
use Rattle.css_tree.specs.Languages.{subtags, is_wildcard, is_matched, is_in_range}
use Rattle.css_tree.specs.Laws.{earlier_count}
use Rattle.css_tree.specs.Pages.{Page, page_document, is_sibling, parent_index}
use Rattle.css_laws.specs.OneTree.{MeansTheSame, AnswerAlike, AreOneWithin}
use Rattle.css_laws.specs.Pages.{IsMade, HaveOnlySpaces, IsShared, AreShared}
use Rattle.css_laws.proofs.MadeLemmas.{last_found, made_in_order}

-- a hyphen is no other byte, whatever the case
apart : (x b : ℕ) → (x == hyphen) ≡ false → (b == hyphen) ≡ true
    → (to_ascii_lowercase b == to_ascii_lowercase x) ≡ false
apart x b other is = grind (arith, nat_tests)

first_of : List (List ℕ) → List ℕ
first_of [] = []
first_of (p ∷ ps) = p

first_onto : (x b : ℕ) (tag : List ℕ) (ps : List (List ℕ))
    → str_eq_ignore_ascii_case (first_of (onto_first b ps)) (x ∷ tag)
    ≡ ((to_ascii_lowercase b == to_ascii_lowercase x) && str_eq_ignore_ascii_case (first_of ps) tag)
unfolding first_of
first_onto x b tag [] = refl
first_onto x b tag (p ∷ ps) = refl

first_onto-nil : (b : ℕ) (ps : List (List ℕ))
    → str_eq_ignore_ascii_case (first_of (onto_first b ps)) [] ≡ false
unfolding first_of
first_onto-nil b [] = refl
first_onto-nil b (p ∷ ps) = refl

-- The first subtag is the tag exactly if the language begins with it, and then it ends or a hyphen follows.
first_is : (tag language : List ℕ) → list_any (λ b. b == hyphen) tag ≡ false
    → str_eq_ignore_ascii_case (first_of (subtags language)) tag
    ≡ is_in_language tag language
unfolding first_of
first_is [] [] none = refl
first_is (x ∷ tag) [] none = refl
first_is [] (b ∷ language) none =
    elim (b == hyphen) as (λ t. str_eq_ignore_ascii_case
    (first_of (cond t ([] ∷ subtags language) (onto_first b (subtags language)))) [] ≡ t) [
      | true ↦ refl
      | false ↦ first_onto-nil b (subtags language)
    ]
first_is (x ∷ tag) (b ∷ language) none =
    let parted = or_parts (x == hyphen) (list_any (λ b. b == hyphen) tag) none in
    go parted.0 (first_is tag language parted.1) (b == hyphen) refl
  where
    go : (x == hyphen) ≡ false
        → str_eq_ignore_ascii_case (first_of (subtags language)) tag ≡ is_in_language tag language
        → (t : Bool) → (b == hyphen) ≡ t
        → str_eq_ignore_ascii_case
        (first_of (cond t ([] ∷ subtags language) (onto_first b (subtags language)))) (x ∷ tag)
        ≡ is_in_language (x ∷ tag) (b ∷ language)
    go other rest true e = rw (apart x b other e) refl
    go other rest false e =
        first_onto x b tag (subtags language)
        ∙ ap (λ p. (to_ascii_lowercase b == to_ascii_lowercase x) && p) rest
        ∙ sym (and_assoc (to_ascii_lowercase b == to_ascii_lowercase x)
        (str_eq_ignore_ascii_case (take (length tag) language) tag)
        (ends_subtag (drop (length tag) language)))

and-true : (a : Bool) → (a && true) ≡ a
and-true true = refl
and-true false = refl

or-false : (a : Bool) → (a || false) ≡ a
or-false true = refl
or-false false = refl

matched_lone : (x : ℕ) (tag : List ℕ) (ps : List (List ℕ)) → is_wildcard (x ∷ tag) ≡ false
    → is_matched ((x ∷ tag) ∷ []) ps ≡ str_eq_ignore_ascii_case (first_of ps) (x ∷ tag)
unfolding first_of
matched_lone x tag [] wild = refl
matched_lone x tag (p ∷ ps) wild =
    ap (λ w. (w || str_eq_ignore_ascii_case p (x ∷ tag)) && true) wild
    ∙ and-true (str_eq_ignore_ascii_case p (x ∷ tag))

none_all : (bs : List ℕ) → list_any (λ b. b == hyphen) bs ≡ false → All (λ b. (b == hyphen) ≡ false) bs
none_all [] none = λ k d lt. absurd (omega (arith, lt))
none_all (b ∷ bs) none =
    let parted = or_parts (b == hyphen) (list_any (λ b. b == hyphen) bs) none in
    All-cons (λ b. (b == hyphen) ≡ false) b bs parted.0 (none_all bs parted.1)

same_language : (tag : List ℕ) → tag ≢ [] → list_any (λ b. b == hyphen) tag ≡ false
    → is_wildcard tag ≡ false → (language : Option (List ℕ))
    → option_map_or (is_in_language tag) language false
    ≡ (is_in_range tag (unwrap_or language []) || false)
same_language [] some none wild language = absurd (some refl)
same_language (x ∷ tag) some none wild None = refl
same_language (x ∷ tag) some none wild (Some []) = refl
same_language (x ∷ tag) some none wild (Some (b ∷ language)) =
    sym (first_is (x ∷ tag) (b ∷ language) none)
    ∙ sym (matched_lone x tag (subtags (b ∷ language)) wild)
    ∙ ap (λ range. is_matched range (subtags (b ∷ language)))
    (sym (slice_split_none (λ b. b == hyphen) (x ∷ tag) (none_all (x ∷ tag) none)))
    ∙ sym (or-false (is_in_range (x ∷ tag) (b ∷ language)))

or_nothing : (a b : Bool) → a ≡ a || (b && false || false)
or_nothing true b = refl
or_nothing false true = refl
or_nothing false false = refl

-- there is no earlier sibling exactly if their number is 0
none_earlier : (page : Page) (count : ℕ) (last : Option ℕ)
    → MatchOption (option_map (spot page) last) (count ≡ 0) (λ s. count ≡ page_document.earlier s + 1)
    → is_none last ≡ (count == 0)
none_earlier page count None e = sym (eq-eqb count 0 e)
none_earlier page count (Some p) e =
    positive (page_document.earlier (page, p)) count e
  where
    positive : (before count : ℕ) → count ≡ before + 1 → false ≡ (count == 0)
    positive before count e = grind (arith, nat_tests)

none_or_related : (within : Page × ℕ → List Row × ℕ → Type 0) (page : Page) (i : ℕ)
    → ((j : ℕ) → j < i → within (page, j) (page.rows, j)) → (o : Option ℕ) → IfSome o (λ j. j < i)
    → AreNoneOrRelated within (option_map (spot page) o) (option_map (spot page.rows) o)
none_or_related within page i all None before = tt
none_or_related within page i all (Some j) before = all j before

found_before : (f : ℕ → Bool) (n : ℕ) (o : Option ℕ) → IfSome o (λ s. (s < n) × (f s ≡ true))
    → IfSome o (λ s. s < n)
found_before f n None h = tt
found_before f n (Some s) h = h.0

module _ (page : Page) (made : IsMade page.rows) (spaces : HaveOnlySpaces page.rows) where
  means : (i : ℕ) → i < length page.rows → (s : Subselector) → IsShared s
      → MeansTheSame page_document element_tree (page, i) (page.rows, i) s
  means i lt (attribute name exists) shared = tt
  means i lt (attribute name (equals text)) shared = tt
  means i lt (attribute name (has_word word)) shared = (shared, spaces i name)
  means i lt (attribute name (begins_with start)) shared = tt
  means i lt (pseudo_class first_child) shared =
      ap is_none (made_in_order page.rows made i lt)
      ∙ none_earlier page (count_below (is_sibling page.rows i) i) (last_below (is_sibling page.rows i) i)
      (earlier_count (page, i))
  means i lt (pseudo_class link) shared = or_nothing _ page.is_html
  means i lt (pseudo_class visited) shared = or_nothing _ page.is_html
  means i lt (pseudo_class hover) shared = or_nothing _ page.is_html
  means i lt (pseudo_class active) shared = or_nothing _ page.is_html
  means i lt (pseudo_class focus) shared = or_nothing _ page.is_html
  means i lt (pseudo_class (lang tag)) shared =
      same_language tag shared.0 shared.1 shared.2 (language_at page.rows i)

  answer : (cs : List Component) → AreShared cs → (i : ℕ) → i < length page.rows
      → AnswerAlike page_document element_tree cs (page, i) (page.rows, i)
  answer cs shared i lt = record {
    names = λ name. refl;
    attributes = λ name operator. refl;
    meanings = λ k d within l e more. means i lt _ (shared k d within l e more);
  }

  pub one_element : (cs : List Component) → AreShared cs → (steps i : ℕ) → i < length page.rows
      → AreOneWithin page_document element_tree cs steps (page, i) (page.rows, i)
  one_element cs shared zero i lt = answer cs shared i lt
  one_element cs shared (suc steps) i lt = (
    answer cs shared i lt,
    none_or_related (AreOneWithin page_document element_tree cs steps) page i
        (λ j before. one_element cs shared steps j (omega (arith, lt, before)))
        (parent_index page.rows i) (lesser_before i (named_parent page.rows i)),
    rw (made_in_order page.rows made i lt) (none_or_related
        (AreOneWithin page_document element_tree cs steps) page i
        (λ j before. one_element cs shared steps j (omega (arith, lt, before)))
        (last_below (is_sibling page.rows i) i)
        (found_before (is_sibling page.rows i) i (last_below (is_sibling page.rows i) i)
        (last_found (is_sibling page.rows i) i))),
  )
