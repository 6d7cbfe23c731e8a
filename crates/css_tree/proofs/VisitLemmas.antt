-- Marked elements are numbered among their siblings, from the first or from the last on.
-- Serves `nth_marks`.
use Rattle.std.proofs.Common.{◌≡◌, ◌≢◌, ℕ, zero, suc, ◌+◌, ◌-◌, ◌<◌, ◌≤◌, ◌↔◌, inl, inr, Bool, true, false, List, get_or, length, IsTrue, Option, None, Some, refl, sym, ap, subst, ◌∙◌, arith}
use Rattle.std.specs.Prelude.{◌&&◌, ◌==◌, if◌then◌else◌}
use Rattle.std.specs.Option.{option_map}
use Rattle.std.proofs.Math.ListN.{set}
use Rattle.std.proofs.lemmas.Bool.{false≢true}
use Rattle.std.proofs.lemmas.Bool.Decides.{Decides-eqb, not_from_Decides}
use Rattle.std.proofs.lemmas.Grind.{get_or-set_at}
use Rattle.std.proofs.lemmas.List.{get_or-set_other, length-set}
use Rattle.css_matching.specs.ListTrees.{spot}
use Rattle.css_selector_text.specs.Components.{Progression, Selectors}
use Rattle.css_selectors.specs.Meanings.{MatchesAny}
use Rattle.css_selector_text.specs.reading.Numbers.{is_numbered}
use Rattle.css_elements.specs.Rows.{Row}
use Rattle.css_tree.specs.Counts.{last_below}
use Rattle.css_tree.specs.declared.nth_marks.End.{End}
use Rattle.css_tree.specs.declared.nth_marks.End.TheVariants.{First, Last}
use Rattle.css_tree.specs.Marks.{sibling_toward, IsNumberedMatch}
use Rattle.css_tree.specs.NextSiblings.{first_from}
use Rattle.css_tree.specs.Pages.{Page, page_document, family, is_sibling}
use Rattle.css_tree.specs.SiblingCounts.{HasCount, IsNumberedAmong}
use Rattle.css_tree.specs.SiblingCounts.HasCount.{no_node, one_more, another}
use Rattle.css_tree.specs.Steps.{is_set}
use Rattle.css_tree.specs.Visits.{visited, count_visited, AreCounted, is_numbered_at}
use Rattle.css_tree.proofs.Counting.{last_or_before}
use Rattle.css_tree.proofs.CountLemmas.{numbered_by_count}

-- ---- the order of visits

pub visited-within : (end : End) (n k : ℕ) → k < n → visited end n k < n
visited-within First n k lt = lt
visited-within Last n k lt = omega arith

pub visited-back : (end : End) (n k : ℕ) → k < n
    → visited end n (visited end n k) ≡ k
visited-back First n k lt = refl
visited-back Last n k lt = omega arith

visited-apart : (end : End) (n j k : ℕ) → j < n → k < n → j ≢ k
    → visited end n j ≢ visited end n k
visited-apart First n j k less lt apart e = apart e
visited-apart Last n j k less lt apart e = apart (omega arith)

-- ---- the pass

module _ (end : End) (p : Progression) (rows : List Row) (marks : List Bool) where
  abbrev at : ℕ → ℕ
  at k = visited end (length rows) k

  pub counted_none : (counts : List ℕ) → length counts ≡ length rows
      → ((i : ℕ) → get_or counts i 0 ≡ 0) → AreCounted end rows marks counts 0
  counted_none counts all none = record { all = all; each = none }

  pub counted_not : (counts : List ℕ) (k : ℕ) → is_set marks (at k) ≡ false
      → AreCounted end rows marks counts k → AreCounted end rows marks counts (suc k)
  counted_not counts k not are = record {
    all = are.all;
    each = λ number. (let same = are.each number in
        same ∙ nothing (number == family rows (at k)) (is_set marks (at k)) not
        (count_visited end rows marks number k));
  }
    where
      nothing : (b m : Bool) → m ≡ false → (c : ℕ) → c ≡ c + (if b && m then 1 else 0)
      nothing b true is c = absurd (cc)
      nothing true false is c = omega arith
      nothing false false is c = omega arith

  pub counted_more : (counts : List ℕ) (k : ℕ) → family rows (at k) < length rows
      → is_set marks (at k) ≡ true → AreCounted end rows marks counts k
      → AreCounted end rows marks
      (set counts (family rows (at k)) (get_or counts (family rows (at k)) 0 + 1)) (suc k)
  counted_more counts k within marked are = record {
    all = length-set counts (family rows (at k)) _ ∙ are.all;
    each = λ number. of number (number == family rows (at k)) refl;
  }
    where
      f : ℕ
      f = family rows (at k)

      more : List ℕ
      more = set counts f (get_or counts f 0 + 1)

      inside : f < length counts
      inside = let all = are.all in omega arith

      of : (number : ℕ) (b : Bool) → (number == f) ≡ b
          → get_or more number 0 ≡ count_visited end rows marks number (suc k)
      of number true is =
          let same : number ≡ f = (Decides-eqb number f).0 is in
          get_or-set_at counts f number (get_or counts f 0 + 1) 0 same inside
          ∙ ap (λ c. c + 1) (are.each f ∙ ap (λ g. count_visited end rows marks g k) (sym same))
          ∙ ap {B = ℕ} (λ t. count_visited end rows marks number k + (if t then 1 else 0))
          (sym (ap (λ t. t && is_set marks (at k)) is ∙ marked))
      of number false is =
          get_or-set_other counts f number (get_or counts f 0 + 1) 0
          (not_from_Decides (number == f) (Decides-eqb number f) is)
          ∙ are.each number
          ∙ (let none : count_visited end rows marks number k
          ≡ count_visited end rows marks number k + 0 = omega arith in none)
          ∙ ap {B = ℕ} (λ t. count_visited end rows marks number k + (if t then 1 else 0))
          (sym (ap (λ t. t && is_set marks (at k)) is))

  -- the elements that were visited are answered, and the others are not marked
  pub record AreAnswered (answers : List Bool) (k : ℕ) : Type 0 where
    pub all : length answers ≡ length rows
    pub visits : (j : ℕ) → j < k
        → is_set answers (at j) ≡ is_numbered_at end p rows marks j
    pub others : (j : ℕ) → k ≤ j → j < length rows → is_set answers (at j) ≡ false

  pub answered_none : (answers : List Bool) → length answers ≡ length rows
      → ((i : ℕ) → is_set answers i ≡ false) → AreAnswered answers 0
  answered_none answers all none = record {
    all = all;
    visits = λ j lt. absurd (omega arith);
    others = λ j le lt. none (at j);
  }

  pub answered_not : (answers : List Bool) (k : ℕ) → k < length rows → is_set marks (at k) ≡ false
      → AreAnswered answers k → AreAnswered answers (suc k)
  answered_not answers k less not are = record {
    all = are.all;
    visits = λ j lt. elim (last_or_before j k lt) [
      | inl same ↦
          ap (λ i. is_set answers (at i)) same ∙ are.others k (omega arith) less
          ∙ sym (ap (λ m. m && is_numbered p (count_visited end rows marks
          (family rows (at k)) k + 1)) not)
          ∙ ap (is_numbered_at end p rows marks) (sym same)
      | inr before ↦ are.visits j before
    ];
    others = λ j le lt. are.others j (omega arith) lt;
  }

  pub answered_more : (answers : List Bool) (k : ℕ) (answer : Bool) → k < length rows
      → is_set marks (at k) ≡ true
      → answer ≡ is_numbered p (count_visited end rows marks (family rows (at k)) k + 1)
      → AreAnswered answers k → AreAnswered (set answers (at k) answer) (suc k)
  answered_more answers k answer less marked is are = record {
    all = length-set answers (at k) answer ∙ are.all;
    visits = λ j lt. elim (last_or_before j k lt) [
      | inl same ↦
          get_or-set_at answers (at k) (at j) answer false (ap at same) inside
          ∙ is
          ∙ sym (ap (λ m. m && is_numbered p (count_visited end rows marks
          (family rows (at k)) k + 1)) marked)
          ∙ ap (is_numbered_at end p rows marks) (sym same)
      | inr before ↦
          (let apart : j ≢ k = λ e. omega (arith, before, e) in
          get_or-set_other answers (at k) (at j) answer false
          (visited-apart end (length rows) j k (omega arith) less apart)
          ∙ are.visits j before)
    ];
    others = λ j le lt.
        (let apart : j ≢ k = λ e. omega (arith, le, e) in
        get_or-set_other answers (at k) (at j) answer false
        (visited-apart end (length rows) j k lt less apart)
        ∙ are.others j (omega arith) lt);
  }
    where
      inside : at k < length answers
      inside =
          let all = are.all in let lt = visited-within end (length rows) k less in omega arith

-- ---- numbers among siblings

first_visited : (test : ℕ → Bool) (n c : ℕ) → c ≤ n
    → first_from test (n - c) c
    ≡ option_map (λ j. n - suc j) (last_below (λ j. test (n - suc j)) c)
first_visited test n zero le = refl
first_visited test n (suc c) le = of (first_visited test n c (omega arith)) (test (n - suc c))
  where
    next : suc (n - suc c) ≡ n - c
    next = omega arith

    of : first_from test (n - c) c ≡ option_map (λ j. n - suc j) (last_below (λ j. test (n - suc j)) c)
        → (b : Bool)
        → (if b then Some (n - suc c) else first_from test (suc (n - suc c)) c)
        ≡ option_map (λ j. n - suc j)
        (if b then Some c else last_below (λ j. test (n - suc j)) c)
    of same true = refl
    of same false = ap (λ i. first_from test i c) next ∙ same

module _ (end : End) (page : Page) where
  abbrev node : ℕ → Page × ℕ
  node k = spot page (visited end (length page.rows) k)

-- the sibling next to an element is the last of its siblings that was visited before it
toward : (end : End) (page : Page) (k : ℕ) → k < length page.rows
    → sibling_toward end (node end page k)
    ≡ option_map (node end page)
    (last_below (λ j. is_sibling page.rows (visited end (length page.rows) k)
    (visited end (length page.rows) j)) k)
toward First page k lt = refl
toward Last page k lt =
    ap (λ i. option_map (spot page) (first_from test i (n - suc (n - suc k)))) after
    ∙ ap (λ c. option_map (spot page) (first_from test (n - k) c)) left
    ∙ ap (option_map (spot page)) (first_visited test n k (omega arith))
    ∙ twice (last_below (λ j. test (n - suc j)) k)
  where
    n : ℕ
    n = length page.rows

    test : ℕ → Bool
    test = is_sibling page.rows (n - suc k)

    after : suc (n - suc k) ≡ n - k
    after = omega arith

    left : n - suc (n - suc k) ≡ k
    left = omega arith

    twice : (r : Option ℕ)
        → option_map (spot page) (option_map (λ j. n - suc j) r) ≡ option_map (node Last page) r
    twice None = refl
    twice (Some j) = refl

module _ (end : End) (page : Page) (marks : List Bool) (Is : Page × ℕ → Type 0)
    (agree : (j : ℕ) → j < length page.rows → IsTrue (is_set marks j) ↔ Is (spot page j)) where
  abbrev place : ℕ → ℕ
  place k = visited end (length page.rows) k

  -- of a family, the last that was visited before one, and how many there were
  abbrev Counted : ℕ → ℕ → Type 0
  Counted f k =
      HasCount (sibling_toward end) Is
      (option_map (node end page) (last_below (λ j. f == family page.rows (place j)) k))
      (count_visited end page.rows marks f k)

  counted_next : (f k : ℕ) → k < length page.rows → Counted f k → Counted f (suc k)
  counted_next f k less before =
      of (f == family page.rows (place k)) (is_set marks (place k)) refl refl
    where
      next : (f == family page.rows (place k)) ≡ true
          → HasCount (sibling_toward end) Is (sibling_toward end (node end page k))
          (count_visited end page.rows marks f k)
      next is =
          let same : f ≡ family page.rows (place k) =
          (Decides-eqb f (family page.rows (place k))).0 is in
          subst (λ o. HasCount (sibling_toward end) Is o (count_visited end page.rows marks f k))
          (ap (λ g. option_map (node end page) (last_below (λ j. g == family page.rows (place j)) k))
          same ∙ sym (toward end page k less)) before

      of : (b m : Bool) → (f == family page.rows (place k)) ≡ b → is_set marks (place k) ≡ m
          → HasCount (sibling_toward end) Is
          (option_map (node end page)
          (if b then Some k else last_below (λ j. f == family page.rows (place j)) k))
          (count_visited end page.rows marks f k + (if b && m then 1 else 0))
      of true true is marked =
          let c : suc (count_visited end page.rows marks f k)
          ≡ count_visited end page.rows marks f k + 1 = omega arith in
          subst (HasCount (sibling_toward end) Is (Some (node end page k))) c
          (one_more ((agree (place k) (visited-within end (length page.rows) k less)).0 marked)
          (next is))
      of true false is not =
          let c : count_visited end page.rows marks f k
          ≡ count_visited end page.rows marks f k + 0 = omega arith in
          subst (HasCount (sibling_toward end) Is (Some (node end page k))) c
          (another (λ h. false≢true (sym not
          ∙ (agree (place k) (visited-within end (length page.rows) k less)).1 h)) (next is))
      of false m is marked =
          let c : count_visited end page.rows marks f k
          ≡ count_visited end page.rows marks f k + 0 = omega arith in
          subst (HasCount (sibling_toward end) Is (option_map (node end page)
          (last_below (λ j. f == family page.rows (place j)) k))) c before

  counted : (f k : ℕ) → k ≤ length page.rows → Counted f k
  counted f zero le = no_node
  counted f (suc k) le = counted_next f k (omega arith) (counted f k (omega arith))

and_both : (a b : Bool) → IsTrue (a && b) ↔ (IsTrue a × IsTrue b)
and_both true b = (λ t. (refl, t), λ h. h.1)
and_both false b = (λ t. absurd (false≢true t), λ h. absurd (false≢true h.0))

-- the answers are those of the pseudo-class
pub answered_all : (end : End) (p : Progression) (page : Page) (ss : Selectors)
    (marks answers : List Bool)
    → ((j : ℕ) → j < length page.rows
    → IsTrue (is_set marks j) ↔ MatchesAny page_document ss (spot page j))
    → AreAnswered end p page.rows marks answers (length page.rows) → (i : ℕ)
    → i < length page.rows → IsTrue (is_set answers i) ↔ IsNumberedMatch end p ss page i
answered_all end p page ss marks answers agree are i lt =
    subst (λ j. IsTrue (is_set answers j) ↔ IsNumberedMatch end p ss page j)
    (visited-back end (length page.rows) i lt) here
  where
    k : ℕ
    k = visited end (length page.rows) i

    less : k < length page.rows
    less = visited-within end (length page.rows) i lt

    j : ℕ
    j = visited end (length page.rows) k

    numbered : IsTrue (is_numbered p (count_visited end page.rows marks (family page.rows j) k + 1))
        ↔ IsNumberedAmong (sibling_toward end) (MatchesAny page_document ss) p (spot page j)
    numbered =
        numbered_by_count (sibling_toward end) (MatchesAny page_document ss) p (spot page j)
        (count_visited end page.rows marks (family page.rows j) k) _
        (subst (λ o. HasCount (sibling_toward end) (MatchesAny page_document ss) o
        (count_visited end page.rows marks (family page.rows j) k))
        (sym (toward end page k less))
        (counted end page marks (MatchesAny page_document ss) agree (family page.rows j) k
        (let l = less in omega (arith, l))))
        refl

    here : IsTrue (is_set answers j) ↔ IsNumberedMatch end p ss page j
    here =
        let is = are.visits k less in
        let both = and_both (is_set marks j)
        (is_numbered p (count_visited end page.rows marks (family page.rows j) k + 1)) in
        let marked = agree j (visited-within end (length page.rows) k less) in (
          λ t. (let h = both.0 (sym is ∙ t) in (marked.0 h.0, numbered.0 h.1)),
          λ h. is ∙ both.1 (marked.1 h.0, numbered.1 h.1),
        )
