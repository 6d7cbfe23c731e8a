-- Lists that have a number, one after another.
-- Serves `NumberedTree::both_answers` and `NumberedTree::mark_each`.
use Rattle.std.proofs.Common.{◌≡◌, ℕ, ◌+◌, ◌<◌, ◌≤◌, ◌↔◌, Bool, true, false, List, [], ◌∷◌, ◌++◌, length, get_or, take, IsTrue, refl, sym, ap, subst, ◌∙◌, below_more, arith}
use Rattle.std.proofs.lemmas.List.{length_push, take-append-le, get_or_append_left, take_all}
use Rattle.std.proofs.Math.Seq.{get_or-append_seam}
use Rattle.css_selector_text.specs.Components.ListTest.{has, nth_child, nth_last_child}
use Rattle.css_selectors.specs.MarkedLists.{ListText}
use Rattle.css_selectors.specs.MarkedLists.ListText.{matched, tested}
use Rattle.css_tree.specs.Pages.{Page}
use Rattle.css_tree.specs.Marks.{AreAnswered, AreMarked, IsMarkedBy, IsMarkedInside, is_of_has, with_marks}

-- ---- a list outside and inside `:has()`

-- that of `:has()` asks only of the page inside
pub has_inside : (list : ListText) → is_of_has list ≡ true → (page inside : Page) (i : ℕ)
    → IsMarkedBy list inside inside i ↔ IsMarkedBy list page inside i
has_inside (matched selectors) is page inside i = absurd (cc)
has_inside (tested has selectors) is page inside i = (λ h. h, λ h. h)
has_inside (tested (nth_child p) selectors) is page inside i = absurd (cc)
has_inside (tested (nth_last_child p) selectors) is page inside i = absurd (cc)

-- any other asks nothing of it
pub others_outside : (list : ListText) → is_of_has list ≡ false → (page inside : Page) (i : ℕ)
    → IsMarkedBy list page page i ↔ IsMarkedBy list page inside i
others_outside (matched selectors) is page inside i = (λ h. h, λ h. h)
others_outside (tested has selectors) is page inside i = absurd (cc)
others_outside (tested (nth_child p) selectors) is page inside i = (λ h. h, λ h. h)
others_outside (tested (nth_last_child p) selectors) is page inside i = (λ h. h, λ h. h)

-- ---- one more list

-- what says of an element whether it is in a list, by its index and the page
abbrev Says : Type 1
Says = ListText → ℕ → Page → ℕ → Type 0

-- the answers of a list on a page with these marks
abbrev Answered : Says → Page → ListText → ℕ → List (List Bool) → List Bool → ℕ → Type 0
Answered Is page list k marks answers i =
    IsTrue (get_or answers i false) ↔ Is list k (with_marks page marks) i

moved : (Is : Says) (page : Page) (l m : ListText) (k : ℕ) (marks others : List (List Bool))
    (a b : List Bool) (i : ℕ) → l ≡ m → marks ≡ others → a ≡ b → Answered Is page l k marks a i
    → Answered Is page m k others b i
moved Is page l m k marks others a b i list same answers h =
    subst (λ x. Answered Is page x k others b i) list
    (subst (λ x. Answered Is page l k x b i) same
    (subst (λ x. Answered Is page l k marks x i) answers h))

pushed : (Is Next : Says) (lists : List ListText) (list : ListText) (page : Page)
    (answers : List Bool)
    → ((k : ℕ) → k < length lists → (l : ListText) (p : Page) (i : ℕ) → Is l k p i ↔ Next l k p i)
    → AreAnswered Is lists page
    → ((i : ℕ) → i < length page.rows
    → IsTrue (get_or answers i false) ↔ Next list (length lists) page i)
    → AreAnswered Next (lists ++ list ∷ []) (with_marks page (page.marks ++ answers ∷ []))
pushed Is Next lists list page answers same are each = record {
  all = length_push page.marks answers ∙ ap (λ n. n + 1) are.all ∙ sym (length_push lists list);
  each = λ k i lt within.
      below_more (λ j. Answered Next page (get_or (lists ++ list ∷ []) j (matched [])) j
      (take j (page.marks ++ answers ∷ [])) (get_or (page.marks ++ answers ∷ []) j []) i)
      (length lists) (before i within) (here i within) k (subst (λ n. k < n) (length_push lists list) lt);
}
  where
    before : (i : ℕ) → i < length page.rows → (j : ℕ) → j < length lists
        → Answered Next page (get_or (lists ++ list ∷ []) j (matched [])) j
        (take j (page.marks ++ answers ∷ [])) (get_or (page.marks ++ answers ∷ []) j []) i
    before i within j less =
        let count = are.all in
        let marked : j < length page.marks = omega arith in
        let was = are.each j i less within in
        let next = same j less (get_or lists j (matched [])) (with_marks page (take j page.marks)) i in
        moved Next page _ _ j _ _ _ _ i
        (sym (get_or_append_left lists (list ∷ []) (matched []) j less))
        (sym (take-append-le j page.marks (answers ∷ []) (omega arith)))
        (sym (get_or_append_left page.marks (answers ∷ []) [] j marked))
        (λ h. next.0 (was.0 h), λ h. was.1 (next.1 h))

    here : (i : ℕ) → i < length page.rows
        → Answered Next page (get_or (lists ++ list ∷ []) (length lists) (matched [])) (length lists)
        (take (length lists) (page.marks ++ answers ∷ []))
        (get_or (page.marks ++ answers ∷ []) (length lists) []) i
    here i within =
        let count = are.all in
        moved Next page _ _ (length lists) _ _ _ _ i
        (sym (get_or-append_seam lists list [] (matched [])))
        (sym (take-append-le (length lists) page.marks (answers ∷ []) (omega arith)
        ∙ take_all (length lists) page.marks (omega arith)))
        (sym (ap (λ n. get_or (page.marks ++ answers ∷ []) n []) (sym count)
        ∙ get_or-append_seam page.marks answers [] []))
        (each i within)

-- ---- marked pages

-- it is marked, and these are the marks inside `:has()`
abbrev pub AreMarkedWith : List (List Bool) → List ListText → Page → Type 0
AreMarkedWith inside lists page = (are : AreMarked lists page) × (are.inside ≡ inside)

pub none_marked : (page : Page) → page.marks ≡ [] → AreMarkedWith [] [] page
none_marked page none = (
  record {
    inside = [];
    own = record { all = ap length none; each = λ k i lt within. absurd (omega (arith, lt)) };
    within = record { all = refl; each = λ k i lt within. absurd (omega (arith, lt)) };
  },
  refl,
)

-- as lists outside of `:has()` are answered, where these are the marks inside
abbrev Own : Page → List (List Bool) → Says
Own page inside list k p i = IsMarkedBy list p (with_marks page (take k inside)) i

own_alike : (page : Page) (m n : List (List Bool)) → m ≡ n → (list : ListText) (p : Page) (i : ℕ)
    → IsMarkedBy list p (with_marks page m) i ↔ IsMarkedBy list p (with_marks page n) i
own_alike page m n same list p i = (
  subst (λ marks. IsMarkedBy list p (with_marks page marks) i) same,
  subst (λ marks. IsMarkedBy list p (with_marks page marks) i) (sym same),
)

pushed_both : (lists : List ListText) (list : ListText) (page : Page) (answers inner : List Bool)
    → (are : AreMarked lists page)
    → ((i : ℕ) → i < length page.rows → IsTrue (get_or answers i false)
    ↔ IsMarkedBy list page (with_marks page are.inside) i)
    → ((i : ℕ) → i < length page.rows → IsTrue (get_or inner i false)
    ↔ IsMarkedInside list (with_marks page are.inside) i)
    → AreMarkedWith (are.inside ++ inner ∷ []) (lists ++ list ∷ [])
    (with_marks page (page.marks ++ answers ∷ []))
pushed_both lists list page answers inner are each each_inside = (
  record {
    inside = are.inside ++ inner ∷ [];
    own = pushed (Own page are.inside) (Own page (are.inside ++ inner ∷ [])) lists list page answers
        (λ k less l p i. own_alike page (take k are.inside) (take k (are.inside ++ inner ∷ []))
        (earlier k (omega (arith, less, count))) l p i)
        are.own here;
    within = pushed (λ l k. IsMarkedInside l) (λ l k. IsMarkedInside l) lists list
        (with_marks page are.inside) inner (λ k less l p i. (λ h. h, λ h. h)) are.within each_inside;
  },
  refl,
)
  where
    count : length are.inside ≡ length lists
    count = are.within.all

    earlier : (k : ℕ) → k ≤ length are.inside → take k are.inside ≡ take k (are.inside ++ inner ∷ [])
    earlier k less = sym (take-append-le k are.inside (inner ∷ []) (omega (arith, less)))

    here : (i : ℕ) → i < length page.rows → IsTrue (get_or answers i false)
        ↔ Own page (are.inside ++ inner ∷ []) list (length lists) page i
    here i within =
        let all = sym (take_all (length lists) are.inside (omega (arith, count)))
        ∙ earlier (length lists) (omega (arith, count)) in
        let a = each i within in
        let b = own_alike page are.inside (take (length lists) (are.inside ++ inner ∷ [])) all list page i in
        (λ h. b.0 (a.0 h), λ h. a.1 (b.1 h))

-- the next list has a number, and all else is as it was
pub marked_more : (lists : List ListText) (list : ListText) (old new : Page)
    (answers inner : List Bool) (inside : List (List Bool)) → AreMarkedWith inside lists old
    → new.rows ≡ old.rows → new.given ≡ old.given
    → new.is_html ≡ old.is_html → new.marks ≡ old.marks ++ answers ∷ []
    → ((i : ℕ) → i < length old.rows → IsTrue (get_or answers i false)
    ↔ IsMarkedBy list old (with_marks old inside) i)
    → ((i : ℕ) → i < length old.rows → IsTrue (get_or inner i false)
    ↔ IsMarkedInside list (with_marks old inside) i)
    → AreMarkedWith (inside ++ inner ∷ []) (lists ++ list ∷ []) new
marked_more lists list old new answers inner inside are rows given html marks each each_inside =
    subst (AreMarkedWith (inside ++ inner ∷ []) (lists ++ list ∷ [])) (sym same)
    (subst (λ m. AreMarkedWith (m ++ inner ∷ []) (lists ++ list ∷ [])
    (with_marks old (old.marks ++ answers ∷ []))) are.1
    (pushed_both lists list old answers inner are.0
    (subst (λ m. (i : ℕ) → i < length old.rows → IsTrue (get_or answers i false)
    ↔ IsMarkedBy list old (with_marks old m) i) (sym are.1) each)
    (subst (λ m. (i : ℕ) → i < length old.rows → IsTrue (get_or inner i false)
    ↔ IsMarkedInside list (with_marks old m) i) (sym are.1) each_inside)))
  where
    same : new ≡ with_marks old (old.marks ++ answers ∷ [])
    same =
        ap (λ r. record { rows = r; given = new.given; marks = new.marks; is_html = new.is_html })
        rows
        ∙ ap (λ g. record { rows = old.rows; given = g; marks = new.marks; is_html = new.is_html })
        given
        ∙ ap (λ h. record { rows = old.rows; given = old.given; marks = new.marks; is_html = h })
        html
        ∙ ap (with_marks old) marks
