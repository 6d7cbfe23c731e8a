-- Placements and counts of elements of one page with some marks are those of the page with others, where parts and
-- kinds ask the same of its elements.
-- Serves `meaning_law`.
use Rattle.std.proofs.Common.{◌≡◌, ℕ, zero, suc, ◌+◌, ◌-◌, ◌<◌, ◌↔◌, Bool, List, length, Option, None, Some, IfSome, refl, sym, ap, subst, ◌∙◌, arith}
use Rattle.std.specs.Option.{option_map}
use Rattle.css_matching.specs.declared.Combinator.{Combinator}
use Rattle.css_matching.specs.ListTrees.{spot}
use Rattle.css_matching.specs.Placements.{HasPlacement, Relates}
use Rattle.css_selector_text.specs.Components.{Progression}
use Rattle.css_selectors.specs.Documents.{shape}
use Rattle.css_tree.specs.Marks.{with_marks}
use Rattle.css_tree.specs.Pages.{Page, page_document}
use Rattle.css_tree.specs.SiblingCounts.{HasCount, IsNumberedAmong}
use Rattle.css_tree.specs.SiblingCounts.HasCount.{no_node, one_more, another}
use Rattle.css_tree.proofs.PageElements.{IsElement, related_element}
use Rattle.css_tree.proofs.PageSteps.{remarked, related_moves}

module _ (page : Page) (m n : List (List Bool)) where
  abbrev On : List (List Bool) → ℕ → Page × ℕ
  On marks i = spot (with_marks page marks) i

  -- a placement where the one marks are is one of parts that ask less where the others are
  module _ (c e : ℕ → Combinator) (joined : (i : ℕ) → c i ≡ e i) (M N : ℕ → Page × ℕ → Type 0)
      (asks : (k j : ℕ) → j < length page.rows → M k (On m j) → N k (On n j)) where
    meets_turned : (k : ℕ) (a : Page × ℕ) → IsElement (with_marks page m) a → M k a → N k (remarked n a)
    meets_turned k (p, j) is h =
        subst (λ q. N k (remarked n (q, j))) (sym is.there)
        (asks k j is.within (subst (λ q. M k (q, j)) is.there h))

    pub placed_turned : (last i : ℕ) → i < length page.rows
        → HasPlacement (shape page_document) c M last (On m i)
        → HasPlacement (shape page_document) e N last (On n i)
    placed_turned last i lt h = (
      λ k. remarked n (h.0 k),
      record {
        meets = λ k le. meets_turned k (h.0 k) (elements (last - k) k (omega arith)) (h.1.meets k le);
        relates = λ k less. subst
            (λ x. Relates (shape page_document) x (remarked n (h.0 k)) (remarked n (h.0 (k + 1)))) (joined (k + 1))
            (related_moves n (c (k + 1)) (h.0 k) (h.0 (k + 1)) (h.1.relates k less));
        ends = ap (remarked n) h.1.ends;
      },
    )
      where
        elements : (left k : ℕ) → k + left ≡ last → IsElement (with_marks page m) (h.0 k)
        elements zero k is =
            let at : k ≡ last = omega arith in
            subst (IsElement (with_marks page m)) (sym (ap h.0 at ∙ h.1.ends))
            (record { there = refl; within = lt })
        elements (suc left) k is =
            related_element (with_marks page m) (c (k + 1)) (h.0 k) (h.0 (k + 1))
            (h.1.relates k (omega arith)) (elements left (k + 1) (omega arith))

  -- so are numbers among siblings, where the same elements are of the kinds
  module _ (next : Page × ℕ → Option (Page × ℕ)) (of : ℕ → Option ℕ)
      (on : (marks : List (List Bool)) (j : ℕ) → next (On marks j) ≡ option_map (spot (with_marks page marks)) (of j))
      (within : (j : ℕ) → j < length page.rows → IfSome (of j) (λ k. k < length page.rows))
      (P Q : Page × ℕ → Type 0) (same : (j : ℕ) → j < length page.rows → P (On m j) ↔ Q (On n j)) where
    count_turned : (x : Option (Page × ℕ)) (k : ℕ) → HasCount next P x k → (o : Option ℕ)
        → IfSome o (λ j. j < length page.rows) → x ≡ option_map (spot (with_marks page m)) o
        → HasCount next Q (option_map (spot (with_marks page n)) o) k
    count_turned None _ no_node None lt e = no_node
    count_turned None _ no_node (Some j) lt e = absurd (cc)
    count_turned (Some x) (suc k) (one_more here more) None lt e = absurd (cc)
    count_turned (Some x) (suc k) (one_more here more) (Some j) lt e =
        let is : x ≡ On m j = cc in
        one_more ((same j lt).0 (subst P is here))
        (subst (λ y. HasCount next Q y k) (sym (on n j))
        (count_turned (next x) k more (of j) (within j lt) (ap next is ∙ on m j)))
    count_turned (Some x) k (another not_here more) None lt e = absurd (cc)
    count_turned (Some x) k (another not_here more) (Some j) lt e =
        let is : x ≡ On m j = cc in
        another (λ h. not_here (subst P (sym is) ((same j lt).1 h)))
        (subst (λ y. HasCount next Q y k) (sym (on n j))
        (count_turned (next x) k more (of j) (within j lt) (ap next is ∙ on m j)))

    pub numbered_turned : (p : Progression) (i : ℕ) → i < length page.rows
        → IsNumberedAmong next P p (On m i) → IsNumberedAmong next Q p (On n i)
    numbered_turned p i lt h = (
      h.0,
      subst (λ y. HasCount next Q y h.0) (sym (on n i))
          (count_turned (next (On m i)) h.0 h.1 (of i) (within i lt) (on m i)),
      h.2,
    )
