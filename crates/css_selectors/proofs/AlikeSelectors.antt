-- Selectors that are alike but for simple selectors: each has a condition in its place that asks the
-- same.
-- Serves `nesting_laws`.
use Rattle.std.proofs.Common.{◌≡◌, ℕ, zero, suc, ◌+◌, ◌-◌, ◌↔◌, ◌⊎◌, inl, inr, refl, sym, ap, subst, ◌∙◌, arith}
use Rattle.css_matching.specs.declared.Combinator.{Combinator}
use Rattle.css_matching.specs.Placements.{HasPlacement, Relates}
use Rattle.css_matching.specs.Trees.{Tree}
use Rattle.css_selectors.specs.Documents.{Document, shape}
use Rattle.css_selector_text.specs.Components.{Simple, ListTest, Condition, Conditions, Parts, Selectors}
use Rattle.css_selector_text.specs.Components.Condition.{simple, negation, any_of, where_any, tested}
use Rattle.css_selector_text.specs.Components.Conditions.{end_of_compound, with_condition}
use Rattle.css_selector_text.specs.Components.Parts.{end_of_selector, with_part}
use Rattle.css_selector_text.specs.Components.Selectors.{end_of_list, with_selector}
use Rattle.css_selectors.specs.Meanings.{combinator_at, part_count, IsMet, AreMet, MeetsPart, MatchesAny, IsPlaced}

mutual
  -- conditions that are alike, where a simple selector and what is in its place are so related
  pub data Alike (P : Simple → Condition → Type 0) : Condition → Condition → Type 0 where
    simples : {s : Simple} {e : Condition} → P s e → Alike P (simple s) e
    negations : {a b : Selectors} → ListsAlike P a b → Alike P (negation a) (negation b)
    anys : {a b : Selectors} → ListsAlike P a b → Alike P (any_of a) (any_of b)
    wheres : {a b : Selectors} → ListsAlike P a b → Alike P (where_any a) (where_any b)
    tests : {t : ListTest} {a b : Selectors} → ListsAlike P a b → Alike P (tested t a) (tested t b)

  pub data CompoundsAlike (P : Simple → Condition → Type 0) : Conditions → Conditions → Type 0 where
    no_condition : CompoundsAlike P end_of_compound end_of_compound
    one_condition : {c e : Condition} {cs es : Conditions} → Alike P c e → CompoundsAlike P cs es
        → CompoundsAlike P (with_condition c cs) (with_condition e es)

  pub data PartsAlike (P : Simple → Condition → Type 0) : Parts → Parts → Type 0 where
    no_part : PartsAlike P end_of_selector end_of_selector
    one_part : {k : Combinator} {c e : Conditions} {ps qs : Parts} → CompoundsAlike P c e
        → PartsAlike P ps qs → PartsAlike P (with_part k c ps) (with_part k e qs)

  pub data ListsAlike (P : Simple → Condition → Type 0) : Selectors → Selectors → Type 0 where
    no_selector : ListsAlike P end_of_list end_of_list
    one_selector : {ps qs : Parts} {ss ts : Selectors} → PartsAlike P ps qs → ListsAlike P ss ts
        → ListsAlike P (with_selector ps ss) (with_selector qs ts)

-- a placement of nodes of a kind is one of parts that ask less of these, joined alike
placed_so : {Node : Type 0} (tree : Tree Node) (Is : Node → Type 0)
    → ((c : Combinator) (a b : Node) → Relates tree c a b → Is b → Is a)
    → (c e : ℕ → Combinator) (M N : ℕ → Node → Type 0) (last : ℕ) (n : Node) → Is n
    → ((i : ℕ) → c i ≡ e i) → ((i : ℕ) (m : Node) → Is m → M i m → N i m)
    → HasPlacement tree c M last n → HasPlacement tree e N last n
placed_so tree Is stays c e M N last n is joined asks h = (
  h.0,
  record {
    meets = λ k le. asks k (h.0 k) (kind (last - k) k (omega arith)) (h.1.meets k le);
    relates = λ k lt. subst (λ x. Relates tree x (h.0 k) (h.0 (k + 1))) (joined (k + 1))
        (h.1.relates k lt);
    ends = h.1.ends;
  },
)
  where
    kind : (left k : ℕ) → k + left ≡ last → Is (h.0 k)
    kind zero k at =
        let same : k ≡ last = omega arith in subst Is (sym (ap h.0 same ∙ h.1.ends)) is
    kind (suc left) k at =
        stays (c (k + 1)) (h.0 k) (h.0 (k + 1)) (h.1.relates k (omega arith))
        (kind left (k + 1) (omega arith))

pub either_so : {A B C D : Type 0} → (A → C) → (B → D) → A ⊎ B → C ⊎ D
either_so f g (inl x) = inl (f x)
either_so f g (inr x) = inr (g x)

joined_alike : (P : Simple → Condition → Type 0) (ps qs : Parts) → PartsAlike P ps qs → (i : ℕ)
    → combinator_at ps i ≡ combinator_at qs i
joined_alike P _ _ no_part i = refl
joined_alike P _ _ (one_part c more) zero = refl
joined_alike P _ _ (one_part c more) (suc i) = joined_alike P _ _ more i

counted_alike : (P : Simple → Condition → Type 0) (ps qs : Parts) → PartsAlike P ps qs
    → part_count ps ≡ part_count qs
counted_alike P _ _ no_part = refl
counted_alike P _ _ (one_part c more) = ap (λ n. n + 1) (counted_alike P _ _ more)

-- the condition is met where the simple selector is, on nodes of a kind
abbrev pub AsksSame : {Node : Type 0} → Document Node → (Node → Type 0) → Simple → Condition
    → Type 0
AsksSame {Node} d Is s e = (n : Node) → Is n → IsMet d (simple s) n ↔ IsMet d e n

-- nodes of a kind are related to such nodes alone
module _ {Node : Type 0} (d : Document Node) (Is : Node → Type 0)
    (stays : (c : Combinator) (a b : Node) → Relates (shape d) c a b → Is b → Is a) where
  placed_alike : (ps qs : Parts) → PartsAlike (AsksSame d Is) ps qs
      → ((i : ℕ) (m : Node) → Is m → MeetsPart d ps i m ↔ MeetsPart d qs i m)
      → (n : Node) → Is n → IsPlaced d ps n ↔ IsPlaced d qs n
  placed_alike ps qs alike meets n is =
      let counted = counted_alike (AsksSame d Is) ps qs alike in
      let joined = joined_alike (AsksSame d Is) ps qs alike in (
        λ h. subst (λ k. HasPlacement (shape d) (combinator_at qs) (MeetsPart d qs) (k - 1) n)
            counted
            (placed_so (shape d) Is stays (combinator_at ps) (combinator_at qs) (MeetsPart d ps)
            (MeetsPart d qs) (part_count ps - 1) n is joined (λ i m at. (meets i m at).0) h),
        λ h. subst (λ k. HasPlacement (shape d) (combinator_at ps) (MeetsPart d ps) (k - 1) n)
            (sym counted)
            (placed_so (shape d) Is stays (combinator_at qs) (combinator_at ps) (MeetsPart d qs)
            (MeetsPart d ps) (part_count qs - 1) n is (λ i. sym (joined i))
            (λ i m at. (meets i m at).1) h),
      )

  mutual
    condition_alike : (c e : Condition) → Alike (AsksSame d Is) c e → (n : Node) → Is n
        → IsMet d c n ↔ IsMet d e n
    condition_alike _ _ (simples same) n is = same n is
    condition_alike _ _ (negations lists) n is =
        let k = list_alike _ _ lists n is in (λ f m. f (k.1 m), λ f m. f (k.0 m))
    condition_alike _ _ (anys lists) n is = list_alike _ _ lists n is
    condition_alike _ _ (wheres lists) n is = list_alike _ _ lists n is
    condition_alike _ _ (tests lists) n is = (λ h. h, λ h. h)

    compound_alike : (c e : Conditions) → CompoundsAlike (AsksSame d Is) c e → (n : Node) → Is n
        → AreMet d c n ↔ AreMet d e n
    compound_alike _ _ no_condition n is = (λ h. h, λ h. h)
    compound_alike _ _ (one_condition first more) n is =
        let k = condition_alike _ _ first n is in
        let l = compound_alike _ _ more n is in
        (λ h. (k.0 h.0, l.0 h.1), λ h. (k.1 h.0, l.1 h.1))

    part_alike : (ps qs : Parts) → PartsAlike (AsksSame d Is) ps qs → (i : ℕ) (n : Node) → Is n
        → MeetsPart d ps i n ↔ MeetsPart d qs i n
    part_alike _ _ no_part i n is = (λ h. h, λ h. h)
    part_alike _ _ (one_part first more) zero n is = compound_alike _ _ first n is
    part_alike _ _ (one_part first more) (suc i) n is = part_alike _ _ more i n is

    list_alike : (a b : Selectors) → ListsAlike (AsksSame d Is) a b → (n : Node) → Is n
        → MatchesAny d a n ↔ MatchesAny d b n
    list_alike _ _ no_selector n is = (λ h. h, λ h. h)
    list_alike _ _ (one_selector first more) n is =
        let k = placed_alike _ _ first (part_alike _ _ first) n is in
        let l = list_alike _ _ more n is in (either_so k.0 l.0, either_so k.1 l.1)

  -- a complex selector is placed where one that is alike is
  pub complex_alike : (ps qs : Parts) → PartsAlike (AsksSame d Is) ps qs → (n : Node) → Is n
      → IsPlaced d ps n ↔ IsPlaced d qs n
  complex_alike ps qs alike n is = placed_alike ps qs alike (part_alike ps qs alike) n is
