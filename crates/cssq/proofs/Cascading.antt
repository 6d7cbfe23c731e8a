-- The order of declarations, and what wins as more of them are looked at.
-- Serves `cascade::{winning, winners}`.
use Rattle.std.proofs.Common.{◌≡◌, ℕ, zero, suc, ◌+◌, ◌<◌, ◌≤◌, ◌⊎◌, inl, inr, Bool, true, false, not, ◌&&◌, List, [], ◌∷◌, ◌++◌, length, get_or, take, Option, None, Some, refl, sym, ap, ◌∙◌, subst, arith}
use Rattle.std.specs.Prelude.{if◌then◌else◌}
use Rattle.std.specs.List.{slice_get}
use Rattle.std.proofs.lemmas.Option.{slice_get_within, same_Some}
use Rattle.std.proofs.lemmas.List.{take_more, take_all, length-map, get_or-map}
use Rattle.simplecss.specs.Declarations.{StyleDeclaration}
use Rattle.simplecss.specs.DeclarationViews.{declaration_of, declarations_of}
use Rattle.simplecss.specs.declared.Declaration.{Declaration}
use Rattle.cssq.specs.Winners.{DeclarationSet, weight, Beats, WinsAt, HasNone, Wins, IsEarlier}
use Rattle.cssq.specs.internal.RuleWinners.{InRule, better_of}
use Rattle.cssq.specs.Winners.Beats.{by_importance, by_rule, by_index}

-- ---- the order

pub weight_small : (b : Bool) → weight b ≤ 1
weight_small true = omega arith
weight_small false = omega arith

-- what beats is no lighter
pub beats_weight : {x y : StyleDeclaration} {i j k l : ℕ} → Beats x i j y k l
    → weight y.important ≤ weight x.important
beats_weight (by_importance a) = omega (arith, a)
beats_weight (by_rule a b) = omega (arith, a)
beats_weight (by_index a b d) = omega (arith, a)

-- one of an earlier rule beats only by importance
pub beats_earlier : {x y : StyleDeclaration} {i j k l : ℕ} → Beats x i j y k l → i < k
    → weight y.important < weight x.important
beats_earlier (by_importance a) h = a
beats_earlier (by_rule a b) h = absurd (omega (arith, b, h))
beats_earlier (by_index a b d) h = absurd (omega (arith, b, h))

pub beats_same : {x y : StyleDeclaration} {i j k l : ℕ} → i ≡ k → j ≡ l → x ≡ y → Beats x i j y k l
    → ⊥
beats_same e f g (by_importance a) =
    let same = ap (λ p. weight p.important) g in
    omega (arith, a, same)
beats_same e f g (by_rule a b) = omega (arith, e, b)
beats_same e f g (by_index a b d) = omega (arith, f, d)

beats_trans : {x y z : StyleDeclaration} {i j k l m n : ℕ} → Beats x i j y k l → Beats y k l z m n
    → Beats x i j z m n
beats_trans (by_importance a) (by_importance f) = by_importance (omega (arith, a, f))
beats_trans (by_importance a) (by_rule f g) = by_importance (omega (arith, a, f))
beats_trans (by_importance a) (by_index f g h) = by_importance (omega (arith, a, f))
beats_trans (by_rule a b) (by_importance f) = by_importance (omega (arith, a, f))
beats_trans (by_rule a b) (by_rule f g) = by_rule (a ∙ f) (omega (arith, b, g))
beats_trans (by_rule a b) (by_index f g h) = by_rule (a ∙ f) (omega (arith, b, g))
beats_trans (by_index a b d) (by_importance f) = by_importance (omega (arith, a, f))
beats_trans (by_index a b d) (by_rule f g) = by_rule (a ∙ f) (omega (arith, b, g))
beats_trans (by_index a b d) (by_index f g h) = by_index (a ∙ f) (g ∙ b) (omega (arith, d, h))

pub beats_as_later : {x y : StyleDeclaration} {i j k l : ℕ}
    → weight x.important ≡ weight y.important → IsEarlier k l i j → Beats x i j y k l
beats_as_later e (inl lt) = by_rule e lt
beats_as_later e (inr h) = by_index e h.0 h.1

not_two_by : (has : DeclarationSet) (name : List ℕ) (i k j l : ℕ) (p q : StyleDeclaration)
    → IsEarlier i k j l → WinsAt has name i k p → WinsAt has name j l q
    → (q.important ≡ p.important)
    ⊎ ((weight p.important < weight q.important) ⊎ (weight q.important < weight p.important)) → ⊥
not_two_by has name i k j l p q lt won other (inl e) =
    won.unbeaten j l q other.stated other.named (beats_as_later (ap weight e) lt)
not_two_by has name i k j l p q lt won other (inr (inl less)) =
    won.unbeaten j l q other.stated other.named (by_importance less)
not_two_by has name i k j l p q lt won other (inr (inr less)) =
    other.unbeaten i k p won.stated won.named (by_importance less)

weights : (b d : Bool) → (b ≡ d) ⊎ ((weight d < weight b) ⊎ (weight b < weight d))
weights true true = inl refl
weights true false = inr (inl (omega arith))
weights false true = inr (inr (omega arith))
weights false false = inl refl

-- no two indices win
pub not_two : (has : DeclarationSet) (name : List ℕ) (i k j l : ℕ) (p q : StyleDeclaration)
    → IsEarlier i k j l → WinsAt has name i k p → WinsAt has name j l q → ⊥
not_two has name i k j l p q lt won other =
    not_two_by has name i k j l p q lt won other (weights q.important p.important)

-- ---- one more after all others

-- what is stated, and one more after all of it
pub record OneMore (before after : DeclarationSet) (i j : ℕ) (p : StyleDeclaration) : Type 0 where
  pub kept : (k l : ℕ) (q : StyleDeclaration) → before k l q → after k l q
  pub new : after i j p
  pub either : (k l : ℕ) (q : StyleDeclaration) → after k l q
      → before k l q ⊎ ((k ≡ i) × (l ≡ j) × (q ≡ p))
  pub later : (k l : ℕ) (q : StyleDeclaration) → before k l q → IsEarlier k l i j

module _ (before after : DeclarationSet) (i j : ℕ) (p : StyleDeclaration)
    (more : OneMore before after i j p) (name : List ℕ) where
  other_at : (k l : ℕ) (q : StyleDeclaration) → (p.name ≡ name → ⊥) → q.name ≡ name
      → before k l q ⊎ ((k ≡ i) × (l ≡ j) × (q ≡ p)) → before k l q
  other_at k l q not_named named (inl h) = h
  other_at k l q not_named named (inr h) = absurd (not_named (ap (λ x. x.name) (sym h.2) ∙ named))

  pub others_stay : (m n : ℕ) (v : StyleDeclaration) → (p.name ≡ name → ⊥)
      → WinsAt before name m n v → WinsAt after name m n v
  others_stay m n v not_named won = record {
    stated = more.kept m n v won.stated;
    named = won.named;
    unbeaten = λ k l q has named.
        won.unbeaten k l q (other_at k l q not_named named (more.either k l q has)) named;
  }

  -- one of another name changes nothing
  pub more_other : (w : Option StyleDeclaration) → (p.name ≡ name → ⊥) → Wins before name w
      → Wins after name w
  more_other None not_named none =
      λ k l q has named. none k l q (other_at k l q not_named named (more.either k l q has)) named
  more_other (Some v) not_named won = (won.0, won.1, others_stay won.0 won.1 v not_named won.2)

  first_unbeaten : (k l : ℕ) (q : StyleDeclaration) → HasNone before name → q.name ≡ name
      → Beats q k l p i j → before k l q ⊎ ((k ≡ i) × (l ≡ j) × (q ≡ p)) → ⊥
  first_unbeaten k l q none named beats (inl h) = none k l q h named
  first_unbeaten k l q none named beats (inr h) = beats_same h.0 h.1 h.2 beats

  pub first : HasNone before name → p.name ≡ name → WinsAt after name i j p
  first none named = record {
    stated = more.new;
    named = named;
    unbeaten = λ k l q has same beats. first_unbeaten k l q none same beats (more.either k l q has);
  }

  module _ (m n : ℕ) (v : StyleDeclaration) (won : WinsAt before name m n v) where
    taken_unbeaten : (k l : ℕ) (q : StyleDeclaration) → Beats p i j v m n → q.name ≡ name
        → Beats q k l p i j → before k l q ⊎ ((k ≡ i) × (l ≡ j) × (q ≡ p)) → ⊥
    taken_unbeaten k l q over named beats (inl h) =
        won.unbeaten k l q h named (beats_trans beats over)
    taken_unbeaten k l q over named beats (inr h) = beats_same h.0 h.1 h.2 beats

    pub takes_over : p.name ≡ name → Beats p i j v m n → WinsAt after name i j p
    takes_over named over = record {
      stated = more.new;
      named = named;
      unbeaten =
          λ k l q has same beats. taken_unbeaten k l q over same beats (more.either k l q has);
    }

    kept_unbeaten : (k l : ℕ) (q : StyleDeclaration) → weight p.important < weight v.important
        → q.name ≡ name → Beats q k l v m n → before k l q ⊎ ((k ≡ i) × (l ≡ j) × (q ≡ p)) → ⊥
    kept_unbeaten k l q lighter named beats (inl h) = won.unbeaten k l q h named beats
    kept_unbeaten k l q lighter named beats (inr h) =
        let same = ap (λ x. weight x.important) h.2 in
        let heavy = beats_weight beats in
        omega (arith, same, heavy, lighter)

    pub stays : weight p.important < weight v.important → WinsAt after name m n v
    stays lighter = record {
      stated = more.kept m n v won.stated;
      named = won.named;
      unbeaten =
          λ k l q has same beats. kept_unbeaten k l q lighter same beats (more.either k l q has);
    }

    better_at : (a b : Bool) → v.important ≡ a → p.important ≡ b → p.name ≡ name
        → Wins after name (Some (if a && not b then v else p))
    better_at true true e f named = (
      i,
      j,
      takes_over named
          (beats_as_later (ap weight f ∙ sym (ap weight e)) (more.later m n v won.stated)),
    )
    better_at true false e f named = (m, n, stays (omega (arith, ap weight e, ap weight f)))
    better_at false true e f named =
        (i, j, takes_over named (by_importance (omega (arith, ap weight e, ap weight f))))
    better_at false false e f named = (
      i,
      j,
      takes_over named
          (beats_as_later (ap weight f ∙ sym (ap weight e)) (more.later m n v won.stated)),
    )

  -- of one of the name the better is kept
  pub more_better : (w : Option StyleDeclaration) → p.name ≡ name → Wins before name w
      → Wins after name (Some (better_of w p))
  more_better None named none = (i, j, first none named)
  more_better (Some v) named won =
      better_at won.0 won.1 v won.2 v.important p.important refl refl named

-- ---- the declarations of one rule

pub slice_get_push : {X : Type 0} (xs : List X) (x : X) (l : ℕ) (q : X)
    → slice_get (xs ++ x ∷ []) l ≡ Some q → (slice_get xs l ≡ Some q) ⊎ ((l ≡ length xs) × (q ≡ x))
slice_get_push [] x zero q e = inr (refl, sym (same_Some x q e))
slice_get_push [] x (suc l) q e = absurd (cc)
slice_get_push (y ∷ ys) x zero q e = inl e
slice_get_push (y ∷ ys) x (suc l) q e =
    elim (slice_get_push ys x l q e) [ inl h ↦ inl h | inr h ↦ inr (ap suc h.0, h.1) ]

pub slice_get_kept : {X : Type 0} (xs : List X) (x : X) (l : ℕ) (q : X) → slice_get xs l ≡ Some q
    → slice_get (xs ++ x ∷ []) l ≡ Some q
slice_get_kept [] x l q e = absurd (cc)
slice_get_kept (y ∷ ys) x zero q e = e
slice_get_kept (y ∷ ys) x (suc l) q e = slice_get_kept ys x l q e

pub slice_get_last : {X : Type 0} (xs : List X) (x : X)
    → slice_get (xs ++ x ∷ []) (length xs) ≡ Some x
slice_get_last [] x = refl
slice_get_last (y ∷ ys) x = slice_get_last ys x

in_rule_either : (i : ℕ) (ps : List StyleDeclaration) (p : StyleDeclaration) (k l : ℕ)
    (q : StyleDeclaration) → k ≡ i → (slice_get ps l ≡ Some q) ⊎ ((l ≡ length ps) × (q ≡ p))
    → InRule i ps k l q ⊎ ((k ≡ i) × (l ≡ length ps) × (q ≡ p))
in_rule_either i ps p k l q e (inl h) = inl (e, h)
in_rule_either i ps p k l q e (inr h) = inr (e, h.0, h.1)

pub in_rule_more : (i : ℕ) (ps : List StyleDeclaration) (p : StyleDeclaration)
    → OneMore (InRule i ps) (InRule i (ps ++ p ∷ [])) i (length ps) p
in_rule_more i ps p = record {
  kept = λ k l q h. (h.0, slice_get_kept ps p l q h.1);
  new = (refl, slice_get_last ps p);
  either = λ k l q h. in_rule_either i ps p k l q h.0 (slice_get_push ps p l q h.1);
  later = λ k l q h. inr (h.0, slice_get_within ps l q h.1);
}

module _ (ds : List Declaration) (k : ℕ) (d : Declaration) (lt : k < length ds) (name : List ℕ)
    (w : Option StyleDeclaration)
    (so_far : (i : ℕ) → Wins (InRule i (take k (declarations_of ds))) name w) (i : ℕ) where
  front_more : take (k + 1) (declarations_of ds)
      ≡ take k (declarations_of ds) ++ declaration_of (get_or ds k d) ∷ []
  front_more =
      take_more (declarations_of ds) k (declaration_of (get_or ds k d))
      (subst (λ m. k < m) (sym (length-map ds declaration_of)) lt)
      ∙ ap (λ r. take k (declarations_of ds) ++ r ∷ [])
      (get_or-map declaration_of ds k d (declaration_of (get_or ds k d)) lt)

  -- one more declaration of the name
  pub best_named : (get_or ds k d).name.now ≡ name
      → Wins (InRule i (take (k + 1) (declarations_of ds))) name
      (Some (better_of w (declaration_of (get_or ds k d))))
  best_named named =
      subst (λ ps. Wins (InRule i ps) name (Some (better_of w (declaration_of (get_or ds k d)))))
      (sym front_more)
      (more_better _ _ i _ (declaration_of (get_or ds k d)) (in_rule_more i
      (take k (declarations_of ds)) (declaration_of (get_or ds k d))) name w named (so_far i))

  -- one more declaration of another name
  pub best_other : ((get_or ds k d).name.now ≡ name → ⊥)
      → Wins (InRule i (take (k + 1) (declarations_of ds))) name w
  best_other not_named =
      subst (λ ps. Wins (InRule i ps) name w) (sym front_more)
      (more_other _ _ i _ (declaration_of (get_or ds k d)) (in_rule_more i
      (take k (declarations_of ds)) (declaration_of (get_or ds k d))) name w not_named (so_far i))

pub best_all : (ds : List Declaration) (k : ℕ) (name : List ℕ) (w : Option StyleDeclaration)
    → length ds ≤ k → ((i : ℕ) → Wins (InRule i (take k (declarations_of ds))) name w) → (i : ℕ)
    → Wins (InRule i (declarations_of ds)) name w
best_all ds k name w all so_far i = subst (λ ps. Wins (InRule i ps) name w) (take_all k
    (declarations_of ds) (subst (λ m. m ≤ k) (sym (length-map ds declaration_of)) all)) (so_far i)
