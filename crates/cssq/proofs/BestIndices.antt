-- The index of what wins for each name of a list, and the winners of a list that is in the order of
-- the indices.
-- Serves `cascade::winners` (the index of what wins for each name).
use Rattle.std.proofs.Common.{◌≡◌, ℕ, zero, suc, ◌+◌, ◌<◌, ◌≤◌, ◌⊎◌, inl, inr, ◌↔◌, Bool, true, false, cond, List, [], ◌∷◌, ◌++◌, length, get_or, take, Option, None, Some, IfSome, refl, sym, ap, ◌∙◌, subst, arith, length-take}
use Rattle.std.specs.Option.{option_map, option_eq}
use Rattle.std.specs.List.{slice_get, Contains}
use Rattle.std.specs.Prelude.{bytes_eq, nat_eq}
use Rattle.std.specs.Cmp.{unsigned_Decides}
use Rattle.std.specs.Cmp.Lexicographic.{bytes_decides}
use Rattle.std.proofs.lemmas.Bool.{both_ways}
use Rattle.std.proofs.lemmas.Option.{slice_get_within, slice_get-map, slice_get-get_or, get_or_from_slice_get, same_Some}
use Rattle.std.proofs.lemmas.List.{take_more, length-map}
use Rattle.simplecss.specs.Declarations.{StyleDeclaration}
use Rattle.simplecss.specs.DeclarationViews.{declaration_of, declarations_of}
use Rattle.simplecss.specs.declared.Declaration.{Declaration}
use Rattle.cssq.specs.Winners.{DeclarationSet, weight, Beats, WinsAt, HasNone, Indexed, IsEarlier, ListsInOrder, HaveOwnNames}
use Rattle.cssq.specs.Winners.Beats.{by_importance, by_rule, by_index}
use Rattle.cssq.specs.internal.RuleWinners.{InRule, IsBestIndex, DecidesWhether}
use Rattle.cssq.proofs.Cascading.{OneMore, beats_as_later, not_two, in_rule_more, others_stay, first, takes_over, stays}
use Rattle.cssq.proofs.FromLast.{here_or_later, before_or_from}
use Rattle.cssq.proofs.Listing.{indexed_at, slice_get_some, lists_none, lists_more, lists_same}

-- ---- one more declaration after a list

over_at : (v p : StyleDeclaration) (k m : ℕ) → k < m
    → (weight p.important ≡ weight v.important) ⊎ (weight v.important + 1 ≤ weight p.important)
    → Beats p 0 m v 0 k
over_at v p k m lt (inl e) = by_index e refl lt
over_at v p k m lt (inr less) = by_importance (omega (arith, less))

module _ (ps : List StyleDeclaration) (p : StyleDeclaration) (name : List ℕ) where
  none_before : (i j : ℕ) (q : StyleDeclaration) → (p.name ≡ name → ⊥) → HasNone (InRule 0 ps) name
      → q.name ≡ name → InRule 0 ps i j q ⊎ ((i ≡ 0) × (j ≡ length ps) × (q ≡ p)) → ⊥
  none_before i j q not_named none named (inl h) = none i j q h named
  none_before i j q not_named none named (inr h) = not_named (ap (λ x. x.name) (sym h.2) ∙ named)

  best_other : (r : Option ℕ) → (p.name ≡ name → ⊥) → IsBestIndex ps name r
      → IsBestIndex (ps ++ p ∷ []) name r
  best_other None not_named none = λ i j q has named.
      none_before i j q not_named none named ((in_rule_more 0 ps p).either i j q has)
  best_other (Some k) not_named won = (
    won.0,
    others_stay (InRule 0 ps) (InRule 0 (ps ++ p ∷ [])) 0 (length ps) p
        (in_rule_more 0 ps p) name 0 k won.0 not_named won.1,
  )

  best_taken : (r : Option ℕ) → p.name ≡ name → IsBestIndex ps name r → DecidesWhether true ps r p
      → IsBestIndex (ps ++ p ∷ []) name (Some (length ps))
  best_taken None named none reports = (
    p,
    first (InRule 0 ps) (InRule 0 (ps ++ p ∷ [])) 0 (length ps) p
        (in_rule_more 0 ps p) name none named,
  )
  best_taken (Some k) named won reports =
      let at = won.1.stated.1 in (
        p,
        takes_over (InRule 0 ps) (InRule 0 (ps ++ p ∷ [])) 0 (length ps) p
            (in_rule_more 0 ps p) name 0 k won.0 won.1 named
            (over_at won.0 p k (length ps) (slice_get_within ps k won.0 at)
            (here_or_later (weight won.0.important) (weight p.important) (reports won.0 at))),
      )

  best_kept : (r : Option ℕ) → IsBestIndex ps name r → DecidesWhether false ps r p
      → IsBestIndex (ps ++ p ∷ []) name r
  best_kept None none reports = absurd (cc)
  best_kept (Some k) won reports = (
    won.0,
    stays (InRule 0 ps) (InRule 0 (ps ++ p ∷ [])) 0 (length ps) p
        (in_rule_more 0 ps p) name 0 k won.0 won.1 (reports won.0 won.1.stated.1),
  )

slice_get_front : {X : Type 0} (n : ℕ) (xs : List X) (k : ℕ) (x : X)
    → slice_get (take n xs) k ≡ Some x → slice_get xs k ≡ Some x
slice_get_front zero xs k x at = absurd (cc)
slice_get_front (suc n) [] k x at = absurd (cc)
slice_get_front (suc n) (y ∷ ys) zero x at = at
slice_get_front (suc n) (y ∷ ys) (suc k) x at = slice_get_front n ys k x at

reports_front : (b : Bool) (n : ℕ) (ps : List StyleDeclaration) (r : Option ℕ)
    (p : StyleDeclaration) → DecidesWhether b ps r p → DecidesWhether b (take n ps) r p
reports_front b n ps None p reports = reports
reports_front true n ps (Some k) p reports = λ q at. reports q (slice_get_front n ps k q at)
reports_front false n ps (Some k) p reports = λ q at. reports q (slice_get_front n ps k q at)

-- a known index is within the list
pub best_within : (n : ℕ) (ps : List StyleDeclaration) (name : List ℕ) (r : Option ℕ)
    → IsBestIndex (take n ps) name r → IfSome r (λ k. k < length ps)
best_within n ps name None none = tt
best_within n ps name (Some k) won =
    slice_get_within ps k won.0 (slice_get_front n ps k won.0 won.1.stated.1)

module _ (ps : List StyleDeclaration) (m : ℕ) (p : StyleDeclaration) (at : slice_get ps m ≡ Some p)
    (index : List ℕ → Option ℕ)
    (so_far : (name : List ℕ) → IsBestIndex (take m ps) name (index name)) where
  front_next : take m ps ++ p ∷ [] ≡ take (m + 1) ps
  front_next = ap (λ x. take m ps ++ x ∷ []) (sym (get_or_from_slice_get ps m p p at))
      ∙ sym (take_more ps m p (slice_get_within ps m p at))

  front_long : length (take m ps) ≡ m
  front_long = let within = slice_get_within ps m p at in omega (arith, length-take m ps, within)

  named_or_not : (name : List ℕ) (b : Bool) → bytes_eq p.name name ≡ b
      → DecidesWhether true ps (index p.name) p
      → IsBestIndex (take m ps ++ p ∷ []) name (cond b (Some m) (index name))
  named_or_not name true e reports =
      let named : p.name ≡ name = (bytes_decides p.name name).0 e in
      subst (λ k. IsBestIndex (take m ps ++ p ∷ []) name (Some k)) front_long
      (best_taken (take m ps) p name (index p.name) named
      (subst (λ x. IsBestIndex (take m ps) x (index p.name)) named (so_far p.name))
      (reports_front true m ps (index p.name) p reports))
  named_or_not name false e reports = best_other (take m ps) p name (index name)
      (λ named. both_ways _ e ((bytes_decides p.name name).1 named)) (so_far name)

  -- the declaration takes over
  pub indices_taken : DecidesWhether true ps (index p.name) p → (name : List ℕ)
      → IsBestIndex (take (m + 1) ps) name (cond (bytes_eq p.name name) (Some m) (index name))
  indices_taken reports name =
      subst (λ l. IsBestIndex l name (cond (bytes_eq p.name name) (Some m) (index name))) front_next
      (named_or_not name (bytes_eq p.name name) refl reports)

  kept_or_not : (name : List ℕ) (b : Bool) → bytes_eq p.name name ≡ b
      → DecidesWhether false ps (index p.name) p
      → IsBestIndex (take m ps ++ p ∷ []) name (index name)
  kept_or_not name true e reports =
      let named : p.name ≡ name = (bytes_decides p.name name).0 e in
      best_kept (take m ps) p name (index name) (so_far name) (reports_front false m ps
      (index name) p (subst (λ x. DecidesWhether false ps (index x) p) named reports))
  kept_or_not name false e reports = best_other (take m ps) p name (index name)
      (λ named. both_ways _ e ((bytes_decides p.name name).1 named)) (so_far name)

  -- the declaration does not
  pub indices_kept : DecidesWhether false ps (index p.name) p → (name : List ℕ)
      → IsBestIndex (take (m + 1) ps) name (index name)
  indices_kept reports name = subst (λ l. IsBestIndex l name (index name)) front_next
      (kept_or_not name (bytes_eq p.name name) refl reports)

-- ---- indices in a list that is in the order of the indices

earlier_not_back : {i j k l : ℕ} → IsEarlier i k j l → IsEarlier j l i k → ⊥
earlier_not_back (inl a) (inl b) = omega (arith, a, b)
earlier_not_back (inl a) (inr b) = omega (arith, a, b.0)
earlier_not_back (inr a) (inl b) = omega (arith, a.0, b)
earlier_not_back (inr a) (inr b) = omega (arith, a.1, b.1)

one_index_by : (ps : List StyleDeclaration) (name : List ℕ) (k l : ℕ) (p q : StyleDeclaration)
    → WinsAt (InRule 0 ps) name 0 k p → WinsAt (InRule 0 ps) name 0 l q
    → (k < l) ⊎ ((l ≡ k) ⊎ (l + 1 ≤ k)) → k ≡ l
one_index_by ps name k l p q won other (inl lt) =
    absurd (not_two (InRule 0 ps) name 0 k 0 l p q (inr (refl, lt)) won other)
one_index_by ps name k l p q won other (inr (inl e)) = sym e
one_index_by ps name k l p q won other (inr (inr lt)) =
    absurd (not_two (InRule 0 ps) name 0 l 0 k q p (inr (refl, omega (arith, lt))) other won)

any_order : (k l : ℕ) → (k < l) ⊎ ((l ≡ k) ⊎ (l + 1 ≤ k))
any_order k l = elim (before_or_from l k) [
  | inl lt ↦ inl lt
  | inr le ↦ inr (elim (here_or_later l k le) [ inl e ↦ inl (sym e) | inr lt ↦ inr lt ])
]

moved : {has : DeclarationSet} (i j : ℕ) (q : StyleDeclaration) (k l : ℕ) (p : StyleDeclaration)
    → i ≡ k → j ≡ l → q ≡ p → WinsAt has q.name i j q → WinsAt has p.name k l p
moved {has} i j q k l p e f g won = subst (λ x. WinsAt has x.name k l x) g
    (subst (λ m. WinsAt has q.name k m q) f (subst (λ m. WinsAt has q.name m j q) e won))

-- one index wins
one_index : (ps : List StyleDeclaration) (name : List ℕ) (k l : ℕ) (p q : StyleDeclaration)
    → WinsAt (InRule 0 ps) name 0 k p → WinsAt (InRule 0 ps) name 0 l q → k ≡ l
one_index ps name k l p q won other = one_index_by ps name k l p q won other (any_order k l)

module _ (has : DeclarationSet) (ps : List StyleDeclaration) (lists : ListsInOrder has ps) where
  at_index : (k : ℕ) (a : Indexed) → slice_get lists.indexed k ≡ Some a
      → slice_get ps k ≡ Some a.declaration
  at_index k a at =
      ap (λ l. slice_get l k) (sym lists.are) ∙ slice_get-map (λ x. x.declaration) lists.indexed k
      ∙ ap (option_map (λ (x : Indexed). x.declaration)) at

  long : length lists.indexed ≡ length ps
  long = sym (length-map lists.indexed (λ x. x.declaration)) ∙ ap length lists.are

  -- where a declaration is
  pub indexed_of : (l : ℕ) (q : StyleDeclaration) → slice_get ps l ≡ Some q
      → (b : Indexed) × (slice_get lists.indexed l ≡ Some b) × (b.declaration ≡ q)
  indexed_of l q at =
      let within = slice_get_within ps l q at in
      let found = slice_get_some lists.indexed l (omega (arith, within, long)) in
      (found.0, found.1, same_Some found.0.declaration q (sym (at_index l found.0 found.1) ∙ at))

  later_by : (k l : ℕ) (a b : Indexed) → slice_get lists.indexed k ≡ Some a
      → slice_get lists.indexed l ≡ Some b → IsEarlier a.rule a.index b.rule b.index
      → (k < l) ⊎ ((l ≡ k) ⊎ (l + 1 ≤ k)) → k < l
  later_by k l a b at_k at_l early (inl lt) = lt
  later_by k l a b at_k at_l early (inr (inl e)) =
      let same : b ≡ a = same_Some b a (sym at_l ∙ ap (slice_get lists.indexed) e ∙ at_k) in
      absurd (earlier_not_back early (subst (λ x. IsEarlier x.rule x.index a.rule a.index)
      (sym same) (subst (λ x. IsEarlier a.rule a.index x.rule x.index) same early)))
  later_by k l a b at_k at_l early (inr (inr lt)) =
      absurd (earlier_not_back early (lists.rise l k b a (omega (arith, lt)) at_l at_k))

  later_index : (k l : ℕ) (a b : Indexed) → slice_get lists.indexed k ≡ Some a
      → slice_get lists.indexed l ≡ Some b → IsEarlier a.rule a.index b.rule b.index → k < l
  later_index k l a b at_k at_l early = later_by k l a b at_k at_l early (any_order k l)

  beats_index : (k l : ℕ) (a b : Indexed) → slice_get lists.indexed k ≡ Some a
      → slice_get lists.indexed l ≡ Some b
      → Beats b.declaration b.rule b.index a.declaration a.rule a.index
      → Beats b.declaration 0 l a.declaration 0 k
  beats_index k l a b at_k at_l (by_importance h) = by_importance h
  beats_index k l a b at_k at_l (by_rule e lt) =
      by_index e refl (later_index k l a b at_k at_l (inl lt))
  beats_index k l a b at_k at_l (by_index e same lt) =
      by_index e refl (later_index k l a b at_k at_l (inr (same, lt)))

  index_beats : (k l : ℕ) (a b : Indexed) → slice_get lists.indexed k ≡ Some a
      → slice_get lists.indexed l ≡ Some b → Beats b.declaration 0 l a.declaration 0 k
      → Beats b.declaration b.rule b.index a.declaration a.rule a.index
  index_beats k l a b at_k at_l (by_importance h) = by_importance h
  index_beats k l a b at_k at_l (by_rule e lt) = absurd (omega (arith, lt))
  index_beats k l a b at_k at_l (by_index e same lt) =
      beats_as_later e (lists.rise k l a b lt at_k at_l)

  -- what wins in the list wins at its index
  wins_stated : (name : List ℕ) (k : ℕ) (a : Indexed) → slice_get lists.indexed k ≡ Some a
      → WinsAt (InRule 0 ps) name 0 k a.declaration → WinsAt has name a.rule a.index a.declaration
  wins_stated name k a at won = record {
    stated = lists.member k a at;
    named = won.named;
    unbeaten = λ i j q st named beats.
        let found = lists.all i j q st in
        won.unbeaten 0 found.0 q (refl, at_index found.0 (indexed_at i j q) found.1) named
        (beats_index k found.0 a (indexed_at i j q) at found.1 beats);
  }

  index_unbeaten : (name : List ℕ) (k : ℕ) (a : Indexed) → slice_get lists.indexed k ≡ Some a
      → WinsAt has name a.rule a.index a.declaration → (i l : ℕ) (q : StyleDeclaration) → i ≡ 0
      → q.name ≡ name → Beats q i l a.declaration 0 k
      → (b : Indexed) × (slice_get lists.indexed l ≡ Some b) × (b.declaration ≡ q) → ⊥
  index_unbeaten name k a at won i l q e named beats found =
      let b = found.0 in
      let there : Beats b.declaration 0 l a.declaration 0 k =
      subst (λ x. Beats x 0 l a.declaration 0 k) (sym found.2)
      (subst (λ m. Beats q m l a.declaration 0 k) e beats) in
      won.unbeaten b.rule b.index b.declaration (lists.member l b found.1)
      (ap (λ x. x.name) found.2 ∙ named) (index_beats k l a b at found.1 there)

  -- what wins at its index wins in the list
  wins_index : (name : List ℕ) (k : ℕ) (a : Indexed) → slice_get lists.indexed k ≡ Some a
      → WinsAt has name a.rule a.index a.declaration → WinsAt (InRule 0 ps) name 0 k a.declaration
  wins_index name k a at won = record {
    stated = (refl, at_index k a at);
    named = won.named;
    unbeaten = λ i l q st named beats.
        index_unbeaten name k a at won i l q st.0 named beats (indexed_of l q st.1);
  }

  -- what is before an index of the list, and wins for its name
  abbrev pub Kept : ℕ → DeclarationSet
  Kept m i j p = WinsAt has p.name i j p
      × ((k : ℕ) × (k < m) × (slice_get lists.indexed k ≡ Some (indexed_at i j p)))

  module _ (m : ℕ) (a : Indexed) (at : slice_get lists.indexed m ≡ Some a) where
    kept_either_at : (i j : ℕ) (q : StyleDeclaration) → WinsAt has q.name i j q → (k : ℕ)
        → k < m + 1 → slice_get lists.indexed k ≡ Some (indexed_at i j q) → (k < m) ⊎ (m ≤ k)
        → Kept m i j q ⊎ ((i ≡ a.rule) × (j ≡ a.index) × (q ≡ a.declaration))
    kept_either_at i j q won k within there (inl lt) = inl (won, (k, lt, there))
    kept_either_at i j q won k within there (inr le) =
        let e : k ≡ m = omega (arith, within, le) in
        let same : indexed_at i j q ≡ a =
        same_Some (indexed_at i j q) a (sym there ∙ ap (slice_get lists.indexed) e ∙ at) in
        inr (ap (λ x. x.rule) same, ap (λ x. x.index) same, ap (λ x. x.declaration) same)

    kept_more : WinsAt has a.declaration.name a.rule a.index a.declaration
        → OneMore (Kept m) (Kept (m + 1)) a.rule a.index a.declaration
    kept_more won = record {
      kept = λ i j q h. (h.0, (h.1.0, (let lt = h.1.1 in omega (arith, lt)), h.1.2));
      new = (won, (m, (let lt : m < m + 1 = omega arith in lt), at));
      either = λ i j q h. kept_either_at i j q h.0 h.1.0 h.1.1 h.1.2 (before_or_from m h.1.0);
      later = λ i j q h. lists.rise h.1.0 m (indexed_at i j q) a h.1.1 h.1.2 at;
    }

    kept_not_at : (i j : ℕ) (q : StyleDeclaration)
        → (WinsAt has a.declaration.name a.rule a.index a.declaration → ⊥) → WinsAt has q.name i j q
        → Kept m i j q ⊎ ((i ≡ a.rule) × (j ≡ a.index) × (q ≡ a.declaration)) → Kept m i j q
    kept_not_at i j q not_won won (inl h) = h
    kept_not_at i j q not_won won (inr e) =
        absurd (not_won (moved i j q a.rule a.index a.declaration e.0 e.1 e.2 won))

    module _ (index : List ℕ → Option ℕ) (best : (name : List ℕ) → IsBestIndex ps name (index name))
        {qs : List StyleDeclaration} (so_far : ListsInOrder (Kept m) qs) where
      won_here : (r : Option ℕ) → r ≡ Some m → IsBestIndex ps a.declaration.name r
          → WinsAt has a.declaration.name a.rule a.index a.declaration
      won_here None e won = absurd (cc)
      won_here (Some k) e won =
          let same : k ≡ m = same_Some k m e in
          let is : won.0 ≡ a.declaration = same_Some won.0 a.declaration
          (sym won.1.stated.1 ∙ ap (slice_get ps) same ∙ at_index m a at) in
          wins_stated a.declaration.name m a at
          (subst (λ n. WinsAt (InRule 0 ps) a.declaration.name 0 n a.declaration) same
          (subst (λ x. WinsAt (InRule 0 ps) a.declaration.name 0 k x) is won.1))

      -- the index is the best for its name: the declaration is kept
      pub winners_more : index a.declaration.name ≡ Some m
          → ListsInOrder (Kept (m + 1)) (qs ++ a.declaration ∷ [])
      winners_more e = lists_more
          (kept_more (won_here (index a.declaration.name) e (best a.declaration.name))) so_far

      best_here : (r : Option ℕ) → IsBestIndex ps a.declaration.name r
          → WinsAt has a.declaration.name a.rule a.index a.declaration → r ≡ Some m
      best_here None none won = absurd (none 0 m a.declaration (refl, at_index m a at) refl)
      best_here (Some k) found won = ap Some (one_index ps a.declaration.name k m found.0
          a.declaration found.1 (wins_index a.declaration.name m a at won))

      -- the index is not: nothing is
      pub winners_skip : (index a.declaration.name ≡ Some m → ⊥) → ListsInOrder (Kept (m + 1)) qs
      winners_skip not_best =
          lists_same (λ i j q h. (h.0, (h.1.0, (let lt = h.1.1 in omega (arith, lt)), h.1.2)))
          (λ i j q h. kept_not_at i j q
          (λ won. not_best (best_here (index a.declaration.name) (best a.declaration.name) won)) h.0
          (kept_either_at i j q h.0 h.1.0 h.1.1 h.1.2 (before_or_from m h.1.0))) so_far

  -- none at first
  pub winners_none : ListsInOrder (Kept 0) []
  winners_none = lists_none (λ i j p h. let lt = h.1.1 in omega (arith, lt))

  pub winners_all : (m : ℕ) {qs : List StyleDeclaration} → length ps ≤ m → ListsInOrder (Kept m) qs
      → ListsInOrder (λ i j p. WinsAt has p.name i j p) qs
  winners_all m all so_far =
      lists_same (λ i j q h. h.0)
      (λ i j q won. let found = lists.all i j q won.stated in
      let within = slice_get_within lists.indexed found.0 (indexed_at i j q) found.1 in
      (won, (found.0, omega (arith, within, long, all), found.1))) so_far

-- ---- what a list of winners has

module _ (has : DeclarationSet) (ps : List StyleDeclaration)
    (lists : ListsInOrder (λ i j p. WinsAt has p.name i j p) ps) where
  pub own_names : HaveOwnNames ps
  own_names k l p q lt at_k at_l same =
      let a = indexed_of (λ i j x. WinsAt has x.name i j x) ps lists k p at_k in
      let b = indexed_of (λ i j x. WinsAt has x.name i j x) ps lists l q at_l in
      let names : b.0.declaration.name ≡ a.0.declaration.name =
      ap (λ x. x.name) b.2 ∙ sym same ∙ ap (λ x. x.name) (sym a.2) in
      not_two has a.0.declaration.name a.0.rule a.0.index b.0.rule b.0.index a.0.declaration
      b.0.declaration (lists.rise k l a.0 b.0 lt a.1 b.1) (lists.member k a.0 a.1)
      (subst (λ x. WinsAt has x b.0.rule b.0.index b.0.declaration) names (lists.member l b.0 b.1))

  wins_for_name : (p : StyleDeclaration) (k : ℕ) → slice_get ps k ≡ Some p
      → (i : ℕ) × (j : ℕ) × WinsAt has p.name i j p
  wins_for_name p k at =
      let a = indexed_of (λ i j x. WinsAt has x.name i j x) ps lists k p at in (
        a.0.rule,
        a.0.index,
        subst (λ x. WinsAt has x.name a.0.rule a.0.index x) a.2 (lists.member k a.0 a.1),
      )

  has_in : (p : StyleDeclaration) (i j : ℕ) → WinsAt has p.name i j p
      → (k : ℕ) × (slice_get ps k ≡ Some p)
  has_in p i j won =
      let found = lists.all i j p won in (
        found.0,
        at_index (λ i j x. WinsAt has x.name i j x) ps lists found.0 (indexed_at i j p) found.1,
      )

  pub has_winners : (p : StyleDeclaration)
      → Contains ps p ↔ ((i : ℕ) × (j : ℕ) × WinsAt has p.name i j p)
  has_winners p = (
    (λ has. wins_for_name p has.0 (slice_get-get_or ps has.0 p has.1 ∙ ap Some has.2)),
    (λ won. let found = has_in p won.0 won.1 won.2 in (
      found.0,
      slice_get_within ps found.0 p found.1,
      get_or_from_slice_get ps found.0 p p found.1,
    )),
  )

-- ---- a test of an index

pub same_index : (r : Option ℕ) (k : ℕ) → option_eq nat_eq r (Some k) ≡ true → r ≡ Some k
same_index None k e = absurd (cc)
same_index (Some m) k e = ap Some ((unsigned_Decides m k).0 e)

pub other_index : (r : Option ℕ) (k : ℕ) → option_eq nat_eq r (Some k) ≡ false → r ≡ Some k → ⊥
other_index None k e is = absurd (cc)
other_index (Some m) k e is = both_ways _ e ((unsigned_Decides m k).1 (same_Some m k is))

-- ---- reads of a list of declarations

-- what a read past the end would return
abbrev pub nothing : Declaration
nothing = record {
  name = record { ref_ptr = (0, 0); now = [] };
  value = record { ref_ptr = (0, 0); now = [] };
  important = false;
}

-- the declaration of an index is there
pub has_at : (ds : List Declaration) (k : ℕ) → k < length ds
    → slice_get (declarations_of ds) k ≡ Some (declaration_of (get_or ds k nothing))
has_at ds k lt = slice_get-map declaration_of ds k
    ∙ ap (option_map declaration_of) (slice_get-get_or ds k nothing lt)
