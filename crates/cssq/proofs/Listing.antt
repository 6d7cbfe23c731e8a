-- Lists of what rules state, in the order of the indices.
-- Serves `cascade::winners` (in the order of their indices).
use Rattle.std.proofs.Common.{◌≡◌, ℕ, zero, suc, ◌+◌, ◌<◌, ◌≤◌, ◌⊎◌, inl, inr, List, [], ◌∷◌, ◌++◌, length, take, Some, refl, sym, ap, ◌∙◌, subst, append_assoc, append-nil, arith}
use Rattle.std.specs.List.{slice_get}
use Rattle.std.proofs.lemmas.Option.{slice_get_within, get_or_from_slice_get, same_Some}
use Rattle.std.proofs.lemmas.List.{take_more, take_all, map-append}
use Rattle.simplecss.specs.Declarations.{StyleDeclaration}
use Rattle.simplecss.specs.Statements.{StyleRule}
use Rattle.simplecss.specs.Trees.{Tree}
use Rattle.simplecss.specs.Placements.{HasPlacement}
use Rattle.cssq.specs.Winners.{DeclarationSet, IsStated, Indexed, IsEarlier, ListsInOrder}
use Rattle.cssq.proofs.Cascading.{OneMore, slice_get_push, slice_get_kept, slice_get_last}
use Rattle.cssq.proofs.FromLast.{before_or_from, stated_takes, stated_here}

abbrev pub indexed_at : ℕ → ℕ → StyleDeclaration → Indexed
indexed_at i j p = record { rule = i; index = j; declaration = p }

-- where nothing is stated, there is nothing to list
pub lists_none : {has : DeclarationSet} → ((i j : ℕ) (p : StyleDeclaration) → has i j p → ⊥)
    → ListsInOrder has []
lists_none none = record {
  indexed = [];
  are = refl;
  member = λ k a at. absurd (cc);
  rise = λ k l a b lt at_k at_l. absurd (cc);
  all = λ i j p h. absurd (none i j p h);
}

-- where the same is stated, the list is the same
pub lists_same : {before after : DeclarationSet} {ps : List StyleDeclaration}
    → ((i j : ℕ) (p : StyleDeclaration) → before i j p → after i j p)
    → ((i j : ℕ) (p : StyleDeclaration) → after i j p → before i j p) → ListsInOrder before ps
    → ListsInOrder after ps
lists_same forth back lists = record {
  indexed = lists.indexed;
  are = lists.are;
  member = λ k a at. forth a.rule a.index a.declaration (lists.member k a at);
  rise = lists.rise;
  all = λ i j p h. lists.all i j p (back i j p h);
}

module _ {before after : DeclarationSet} {i j : ℕ} {p : StyleDeclaration}
    (more : OneMore before after i j p) {ps : List StyleDeclaration}
    (lists : ListsInOrder before ps) where
  new_members : (k : ℕ) (a : Indexed)
      → (slice_get lists.indexed k ≡ Some a) ⊎ ((k ≡ length lists.indexed) × (a ≡ indexed_at i j p))
      → after a.rule a.index a.declaration
  new_members k a (inl at) = more.kept a.rule a.index a.declaration (lists.member k a at)
  new_members k a (inr e) = subst (λ x. after x.rule x.index x.declaration) (sym e.1) more.new

  new_rises : (k l : ℕ) (a b : Indexed) → k < l
      → (slice_get lists.indexed k ≡ Some a) ⊎ ((k ≡ length lists.indexed) × (a ≡ indexed_at i j p))
      → (slice_get lists.indexed l ≡ Some b) ⊎ ((l ≡ length lists.indexed) × (b ≡ indexed_at i j p))
      → IsEarlier a.rule a.index b.rule b.index
  new_rises k l a b lt (inl at_k) (inl at_l) = lists.rise k l a b lt at_k at_l
  new_rises k l a b lt (inl at_k) (inr e) = subst (λ x. IsEarlier a.rule a.index x.rule x.index)
      (sym e.1) (more.later a.rule a.index a.declaration (lists.member k a at_k))
  new_rises k l a b lt (inr e) (inl at_l) =
      let within = slice_get_within lists.indexed l b at_l in
      absurd (omega (arith, within, lt, e.0))
  new_rises k l a b lt (inr e) (inr f) = absurd (omega (arith, lt, e.0, f.0))

  new_all : (k l : ℕ) (q : StyleDeclaration) → before k l q ⊎ ((k ≡ i) × (l ≡ j) × (q ≡ p))
      → (m : ℕ) × (slice_get (lists.indexed ++ indexed_at i j p ∷ []) m ≡ Some (indexed_at k l q))
  new_all k l q (inl h) =
      let found = lists.all k l q h in
      (found.0, slice_get_kept lists.indexed (indexed_at i j p) found.0 (indexed_at k l q) found.1)
  new_all k l q (inr e) = (
    length lists.indexed,
    slice_get_last lists.indexed (indexed_at i j p)
        ∙ (λ t. Some (indexed_at (sym e.0 t) (sym e.1 t) (sym e.2 t))),
  )

  -- one more, after all others
  pub lists_more : ListsInOrder after (ps ++ p ∷ [])
  lists_more = record {
    indexed = lists.indexed ++ indexed_at i j p ∷ [];
    are = map-append (λ a. a.declaration) lists.indexed (indexed_at i j p ∷ [])
        ∙ ap (λ l. l ++ p ∷ []) lists.are;
    member = λ k a at. new_members k a (slice_get_push lists.indexed (indexed_at i j p) k a at);
    rise = λ k l a b lt at_k at_l. new_rises k l a b lt (slice_get_push lists.indexed
        (indexed_at i j p) k a at_k) (slice_get_push lists.indexed (indexed_at i j p) l b at_l);
    all = λ k l q h. new_all k l q (more.either k l q h);
  }

-- ---- the declarations of one rule after another

-- what the rules before an index state
abbrev pub Before : DeclarationSet → ℕ → DeclarationSet
Before has m i j p = (i < m) × has i j p

-- the same, and the first declarations of the next rule
abbrev Partly : DeclarationSet → ℕ → List StyleDeclaration → ℕ → DeclarationSet
Partly has m declared c i j p =
    ((i < m) × has i j p) ⊎ ((i ≡ m) × (j < c) × (slice_get declared j ≡ Some p))

module _ (has : DeclarationSet) (m : ℕ) (declared : List StyleDeclaration) (c : ℕ)
    (p : StyleDeclaration) (at : slice_get declared c ≡ Some p) where
  partly_kept : (k l : ℕ) (q : StyleDeclaration) → Partly has m declared c k l q
      → Partly has m declared (c + 1) k l q
  partly_kept k l q (inl h) = inl h
  partly_kept k l q (inr h) = let lt = h.1 in inr (h.0, omega (arith, lt), h.2)

  partly_either_at : (k l : ℕ) (q : StyleDeclaration) → k ≡ m → slice_get declared l ≡ Some q
      → (l < c) ⊎ (c ≤ l) → l < c + 1
      → Partly has m declared c k l q ⊎ ((k ≡ m) × (l ≡ c) × (q ≡ p))
  partly_either_at k l q e here (inl lt) within = inl (inr (e, lt, here))
  partly_either_at k l q e here (inr le) within =
      let same : l ≡ c = omega (arith, le, within) in
      inr (e, same, same_Some q p (sym here ∙ ap (slice_get declared) same ∙ at))

  partly_either : (k l : ℕ) (q : StyleDeclaration) → Partly has m declared (c + 1) k l q
      → Partly has m declared c k l q ⊎ ((k ≡ m) × (l ≡ c) × (q ≡ p))
  partly_either k l q (inl h) = inl (inl h)
  partly_either k l q (inr h) = partly_either_at k l q h.0 h.2 (before_or_from c l) h.1

  partly_later : (k l : ℕ) (q : StyleDeclaration) → Partly has m declared c k l q
      → IsEarlier k l m c
  partly_later k l q (inl h) = inl h.0
  partly_later k l q (inr h) = inr (h.0, h.1)

  partly_more : OneMore (Partly has m declared c) (Partly has m declared (c + 1)) m c p
  partly_more = record {
    kept = partly_kept;
    new = inr (refl, (let lt : c < c + 1 = omega arith in lt), at);
    either = partly_either;
    later = partly_later;
  }

none_partly : (has : DeclarationSet) (m : ℕ) (declared : List StyleDeclaration) (k l : ℕ)
    (q : StyleDeclaration) → Partly has m declared 0 k l q → Before has m k l q
none_partly has m declared k l q (inl h) = h
none_partly has m declared k l q (inr h) = let lt = h.1 in absurd (omega (arith, lt))

-- the element of an index that the list has
pub slice_get_some : {X : Type 0} (ps : List X) (c : ℕ) → c < length ps
    → (p : X) × (slice_get ps c ≡ Some p)
slice_get_some [] c lt = absurd (omega arith)
slice_get_some (p ∷ ps) zero lt = (p, refl)
slice_get_some (p ∷ ps) (suc c) lt = slice_get_some ps c (omega arith)

listed_after : (has : DeclarationSet) (m : ℕ) (declared ps : List StyleDeclaration) (c : ℕ)
    → (p : StyleDeclaration) × (slice_get declared c ≡ Some p)
    → ListsInOrder (Partly has m declared c) (ps ++ take c declared)
    → ListsInOrder (Partly has m declared (suc c)) (ps ++ take (suc c) declared)
listed_after has m declared ps c found lists =
    let p = found.0 in
    let within = slice_get_within declared c p found.1 in
    let next : c + 1 ≡ suc c = omega arith in
    let front : (ps ++ take c declared) ++ p ∷ [] ≡ ps ++ take (suc c) declared =
    append_assoc ps (take c declared) (p ∷ [])
    ∙ ap (λ x. ps ++ (take c declared ++ x ∷ []))
    (sym (get_or_from_slice_get declared c p p found.1))
    ∙ ap (λ l. ps ++ l) (sym (take_more declared c p within))
    ∙ ap (λ k. ps ++ take k declared) next in
    subst (ListsInOrder (Partly has m declared (suc c))) front
    (subst (λ k. ListsInOrder (Partly has m declared k) ((ps ++ take c declared) ++ p ∷ [])) next
    (lists_more (partly_more has m declared c p found.1) lists))

listed_next : (has : DeclarationSet) (m : ℕ) (declared ps : List StyleDeclaration) (c : ℕ)
    → c < length declared → ListsInOrder (Partly has m declared c) (ps ++ take c declared)
    → ListsInOrder (Partly has m declared (suc c)) (ps ++ take (suc c) declared)
listed_next has m declared ps c lt lists =
    listed_after has m declared ps c (slice_get_some declared c lt) lists

listed_partly : (has : DeclarationSet) (m : ℕ) (declared ps : List StyleDeclaration)
    → ListsInOrder (Before has m) ps → (c : ℕ) → c ≤ length declared
    → ListsInOrder (Partly has m declared c) (ps ++ take c declared)
listed_partly has m declared ps lists zero le =
    subst (ListsInOrder (Partly has m declared 0)) (sym (append-nil ps))
    (lists_same (λ i j p h. inl h) (none_partly has m declared) lists)
listed_partly has m declared ps lists (suc c) le = listed_next has m declared ps c (omega arith)
    (listed_partly has m declared ps lists c (omega arith))

pub lists_before : (has : DeclarationSet) → ListsInOrder (Before has 0) []
lists_before has = lists_none (λ i j p h. let lt = h.0 in omega (arith, lt))

module _ {Node : Type 0} (tree : Tree Node) (n : Node) (rules : List StyleRule) (m : ℕ)
    (rule : StyleRule) (at : slice_get rules m ≡ Some rule) where
  whole_forth : HasPlacement tree rule.components n → (i j : ℕ) (p : StyleDeclaration)
      → Partly (IsStated tree n rules) m rule.declarations (length rule.declarations) i j p
      → Before (IsStated tree n rules) (m + 1) i j p
  whole_forth takes i j p (inl h) = let lt = h.0 in (omega (arith, lt), h.1)
  whole_forth takes i j p (inr h) =
      let e = h.0 in (
        omega (arith, e),
        record {
          rule = rule;
          rule_at = ap (slice_get rules) e ∙ at;
          takes = takes;
          declared = h.2;
        },
      )

  whole_back_at : (i j : ℕ) (p : StyleDeclaration) → IsStated tree n rules i j p → i < m + 1
      → (i < m) ⊎ (m ≤ i)
      → Partly (IsStated tree n rules) m rule.declarations (length rule.declarations) i j p
  whole_back_at i j p stated within (inl lt) = inl (lt, stated)
  whole_back_at i j p stated within (inr le) =
      let e : i ≡ m = omega (arith, within, le) in
      let here = stated_here tree n rules m rule at i j p e stated in
      inr (e, slice_get_within rule.declarations j p here, here)

  -- the rule has a placement: all that it declares is added
  pub lists_rule : {ps : List StyleDeclaration} → HasPlacement tree rule.components n
      → ListsInOrder (Before (IsStated tree n rules) m) ps
      → ListsInOrder (Before (IsStated tree n rules) (m + 1)) (ps ++ rule.declarations)
  lists_rule {ps} takes lists =
      subst (λ l. ListsInOrder (Before (IsStated tree n rules) (m + 1)) (ps ++ l))
      (take_all (length rule.declarations) rule.declarations (omega arith))
      (lists_same (whole_forth takes) (λ i j p h. whole_back_at i j p h.1 h.0 (before_or_from m i))
      (listed_partly (IsStated tree n rules) m rule.declarations ps lists (length rule.declarations)
      (omega arith)))

  skipped_at : (i j : ℕ) (p : StyleDeclaration) → (HasPlacement tree rule.components n → ⊥)
      → IsStated tree n rules i j p → i < m + 1 → (i < m) ⊎ (m ≤ i)
      → Before (IsStated tree n rules) m i j p
  skipped_at i j p not_taken stated within (inl lt) = (lt, stated)
  skipped_at i j p not_taken stated within (inr le) =
      let e : i ≡ m = omega (arith, within, le) in
      absurd (not_taken (stated_takes tree n rules m rule at i j p e stated))

  -- the rule has none: nothing is
  pub lists_skip : {ps : List StyleDeclaration} → (HasPlacement tree rule.components n → ⊥)
      → ListsInOrder (Before (IsStated tree n rules) m) ps
      → ListsInOrder (Before (IsStated tree n rules) (m + 1)) ps
  lists_skip not_taken lists = lists_same (λ i j p h. (let lt = h.0 in omega (arith, lt), h.1))
      (λ i j p h. skipped_at i j p not_taken h.1 h.0 (before_or_from m i)) lists

pub lists_all : {Node : Type 0} (tree : Tree Node) (n : Node) (rules : List StyleRule) (m : ℕ)
    {ps : List StyleDeclaration} → length rules ≤ m
    → ListsInOrder (Before (IsStated tree n rules) m) ps → ListsInOrder (IsStated tree n rules) ps
lists_all tree n rules m all lists =
    lists_same (λ i j p h. h.1) (λ i j p h.
    (let within = slice_get_within rules i h.rule h.rule_at in omega (arith, within, all), h)) lists
