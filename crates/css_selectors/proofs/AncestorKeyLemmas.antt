-- An element that a selector matches has ancestors with the keys that the selector requires of them.
-- A selector that requires nothing but its keys matches each element that has one.
-- Serves `ancestor_keys` and the index over selectors.
use Rattle.std.proofs.Common.{◌≡◌, ℕ, zero, suc, ◌+◌, ◌-◌, ◌<◌, ◌≤◌, ◌⊎◌, ◌&&◌, ◌||◌, inl, inr, Bool, true, false, IsTrue, List, [], ◌∷◌, ◌++◌, length, map, take, get_or, length-append, append-nil, Option, None, Some, refl, sym, ap, ◌∙◌, subst, arith}
use Rattle.std.specs.Prelude.{is_none, min, nat_lt, if◌then◌else◌}
use Rattle.std.proofs.lemmas.Bool.Decides.{nat_tests}
use Rattle.std.specs.Option.{option_map, option_map_or}
use Rattle.std.specs.List.{Contains, list_any, list_all, slice_get}
use Rattle.std.proofs.lemmas.Option.{slice_get-map, slice_get_read}
use Rattle.std.proofs.Math.Seq.{take-append_seam}
use Rattle.std.proofs.lemmas.List.{length-map, take-map}
use Rattle.std.proofs.lemmas.List.Elements.{Contains-append_cases}
use Rattle.css_matching.specs.Placements.{IsBeyond, Relates, IsPlacement}
use Rattle.css_matching.specs.Placements.IsBeyond.{is_next, is_further}
use Rattle.css_matching.specs.Trees.{SiblingsShareParent}
use Rattle.css_matching.specs.declared.Combinator.{Combinator}
use Rattle.css_matching.specs.declared.Combinator.TheVariants.{Descendant, Child, Adjacent, Sibling}
use Rattle.css_matching.proofs.Steps.{sibling_parent, beyond_parent}
use Rattle.css_selectors.specs.AncestorKeys.{keys_among, alone, step_keys, keys_before, ancestor_keys, SomeAncestorHas, parent_step_keys, keys_of_parent, parent_keys, ParentHas, is_exact, is_whole, is_exact_key, is_one_id_or_class, is_lone_id_or_class, are_exact, is_only_key, are_only_keys, are_only_part, is_only_keys}
use Rattle.css_selector_text.specs.declared.components.Part.{Part as PartOf}
use Rattle.css_selector_text.specs.declared.components.Complex.{Complex, out-Complex}
use Rattle.css_selector_text.specs.Views.{condition_of, part_of, complex_of}
use Rattle.css_selectors.specs.Documents.{Document, shape}
use Rattle.css_selector_text.specs.declared.components.Condition.{Condition as ConditionOf}
use Rattle.css_selector_text.specs.Components.{Simple, Condition, Conditions, Parts, Selectors, conditions_from, parts_from, Part, PseudoElement, Selector}
use Rattle.css_selector_text.specs.Components.Simple.{universal, type_name, id, class, has_attribute, attribute, structure, language, state, function, named_element, nesting, namespaced}
use Rattle.css_selector_text.specs.Components.Condition.{simple, negation, any_of, where_any, tested}
use Rattle.css_selector_text.specs.Components.Conditions.{end_of_compound, with_condition}
use Rattle.css_selector_text.specs.Components.Parts.{end_of_selector, with_part}
use Rattle.css_selector_text.specs.Components.Selectors.{end_of_list, with_selector}
use Rattle.css_selectors.specs.Keys.{Key, has_key, simple_key, rank, compound_key, parts_key, selector_keys, condition_keys, least_rank, better_keys, conditions_at, keys_of}
use Rattle.css_selectors.specs.Keys.Key.{by_nothing}
use Rattle.css_selectors.specs.Meanings.{holds, combinator_at, part_count, IsMet, AreMet, MeetsPart, MatchesAny, IsPlaced, Matches}
use Rattle.css_selectors.proofs.KeyLemmas.{conditions_have, met_at}
use Rattle.css_selectors.proofs.PlacementListLemmas.{count_from}
use Rattle.css_selectors.proofs.PartLemmas.{combinator_at-from}

none_there : {X : Type 0} (x : X) → Contains [] x → ⊥
none_there x c = let l = c.1 in omega (arith, l)

only_there : {X : Type 0} (x y : X) → Contains (x ∷ []) y → x ≡ y
only_there x y (zero, lt, e) = e
only_there x y (suc k, lt, e) = absurd (omega (arith, lt))

or_none : (b : Bool) → IsTrue (b || false) → IsTrue b
or_none true h = refl
or_none false h = absurd (cc)

or_cases : (a b : Bool) → IsTrue (a || b) → IsTrue a ⊎ IsTrue b
or_cases true b h = inl refl
or_cases false b h = inr h

and_first : (a b : Bool) → IsTrue (a && b) → IsTrue a
and_first true b h = refl
and_first false b h = absurd (cc)

and_second : (a b : Bool) → IsTrue (a && b) → IsTrue b
and_second true b h = h
and_second false b h = absurd (cc)

alone_has : (p : Key → Bool) (keys : List Key) (key : Key) → IsTrue (list_any p keys)
    → Contains (alone keys) key → IsTrue (p key)
alone_has p [] key h c = absurd (none_there key c)
alone_has p (own ∷ []) key h c =
    subst (λ k. IsTrue (p k)) (only_there own key c) (or_none (p own) h)
alone_has p (own ∷ other ∷ keys) key h c = absurd (none_there key c)

-- the nodes of a placement are related as the next combinator says
next_related : {Node : Type 0} (d : Document Node) (parts : List Part) (last : ℕ) (end : Node)
    (place : ℕ → Node)
    → IsPlacement (shape d) (combinator_at (parts_from parts)) (MeetsPart d (parts_from parts)) last
    end place
    → (i : ℕ) → i < last
    → Relates (shape d) (combinator_at (parts_from parts) (suc i)) (place i) (place (suc i))
next_related d parts last end place placed i lt =
    let next : i + 1 ≡ suc i = omega arith in
    subst (λ j. Relates (shape d) (combinator_at (parts_from parts) j) (place i) (place j)) next
    (placed.relates i lt)

module _ {Node : Type 0} (d : Document Node) where
  -- a node that meets conditions has one of their keys
  met_has : (conditions : List Condition) (n : Node) → AreMet d (conditions_from conditions) n
      → IsTrue (list_any (has_key d n) (keys_among conditions))
  met_has conditions n h = conditions_have d n (by_nothing ∷ []) conditions refl h

  -- what is beyond the first of two steps is beyond both
  beyond_both : {a m n : Node} → IsBeyond d.parent a m → IsBeyond d.parent m n
      → IsBeyond d.parent a n
  beyond_both up (is_next e) = is_further e up
  beyond_both up (is_further e q) = is_further e (beyond_both up q)

  beyond_shared : {a m n : Node} → d.parent m ≡ d.parent n → IsBeyond d.parent a m
      → IsBeyond d.parent a n
  beyond_shared same (is_next e) = is_next (sym same ∙ e)
  beyond_shared same (is_further e q) = is_further (sym same ∙ e) q

  module _ (shared : SiblingsShareParent (shape d)) where
    -- the ancestors of a part's node are those of the next part's
    beyond_related : (c : Combinator) (a m n : Node) → Relates (shape d) c m n
        → IsBeyond d.parent a m → IsBeyond d.parent a n
    beyond_related Descendant a m n r up = beyond_both up r
    beyond_related Child a m n r up = beyond_both up (is_next r)
    beyond_related Adjacent a m n r up =
        beyond_shared (sibling_parent (shape d) shared m n r) up
    beyond_related Sibling a m n r up = beyond_shared (beyond_parent (shape d) shared r) up

    step_has : (c : Combinator) (conditions : List Condition) (m n : Node) (key : Key)
        → Relates (shape d) c m n → AreMet d (conditions_from conditions) m
        → Contains (step_keys c conditions) key → SomeAncestorHas d n key
    step_has Descendant conditions m n key r met there =
        (m, r, alone_has (has_key d m) (keys_among conditions) key (met_has conditions m met) there)
    step_has Child conditions m n key r met there = (
      m,
      is_next r,
      alone_has (has_key d m) (keys_among conditions) key (met_has conditions m met) there,
    )
    step_has Adjacent conditions m n key r met there = absurd (none_there key there)
    step_has Sibling conditions m n key r met there = absurd (none_there key there)

    module _ (parts : List Part) (last : ℕ) (end : Node) (place : ℕ → Node)
        (placed : IsPlacement (shape d) (combinator_at (parts_from parts)) (MeetsPart d (parts_from parts)) last end place) where
      before_has : (i : ℕ) → i ≤ last → (key : Key) → Contains (keys_before parts i) key
          → SomeAncestorHas d (place i) key
      before_has zero le key c = absurd (none_there key c)
      before_has (suc i) le key c =
          let lt : i < last = omega (arith, le) in
          let within : i ≤ last = omega (arith, le) in
          let r = next_related d parts last end place placed i lt in
          elim (Contains-append_cases (keys_before parts i)
          (step_keys (combinator_at (parts_from parts) (suc i)) (conditions_at parts i)) key c) [
            | inl h ↦ (let a = before_has i within key h in
                (a.0, beyond_related (combinator_at (parts_from parts) (suc i)) a.0 (place i) (place (suc i)) r a.1, a.2))
            | inr h ↦ step_has (combinator_at (parts_from parts) (suc i)) (conditions_at parts i) (place i)
                (place (suc i)) key r (met_at d (place i) parts i (placed.meets i within)) h
          ]

    pub matched_above : (s : Selector) (n : Node) → Matches d s n → (key : Key)
        → Contains (ancestor_keys s) key → SomeAncestorHas d n key
    matched_above s n m key c =
        let last = part_count (parts_from s.parts) - 1 in
        subst (λ e. SomeAncestorHas d e key) m.1.1.ends
        (before_has s.parts last n m.1.0 m.1.1 last (omega arith) key
        (subst (λ k. Contains (keys_before s.parts (k - 1)) key) (sym (count_from d s.parts)) c))

module _ {Node : Type 0} (d : Document Node) where
  parent_step_has : (c : Combinator) (conditions : List Condition) (m n : Node) (key : Key)
      → Relates (shape d) c m n → AreMet d (conditions_from conditions) m
      → Contains (parent_step_keys c conditions) key → ParentHas d n key
  parent_step_has Descendant conditions m n key r met there = absurd (none_there key there)
  parent_step_has Child conditions m n key r met there =
      (m, r, alone_has (has_key d m) (keys_among conditions) key (met_has d conditions m met) there)
  parent_step_has Adjacent conditions m n key r met there = absurd (none_there key there)
  parent_step_has Sibling conditions m n key r met there = absurd (none_there key there)

  module _ (parts : List Part) (last : ℕ) (end : Node) (place : ℕ → Node)
      (placed : IsPlacement (shape d) (combinator_at (parts_from parts)) (MeetsPart d (parts_from parts)) last end place) where
    parent_has : (i : ℕ) → i ≤ last → (key : Key) → Contains (keys_of_parent parts i) key
        → ParentHas d (place i) key
    parent_has zero le key c = absurd (none_there key c)
    parent_has (suc i) le key c =
        let lt : i < last = omega (arith, le) in
        let within : i ≤ last = omega (arith, le) in
        parent_step_has (combinator_at (parts_from parts) (suc i)) (conditions_at parts i) (place i)
        (place (suc i)) key (next_related d parts last end place placed i lt)
        (met_at d (place i) parts i (placed.meets i within)) c

  pub matched_parent : (s : Selector) (n : Node) → Matches d s n → (key : Key)
      → Contains (parent_keys s) key → ParentHas d n key
  matched_parent s n m key c =
      let last = part_count (parts_from s.parts) - 1 in
      subst (λ e. ParentHas d e key) m.1.1.ends
      (parent_has s.parts last n m.1.0 m.1.1 last (omega arith) key
      (subst (λ k. Contains (keys_of_parent s.parts (k - 1)) key) (sym (count_from d s.parts)) c))

-- ---- selectors that require nothing but one of their keys

-- the key of one id or class is that, and is an id or a class
exact_key : (s : Simple) → IsTrue (is_exact s)
    → IsTrue (is_exact_key (simple_key s))
    × (compound_key (with_condition (simple s) end_of_compound) ≡ simple_key s)
    × (3 ≤ rank (simple_key s))
exact_key universal h = absurd (cc)
exact_key (type_name name) h = absurd (cc)
exact_key (id text) h = (refl, refl, omega arith)
exact_key (class word) h = (refl, refl, omega arith)
exact_key (has_attribute name) h = absurd (cc)
exact_key (attribute name comparison text ignores) h = absurd (cc)
exact_key (structure s) h = absurd (cc)
exact_key (language ranges) h = absurd (cc)
exact_key (state name) h = absurd (cc)
exact_key (function name argument) h = absurd (cc)
exact_key (named_element name argument) h = absurd (cc)
exact_key (nesting list) h = absurd (cc)
exact_key (namespaced namespace local) h = absurd (cc)

exact_compound : (c : Conditions) → IsTrue (is_one_id_or_class c)
    → IsTrue (is_exact_key (compound_key c)) × (3 ≤ rank (compound_key c))
exact_compound end_of_compound h = absurd (cc)
exact_compound (with_condition (simple s) end_of_compound) h =
    let e = exact_key s h in
    subst (λ k. IsTrue (is_exact_key k) × (3 ≤ rank k)) (sym e.1) (e.0, e.2)
exact_compound (with_condition c (with_condition x conditions)) h = absurd (cc)
exact_compound (with_condition (negation selectors) end_of_compound) h = absurd (cc)
exact_compound (with_condition (any_of selectors) end_of_compound) h = absurd (cc)
exact_compound (with_condition (where_any selectors) end_of_compound) h = absurd (cc)
exact_compound (with_condition (tested test selectors) end_of_compound) h = absurd (cc)

exact_selector : (s : Parts) → IsTrue (is_lone_id_or_class s)
    → IsTrue (is_exact_key (parts_key s)) × (3 ≤ rank (parts_key s))
exact_selector end_of_selector h = absurd (cc)
exact_selector (with_part k c end_of_selector) h = exact_compound c h
exact_selector (with_part k c (with_part l x parts)) h = absurd (cc)

exact_selectors : (selectors : Selectors) → IsTrue (are_exact selectors)
    → IsTrue (list_all is_exact_key (selector_keys selectors))
    × (3 ≤ least_rank (selector_keys selectors))
exact_selectors end_of_list h = (refl, omega arith)
exact_selectors (with_selector s ss) h =
    let one = exact_selector s (and_first (is_lone_id_or_class s) (are_exact ss) h) in
    let more = exact_selectors ss (and_second (is_lone_id_or_class s) (are_exact ss) h) in (
      both (is_exact_key (parts_key s)) (list_all is_exact_key (selector_keys ss)) one.0 more.0,
      least (rank (parts_key s)) (least_rank (selector_keys ss)) one.1 more.1,
    )
  where
    both : (a b : Bool) → IsTrue a → IsTrue b → IsTrue (a && b)
    both true b h k = k
    both false b h k = absurd (cc)

    least : (m n : ℕ) → 3 ≤ m → 3 ≤ n → 3 ≤ min m n
    least m n h k = grind arith

-- the keys of such a condition are those of its selector
list_keys : (selectors : Selectors) → IsTrue (are_exact selectors)
    → better_keys (by_nothing ∷ []) (selector_keys selectors) ≡ selector_keys selectors
list_keys selectors h =
    let some = (exact_selectors selectors h).1 in
    let less : nat_lt 0 (least_rank (selector_keys selectors)) ≡ true =
    grind (arith, nat_tests, some) in
    ap (λ b. if b then selector_keys selectors else (by_nothing ∷ [])) less

keys_are : (c : Condition) → IsTrue (is_only_key c) → keys_among (c ∷ []) ≡ condition_keys c
keys_are (simple universal) h = refl
keys_are (simple (type_name name)) h = absurd (cc)
keys_are (simple (id text)) h = refl
keys_are (simple (class word)) h = refl
keys_are (simple (has_attribute name)) h = absurd (cc)
keys_are (simple (attribute name comparison text ignores)) h = absurd (cc)
keys_are (simple (structure s)) h = absurd (cc)
keys_are (simple (language ranges)) h = absurd (cc)
keys_are (simple (state name)) h = absurd (cc)
keys_are (simple (function name argument)) h = absurd (cc)
keys_are (simple (named_element name argument)) h = absurd (cc)
keys_are (simple (nesting list)) h = absurd (cc)
keys_are (simple (namespaced namespace local)) h = absurd (cc)
keys_are (negation selectors) h = absurd (cc)
keys_are (any_of selectors) h = list_keys selectors h
keys_are (where_any selectors) h = list_keys selectors h
keys_are (tested test selectors) h = absurd (cc)

whole_key : (s : Simple) → IsTrue (is_whole s) → IsTrue (is_exact_key (simple_key s))
whole_key universal h = refl
whole_key (type_name name) h = absurd (cc)
whole_key (id text) h = refl
whole_key (class word) h = refl
whole_key (has_attribute name) h = absurd (cc)
whole_key (attribute name comparison text ignores) h = absurd (cc)
whole_key (structure s) h = absurd (cc)
whole_key (language ranges) h = absurd (cc)
whole_key (state name) h = absurd (cc)
whole_key (function name argument) h = absurd (cc)
whole_key (named_element name argument) h = absurd (cc)
whole_key (nesting list) h = absurd (cc)
whole_key (namespaced namespace local) h = absurd (cc)

exact_condition : (c : Condition) → IsTrue (is_only_key c)
    → IsTrue (list_all is_exact_key (condition_keys c))
exact_condition (simple s) h = rw (whole_key s h) refl
exact_condition (negation selectors) h = absurd (cc)
exact_condition (any_of selectors) h = (exact_selectors selectors h).0
exact_condition (where_any selectors) h = (exact_selectors selectors h).0
exact_condition (tested test selectors) h = absurd (cc)

exact_conditions : (cs : List Condition) → IsTrue (are_only_keys cs)
    → IsTrue (list_all is_exact_key (keys_among cs))
exact_conditions [] h = absurd (cc)
exact_conditions (c ∷ []) h =
    subst (λ ks. IsTrue (list_all is_exact_key ks)) (sym (keys_are c h)) (exact_condition c h)
exact_conditions (c ∷ d ∷ cs) h = absurd (cc)

exact_part : (parts : List Part) → IsTrue (are_only_part parts)
    → IsTrue (list_all is_exact_key (keys_among (conditions_at parts (length parts - 1))))
exact_part [] h = absurd (cc)
exact_part (p ∷ []) h = exact_conditions p.conditions h
exact_part (p ∷ q ∷ parts) h = absurd (cc)

-- each key of such a selector is an id or a class
pub only_exact : (s : Selector) → IsTrue (is_only_keys s)
    → IsTrue (list_all is_exact_key (keys_of s))
only_exact s h = exact_part s.parts (and_second (is_none s.pseudo_element) (are_only_part s.parts) h)

exact_whole : (s : Simple) → IsTrue (is_exact s) → IsTrue (is_whole s)
exact_whole universal h = absurd (cc)
exact_whole (type_name name) h = absurd (cc)
exact_whole (id text) h = refl
exact_whole (class word) h = refl
exact_whole (has_attribute name) h = absurd (cc)
exact_whole (attribute name comparison text ignores) h = absurd (cc)
exact_whole (structure s) h = absurd (cc)
exact_whole (language ranges) h = absurd (cc)
exact_whole (state name) h = absurd (cc)
exact_whole (function name argument) h = absurd (cc)
exact_whole (named_element name argument) h = absurd (cc)
exact_whole (nesting list) h = absurd (cc)
exact_whole (namespaced namespace local) h = absurd (cc)

module _ {Node : Type 0} (d : Document Node) (n : Node) where
  whole_holds : (s : Simple) → IsTrue (is_whole s) → has_key d n (simple_key s) ≡ holds d n s
  whole_holds universal h = refl
  whole_holds (type_name name) h = absurd (cc)
  whole_holds (id text) h = refl
  whole_holds (class word) h = refl
  whole_holds (has_attribute name) h = absurd (cc)
  whole_holds (attribute name comparison text ignores) h = absurd (cc)
  whole_holds (structure s) h = absurd (cc)
  whole_holds (language ranges) h = absurd (cc)
  whole_holds (state name) h = absurd (cc)
  whole_holds (function name argument) h = absurd (cc)
  whole_holds (named_element name argument) h = absurd (cc)
  whole_holds (nesting list) h = absurd (cc)
  whole_holds (namespaced namespace local) h = absurd (cc)

  compound_met : (c : Conditions) → IsTrue (is_one_id_or_class c)
      → IsTrue (has_key d n (compound_key c)) → AreMet d c n
  compound_met end_of_compound h k = absurd (cc)
  compound_met (with_condition (simple s) end_of_compound) h k =
      (sym (whole_holds s (exact_whole s h)) ∙ sym (ap (has_key d n) (exact_key s h).1) ∙ k, tt)
  compound_met (with_condition c (with_condition x conditions)) h k = absurd (cc)
  compound_met (with_condition (negation selectors) end_of_compound) h k = absurd (cc)
  compound_met (with_condition (any_of selectors) end_of_compound) h k = absurd (cc)
  compound_met (with_condition (where_any selectors) end_of_compound) h k = absurd (cc)
  compound_met (with_condition (tested test selectors) end_of_compound) h k = absurd (cc)

  -- what satisfies a lone compound selector is its placement
  pub lone_placed : (k : Combinator) (c : Conditions) → AreMet d c n
      → IsPlaced d (with_part k c end_of_selector) n
  lone_placed k c h = (
    (λ i. n),
    record {
      meets = met;
      relates = λ i lt. absurd (omega (arith, lt));
      ends = refl;
    },
  )
    where
      met : (i : ℕ) → i ≤ part_count (with_part k c end_of_selector) - 1
          → MeetsPart d (with_part k c end_of_selector) i n
      met zero le = h
      met (suc i) le = absurd (omega (arith, le))

  lone_met : (s : Parts) → IsTrue (is_lone_id_or_class s) → IsTrue (has_key d n (parts_key s))
      → IsPlaced d s n
  lone_met end_of_selector h k = absurd (cc)
  lone_met (with_part k c end_of_selector) h has = lone_placed k c (compound_met c h has)
  lone_met (with_part k c (with_part l x parts)) h has = absurd (cc)

  selectors_met : (selectors : Selectors) → IsTrue (are_exact selectors)
      → IsTrue (list_any (has_key d n) (selector_keys selectors)) → MatchesAny d selectors n
  selectors_met end_of_list h k = absurd (cc)
  selectors_met (with_selector s ss) h k =
      elim (or_cases (has_key d n (parts_key s)) (list_any (has_key d n) (selector_keys ss)) k) [
        | inl has ↦ inl (lone_met s (and_first (is_lone_id_or_class s) (are_exact ss) h) has)
        | inr has ↦ inr (selectors_met ss (and_second (is_lone_id_or_class s) (are_exact ss) h) has)
      ]

  condition_met : (c : Condition) → IsTrue (is_only_key c)
      → IsTrue (list_any (has_key d n) (condition_keys c)) → IsMet d c n
  condition_met (simple s) h k = sym (whole_holds s h) ∙ or_none (has_key d n (simple_key s)) k
  condition_met (negation selectors) h k = absurd (cc)
  condition_met (any_of selectors) h k = selectors_met selectors h k
  condition_met (where_any selectors) h k = selectors_met selectors h k
  condition_met (tested test selectors) h k = absurd (cc)

  conditions_met : (cs : List Condition) → IsTrue (are_only_keys cs)
      → IsTrue (list_any (has_key d n) (keys_among cs)) → AreMet d (conditions_from cs) n
  conditions_met [] h k = absurd (cc)
  conditions_met (c ∷ []) h k =
      (condition_met c h (subst (λ ks. IsTrue (list_any (has_key d n) ks)) (keys_are c h) k), tt)
  conditions_met (c ∷ d' ∷ cs) h k = absurd (cc)

  part_met : (parts : List Part) → IsTrue (are_only_part parts)
      → IsTrue (list_any (has_key d n) (keys_among (conditions_at parts (length parts - 1))))
      → IsPlaced d (parts_from parts) n
  part_met [] h k = absurd (cc)
  part_met (p ∷ []) h k =
      lone_placed p.combinator (conditions_from p.conditions) (conditions_met p.conditions h k)
  part_met (p ∷ q ∷ parts) h k = absurd (cc)

  none_at_end : (o : Option PseudoElement) → IsTrue (is_none o) → o ≡ None
  none_at_end None h = refl
  none_at_end (Some name) h = absurd (cc)

  -- a selector that requires nothing but its keys matches a node that has one
  pub only_matches : (s : Selector) → IsTrue (is_only_keys s)
      → IsTrue (list_any (has_key d n) (keys_of s)) → Matches d s n
  only_matches s h k = (
    none_at_end s.pseudo_element (and_first (is_none s.pseudo_element) (are_only_part s.parts) h),
    part_met s.parts (and_second (is_none s.pseudo_element) (are_only_part s.parts) h) k,
  )

-- ---- the code

alone_one : (keys : List Key) → length keys ≡ 1 → alone keys ≡ keys
alone_one [] e = absurd (omega (arith, e))
alone_one (key ∷ []) e = refl
alone_one (key ∷ other ∷ keys) e = absurd (omega (arith, e))

alone_none : (keys : List Key) → (length keys ≡ 1 → ⊥) → alone keys ≡ []
alone_none [] e = refl
alone_none (key ∷ []) e = absurd (e (omega arith))
alone_none (key ∷ other ∷ keys) e = refl

module _ {X : Type 0} (f : X → Key) (old new : List X) (keys : List Key)
    (more : map f new ≡ map f old ++ keys) where
  more_len : length new ≡ length old + length keys
  more_len = sym (length-map new f) ∙ ap length more ∙ length-append (map f old) keys
      ∙ ap (λ n. n + length keys) (length-map old f)

  -- one key was appended, or another number of them, which are taken off
  pub alone_kept : length new - length old ≡ 1 → map f new ≡ map f old ++ alone keys
  alone_kept e =
      let l = more_len in
      more ∙ ap (λ ks. map f old ++ ks) (sym (alone_one keys (omega (arith, l, e))))

  pub alone_cut : (length new - length old ≡ 1 → ⊥)
      → map f (take (length old) new) ≡ map f old ++ alone keys
  alone_cut e =
      let l = more_len in
      sym (take-map f (length old) new) ∙ ap (take (length old)) more
      ∙ ap (λ n. take n (map f old ++ keys)) (sym (length-map old f))
      ∙ take-append_seam (map f old) keys ∙ sym (append-nil (map f old))
      ∙ ap (λ ks. map f old ++ ks) (sym (alone_none keys (λ one. e (omega (arith, l, one)))))

-- the part at an index
part_there : (ps : List PartOf) (parts : List Part) → map part_of ps ≡ parts → (j : ℕ) (r : PartOf)
    → j < length ps → r ≡ get_or ps j r → slice_get parts j ≡ Some (part_of r)
part_there ps parts are j r within read =
    subst (λ xs. slice_get xs j ≡ Some (part_of r)) are
    (slice_get-map part_of ps j
    ∙ ap (option_map part_of) (slice_get_read ps (length ps) j r refl within read))

joined_there : (ps : List PartOf) (parts : List Part) → map part_of ps ≡ parts → (j : ℕ) (r : PartOf)
    → j < length ps → r ≡ get_or ps j r → combinator_at (parts_from parts) j ≡ r.combinator
joined_there ps parts are j r within read =
    subst (λ xs. combinator_at (parts_from xs) j ≡ r.combinator) are
    (sym (ap (λ x. x.combinator) read ∙ combinator_at-from ps j r within))

-- the keys before one part more
pub keys_before-more : (ps : List PartOf) (parts : List Part) → map part_of ps ≡ parts → (i : ℕ)
    → (p q : PartOf) → i + 1 < length ps → p ≡ get_or ps i p → q ≡ get_or ps (i + 1) q
    → keys_before parts (i + 1)
    ≡ keys_before parts i ++ step_keys q.combinator (map condition_of p.conditions.items)
keys_before-more ps parts are i p q lt here next =
    let more : i + 1 ≡ suc i = omega arith in
    let within : i < length ps = omega (arith, lt) in
    let first : slice_get parts i ≡ Some (part_of p) = part_there ps parts are i p within here in
    let second : combinator_at (parts_from parts) (suc i) ≡ q.combinator =
    ap (combinator_at (parts_from parts)) (sym more) ∙ joined_there ps parts are (i + 1) q lt next in
    ap (keys_before parts) more
    ∙ ap (λ k. keys_before parts i ++ step_keys k (conditions_at parts i)) second
    ∙ ap (λ o. keys_before parts i
    ++ step_keys q.combinator (option_map_or (λ x. x.conditions) o [])) first

-- two conditions or more are not one
pub not_one : (cs : List ConditionOf) → 2 ≤ length cs
    → false ≡ is_one_id_or_class (conditions_from (map condition_of cs))
not_one [] h = absurd (omega (arith, h))
not_one (c ∷ []) h = absurd (omega (arith, h))
not_one (c ∷ d ∷ cs) h = refl

-- two parts or more are no lone compound selector
pub not_lone : (s : Complex) → 2 ≤ length (out-Complex s).parts.items
    → false ≡ is_lone_id_or_class (parts_from (complex_of s))
not_lone s h = by (out-Complex s).parts.items h
  where
    by : (ps : List PartOf) → 2 ≤ length ps
        → false ≡ is_lone_id_or_class (parts_from (map part_of ps))
    by [] h = absurd (omega (arith, h))
    by (p ∷ []) h = absurd (omega (arith, h))
    by (p ∷ q ∷ ps) h = refl

-- the keys of a selector's parent, from its last two parts
pub parent_keys_are : (ps : List PartOf) (parts : List Part) → map part_of ps ≡ parts
    → (p q : PartOf) → 2 ≤ length ps → p ≡ get_or ps (length ps - 2) p
    → q ≡ get_or ps (length ps - 1) q
    → keys_of_parent parts (length parts - 1)
    ≡ parent_step_keys q.combinator (map condition_of p.conditions.items)
parent_keys_are ps parts are p q some here next =
    let same : length parts ≡ length ps = sym (sym (length-map ps part_of) ∙ ap length are) in
    let more : length parts - 1 ≡ suc (length ps - 2) = omega (arith, same, some) in
    let last : length ps - 1 ≡ suc (length ps - 2) = omega (arith, some) in
    let before : length ps - 2 < length ps = omega (arith, some) in
    let end : length ps - 1 < length ps = omega (arith, some) in
    let first : slice_get parts (length ps - 2) ≡ Some (part_of p) =
    part_there ps parts are (length ps - 2) p before here in
    let second : combinator_at (parts_from parts) (suc (length ps - 2)) ≡ q.combinator =
    ap (combinator_at (parts_from parts)) (sym last)
    ∙ joined_there ps parts are (length ps - 1) q end next in
    ap (keys_of_parent parts) more
    ∙ ap (λ k. parent_step_keys k (conditions_at parts (length ps - 2))) second
    ∙ ap (λ o. parent_step_keys q.combinator (option_map_or (λ x. x.conditions) o [])) first
