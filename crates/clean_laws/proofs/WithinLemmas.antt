-- A selector that begins with a scope matches only what is within it. Serves `scope_law`.
use Rattle.std.proofs.Common.{◌≡◌, ◌∙◌, ◌<◌, ℕ, Bool, true, List, [], ◌∷◌, map, length, inl, inr, None, refl, sym, ap, subst, arith}
use Rattle.std.proofs.lemmas.Slice.Eq.{bytes_eq-Decides}
use Rattle.css_matching.specs.Placements.{IsBeyond, Relates}
use Rattle.css_matching.specs.Placements.IsBeyond.{is_next, is_further}
use Rattle.css_matching.specs.Trees.{SiblingsShareParent}
use Rattle.css_matching.specs.declared.Combinator.{Combinator}
use Rattle.css_matching.specs.declared.Combinator.TheVariants.{Descendant, Child, Adjacent, Sibling}
use Rattle.css_matching.proofs.Steps.{sibling_parent, beyond_parent}
use Rattle.css_selector_text.specs.Components.{Simple, Condition, Part, Selector, conditions_from}
use Rattle.css_selector_text.specs.Components.Simple.{universal, type_name, id, class, has_attribute, attribute, structure, language, state, function, named_element, nesting, namespaced}
use Rattle.css_selector_text.specs.Components.Condition.{simple, negation, any_of, where_any, tested}
use Rattle.css_selector_text.specs.Originating.{or_any, part_or_any}
use Rattle.css_selectors.specs.Documents.{Document, shape}
use Rattle.css_selectors.specs.MarkedLists.{ListText}
use Rattle.css_selectors.specs.Meanings.{AreMet, Matches}
use Rattle.css_selectors.specs.Numberings.{numbered_simple, numbered_condition, numbered_conditions, numbered_each, numbered_parts}
use Rattle.css_selectors.specs.PlacementLists.{ContinuesPlacement, IsPlacementList, HasPlacementList}
use Rattle.css_selectors.proofs.PlacementListLemmas.{matches_list}
use Rattle.css_clean.specs.Scopes.{is_same_simple, is_same, are_same, leads_within, may_follow, begins_with}
use Rattle.css_clean.proofs.CleanLemmas.{both-left, both-right}
use Rattle.clean_laws.specs.Within.{IsAbove}

-- ---- the same compounds, which numbers leave as they are

same-simple : (numbers : List ℕ) (a b : Simple) → is_same_simple a b ≡ true
    → (b ≡ a) × (numbered_simple numbers b ≡ a)
same-simple numbers universal other e = absurd (cc)
same-simple numbers (type_name w) universal e = absurd (cc)
same-simple numbers (type_name x) (type_name y) e =
    let h = sym ((bytes_eq-Decides x y).0 e) in (ap type_name h, ap type_name h)
same-simple numbers (type_name w) (id x) e = absurd (cc)
same-simple numbers (type_name w) (class x) e = absurd (cc)
same-simple numbers (type_name w) (has_attribute x) e = absurd (cc)
same-simple numbers (type_name w) (attribute x c v i) e = absurd (cc)
same-simple numbers (type_name w) (structure s) e = absurd (cc)
same-simple numbers (type_name w) (language r) e = absurd (cc)
same-simple numbers (type_name w) (state x) e = absurd (cc)
same-simple numbers (type_name w) (function x a) e = absurd (cc)
same-simple numbers (type_name w) (named_element x a) e = absurd (cc)
same-simple numbers (type_name w) (nesting l) e = absurd (cc)
same-simple numbers (type_name w) (namespaced n l) e = absurd (cc)
same-simple numbers (id w) universal e = absurd (cc)
same-simple numbers (id w) (type_name x) e = absurd (cc)
same-simple numbers (id x) (id y) e =
    let h = sym ((bytes_eq-Decides x y).0 e) in (ap id h, ap id h)
same-simple numbers (id w) (class x) e = absurd (cc)
same-simple numbers (id w) (has_attribute x) e = absurd (cc)
same-simple numbers (id w) (attribute x c v i) e = absurd (cc)
same-simple numbers (id w) (structure s) e = absurd (cc)
same-simple numbers (id w) (language r) e = absurd (cc)
same-simple numbers (id w) (state x) e = absurd (cc)
same-simple numbers (id w) (function x a) e = absurd (cc)
same-simple numbers (id w) (named_element x a) e = absurd (cc)
same-simple numbers (id w) (nesting l) e = absurd (cc)
same-simple numbers (id w) (namespaced n l) e = absurd (cc)
same-simple numbers (class w) universal e = absurd (cc)
same-simple numbers (class w) (type_name x) e = absurd (cc)
same-simple numbers (class w) (id x) e = absurd (cc)
same-simple numbers (class x) (class y) e =
    let h = sym ((bytes_eq-Decides x y).0 e) in (ap class h, ap class h)
same-simple numbers (class w) (has_attribute x) e = absurd (cc)
same-simple numbers (class w) (attribute x c v i) e = absurd (cc)
same-simple numbers (class w) (structure s) e = absurd (cc)
same-simple numbers (class w) (language r) e = absurd (cc)
same-simple numbers (class w) (state x) e = absurd (cc)
same-simple numbers (class w) (function x a) e = absurd (cc)
same-simple numbers (class w) (named_element x a) e = absurd (cc)
same-simple numbers (class w) (nesting l) e = absurd (cc)
same-simple numbers (class w) (namespaced n l) e = absurd (cc)
same-simple numbers (has_attribute x) other e = absurd (cc)
same-simple numbers (attribute x c v i) other e = absurd (cc)
same-simple numbers (structure s) other e = absurd (cc)
same-simple numbers (language r) other e = absurd (cc)
same-simple numbers (state x) other e = absurd (cc)
same-simple numbers (function x a) other e = absurd (cc)
same-simple numbers (named_element x a) other e = absurd (cc)
same-simple numbers (nesting l) other e = absurd (cc)
same-simple numbers (namespaced n l) other e = absurd (cc)

same-condition : (numbers : List ℕ) (lists : List ListText) (s c : Condition) → is_same s c ≡ true
    → (c ≡ s) × (numbered_condition numbers lists c ≡ (s, lists))
same-condition numbers lists (simple a) (simple b) e =
    let h = same-simple numbers a b e in (ap simple h.0, ap (λ s. (simple s, lists)) h.1)
same-condition numbers lists (simple s) (negation l) e = absurd (cc)
same-condition numbers lists (simple s) (any_of l) e = absurd (cc)
same-condition numbers lists (simple s) (where_any l) e = absurd (cc)
same-condition numbers lists (simple s) (tested t l) e = absurd (cc)
same-condition numbers lists (negation l) other e = absurd (cc)
same-condition numbers lists (any_of l) other e = absurd (cc)
same-condition numbers lists (where_any l) other e = absurd (cc)
same-condition numbers lists (tested t l) other e = absurd (cc)

same-all : (numbers : List ℕ) (lists : List ListText) (ss cs : List Condition) → are_same ss cs ≡ true
    → (cs ≡ ss) × ((numbered_conditions numbers lists cs).0 ≡ ss)
same-all numbers lists [] [] e = (refl, refl)
same-all numbers lists [] (c ∷ cs) e = absurd (cc)
same-all numbers lists (s ∷ ss) [] e = absurd (cc)
same-all numbers lists (s ∷ ss) (c ∷ cs) e =
    let one = same-condition numbers lists s c (both-left (is_same s c) (are_same ss cs) e) in
    let more = same-all numbers lists ss cs (both-right (is_same s c) (are_same ss cs) e) in (
      ap (λ x. x ∷ cs) one.0 ∙ ap (λ xs. s ∷ xs) more.0,
      ap (λ (m : Condition × List ListText). m.0 ∷ (numbered_each (numbered_condition numbers) m.1 cs).0) one.1
          ∙ ap (λ xs. s ∷ xs) more.1,
    )

module _ {Node : Type 0} (d : Document Node) where
  -- ---- what is beyond

  beyond_both : {a m n : Node} → IsBeyond d.parent a m → IsBeyond d.parent m n → IsBeyond d.parent a n
  beyond_both up (is_next e) = is_further e up
  beyond_both up (is_further e q) = is_further e (beyond_both up q)

  beyond_shared : {a m n : Node} → d.parent m ≡ d.parent n → IsBeyond d.parent a m → IsBeyond d.parent a n
  beyond_shared same (is_next e) = is_next (sym same ∙ e)
  beyond_shared same (is_further e q) = is_further (sym same ∙ e) q

  first_up : (c : Combinator) (m n : Node) → leads_within c ≡ true → Relates (shape d) c m n
      → IsBeyond d.parent m n
  first_up Descendant m n e r = r
  first_up Child m n e r = is_next r
  first_up Adjacent m n e r = absurd (cc)
  first_up Sibling m n e r = absurd (cc)

  -- ---- what begins with a compound

  -- A node that meets the first compound meets these conditions, and what follows is within.
  abbrev pub Begins : Bool → List Condition → List Part → Type 0
  Begins itself scope [] = ⊥
  Begins itself scope (p ∷ parts) =
      ((m : Node) → AreMet d (conditions_from p.conditions) m → AreMet d (conditions_from scope) m)
      × (may_follow itself parts ≡ true)

  is-met : (ss cs : List Condition) → cs ≡ ss → (m : Node) → AreMet d (conditions_from cs) m
      → AreMet d (conditions_from ss) m
  is-met ss cs e m h = subst (λ all. AreMet d (conditions_from all) m) e h

  any-met : (ss cs : List Condition) → are_same ss cs ≡ true → (m : Node)
      → AreMet d (conditions_from (or_any cs)) m → AreMet d (conditions_from ss) m
  any-met [] cs e m h = tt
  any-met (s ∷ ss) [] e m h = absurd (cc)
  any-met (s ∷ ss) (c ∷ cs) e m h = is-met (s ∷ ss) (c ∷ cs) (same-all [] [] (s ∷ ss) (c ∷ cs) e).0 m h

  any-numbered : (numbers : List ℕ) (lists : List ListText) (ss cs : List Condition) → are_same ss cs ≡ true
      → (m : Node) → AreMet d (conditions_from (numbered_conditions numbers lists (or_any cs)).0) m
      → AreMet d (conditions_from ss) m
  any-numbered numbers lists [] cs e m h = tt
  any-numbered numbers lists (s ∷ ss) [] e m h = absurd (cc)
  any-numbered numbers lists (s ∷ ss) (c ∷ cs) e m h =
      is-met (s ∷ ss) (numbered_conditions numbers lists (c ∷ cs)).0
      (same-all numbers lists (s ∷ ss) (c ∷ cs) e).1 m h

  follows-any : (itself : Bool) (parts : List Part) → may_follow itself parts ≡ true
      → may_follow itself (map part_or_any parts) ≡ true
  follows-any itself [] e = e
  follows-any itself (p ∷ parts) e = e

  follows-numbered : (itself : Bool) (numbers : List ℕ) (lists : List ListText) (parts : List Part)
      → may_follow itself parts ≡ true → may_follow itself (numbered_parts numbers lists parts).0 ≡ true
  follows-numbered itself numbers lists [] e = e
  follows-numbered itself numbers lists (p ∷ parts) e = e

  module _ (itself : Bool) (scope : Part) where
    pub begins : (parts : List Part) → begins_with itself scope parts ≡ true
        → Begins itself scope.conditions parts
    begins [] e = absurd (cc)
    begins (p ∷ parts) e = (
      is-met scope.conditions p.conditions (same-all [] [] scope.conditions p.conditions (both-left _ (may_follow itself parts) e)).0,
      both-right (are_same scope.conditions p.conditions) _ e,
    )

    pub begins-any : (parts : List Part) → begins_with itself scope parts ≡ true
        → Begins itself scope.conditions (map part_or_any parts)
    begins-any [] e = absurd (cc)
    begins-any (p ∷ parts) e = (
      any-met scope.conditions p.conditions (both-left _ (may_follow itself parts) e),
      follows-any itself parts (both-right (are_same scope.conditions p.conditions) _ e),
    )

    pub begins-numbered : (numbers : List ℕ) (lists : List ListText) (parts : List Part)
        → begins_with itself scope parts ≡ true
        → Begins itself scope.conditions (numbered_parts numbers lists parts).0
    begins-numbered numbers lists [] e = absurd (cc)
    begins-numbered numbers lists (p ∷ parts) e = (
      is-met scope.conditions (numbered_conditions numbers lists p.conditions).0
          (same-all numbers lists scope.conditions p.conditions (both-left _ (may_follow itself parts) e)).1,
      follows-numbered itself numbers _ parts (both-right (are_same scope.conditions p.conditions) _ e),
    )

    pub begins-any-numbered : (numbers : List ℕ) (lists : List ListText) (parts : List Part)
        → begins_with itself scope parts ≡ true
        → Begins itself scope.conditions (numbered_parts numbers lists (map part_or_any parts)).0
    begins-any-numbered numbers lists [] e = absurd (cc)
    begins-any-numbered numbers lists (p ∷ parts) e = (
      any-numbered numbers lists scope.conditions p.conditions (both-left _ (may_follow itself parts) e),
      follows-numbered itself numbers _ (map part_or_any parts)
          (follows-any itself parts (both-right (are_same scope.conditions p.conditions) _ e)),
    )

  -- ---- placements

  module _ (shared : SiblingsShareParent (shape d)) where
    beyond_related : (c : Combinator) (a m n : Node) → Relates (shape d) c m n → IsBeyond d.parent a m
        → IsBeyond d.parent a n
    beyond_related Descendant a m n r up = beyond_both up r
    beyond_related Child a m n r up = beyond_both up (is_next r)
    beyond_related Adjacent a m n r up = beyond_shared (sibling_parent (shape d) shared m n r) up
    beyond_related Sibling a m n r up = beyond_shared (beyond_parent (shape d) shared r) up

    above_end : (a m : Node) (ps : List Part) (ns : List Node) (end : Node) → IsBeyond d.parent a m
        → ContinuesPlacement d m ps ns end → IsBeyond d.parent a end
    above_end a m [] [] end up h = subst (λ n. IsBeyond d.parent a n) h up
    above_end a m [] (n ∷ ns) end up h = absurd h
    above_end a m (p ∷ ps) [] end up h = absurd h
    above_end a m (p ∷ ps) (n ∷ ns) end up h =
        above_end a n ps ns end (beyond_related p.combinator a m n h.0 up) h.2

    after_first : (itself : Bool) (m : Node) (ps : List Part) (ns : List Node) (end : Node)
        → may_follow itself ps ≡ true → ContinuesPlacement d m ps ns end → IsAbove d itself m end
    after_first itself m [] [] end e h = inr (e, h)
    after_first itself m [] (n ∷ ns) end e h = absurd h
    after_first itself m (p ∷ ps) [] end e h = absurd h
    after_first itself m (p ∷ ps) (n ∷ ns) end e h =
        inl (above_end m n ps ns end (first_up p.combinator m n e h.0) h.2)

    placed_within : (itself : Bool) (scope : List Condition) (parts : List Part) (nodes : List Node) (end : Node)
        → Begins itself scope parts → IsPlacementList d parts nodes end
        → (m : Node) × IsAbove d itself m end × AreMet d (conditions_from scope) m
    placed_within itself scope [] nodes end b h = absurd b
    placed_within itself scope (p ∷ ps) [] end b h = absurd h
    placed_within itself scope (p ∷ ps) (n ∷ ns) end b h =
        (n, after_first itself n ps ns end b.1 h.1, b.0 n h.0)

    some-parts : (itself : Bool) (scope : List Condition) (parts : List Part) → Begins itself scope parts
        → 0 < length parts
    some-parts itself scope [] b = absurd b
    some-parts itself scope (p ∷ ps) b = omega arith

    -- what a selector matches that begins so is within a node that meets the conditions
    pub matched_within : (itself : Bool) (scope : List Condition) (s : Selector) (n : Node)
        → Begins itself scope s.parts → Matches d s n
        → (m : Node) × IsAbove d itself m n × AreMet d (conditions_from scope) m
    matched_within itself scope s n b h =
        let list = ((matches_list d s n (some-parts itself scope s.parts b)).0 h).1 in
        placed_within itself scope s.parts list.0 n b list.1

  -- a selector of one compound matches what meets it
  pub sole_matches : (s : Selector) (part : Part) (m : Node) → s.pseudo_element ≡ None → s.parts ≡ part ∷ []
      → AreMet d (conditions_from part.conditions) m → Matches d s m
  sole_matches s part m none e h =
      let some : 0 < length s.parts = rw e (omega arith) in
      (matches_list d s m some).1
      (none, subst (λ parts. HasPlacementList d parts m) (sym e) (m ∷ [], (h, refl)))
