-- A selector of CSS 2.1 and the modern one that it is converted to have placements on the same elements.
-- Serves `converted_law`.
use Rattle.std.proofs.Common.{◌≡◌, ◌≢◌, ◌↔◌, ℕ, suc, ◌<◌, List, [], ◌∷◌, length, map, Option, None, Some, IsTrue, refl, sym, ◌∙◌, subst, arith}
use Rattle.std.specs.List.{All}
use Rattle.std.proofs.lemmas.List.Elements.{All-head, All-tail, All-cons, All-from_get_or}
use Rattle.css_matching.specs.Placements.{IsBeyond, Relates}
use Rattle.css_matching.specs.Placements.IsBeyond.{is_next, is_further as is_beyond_further}
use Rattle.simplecss_grammar.specs.Components.{Combinator, Component, Subselector}
use Rattle.simplecss_grammar.specs.Components.Combinator.{none, descendant, child, adjacent}
use Rattle.simplecss_grammar.specs.Components.Subselector.{attribute, pseudo_class}
use Rattle.simplecss_selector.specs.Meanings.{AreNoneOrRelated}
use Rattle.simplecss_selector.specs.Placements.{IsAncestor, HasName, Holds, Meets, HasPlacement, ContinuesPlacement as PortContinues, Relates as PortRelates}
use Rattle.simplecss_selector.specs.Placements.IsAncestor.{is_parent, is_further}
use Rattle.simplecss_selector.specs.Shapes.{IsSelector, any_component}
use Rattle.simplecss_selector.specs.Trees.{Tree}
use Rattle.css_selectors.proofs.PlacementListLemmas.{matches_list}
use Rattle.css_selector_text.specs.Components.{conditions_from}
use Rattle.css_selector_text.specs.Components.Condition.{simple}
use Rattle.css_selectors.specs.Documents.{Document, shape}
use Rattle.css_selectors.specs.Meanings.{AreMet, Matches, holds}
use Rattle.css_selectors.specs.PlacementLists.{ContinuesPlacement, HasPlacementList}
use Rattle.css_laws.specs.Converted.{combinator_of, type_of, simple_of, part_of, converted}
use Rattle.css_laws.specs.OneTree.{MeansTheSame, AreOneWithin, AreOne}
use Rattle.css_laws.proofs.ValueLemmas.{same_attribute}

-- what holds of the nodes that are there within each number of steps
none_or_all : {M N : Type 0} (within : ℕ → M → N → Type 0) (o : Option M) (p : Option N)
    → ((steps : ℕ) → AreNoneOrRelated (within steps) o p)
    → AreNoneOrRelated (λ m n. (steps : ℕ) → within steps m n) o p
none_or_all within None None h = tt
none_or_all within None (Some n) h = h 0
none_or_all within (Some m) None h = h 0
none_or_all within (Some m) (Some n) h = h

-- where one is there, the other is, and they are related
right_of : {M N : Type 0} (related : M → N → Type 0) (o : Option M) (p : Option N) (m : M)
    → AreNoneOrRelated related o p → o ≡ Some m → (n : N) × (p ≡ Some n) × related m n
right_of related None p m r e = absurd (cc)
right_of related (Some x) None m r e = absurd r
right_of related (Some x) (Some y) m r e =
    (y, refl, let same : x ≡ m = cc in subst (λ a. related a y) same r)

left_of : {M N : Type 0} (related : M → N → Type 0) (o : Option M) (p : Option N) (n : N)
    → AreNoneOrRelated related o p → p ≡ Some n → (m : M) × (o ≡ Some m) × related m n
left_of related o None n r e = absurd (cc)
left_of related None (Some y) n r e = absurd r
left_of related (Some x) (Some y) n r e =
    (x, refl, let same : y ≡ n = cc in subst (related x) same r)

module _ {M N : Type 0} (document : Document M) (tree : Tree N) (all : List Component) where
  abbrev Same : M → N → Type 0
  Same m n = AreOne document tree all m n

  parents : (m : M) (n : N) → Same m n
      → AreNoneOrRelated Same (document.parent m) (tree.parent n)
  parents m n same =
      none_or_all (AreOneWithin document tree all) (document.parent m) (tree.parent n)
      (λ steps. (same (suc steps)).1)

  siblings : (m : M) (n : N) → Same m n
      → AreNoneOrRelated Same (document.previous_sibling m) (tree.previous_sibling n)
  siblings m n same =
      none_or_all (AreOneWithin document tree all) (document.previous_sibling m)
      (tree.previous_sibling n) (λ steps. (same (suc steps)).2)

  ancestor_in_document : (a n : N) (m : M) → Same m n → IsAncestor tree a n
      → (b : M) × Same b a × IsBeyond document.parent b m
  ancestor_in_document a n m same (is_parent e) =
      let up = left_of Same (document.parent m) (tree.parent n) a (parents m n same) e in
      (up.0, up.2, is_next up.1)
  ancestor_in_document a n m same (is_further {p = p} e above) =
      let up = left_of Same (document.parent m) (tree.parent n) p (parents m n same) e in
      let rest = ancestor_in_document a p up.0 up.2 above in
      (rest.0, rest.1, is_beyond_further up.1 rest.2)

  ancestor_in_tree : (b m : M) (n : N) → Same m n → IsBeyond document.parent b m
      → (a : N) × Same b a × IsAncestor tree a n
  ancestor_in_tree b m n same (is_next e) =
      let up = right_of Same (document.parent m) (tree.parent n) b (parents m n same) e in
      (up.0, up.2, is_parent up.1)
  ancestor_in_tree b m n same (is_beyond_further {p = p} e above) =
      let up = right_of Same (document.parent m) (tree.parent n) p (parents m n same) e in
      let rest = ancestor_in_tree b p up.0 up.2 above in
      (rest.0, rest.1, is_further up.1 rest.2)

  related_in_document : (c : Combinator) (a n : N) (m : M) → Same m n → PortRelates tree c a n
      → (b : M) × Same b a × Relates (shape document) (combinator_of c) b m
  related_in_document none a n m same h = absurd h
  related_in_document descendant a n m same h = ancestor_in_document a n m same h
  related_in_document child a n m same h =
      let up = left_of Same (document.parent m) (tree.parent n) a (parents m n same) h in
      (up.0, up.2, up.1)
  related_in_document adjacent a n m same h =
      let back = left_of Same (document.previous_sibling m) (tree.previous_sibling n) a
      (siblings m n same) h in
      (back.0, back.2, back.1)

  related_in_tree : (c : Combinator) → c ≢ none → (b m : M) (n : N) → Same m n
      → Relates (shape document) (combinator_of c) b m
      → (a : N) × Same b a × PortRelates tree c a n
  related_in_tree none some b m n same h = absurd (some refl)
  related_in_tree descendant some b m n same h = ancestor_in_tree b m n same h
  related_in_tree child some b m n same h =
      let up = right_of Same (document.parent m) (tree.parent n) b (parents m n same) h in
      (up.0, up.2, up.1)
  related_in_tree adjacent some b m n same h =
      let back = right_of Same (document.previous_sibling m) (tree.previous_sibling n) b
      (siblings m n same) h in
      (back.0, back.2, back.1)

  -- A compound means the same on the element to both.
  same_name : (name : Option (List ℕ)) (m : M) (n : N) → Same m n
      → HasName tree n name ↔ IsTrue (holds document m (type_of name))
  same_name None m n same = (λ h. refl, λ h. tt)
  same_name (Some name) m n same =
      let e = (same 0).names name in (λ h. sym e ∙ h, λ h. e ∙ h)

  same_simple : (s : Subselector) (m : M) (n : N) → Same m n → MeansTheSame document tree m n s
      → Holds tree n s ↔ IsTrue (holds document m (simple_of s))
  same_simple (attribute name operator) m n same means =
      let e = (same 0).attributes name operator ∙ same_attribute document m name operator means in
      (λ h. sym e ∙ h, λ h. e ∙ h)
  same_simple (pseudo_class class) m n same means = (λ h. sym means ∙ h, λ h. means ∙ h)

  same_conditions : (ss : List Subselector) (m : M) (n : N) → Same m n
      → All (MeansTheSame document tree m n) ss
      → All (Holds tree n) ss ↔ AreMet document (conditions_from (map (λ s. simple (simple_of s)) ss)) m
  same_conditions [] m n same means = (λ h. tt, λ h k d lt. absurd (omega (arith, lt)))
  same_conditions (s ∷ ss) m n same means =
      let first = same_simple s m n same (All-head (MeansTheSame document tree m n) s ss means) in
      let rest = same_conditions ss m n same (All-tail (MeansTheSame document tree m n) s ss means) in (
        λ h. (first.0 (All-head (Holds tree n) s ss h), rest.0 (All-tail (Holds tree n) s ss h)),
        λ h. All-cons (Holds tree n) s ss (first.1 h.0) (rest.1 h.1),
      )

  -- a component whose subselectors mean the same on every element
  abbrev Suits : Component → Type 0
  Suits c = (m : M) (n : N) → Same m n → All (MeansTheSame document tree m n) c.compound.subselectors

  abbrev Meets' : Component → M → Type 0
  Meets' c m = AreMet document (conditions_from (part_of c).conditions) m

  same_compound : (c : Component) (m : M) (n : N) → Same m n → Suits c
      → Meets tree n c.compound ↔ Meets' c m
  same_compound c m n same suits =
      let name = same_name c.compound.name m n same in
      let rest = same_conditions c.compound.subselectors m n same (suits m n same) in
      (λ h. (name.0 h.0, rest.0 h.1), λ h. (name.1 h.0, rest.1 h.1))

  continues_in_document : (cs : List Component) → All Suits cs → (a : N) (ns : List N) (m : M) (n : N)
      → Same m n → PortContinues tree a cs ns n
      → (b : M) × Same b a × (ms : List M) × ContinuesPlacement document b (map part_of cs) ms m
  continues_in_document [] suits a [] m n same h = (m, subst (Same m) (sym h) same, [], refl)
  continues_in_document [] suits a (x ∷ ns) m n same h = absurd h
  continues_in_document (c ∷ cs) suits a [] m n same h = absurd h
  continues_in_document (c ∷ cs) suits a (x ∷ ns) m n same h =
      let (y, one, ms, rest) =
      continues_in_document cs (All-tail Suits c cs suits) x ns m n same h.2 in
      let (b, before, relates) = related_in_document c.combinator a x y one h.0 in
      let met = (same_compound c y x one (All-head Suits c cs suits)).0 h.1 in
      (b, before, y ∷ ms, (relates, met, rest))

  continues_in_tree : (cs : List Component) → All Suits cs → All (λ c. c.combinator ≢ none) cs
      → (b : M) (ms : List M) (m : M) (n : N) → Same m n
      → ContinuesPlacement document b (map part_of cs) ms m
      → (a : N) × Same b a × (ns : List N) × PortContinues tree a cs ns n
  continues_in_tree [] suits joined b [] m n same h =
      (n, subst (λ x. Same x n) (sym h) same, [], refl)
  continues_in_tree [] suits joined b (y ∷ ms) m n same h = absurd h
  continues_in_tree (c ∷ cs) suits joined b [] m n same h = absurd h
  continues_in_tree (c ∷ cs) suits joined b (y ∷ ms) m n same h =
      let (x, one, ns, rest) =
      continues_in_tree cs (All-tail Suits c cs suits) (All-tail (λ c. c.combinator ≢ none) c cs joined)
      y ms m n same h.2 in
      let (a, before, relates) =
      related_in_tree c.combinator (All-head (λ c. c.combinator ≢ none) c cs joined) b y x one h.0 in
      let met = (same_compound c y x one (All-head Suits c cs suits)).1 h.1 in
      (a, before, x ∷ ns, (relates, met, rest))

  suits_all : All Suits all
  suits_all k d lt m n same = (same 0).meanings k d lt

  in_document : (cs : List Component) → All Suits cs → (m : M) (n : N) → Same m n
      → HasPlacement tree cs n → HasPlacementList document (map part_of cs) m
  in_document [] suits m n same h = absurd h.1
  in_document (c ∷ cs) suits m n same ([], h) = absurd h
  in_document (c ∷ cs) suits m n same (x ∷ ns, h) =
      let (y, one, ms, rest) =
      continues_in_document cs (All-tail Suits c cs suits) x ns m n same h.1 in
      (y ∷ ms, ((same_compound c y x one (All-head Suits c cs suits)).0 h.0, rest))

  in_tree : (cs : List Component) → All Suits cs → IsSelector cs → (m : M) (n : N) → Same m n
      → HasPlacementList document (map part_of cs) m → HasPlacement tree cs n
  in_tree [] suits is m n same h = absurd h.1
  in_tree (c ∷ cs) suits is m n same ([], h) = absurd h
  in_tree (c ∷ cs) suits is m n same (y ∷ ms, h) =
      let joined : All (λ c. c.combinator ≢ none) cs =
      All-from_get_or (λ c. c.combinator ≢ none) cs any_component
      (λ k lt e. absurd (let first = (is.1 (suc k) (omega (arith, lt))).0 e in omega (arith, first))) in
      let (x, one, ns, rest) =
      continues_in_tree cs (All-tail Suits c cs suits) joined y ms m n same h.1 in
      (x ∷ ns, ((same_compound c y x one (All-head Suits c cs suits)).1 h.0, rest))

some_parts : (cs : List Component) → 0 < length cs → 0 < length (map part_of cs)
some_parts [] some = absurd (omega (arith, some))
some_parts (c ∷ cs) some = omega arith

pub converted_matches : {M N : Type 0} (document : Document M) (tree : Tree N) (cs : List Component)
    → IsSelector cs → (m : M) (n : N) → AreOne document tree cs m n
    → HasPlacement tree cs n ↔ Matches document (converted cs) m
converted_matches document tree cs is m n same =
    let listed = matches_list document (converted cs) m (some_parts cs is.0) in
    let suits = suits_all document tree cs in (
      λ h. listed.1 (refl, in_document document tree cs cs suits m n same h),
      λ h. in_tree document tree cs cs suits is m n same (listed.0 h).1,
    )
