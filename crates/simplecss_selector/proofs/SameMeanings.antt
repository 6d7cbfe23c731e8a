-- No selector distinguishes related nodes of two trees: it has a placement on both or on neither.
-- Serves `laws::same_meanings_law`.
use Rattle.std.proofs.Common.{◌≡◌, ℕ, zero, suc, ◌↔◌, List, [], ◌∷◌, Option, Some, None, refl, sym, ap, ◌∙◌, subst, get_or}
use Rattle.std.specs.Option.{option_map}
use Rattle.simplecss_grammar.specs.Components.{Component, Compound, Subselector, Combinator}
use Rattle.simplecss_grammar.specs.Components.Subselector.{attribute, pseudo_class}
use Rattle.simplecss_grammar.specs.Components.Combinator.{none, descendant, child, adjacent}
use Rattle.simplecss_selector.specs.Trees.{Tree}
use Rattle.simplecss_selector.specs.Placements.{IsAncestor, HasName, Holds, Meets, Relates, HasPlacement}
use Rattle.simplecss_selector.specs.Placements.IsAncestor.{is_parent, is_further}
use Rattle.simplecss_selector.specs.internal.PlacementSearch.{Reaches}
use Rattle.simplecss_selector.specs.Shapes.{backwards}
use Rattle.simplecss_selector.specs.Meanings.{AreNoneOrRelated, AnswerAlike, AreAlikeWithin, AreAlike, KeepsMeanings}
use Rattle.simplecss_selector.specs.internal.RelatedMeanings.{RelatesMeanings}
use Rattle.simplecss_selector.proofs.Ancestors.{same_some, no_some}
use Rattle.simplecss_selector.proofs.Reaching.{reaches_from, placement_from}

-- where one is there, the other is, and they are related
related_some : {M N : Type 0} (related : M → N → Type 0) (o : Option M) (p : Option N) (m : M)
    → AreNoneOrRelated related o p → o ≡ Some m → (n : N) × (p ≡ Some n) × related m n
related_some related None p m r e = absurd (no_some refl e)
related_some related (Some x) None m r e = absurd r
related_some related (Some x) (Some y) m r e = (y, refl, subst (λ a. related a y) (same_some e) r)

module _ {M N : Type 0} (tree : Tree M) (other : Tree N) (related : M → N → Type 0)
    (same : RelatesMeanings tree other related) where
  ancestor_related : (a m : M) (n : N) → related m n → IsAncestor tree a m
      → (b : N) × related a b × IsAncestor other b n
  ancestor_related a m n r (is_parent e) =
      let up = related_some related (tree.parent m) (other.parent n) a (same.parents m n r) e in
      (up.0, up.2, is_parent up.1)
  ancestor_related a m n r (is_further {p = p} e above) =
      let up = related_some related (tree.parent m) (other.parent n) p (same.parents m n r) e in
      let rest = ancestor_related a p up.0 up.2 above in
      (rest.0, rest.1, is_further up.1 rest.2)

  relative_related : (c : Combinator) (a m : M) (n : N) → related m n → Relates tree c a m
      → (b : N) × related a b × Relates other c b n
  relative_related none a m n r h = absurd h
  relative_related descendant a m n r h = ancestor_related a m n r h
  relative_related child a m n r h =
      let up = related_some related (tree.parent m) (other.parent n) a (same.parents m n r) h in
      (up.0, up.2, up.1)
  relative_related adjacent a m n r h =
      let back = related_some related (tree.previous_sibling m) (other.previous_sibling n) a
      (same.siblings m n r) h in
      (back.0, back.2, back.1)

  name_related : (name : Option (List ℕ)) (m : M) (n : N) → related m n → HasName tree m name
      → HasName other n name
  name_related None m n r h = h
  name_related (Some name) m n r h = sym (same.names m n r name) ∙ h

  holds_related : (s : Subselector) (m : M) (n : N) → related m n → Holds tree m s → Holds other n s
  holds_related (attribute name operator) m n r h = sym (same.attributes m n r name operator) ∙ h
  holds_related (pseudo_class class) m n r h = sym (same.pseudo_classes m n r class) ∙ h

  meets_related : (compound : Compound) (m : M) (n : N) → related m n → Meets tree m compound
      → Meets other n compound
  meets_related compound m n r h = (
    name_related compound.name m n r h.0,
    λ k d l. holds_related (get_or compound.subselectors k d) m n r (h.1 k d l),
  )

  reaches_related : (cs : List Component) (m : M) (n : N) → related m n → Reaches tree cs m
      → Reaches other cs n
  reaches_related [] m n r h = h
  reaches_related (c ∷ []) m n r h = (meets_related c.compound m n r h.0, tt)
  reaches_related (c ∷ d ∷ cs) m n r (met, (a, relation, rest)) =
      let before = relative_related c.combinator a m n r relation in (
        meets_related c.compound m n r met,
        (before.0, before.2, reaches_related (d ∷ cs) a before.0 before.1 rest),
      )

  placement_related : (cs : List Component) (m : M) (n : N) → related m n → HasPlacement tree cs m
      → HasPlacement other cs n
  placement_related cs m n r h =
      placement_from other cs n (reaches_related (backwards cs []) m n r (reaches_from tree cs m h))

-- the same relation, seen from the other tree
none_or_related_turned : {M N : Type 0} (related : M → N → Type 0) (o : Option M) (p : Option N)
    → AreNoneOrRelated related o p → AreNoneOrRelated (λ n m. related m n) p o
none_or_related_turned related None None r = r
none_or_related_turned related None (Some n) r = r
none_or_related_turned related (Some m) None r = r
none_or_related_turned related (Some m) (Some n) r = r

turned : {M N : Type 0} (tree : Tree M) (other : Tree N) (related : M → N → Type 0)
    → RelatesMeanings tree other related → RelatesMeanings other tree (λ n m. related m n)
turned tree other related same = record {
  parents =
      λ n m r. none_or_related_turned related (tree.parent m) (other.parent n) (same.parents m n r);
  siblings = λ n m r. none_or_related_turned related (tree.previous_sibling m)
      (other.previous_sibling n) (same.siblings m n r);
  names = λ n m r name. sym (same.names m n r name);
  attributes = λ n m r name operator. sym (same.attributes m n r name operator);
  pseudo_classes = λ n m r class. sym (same.pseudo_classes m n r class);
}

pub placements_related : {M N : Type 0} (tree : Tree M) (other : Tree N) (related : M → N → Type 0)
    → RelatesMeanings tree other related → (cs : List Component) (m : M) (n : N) → related m n
    → HasPlacement tree cs m ↔ HasPlacement other cs n
placements_related tree other related same cs m n r = (
  placement_related tree other related same cs m n r,
  placement_related other tree (λ n m. related m n) (turned tree other related same) cs n m r,
)

-- what holds of the nodes that are there within each number of steps
none_or_alike : {M N : Type 0} (within : ℕ → M → N → Type 0) (o : Option M) (p : Option N)
    → ((steps : ℕ) → AreNoneOrRelated (within steps) o p)
    → AreNoneOrRelated (λ m n. (steps : ℕ) → within steps m n) o p
none_or_alike within None None h = tt
none_or_alike within None (Some n) h = h 0
none_or_alike within (Some m) None h = h 0
none_or_alike within (Some m) (Some n) h = h

alike_relates : {M N : Type 0} (tree : Tree M) (other : Tree N)
    → RelatesMeanings tree other (AreAlike tree other)
alike_relates tree other = record {
  parents = λ m n h. none_or_alike (AreAlikeWithin tree other) (tree.parent m) (other.parent n)
      (λ steps. (h (suc steps)).1);
  siblings = λ m n h. none_or_alike (AreAlikeWithin tree other) (tree.previous_sibling m)
      (other.previous_sibling n) (λ steps. (h (suc steps)).2);
  names = λ m n h name. (h 0).names name;
  attributes = λ m n h name operator. (h 0).attributes name operator;
  pseudo_classes = λ m n h class. (h 0).pseudo_classes class;
}

pub placements_alike : {M N : Type 0} (tree : Tree M) (other : Tree N) (cs : List Component)
    (m : M) (n : N) → AreAlike tree other m n → HasPlacement tree cs m ↔ HasPlacement other cs n
placements_alike tree other cs m n h =
    placements_related tree other (AreAlike tree other) (alike_relates tree other) cs m n h

module _ {M N : Type 0} (tree : Tree M) (other : Tree N) (related : M → N → Type 0)
    (same : RelatesMeanings tree other related) where
  answers_related : (m : M) (n : N) → related m n → AnswerAlike tree other m n
  answers_related m n r = record {
    names = same.names m n r;
    attributes = same.attributes m n r;
    pseudo_classes = same.pseudo_classes m n r;
  }

  within_related : (within : M → N → Type 0) → ((m : M) (n : N) → related m n → within m n)
      → (o : Option M) (p : Option N) → AreNoneOrRelated related o p → AreNoneOrRelated within o p
  within_related within more None None r = tt
  within_related within more None (Some n) r = r
  within_related within more (Some m) None r = r
  within_related within more (Some m) (Some n) r = more m n r

  -- nodes are alike that such a relation relates
  pub alike-related : (steps : ℕ) (m : M) (n : N) → related m n
      → AreAlikeWithin tree other steps m n
  alike-related zero m n r = answers_related m n r
  alike-related (suc steps) m n r = (
    answers_related m n r,
    within_related (AreAlikeWithin tree other steps) (alike-related steps) (tree.parent m)
        (other.parent n) (same.parents m n r),
    within_related (AreAlikeWithin tree other steps) (alike-related steps) (tree.previous_sibling m)
        (other.previous_sibling n) (same.siblings m n r),
  )

-- a map that keeps meanings relates each node to its image
image_related : {M N : Type 0} (image : M → N) (o : Option M) (p : Option N)
    → p ≡ option_map image o → AreNoneOrRelated (λ m n. n ≡ image m) o p
image_related image None None e = tt
image_related image None (Some n) e = absurd (no_some e refl)
image_related image (Some m) None e = absurd (no_some refl e)
image_related image (Some m) (Some n) e = same_some e

images_relate : {M N : Type 0} (tree : Tree M) (other : Tree N) (image : M → N)
    → KeepsMeanings tree other image → RelatesMeanings tree other (λ m n. n ≡ image m)
images_relate tree other image keeps = record {
  parents = λ m n e.
      image_related image (tree.parent m) (other.parent n) (ap other.parent e ∙ keeps.parents m);
  siblings = λ m n e. image_related image (tree.previous_sibling m) (other.previous_sibling n)
      (ap other.previous_sibling e ∙ keeps.siblings m);
  names = λ m n e name. sym (ap (λ x. other.is_named x name) e ∙ keeps.names m name);
  attributes = λ m n e name operator.
      sym (ap (λ x. other.has_attribute x name operator) e ∙ keeps.attributes m name operator);
  pseudo_classes = λ m n e class.
      sym (ap (λ x. other.is_in_pseudo_class x class) e ∙ keeps.pseudo_classes m class);
}

pub placement_image : {M N : Type 0} (tree : Tree M) (other : Tree N) (image : M → N)
    → KeepsMeanings tree other image → (cs : List Component) (n : M)
    → HasPlacement tree cs n ↔ HasPlacement other cs (image n)
placement_image tree other image keeps cs n =
    placements_related tree other (λ m b. b ≡ image m) (images_relate tree other image keeps) cs n
    (image n) refl
