-- Selectors kept in flat lists are equal exactly if their components are.
-- Serves `==` of selectors and `laws::operator_equality_laws`.
use Rattle.std.proofs.Common.{◌≡◌, ℕ, zero, suc, ◌+◌, ◌-◌, ◌≤◌, List, [], ◌∷◌, ◌++◌, Bool, ◌&&◌, Option, Some, None, length, drop, take, map, refl, sym, ap, ◌∙◌, arith, eqb, flat_map, Bor}
use Rattle.std.specs.Bool.{Decides}
use Rattle.std.specs.Cmp.Derive.Mapped.{pointwise-map}
use Rattle.std.specs.Cmp.Lexicographic.{pointwise, pointwise_decides}
use Rattle.std.specs.List.{slice_range}
use Rattle.std.specs.Option.{option_map, option_eq}
use Rattle.std.proofs.Math.Bool.{and_assoc, and-true, and-false}
use Rattle.std.proofs.lemmas.Bool.Decides.{Decides-eqb, same_from_decides}
use Rattle.std.proofs.lemmas.List.{take-map, drop_all, map-append, length-map, length-take, length-drop}
use Rattle.std.proofs.lemmas.List.Folds.{drop_split}
use Rattle.simplecss_grammar.specs.Components.{Component, Subselector, Combinator}
use Rattle.simplecss_selector.specs.OperatorViews.{operator_of, pseudo_class_of}
use Rattle.simplecss_selector.specs.internal.CombinatorViews.{combinator_of}
use Rattle.simplecss_selector.specs.internal.SelectorViews.{subselector_of, components_from, Tile}
use Rattle.css_text.specs.Bytes.{text_eq}
use Rattle.simplecss_selector.specs.Equality.{operator_eq, pseudo_class_eq, combinator_eq, subselector_eq, selector_eq}
use Rattle.simplecss_selector.specs.EqualityLaws.{and_left, and_right, and_both, combinator_decides, name_decides, subselector_decides, selector_decides}
use Rattle.simplecss_selector.specs.declared.operator.AttributeOperator.{AttributeOperator}
use Rattle.simplecss_selector.specs.declared.operator.AttributeOperator.TheVariants.{Exists, Matches, Contains, StartsWith}
use Rattle.simplecss_selector.specs.declared.pseudo_class.PseudoClass.{PseudoClass}
use Rattle.simplecss_selector.specs.declared.pseudo_class.PseudoClass.TheVariants.{FirstChild, Link, Visited, Hover, Active, Focus, Lang}
use Rattle.simplecss_selector.specs.declared.selector.Combinator.{Combinator as Joint}
use Rattle.simplecss_selector.specs.declared.selector.Combinator.TheVariants.{None as NoCombinator, Descendant, Child, Adjacent}
use Rattle.simplecss_selector.specs.declared.selector.FlatComponent.{FlatComponent}
use Rattle.simplecss_selector.specs.declared.selector.SubSelector.{SubSelector}
use Rattle.simplecss_selector.specs.declared.selector.SubSelector.TheVariants.{Attribute, PseudoClass as ByClass}
use Rattle.simplecss_selector.specs.contracts.operator.AttributeOperatorPartialEq.TheImpl.{eq-value as operator_test}
use Rattle.simplecss_selector.specs.contracts.pseudo_class.PseudoClassPartialEq.TheImpl.{eq-value as class_test}
use Rattle.simplecss_selector.specs.contracts.selector.CombinatorPartialEq.TheImpl.{eq-value as combinator_test}
use Rattle.simplecss_selector.specs.contracts.selector.SubSelectorPartialEq.TheImpl.{eq-value as subselector_test}
use Rattle.std.specs.contracts.prelude.RefStrPartialEq.TheImpl.{eq-value as text_test}
use Rattle.simplecss_selector.proofs.Flat.{Tile-le}
use Rattle.simplecss_selector.specs.contracts.selector.FlatComponentPartialEq.TheImpl.{eq-value as flat_test}

-- the derived tests compare texts, wherever they are stored
pub by_operator : (a b : AttributeOperator)
    → operator_test.it a b ≡ operator_eq (operator_of a) (operator_of b)
by_operator Exists Exists = refl
by_operator (Matches x) (Matches y) = refl
by_operator (Contains x) (Contains y) = refl
by_operator (StartsWith x) (StartsWith y) = refl
by_operator a b = refl

pub by_class : (a b : PseudoClass)
    → class_test.it a b ≡ pseudo_class_eq (pseudo_class_of a) (pseudo_class_of b)
by_class FirstChild FirstChild = refl
by_class Link Link = refl
by_class Visited Visited = refl
by_class Hover Hover = refl
by_class Active Active = refl
by_class Focus Focus = refl
by_class (Lang x) (Lang y) = refl
by_class a b = refl

by_combinator : (a b : Joint)
    → combinator_test.it a b ≡ combinator_eq (combinator_of a) (combinator_of b)
by_combinator NoCombinator NoCombinator = refl
by_combinator Descendant Descendant = refl
by_combinator Child Child = refl
by_combinator Adjacent Adjacent = refl
by_combinator a b = refl

by_subselector : (a b : SubSelector)
    → subselector_test.it a b ≡ subselector_eq (subselector_of a) (subselector_of b)
by_subselector (Attribute n o) (Attribute m p) =
    ap (λ b. text_eq n.now m.now && b) (by_operator o p)
by_subselector (ByClass c) (ByClass d) = by_class c d
by_subselector (Attribute n o) (ByClass d) = refl
by_subselector (ByClass c) (Attribute m p) = refl

-- a flat component, without regard to where its name is stored
abbrev pub Share : Type 0
Share = Combinator × Option (List ℕ) × ℕ

abbrev pub share_of : FlatComponent → Share
share_of p = (combinator_of p.combinator, option_map (λ n. n.now) p.name, p.end)

abbrev pub share_eq : Share → Share → Bool
share_eq a b = combinator_eq a.0 b.0 && (option_eq text_eq a.1 b.1 && eqb a.2 b.2)

by_name : (a b : Option (Bor (List ℕ)))
    → option_eq text_test.it a b
    ≡ option_eq text_eq (option_map (λ n. n.now) a) (option_map (λ n. n.now) b)
by_name None None = refl
by_name None (Some b) = refl
by_name (Some a) None = refl
by_name (Some a) (Some b) = refl

by_flat : (a b : FlatComponent) → flat_test.it a b ≡ share_eq (share_of a) (share_of b)
by_flat a b =
    ap (λ t. t && (option_eq text_test.it a.name b.name && eqb a.end b.end))
    (by_combinator a.combinator b.combinator)
    ∙ ap (λ t. combinator_eq (combinator_of a.combinator) (combinator_of b.combinator)
    && (t && eqb a.end b.end)) (by_name a.name b.name)

share_decides : (a b : Share) → Decides (share_eq a b) (a ≡ b)
share_decides a b =
    let x = combinator_eq a.0 b.0 in
    let y = option_eq text_eq a.1 b.1 in
    let z = eqb a.2 b.2 in
    let c = combinator_decides a.0 b.0 in
    let n = name_decides a.1 b.1 in
    let e = Decides-eqb a.2 b.2 in (
      (λ h.
          let p : a.0 ≡ b.0 = c.0 (and_left x (y && z) h) in
          let q : a.1 ≡ b.1 = n.0 (and_left y z (and_right x (y && z) h)) in
          let r : a.2 ≡ b.2 = e.0 (and_right y z (and_right x (y && z) h)) in
          λ i. (p i, q i, r i)),
      (λ h. and_both x (y && z) (c.1 (λ i. (h i).0))
          (and_both y z (n.1 (λ i. (h i).1)) (e.1 (λ i. (h i).2)))),
    )

pointwise_agree : {A : Type 0} (E F : A → A → Bool) → ((a b : A) → E a b ≡ F a b) → (xs ys : List A)
    → pointwise E xs ys ≡ pointwise F xs ys
pointwise_agree E F h [] [] = refl
pointwise_agree E F h [] (y ∷ ys) = refl
pointwise_agree E F h (x ∷ xs) [] = refl
pointwise_agree E F h (x ∷ xs) (y ∷ ys) =
    ap (λ b. b && pointwise E xs ys) (h x y) ∙ ap (λ b. F x y && b) (pointwise_agree E F h xs ys)

-- the components, from the shares of the flat components
built : ℕ → List Share → List Subselector → List Component
built start [] subselectors = []
built start (s ∷ shares) subselectors =
    (record {
      combinator = s.0;
      compound = record { name = s.1; subselectors = slice_range subselectors start s.2 };
    }) ∷ built s.2 shares subselectors

map-drop : {X Y : Type 0} (f : X → Y) (n : ℕ) (xs : List X) → map f (drop n xs) ≡ drop n (map f xs)
map-drop f zero xs = refl
map-drop f (suc n) [] = refl
map-drop f (suc n) (x ∷ xs) = map-drop f n xs

map-slice_range : {X Y : Type 0} (f : X → Y) (xs : List X) (i j : ℕ)
    → map f (slice_range xs i j) ≡ slice_range (map f xs) i j
map-slice_range f xs i j =
    sym (take-map f (j - i) (drop i xs)) ∙ ap (take (j - i)) (map-drop f i xs)

components_from-built : (start : ℕ) (ps : List FlatComponent) (ss : List SubSelector)
    → components_from start ps ss ≡ built start (map share_of ps) (map subselector_of ss)
unfolding built
components_from-built start [] ss = refl
components_from-built start (p ∷ ps) ss =
    ap (λ l. (record {
      combinator = combinator_of p.combinator;
      compound = record { name = option_map (λ n. n.now) p.name; subselectors = l };
    }) ∷ components_from p.end ps ss) (map-slice_range subselector_of ss start p.end)
    ∙ ap (λ cs. (record {
      combinator = combinator_of p.combinator;
      compound = record {
        name = option_map (λ n. n.now) p.name;
        subselectors = slice_range (map subselector_of ss) start p.end;
      };
    }) ∷ cs) (components_from-built p.end ps ss)

-- the shares, and the one list, from the components
shares : ℕ → List Component → List Share
shares start [] = []
shares start (c ∷ cs) =
    (c.combinator, c.compound.name, start + length c.compound.subselectors)
    ∷ shares (start + length c.compound.subselectors) cs

length-slice_range : (ss : List SubSelector) (i j : ℕ) → i ≤ j → j ≤ length ss
    → i + length (map subselector_of (slice_range ss i j)) ≡ j
length-slice_range ss i j h l = omega (
  arith,
  length-map (slice_range ss i j) subselector_of,
  length-take (j - i) (drop i ss),
  length-drop i ss,
)

Tile-end : (start : ℕ) (p : FlatComponent) (ps : List FlatComponent) (n : ℕ) → Tile start (p ∷ ps) n
    → p.end ≤ n
Tile-end start p ps n t = Tile-le p.end ps n t.1

shares-components_from : (start : ℕ) (ps : List FlatComponent) (ss : List SubSelector)
    → Tile start ps (length ss) → shares start (components_from start ps ss) ≡ map share_of ps
unfolding shares
shares-components_from start [] ss t = refl
shares-components_from start (p ∷ ps) ss t =
    let end = length-slice_range ss start p.end t.0 (Tile-end start p ps (length ss) t) in
    ap (λ e. (combinator_of p.combinator, option_map (λ n. n.now) p.name, e)
    ∷ shares e (components_from p.end ps ss)) end
    ∙ ap (λ l. share_of p ∷ l) (shares-components_from p.end ps ss t.1)

subselectors-components_from : (start : ℕ) (ps : List FlatComponent) (ss : List SubSelector)
    → Tile start ps (length ss)
    → flat_map (λ c. c.compound.subselectors) (components_from start ps ss)
    ≡ map subselector_of (drop start ss)
subselectors-components_from start [] ss t =
    sym (ap (map subselector_of) (drop_all start ss (let e : start ≡ length ss = t in omega arith)))
subselectors-components_from start (p ∷ ps) ss t =
    ap (λ l. map subselector_of (slice_range ss start p.end) ++ l)
    (subselectors-components_from p.end ps ss t.1)
    ∙ sym (map-append subselector_of (slice_range ss start p.end) (drop p.end ss))
    ∙ ap (map subselector_of) (sym (drop_split ss start p.end t.0))

module _ (ps qs : List FlatComponent) (ss ts : List SubSelector) (t : Tile 0 ps (length ss))
    (u : Tile 0 qs (length ts)) where
  lists_eq : Bool
  lists_eq = pointwise share_eq (map share_of ps) (map share_of qs)
      && pointwise subselector_eq (map subselector_of ss) (map subselector_of ts)

  lists_decide : Decides lists_eq (components_from 0 ps ss ≡ components_from 0 qs ts)
  unfolding lists_eq
  lists_decide =
      let x = pointwise share_eq (map share_of ps) (map share_of qs) in
      let y = pointwise subselector_eq (map subselector_of ss) (map subselector_of ts) in
      let p = pointwise_decides share_decides (map share_of ps) (map share_of qs) in
      let s =
      pointwise_decides subselector_decides (map subselector_of ss) (map subselector_of ts) in (
        (λ h.
            components_from-built 0 ps ss
            ∙ ap (λ l. built 0 l (map subselector_of ss)) (p.0 (and_left x y h))
            ∙ ap (built 0 (map share_of qs)) (s.0 (and_right x y h))
            ∙ sym (components_from-built 0 qs ts)),
        (λ e. and_both x y
            (p.1 (sym (shares-components_from 0 ps ss t) ∙ ap (shares 0) e
            ∙ shares-components_from 0 qs ts u))
            (s.1 (sym (subselectors-components_from 0 ps ss t) ∙ ap
            (flat_map (λ c. c.compound.subselectors)) e ∙ subselectors-components_from 0 qs ts u))),
      )

  pub flat_eq : (pointwise flat_test.it ps qs && pointwise subselector_test.it ss ts)
      ≡ selector_eq (components_from 0 ps ss) (components_from 0 qs ts)
  unfolding lists_eq
  flat_eq =
      ap (λ b. b && pointwise subselector_test.it ss ts)
      (pointwise_agree _ _ by_flat ps qs ∙ sym (pointwise-map share_of share_eq ps qs))
      ∙ ap (λ b. pointwise share_eq (map share_of ps) (map share_of qs) && b) (pointwise_agree _ _
      by_subselector ss ts ∙ sym (pointwise-map subselector_of subselector_eq ss ts))
      ∙ same_from_decides lists_eq _ lists_decide
      (selector_decides (components_from 0 ps ss) (components_from 0 qs ts))

pointwise-push : {A : Type 0} (E : A → A → Bool) (xs ys : List A) (x y : A)
    → pointwise E (xs ++ x ∷ []) (ys ++ y ∷ []) ≡ (pointwise E xs ys && E x y)
pointwise-push E [] [] x y = and-true (E x y)
pointwise-push E [] (b ∷ []) x y = and-false (E x b)
pointwise-push E [] (b ∷ c ∷ ys) x y = and-false (E x b)
pointwise-push E (a ∷ []) [] x y = and-false (E a y)
pointwise-push E (a ∷ b ∷ xs) [] x y = and-false (E a y)
pointwise-push E (a ∷ xs) (b ∷ ys) x y = ap (λ t. E a b && t) (pointwise-push E xs ys x y)
    ∙ sym (and_assoc (E a b) (pointwise E xs ys) (E x y))

-- the last components are compared separately from the lists
pub flat_last_eq : (ps qs : List FlatComponent) (p q : FlatComponent) (ss ts : List SubSelector)
    → Tile 0 (ps ++ p ∷ []) (length ss) → Tile 0 (qs ++ q ∷ []) (length ts)
    → ((pointwise flat_test.it ps qs && flat_test.it p q) && pointwise subselector_test.it ss ts)
    ≡ selector_eq (components_from 0 (ps ++ p ∷ []) ss) (components_from 0 (qs ++ q ∷ []) ts)
flat_last_eq ps qs p q ss ts t u =
    ap (λ b. b && pointwise subselector_test.it ss ts) (sym (pointwise-push flat_test.it ps qs p q))
    ∙ flat_eq (ps ++ p ∷ []) (qs ++ q ∷ []) ss ts t u
