-- Selectors are equal exactly if their components are. This is proved here since the trait
-- `PartialEq` requires `selector_per`: the impl names it, so it belongs to what is stated.
use Rattle.std.specs.Prelude.{◌≡◌, ℕ, zero, suc, List, Bool, true, false, ◌&&◌, Option, Some, None, refl}
use Rattle.std.proofs.Common.{sym, ap, ◌∙◌, eqb}
use Rattle.std.specs.Bool.{Decides}
use Rattle.std.specs.Cmp.{IsPartialEquivalence, partial_equiv_from_equiv, decided}
use Rattle.std.specs.Cmp.Lexicographic.{pointwise, pointwise_decides, bytes_decides}
use Rattle.std.specs.Option.{option_eq}
use Rattle.std.proofs.lemmas.Bool.Decides.{Decides-eqb}
use Rattle.simplecss_grammar.specs.Components.{Operator, KnownPseudoClass, Subselector, Combinator, Component}
use Rattle.simplecss_grammar.specs.Components.Operator.{exists, equals, has_word, begins_with}
use Rattle.simplecss_grammar.specs.Components.KnownPseudoClass.{first_child, link, visited, hover, active, focus, lang}
use Rattle.simplecss_grammar.specs.Components.Subselector.{attribute, pseudo_class}
use Rattle.simplecss_grammar.specs.Components.Combinator.{none, descendant, child, adjacent}
use Rattle.simplecss_grammar.specs.PseudoClasses.{known_pseudo_class}
use Rattle.css_text.specs.Bytes.{text_eq}
use Rattle.simplecss_selector.specs.Equality.{operator_key, pseudo_class_key, combinator_key, key_eq, text_key_eq, operator_eq, pseudo_class_eq, combinator_eq, subselector_eq, component_eq, selector_eq}

pub and_left : (a b : Bool) → (a && b) ≡ true → a ≡ true
and_left true b h = refl
and_left false b h = h

pub and_right : (a b : Bool) → (a && b) ≡ true → b ≡ true
and_right true b h = h
and_right false b h = absurd (cc)

pub and_both : (a b : Bool) → a ≡ true → b ≡ true → (a && b) ≡ true
and_both a b p q = rw (p, q)

-- a test of keys decides equality, if the values can be recovered from their keys
pub decides_by_key : {A K : Type 0} (E : K → K → Bool) → ((k l : K) → Decides (E k l) (k ≡ l))
    → (key : A → K) (back : K → A) → ((a : A) → back (key a) ≡ a) → (a b : A)
    → Decides (E (key a) (key b)) (a ≡ b)
decides_by_key E decides key back undone a b = (
  λ h. sym (undone a) ∙ ap back ((decides (key a) (key b)).0 h) ∙ undone b,
  λ e. (decides (key a) (key b)).1 (ap key e),
)

-- pairs are equal exactly if their parts are
both_decide : {A B : Type 0} (E : A → A → Bool) (F : B → B → Bool)
    → ((a b : A) → Decides (E a b) (a ≡ b)) → ((a b : B) → Decides (F a b) (a ≡ b))
    → (p q : A × B) → Decides (E p.0 q.0 && F p.1 q.1) (p ≡ q)
both_decide E F first second p q =
    let x = E p.0 q.0 in
    let y = F p.1 q.1 in
    let n = first p.0 q.0 in
    let t = second p.1 q.1 in (
      (λ h.
          let e : p.0 ≡ q.0 = n.0 (and_left x y h) in
          let f : p.1 ≡ q.1 = t.0 (and_right x y h) in
          λ i. (e i, f i)),
      (λ e. and_both x y (n.1 (λ i. (e i).0)) (t.1 (λ i. (e i).1))),
    )

key_decides : (a b : ℕ × List ℕ) → Decides (key_eq a b) (a ≡ b)
key_decides a b = both_decide eqb text_eq Decides-eqb bytes_decides a b

abbrev operator_back : ℕ × List ℕ → Operator
operator_back (zero, text) = exists
operator_back (suc zero, text) = equals text
operator_back (suc (suc zero), text) = has_word text
operator_back (suc (suc (suc n)), text) = begins_with text

pub operator_decides : (a b : Operator) → Decides (operator_eq a b) (a ≡ b)
operator_decides = decides_by_key key_eq key_decides operator_key operator_back undone
  where
    undone : (o : Operator) → operator_back (operator_key o) ≡ o
    undone exists = refl
    undone (equals text) = refl
    undone (has_word text) = refl
    undone (begins_with text) = refl

text_key_decides : (a b : List ℕ × List ℕ) → Decides (text_key_eq a b) (a ≡ b)
text_key_decides a b = both_decide text_eq text_eq bytes_decides bytes_decides a b

-- the pseudo-class that was found by its name, else `:lang` with its argument
abbrev found_or_lang : Option KnownPseudoClass → List ℕ → KnownPseudoClass
found_or_lang (Some class) text = class
found_or_lang None text = lang text

abbrev pseudo_class_back : List ℕ × List ℕ → KnownPseudoClass
pseudo_class_back key = found_or_lang (known_pseudo_class key.0) key.1

pub pseudo_class_decides : (a b : KnownPseudoClass) → Decides (pseudo_class_eq a b) (a ≡ b)
pseudo_class_decides =
    decides_by_key text_key_eq text_key_decides pseudo_class_key pseudo_class_back undone
  where
    undone : (c : KnownPseudoClass) → pseudo_class_back (pseudo_class_key c) ≡ c
    undone first_child = refl
    undone link = refl
    undone visited = refl
    undone hover = refl
    undone active = refl
    undone focus = refl
    undone (lang text) = refl

abbrev combinator_back : ℕ → Combinator
combinator_back zero = none
combinator_back (suc zero) = descendant
combinator_back (suc (suc zero)) = child
combinator_back (suc (suc (suc n))) = adjacent

pub combinator_decides : (a b : Combinator) → Decides (combinator_eq a b) (a ≡ b)
combinator_decides = decides_by_key eqb Decides-eqb combinator_key combinator_back undone
  where
    undone : (c : Combinator) → combinator_back (combinator_key c) ≡ c
    undone none = refl
    undone descendant = refl
    undone child = refl
    undone adjacent = refl

pub subselector_decides : (a b : Subselector) → Decides (subselector_eq a b) (a ≡ b)
subselector_decides (attribute n o) (attribute m p) =
    let x = text_eq n m in
    let y = operator_eq o p in
    let t = bytes_decides n m in
    let d = operator_decides o p in (
      (λ h.
          let e : n ≡ m = t.0 (and_left x y h) in
          let f : o ≡ p = d.0 (and_right x y h) in
          λ i. attribute (e i) (f i)),
      (λ e.
          let same_name : n ≡ m = cc in
          let same_operator : o ≡ p = cc in
          and_both x y (t.1 same_name) (d.1 same_operator)),
    )
subselector_decides (pseudo_class c) (pseudo_class d) = (
  (λ h. λ i. pseudo_class ((pseudo_class_decides c d).0 h i)),
  (λ e. let same : c ≡ d = cc in (pseudo_class_decides c d).1 same),
)
subselector_decides (attribute n o) (pseudo_class d) = ((λ h. absurd (cc)), (λ e. absurd (cc)))
subselector_decides (pseudo_class c) (attribute n o) = ((λ h. absurd (cc)), (λ e. absurd (cc)))

pub name_decides : (a b : Option (List ℕ)) → Decides (option_eq text_eq a b) (a ≡ b)
name_decides None None = ((λ h. refl), (λ e. refl))
name_decides (Some a) (Some b) = (
  (λ h. λ i. Some ((bytes_decides a b).0 h i)),
  (λ e. let same : a ≡ b = cc in (bytes_decides a b).1 same),
)
name_decides None (Some b) = ((λ h. absurd (cc)), (λ e. absurd (cc)))
name_decides (Some a) None = ((λ h. absurd (cc)), (λ e. absurd (cc)))

pub component_decides : (a b : Component) → Decides (component_eq a b) (a ≡ b)
component_decides a b =
    let x = combinator_eq a.combinator b.combinator in
    let y = option_eq text_eq a.compound.name b.compound.name in
    let z = pointwise subselector_eq a.compound.subselectors b.compound.subselectors in
    let c = combinator_decides a.combinator b.combinator in
    let n = name_decides a.compound.name b.compound.name in
    let s =
    pointwise_decides subselector_decides a.compound.subselectors b.compound.subselectors in (
      (λ h.
          let p : a.combinator ≡ b.combinator = c.0 (and_left x (y && z) h) in
          let q : a.compound.name ≡ b.compound.name = n.0 (and_left y z (and_right x (y && z) h)) in
          let r : a.compound.subselectors ≡ b.compound.subselectors =
          s.0 (and_right y z (and_right x (y && z) h)) in
          λ i. record { combinator = p i; compound = record { name = q i; subselectors = r i } }),
      (λ e. and_both x (y && z) (c.1 (λ i. (e i).combinator))
          (and_both y z (n.1 (λ i. (e i).compound.name)) (s.1 (λ i. (e i).compound.subselectors)))),
    )

pub selector_decides : (a b : List Component) → Decides (selector_eq a b) (a ≡ b)
selector_decides = pointwise_decides component_decides

pub selector_per : IsPartialEquivalence selector_eq
selector_per = partial_equiv_from_equiv (decided selector_eq selector_decides)
