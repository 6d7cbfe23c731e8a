-- Attributes in namespaces, by their strings and by their elements.
-- Serves `elements::attributes_with` and `attributes::{empty_lists, attributes_of_each}`.
use Rattle.std.proofs.Common.{Bor, ◌≡◌, ℕ, ◌-◌, ◌<◌, ◌≤◌, ◌&&◌, ◌==◌, Bool, true, false, cond, List, [], ◌∷◌, ◌++◌, length, map, get_or, set, take, drop, Some, None, eqb-true, eq-eqb, refl, sym, ap, subst, ◌∙◌, arith}
use Rattle.std.specs.Prelude.{nat_lt, if◌then◌else◌}
use Rattle.std.specs.Global.{Vec}
use Rattle.std.specs.List.{cons_option}
use Rattle.std.proofs.lemmas.Bool.{false≢true, ne_eqb}
use Rattle.std.proofs.lemmas.List.{append_assoc, append-nil, map-append, length-map, length-set, get_or-map, get_or-set_same, get_or-set_other, take_all}
use Rattle.std.proofs.lemmas.List.Elements.{filter_map-append}
use Rattle.std.proofs.lemmas.List.FromFn.{fill_by_all, length-map-range_with_len, get_or-map-range_with_len}
use Rattle.css_selectors.specs.Documents.{NamespacedAttribute}
use Rattle.css_selectors.specs.ElementViews.{namespaced_attribute_of}
use Rattle.css_selectors.specs.declared.element.NamespacedAttribute.{NamespacedAttribute as NamespacedAttributeOf}
use Rattle.call_answers.specs.declared.elements.PlacedAttribute.{PlacedAttribute}
use Rattle.call_answers.specs.declared.elements.TreeAttribute.{TreeAttribute}
use Rattle.call_answers.specs.Elements.{attribute_of, attributes_of, attributes_by, attributes_with}
use Rattle.call_answers.specs.internal.Attributes.{lists_of, placed_attribute_of}

-- ---- strings

-- the attribute that is placed, by the first strings
abbrev pub placed-by : TreeAttribute → Bor (List ℕ) → Bor (List ℕ) → PlacedAttribute
placed-by place name value = record {
  element = place.element;
  attribute = record { namespace = place.namespace; name = name; value = value };
}

-- what is left after the first of a list
abbrev rest-of : {X : Type 0} → List X → List X
rest-of xs = take (length xs - 1) (drop 1 xs)

rest-is : {X : Type 0} (x : X) (xs : List X) → rest-of (x ∷ xs) ≡ xs
rest-is x xs = take_all (length (x ∷ xs) - 1) xs (omega arith)

-- one more attribute
with-first : (found : List PlacedAttribute) (a b : Bor (List ℕ)) (strings : List (Bor (List ℕ)))
    (place : TreeAttribute) (places : List TreeAttribute)
    → map placed_attribute_of (found ++ placed-by place a b ∷ [])
    ++ attributes_with (map (λ s. s.now) strings) places
    ≡ map placed_attribute_of found
    ++ attributes_with (map (λ s. s.now) (a ∷ b ∷ strings)) (place ∷ places)
with-first found a b strings place places =
    ap (λ (all : List (ℕ × NamespacedAttribute)). all ++ attributes_with (map (λ s. s.now) strings) places)
    (map-append placed_attribute_of found (placed-by place a b ∷ []))
    ∙ append_assoc (map placed_attribute_of found)
    (map placed_attribute_of (placed-by place a b ∷ []))
    (attributes_with (map (λ s. s.now) strings) places)

first-step : (found : List PlacedAttribute) (left : List (Bor (List ℕ))) (more : List TreeAttribute)
    (d e : Bor (List ℕ)) (f : TreeAttribute)
    → 1 ≤ length left → 1 ≤ length (rest-of left) → 1 ≤ length more
    → map placed_attribute_of
    (found ++ placed-by (get_or more 0 f) (get_or left 0 d) (get_or (rest-of left) 0 e) ∷ [])
    ++ attributes_with (map (λ s. s.now) (rest-of (rest-of left))) (rest-of more)
    ≡ map placed_attribute_of found ++ attributes_with (map (λ s. s.now) left) more
first-step found [] more d e f some two place = absurd (omega (arith, some))
first-step found (a ∷ []) more d e f some two place = absurd (omega (arith, two))
first-step found (a ∷ b ∷ strings) [] d e f some two place = absurd (omega (arith, place))
first-step found (a ∷ b ∷ strings) (p ∷ places) d e f some two place =
    ap (λ (ss : List (Bor (List ℕ))). map placed_attribute_of
    (found ++ placed-by p a (get_or ss 0 e) ∷ [])
    ++ attributes_with (map (λ s. s.now) (rest-of ss)) (rest-of (p ∷ places)))
    (rest-is a (b ∷ strings))
    ∙ ap (λ (ss : List (Bor (List ℕ))). map placed_attribute_of (found ++ placed-by p a b ∷ [])
    ++ attributes_with (map (λ s. s.now) ss) (rest-of (p ∷ places))) (rest-is b strings)
    ∙ ap (λ (ps : List TreeAttribute). map placed_attribute_of (found ++ placed-by p a b ∷ [])
    ++ attributes_with (map (λ s. s.now) strings) ps) (rest-is p places)
    ∙ with-first found a b strings p places

pub attribute-step : (found new : List PlacedAttribute) (left : List (Bor (List ℕ)))
    (more : List TreeAttribute) (d e : Bor (List ℕ)) (f : TreeAttribute)
    (total : List (ℕ × NamespacedAttribute))
    → 1 ≤ length left → 1 ≤ length (rest-of left) → 1 ≤ length more
    → new ≡ found ++ placed-by (get_or more 0 f) (get_or left 0 d) (get_or (rest-of left) 0 e) ∷ []
    → map placed_attribute_of found ++ attributes_with (map (λ s. s.now) left) more ≡ total
    → map placed_attribute_of new
    ++ attributes_with (map (λ s. s.now) (rest-of (rest-of left))) (rest-of more)
    ≡ total
attribute-step found new left more d e f total some two place pushed is =
    ap (λ (all : List PlacedAttribute). map placed_attribute_of all
    ++ attributes_with (map (λ s. s.now) (rest-of (rest-of left))) (rest-of more)) pushed
    ∙ first-step found left more d e f some two place ∙ is

-- ---- elements

abbrev pub list-of : Vec NamespacedAttributeOf → List NamespacedAttribute
list-of list = map namespaced_attribute_of list.items

-- so many elements have their attributes among these
pub record GivenSoFar (placed : List (ℕ × NamespacedAttribute)) (count : ℕ)
    (found : List (Vec NamespacedAttributeOf)) : Type 0 where
  pub all : length found ≡ count
  pub each : (k : ℕ) (d : Vec NamespacedAttributeOf) → k < count
      → list-of (get_or found k d) ≡ attributes_of placed k

pub given-none : (count : ℕ) (found : List (Vec NamespacedAttributeOf))
    → lists_of found ≡ attributes_by count [] → GivenSoFar [] count found
given-none count found is =
    let many : length found ≡ count =
    sym (length-map found list-of) ∙ ap length is
    ∙ length-map-range_with_len (attributes_of []) 0 count in
    record {
      all = many;
      each = λ k d less. sym (get_or-map list-of found k d [] (omega (arith, less, many)))
          ∙ ap (λ (lists : List (List NamespacedAttribute)). get_or lists k []) is
          ∙ get_or-map-range_with_len (attributes_of []) 0 count k k [] less (omega arith);
    }

pub given-all : (placed : List (ℕ × NamespacedAttribute)) (count : ℕ)
    (found : List (Vec NamespacedAttributeOf)) → GivenSoFar placed count found
    → lists_of found ≡ attributes_by count placed
given-all placed count [] so_far =
    fill_by_all (attributes_of placed) [] count [] so_far.all
    (λ k less. absurd (let none = so_far.all in omega (arith, less, none)))
given-all placed count (x ∷ xs) so_far =
    fill_by_all (attributes_of placed) (lists_of (x ∷ xs)) count [] (length-map (x ∷ xs) list-of ∙ so_far.all)
    (λ k less. get_or-map list-of (x ∷ xs) k x [] (let many = so_far.all in omega (arith, less, many))
    ∙ so_far.each k x less)

-- one more, which the element at an index has or has not
one-more : (placed : List (ℕ × NamespacedAttribute)) (one : ℕ × NamespacedAttribute) (k : ℕ)
    (has : Bool) → (one.0 == k && nat_lt 0 one.1.namespace) ≡ has
    → attributes_of (placed ++ one ∷ []) k ≡ attributes_of placed k ++ cond has (one.1 ∷ []) []
one-more placed one k has is =
    filter_map-append (attribute_of k) placed (one ∷ [])
    ∙ ap (λ (t : Bool). attributes_of placed k ++ cons_option (if t then Some one.1 else None) []) is
    ∙ of has
  where
    of : (t : Bool) → attributes_of placed k ++ cons_option (if t then Some one.1 else None) []
        ≡ attributes_of placed k ++ cond t (one.1 ∷ []) []
    of true = refl
    of false = refl

-- an element has one more
pub given-more : (placed : List (ℕ × NamespacedAttribute)) (count : ℕ)
    (found : List (Vec NamespacedAttributeOf)) (one : PlacedAttribute) (old new : Vec NamespacedAttributeOf)
    → GivenSoFar placed count found → one.element < count
    → nat_lt 0 one.attribute.namespace ≡ true → old ≡ get_or found one.element old
    → new.items ≡ old.items ++ one.attribute ∷ []
    → GivenSoFar (placed ++ placed_attribute_of one ∷ []) count (set found one.element new)
given-more placed count found one old new so_far less spaced was pushed = record {
  all = length-set found one.element new ∙ so_far.all;
  each = λ k d within. of k d within (one.element == k) refl;
}
  where
    own : list-of new ≡ attributes_of placed one.element ++ namespaced_attribute_of one.attribute ∷ []
    own = ap (map namespaced_attribute_of) pushed
        ∙ map-append namespaced_attribute_of old.items (one.attribute ∷ [])
        ∙ ap (λ (list : List NamespacedAttribute). list ++ namespaced_attribute_of one.attribute ∷ [])
        (ap list-of was ∙ so_far.each one.element old less)

    of : (k : ℕ) (d : Vec NamespacedAttributeOf) → k < count → (t : Bool) → (one.element == k) ≡ t
        → list-of (get_or (set found one.element new) k d)
        ≡ attributes_of (placed ++ placed_attribute_of one ∷ []) k
    of k d within true is =
        let same : one.element ≡ k = eqb-true one.element k is in
        let many = so_far.all in
        subst (λ j. list-of (get_or (set found one.element new) j d)
        ≡ attributes_of (placed ++ placed_attribute_of one ∷ []) j) same
        (ap list-of (get_or-set_same found one.element new d (omega (arith, less, many)))
        ∙ own
        ∙ sym (one-more placed (placed_attribute_of one) one.element true
        (ap (λ t. t && nat_lt 0 one.attribute.namespace) (eq-eqb one.element one.element refl) ∙ spaced)))
    of k d within false is =
        ap list-of (get_or-set_other found one.element k new d
        (λ same. false≢true (sym is ∙ eq-eqb one.element k (sym same))))
        ∙ so_far.each k d within
        ∙ sym (append-nil (attributes_of placed k))
        ∙ sym (one-more placed (placed_attribute_of one) k false
        (ap (λ t. t && nat_lt 0 one.attribute.namespace) is))

-- no element has one more
pub given-same : (placed : List (ℕ × NamespacedAttribute)) (count : ℕ)
    (found : List (Vec NamespacedAttributeOf)) (one : PlacedAttribute) → GivenSoFar placed count found
    → ((k : ℕ) → k < count → (one.element == k && nat_lt 0 one.attribute.namespace) ≡ false)
    → GivenSoFar (placed ++ placed_attribute_of one ∷ []) count found
given-same placed count found one so_far none = record {
  all = so_far.all;
  each = λ k d within. so_far.each k d within ∙ sym (append-nil (attributes_of placed k))
      ∙ sym (one-more placed (placed_attribute_of one) k false (none k within));
}

-- an attribute in no namespace is ignored, and one of an element that is not there
and-false : (t : Bool) → (t && false) ≡ false
and-false true = refl
and-false false = refl

pub in-none : (one : PlacedAttribute) (k : ℕ) → nat_lt 0 one.attribute.namespace ≡ false
    → (one.element == k && nat_lt 0 one.attribute.namespace) ≡ false
in-none one k is = ap (λ t. one.element == k && t) is ∙ and-false (one.element == k)

pub not-there : (one : PlacedAttribute) (count k : ℕ) → count ≤ one.element → k < count
    → (one.element == k && nat_lt 0 one.attribute.namespace) ≡ false
not-there one count k after within =
    ap (λ t. t && nat_lt 0 one.attribute.namespace)
    (ne_eqb one.element k (λ same. absurd (omega (arith, after, within, same))))
