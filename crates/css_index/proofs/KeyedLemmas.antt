-- The keys that an element reports, and what is found by them.
-- Serves `selector_index`.
use Rattle.std.proofs.Common.{◌≡◌, ℕ, zero, suc, ◌+◌, ◌↔◌, inl, inr, ◌==◌, ◌||◌, ◌&&◌, Bool, true, false, cond, IsTrue, List, [], ◌∷◌, ◌++◌, length, map, Option, None, Some, Ok, Err, refl, sym, ap, ◌∙◌, subst, arith, append_assoc, append-nil}
use Rattle.std.specs.Prelude.{bytes_eq, codes, filter, OnOk, Result}
use Rattle.std.specs.List.{Contains, list_any, slice_get, flat_map}
use Rattle.std.specs.Str.{str_eq_ignore_ascii_case}
use Rattle.std.proofs.Math.Dec.{eqb-suc-suc, eqb-zero-suc}
use Rattle.std.proofs.lemmas.Bool.{false≢true}
use Rattle.std.proofs.lemmas.List.Elements.{Contains-append_left, Contains-append_right, Contains-append_cases}
use Rattle.std.proofs.lemmas.List.Folds.{list_any-append}
use Rattle.std.proofs.lemmas.List.Concat.{flat_map-append}
use Rattle.std.proofs.lemmas.Slice.Eq.{bytes_eq-Decides}
use Rattle.css_selector_text.specs.AttributeTests.{begins}
use Rattle.css_selector_text.specs.Components.{Selector}
use Rattle.css_selector_text.specs.Components.Comparison.{equals}
use Rattle.css_selectors.specs.Documents.{Document}
use Rattle.css_selectors.specs.Keys.{Key}
use Rattle.css_selectors.specs.Keys.Key.{by_id, by_class, by_name, by_attribute, by_nothing}
use Rattle.css_selectors.specs.Meanings.{satisfies}
use Rattle.css_index.specs.Reported.{Reported, reports_key}
use Rattle.css_index.specs.Tested.{IsKeyedAt, filed_keys}
use Rattle.css_index.specs.KeyNumbers.{is_same}
use Rattle.css_index.specs.internal.Filed.{is_found_by, with_index, entries_from, entries_of, found_by, found_by_any, id_keys, AreClasses, AreReported}
use Rattle.css_index.proofs.KeptLemmas.{contains_none, contains_cons}
use Rattle.css_index.proofs.TruthLemmas.{or_second}

-- a list has an element that passes the test
pub any_from : {X : Type 0} (p : X → Bool) (xs : List X) → IsTrue (list_any p xs)
    → (x : X) × Contains xs x × IsTrue (p x)
any_from p [] h = absurd (cc)
any_from {X} p (x ∷ xs) h = by (p x) refl (any_from p xs) h
  where
    by : (t : Bool) → p x ≡ t
        → (IsTrue (list_any p xs) → (y : X) × Contains xs y × IsTrue (p y))
        → IsTrue (t || list_any p xs) → (y : X) × Contains (x ∷ xs) y × IsTrue (p y)
    by true is ih k = (x, (contains_cons x xs x).1 (inl refl), is)
    by false is ih k = let r = ih k in (r.0, (contains_cons x xs r.0).1 (inr r.1), r.2)

pub any_to : {X : Type 0} (p : X → Bool) (xs : List X) (x : X) → Contains xs x → IsTrue (p x)
    → IsTrue (list_any p xs)
any_to p [] x c h = absurd (contains_none x c)
any_to p (y ∷ xs) x c h = elim ((contains_cons y xs x).0 c) [
  | inl e ↦ ap (λ t. t || list_any p xs) (subst (λ z. IsTrue (p z)) (sym e) h)
  | inr k ↦ or_second (p y) (list_any p xs) (any_to p xs x k h)
]

-- an entry of the index that passes the test
abbrev HasEntry : (Key → Bool) → List (Key × ℕ) → ℕ → Type 0
HasEntry test es index = (own : Key) × Contains es (own, index) × IsTrue (test own)

-- what a key finds
module _ (key : Key) (index : ℕ) where
  pub found_from : (es : List (Key × ℕ)) → Contains (found_by es key) index
      → HasEntry (λ own. is_same own key) es index
  found_from [] c = absurd (contains_none index c)
  found_from (e ∷ es) c = by (is_found_by key e) refl c (found_from es)
    where
      by : (t : Bool) → is_found_by key e ≡ t
          → Contains (map (λ x. x.1) (cond t (e ∷ filter (is_found_by key) es)
          (filter (is_found_by key) es))) index
          → (Contains (found_by es key) index → HasEntry (λ own. is_same own key) es index)
          → HasEntry (λ own. is_same own key) (e ∷ es) index
      by true is k ih = elim ((contains_cons e.1 (found_by es key) index).0 k) [
        | inl q ↦ (e.0, (contains_cons e es (e.0, index)).1 (inl (ap (λ i. (e.0, i)) q)), is)
        | inr l ↦ (let r = ih l in (r.0, (contains_cons e es (r.0, index)).1 (inr r.1), r.2))
      ]
      by false is k ih = let r = ih k in (r.0, (contains_cons e es (r.0, index)).1 (inr r.1), r.2)

  found_to : (es : List (Key × ℕ)) (own : Key) → Contains es (own, index)
      → IsTrue (is_same own key) → Contains (found_by es key) index
  found_to [] own c h = absurd (contains_none (own, index) c)
  found_to (e ∷ es) own c h = by (is_found_by key e) refl (found_to es own)
    where
      by : (t : Bool) → is_found_by key e ≡ t
          → (Contains es (own, index) → IsTrue (is_same own key) → Contains (found_by es key) index)
          → Contains (map (λ x. x.1) (cond t (e ∷ filter (is_found_by key) es)
          (filter (is_found_by key) es))) index
      by true is ih = elim ((contains_cons e es (own, index)).0 c) [
        | inl q ↦ (contains_cons e.1 (found_by es key) index).1 (inl (ap (λ x. x.1) q))
        | inr l ↦ (contains_cons e.1 (found_by es key) index).1 (inr (ih l h))
      ]
      by false is ih = elim ((contains_cons e es (own, index)).0 c) [
        | inl q ↦ absurd (false≢true (sym is ∙ ap (is_found_by key) q ∙ h))
        | inr l ↦ ih l h
      ]

-- what several keys find
pub any_found_from : (es : List (Key × ℕ)) (keys : List Key) (index : ℕ)
    → Contains (found_by_any es keys) index
    → HasEntry (λ own. list_any (is_same own) keys) es index
any_found_from es [] index c = absurd (contains_none index c)
any_found_from es (key ∷ keys) index c =
    elim (Contains-append_cases (found_by es key) (found_by_any es keys) index c) [
      | inl h ↦ (let r = found_from key index es h in
          (r.0, r.1, ap (λ t. t || list_any (is_same r.0) keys) r.2))
      | inr h ↦ (let r = any_found_from es keys index h in
          (r.0, r.1, or_second (is_same r.0 key) (list_any (is_same r.0) keys) r.2))
    ]

pub any_found_to : (es : List (Key × ℕ)) (keys : List Key) (index : ℕ) (own : Key)
    → Contains es (own, index) → IsTrue (list_any (is_same own) keys)
    → Contains (found_by_any es keys) index
any_found_to es [] index own c h = absurd (cc)
any_found_to es (key ∷ keys) index own c h =
    by (is_same own key) refl h (λ l. any_found_to es keys index own c l)
  where
    by : (t : Bool) → is_same own key ≡ t → IsTrue (t || list_any (is_same own) keys)
        → (IsTrue (list_any (is_same own) keys) → Contains (found_by_any es keys) index)
        → Contains (found_by es key ++ found_by_any es keys) index
    by true is l ih = Contains-append_left (found_by es key) (found_by_any es keys) index
        (found_to key index es own c is)
    by false is l ih =
        Contains-append_right (found_by es key) (found_by_any es keys) index (ih l)

-- the entries of a selector
with_index_from : (n : ℕ) (keys : List Key) (own : Key) (index : ℕ)
    → Contains (with_index n keys) (own, index) → (n ≡ index) × Contains keys own
with_index_from n [] own index c = absurd (contains_none (own, index) c)
with_index_from n (key ∷ keys) own index c =
    elim ((contains_cons (key, n) (with_index n keys) (own, index)).0 c) [
      | inl e ↦ (ap (λ x. x.1) e, (contains_cons key keys own).1 (inl (ap (λ x. x.0) e)))
      | inr h ↦ (let r = with_index_from n keys own index h in
          (r.0, (contains_cons key keys own).1 (inr r.1)))
    ]

with_index_to : (n : ℕ) (keys : List Key) (own : Key) → Contains keys own
    → Contains (with_index n keys) (own, n)
with_index_to n [] own c = absurd (contains_none own c)
with_index_to n (key ∷ keys) own c = elim ((contains_cons key keys own).0 c) [
  | inl e ↦ (contains_cons (key, n) (with_index n keys) (own, n)).1 (inl (ap (λ k. (k, n)) e))
  | inr h ↦ (contains_cons (key, n) (with_index n keys) (own, n)).1 (inr (with_index_to n keys own h))
]

entries_have : (n : ℕ) (ss : List Selector) (own : Key) (index : ℕ)
    → Contains (entries_from n ss) (own, index)
    → (j : ℕ) × (index ≡ n + j) × (s : Selector) × (slice_get ss j ≡ Some s)
    × Contains (filed_keys s) own
entries_have n [] own index c = absurd (contains_none (own, index) c)
entries_have n (s ∷ ss) own index c =
    elim (Contains-append_cases (with_index n (filed_keys s)) (entries_from (n + 1) ss)
    (own, index) c) [
      | inl h ↦ (let r = with_index_from n (filed_keys s) own index h in
          let e = r.0 in (0, omega (arith, e), s, refl, r.1))
      | inr h ↦ (let r = entries_have (n + 1) ss own index h in
          let e = r.1 in (suc r.0, omega (arith, e), r.2, r.3, r.4))
    ]

have_entries : (n : ℕ) (ss : List Selector) (own : Key) (j : ℕ) (s : Selector)
    → slice_get ss j ≡ Some s → Contains (filed_keys s) own
    → Contains (entries_from n ss) (own, n + j)
have_entries n [] own j s is c = absurd (cc)
have_entries n (s ∷ ss) own zero t is c =
    let same : s ≡ t = cc in
    let here : n ≡ n + 0 = omega arith in
    Contains-append_left (with_index n (filed_keys s)) (entries_from (n + 1) ss) (own, n + 0)
    (subst (λ i. Contains (with_index n (filed_keys s)) (own, i)) here
    (with_index_to n (filed_keys s) own
    (subst (λ x. Contains (filed_keys x) own) (sym same) c)))
have_entries n (s ∷ ss) own (suc j) t is c =
    let there : n + 1 + j ≡ n + suc j = omega arith in
    Contains-append_right (with_index n (filed_keys s)) (entries_from (n + 1) ss) (own, n + suc j)
    (subst (λ i. Contains (entries_from (n + 1) ss) (own, i)) there
    (have_entries (n + 1) ss own j t is c))

-- the keys that an element reports, with the classes and the id that it has
abbrev pub all_keys : Reported → Option (List ℕ) → List (List ℕ) → List Key
all_keys reported id words =
    by_nothing ∷ by_name reported.name
    ∷ (id_keys id ++ (map by_class words ++ map by_attribute reported.attributes))

any_map : {X : Type 0} (p : Key → Bool) (f : X → Key) (xs : List X)
    → list_any p (map f xs) ≡ list_any (λ x. p (f x)) xs
any_map p f [] = refl
any_map p f (x ∷ xs) = ap (λ t. p (f x) || t) (any_map p f xs)

any_never : {X : Type 0} (xs : List X) → list_any (λ x. false) xs ≡ false
any_never [] = refl
any_never (x ∷ xs) = any_never xs

or_false : (t : Bool) → (t || false) ≡ t
or_false true = refl
or_false false = refl

and_false : (t : Bool) → (t && false) ≡ false
and_false true = refl
and_false false = refl

and_swap : (a b c : Bool) → (a && (b && c)) ≡ (b && (a && c))
and_swap true b c = refl
and_swap false true c = refl
and_swap false false c = refl

pub equals_is : (a v : List ℕ) → (length a == length v && begins false a v) ≡ bytes_eq a v
equals_is [] [] = refl
equals_is [] (y ∷ v) = ap (λ t. t && true) (eqb-zero-suc (length v))
equals_is (x ∷ a) [] = and_false (length (x ∷ a) == 0)
equals_is (x ∷ a) (y ∷ v) =
    ap (λ t. t && ((x == y) && begins false a v)) (eqb-suc-suc (length a) (length v))
    ∙ and_swap (length a == length v) (x == y) (begins false a v)
    ∙ ap (λ t. (x == y) && t) (equals_is a v)

id_reported : (a : List ℕ) (id : Option (List ℕ))
    → satisfies equals false a id ≡ list_any (is_same (by_id a)) (id_keys id)
id_reported a None = refl
id_reported a (Some v) = equals_is a v ∙ sym (or_false (bytes_eq a v))

-- the tests of a key
parts : (own : Key) (id : Option (List ℕ)) (words attributes : List (List ℕ))
    → list_any (is_same own) (id_keys id ++ (map by_class words ++ map by_attribute attributes))
    ≡ (list_any (is_same own) (id_keys id) || (list_any (λ w. is_same own (by_class w)) words
    || list_any (λ a. is_same own (by_attribute a)) attributes))
parts own id words attributes =
    list_any-append (is_same own) (id_keys id) (map by_class words ++ map by_attribute attributes)
    ∙ ap (λ t. list_any (is_same own) (id_keys id) || t)
    (list_any-append (is_same own) (map by_class words) (map by_attribute attributes)
    ∙ ap (λ t. t || list_any (is_same own) (map by_attribute attributes))
    (any_map (is_same own) by_class words)
    ∙ ap (λ t. list_any (λ w. is_same own (by_class w)) words || t)
    (any_map (is_same own) by_attribute attributes))

class_no_id : (a : List ℕ) (id : Option (List ℕ))
    → list_any (is_same (by_class a)) (id_keys id) ≡ false
class_no_id a None = refl
class_no_id a (Some v) = refl

name_no_id : (a : List ℕ) (id : Option (List ℕ))
    → list_any (is_same (by_name a)) (id_keys id) ≡ false
name_no_id a None = refl
name_no_id a (Some v) = refl

attribute_no_id : (a : List ℕ) (id : Option (List ℕ))
    → list_any (is_same (by_attribute a)) (id_keys id) ≡ false
attribute_no_id a None = refl
attribute_no_id a (Some v) = refl

class_among : (a : List ℕ) (words : List (List ℕ)) → Contains words a
    ↔ IsTrue (list_any (bytes_eq a) words)
class_among a words = (
  λ c. any_to (bytes_eq a) words a c ((bytes_eq-Decides a a).1 refl),
  λ h. (let r = any_from (bytes_eq a) words h in
      subst (Contains words) (sym ((bytes_eq-Decides a r.0).0 r.2)) r.1),
)

as_equal : (a b : Bool) → a ≡ b → IsTrue a ↔ IsTrue b
as_equal a b e = (λ h. sym e ∙ h, λ h. e ∙ h)

module _ {Node : Type 0} (document : Document Node) (n : Node) (reported : Reported)
    (words : List (List ℕ)) (classes : AreClasses (document.attribute n (codes "class")) words) where
  abbrev id : Option (List ℕ)
  id = document.attribute n (codes "id")

  abbrev attributes : List (List ℕ)
  attributes = reported.attributes

  -- they are the reported ones
  pub reported_are : AreReported document n reported
      (all_keys reported (document.attribute n (codes "id")) words)
  reported_are (by_id a) = as_equal _ _ (id_reported a id
      ∙ sym (parts (by_id a) id words attributes
      ∙ ap (λ t. list_any (is_same (by_id a)) (id_keys id) || (t || list_any (λ x. false) attributes))
      (any_never words)
      ∙ ap (λ t. list_any (is_same (by_id a)) (id_keys id) || t) (any_never attributes)
      ∙ or_false (list_any (is_same (by_id a)) (id_keys id))))
  reported_are (by_class a) =
      let same : list_any (is_same (by_class a)) (all_keys reported id words)
      ≡ list_any (bytes_eq a) words =
      parts (by_class a) id words attributes
      ∙ ap (λ t. t || (list_any (bytes_eq a) words || list_any (λ x. false) attributes))
      (class_no_id a id)
      ∙ ap (λ t. list_any (bytes_eq a) words || t) (any_never attributes)
      ∙ or_false (list_any (bytes_eq a) words) in (
        λ h. same ∙ (class_among a words).0 ((classes a).0 h),
        λ h. (classes a).1 ((class_among a words).1 (sym same ∙ h)),
      )
  reported_are (by_name a) = as_equal _ _ (sym (ap (λ t. str_eq_ignore_ascii_case a reported.name || t)
      (parts (by_name a) id words attributes
      ∙ ap (λ t. t || (list_any (λ x. false) words || list_any (λ x. false) attributes))
      (name_no_id a id)
      ∙ ap (λ t. t || list_any (λ x. false) attributes) (any_never words) ∙ any_never attributes)
      ∙ or_false (str_eq_ignore_ascii_case a reported.name)))
  reported_are (by_attribute a) = as_equal _ _ (sym (parts (by_attribute a) id words attributes
      ∙ ap (λ t. t || (list_any (λ x. false) words
      || list_any (str_eq_ignore_ascii_case a) attributes)) (attribute_no_id a id)
      ∙ ap (λ t. t || list_any (str_eq_ignore_ascii_case a) attributes) (any_never words)))
  reported_are by_nothing = (λ h. refl, λ h. refl)

more_found : (f : Key → List ℕ) (old before after : List ℕ) (keys more : List Key)
    → before ≡ old ++ flat_map f keys → after ≡ before ++ flat_map f more
    → after ≡ old ++ flat_map f (keys ++ more)
more_found f old before after keys more known next =
    next ∙ ap (λ xs. xs ++ flat_map f more) known
    ∙ append_assoc old (flat_map f keys) (flat_map f more)
    ∙ ap (λ xs. old ++ xs) (sym (flat_map-append f keys more))

one_more_found : (f : Key → List ℕ) (old before after : List ℕ) (keys : List Key) (key : Key)
    → before ≡ old ++ flat_map f keys → after ≡ before ++ f key
    → after ≡ old ++ flat_map f (keys ++ key ∷ [])
one_more_found f old before after keys key known next =
    more_found f old before after keys (key ∷ []) known
    (next ∙ ap (λ xs. before ++ xs) (sym (append-nil (f key))))

-- what is found by the keys one after the other
pub found_in_turn : (f : Key → List ℕ) (old any named of_id of_classes all : List ℕ) (a b : Key)
    (ids classes attributes : List Key) → any ≡ old ++ f a → named ≡ any ++ f b
    → of_id ≡ named ++ flat_map f ids → of_classes ≡ of_id ++ flat_map f classes
    → all ≡ of_classes ++ flat_map f attributes
    → all ≡ old ++ flat_map f (a ∷ b ∷ (ids ++ (classes ++ attributes)))
found_in_turn f old any named of_id of_classes all a b ids classes attributes e1 e2 e3 e4 e5 =
    let one = one_more_found f old old any [] a (sym (append-nil old)) e1 in
    let two = one_more_found f old any named (a ∷ []) b one e2 in
    let three = more_found f old named of_id (a ∷ b ∷ []) ids two e3 in
    let four = more_found f old of_id of_classes (a ∷ b ∷ ids) classes three e4 in
    more_found f old of_classes all (a ∷ b ∷ (ids ++ classes)) attributes four e5
    ∙ ap (λ ks. old ++ flat_map f (a ∷ b ∷ ks)) (append_assoc ids classes attributes)

pub on_ok : {T E P Q : Type 0} (r : Result T E) → (P → Q) → OnOk r P → OnOk r Q
on_ok (Ok x) f h = f h
on_ok (Err e) f h = h

module _ {Node : Type 0} (document : Document Node) (n : Node) (reported : Reported) where
  -- what is found by the keys that an element reports
  pub keyed_found : (ss : List Selector) (keys : List Key) → AreReported document n reported keys
      → (index : ℕ)
      → Contains (found_by_any (entries_of ss) keys) index
      ↔ IsKeyedAt document n reported ss index
  keyed_found ss keys are index = (there, back)
    where
      there : Contains (found_by_any (entries_of ss) keys) index
          → IsKeyedAt document n reported ss index
      there c =
          let r = any_found_from (entries_of ss) keys index c in
          let e = entries_have 0 ss r.0 index r.1 in
          let i = e.1 in
          let at : e.0 ≡ index = omega (arith, i) in (
            e.2,
            subst (λ j. slice_get ss j ≡ Some e.2) at e.3,
            any_to (reports_key document n reported) (filed_keys e.2) r.0 e.4 ((are r.0).1 r.2),
          )

      back : IsKeyedAt document n reported ss index
          → Contains (found_by_any (entries_of ss) keys) index
      back (s, is, h) =
          let r = any_from (reports_key document n reported) (filed_keys s) h in
          let at : 0 + index ≡ index = omega arith in
          any_found_to (entries_of ss) keys index r.0
          (subst (λ i. Contains (entries_of ss) (r.0, i)) at
          (have_entries 0 ss r.0 index s is r.1)) ((are r.0).0 r.2)
