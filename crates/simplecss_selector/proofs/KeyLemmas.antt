-- An element that a selector matches has the selector's key.
-- Serves `laws::key_law`.
use Rattle.std.proofs.Common.{◌≡◌, ℕ, suc, ◌-◌, ◌<◌, List, [], ◌∷◌, Option, Some, None, Bool, true, false, IsTrue, length, refl, ◌∙◌, ap, subst, arith, All}
use Rattle.std.specs.Prelude.{bytes_eq, codes, if◌then◌else◌}
use Rattle.std.specs.Option.{option_or}
use Rattle.std.proofs.lemmas.Slice.Eq.{bytes_eq-Decides}
use Rattle.std.proofs.lemmas.List.Elements.{All-head, All-tail}
use Rattle.simplecss_grammar.specs.Components.{Operator, Subselector, Compound, Component}
use Rattle.simplecss_grammar.specs.Components.Operator.{exists, equals, has_word, begins_with}
use Rattle.simplecss_grammar.specs.Components.Subselector.{attribute, pseudo_class}
use Rattle.simplecss_selector.specs.Trees.{Tree}
use Rattle.simplecss_selector.specs.Placements.{HasPlacement, Meets, HasName, Holds}
use Rattle.simplecss_selector.specs.internal.PlacementSearch.{Reaches}
use Rattle.simplecss_selector.specs.Shapes.{first_of, component_at}
use Rattle.simplecss_selector.specs.Keys.{equal_text, wanted_word, required_id, required_class, required_attribute, first_required, key_among, compound_key, key_of, HasKey}
use Rattle.simplecss_selector.proofs.Reaching.{first_of-suc}
use Rattle.simplecss_selector.proofs.Greedy.{placement_of}

-- the first required text is required by one of the subselectors, so a node that satisfies them all
-- satisfies it
first_held : (required : Subselector → Option (List ℕ)) (P : Subselector → Type 0)
    (Q : List ℕ → Type 0) (ss : List Subselector) (v : List ℕ)
    → ((s : Subselector) → required s ≡ Some v → P s → Q v) → first_required required ss ≡ Some v
    → All P ss → Q v
first_held required P Q [] v gives e h = absurd (cc)
first_held required P Q (s ∷ ss) v gives e h =
    at (required s) refl e (λ f. first_held required P Q ss v gives f (All-tail P s ss h))
  where
    at : (r : Option (List ℕ)) → required s ≡ r → option_or r (first_required required ss) ≡ Some v
        → (first_required required ss ≡ Some v → Q v) → Q v
    at None is f later = later f
    at (Some w) is f later = gives s (is ∙ f) (All-head P s ss h)

-- a node that satisfies a subselector on an attribute satisfies its operator
attribute_held : {Node : Type 0} (tree : Tree Node) (n : Node) (name key : List ℕ)
    (required : Operator → Option (List ℕ)) (back : List ℕ → Operator) (v : List ℕ) (o : Operator)
    → (required o ≡ Some v → o ≡ back v) → (if bytes_eq name key then required o else None) ≡ Some v
    → IsTrue (tree.has_attribute n name o) → IsTrue (tree.has_attribute n key (back v))
attribute_held tree n name key required back v o undone e h = at (bytes_eq name key) refl e
  where
    at : (b : Bool) → bytes_eq name key ≡ b → (if b then required o else None) ≡ Some v
        → IsTrue (tree.has_attribute n key (back v))
    at false is f = absurd (cc)
    at true is f =
        subst (λ x. IsTrue (tree.has_attribute n x (back v))) ((bytes_eq-Decides name key).0 is)
        (subst (λ x. IsTrue (tree.has_attribute n name x)) (undone f) h)

equal_back : (o : Operator) (v : List ℕ) → equal_text o ≡ Some v → o ≡ equals v
equal_back exists v e = absurd (cc)
equal_back (equals w) v e = let same : w ≡ v = cc in ap equals same
equal_back (has_word w) v e = absurd (cc)
equal_back (begins_with w) v e = absurd (cc)

word_back : (o : Operator) (v : List ℕ) → wanted_word o ≡ Some v → o ≡ has_word v
word_back exists v e = absurd (cc)
word_back (equals w) v e = absurd (cc)
word_back (has_word w) v e = let same : w ≡ v = cc in ap has_word same
word_back (begins_with w) v e = absurd (cc)

id_held : {Node : Type 0} (tree : Tree Node) (n : Node) (v : List ℕ) (s : Subselector)
    → required_id s ≡ Some v → Holds tree n s
    → IsTrue (tree.has_attribute n (codes "id") (equals v))
id_held tree n v (pseudo_class class) e h = absurd (cc)
id_held tree n v (attribute name o) e h =
    attribute_held tree n name (codes "id") equal_text equals v o (equal_back o v) e h

class_held : {Node : Type 0} (tree : Tree Node) (n : Node) (v : List ℕ) (s : Subselector)
    → required_class s ≡ Some v → Holds tree n s
    → IsTrue (tree.has_attribute n (codes "class") (has_word v))
class_held tree n v (pseudo_class class) e h = absurd (cc)
class_held tree n v (attribute name o) e h =
    attribute_held tree n name (codes "class") wanted_word has_word v o (word_back o v) e h

-- the node satisfies some operator on an attribute with the name
abbrev HasAttribute : {Node : Type 0} → Tree Node → Node → List ℕ → Type 0
HasAttribute tree n name = (operator : Operator) × IsTrue (tree.has_attribute n name operator)

attribute_there : {Node : Type 0} (tree : Tree Node) (n : Node) (v : List ℕ) (s : Subselector)
    → required_attribute s ≡ Some v → Holds tree n s → HasAttribute tree n v
attribute_there tree n v (pseudo_class class) e h = absurd (cc)
attribute_there tree n v (attribute name o) e h =
    let same : name ≡ v = cc in
    subst (HasAttribute tree n) same (o, h)

pub met_has_key : {Node : Type 0} (tree : Tree Node) (n : Node) (c : Compound) → Meets tree n c
    → HasKey tree n (compound_key c)
met_has_key tree n c m = at (first_required required_id c.subselectors) refl
    (first_required required_class c.subselectors) refl c.name m.0
    (first_required required_attribute c.subselectors) refl
  where
    at : (i : Option (List ℕ)) → first_required required_id c.subselectors ≡ i
        → (k : Option (List ℕ)) → first_required required_class c.subselectors ≡ k
        → (name : Option (List ℕ)) → HasName tree n name → (a : Option (List ℕ))
        → first_required required_attribute c.subselectors ≡ a
        → HasKey tree n (key_among i k name a)
    at (Some v) is k ks name h a asks = first_held required_id (Holds tree n)
        (λ w. IsTrue (tree.has_attribute n (codes "id") (equals w))) c.subselectors v
        (λ s. id_held tree n v s) is m.1
    at None is (Some v) ks name h a asks = first_held required_class (Holds tree n)
        (λ w. IsTrue (tree.has_attribute n (codes "class") (has_word w))) c.subselectors v
        (λ s. class_held tree n v s) ks m.1
    at None is None ks (Some name) h a asks = h
    at None is None ks None h (Some v) asks = first_held required_attribute (Holds tree n)
        (HasAttribute tree n) c.subselectors v (λ s. attribute_there tree n v s) asks m.1
    at None is None ks None h None asks = refl

-- a placement needs the selector's key
pub key_needed : {Node : Type 0} (tree : Tree Node) (cs : List Component) (n : Node)
    → HasPlacement tree cs n → HasKey tree n (key_of cs)
key_needed tree [] n (ns, p) = absurd p
key_needed tree (c ∷ cs) n h =
    let within : length cs < length (c ∷ cs) = omega arith in
    let last : length cs ≡ length (c ∷ cs) - 1 = omega arith in
    let at = component_at (c ∷ cs) (length cs) in
    let reached : Reaches tree (at ∷ first_of (c ∷ cs) (length cs)) n =
    subst (λ xs. Reaches tree xs n) (first_of-suc (c ∷ cs) (length cs) within)
    ((placement_of tree (c ∷ cs) (suc (length cs)) n refl).0 h) in
    subst (λ k. HasKey tree n (compound_key (component_at (c ∷ cs) k).compound)) last
    (met_has_key tree n at.compound reached.0)
