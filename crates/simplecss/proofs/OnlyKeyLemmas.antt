-- A selector that requires nothing but its key matches whatever has the key.
-- Serves `index::keep::keep_matching` and `RuleIndex::matching_exact`.
use Rattle.std.proofs.Common.{◌≡◌, ℕ, ◌<◌, List, [], ◌∷◌, ◌++◌, Option, Some, None, Bool, true, false, IsTrue, length, get_or, refl, sym, ap, ◌∙◌, subst, arith}
use Rattle.std.specs.List.{All, Contains, filter, list_all, sum_by}
use Rattle.std.proofs.lemmas.List.Elements.{All-push}
use Rattle.std.proofs.lemmas.List.Sums.{AllPass-from_list_all, list_all-from_AllPass, sum_by-cons}
use Rattle.std.specs.Prelude.{◌+◌, ◌↔◌, bytes_eq, codes, ◌&&◌, not, if◌then◌else◌}
use Rattle.std.proofs.lemmas.Bool.{false≢true}
use Rattle.std.proofs.lemmas.Slice.Eq.{bytes_eq-Decides}
use Rattle.simplecss_grammar.specs.Components.{Component, Compound, Subselector, Operator, Combinator}
use Rattle.simplecss_grammar.specs.Components.Subselector.{attribute, pseudo_class}
use Rattle.simplecss_grammar.specs.Components.Operator.{exists, equals, has_word, begins_with}
use Rattle.simplecss_grammar.specs.Components.Combinator.{none, descendant, child, adjacent}
use Rattle.simplecss_selector.specs.Exact.{ReportsOnlyKeys}
use Rattle.simplecss_selector.specs.Keys.{Key, Reported, HasKey, reports_key}
use Rattle.simplecss_selector.specs.Keys.Key.{by_id, by_class, by_name, by_attribute, by_nothing}
use Rattle.simplecss_selector.specs.Placements.{IsAncestor, HasName, Holds, Meets, Relates, HasPlacement}
use Rattle.simplecss_selector.specs.Placements.IsAncestor.{is_parent, is_further}
use Rattle.simplecss_selector.specs.Trees.{Tree}
use Rattle.simplecss_selector.specs.Buckets.{Bucket, Near, IsNear, reports_bucket, bucket_of}
use Rattle.simplecss_selector.specs.Buckets.Bucket.{of_element, of_parent, of_previous}
use Rattle.simplecss.specs.OnlyKeys.{only_has, only_name, only_holds, only_meets, requires_only, requires_only_key}
use Rattle.simplecss.specs.internal.OnlyKeys.{only_tree}
use Rattle.simplecss.specs.internal.NeededKeys.{AreOnly}
use Rattle.simplecss.specs.internal.Chains.{selectors_of}
use Rattle.simplecss.specs.declared.index.link.Link.{Link}
use Rattle.simplecss.proofs.OpenPathLemmas.{link_selector}
use Rattle.simplecss.specs.internal.Kept.{AreKept}
use Rattle.simplecss.specs.SelectorIndices.{selector_at, key_at}

no_ancestor : (m x : Key) → IsAncestor only_tree m x → ⊥
no_ancestor m x (is_parent e) = absurd (cc)
no_ancestor m x (is_further e above) = absurd (cc)

-- a node that has only a key has no relative
no_relative : (c : Combinator) (m x : Key) → Relates only_tree c m x → ⊥
no_relative none m x h = h
no_relative descendant m x h = no_ancestor m x h
no_relative child m x h = absurd (cc)
no_relative adjacent m x h = absurd (cc)

module _ {Node : Type 0} (tree : Tree Node) (n : Node) where
  name_met : (key : Key) (name : Option (List ℕ)) → HasName only_tree key name → HasKey tree n key
      → HasName tree n name
  name_met key None h has = tt
  name_met (by_id text) (Some name) h has = absurd (false≢true h)
  name_met (by_class word) (Some name) h has = absurd (false≢true h)
  name_met (by_name known) (Some name) h has =
      subst (λ x. IsTrue (tree.is_named n x)) ((bytes_eq-Decides known name).0 h) has
  name_met (by_attribute known) (Some name) h has = absurd (false≢true h)
  name_met by_nothing (Some name) h has = absurd (false≢true h)

  same_held : (back : List ℕ → Operator) (known other name key : List ℕ)
      → IsTrue (bytes_eq known other && bytes_eq name key)
      → IsTrue (tree.has_attribute n key (back known))
      → IsTrue (tree.has_attribute n name (back other))
  same_held back known other name key h has =
      at (bytes_eq known other) refl (bytes_eq name key) refl h
    where
      at : (a : Bool) → bytes_eq known other ≡ a → (b : Bool) → bytes_eq name key ≡ b
          → IsTrue (a && b) → IsTrue (tree.has_attribute n name (back other))
      at false e b f g = absurd (false≢true g)
      at true e false f g = absurd (false≢true g)
      at true e true f g =
          subst (λ x. IsTrue (tree.has_attribute n x (back other)))
          (sym ((bytes_eq-Decides name key).0 f))
          (subst (λ t. IsTrue (tree.has_attribute n key (back t)))
          ((bytes_eq-Decides known other).0 e) has)

  attribute_met : (key : Key) (name : List ℕ) (operator : Operator)
      → IsTrue (only_has key name operator) → HasKey tree n key
      → IsTrue (tree.has_attribute n name operator)
  attribute_met (by_id text) name exists h has = absurd (false≢true h)
  attribute_met (by_id text) name (equals other) h has =
      same_held equals text other name (codes "id") h has
  attribute_met (by_id text) name (has_word other) h has = absurd (false≢true h)
  attribute_met (by_id text) name (begins_with other) h has = absurd (false≢true h)
  attribute_met (by_class word) name exists h has = absurd (false≢true h)
  attribute_met (by_class word) name (equals other) h has = absurd (false≢true h)
  attribute_met (by_class word) name (has_word other) h has =
      same_held has_word word other name (codes "class") h has
  attribute_met (by_class word) name (begins_with other) h has = absurd (false≢true h)
  attribute_met (by_name known) name operator h has = absurd (false≢true h)
  attribute_met (by_attribute known) name operator h has = absurd (false≢true h)
  attribute_met by_nothing name operator h has = absurd (false≢true h)

  holds_met : (key : Key) (s : Subselector) → Holds only_tree key s → HasKey tree n key
      → Holds tree n s
  holds_met key (attribute name operator) h has = attribute_met key name operator h has
  holds_met key (pseudo_class class) h has = absurd (false≢true h)

  meets_met : (key : Key) (compound : Compound) → Meets only_tree key compound
      → HasKey tree n key → Meets tree n compound
  meets_met key compound h has = (
    name_met key compound.name h.0 has,
    λ k d l. holds_met key (get_or compound.subselectors k d) (h.1 k d l) has,
  )

  -- what matches a node that has only the key matches one that has the key
  pub only_placed : (key : Key) (cs : List Component) → HasPlacement only_tree cs key
      → HasKey tree n key → HasPlacement tree cs n
  only_placed key [] (nodes, h) has = absurd h
  only_placed key (c ∷ cs) ([], h) has = absurd h
  only_placed key (c ∷ []) (m ∷ [], (met, is)) has = (
    n ∷ [],
    (meets_met key c.compound (subst (λ k. Meets only_tree k c.compound) is met) has, refl),
  )
  only_placed key (c ∷ []) (m ∷ x ∷ xs, h) has = absurd h.1
  only_placed key (c ∷ d ∷ cs) (m ∷ [], h) has = absurd h.1
  only_placed key (c ∷ d ∷ cs) (m ∷ x ∷ xs, h) has = absurd (no_relative d.combinator m x h.1.0)

-- a node that has only the key has what the key is all of, and nothing else
name_only : (key : Key) (name : Option (List ℕ)) → HasName only_tree key name ↔ IsTrue (only_name key name)
name_only key None = (λ h. refl, λ h. tt)
name_only key (Some name) = (λ h. h, λ h. h)

holds_only : (key : Key) (s : Subselector) → Holds only_tree key s ↔ IsTrue (only_holds key s)
holds_only key (attribute name operator) = (λ h. h, λ h. h)
holds_only key (pseudo_class class) = (λ h. h, λ h. h)

all_only : (key : Key) (ss : List Subselector)
    → All (Holds only_tree key) ss ↔ IsTrue (list_all (only_holds key) ss)
all_only key ss = (
  λ h. list_all-from_AllPass (only_holds key) ss (λ k d lt. (holds_only key (get_or ss k d)).0 (h k d lt)),
  λ h k d lt. (holds_only key (get_or ss k d)).1 (AllPass-from_list_all (only_holds key) ss h k d lt),
)

both_true : (a b : Bool) → IsTrue a → IsTrue b → IsTrue (a && b)
both_true true b h k = k
both_true false b h k = absurd (false≢true h)

split_true : (a b : Bool) → IsTrue (a && b) → IsTrue a × IsTrue b
split_true true b h = (refl, h)
split_true false b h = absurd (false≢true h)

-- two answers that are true in the same cases
pub same_truth : (a b : Bool) → IsTrue a ↔ IsTrue b → a ≡ b
same_truth true true h = refl
same_truth true false h = sym (h.0 refl)
same_truth false true h = h.1 refl
same_truth false false h = refl

-- it matches exactly what requires nothing but the key
pub only_placement : (key : Key) (cs : List Component) → HasPlacement only_tree cs key ↔ IsTrue (only_meets key cs)
only_placement key cs = (there key cs, back key cs)
  where
    there : (key : Key) (cs : List Component) → HasPlacement only_tree cs key → IsTrue (only_meets key cs)
    there key [] (nodes, h) = absurd h
    there key (c ∷ cs) ([], h) = absurd h
    there key (c ∷ []) (m ∷ [], (met, is)) =
        let own : Meets only_tree key c.compound = subst (λ k. Meets only_tree k c.compound) is met in
        both_true _ _ ((name_only key c.compound.name).0 own.0)
        ((all_only key c.compound.subselectors).0 own.1)
    there key (c ∷ []) (m ∷ x ∷ xs, h) = absurd h.1
    there key (c ∷ d ∷ cs) (m ∷ [], h) = absurd h.1
    there key (c ∷ d ∷ cs) (m ∷ x ∷ xs, h) = absurd (no_relative d.combinator m x h.1.0)

    back : (key : Key) (cs : List Component) → IsTrue (only_meets key cs) → HasPlacement only_tree cs key
    back key [] h = absurd (false≢true h)
    back key (c ∷ []) h =
        let both = split_true _ _ h in (
          key ∷ [],
          (
            (
              (name_only key c.compound.name).1 both.0,
              (all_only key c.compound.subselectors).1 both.1,
            ),
            refl,
          ),
        )
    back key (c ∷ d ∷ cs) h = absurd (false≢true h)

-- a bucket of the element whose key is all that the selector requires
bucket_only : (bucket : Bucket) (selector : List Component) → IsTrue (requires_only bucket selector)
    → (key : Key) × (bucket ≡ of_element key) × IsTrue (only_meets key selector)
bucket_only (of_element key) selector h = (key, refl, h)
bucket_only (of_parent key) selector h = absurd (false≢true h)
bucket_only (of_previous key) selector h = absurd (false≢true h)

-- of the selectors whose key is reported, those that require nothing but the key match an element
-- that reports only keys that it has
pub known_placed : {Node Self : Type 0} (tree : Tree Node) (node : Self → Node)
    (reported : Self → Reported) (element : Self) (near : Near)
    → IsNear tree node reported element near
    → ReportsOnlyKeys tree (node element) (reported element)
    → (keeps : List Component → Bool) (selectors : List (List Component)) (indices : List ℕ)
    → AreKept near keeps selectors indices → (index : ℕ) → Contains indices index
    → IsTrue (requires_only_key (selector_at selectors index))
    → HasPlacement tree (selector_at selectors index) (node element)
known_placed tree node reported element near is only keeps selectors indices kept index there known =
    let selector = selector_at selectors index in
    let own = bucket_only (bucket_of selector) selector known in
    only_placed tree (node element) own.0 selector ((only_placement own.0 selector).1 own.2)
    (only own.0 (subst (λ r. IsTrue (reports_key r own.0)) is.own
    (subst (λ w. IsTrue (reports_bucket near w)) own.1
    (split_true (reports_bucket near (key_at selectors index)) (keeps selector)
    ((kept.exactly index).0 there).1).0)))

-- a link after others, of a selector
pub only_push : (links more : List Link) (link : Link) (s : List Component) → AreOnly links
    → link.selector.value ≡ s → link.is_only_key ≡ requires_only_key s → more ≡ links ++ link ∷ []
    → AreOnly more
only_push links more link s are is only e =
    subst AreOnly (sym e) (All-push (λ l. l.is_only_key ≡ requires_only_key l.selector.value)
    links link are (only ∙ ap requires_only_key (sym is)))

-- the selector of a link
pub only_at : (links : List Link) (selectors : List (List Component)) (index : ℕ) (link : Link)
    → AreOnly links → selectors_of links ≡ selectors → index < length links
    → link ≡ get_or links index link
    → link.is_only_key ≡ requires_only_key (selector_at selectors index)
only_at links selectors index link are is lt read =
    let selector : link.selector.value ≡ selector_at selectors index =
    ap (λ l. l.selector.value) read ∙ sym (link_selector links index link lt)
    ∙ ap (λ ss. selector_at ss index) is in
    subst (λ l. l.is_only_key ≡ requires_only_key l.selector.value) (sym read) (are index link lt)
    ∙ ap requires_only_key selector

-- what only those cost that are not known is what the others cost
module _ {X : Type 0} (is : X → Bool) (cost : X → ℕ) where
  unless_first : (b : Bool) (x : X) (xs : List X) → is x ≡ b
      → sum_by cost (filter (λ y. not (is y)) (x ∷ xs))
      ≡ (if b then 0 else cost x) + sum_by cost (filter (λ y. not (is y)) xs)
  unless_first true x xs e = rw e (omega arith)
  unless_first false x xs e = rw e (sum_by-cons cost x (filter (λ y. not (is y)) xs))

  pub sum_unless : (xs : List X)
      → sum_by (λ x. if is x then 0 else cost x) xs ≡ sum_by cost (filter (λ x. not (is x)) xs)
  sum_unless [] = refl
  sum_unless (x ∷ xs) =
      sum_by-cons (λ y. if is y then 0 else cost y) x xs
      ∙ ap (λ n. (if is x then 0 else cost x) + n) (sum_unless xs)
      ∙ sym (unless_first (is x) x xs refl)
