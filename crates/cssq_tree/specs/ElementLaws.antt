-- The laws of an element: its depth and its parent's, its parent and its sibling's, and that it
-- reports every key that it has. They are proofs, and are in this folder since the traits `Element`
-- and `Keyed` require them: an impl names them, so they belong to what is stated.
use Rattle.std.proofs.Common.{◌≡◌, ℕ, zero, suc, ◌+◌, ◌<◌, ◌≤◌, Bool, true, false, cond, List, take, get_or, refl, sym, ap, ◌∙◌, subst, arith, Option, None, Some, IfSome, MatchOption}
use Rattle.std.specs.Prelude.{nat_lt, ◌==◌, IsTrue, is_some}
use Rattle.std.specs.Option.{option_map, option_map_or}
use Rattle.std.proofs.lemmas.Bool.Decides.{nat_tests}
use Rattle.std.proofs.lemmas.List.{get_or-take}
use Rattle.std.proofs.lemmas.Grind.{common_steps}
use Rattle.simplecss_selector.specs.Exact.{ReportsOnlyKeys}
use Rattle.simplecss_selector.specs.Keys.{ReportsKeys}
use Rattle.simplecss_selector.specs.Keys.Key.{by_id, by_class, by_name, by_attribute, by_nothing}
use Rattle.simplecss_selector.specs.Operators.{is_satisfied}
use Rattle.simplecss_grammar.specs.Components.{Operator}
use Rattle.simplecss_grammar.specs.Components.Operator.{exists}
use Rattle.simplecss_selector.specs.Trees.{DepthCountsAncestors, SiblingsShareParent}
use Rattle.cssq_tree.specs.ParentsAndSiblings.{depths_of, last_index, parent_index, nearest_index, previous_index}
use Rattle.cssq_tree.specs.PageNodes.{Spot, spot, parent_of, ancestors_within, ancestor_count, page_tree, reported_of, attribute_at}
use Rattle.cssq_tree.specs.internal.Siblings.{equal_near, equal_at, previous_is, parent_within, nearest_before}

-- the number of ancestors, from the parent on
abbrev above : ℕ → List ℕ → Option ℕ → ℕ
above steps depths None = 0
above steps depths (Some parent) = ancestors_within steps depths parent + 1

above_by : (steps : ℕ) (depths : List ℕ) (r : Option ℕ)
    → elim r [ None ↦ 0 | Some parent ↦ ancestors_within steps depths parent + 1 ]
    ≡ above steps depths r
above_by steps depths None = refl
above_by steps depths (Some parent) = refl

above_at : (steps : ℕ) (depths : List ℕ) (index : ℕ) (r : Option ℕ) → parent_index depths index ≡ r
    → ancestors_within (suc steps) depths index ≡ above steps depths r
above_at steps depths index r is =
    above_by steps depths (parent_index depths index) ∙ ap (above steps depths) is

above_same : (m n : ℕ) (depths : List ℕ) (index : ℕ) (r : Option ℕ) → IfSome r (λ j. j < index)
    → ((j : ℕ) → j < index → ancestors_within m depths j ≡ ancestors_within n depths j)
    → above m depths r ≡ above n depths r
above_same m n depths index None before same = refl
above_same m n depths index (Some j) before same = ap (λ k. k + 1) (same j before)

-- more steps than the index find the same ancestors
enough : (m n : ℕ) (depths : List ℕ) (index : ℕ) → index < m → index < n
    → ancestors_within m depths index ≡ ancestors_within n depths index
enough zero n depths index lt lt' = absurd (omega arith)
enough (suc m) zero depths index lt lt' = absurd (omega arith)
enough (suc m) (suc n) depths index lt lt' =
    above_at m depths index (parent_index depths index) refl
    ∙ above_same m n depths index (parent_index depths index) (parent_within depths index)
    (λ j before. enough m n depths j (omega arith) (omega arith))
    ∙ sym (above_at n depths index (parent_index depths index) refl)

counted : (x : Spot) (r : Option ℕ) → parent_index (depths_of x.rows) x.index ≡ r
    → MatchOption (option_map (spot x.rows) r) (ancestor_count x ≡ 0)
    (λ p. ancestor_count x ≡ ancestor_count p + 1)
counted x None is = above_at x.index (depths_of x.rows) x.index None is
counted x (Some j) is =
    let before : j < x.index =
    subst (λ r. IfSome r (λ j. j < x.index)) is (parent_within (depths_of x.rows) x.index) in
    above_at x.index (depths_of x.rows) x.index (Some j) is
    ∙ ap (λ k. k + 1) (enough x.index (suc j) (depths_of x.rows) j before (omega arith))

pub depths_count_ancestors : DepthCountsAncestors page_tree
depths_count_ancestors x = counted x (parent_index (depths_of x.rows) x.index) refl

found_at : (depths : List ℕ) (depth i j : ℕ) (b : Bool) → (get_or depths i 0 == depth) ≡ b
    → cond b (Some i) None ≡ Some j → (Some i ≡ Some j) × (get_or depths j 0 ≡ depth)
found_at depths depth i j false e is = absurd (cc)
found_at depths depth i j true e is =
    let same : i ≡ j = cc in
    (is, ap (λ k. get_or depths k 0) (sym same) ∙ grind (arith, nat_tests, e))

found_equal : (depths : List ℕ) (depth : ℕ) (r : Option ℕ) (j : ℕ)
    → equal_at depths depth r ≡ Some j
    → (r ≡ Some j) × (get_or depths j 0 ≡ depth)
found_equal depths depth None j is = absurd (cc)
found_equal depths depth (Some i) j is =
    found_at depths depth i j (get_or depths i 0 == depth) refl is

same_parent : (depths : List ℕ) (i j : ℕ) → previous_index depths i ≡ Some j
    → parent_index depths j ≡ parent_index depths i
same_parent depths i j is =
    let found = found_equal depths (get_or depths i 0) (nearest_index depths i) j
    (sym (previous_is depths i) ∙ is) in
    let before : j < i = subst (λ r. IfSome r (λ j. j < i)) found.0 (nearest_before depths i) in
    let at : get_or (take i depths) j 0 ≡ get_or depths j 0 = get_or-take i depths j 0 before in
    let front : take j (take i depths) ≡ take j depths = let le : j ≤ i = omega arith in
    grind (arith, common_steps) in
    let under = sym at in
    let list = sym front in
    let parent : parent_index depths j ≡ parent_index (take i depths) j =
    (λ k. last_index (λ d. nat_lt d (under k)) (list k)) in
    (equal_near (take i depths) (get_or depths i 0) j (parent_index depths j) (sym found.0)
    (at ∙ found.1) parent).0

shared : (x : Spot) (r : Option ℕ) → previous_index (depths_of x.rows) x.index ≡ r
    → IfSome (option_map (spot x.rows) r) (λ s. parent_of s ≡ parent_of x)
shared x None is = tt
shared x (Some j) is = ap (option_map (spot x.rows)) (same_parent (depths_of x.rows) x.index j is)

pub siblings_share_parents : SiblingsShareParent page_tree
siblings_share_parents x = shared x (previous_index (depths_of x.rows) x.index) refl

-- there is a value that satisfies the operator
value_there : (r : Option (List ℕ)) (o : Operator) → IsTrue (option_map_or (is_satisfied o) r false)
    → IsTrue (is_some r)
value_there None o h = absurd (cc)
value_there (Some v) o h = refl

pub keys_reported : (s : Spot) → ReportsKeys page_tree s (reported_of s)
keys_reported s (by_id text) h = h
keys_reported s (by_class word) h = h
keys_reported s (by_name name) h = h
keys_reported s (by_attribute name) (o, h) = value_there (attribute_at s.rows s.index name) o h
keys_reported s by_nothing h = h

there_value : (r : Option (List ℕ)) → IsTrue (is_some r)
    → (o : Operator) × IsTrue (option_map_or (is_satisfied o) r false)
there_value None h = absurd (cc)
there_value (Some v) h = (exists, refl)

pub only_keys_reported : (s : Spot) → ReportsOnlyKeys page_tree s (reported_of s)
only_keys_reported s (by_id text) h = h
only_keys_reported s (by_class word) h = h
only_keys_reported s (by_name name) h = h
only_keys_reported s (by_attribute name) h = there_value (attribute_at s.rows s.index name) h
only_keys_reported s by_nothing h = h
