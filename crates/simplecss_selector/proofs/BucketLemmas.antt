-- An element that a selector matches, or its parent or previous sibling, has the bucket's key, and
-- reports it.
-- Serves `Selector::bucket`, and the index of the crate `simplecss`.
use Rattle.std.proofs.Common.{◌≡◌, ℕ, suc, ◌+◌, ◌-◌, ◌<◌, List, [], ◌∷◌, Option, Some, None, false, IsTrue, length, refl, sym, ◌∙◌, ap, subst, arith}
use Rattle.std.specs.Option.{option_map_or}
use Rattle.simplecss_grammar.specs.Components.{Component, Combinator}
use Rattle.simplecss_grammar.specs.Components.Combinator.{none, descendant, child, adjacent}
use Rattle.simplecss_selector.specs.Trees.{Tree}
use Rattle.simplecss_selector.specs.Placements.{HasPlacement, Relates}
use Rattle.simplecss_selector.specs.internal.PlacementSearch.{Reaches}
use Rattle.simplecss_selector.specs.Shapes.{first_of, component_at}
use Rattle.simplecss_selector.specs.Keys.{Key, Reported, ReportsKeys, compound_key, HasKey, reports_key}
use Rattle.simplecss_selector.specs.Keys.Key.{by_id, by_class, by_name, by_attribute, by_nothing}
use Rattle.simplecss_selector.specs.Buckets.{Near, beside, bucket_by, bucket_among, bucket_of, SomeHas, HasBucket, ReportsBuckets, IsReportedFor, IsNear}
use Rattle.simplecss_selector.specs.Buckets.Bucket.{of_element, of_parent, of_previous}
use Rattle.simplecss_selector.proofs.KeyLemmas.{met_has_key}
use Rattle.simplecss_selector.proofs.Reaching.{first_of-suc}
use Rattle.simplecss_selector.proofs.Greedy.{placement_of}

some_has : {Node : Type 0} (tree : Tree Node) (m : Node) (r : Option Node) (key : Key) → r ≡ Some m
    → HasKey tree m key → SomeHas tree r key
some_has tree m r key is h = subst (λ o. SomeHas tree o key) (sym is) h

beside_held : {Node : Type 0} (tree : Tree Node) (c : Combinator) (m n : Node) (before : Key)
    → Relates tree c m n → HasKey tree m before → HasBucket tree n (beside c before)
beside_held tree none m n before r h = refl
beside_held tree descendant m n before r h = refl
beside_held tree child m n before r h = some_has tree m (tree.parent n) before r h
beside_held tree adjacent m n before r h = some_has tree m (tree.previous_sibling n) before r h

by_held : {Node : Type 0} (tree : Tree Node) (key : Key) (c : Combinator) (m n : Node)
    (before : Key) → HasKey tree n key → Relates tree c m n → HasKey tree m before
    → HasBucket tree n (bucket_by key c before)
by_held tree (by_id text) c m n before own r h = own
by_held tree (by_class word) c m n before own r h = own
by_held tree (by_name name) c m n before own r h = own
by_held tree (by_attribute name) c m n before own r h = own
by_held tree by_nothing c m n before own r h = beside_held tree c m n before r h

among_held : {Node : Type 0} (tree : Tree Node) (cs : List Component) (n : Node) → Reaches tree cs n
    → HasBucket tree n (bucket_among cs)
among_held tree [] n r = absurd r
among_held tree (c ∷ []) n r = met_has_key tree n c.compound r.0
among_held tree (c ∷ b ∷ cs) n (met, (m, related, reached)) =
    by_held tree (compound_key c.compound) c.combinator m n (compound_key b.compound)
    (met_has_key tree n c.compound met) related (met_has_key tree m b.compound reached.0)

-- a placement needs what an index finds the selector by
pub bucket_needed : {Node : Type 0} (tree : Tree Node) (cs : List Component) (n : Node)
    → HasPlacement tree cs n → HasBucket tree n (bucket_of cs)
bucket_needed tree cs n h =
    among_held tree (first_of cs (length cs)) n ((placement_of tree cs (length cs) n refl).0 h)

-- what the nodes near the element report includes the bucket's key
module _ {Node Self : Type 0} (tree : Tree Node) (node : Self → Node) (reported : Self → Reported)
    (law : (e : Self) → ReportsKeys tree (node e) (reported e)) where
  some_reported : (r : Option Node) (t : Option Reported) (key : Key)
      → IsReportedFor node reported r t → SomeHas tree r key
      → IsTrue (option_map_or (λ reported. reports_key reported key) t false)
  some_reported None t key is h = absurd h
  some_reported (Some m) None key is h = absurd is
  some_reported (Some m) (Some t) key (e, same, reports) h =
      subst (λ t. IsTrue (reports_key t key)) reports
      (law e key (subst (λ m. HasKey tree m key) (sym same) h))

  pub near_reports : (element : Self) (near : Near) → IsNear tree node reported element near
      → ReportsBuckets tree (node element) near
  near_reports element near is (of_element key) h =
      subst (λ t. IsTrue (reports_key t key)) (sym is.own) (law element key h)
  near_reports element near is (of_parent key) h =
      some_reported (tree.parent (node element)) near.parent key is.parent h
  near_reports element near is (of_previous key) h =
      some_reported (tree.previous_sibling (node element)) near.previous key is.previous h

-- the bucket, by the last components
pub bucket_one : (cs : List Component) (last : ℕ) → last + 1 ≡ length cs → last ≡ 0
    → bucket_of cs ≡ of_element (compound_key (component_at cs last).compound)
bucket_one cs last n z =
    let within : 0 < length cs = omega (arith, n) in
    let one : length cs ≡ 1 = omega (arith, n, z) in
    ap (λ k. bucket_among (first_of cs k)) one ∙ ap bucket_among (first_of-suc cs 0 within)
    ∙ ap (λ k. of_element (compound_key (component_at cs k).compound)) (sym z)

pub bucket_two : (cs : List Component) (last before : ℕ) → last + 1 ≡ length cs → last ≡ before + 1
    → bucket_of cs ≡ bucket_by (compound_key (component_at cs last).compound)
    (component_at cs last).combinator (compound_key (component_at cs before).compound)
bucket_two cs last before n b =
    let all : length cs ≡ suc last = omega (arith, n) in
    let some : last ≡ suc before = omega (arith, b) in
    let last_within : last < length cs = omega (arith, n) in
    let before_within : before < length cs = omega (arith, n, b) in
    ap (λ k. bucket_among (first_of cs k)) all
    ∙ ap bucket_among (first_of-suc cs last last_within)
    ∙ ap (λ k. bucket_among (component_at cs last ∷ first_of cs k)) some
    ∙ ap (λ xs. bucket_among (component_at cs last ∷ xs)) (first_of-suc cs before before_within)

-- the same, of what was read of the last two components
pub bucket_is : (cs : List Component) (last : ℕ) (key before : Key) (c : Combinator)
    → last + 1 ≡ length cs → (last ≡ 0 → ⊥)
    → key ≡ compound_key (component_at cs last).compound → c ≡ (component_at cs last).combinator
    → before ≡ compound_key (component_at cs (last - 1)).compound
    → bucket_by key c before ≡ bucket_of cs
bucket_is cs last key before c n some k j b =
    let after : last ≡ (last - 1) + 1 = omega (arith, some) in
    ap (λ x. bucket_by x c before) k
    ∙ ap (λ x. bucket_by (compound_key (component_at cs last).compound) x before) j
    ∙ ap
    (bucket_by (compound_key (component_at cs last).compound) (component_at cs last).combinator) b
    ∙ sym (bucket_two cs last (last - 1) n after)
