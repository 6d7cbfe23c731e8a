-- The last indices of buckets, and what is reported near an element.
-- Serves `index::last_by_bucket::LastByBucket` and `RuleIndex::matching_counted`.
use Rattle.std.proofs.Common.{◌≡◌, ℕ, ◌↔◌, ◌⊎◌, inl, inr, List, true, false, IsTrue, Option, None, Some, refl, ap, ◌∙◌}
use Rattle.std.specs.Option.{option_map_or}
use Rattle.std.proofs.lemmas.Bool.{false≢true}
use Rattle.std.proofs.lemmas.Slice.Eq.{bytes_eq-Decides}
use Rattle.simplecss_grammar.specs.Components.Operator.{equals, has_word}
use Rattle.simplecss_selector.specs.Keys.{Key, Reported, reports_key, has_satisfying_value}
use Rattle.simplecss_selector.specs.Keys.Key.{by_id, by_class, by_name, by_attribute, by_nothing}
use Rattle.simplecss_selector.specs.Trees.{Tree}
use Rattle.simplecss_selector.specs.Buckets.{Bucket, Near, reports_bucket, IsReportedFor, IsNear}
use Rattle.simplecss_selector.specs.Buckets.Bucket.{of_element, of_parent, of_previous}
use Rattle.simplecss.specs.internal.LastByKey.{last_for, TakesIndex, IdLeads, ClassLeads, AttributeLeads}
use Rattle.simplecss.specs.SelectorIndices.{Adds}
use Rattle.simplecss.specs.internal.LastByBucket.{last_in_bucket, TakesBucket, NeighbourLeads}
use Rattle.simplecss.specs.internal.Recents.{Leads, adds_bucket, names_bucket}
use Rattle.simplecss.specs.declared.index.last_by_key.LastByKey.{LastByKey}
use Rattle.simplecss.specs.declared.index.last_by_bucket.LastByBucket.{LastByBucket}
use Rattle.simplecss.proofs.Adding.{adds_none, adds_then, adds_as}

kind_of : {A B : Type 0} {key other : Key} (kind : Key → Bucket)
    → (kind key ≡ kind other → key ≡ other) → ((key ≡ other) × A) ⊎ ((key ≡ other → ⊥) × B)
    → ((kind key ≡ kind other) × A) ⊎ ((kind key ≡ kind other → ⊥) × B)
kind_of kind back (inl h) = inl (ap kind h.0, h.1)
kind_of kind back (inr h) = inr (λ e. h.0 (back e), h.1)

module _ (old : LastByBucket) (new : LastByKey) (key : Key) (index : ℕ) where
  pub takes_own : TakesIndex old.own new key index
      → TakesBucket old (record { own = new; parent = old.parent; previous = old.previous })
      (of_element key) index
  takes_own takes (of_element k) = kind_of of_element (λ e. cc) (takes k)
  takes_own takes (of_parent k) = inr (λ e. cc, refl)
  takes_own takes (of_previous k) = inr (λ e. cc, refl)

  pub takes_parent : TakesIndex old.parent new key index
      → TakesBucket old (record { own = old.own; parent = new; previous = old.previous })
      (of_parent key) index
  takes_parent takes (of_element k) = inr (λ e. cc, refl)
  takes_parent takes (of_parent k) = kind_of of_parent (λ e. cc) (takes k)
  takes_parent takes (of_previous k) = inr (λ e. cc, refl)

  pub takes_previous : TakesIndex old.previous new key index
      → TakesBucket old (record { own = old.own; parent = old.parent; previous = new })
      (of_previous key) index
  takes_previous takes (of_element k) = inr (λ e. cc, refl)
  takes_previous takes (of_parent k) = inr (λ e. cc, refl)
  takes_previous takes (of_previous k) = kind_of of_previous (λ e. cc) (takes k)

pub none_wanted : (lasts : LastByBucket) → ((key : Key) → last_for lasts.own key ≡ None)
    → ((key : Key) → last_for lasts.parent key ≡ None)
    → ((key : Key) → last_for lasts.previous key ≡ None) → (bucket : Bucket)
    → last_in_bucket lasts bucket ≡ None
none_wanted lasts own parent previous (of_element key) = own key
none_wanted lasts own parent previous (of_parent key) = parent key
none_wanted lasts own parent previous (of_previous key) = previous key

pub no_neighbour : (lasts : LastByKey) (indices : List ℕ)
    → Adds indices indices (NeighbourLeads lasts None)
no_neighbour lasts indices = adds_none indices (NeighbourLeads lasts None) (λ index h. h)

-- an element's keys are those that its name and classes report, and the others
module _ (near : Near) where
  pub key_cases : (bucket : Bucket) → IsTrue (reports_bucket near bucket)
      → IsTrue (adds_bucket near bucket) ⊎ IsTrue (names_bucket near.own.name near.own.class bucket)
  key_cases (of_element (by_id text)) h = inl h
  key_cases (of_element (by_class word)) h = inr h
  key_cases (of_element (by_name name)) h = inr h
  key_cases (of_element (by_attribute name)) h = inl h
  key_cases (of_element by_nothing) h = inr h
  key_cases (of_parent key) h = inl h
  key_cases (of_previous key) h = inl h

  pub added_key : (bucket : Bucket) → IsTrue (adds_bucket near bucket)
      → IsTrue (reports_bucket near bucket)
  added_key (of_element (by_id text)) h = h
  added_key (of_element (by_class word)) h = absurd (false≢true h)
  added_key (of_element (by_name name)) h = absurd (false≢true h)
  added_key (of_element (by_attribute name)) h = h
  added_key (of_element by_nothing) h = absurd (false≢true h)
  added_key (of_parent key) h = h
  added_key (of_previous key) h = h

  pub named_key : (bucket : Bucket) → IsTrue (names_bucket near.own.name near.own.class bucket)
      → IsTrue (reports_bucket near bucket)
  named_key (of_element (by_id text)) h = absurd (false≢true h)
  named_key (of_element (by_class word)) h = h
  named_key (of_element (by_name name)) h = h
  named_key (of_element (by_attribute name)) h = absurd (false≢true h)
  named_key (of_element by_nothing) h = refl
  named_key (of_parent key) h = absurd (false≢true h)
  named_key (of_previous key) h = absurd (false≢true h)

module _ (near : Near) (lasts : LastByBucket) (index : ℕ) where
  abbrev FourLead : Type 0
  FourLead =
      ((IdLeads lasts.own near.own.id index ⊎ AttributeLeads lasts.own near.own.has_attribute index)
      ⊎ NeighbourLeads lasts.parent near.parent index)
      ⊎ NeighbourLeads lasts.previous near.previous index

  beside_to : (kind : Key → Bucket) (l : LastByKey) (t : Option Reported)
      → ((k : Key)
      → adds_bucket near (kind k) ≡ option_map_or (λ reported. reports_key reported k) t false)
      → ((k : Key) → last_in_bucket lasts (kind k) ≡ last_for l k) → NeighbourLeads l t index
      → Leads (adds_bucket near) lasts index
  beside_to kind l None reports leads h = absurd h
  beside_to kind l (Some t) reports leads h = (kind h.0, reports h.0 ∙ h.1, leads h.0 ∙ h.2)

  beside_from : (l : LastByKey) (t : Option Reported) (k : Key)
      → option_map_or (λ reported. reports_key reported k) t false ≡ true
      → last_for l k ≡ Some index → NeighbourLeads l t index
  beside_from l None k has is = absurd (false≢true has)
  beside_from l (Some t) k has is = (k, has, is)

  id_to : (id : Option (List ℕ)) → near.own.id ≡ id → IdLeads lasts.own id index
      → Leads (adds_bucket near) lasts index
  id_to None e h = absurd h
  id_to (Some text) e h = (
    of_element (by_id text),
    ap (has_satisfying_value (equals text)) e ∙ (bytes_eq-Decides text text).1 refl,
    h,
  )

  id_from : (id : Option (List ℕ)) (text : List ℕ) → has_satisfying_value (equals text) id ≡ true
      → last_for lasts.own (by_id text) ≡ Some index → IdLeads lasts.own id index
  id_from None text has is = absurd (false≢true has)
  id_from (Some own) text has is =
      ap (λ x. last_for lasts.own (by_id x)) ((bytes_eq-Decides own text).0 has) ∙ is

  beside_leads : FourLead ↔ Leads (adds_bucket near) lasts index
  beside_leads = (there, λ h. back h.0 h.1 h.2)
    where
      there : FourLead → Leads (adds_bucket near) lasts index
      there (inl (inl (inl h))) = id_to near.own.id refl h
      there (inl (inl (inr h))) = (of_element (by_attribute h.0), h.1, h.2)
      there (inl (inr h)) = beside_to of_parent lasts.parent near.parent (λ k. refl) (λ k. refl) h
      there (inr h) = beside_to of_previous lasts.previous near.previous (λ k. refl) (λ k. refl) h

      back : (bucket : Bucket) → IsTrue (adds_bucket near bucket)
          → last_in_bucket lasts bucket ≡ Some index → FourLead
      back (of_element (by_id text)) has is = inl (inl (inl (id_from near.own.id text has is)))
      back (of_element (by_class word)) has is = absurd (false≢true has)
      back (of_element (by_name name)) has is = absurd (false≢true has)
      back (of_element (by_attribute name)) has is = inl (inl (inr (name, has, is)))
      back (of_element by_nothing) has is = absurd (false≢true has)
      back (of_parent k) has is = inl (inr (beside_from lasts.parent near.parent k has is))
      back (of_previous k) has is = inr (beside_from lasts.previous near.previous k has is)

-- what the element reports besides its name and classes, and what its neighbours report, was added
pub beside_added : {Node Self : Type 0} (tree : Tree Node) (node : Self → Node)
    (reported : Self → Reported) (element : Self) (lasts : LastByBucket) (a b c d e : List ℕ)
    → Adds a b (IdLeads lasts.own (reported element).id)
    → Adds b c (AttributeLeads lasts.own (reported element).has_attribute)
    → (t : Option Reported) × IsReportedFor node reported (tree.parent (node element)) t
    × Adds c d (NeighbourLeads lasts.parent t)
    → (t : Option Reported) × IsReportedFor node reported (tree.previous_sibling (node element)) t
    × Adds d e (NeighbourLeads lasts.previous t)
    → (near : Near) × IsNear tree node reported element near
    × Adds a e (Leads (adds_bucket near) lasts)
beside_added tree node reported element lasts a b c d e by_ids by_attributes (p, p_is, p_adds)
    (q, q_is, q_adds) =
    let near : Near = record { own = reported element; parent = p; previous = q } in
    let is_near : IsNear tree node reported element near =
    record { own = refl; parent = p_is; previous = q_is } in (
      near,
      is_near,
      adds_as a e (beside_leads near lasts)
          (adds_then a d e (adds_then a c d (adds_then a b c by_ids by_attributes) p_adds) q_adds),
    )

module _ (lasts : LastByBucket) (name : List ℕ) (class : Option (List ℕ)) (index : ℕ) where
  abbrev ThreeLead : Type 0
  ThreeLead = ((last_for lasts.own by_nothing ≡ Some index)
      ⊎ (last_for lasts.own (by_name name) ≡ Some index)) ⊎ ClassLeads lasts.own class index

  class_to : (value : Option (List ℕ)) → class ≡ value → ClassLeads lasts.own value index
      → Leads (names_bucket name class) lasts index
  class_to None e h = absurd h
  class_to (Some value) e h =
      (of_element (by_class h.0), ap (has_satisfying_value (has_word h.0)) e ∙ h.1, h.2)

  class_from : (value : Option (List ℕ)) (word : List ℕ)
      → has_satisfying_value (has_word word) value ≡ true
      → last_for lasts.own (by_class word) ≡ Some index → ClassLeads lasts.own value index
  class_from None word has is = absurd (false≢true has)
  class_from (Some value) word has is = (word, has, is)

  named_leads : ThreeLead ↔ Leads (names_bucket name class) lasts index
  named_leads = (there, λ h. back h.0 h.1 h.2)
    where
      there : ThreeLead → Leads (names_bucket name class) lasts index
      there (inl (inl h)) = (of_element by_nothing, refl, h)
      there (inl (inr h)) = (of_element (by_name name), (bytes_eq-Decides name name).1 refl, h)
      there (inr h) = class_to class refl h

      back : (bucket : Bucket) → IsTrue (names_bucket name class bucket)
          → last_in_bucket lasts bucket ≡ Some index → ThreeLead
      back (of_element (by_id text)) has is = absurd (false≢true has)
      back (of_element (by_class word)) has is = inr (class_from class word has is)
      back (of_element (by_name other)) has is = inl (inr
          (ap (λ x. last_for lasts.own (by_name x)) ((bytes_eq-Decides name other).0 has) ∙ is))
      back (of_element (by_attribute own)) has is = absurd (false≢true has)
      back (of_element by_nothing) has is = inl (inl is)
      back (of_parent k) has is = absurd (false≢true has)
      back (of_previous k) has is = absurd (false≢true has)

-- what a name and a class value tell was added
pub named_added : (lasts : LastByBucket) (name : List ℕ) (class : Option (List ℕ))
    (a b c d : List ℕ) → Adds a b (λ index. last_for lasts.own by_nothing ≡ Some index)
    → Adds b c (λ index. last_for lasts.own (by_name name) ≡ Some index)
    → Adds c d (ClassLeads lasts.own class) → Adds a d (Leads (names_bucket name class) lasts)
named_added lasts name class a b c d any named classes =
    adds_as a d (named_leads lasts name class) (adds_then a c d (adds_then a b c any named) classes)
