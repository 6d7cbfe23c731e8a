-- What the elements of a page report, by which an index finds selectors.
use Rattle.std.specs.Prelude.{◌≡◌, ℕ, ◌||◌, Bool, true, false, not, List, [], ◌∷◌, map, Option, None, Some, bytes_eq, is_none, IsTrue, if◌then◌else◌}
use Rattle.std.proofs.Common.{refl, subst, ap}
use Rattle.std.specs.List.{list_any, slice_get}
use Rattle.std.specs.Option.{option_map_or, option_and_then}
use Rattle.std.specs.Str.{str_eq_ignore_ascii_case, str_to_ascii_lowercase}
use Rattle.std.proofs.lemmas.Slice.Eq.{bytes_eq-Decides}
use Rattle.css_selectors.specs.Keys.Key.{by_id, by_class, by_name, by_attribute, by_nothing}
use Rattle.css_index.specs.Reported.{Reported, ReportsKeys}
use Rattle.css_elements.specs.Rows.{Row}
use Rattle.css_elements.specs.TreeNodes.{name_at, attributes_at, value_in}
use Rattle.css_tree.specs.Pages.{Page, page_document}

-- the name of the element at an index, and the names of its attributes
abbrev pub reported_of : Page × ℕ → Reported
reported_of n = record {
  name = name_at n.0.rows n.1;
  attributes = map (λ a. a.0) (attributes_at n.0.rows n.1);
}

-- the same name
same_name : (own name : List ℕ) → IsTrue (bytes_eq own name)
    → IsTrue (str_eq_ignore_ascii_case name own)
same_name own name h =
    subst (λ x. IsTrue (str_eq_ignore_ascii_case x own)) ((bytes_eq-Decides own name).0 h)
    ((bytes_eq-Decides (str_to_ascii_lowercase own) (str_to_ascii_lowercase own)).1 refl)

-- a name with a value is among the names
named : (attributes : List (List ℕ × List ℕ)) (name : List ℕ)
    → IsTrue (not (is_none (value_in attributes name)))
    → IsTrue (list_any (str_eq_ignore_ascii_case name) (map (λ a. a.0) attributes))
named [] name h = absurd (cc)
named (a ∷ attributes) name h = by (bytes_eq a.0 name) refl h (named attributes name)
  where
    by : (t : Bool) → bytes_eq a.0 name ≡ t
        → IsTrue (not (is_none (if t then Some a.1 else value_in attributes name)))
        → (IsTrue (not (is_none (value_in attributes name)))
        → IsTrue (list_any (str_eq_ignore_ascii_case name) (map (λ x. x.0) attributes)))
        → IsTrue (str_eq_ignore_ascii_case name a.0
        || list_any (str_eq_ignore_ascii_case name) (map (λ x. x.0) attributes))
    by true is k ih =
        ap (λ t. t || list_any (str_eq_ignore_ascii_case name) (map (λ x. x.0) attributes))
        (same_name a.0 name is)
    by false is k ih =
        or_second (str_eq_ignore_ascii_case name a.0)
        (list_any (str_eq_ignore_ascii_case name) (map (λ x. x.0) attributes)) (ih k)
      where
        or_second : (s t : Bool) → IsTrue t → IsTrue (s || t)
        or_second true t l = refl
        or_second false t l = l

named_in : (row : Option Row) (name : List ℕ)
    → IsTrue (not (is_none (option_and_then (λ r. value_in r.attributes name) row)))
    → IsTrue (list_any (str_eq_ignore_ascii_case name)
    (map (λ a. a.0) (option_map_or (λ r. r.attributes) row [])))
named_in None name h = absurd (cc)
named_in (Some row) name h = named row.attributes name h

-- An element reports every key that it has. This is proved here since the trait `Keyed` requires it:
-- the impl names it, so it belongs to what is stated.
pub keys_reported : (n : Page × ℕ) → ReportsKeys page_document n (reported_of n)
keys_reported n (by_id text) h = h
keys_reported n (by_class word) h = h
keys_reported n (by_name name) h = same_name (name_at n.0.rows n.1) name h
keys_reported n (by_attribute name) h = named_in (slice_get n.0.rows n.1) name h
keys_reported n by_nothing h = refl
