-- What entries say of last children, after one more is appended.
-- Serves `Tree::{push, set_attribute, set_states}` (what one more entry makes of the tree).
use Rattle.std.proofs.Common.{◌≡◌, ◌≢◌, ℕ, zero, suc, ◌<◌, Bool, true, false, List, [], ◌∷◌, ◌++◌, length, map, get_or, set, Option, None, Some, refl, sym, ap, ◌∙◌, arith}
use Rattle.std.specs.Prelude.{nat_eq, if◌then◌else◌}
use Rattle.std.specs.Option.{option_eq}
use Rattle.std.proofs.Math.Seq.{map-set_same}
use Rattle.std.proofs.lemmas.Simd.{map-map}
use Rattle.std.proofs.lemmas.List.{get_or-set_same, get_or-set_other, map-set, map-append, length-map, get_or-map}
use Rattle.std.proofs.lemmas.Bool.Decides.{nat_tests}
use Rattle.css_elements.specs.declared.tree.Entry.{Entry}
use Rattle.css_elements.specs.Rows.{Row, Attribute, row_of, last_naming, last_child, last_entry, nobody, KnowsLast}

later : (b : Bool) (k : ℕ) (r : Option ℕ) (c : Bool)
    → elim (if b then Some k else r) [ Some i ↦ Some (suc i) | None ↦ (if c then Some 0 else None) ]
    ≡ (if b then Some (suc k)
    else elim r [ Some i ↦ Some (suc i) | None ↦ (if c then Some 0 else None) ])
later true k r c = refl
later false k r c = refl

last_naming-append : (parents : List (Option ℕ)) (named parent : Option ℕ)
    → last_naming (parents ++ named ∷ []) parent
    ≡ (if option_eq nat_eq named parent then Some (length parents) else last_naming parents parent)
last_naming-append [] named parent = refl
last_naming-append (p ∷ parents) named parent =
    ap (λ x.
    elim x [ Some i ↦ Some (suc i) | None ↦ (if option_eq nat_eq p parent then Some 0 else None) ])
    (last_naming-append parents named parent)
    ∙ later (option_eq nat_eq named parent) (length parents) (last_naming parents parent)
    (option_eq nat_eq p parent)

-- the last child among the rows is the last entry that names the parent
pub last_child-entries : (all : List Attribute) (entries : List Entry) (parent : Option ℕ)
    → last_child (map (row_of all) entries) parent ≡ last_entry entries parent
last_child-entries all entries parent =
    ap (λ ps. last_naming ps parent) (map-map (λ row. row.parent) (row_of all) entries)

-- the last among one entry more
last_entry-append : (entries : List Entry) (e : Entry) (parent : Option ℕ)
    → last_entry (entries ++ e ∷ []) parent
    ≡ (if option_eq nat_eq e.parent parent then Some (length entries) else last_entry entries parent)
last_entry-append entries e parent =
    ap (λ ps. last_naming ps parent) (map-append (λ e. e.parent) entries (e ∷ []))
    ∙ last_naming-append (map (λ e. e.parent) entries) e.parent parent
    ∙ ap (λ n. if option_eq nat_eq e.parent parent then Some n else last_entry entries parent)
    (length-map entries (λ e. e.parent))

-- past the end of a list the default is nothing
get_or-append_default : {X : Type 0} (xs : List (Option X)) (i : ℕ)
    → get_or (xs ++ None ∷ []) i None ≡ get_or xs i None
get_or-append_default [] zero = refl
get_or-append_default [] (suc i) = refl
get_or-append_default (x ∷ xs) zero = refl
get_or-append_default (x ∷ xs) (suc i) = get_or-append_default xs i

-- the last child that an entry has
pub last_child_of : (entries : List Entry) (last_root : Option ℕ) → KnowsLast entries last_root
    → (i : ℕ) (e : Entry) → i < length entries → e ≡ get_or entries i e
    → e.last_child ≡ last_entry entries (Some i)
last_child_of entries last_root knows i e within is =
    ap (λ x. x.last_child) is ∙ sym (get_or-map (λ x. x.last_child) entries i e None within)
    ∙ knows.each i

module _ (entries : List Entry) (last_root : Option ℕ) (e : Entry)
    (knows : KnowsLast entries last_root) (new : e.last_child ≡ None) where
  kept_each : (i : ℕ)
      → get_or (map (λ e. e.last_child) (entries ++ e ∷ [])) i None ≡ last_entry entries (Some i)
  kept_each i =
      ap (λ xs. get_or xs i None) (map-append (λ e. e.last_child) entries (e ∷ []))
      ∙ ap (λ r. get_or (map (λ e. e.last_child) entries ++ r ∷ []) i None) new
      ∙ get_or-append_default (map (λ e. e.last_child) entries) i
      ∙ knows.each i

  module _ (all : List Entry) (count : ℕ) (are : all ≡ entries ++ e ∷ [])
      (index : count ≡ length entries) where
    known : (parent required : Option ℕ) (b : Bool) → e.parent ≡ parent
        → option_eq nat_eq parent required ≡ b
        → last_entry all required ≡ (if b then Some count else last_entry entries required)
    known parent required b is test =
        ap (λ es. last_entry es required) are
        ∙ last_entry-append entries e required
        ∙ ap (λ t. if t then Some (length entries) else last_entry entries required)
        (ap (λ p. option_eq nat_eq p required) is ∙ test)
        ∙ ap (λ n. if b then Some n else last_entry entries required) (sym index)

    -- a new element without a parent is the last of these
    pub knows_root : e.parent ≡ None → KnowsLast all (Some count)
    knows_root is = record {
      root = sym (known None None true is refl);
      each = λ i. ap (λ es. get_or (map (λ e. e.last_child) es) i None) are ∙ kept_each i
          ∙ sym (known None (Some i) false is refl);
    }

    module _ (k : ℕ) (is : e.parent ≡ Some k) (within : k < length all) (reported d : Entry)
        (same : reported.parent ≡ (get_or all k d).parent)
        (last : reported.last_child ≡ Some count) where
      reported_each : (i : ℕ) (b : Bool) → nat_eq k i ≡ b
          → get_or (map (λ e. e.last_child) (set all k reported)) i None ≡ last_entry all (Some i)
      reported_each i true test =
          let at : i ≡ k = grind (arith, nat_tests, test) in
          let in_all : k < length (map (λ e. e.last_child) all) =
          omega (arith, within, length-map all (λ e. e.last_child)) in
          ap (λ xs. get_or xs i None) (map-set (λ e. e.last_child) all k reported)
          ∙ ap (λ j. get_or (set (map (λ e. e.last_child) all) k reported.last_child) j None) at
          ∙ get_or-set_same (map (λ e. e.last_child) all) k reported.last_child None in_all
          ∙ last
          ∙ sym (known (Some k) (Some i) true is test)
      reported_each i false test =
          let other : i ≢ k = grind (arith, nat_tests, test) in
          ap (λ xs. get_or xs i None) (map-set (λ e. e.last_child) all k reported)
          ∙ get_or-set_other (map (λ e. e.last_child) all) k i reported.last_child None other
          ∙ ap (λ es. get_or (map (λ e. e.last_child) es) i None) are
          ∙ kept_each i
          ∙ sym (known (Some k) (Some i) false is test)

      -- a new element with a parent is the last child of that
      pub knows_child : KnowsLast (set all k reported) last_root
      knows_child =
          let parents = sym (map-set_same (λ e. e.parent) all k reported d same) in
          record {
            root = knows.root ∙ sym (known (Some k) None false is refl)
                ∙ ap (λ ps. last_naming ps None) parents;
            each =
                λ i. reported_each i (nat_eq k i) refl ∙ ap (λ ps. last_naming ps (Some i)) parents;
          }

-- replacing an entry by one with the same parent and the same last child
module _ (entries : List Entry) (last_root : Option ℕ) (knows : KnowsLast entries last_root) (k : ℕ)
    (reported d : Entry) (parent : reported.parent ≡ (get_or entries k d).parent)
    (last : reported.last_child ≡ (get_or entries k d).last_child) where
  same_children : (required : Option ℕ)
      → last_entry (set entries k reported) required ≡ last_entry entries required
  same_children required =
      ap (λ ps. last_naming ps required) (map-set_same (λ e. e.parent) entries k reported d parent)

  pub knows_kept : KnowsLast (set entries k reported) last_root
  knows_kept = record {
    root = knows.root ∙ sym (same_children None);
    each = λ i.
        ap (λ xs. get_or xs i None) (map-set_same (λ e. e.last_child) entries k reported d last)
        ∙ knows.each i ∙ sym (same_children (Some i));
  }

-- ---- rows

-- to set an element's last child changes no row
pub rows_reported : (all : List Attribute) (entries : List Entry) (e : Entry) (more : List Entry)
    → more ≡ entries ++ e ∷ [] → (k : ℕ) (reported d : Entry)
    → row_of all reported ≡ row_of all (get_or more k d)
    → map (row_of all) (set more k reported) ≡ map (row_of all) entries ++ row_of all e ∷ []
rows_reported all entries e more are k reported d same =
    map-set_same (row_of all) more k reported d same ∙ ap (map (row_of all)) are
    ∙ map-append (row_of all) entries (e ∷ [])

-- the rows, of which one is changed
pub rows_changed : (all : List Attribute) (entries : List Entry) (k : ℕ) (reported d : Entry)
    (change : Row → Row) → k < length entries
    → row_of all reported ≡ change (row_of all (get_or entries k d))
    → map (row_of all) (set entries k reported)
    ≡ set (map (row_of all) entries) k (change (get_or (map (row_of all) entries) k nobody))
rows_changed all entries k reported d change within is =
    map-set (row_of all) entries k reported
    ∙ ap (set (map (row_of all) entries) k)
    (is ∙ ap change (sym (get_or-map (row_of all) entries k d nobody within)))
