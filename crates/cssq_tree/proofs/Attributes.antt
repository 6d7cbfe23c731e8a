-- The attribute with a key.
-- Serves `Page::{parent, previous}` and the answers of `Node` (the value of a key).
use Rattle.std.proofs.Common.{◌≡◌, ℕ, ◌+◌, ◌<◌, List, [], ◌∷◌, length, take, get_or, refl, sym, ap, ◌∙◌, subst, arith, None, Some, IfSome}
use Rattle.std.specs.List.{position_or_len, slice_get}
use Rattle.std.proofs.lemmas.List.{take_all, drop_all, length-map}
use Rattle.std.proofs.lemmas.Option.{slice_get-map, slice_get-get_or}
use Rattle.cssq_tree.specs.declared.tree.Line.{Line}
use Rattle.std.specs.Option.{option_map_or}
use Rattle.cssq_tree.specs.TreeText.{Row, is_equals, key_of, value_of}
use Rattle.cssq_tree.specs.ParentsAndSiblings.{depths_of, parent_index, previous_index}
use Rattle.cssq_tree.specs.internal.EntryLines.{row, rows, depths, AreLinked}
use Rattle.cssq_tree.specs.PageNodes.{value_in, attribute_at, name_at}
use Rattle.cssq_tree.specs.internal.Spans.{name_in, attributes_in}
use Rattle.cssq_tree.specs.internal.Siblings.{parent_within, previous_within, within_longer}

-- a field without a `=` is its key
pub key_none : (field : List ℕ) → position_or_len is_equals field ≡ length field
    → field ≡ key_of field
key_none field none =
    sym (ap (λ n. take n field) none ∙ take_all (length field) field (omega arith))

pub value_none : (field : List ℕ) → position_or_len is_equals field ≡ length field
    → value_of field ≡ []
value_none field none = drop_all (position_or_len is_equals field + 1) field (omega (arith, none))

pub depths_rows : (lines : List Line) → depths_of (rows lines) ≡ depths lines
depths_rows [] = refl
depths_rows (l ∷ lines) = ap (λ ds. l.entry.depth ∷ ds) (depths_rows lines)

-- what a page says of a line
module _ (lines : List Line) (page : List Row) (index : ℕ) (l : Line) (view : rows lines ≡ page)
    (is : slice_get lines index ≡ Some l) where
  row_of_line : slice_get page index ≡ Some (row l.entry)
  row_of_line =
      ap (λ p. slice_get p index) (sym view) ∙ slice_get-map (λ l. row l.entry) lines index
      ∙ ap (λ o. elim o [ None ↦ None | Some x ↦ Some (row x.entry) ]) is

  pub attribute_of_line : (key : List ℕ)
      → attribute_at page index key ≡ value_in (attributes_in l.entry.fields.now) key
  attribute_of_line key =
      ap (λ o. option_map_or (λ row. value_in row.attributes key) o None) row_of_line

  pub name_of_line : name_in l.entry.fields.now ≡ name_at page index
  name_of_line = sym (ap (λ o. option_map_or (λ row. row.name) o []) row_of_line)

module _ (lines : List Line) (page : List Row) (index : ℕ) (l : Line) (view : rows lines ≡ page)
    (within : index < length page) (is : l ≡ get_or lines index l) where
  inside : index < length lines
  inside =
      let lt : index < length (rows lines) = subst (λ p. index < length p) (sym view) within in
      rw (length-map lines (λ l. row l.entry)) at lt

  pub got_line : slice_get lines index ≡ Some l
  got_line = slice_get-get_or lines index l inside ∙ ap Some (sym is)

  same_depths : depths lines ≡ depths_of page
  same_depths = sym (depths_rows lines) ∙ ap depths_of view

  pub parent_kept : AreLinked lines → l.parent ≡ parent_index (depths_of page) index
  parent_kept linked = (linked index l got_line).0 ∙ ap (λ ds. parent_index ds index) same_depths

  pub previous_kept : AreLinked lines → l.previous ≡ previous_index (depths_of page) index
  previous_kept linked =
      (linked index l got_line).1 ∙ ap (λ ds. previous_index ds index) same_depths

  pub parent_in : AreLinked lines → IfSome l.parent (λ j. j < length page)
  parent_in linked = subst (λ r. IfSome r (λ j. j < length page)) (sym (parent_kept linked))
      (within_longer (parent_index (depths_of page) index) index (length page) (omega arith)
      (parent_within (depths_of page) index))

  pub parent_earlier : AreLinked lines → IfSome l.parent (λ j. j < index)
  parent_earlier linked = subst (λ r. IfSome r (λ j. j < index)) (sym (parent_kept linked))
      (parent_within (depths_of page) index)

  pub previous_in : AreLinked lines → IfSome l.previous (λ j. j < length page)
  previous_in linked = subst (λ r. IfSome r (λ j. j < length page)) (sym (previous_kept linked))
      (within_longer (previous_index (depths_of page) index) index (length page) (omega arith)
      (previous_within (depths_of page) index))

  pub attribute_first : (key : List ℕ)
      → attribute_at page index key ≡ value_in (attributes_in l.entry.fields.now) key
  attribute_first = attribute_of_line lines page index l view got_line

  pub name_kept : name_in l.entry.fields.now ≡ name_at page index
  name_kept = name_of_line lines page index l view got_line
