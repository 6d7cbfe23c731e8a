-- A tree that is built an element after another.
-- Serves `elements::{add_element, add_next, link}` (what each element adds to the tree).
use Rattle.std.proofs.Common.{◌≡◌, ℕ, suc, ◌+◌, ◌-◌, ◌<◌, ◌≤◌, Bool, true, false, List, [], ◌∷◌, ◌++◌, length, map, get_or, set, take, drop, Option, None, Some, refl, sym, ap, ◌∙◌, subst, arith}
use Rattle.std.specs.Prelude.{◌==◌, ◌&&◌, if◌then◌else◌, Result, Ok, Err, MatchResult}
use Rattle.std.specs.Result.{IsErrAnd}
use Rattle.std.specs.Borrow.{Bor}
use Rattle.std.proofs.lemmas.List.{length-append, length-drop, drop-map, drop-drop, take_all, get_or-map}
use Rattle.std.proofs.lemmas.List.FromFn.{map-range_with_len_more}
use Rattle.std.proofs.lemmas.Bool.Decides.{nat_tests}
use Rattle.std.proofs.lemmas.Grind.{common_steps}
use Rattle.css_elements.specs.Rows.{Row, nobody, row_with, with_attribute, row_in, with_states}
use Rattle.css_elements.specs.declared.tree.States.{States}
use Rattle.call_answers.specs.declared.elements.TreeElement.{TreeElement}
use Rattle.call_answers.specs.declared.elements.ElementFault.{ElementFault}
use Rattle.call_answers.specs.declared.elements.ElementFault.TheVariants.{BadStrings}
use Rattle.call_answers.specs.declared.answer.CallError.{CallError}
use Rattle.call_answers.specs.declared.answer.CallError.TheVariants.{Refused, Tree, Memory, TooManyDeclarations, NotUtf8, AnswerTooLong, TooManyLayers}
use Rattle.call_answers.specs.Elements.{Strings, key_in, value_in, attributes_in, name_in, element_row, limit_after, last_with, parent_after, IsPath, fault_in, strings_of, with_element, tree_from, states_in}
use Rattle.call_answers.specs.Calls.{FailsFor}

-- ---- the attributes of the last element

last_of : (rows : List Row) (row d : Row) → get_or (rows ++ row ∷ []) (length rows) d ≡ row
last_of [] row d = refl
last_of (r ∷ rows) row d = last_of rows row d

set_last : (rows : List Row) (row other : Row)
    → set (rows ++ row ∷ []) (length rows) other ≡ rows ++ other ∷ []
set_last [] row other = refl
set_last (r ∷ rows) row other = ap (λ rs. r ∷ rs) (set_last rows row other)

-- the last element with one attribute more
with_attribute-last : (rows : List Row) (row : Row) (key value : List ℕ)
    → with_attribute (rows ++ row ∷ []) key value ≡ rows ++ row_with row key value ∷ []
with_attribute-last rows row key value =
    let at : length (rows ++ row ∷ []) - 1 ≡ length rows =
    omega (arith, length-append rows (row ∷ [])) in
    ap (λ i. set (rows ++ row ∷ []) i (row_with (get_or (rows ++ row ∷ []) i nobody) key value)) at
    ∙ ap (λ r. set (rows ++ row ∷ []) (length rows) (row_with r key value))
    (last_of rows row nobody)
    ∙ set_last rows row (row_with row key value)

-- one attribute more
pub attribute_added : (rows : List Row) (parent : Option ℕ) (name : List ℕ) (fields : List (List ℕ))
    (i : ℕ) (now : List Row)
    → now ≡ rows ++ element_row rows parent name fields i ∷ [] → (key value : List ℕ)
    → key ≡ key_in fields i → value ≡ value_in fields i
    → with_attribute now key value ≡ rows ++ element_row rows parent name fields (i + 1) ∷ []
attribute_added rows parent name fields i now is key value is_key is_value =
    let next : attributes_in fields (i + 1)
    ≡ attributes_in fields i ++ (key_in fields i, value_in fields i) ∷ [] =
    map-range_with_len_more (λ k. (key_in fields k, value_in fields k)) 0 i i (omega arith) in
    ap (λ rs. with_attribute rs key value) is
    ∙ with_attribute-last rows (element_row rows parent name fields i) key value
    ∙ ap (λ k. rows ++ row_with (element_row rows parent name fields i) k value ∷ []) is_key
    ∙ ap (λ v. rows ++ row_with (element_row rows parent name fields i) (key_in fields i) v ∷ [])
    is_value
    ∙ ap (λ attributes. rows ++ record {
      name = name;
      attributes = attributes;
      parent = parent;
      previous = (element_row rows parent name fields i).previous;
      states = (element_row rows parent name fields i).states;
    } ∷ []) (sym next)

-- the last element, which is given its states
pub states_given : (rows : List Row) (row : Row) (states : States)
    → with_states (rows ++ row ∷ []) (length rows) states ≡ rows ++ row_in row states ∷ []
states_given rows row states =
    ap (λ r. set (rows ++ row ∷ []) (length rows) (row_in r states)) (last_of rows row nobody)
    ∙ set_last rows row (row_in row states)

-- ---- the last element and its ancestors

limit-append : (depths : List ℕ) (depth : ℕ) → limit_after (depths ++ depth ∷ []) ≡ depth + 1
limit-append [] depth = refl
limit-append (d ∷ []) depth = refl
limit-append (d ∷ e ∷ depths) depth = limit-append (e ∷ depths) depth

later : (b : Bool) (k : ℕ) (r : Option ℕ) (c : Bool)
    → elim (if b then Some k else r) [ Some i ↦ Some (suc i) | None ↦ (if c then Some 0 else None) ]
    ≡ (if b then Some (suc k)
    else elim r [ Some i ↦ Some (suc i) | None ↦ (if c then Some 0 else None) ])
later true k r c = refl
later false k r c = refl

last_with-append : (content : ℕ) (depths : List ℕ) (depth : ℕ)
    → last_with content (depths ++ depth ∷ [])
    ≡ (if depth == content then Some (length depths) else last_with content depths)
last_with-append content [] depth = refl
last_with-append content (d ∷ depths) depth =
    ap (λ x. elim x [ Some i ↦ Some (suc i) | None ↦ (if d == content then Some 0 else None) ])
    (last_with-append content depths depth)
    ∙ later (depth == content) (length depths) (last_with content depths) (d == content)

at_last : (content : ℕ) (depths : List ℕ) (depth : ℕ) (b : Bool) → (depth == content) ≡ b
    → last_with content (depths ++ depth ∷ [])
    ≡ (if b then Some (length depths) else last_with content depths)
at_last content depths depth b is = last_with-append content depths depth
    ∙ ap (λ b. if b then Some (length depths) else last_with content depths) is

pub path_none : IsPath [] []
path_none = record { limit = refl; each = λ d less. absurd (omega (arith, less)) }

-- one more element, after the elements of the path that are above it
module _ {path depths : List ℕ} (is : IsPath path depths) (depth index : ℕ)
    (low : depth ≤ length path) (here : index ≡ length depths) where
  above : (d : ℕ) → d < depth + 1 → (b : Bool) → (depth == d) ≡ b
      → last_with d (depths ++ depth ∷ []) ≡ Some (get_or (take depth path ++ index ∷ []) d 0)
  above d less true same =
      let at : d ≡ length (take depth path) = grind (arith, nat_tests, common_steps, same) in
      at_last d depths depth true same ∙ ap Some (sym here
      ∙ sym (ap (λ k. get_or (take depth path ++ index ∷ []) k 0) at ∙ grind (arith, common_steps)))
  above d less false other =
      let below : d < depth = grind (arith, nat_tests, other, less) in
      at_last d depths depth false other ∙ is.each d (omega (arith, below, low))
      ∙ ap Some (grind (arith, common_steps, below, low))

  pub path_more : (all : List ℕ) → all ≡ take depth path ++ index ∷ []
      → IsPath all (depths ++ depth ∷ [])
  path_more all are = record {
    limit = ap length are ∙ grind (arith, common_steps, low) ∙ sym (limit-append depths depth);
    each = λ d less. above d (grind (arith, common_steps, low, less, are)) (depth == d) refl
        ∙ ap (λ p. Some (get_or p d 0)) (sym are);
  }

-- ---- an element without a fault

pub sound : (number limit : ℕ) (element : TreeElement) (strings : List (List ℕ))
    → fault_in number limit element strings ≡ None
    → (element.depth ≤ limit) × (strings_of element ≤ length strings)
sound number limit element strings none = grind (arith, nat_tests, none)

-- ---- one more element of the tree

-- the strings from an index on
pub strings_from_index : (strings : List (Bor (List ℕ))) (n : ℕ)
    → map (λ string. string.now) (take (length strings - n) (drop n strings))
    ≡ drop n (map (λ string. string.now) strings)
strings_from_index strings n =
    ap (map (λ string. string.now))
    (take_all (length strings - n) (drop n strings) (omega (arith, length-drop n strings)))
    ∙ sym (drop-map (λ string. string.now) n strings)

-- the element that is added is that of its strings
pub element_added : (rows : List Row) (depths : List ℕ) (element : TreeElement)
    (strings : List (Bor (List ℕ))) (nothing : Bor (List ℕ)) → 0 < length strings
    → (parent : Option ℕ) → parent ≡ parent_after depths element.depth
    → rows ++ row_in (element_row rows parent (get_or strings 0 nothing).now
    (map (λ string. string.now) (take (length strings - 1) (drop 1 strings))) element.attributes)
    (states_in element.states) ∷ []
    ≡ with_element rows depths element (map (λ string. string.now) strings)
element_added rows depths element strings nothing some parent is =
    ap (λ p. rows ++ row_in (element_row rows p (get_or strings 0 nothing).now
    (map (λ string. string.now) (take (length strings - 1) (drop 1 strings))) element.attributes)
    (states_in element.states) ∷ []) is
    ∙ ap (λ name. rows ++ row_in (element_row rows (parent_after depths element.depth) name
    (map (λ string. string.now) (take (length strings - 1) (drop 1 strings))) element.attributes)
    (states_in element.states) ∷ [])
    (sym (get_or-map (λ string. string.now) strings 0 nothing [] some))
    ∙ ap (λ fields. rows ++ row_in (element_row rows (parent_after depths element.depth)
    (name_in (map (λ string. string.now) strings)) fields element.attributes)
    (states_in element.states) ∷ [])
    (strings_from_index strings 1)

-- the strings that are left from an index on
abbrev pub from_index : Strings → ℕ → Strings
from_index all n = record { strings = drop n all.strings; are_all = all.are_all }

-- what the first elements make of the tree
pub record LinkedSoFar (all : Strings) (elements rest : List TreeElement) (rows : List Row)
    (path : List ℕ) (next : ℕ) : Type 0 where
  pub depths : List ℕ
  pub whole : tree_from [] [] all elements ≡ tree_from rows depths (from_index all next) rest
  pub path_is : IsPath path depths
  pub same : length depths ≡ length rows
  pub within : next ≤ length all.strings

pub linked_none : (all : Strings) (elements : List TreeElement) (rows : List Row) → rows ≡ []
    → (path : List ℕ) → path ≡ [] → LinkedSoFar all elements elements rows path 0
linked_none all elements rows no_rows path no_path = record {
  depths = [];
  whole = ap (λ rs. tree_from rs [] all elements) (sym no_rows);
  path_is = subst (λ p. IsPath p []) (sym no_path) path_none;
  same = ap length (sym no_rows);
  within = omega arith;
}

-- what the next element makes of the rest
next_element : (rows : List Row) (depths : List ℕ) (left : Strings) (element : TreeElement)
    (elements : List TreeElement) (fault : Option ElementFault)
    → fault_in (length rows + 1) (limit_after depths) element left.strings ≡ fault
    → tree_from rows depths left (element ∷ elements) ≡ elim fault [
      | Some fault ↦ Err fault
      | None ↦
          tree_from (with_element rows depths element left.strings) (depths ++ element.depth ∷ [])
          (record { strings = drop (strings_of element) left.strings; are_all = left.are_all })
          elements
    ]
next_element rows depths left element elements fault is =
    ap (λ fault. elim fault [
      | Some fault ↦ Err fault
      | None ↦
          tree_from (with_element rows depths element left.strings) (depths ++ element.depth ∷ [])
          (record { strings = drop (strings_of element) left.strings; are_all = left.are_all })
          elements
    ]) is

pub length_with : (rows : List Row) (depths : List ℕ) (element : TreeElement)
    (strings : List (List ℕ)) → length (with_element rows depths element strings) ≡ length rows + 1
length_with rows depths element strings = length-append rows _

module _ {all : Strings} {elements rest : List TreeElement} {rows : List Row} {path : List ℕ}
    {next : ℕ} (so_far : LinkedSoFar all elements rest rows path next) where
  module _ (element : TreeElement) (later : List TreeElement) (is : rest ≡ element ∷ later) where
    at_element : tree_from [] [] all elements
        ≡ tree_from rows so_far.depths (from_index all next) (element ∷ later)
    at_element = so_far.whole ∙ ap (tree_from rows so_far.depths (from_index all next)) is

    pub linked_more : fault_in (length rows + 1) (limit_after so_far.depths) element
        (drop next all.strings) ≡ None
        → (more : List Row) → more ≡ with_element rows so_far.depths element (drop next all.strings)
        → (longer : List ℕ) → IsPath longer (so_far.depths ++ element.depth ∷ [])
        → (read : ℕ) → read ≡ strings_of element → read ≤ length (drop next all.strings)
        → LinkedSoFar all elements later more longer (next + read)
    linked_more none more are longer longer_is read read_is low = record {
      depths = so_far.depths ++ element.depth ∷ [];
      whole = at_element
          ∙ next_element rows so_far.depths (from_index all next) element later None none
          ∙ ap (λ rs. tree_from rs (so_far.depths ++ element.depth ∷ []) (record {
            strings = drop (strings_of element) (drop next all.strings);
            are_all = all.are_all;
          }) later) (sym are)
          ∙ ap (λ n. tree_from more (so_far.depths ++ element.depth ∷ [])
          (record { strings = drop n (drop next all.strings); are_all = all.are_all }) later)
          (sym read_is)
          ∙ ap (λ ss. tree_from more (so_far.depths ++ element.depth ∷ [])
          (record { strings = ss; are_all = all.are_all }) later) (drop-drop read next all.strings);
      path_is = longer_is;
      same = length-append so_far.depths (element.depth ∷ []) ∙ ap (λ n. n + 1) so_far.same
          ∙ sym (length_with rows so_far.depths element (drop next all.strings))
          ∙ ap length (sym are);
      within = omega (arith, low, so_far.within, length-drop next all.strings);
    }

    pub linked_fault : (fault : ElementFault)
        → fault_in (length rows + 1) (limit_after so_far.depths) element (drop next all.strings)
        ≡ Some fault
        → tree_from [] [] all elements ≡ Err fault
    linked_fault fault is_fault = at_element
        ∙ next_element rows so_far.depths (from_index all next) element later (Some fault) is_fault

  -- no element is left
  at_end : rest ≡ [] → (b : Bool) → (length (drop next all.strings) == 0 && all.are_all) ≡ b
      → tree_from [] [] all elements ≡ (if b then Ok rows else Err (BadStrings (length rows + 1)))
  at_end none b is =
      so_far.whole ∙ ap (tree_from rows so_far.depths (from_index all next)) none
      ∙ ap (λ b. if b then Ok rows else Err (BadStrings (length rows + 1))) is

  pub linked_all : rest ≡ [] → length all.strings ≤ next → all.are_all ≡ true
      → tree_from [] [] all elements ≡ Ok rows
  linked_all none past are = at_end none true (let empty : length (drop next all.strings) ≡ 0 =
      omega (arith, past, length-drop next all.strings) in
      grind (arith, nat_tests, empty, are))

  pub linked_left : rest ≡ [] → next < length all.strings → (number : ℕ) → number ≡ length rows
      → tree_from [] [] all elements ≡ Err (BadStrings (number + 1))
  linked_left none less number is =
      at_end none false (let some : 0 < length (drop next all.strings) =
      omega (arith, less, length-drop next all.strings) in
      grind (arith, nat_tests, some)) ∙ ap (λ n. Err (BadStrings (n + 1))) (sym is)

  pub linked_not_all : rest ≡ [] → all.are_all ≡ false → (number : ℕ) → number ≡ length rows
      → tree_from [] [] all elements ≡ Err (BadStrings (number + 1))
  linked_not_all none not_all number is = at_end none false (grind (arith, nat_tests, not_all))
      ∙ ap (λ n. Err (BadStrings (n + 1))) (sym is)

-- a failure that is handed on, for its own reason
pub handed_on : {V : Type 0} (P : V → Type 0) (r : Result V CallError) (failure : CallError)
    (F G : ElementFault → Type 0) → IsErrAnd r (λ reported. reported ≡ failure)
    → FailsFor ⊥ F ⊥ failure → ((fault : ElementFault) → F fault → G fault)
    → MatchResult r P (FailsFor ⊥ G ⊥)
handed_on P (Ok x) failure F G is due more = absurd is
handed_on P (Err reported) Refused F G is due more = absurd due
handed_on P (Err reported) (Tree fault) F G is due more =
    subst (FailsFor ⊥ G ⊥) (sym is) (more fault due)
handed_on P (Err reported) Memory F G is due more = subst (FailsFor ⊥ G ⊥) (sym is) tt
handed_on P (Err reported) TooManyDeclarations F G is due more = absurd due
handed_on P (Err reported) NotUtf8 F G is due more = absurd due
handed_on P (Err reported) AnswerTooLong F G is due more = absurd due
handed_on P (Err reported) TooManyLayers F G is due more = absurd due
