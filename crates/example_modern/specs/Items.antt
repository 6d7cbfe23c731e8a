-- The items of a list: `li` elements that are siblings, each with a class, and a comment or a text in
-- some.
use Rattle.std.specs.Prelude.{◌≡◌, ℕ, zero, suc, ◌+◌, ◌-◌, Bool, true, false, ◌==◌, List, [], length, Option, Some, None, bytes_eq, codes, if◌then◌else◌, refl, MatchOption, IfSome}
use Rattle.std.proofs.Common.{arith}
use Rattle.std.specs.List.{slice_get}
use Rattle.std.specs.Option.{option_map, option_map_or}
use Rattle.css_matching.specs.Trees.{Counts, SiblingsShareParent}
use Rattle.css_selectors.specs.Documents.{Document, shape}
use Rattle.example_modern.specs.declared.item.Content.{Content}
use Rattle.example_modern.specs.declared.item.Content.TheVariants.{Nothing, Comment, Text}
use Rattle.example_modern.specs.declared.item.Entry.{Entry}

-- the entries of a list, and the index of an item
abbrev pub Item : Type 0
Item = List Entry × ℕ

-- the item before
abbrev pub before : List Entry → ℕ → Option Item
before entries zero = None
before entries (suc i) = Some (entries, i)

abbrev pub class_of : Item → Option (List ℕ)
class_of n = option_map (λ e. e.class.now) (slice_get n.0 n.1)

-- a text is content, a comment is none
abbrev pub is_content : Content → Bool
is_content Nothing = false
is_content Comment = false
is_content Text = true

-- No item has a parent, so each is a root.
abbrev pub items : Document Item
items = record {
  parent = λ n. None;
  previous_sibling = λ n. before n.0 n.1;
  depth = λ n. 0;
  earlier = λ n. n.1;
  later = λ n. length n.0 - (n.1 + 1);
  earlier_of_type = λ n. n.1;
  later_of_type = λ n. length n.0 - (n.1 + 1);
  is_named = λ n name. bytes_eq name (codes "li");
  is_in_namespace = λ n number. number == 0;
  attribute = λ n name. if bytes_eq name (codes "class") then class_of n else None;
  namespaced_attributes = λ n. [];
  is_in_state = λ n name. false;
  is_in_language = λ n range. false;
  has_content = λ n. option_map_or (λ e. is_content e.content) (slice_get n.0 n.1) false;
  is_in_list = λ n number. number == 0;
}

pub depths_count : Counts items.parent items.depth
depths_count n = refl

numbered : (entries : List Entry) (i : ℕ)
    → MatchOption (before entries i) (i ≡ 0) (λ p. i ≡ p.1 + 1)
numbered entries zero = refl
numbered entries (suc i) = omega arith

pub earlier_count : Counts items.previous_sibling items.earlier
earlier_count n = numbered n.0 n.1

shared : (entries : List Entry) (i : ℕ)
    → IfSome (before entries i) (λ s. items.parent s ≡ items.parent (entries, i))
shared entries zero = tt
shared entries (suc i) = refl

pub parents_shared : SiblingsShareParent (shape items)
parents_shared n = shared n.0 n.1
