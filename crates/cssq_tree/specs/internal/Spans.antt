-- Where the values of attributes are in the text of a line's attribute fields.
use Rattle.std.specs.Prelude.{◌≡◌, ℕ, ◌<◌, List, [], length, take, drop, map, Bool, false, true, is_some, not, ◌||◌, Option, None, Some, IfSome, MatchOption, bytes_eq, codes, if◌then◌else◌, ◌≤◌, ◌-◌}
use Rattle.std.specs.List.{slice_index_or, before_first, after_first, position_or_len}
use Rattle.std.specs.Str.{IsCharBoundary}
use Rattle.std.specs.Borrow.{Bor}
use Rattle.cssq_tree.specs.declared.tree.entry.Span.{Span}
use Rattle.cssq_tree.specs.declared.tree.entry.Values.{Values}
use Rattle.cssq_tree.specs.TreeText.{is_tab, fields_of, attribute_of}
use Rattle.cssq_tree.specs.PageNodes.{value_in}

-- the offset of a value that is not kept, since 32 bits do not hold its offset or its length
abbrev pub far : ℕ
far = 4294967295

-- the name, in the text of a line from its name to its end
abbrev pub name_in : List ℕ → List ℕ
name_in fields = slice_index_or (fields_of fields) 0 []

-- the attributes, in the same text
abbrev pub attributes_in : List ℕ → List (List ℕ × List ℕ)
attributes_in fields = map attribute_of (drop 1 (fields_of fields))

-- the attribute fields, in the same text
abbrev pub attribute_text : List ℕ → List ℕ
attribute_text fields = after_first is_tab fields

-- the value is at an offset of the text
pub record IsAt (text : List ℕ) (at len : ℕ) (value : Option (List ℕ)) : Type 0 where
  pub starts : IsCharBoundary text at
  pub ends : IsCharBoundary (drop at text) len
  pub is : value ≡ Some (take len (drop at text))

-- A span says where in the text a value is, that there is none, or that its offset is not kept.
pub record IsSpanOf (text : List ℕ) (s : Span) (value : Option (List ℕ)) : Type 0 where
  pub none : s.at ≡ 0 → value ≡ None
  pub some : 0 < s.at → is_some value ≡ true
  pub kept : 0 < s.at → s.at < far → IsAt text s.at s.len value

-- the span of a value at an offset
pub record IsNew (s : Span) (at len : ℕ) : Type 0 where
  pub there : 0 < s.at
  pub near : s.at < far → (s.at ≡ at) × (s.len ≡ len)

-- an earlier value is kept, and else the one at the offset
pub record IsOr (old new : Span) (at len : ℕ) : Type 0 where
  pub same : 0 < old.at → new ≡ old
  pub fresh : old.at ≡ 0 → IsNew new at len

-- the first value of a key, among earlier fields and one that follows
abbrev pub value_after : Option (List ℕ) → List ℕ → List ℕ → List ℕ → Option (List ℕ)
value_after (Some earlier) wanted key value = Some earlier
value_after None wanted key value = if bytes_eq key wanted then Some value else None

-- the next field has this key, and its value is at the offset: it counts if the key is the wanted
-- one and no earlier field has it
pub record IsAfter (old new : Span) (wanted key : List ℕ) (at len : ℕ) : Type 0 where
  pub other : bytes_eq key wanted ≡ false → new ≡ old
  pub mine : bytes_eq key wanted ≡ true → IsOr old new at len

-- the key is neither `class` nor `id`
abbrev pub is_other : List ℕ → Bool
is_other key = not (bytes_eq key (codes "class") || bytes_eq key (codes "id"))

-- where the values of `class` and `id` are, and whether the fields have other keys
pub record AreValues (text : List ℕ) (fields : List (List ℕ)) (v : Values) : Type 0 where
  pub class : IsSpanOf text v.class (value_in (map attribute_of fields) (codes "class"))
  pub id : IsSpanOf text v.id (value_in (map attribute_of fields) (codes "id"))
  pub others : (key : List ℕ) → v.others ≡ false → (key ≡ codes "class" → ⊥)
      → (key ≡ codes "id" → ⊥)
      → value_in (map attribute_of fields) key ≡ None

-- the first field of a text and the rest after its TAB, if it has one
pub record IsCut (text field : List ℕ) (others : Option (Bor (List ℕ))) : Type 0 where
  pub front : field ≡ before_first is_tab text
  pub after : MatchOption others (position_or_len is_tab text ≡ length text)
      (λ o. (o.now ≡ after_first is_tab text) × (position_or_len is_tab text < length text))

-- the text of the fields, empty if there are none
abbrev pub text_in : Option (Bor (List ℕ)) → List ℕ
text_in None = []
text_in (Some text) = text.now

-- the rest is the end of the text
abbrev pub IsEnd : List ℕ → Option (Bor (List ℕ)) → Type 0
IsEnd all rest =
    IfSome rest (λ t. (length t.now ≤ length all) × (drop (length all - length t.now) all ≡ t.now))
