-- The text of a tree: a line for each element, of fields between TABs.
use Rattle.std.specs.Prelude.{◌≡◌, ℕ, ◌+◌, ◌<◌, ◌≤◌, Bool, false, not, ◌&&◌, List, [], ◌∷◌, length, map, take, drop, Option, None, Some, Result, Ok, Err, ◌==◌, if◌then◌else◌, nat_lt, nat_le, bytes_eq, is_none}
use Rattle.std.specs.Borrow.{Bor}
use Rattle.std.specs.List.{All, slice_split, slice_index_or, before_first, after_first, position_or_len, list_any, list_all, zip, flat_map, filter_map, cons_option, range_with_len, enumerate_from}
use Rattle.std.specs.Char.{is_ascii_digit}
use Rattle.std.specs.Str.Parse.{digits_value}
use Rattle.css_text.specs.AsciiBytes.{tab, newline, digit_zero, equals_sign}
use Rattle.cssq_tree.specs.declared.tree.TreeFault.{TreeFault}
use Rattle.cssq_tree.specs.declared.tree.TreeFault.TheVariants.{BadDepth, EmptyName, NoEquals, RepeatedKey, Memory}

-- a newline, which ends a line
abbrev pub is_newline : ℕ → Bool
is_newline b = b == newline

-- a TAB, which separates fields
abbrev pub is_tab : ℕ → Bool
is_tab b = b == tab

-- `=`, which separates a key from its value
abbrev pub is_equals : ℕ → Bool
is_equals b = b == equals_sign

-- there is no line after the last newline if nothing follows it
abbrev pub without_empty_last : List (List ℕ) → List (List ℕ)
without_empty_last [] = []
without_empty_last ([] ∷ []) = []
without_empty_last ((b ∷ line) ∷ []) = (b ∷ line) ∷ []
without_empty_last (line ∷ next ∷ lines) = line ∷ without_empty_last (next ∷ lines)

-- the lines of a text: each ends at a newline, which the last may lack
abbrev pub lines_of : List ℕ → List (List ℕ)
lines_of text = without_empty_last (slice_split is_newline text)

-- the fields of a line, between TABs
abbrev pub fields_of : List ℕ → List (List ℕ)
fields_of line = slice_split is_tab line

-- the fields of a text of fields, if there is one
abbrev pub fields_in : Option (Bor (List ℕ)) → List (List ℕ)
fields_in None = []
fields_in (Some text) = fields_of text.now

-- the first field, which is the depth in digits
abbrev pub depth_text : List (List ℕ) → List ℕ
depth_text fields = slice_index_or fields 0 []

-- the second field, the name; a missing one is like an empty one
abbrev pub name_text : List (List ℕ) → List ℕ
name_text fields = slice_index_or fields 1 []

-- the fields after the name
abbrev pub attribute_fields : List (List ℕ) → List (List ℕ)
attribute_fields fields = drop 2 fields

-- what precedes the first `=` of a field
abbrev pub key_of : List ℕ → List ℕ
key_of field = before_first is_equals field

-- what follows the first `=` of a field
abbrev pub value_of : List ℕ → List ℕ
value_of field = after_first is_equals field

-- the key and the value of a field
abbrev pub attribute_of : List ℕ → List ℕ × List ℕ
attribute_of field = (key_of field, value_of field)

-- what a line says of its element: its depth, its name, and its attributes, each a key and a value
pub record Row : Type 0 where
  pub depth : ℕ
  pub name : List ℕ
  pub attributes : List (List ℕ × List ℕ)

-- the number in the first field
abbrev pub depth_in : List (List ℕ) → ℕ
depth_in fields = digits_value 10 (depth_text fields)

-- the row of a line, by its fields
abbrev pub row_of : List (List ℕ) → Row
row_of fields =
    record {
      depth = depth_in fields;
      name = name_text fields;
      attributes = map attribute_of (attribute_fields fields);
    }

-- ---- the faults of a line, each with the line's number

-- `0`, or digits that do not begin with zero
abbrev pub is_depth : List ℕ → Bool
is_depth [] = false
is_depth (c ∷ cs) = if c == digit_zero then length cs == 0 else list_all is_ascii_digit (c ∷ cs)

-- the depth in a field, if that is at most the limit
abbrev pub spelled_depth : ℕ → List ℕ → Option ℕ
spelled_depth limit field =
    if is_depth field && nat_le (digits_value 10 field) limit then Some (digits_value 10 field)
    else None

-- the first field is no depth, or one above the limit
abbrev pub depth_fault : ℕ → ℕ → List (List ℕ) → Option TreeFault
depth_fault number limit fields =
    if is_none (spelled_depth limit (depth_text fields)) then Some (BadDepth number) else None

-- the name is missing or empty
abbrev pub name_fault : ℕ → List (List ℕ) → Option TreeFault
name_fault number fields = if length (name_text fields) == 0 then Some (EmptyName number) else None

-- whether a field has a `=`
abbrev pub has_equals : List ℕ → Bool
has_equals field = nat_lt (position_or_len is_equals field) (length field)

-- whether one of the fields has the key
abbrev pub has_key : List (List ℕ) → List ℕ → Bool
has_key fields key = list_any (λ field. bytes_eq (key_of field) key) fields

-- an attribute field has no `=`, or an earlier one has its key
abbrev pub field_fault : ℕ → List (List ℕ) → List ℕ → Option TreeFault
field_fault number earlier field =
    if not (has_equals field) then Some (NoEquals number)
    else (if has_key earlier (key_of field) then Some (RepeatedKey number)
    else None)

-- the fault of the attribute field at an index
abbrev pub fault_of_field : ℕ → List (List ℕ) → ℕ → Option TreeFault
fault_of_field number fields index =
    field_fault number (take index fields) (slice_index_or fields index [])

-- the faults of the attribute fields, from the left
abbrev pub field_faults : ℕ → List (List ℕ) → List TreeFault
field_faults number fields =
    filter_map (fault_of_field number fields) (range_with_len 0 (length fields))

-- every fault of a line whose depth may be at most the limit: of the depth, of the name, and of the
-- fields from the left
abbrev pub faults_of_line : ℕ → ℕ → List (List ℕ) → List TreeFault
faults_of_line number limit fields =
    cons_option (depth_fault number limit fields)
    (cons_option (name_fault number fields) (field_faults number (attribute_fields fields)))

-- ---- the lines of a text

-- the lines of a text, each by its fields
abbrev pub lines_in : List ℕ → List (List (List ℕ))
lines_in text = map fields_of (lines_of text)

-- the greatest depth of each line: the first one's is given, and each other line may be one deeper
-- than the one before
abbrev pub limits_of : ℕ → List (List (List ℕ)) → List ℕ
limits_of first lines = first ∷ map (λ fields. depth_in fields + 1) lines

-- the faults of each line, from the number and the limit of the first
abbrev pub line_faults : ℕ → ℕ → List (List (List ℕ)) → List (List TreeFault)
line_faults number limit lines =
    map (λ p. faults_of_line p.0 p.1.0 p.1.1)
    (enumerate_from number (zip (limits_of limit lines) lines))

-- the faults of each line of a text: the first line has the number 1 and the depth 0
abbrev pub faults_in : List ℕ → List (List TreeFault)
faults_in text = line_faults 1 0 (lines_in text)

-- the first fault, or the rows if there is none
abbrev pub first_or_rows : List TreeFault → List Row → Result (List Row) TreeFault
first_or_rows [] rows = Ok rows
first_or_rows (fault ∷ faults) rows = Err fault

-- the rows of a text, or the first fault of its first faulty line
abbrev pub tree_of : List ℕ → Result (List Row) TreeFault
tree_of text =
    first_or_rows (flat_map (λ faults. faults) (faults_in text)) (map row_of (lines_in text))

-- the number is that of a line, and no line up to it is faulty
abbrev pub IsSoundTo : ℕ → List ℕ → Type 0
IsSoundTo number text =
    (0 < number) × (number ≤ length (lines_in text))
    × All (λ faults. faults ≡ []) (take number (faults_in text))

-- the fault is the text's, or memory ran out at a line up to which none is faulty
abbrev pub IsFaultOf : TreeFault → List ℕ → Type 0
IsFaultOf (Memory line) text = IsSoundTo line text
IsFaultOf (BadDepth line) text = tree_of text ≡ Err (BadDepth line)
IsFaultOf (EmptyName line) text = tree_of text ≡ Err (EmptyName line)
IsFaultOf (NoEquals line) text = tree_of text ≡ Err (NoEquals line)
IsFaultOf (RepeatedKey line) text = tree_of text ≡ Err (RepeatedKey line)

-- the number of the kind of fault
abbrev pub fault_number : TreeFault → ℕ
fault_number (BadDepth line) = 1
fault_number (EmptyName line) = 2
fault_number (NoEquals line) = 3
fault_number (RepeatedKey line) = 4
fault_number (Memory line) = 5

-- the number of the line in the fault
abbrev pub fault_line : TreeFault → ℕ
fault_line (BadDepth line) = line
fault_line (EmptyName line) = line
fault_line (NoEquals line) = line
fault_line (RepeatedKey line) = line
fault_line (Memory line) = line
