-- The attributes of a tag (HTML Standard, sections 13.2.5.32 to 13.2.5.40). A place is what is left of
-- the text from there on.
use Rattle.std.specs.Prelude.{ℕ, not, ◌==◌, if◌then◌else◌, List, [], ◌∷◌, Option, Some, None}
use Rattle.css_text.specs.AsciiBytes.{equals_sign, greater_than_sign}
use Rattle.css_text.specs.Reading.{each, before}
use Rattle.css_text.specs.Bytes.{past}
use Rattle.css_text.specs.Characters.{is_space}
use Rattle.css_text.specs.Strings.{is_quote}
use Rattle.css_html.specs.Marks.{is_in_attribute_name, is_in_bare_value, is_between}

-- An attribute by its places. One without a value has an empty one at its name's end.
pub record PlacedAttribute : Type 0 where
  pub from : List ℕ
  pub name_end : List ℕ
  pub value : List ℕ
  pub value_end : List ℕ
  pub rest : List ℕ

-- an attribute without a value (13.2.5.34)
abbrev pub bare_attribute : (from name_end : List ℕ) → PlacedAttribute
bare_attribute from name_end = record {
  from = from;
  name_end = name_end;
  value = name_end;
  value_end = name_end;
  rest = name_end;
}

-- An attribute with a value in quotes, from its end on: its quote, or the end of the text (13.2.5.36 and
-- 13.2.5.37).
abbrev pub quoted_attribute : (from name_end value end : List ℕ) → PlacedAttribute
quoted_attribute from name_end value [] = record {
  from = from;
  name_end = name_end;
  value = value;
  value_end = [];
  rest = [];
}
quoted_attribute from name_end value (q ∷ rest) = record {
  from = from;
  name_end = name_end;
  value = value;
  value_end = q ∷ rest;
  rest = rest;
}

-- an attribute from its value on (13.2.5.35)
abbrev pub valued_attribute : (from name_end value : List ℕ) → PlacedAttribute
valued_attribute from name_end [] = quoted_attribute from name_end [] []
valued_attribute from name_end (b ∷ text) =
    if is_quote b then quoted_attribute from name_end text (past (λ c. not (c == b)) text)
    else record {
      from = from;
      name_end = name_end;
      value = b ∷ text;
      value_end = past is_in_bare_value (b ∷ text);
      rest = past is_in_bare_value (b ∷ text);
    }

-- an attribute from after the spaces after its name on (13.2.5.34)
abbrev pub named_attribute : (from name_end after : List ℕ) → PlacedAttribute
named_attribute from name_end [] = bare_attribute from name_end
named_attribute from name_end (b ∷ text) =
    if b == equals_sign then valued_attribute from name_end (past is_space text)
    else bare_attribute from name_end

-- the attribute that begins with this byte (13.2.5.33)
abbrev pub attribute_from : ℕ → List ℕ → PlacedAttribute
attribute_from b text =
    let name_end = past is_in_attribute_name text in
    named_attribute (b ∷ text) name_end (past is_space name_end)

-- with the rest
abbrev pub with_rest : PlacedAttribute → PlacedAttribute × List ℕ
with_rest a = (a, a.rest)

-- the attribute that begins here, and the rest; none at `>` or the end
abbrev pub attribute_at : List ℕ → Option (PlacedAttribute × List ℕ)
attribute_at [] = None
attribute_at (b ∷ text) =
    if b == greater_than_sign then None else Some (with_rest (attribute_from b text))

-- the next attribute, after what is between, and the rest (13.2.5.32)
unfoldable pub next_attribute : List ℕ → Option (PlacedAttribute × List ℕ)
next_attribute text = attribute_at (past is_between text)

-- the attributes of a tag, from its name's end on
abbrev pub attributes : List ℕ → List PlacedAttribute
attributes text = (each next_attribute text).0

-- the rest after them: `>`, or nothing
unfoldable pub past_attributes : List ℕ → List ℕ
past_attributes text = past is_between (each next_attribute text).1

-- the name of an attribute, as written
abbrev pub name_of : PlacedAttribute → List ℕ
name_of a = before a.from a.name_end

-- the value of an attribute, as written
abbrev pub value_of : PlacedAttribute → List ℕ
value_of a = before a.value a.value_end
