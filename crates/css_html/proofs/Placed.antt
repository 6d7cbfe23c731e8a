-- What is left after each reader is an end of the text.
-- Serves the loop over attributes and the laws.
use Rattle.std.proofs.Common.{ℕ, ◌<◌, ◌==◌, Bool, true, false, not, if◌then◌else◌, List, [], ◌∷◌, length, Option, Some, None, arith}
use Rattle.css_text.specs.AsciiBytes.{equals_sign, greater_than_sign}
use Rattle.css_text.specs.Reading.{each, Ends}
use Rattle.css_text.specs.Bytes.{past}
use Rattle.css_text.specs.Characters.{is_space}
use Rattle.css_text.specs.Strings.{is_quote}
use Rattle.css_text.proofs.reading.EachLemmas.{Shrinks, Takes}
use Rattle.css_text.proofs.reading.EndsLemmas.{ends-same, ends-ends, ends-cons, ends-tail, length-ends, ends-past, EndsFound, each-ends}
use Rattle.css_html.specs.Marks.{is_in_attribute_name, is_in_bare_value, is_between}
use Rattle.css_html.specs.Attributes.{PlacedAttribute, bare_attribute, quoted_attribute, valued_attribute, named_attribute, attribute_from, attribute_at, next_attribute, past_attributes}

-- ---- attributes

-- what is left after an attribute is an end of the text
abbrev pub Leaves : List ℕ → PlacedAttribute → Type 0
Leaves text a = Ends text a.rest

pub quoted-leaves : (from name_end value end : List ℕ) → Leaves end (quoted_attribute from name_end value end)
quoted-leaves from name_end value [] = ends-same []
quoted-leaves from name_end value (q ∷ rest) = ends-tail q rest

pub valued-leaves : (from name_end value : List ℕ) → Leaves value (valued_attribute from name_end value)
valued-leaves from name_end [] = ends-same []
valued-leaves from name_end (b ∷ text) = by (is_quote b)
  where
    end : List ℕ
    end = past (λ c. not (c == b)) text

    by : (k : Bool) → Leaves (b ∷ text) (if k then quoted_attribute from name_end text end
        else record {
          from = from;
          name_end = name_end;
          value = b ∷ text;
          value_end = past is_in_bare_value (b ∷ text);
          rest = past is_in_bare_value (b ∷ text);
        })
    by true = ends-ends (b ∷ text) text (quoted_attribute from name_end text end).rest
        (ends-tail b text)
        (ends-ends text end (quoted_attribute from name_end text end).rest
        (ends-past (λ c. not (c == b)) text) (quoted-leaves from name_end text end))
    by false = ends-past is_in_bare_value (b ∷ text)

pub named-leaves : (from name_end after : List ℕ) → Ends name_end after
    → Leaves name_end (named_attribute from name_end after)
named-leaves from name_end [] e = ends-same name_end
named-leaves from name_end (b ∷ text) e = by (b == equals_sign)
  where
    value : List ℕ
    value = past is_space text

    by : (k : Bool) → Leaves name_end
        (if k then valued_attribute from name_end value else bare_attribute from name_end)
    by true = ends-ends name_end (b ∷ text) (valued_attribute from name_end value).rest e
        (ends-ends (b ∷ text) text (valued_attribute from name_end value).rest (ends-tail b text)
        (ends-ends text value (valued_attribute from name_end value).rest (ends-past is_space text)
        (valued-leaves from name_end value)))
    by false = ends-same name_end

pub attribute-leaves : (b : ℕ) (text : List ℕ) → Leaves text (attribute_from b text)
attribute-leaves b text =
    let name_end : List ℕ = past is_in_attribute_name text in
    ends-ends text name_end (attribute_from b text).rest (ends-past is_in_attribute_name text)
    (named-leaves (b ∷ text) name_end (past is_space name_end) (ends-past is_space name_end))

-- an attribute takes a byte or more, and leaves an end of the text
abbrev pub TakesEnd : {A : Type 0} → List ℕ → Option (A × List ℕ) → Type 0
TakesEnd text None = Unit {0}
TakesEnd text (Some x) = Ends text x.1 × (length x.1 < length text)

pub attribute_at-takes : (text : List ℕ) → TakesEnd text (attribute_at text)
attribute_at-takes [] = tt
attribute_at-takes (b ∷ text) = by (b == greater_than_sign)
  where
    a : PlacedAttribute
    a = attribute_from b text

    by : (k : Bool) → TakesEnd (b ∷ text) (if k then None else Some (a, a.rest))
    by true = tt
    by false =
        let leaves : Ends text a.rest = attribute-leaves b text in
        (ends-cons b text a.rest leaves, omega (arith, length-ends text a.rest leaves))

takes-from : {A : Type 0} (text middle : List ℕ) (o : Option (A × List ℕ)) → Ends text middle
    → TakesEnd middle o → TakesEnd text o
takes-from text middle None e h = tt
takes-from text middle (Some x) e h =
    (ends-ends text middle x.1 e h.0, omega (arith, length-ends text middle e, h.1))

next_attribute-takes_end : (text : List ℕ) → TakesEnd text (next_attribute text)
unfolding next_attribute
next_attribute-takes_end text =
    takes-from text (past is_between text) (attribute_at (past is_between text))
    (ends-past is_between text) (attribute_at-takes (past is_between text))

shrinks : {A : Type 0} (text : List ℕ) (o : Option (A × List ℕ)) → TakesEnd text o → Shrinks text o
shrinks text None h = tt
shrinks text (Some x) h = h.1

ends_found : {A : Type 0} (text : List ℕ) (o : Option (A × List ℕ)) → TakesEnd text o
    → EndsFound text o
ends_found text None h = tt
ends_found text (Some x) h = h.0

pub next_attribute-takes : Takes next_attribute
next_attribute-takes text = shrinks text (next_attribute text) (next_attribute-takes_end text)

next_attribute-ends : (text : List ℕ) → EndsFound text (next_attribute text)
next_attribute-ends text = ends_found text (next_attribute text) (next_attribute-takes_end text)

pub each_attributes-ends : (text : List ℕ) → Ends text (each next_attribute text).1
each_attributes-ends text = each-ends next_attribute next_attribute-ends text

pub past_attributes-ends : (text : List ℕ) → Ends text (past_attributes text)
unfolding past_attributes
past_attributes-ends text =
    ends-ends text (each next_attribute text).1 (past is_between (each next_attribute text).1)
    (each-ends next_attribute next_attribute-ends text)
    (ends-past is_between (each next_attribute text).1)
