-- What is written is read back.
use Rattle.std.proofs.Common.{◌≡◌, ℕ, ◌==◌, ◌||◌, Bool, true, false, not, if◌then◌else◌, List, [], ◌∷◌, ◌++◌, Some, arith, refl, ap, ◌∙◌, codes, append_assoc}
use Rattle.std.specs.List.{list_all}
use Rattle.std.proofs.lemmas.Bool.{and_parts}
use Rattle.std.proofs.lemmas.List.Folds.{list_all-append}
use Rattle.css_text.specs.AsciiBytes.{equals_sign, greater_than_sign, double_quote, space, slash, carriage_return}
use Rattle.css_text.specs.Bytes.{past, starts_by}
use Rattle.css_text.specs.Characters.{is_space}
use Rattle.css_html.specs.Marks.{is_in_name, is_in_attribute_name, is_between}
use Rattle.css_html.specs.Attributes.{PlacedAttribute, next_attribute, attribute_at, attribute_from, past_attributes, value_of}
use Rattle.css_html.specs.Tokens.{tag_end, tag_from}
use Rattle.css_html.specs.Written.{escaped_byte, escaped_value, written, IsAttributeName, ReadsBack, IsSameEnd, PutsFirst}
use Rattle.css_html.specs.Decoding.{ampersand, decoded}
use Rattle.css_html.specs.declared.decoding.TextKind.TheVariants.{Value}
use Rattle.css_html.specs.declared.tokenizer.TokenKind.{TokenKind}
use Rattle.css_text.proofs.reading.EachLemmas.{each-some}
use Rattle.css_text.proofs.reading.EndsLemmas.{before-append}
use Rattle.css_text.proofs.bytes.RunLemmas.{past-yes, past-no}
use Rattle.css_html.proofs.Placed.{next_attribute-takes}
use Rattle.css_html.proofs.DecodingLemmas.{decoded-escaped}

-- a run that ends where what follows does not pass
pub past-over : (test : ℕ → Bool) (front rest : List ℕ) → list_all test front ≡ true
    → starts_by test rest ≡ false → past test (front ++ rest) ≡ rest
past-over test [] [] a s = refl
past-over test [] (b ∷ rest) a s = past-no test b rest s
past-over test (b ∷ front) rest a s =
    let h = and_parts (test b) (list_all test front) a in
    past-yes test b (front ++ rest) h.0 ∙ past-over test front rest h.1 s

-- not the quote
abbrev pub is_unquoted : ℕ → Bool
is_unquoted c = not (c == double_quote)

byte-unquoted : (b : ℕ) → list_all is_unquoted (escaped_byte b) ≡ true
byte-unquoted b = by (b == ampersand) (b == double_quote) (b == carriage_return) refl
  where
    by : (k q c : Bool) → (b == double_quote) ≡ q
        → list_all is_unquoted (if k then codes "&amp;" else (if q then codes "&quot;"
        else (if c then codes "&#13;" else b ∷ []))) ≡ true
    by true q c e = refl
    by false true c e = refl
    by false false true e = refl
    by false false false e = rw e refl

value-unquoted : (value : List ℕ) → list_all is_unquoted (escaped_value value) ≡ true
value-unquoted [] = refl
value-unquoted (b ∷ value) =
    list_all-append is_unquoted (escaped_byte b) (escaped_value value)
    ∙ rw (byte-unquoted b, value-unquoted value) refl

-- an attribute as it is read
abbrev pub read_attribute : (n : ℕ) (name value rest : List ℕ) → PlacedAttribute
read_attribute n name value rest =
    let end : List ℕ = double_quote ∷ rest in
    let from : List ℕ = escaped_value value ++ end in
    record {
      from = n ∷ (name ++ (equals_sign ∷ double_quote ∷ from));
      name_end = equals_sign ∷ double_quote ∷ from;
      value = from;
      value_end = end;
      rest = rest;
    }

written-shape : (name value rest : List ℕ) → written name value ++ rest
    ≡ space ∷ (name ++ (equals_sign ∷ double_quote ∷ (escaped_value value ++ (double_quote ∷ rest))))
written-shape name value rest =
    let inner : (escaped_value value ++ (double_quote ∷ [])) ++ rest
    ≡ escaped_value value ++ (double_quote ∷ rest) =
    append_assoc (escaped_value value) (double_quote ∷ []) rest in
    ap (λ (x : List ℕ). space ∷ x)
    (append_assoc name (equals_sign ∷ double_quote ∷ (escaped_value value ++ (double_quote ∷ []))) rest)
    ∙ ap (λ (x : List ℕ). space ∷ (name ++ (equals_sign ∷ double_quote ∷ x))) inner

-- a byte of a name is none that may stand between attributes, and no `>`
name_byte : (b : ℕ) → is_in_attribute_name b ≡ true
    → (is_between b ≡ false) × ((b == greater_than_sign) ≡ false)
name_byte b h = by (is_space b) (b == slash) (b == greater_than_sign) h
  where
    by : (s l g : Bool) → not ((s || l || g) || b == equals_sign) ≡ true
        → ((s || l) ≡ false) × (g ≡ false)
    by true l g e = absurd (cc e)
    by false true g e = absurd (cc e)
    by false false true e = absurd (cc e)
    by false false false e = (refl, refl)

attribute_from-written : (n : ℕ) (name value rest : List ℕ) → list_all is_in_attribute_name name ≡ true
    → attribute_from n (name ++ (equals_sign ∷ double_quote ∷ (escaped_value value ++ (double_quote ∷ rest))))
    ≡ read_attribute n name value rest
attribute_from-written n name value rest plain =
    let from : List ℕ = escaped_value value ++ (double_quote ∷ rest) in
    let name_end : past is_in_attribute_name (name ++ (equals_sign ∷ double_quote ∷ from))
    ≡ equals_sign ∷ double_quote ∷ from =
    past-over is_in_attribute_name name (equals_sign ∷ double_quote ∷ from) plain refl in
    let end : past is_unquoted from ≡ double_quote ∷ rest =
    past-over is_unquoted (escaped_value value) (double_quote ∷ rest) (value-unquoted value) refl in
    rw name_end (rw end refl)

pub next-written : (n : ℕ) (name value rest : List ℕ) → is_in_attribute_name n ≡ true
    → list_all is_in_attribute_name name ≡ true
    → next_attribute (written (n ∷ name) value ++ rest)
    ≡ Some (read_attribute n name value rest, rest)
unfolding next_attribute
next-written n name value rest first plain =
    let tail : List ℕ = equals_sign ∷ double_quote ∷ (escaped_value value ++ (double_quote ∷ rest)) in
    let k = name_byte n first in
    let over : past is_between (space ∷ n ∷ (name ++ tail)) ≡ n ∷ (name ++ tail) =
    past-yes is_between space (n ∷ (name ++ tail)) refl ∙ past-no is_between n (name ++ tail) k.0 in
    ap (λ (t : List ℕ). attribute_at (past is_between t)) (written-shape (n ∷ name) value rest)
    ∙ ap attribute_at over
    ∙ rw k.1 (ap (λ (a : PlacedAttribute). Some (a, a.rest)) (attribute_from-written n name value rest plain))

pub reads-back : (name value rest : List ℕ) → IsAttributeName name
    → (a : PlacedAttribute) × ReadsBack name value rest a
reads-back [] value rest named = absurd (omega (arith, named.has_byte))
reads-back (n ∷ name) value rest named =
    let k = and_parts (is_in_attribute_name n) (list_all is_in_attribute_name name) named.plain in
    let a : PlacedAttribute = read_attribute n name value rest in
    let raw : value_of a ≡ escaped_value value =
    before-append (escaped_value value) (double_quote ∷ rest) in (
      a,
      record {
        found = next-written n name value rest k.0 k.1;
        named = before-append (n ∷ name) a.name_end;
        raw = raw;
        stands_for = λ plain. ap (decoded Value) raw ∙ decoded-escaped value plain;
      },
    )

-- ---- an attribute put in after the name of a tag

name_end-written : (tag name value tail : List ℕ) → list_all is_in_name tag ≡ true
    → past is_in_name (tag ++ (written name value ++ tail)) ≡ written name value ++ tail
name_end-written tag name value tail plain =
    past-over is_in_name tag (written name value ++ tail) plain refl

past_attributes-written : (name value tail : List ℕ) (a : PlacedAttribute)
    → next_attribute (written name value ++ tail) ≡ Some (a, tail)
    → past_attributes (written name value ++ tail) ≡ past_attributes tail
unfolding past_attributes
past_attributes-written name value tail a e =
    ap (λ (r : List PlacedAttribute × List ℕ). past is_between r.1)
    (each-some next_attribute next_attribute-takes (written name value ++ tail) tail a e)

end-same : (kind : TokenKind) (from other name one name_end two end : List ℕ)
    → IsSameEnd (tag_end kind from name name_end end) (tag_end kind other one two end)
end-same kind from other name one name_end two [] = record { kind = refl; rest = refl }
end-same kind from other name one name_end two (b ∷ end) = record { kind = refl; rest = refl }

tags-end-same : (kind : TokenKind) (from other tag name value tail : List ℕ)
    → list_all is_in_name tag ≡ true → starts_by is_in_name tail ≡ false → (a : PlacedAttribute)
    → next_attribute (written name value ++ tail) ≡ Some (a, tail)
    → IsSameEnd (tag_from kind from (tag ++ (written name value ++ tail))) (tag_from kind other (tag ++ tail))
unfolding tag_from
tags-end-same kind from other tag name value tail plain ends a e =
    let one = name_end-written tag name value tail plain in
    let two = past-over is_in_name tag tail plain ends in
    rw (one, two) (rw (past_attributes-written name value tail a e)
    (end-same kind from other (tag ++ (written name value ++ tail)) (tag ++ tail)
    (written name value ++ tail) tail (past_attributes tail)))

tag_end-inside_end : (kind : TokenKind) (from name name_end end : List ℕ)
    → (tag_end kind from name name_end end).inside_end ≡ name_end
tag_end-inside_end kind from name name_end [] = refl
tag_end-inside_end kind from name name_end (b ∷ end) = refl

tag-inside_end : (kind : TokenKind) (from name : List ℕ)
    → (tag_from kind from name).inside_end ≡ past is_in_name name
unfolding tag_from
tag-inside_end kind from name =
    tag_end-inside_end kind from name (past is_in_name name) (past_attributes (past is_in_name name))

pub puts-first : (kind : TokenKind) (tag name value tail : List ℕ) → list_all is_in_name tag ≡ true
    → starts_by is_in_name tail ≡ false → IsAttributeName name
    → (a : PlacedAttribute) × ReadsBack name value tail a × PutsFirst kind tag name value tail a
puts-first kind tag name value tail plain ends named =
    let back = reads-back name value tail named in (
      back.0,
      back.1,
      record {
        before_it = λ from. tag-inside_end kind from (tag ++ (written name value ++ tail))
            ∙ name_end-written tag name value tail plain;
        list = ap (λ (r : List PlacedAttribute × List ℕ). r.0)
            (each-some next_attribute next_attribute-takes (written name value ++ tail) tail back.0
            back.1.found);
        kind_and_rest = λ from other.
            tags-end-same kind from other tag name value tail plain ends back.0 back.1.found;
      },
    )
