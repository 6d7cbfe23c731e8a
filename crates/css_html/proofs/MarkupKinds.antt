-- Of what kind markup is.
use Rattle.std.proofs.Common.{◌≡◌, ◌&&◌, ℕ, Bool, true, false, if◌then◌else◌, List, [], ◌∷◌, drop, refl, codes}
use Rattle.css_text.specs.AsciiBytes.{greater_than_sign, hyphen, slash, exclamation_mark}
use Rattle.css_text.specs.Bytes.{past, starts, starts_by, starts_two}
use Rattle.css_text.specs.Characters.{is_letter}
use Rattle.css_html.specs.Marks.{is_in_name}
use Rattle.css_html.specs.Attributes.{past_attributes}
use Rattle.css_html.specs.Tokens.{PlacedToken, tag_end, tag_from, begins_letters, begins_cdata, declared_from, closed_from, markup_from}
use Rattle.css_html.specs.declared.tokenizer.TokenKind.{TokenKind}
use Rattle.css_html.specs.declared.tokenizer.TokenKind.TheVariants as kinds

-- the test fails for all markup but start tags
pub record IsOther (test : TokenKind → Bool) : Type 0 where
  pub cut : test kinds.Cut ≡ false
  pub end_tag : test kinds.EndTag ≡ false
  pub nothing : test kinds.Nothing ≡ false
  pub comment : test kinds.Comment ≡ false
  pub doctype : test kinds.Doctype ≡ false
  pub cdata : test kinds.Cdata ≡ false

-- the test fails for the token's kind
pub record Fails (test : TokenKind → Bool) (t : PlacedToken) : Type 0 where
  pub no : test t.kind ≡ false

if-kind : (test : TokenKind → Bool) (k : Bool) {a b : PlacedToken} → Fails test a → Fails test b
    → Fails test (if k then a else b)
if-kind test true x y = x
if-kind test false x y = y

tag_end-kind : (test : TokenKind → Bool) (kind : TokenKind) (from name name_end end : List ℕ)
    → test kinds.Cut ≡ false → test kind ≡ false → test (tag_end kind from name name_end end).kind ≡ false
tag_end-kind test kind from name name_end [] g h = g
tag_end-kind test kind from name name_end (b ∷ end) g h = h

pub tag-kind : (test : TokenKind → Bool) (kind : TokenKind) (from name : List ℕ)
    → test kinds.Cut ≡ false → test kind ≡ false → Fails test (tag_from kind from name)
unfolding tag_from
tag-kind test kind from name g h = record {
  no = tag_end-kind test kind from name (past is_in_name name) (past_attributes (past is_in_name name)) g h;
}

closed-kind : (test : TokenKind → Bool) → IsOther test → (from text : List ℕ)
    → Fails test (closed_from from text)
unfolding closed_from
closed-kind test h from text =
    if-kind test (starts_by is_letter text) (tag-kind test kinds.EndTag from text h.cut h.end_tag)
    (record { no = by (starts greater_than_sign text) })
  where
    by : (k : Bool) → test (if k then kinds.Nothing else kinds.Comment) ≡ false
    by true = h.nothing
    by false = h.comment

declared-kind : (test : TokenKind → Bool) → IsOther test → (foreign : Bool) (from text : List ℕ)
    → Fails test (declared_from foreign from text)
unfolding declared_from
declared-kind test h foreign from text =
    if-kind test (starts_two hyphen hyphen text)
    (if-kind test (starts greater_than_sign (drop 2 text)) (record { no = h.comment })
    (if-kind test (starts_two hyphen greater_than_sign (drop 2 text)) (record { no = h.comment })
    (record { no = h.comment })))
    (if-kind test (begins_letters (codes "doctype") text) (record { no = h.doctype })
    (if-kind test (foreign && begins_cdata text) (record { no = h.cdata }) (record { no = h.comment })))

-- markup whose first byte is no letter
pub other-kind : (test : TokenKind → Bool) → IsOther test → (foreign : Bool) (from text : List ℕ)
    → starts_by is_letter text ≡ false → Fails test (markup_from foreign from text)
other-kind test h foreign from text no_letter =
    rw no_letter
    (if-kind test (starts slash text) (closed-kind test h from (drop 1 text))
    (if-kind test (starts exclamation_mark text) (declared-kind test h foreign from (drop 1 text))
    (record { no = h.comment })))

pub markup-kind : (test : TokenKind → Bool) → IsOther test → test kinds.StartTag ≡ false
    → (foreign : Bool) (from text : List ℕ) → Fails test (markup_from foreign from text)
markup-kind test h start foreign from text = by (starts_by is_letter text) refl
  where
    by : (k : Bool) → starts_by is_letter text ≡ k → Fails test (markup_from foreign from text)
    by true e = rw e (tag-kind test kinds.StartTag from text h.cut start)
    by false e = other-kind test h foreign from text e
