-- A text that is one start tag is read as that tag whatever follows it.
use Rattle.std.proofs.Common.{◌≡◌, ◌≤◌, ◌==◌, ℕ, Bool, true, false, if◌then◌else◌, List, [], ◌∷◌, ◌++◌, length, Option, Some, None, arith, refl, sym, ap, subst, ◌∙◌, append-nil}
use Rattle.std.proofs.lemmas.Bool.{and_parts}
use Rattle.css_text.specs.Bytes.{past, starts_by}
use Rattle.css_text.specs.Characters.{is_letter}
use Rattle.css_text.proofs.reading.EndsLemmas.{length-ends}
use Rattle.css_html.specs.Marks.{less_than_sign, is_in_name, follows_open, begins_markup, past_text}
use Rattle.css_html.specs.Attributes.{past_attributes}
use Rattle.css_html.specs.Tokens.{PlacedToken, whole, tag_end, tag_from, markup_from, marked_token, token_from, next_token}
use Rattle.css_html.specs.Locality.{Said, said, TextDriver, Reads, reads_one, tag_at, IsStartTag}
use Rattle.css_html.specs.declared.modes.Mode.{Mode}
use Rattle.css_html.specs.declared.modes.Mode.TheVariants.{Data}
use Rattle.css_html.specs.declared.tokenizer.TokenKind.{TokenKind}
use Rattle.css_html.specs.declared.tokenizer.TokenKind.TheVariants as kinds
use Rattle.css_html.proofs.Placed.{past_attributes-ends}
use Rattle.css_html.proofs.TokenFrames.{token_or, first-same}
use Rattle.css_html.proofs.Closed.{Kept, kept, lost, past-any, past_attributes-kept, SameTag}
use Rattle.css_html.proofs.Inserted.{replaced-local}
use Rattle.css_html.proofs.MarkupKinds.{IsOther, other-kind}
use Rattle.css_html.proofs.Ended.{ended, ended-same}
use Rattle.css_html.proofs.Between.{none-read}

-- ---- a tag that is all of a text

short-cut : (kind : TokenKind) (f n e end : List ℕ) → length end ≤ 0
    → (tag_end kind f n e end).kind ≡ kinds.Cut
short-cut kind f n e [] h = refl
short-cut kind f n e (b ∷ end) h = absurd (omega (arith, h))

cut-not_start : (A : Type 0) (kind : TokenKind) → kind ≡ kinds.Cut → kind ≡ kinds.StartTag → A
cut-not_start A kind e f = absurd (cc (sym e ∙ f))

end-alone : (s w i : List ℕ) (c : ℕ) (y d e : List ℕ) → Kept [] s d e
    → (tag_end kinds.StartTag (w ++ []) (i ++ []) (c ∷ (y ++ [])) d).kind ≡ kinds.StartTag
    → (tag_end kinds.StartTag (w ++ []) (i ++ []) (c ∷ (y ++ [])) d).rest ≡ []
    → SameTag [] s (tag_end kinds.StartTag (w ++ []) (i ++ []) (c ∷ (y ++ [])) d)
    (tag_end kinds.StartTag (w ++ s) (i ++ s) (c ∷ (y ++ s)) e)
end-alone s w i c y d e (kept b z) h k =
    ended-same [] s
    (record {
      kind = kinds.StartTag;
      from = w ++ [];
      inside = i ++ [];
      inside_end = c ∷ (y ++ []);
      rest = z ++ [];
    })
    (record {
      kind = kinds.StartTag;
      from = w ++ s;
      inside = i ++ s;
      inside_end = c ∷ (y ++ s);
      rest = z ++ s;
    })
    (ended kinds.StartTag w i (c ∷ y) z) k
end-alone s w i c y d e (lost _ _ g) h k =
    cut-not_start (SameTag [] s (tag_end kinds.StartTag (w ++ []) (i ++ []) (c ∷ (y ++ [])) d)
    (tag_end kinds.StartTag (w ++ s) (i ++ s) (c ∷ (y ++ s)) e))
    (tag_end kinds.StartTag (w ++ []) (i ++ []) (c ∷ (y ++ [])) d).kind
    (short-cut kinds.StartTag (w ++ []) (i ++ []) (c ∷ (y ++ [])) d g) h

name-alone : (s w i d e : List ℕ) → Kept [] s d e
    → (tag_end kinds.StartTag (w ++ []) (i ++ []) d (past_attributes d)).kind ≡ kinds.StartTag
    → (tag_end kinds.StartTag (w ++ []) (i ++ []) d (past_attributes d)).rest ≡ []
    → SameTag [] s (tag_end kinds.StartTag (w ++ []) (i ++ []) d (past_attributes d))
    (tag_end kinds.StartTag (w ++ s) (i ++ s) e (past_attributes e))
name-alone s w i d e (kept c y) h k =
    end-alone s w i c y (past_attributes (c ∷ (y ++ []))) (past_attributes (c ∷ (y ++ s)))
    (past_attributes-kept [] s (c ∷ (y ++ [])) (c ∷ (y ++ s)) (kept c y)) h k
name-alone s w i d e (lost _ _ g) h k =
    cut-not_start (SameTag [] s (tag_end kinds.StartTag (w ++ []) (i ++ []) d (past_attributes d))
    (tag_end kinds.StartTag (w ++ s) (i ++ s) e (past_attributes e)))
    (tag_end kinds.StartTag (w ++ []) (i ++ []) d (past_attributes d)).kind
    (short-cut kinds.StartTag (w ++ []) (i ++ []) d (past_attributes d)
    (omega (arith, g, length-ends d (past_attributes d) (past_attributes-ends d)))) h

tag-alone : (s w i : List ℕ) → (tag_from kinds.StartTag (w ++ []) (i ++ [])).kind ≡ kinds.StartTag
    → (tag_from kinds.StartTag (w ++ []) (i ++ [])).rest ≡ []
    → SameTag [] s (tag_from kinds.StartTag (w ++ []) (i ++ [])) (tag_from kinds.StartTag (w ++ s) (i ++ s))
unfolding tag_from
tag-alone s w i h k =
    name-alone s w i (past is_in_name (i ++ [])) (past is_in_name (i ++ s)) (past-any [] s is_in_name i) h k

-- ---- what a start tag begins with

is_start : TokenKind → Bool
is_start kinds.StartTag = true
is_start kinds.Text = false
is_start kinds.EndTag = false
is_start kinds.Comment = false
is_start kinds.Doctype = false
is_start kinds.Cdata = false
is_start kinds.Nothing = false
is_start kinds.Cut = false

starts-other : IsOther is_start
unfolding is_start
starts-other = record { cut = refl; end_tag = refl; nothing = refl; comment = refl; doctype = refl; cdata = refl }

-- a start tag at the start of a text
record BeginsTag (b : ℕ) (text : List ℕ) : Type 0 where
  pub mark : b ≡ less_than_sign
  pub letter : starts_by is_letter text ≡ true

tag-begins : (b : ℕ) (text : List ℕ) → (marked_token false b text).kind ≡ kinds.StartTag → BeginsTag b text
unfolding is_start
tag-begins b text h = by (begins_markup (b ∷ text)) refl h
  where
    marked : begins_markup (b ∷ text) ≡ true → (k : Bool) → starts_by is_letter text ≡ k
        → (markup_from false (b ∷ text) text).kind ≡ kinds.StartTag → BeginsTag b text
    marked e true f g =
        let k = and_parts (b == less_than_sign) (follows_open text) e in
        record { mark = grind (arith, k.0); letter = f }
    marked e false f g =
        absurd (cc (sym (other-kind is_start starts-other false (b ∷ text) text f).no ∙ ap is_start g))

    by : (k : Bool) → begins_markup (b ∷ text) ≡ k
        → (if k then markup_from false (b ∷ text) text
        else whole kinds.Text (b ∷ text) (past_text text)).kind ≡ kinds.StartTag → BeginsTag b text
    by true e g = marked e (starts_by is_letter text) refl g
    by false e g = absurd (cc (ap is_start g))

-- A text that is a start tag: a `<` and what makes it that tag whatever follows.
record Shape (text : List ℕ) (t : PlacedToken) : Type 0 where
  pub name : List ℕ
  pub is : text ≡ less_than_sign ∷ name
  pub letter : starts_by is_letter name ≡ true
  pub says : (other : List ℕ) → said t ≡ said (tag_at (name ++ other))
  pub left : (other : List ℕ) → (tag_at (name ++ other)).rest ≡ other

-- the token of such a text
tag-token : (name : List ℕ) → starts_by is_letter name ≡ true → begins_markup (less_than_sign ∷ name) ≡ true
    → token_from Data less_than_sign name ≡ tag_at name
unfolding token_from
tag-token name h k = rw (k, h) refl

start-marks : (name : List ℕ) → starts_by is_letter name ≡ true → begins_markup (less_than_sign ∷ name) ≡ true
start-marks [] h = absurd (cc h)
start-marks (c ∷ []) h = rw h refl
start-marks (c ∷ d ∷ name) h = rw h refl

shape-from : (name : List ℕ) (t : PlacedToken) → starts_by is_letter name ≡ true → t ≡ tag_at name
    → t.kind ≡ kinds.StartTag → t.rest ≡ [] → Shape (less_than_sign ∷ name) t
shape-from name t letter e kind rest =
    let nil : name ++ [] ≡ name = append-nil name in
    let same : tag_at (name ++ []) ≡ t = ap tag_at nil ∙ sym e in
    let tag : (other : List ℕ) → SameTag [] other (tag_at (name ++ [])) (tag_at (name ++ other)) =
    λ other. tag-alone other (less_than_sign ∷ name) name
    (ap (λ (x : PlacedToken). x.kind) same ∙ kind) (ap (λ (x : PlacedToken). x.rest) same ∙ rest) in
    record {
      name = name;
      is = refl;
      letter = letter;
      says = λ other. ap said (sym same) ∙ (tag other).says;
      left = λ other. (tag other).left;
    }

-- the rest after the token that was found
abbrev rest_or : Option (PlacedToken × List ℕ) → List ℕ
rest_or None = []
rest_or (Some x) = x.1

first_token : (b : ℕ) (text : List ℕ) (t : PlacedToken) → next_token Data (b ∷ text) ≡ Some (t, [])
    → t ≡ token_from Data b text
unfolding next_token
first_token b text t h = ap (λ (x : Option (PlacedToken × List ℕ)). token_or t x) (sym h)

first_rest : (b : ℕ) (text : List ℕ) (t : PlacedToken) → next_token Data (b ∷ text) ≡ Some (t, [])
    → t.rest ≡ []
unfolding next_token
first_rest b text t h =
    ap (λ (x : PlacedToken). x.rest) (first_token b text t h)
    ∙ ap (λ (x : Option (PlacedToken × List ℕ)). rest_or x) h

shape-of : (text : List ℕ) (t : PlacedToken) → IsStartTag text t → Shape text t
unfolding next_token token_from
shape-of [] t h = absurd (cc h.whole)
shape-of (b ∷ text) t h =
    let token : t ≡ token_from Data b text = first_token b text t h.whole in
    let rest : t.rest ≡ [] = first_rest b text t h.whole in
    let begins : BeginsTag b text = tag-begins b text (ap (λ (x : PlacedToken). x.kind) (sym token) ∙ h.kind) in
    let marks = start-marks text begins.letter in
    subst (λ (x : ℕ). Shape (x ∷ text) t) (sym begins.mark)
    (shape-from text t begins.letter
    (subst (λ (x : ℕ). t ≡ token_from Data x text) begins.mark token ∙ tag-token text begins.letter marks)
    h.kind rest)

-- a start tag that was read of a text in a page: a `<` and what makes it that tag
record OldTag (text after : List ℕ) (tag : Said) : Type 0 where
  pub name : List ℕ
  pub is : text ≡ less_than_sign ∷ name
  pub letter : starts_by is_letter name ≡ true
  pub says : tag ≡ said (tag_at name)
  pub left : (tag_at name).rest ≡ after

old-from : (b : ℕ) (text after : List ℕ) (t : PlacedToken) → t ≡ token_from Data b text
    → t.kind ≡ kinds.StartTag → t.rest ≡ after → OldTag (b ∷ text) after (said t)
unfolding token_from
old-from b text after t e kind rest =
    let begins : BeginsTag b text = tag-begins b text (ap (λ (x : PlacedToken). x.kind) (sym e) ∙ kind) in
    let marks = start-marks text begins.letter in
    let same : t ≡ tag_at text =
    subst (λ (x : ℕ). t ≡ token_from Data x text) begins.mark e ∙ tag-token text begins.letter marks in
    record {
      name = text;
      is = ap (λ (x : ℕ). x ∷ text) begins.mark;
      letter = begins.letter;
      says = ap said same;
      left = ap (λ (x : PlacedToken). x.rest) (sym same) ∙ rest;
    }

old-at : (text after : List ℕ) (t : PlacedToken) → next_token Data text ≡ Some (t, t.rest)
    → t.kind ≡ kinds.StartTag → t.rest ≡ after → OldTag text after (said t)
unfolding next_token
old-at [] after t e kind rest = absurd (cc e)
old-at (b ∷ text) after t e kind rest = old-from b text after t (first-same Data b text t e) kind rest

old-of : (drive : TextDriver) (found : List Said) (text after : List ℕ) (tag : Said)
    → drive found ≡ Data → Reads drive found text (tag ∷ []) after → tag.kind ≡ kinds.StartTag
    → OldTag text after tag
old-of drive found text after tag data_mode (reads_one _ _ _ _ t e r) kind =
    old-at text after t
    (subst (λ (x : Mode). next_token x text ≡ Some (t, t.rest)) data_mode e) kind
    (none-read drive (found ++ said t ∷ []) t.rest after r)

pub whole-local : (drive : TextDriver) (front old new after rest : List ℕ) (found more : List Said)
    (tag : Said) (u : PlacedToken) → tag.kind ≡ kinds.StartTag → IsStartTag new u → drive found ≡ Data
    → Reads drive [] (front ++ (old ++ after)) found (old ++ after)
    → Reads drive found (old ++ after) (tag ∷ []) after → Reads drive (found ++ tag ∷ []) after more rest
    → ((later : List Said) → drive ((found ++ tag ∷ []) ++ later) ≡ drive ((found ++ said u ∷ []) ++ later))
    → Reads drive [] (front ++ (new ++ after)) (found ++ (said u ∷ more)) rest
whole-local drive front old new after rest found more tag u kind k data_mode first read next blind =
    let one : OldTag (old ++ after) after tag = old-of drive found (old ++ after) after tag data_mode read kind in
    let two : Shape new u = shape-of new u k in
    let P : List ℕ → Type 0 = λ x. Reads drive [] (front ++ x) found x in
    let Q : List ℕ → Type 0 = λ x. Reads drive [] (front ++ (x ++ after)) (found ++ (said u ∷ more)) rest in
    let R : Said → Type 0 = λ x. Reads drive [] (front ++ (less_than_sign ∷ (two.name ++ after)))
    (found ++ (x ∷ more)) rest in
    let S : Said → Type 0 = λ x. Reads drive (found ++ x ∷ []) after more rest in
    let T : List ℕ → Type 0 = λ x. Reads drive (found ++ said (tag_at one.name) ∷ []) x more rest in
    let B : Said → Type 0 = λ x. (later : List Said) → drive ((found ++ x ∷ []) ++ later)
    ≡ drive ((found ++ said u ∷ []) ++ later) in
    let C : Said → Type 0 = λ x. (later : List Said)
    → drive ((found ++ said (tag_at one.name) ∷ []) ++ later) ≡ drive ((found ++ x ∷ []) ++ later) in
    subst Q (sym two.is)
    (subst R (sym (two.says after))
    (replaced-local drive front one.name (two.name ++ after) rest found more one.letter
    (letter-over two.name after two.letter) data_mode (two.left after ∙ sym one.left)
    (subst P one.is first)
    (subst T (sym one.left) (subst S one.says next))
    (subst C (two.says after) (subst B one.says blind))))
  where
    letter-over : (name tail : List ℕ) → starts_by is_letter name ≡ true
        → starts_by is_letter (name ++ tail) ≡ true
    letter-over [] tail g = absurd (cc g)
    letter-over (b ∷ name) tail g = g
