-- Tags replaced, and texts put in and taken out, change no other token.
use Rattle.std.proofs.Common.{◌≡◌, ℕ, ◌<◌, true, List, [], ◌∷◌, ◌++◌, length, take, codes, Some, refl, sym, ap, subst, ◌∙◌, append_assoc}
use Rattle.css_text.specs.Bytes.{starts_by}
use Rattle.css_text.specs.Characters.{is_letter}
use Rattle.css_text.specs.Reading.{each, before}
use Rattle.css_text.proofs.reading.EndsLemmas.{before-append}
use Rattle.css_html.specs.Marks.{less_than_sign, begins_end_named, past_letters, from_end_tag}
use Rattle.css_html.specs.Modes.{letters_of}
use Rattle.css_html.specs.Attributes.{next_attribute, past_attributes}
use Rattle.css_html.specs.Tokens.{PlacedToken, tag_from, token_from, next_token, with_rest}
use Rattle.css_html.specs.Written.{HasNoEnd}
use Rattle.css_html.specs.Locality.{Said, said, TextDriver, Reads, reads_none, reads_one, tag_at, raw_text, style_element, style_tokens, Edited, edited_no_more, edited_tag, edited_text, edited_put_in, edited_out}
use Rattle.css_html.specs.declared.modes.RawName.TheVariants.{Style}
use Rattle.css_html.specs.declared.modes.Mode.TheVariants.{Data, Raw}
use Rattle.css_html.specs.declared.tokenizer.TokenKind.{TokenKind}
use Rattle.css_html.specs.declared.tokenizer.TokenKind.TheVariants as kinds
use Rattle.css_html.proofs.TokenFrames.{tags-local, tags-local-after, raw-tag}
use Rattle.css_html.proofs.Inserted.{reads-append, reads-blind, tag-read}
use Rattle.css_html.proofs.Texts.{text-read}

pub put_in-local : (drive : TextDriver) (front put tag rest : List ℕ) (found middle more : List Said)
    → starts_by is_letter tag ≡ true → starts_by is_letter put ≡ true
    → Reads drive [] (front ++ (less_than_sign ∷ tag)) found (less_than_sign ∷ tag)
    → Reads drive found (less_than_sign ∷ (put ++ (less_than_sign ∷ tag))) middle (less_than_sign ∷ tag)
    → Reads drive found (less_than_sign ∷ tag) more rest
    → ((later : List Said) → drive (found ++ later) ≡ drive ((found ++ middle) ++ later))
    → Reads drive [] (front ++ (less_than_sign ∷ (put ++ (less_than_sign ∷ tag))))
    ((found ++ middle) ++ more) rest
put_in-local drive front put tag rest found middle more letter other first inner after blind =
    let new : List ℕ = put ++ (less_than_sign ∷ tag) in
    let page : List ℕ = front ++ (less_than_sign ∷ new) in
    let before_it : Reads drive [] page found (less_than_sign ∷ new) =
    tags-local drive front tag new found letter (letter-over put (less_than_sign ∷ tag) other) first in
    let up_to : Reads drive [] page (found ++ middle) (less_than_sign ∷ tag) =
    reads-append drive [] found middle page (less_than_sign ∷ new) (less_than_sign ∷ tag) before_it inner in
    reads-append drive [] (found ++ middle) more page (less_than_sign ∷ tag) rest up_to
    (reads-blind drive found (found ++ middle) more (less_than_sign ∷ tag) rest blind after)
  where
    letter-over : (put tail : List ℕ) → starts_by is_letter put ≡ true
        → starts_by is_letter (put ++ tail) ≡ true
    letter-over [] tail h = absurd (cc h)
    letter-over (b ∷ put) tail h = h

pub taken_out-local : (drive : TextDriver) (front put tag rest : List ℕ) (found middle more : List Said)
    → starts_by is_letter tag ≡ true → starts_by is_letter put ≡ true
    → Reads drive [] (front ++ (less_than_sign ∷ (put ++ (less_than_sign ∷ tag)))) found
    (less_than_sign ∷ (put ++ (less_than_sign ∷ tag)))
    → Reads drive (found ++ middle) (less_than_sign ∷ tag) more rest
    → ((later : List Said) → drive (found ++ later) ≡ drive ((found ++ middle) ++ later))
    → Reads drive [] (front ++ (less_than_sign ∷ tag)) (found ++ more) rest
taken_out-local drive front put tag rest found middle more letter other first after blind =
    let old : List ℕ = put ++ (less_than_sign ∷ tag) in
    reads-append drive [] found more (front ++ (less_than_sign ∷ tag)) (less_than_sign ∷ tag) rest
    (tags-local drive front old tag found (letter-over put (less_than_sign ∷ tag) other) letter first)
    (reads-blind drive (found ++ middle) found more (less_than_sign ∷ tag) rest
    (λ later. sym (blind later)) after)
  where
    letter-over : (put tail : List ℕ) → starts_by is_letter put ≡ true
        → starts_by is_letter (put ++ tail) ≡ true
    letter-over [] tail h = absurd (cc h)
    letter-over (b ∷ put) tail h = h

-- ---- a `style` element

-- a tag without attributes whose name is `style`
abbrev style_tag : TokenKind → (front rest : List ℕ) → PlacedToken
style_tag kind front rest = record {
  kind = kind;
  from = front ++ rest;
  inside = codes "style>" ++ rest;
  inside_end = codes ">" ++ rest;
  rest = rest;
}

style_tag-is : (kind : TokenKind) (front rest : List ℕ)
    → tag_from kind (front ++ rest) (codes "style>" ++ rest) ≡ style_tag kind front rest
unfolding tag_from past_attributes next_attribute each
style_tag-is kind front rest = refl

style_tag-said : (kind : TokenKind) (front rest : List ℕ)
    → said (style_tag kind front rest) ≡ record { kind = kind; text = front; inside = codes "style" }
style_tag-said kind front rest =
    ap (λ (x : List ℕ). record {
      kind = kind;
      text = x;
      inside = before (codes "style>" ++ rest) (codes ">" ++ rest);
    }) (before-append front rest)
    ∙ ap (λ (x : List ℕ). record { kind = kind; text = front; inside = x })
    (before-append (codes "style") (codes ">" ++ rest))

raw_text-said : (text end : List ℕ)
    → said (raw_text text end) ≡ record { kind = kinds.Text; text = text; inside = text }
raw_text-said text end =
    ap (λ (x : List ℕ). record { kind = kinds.Text; text = x; inside = x }) (before-append text end)

-- a token that is read and what it says, before others
read-as : (drive : TextDriver) (seen more : List Said) (text rest : List ℕ) (t : PlacedToken) (x : Said)
    → next_token (drive seen) text ≡ Some (t, t.rest) → said t ≡ x
    → Reads drive (seen ++ x ∷ []) t.rest more rest → Reads drive seen text (x ∷ more) rest
read-as drive seen more text rest t x e same r =
    let P : Said → Type 0 = λ y. Reads drive (seen ++ y ∷ []) t.rest more rest in
    let Q : Said → Type 0 = λ y. Reads drive seen text (y ∷ more) rest in
    subst Q same (reads_one seen text rest more t e (subst P (sym same) r))

style_end-read : (rest : List ℕ) → next_token (Raw Style) (codes "</style>" ++ rest)
    ≡ Some (style_tag kinds.EndTag (codes "</style>") rest, rest)
unfolding next_token token_from from_end_tag past_letters
style_end-read rest =
    ap (λ (t : PlacedToken). Some (with_rest t))
    (raw-tag (codes "</style>" ++ rest) ∙ style_tag-is kinds.EndTag (codes "</style>") rest)

style_begin-read : (rest : List ℕ) → next_token Data (codes "<style>" ++ rest)
    ≡ Some (style_tag kinds.StartTag (codes "<style>") rest, rest)
style_begin-read rest =
    tag-read (codes "style>" ++ rest) refl
    ∙ ap (λ (t : PlacedToken). Some (with_rest t)) (style_tag-is kinds.StartTag (codes "<style>") rest)

style_end-named : (rest : List ℕ)
    → begins_end_named (letters_of Style) (codes "</style>" ++ rest) ≡ true
unfolding past_letters
style_end-named rest = refl

pub style-read : (drive : TextDriver) (seen : List Said) (text rest : List ℕ) → 0 < length text
    → HasNoEnd (letters_of Style) text → drive seen ≡ Data
    → drive (seen ++ take 1 (style_tokens text)) ≡ Raw Style
    → drive (seen ++ take 2 (style_tokens text)) ≡ Raw Style
    → Reads drive seen (style_element text ++ rest) (style_tokens text) rest
style-read drive seen text rest l none data_mode raw_mode end_mode =
    let start : Said = record { kind = kinds.StartTag; text = codes "<style>"; inside = codes "style" } in
    let inner : Said = record { kind = kinds.Text; text = text; inside = text } in
    let last : Said = record { kind = kinds.EndTag; text = codes "</style>"; inside = codes "style" } in
    let end : List ℕ = codes "</style>" ++ rest in
    let one : List Said = seen ++ start ∷ [] in
    let two : List Said = one ++ inner ∷ [] in
    let both : seen ++ (start ∷ inner ∷ []) ≡ two = sym (append_assoc seen (start ∷ []) (inner ∷ [])) in
    let third : Reads drive two end (last ∷ []) rest =
    read-as drive two [] end rest (style_tag kinds.EndTag (codes "</style>") rest) last
    (rw (sym (ap drive both) ∙ end_mode) (style_end-read rest))
    (style_tag-said kinds.EndTag (codes "</style>") rest) (reads_none (two ++ last ∷ []) rest) in
    let second : Reads drive one (text ++ end) (inner ∷ last ∷ []) rest =
    read-as drive one (last ∷ []) (text ++ end) rest (raw_text text end) inner
    (rw raw_mode (text-read Style text end l none (style_end-named rest)))
    (raw_text-said text end) third in
    let first : Reads drive seen (codes "<style>" ++ (text ++ end)) (style_tokens text) rest =
    read-as drive seen (inner ∷ last ∷ []) (codes "<style>" ++ (text ++ end)) rest
    (style_tag kinds.StartTag (codes "<style>") (text ++ end)) start
    (rw data_mode (style_begin-read (text ++ end)))
    (style_tag-said kinds.StartTag (codes "<style>") (text ++ end)) second in
    let P : List ℕ → Type 0 = λ x. Reads drive seen (codes "<style>" ++ x) (style_tokens text) rest in
    subst P (sym (append_assoc text (codes "</style>") rest)) first

-- ---- lists of edits

pub edits-local : (drive : TextDriver) (seen : List Said) (old new : List ℕ)
    (found changed : List Said) (rest : List ℕ) → Edited drive seen old new found changed rest
    → Reads drive seen old found rest × Reads drive seen new changed rest
edits-local drive seen old new found changed rest (edited_no_more _ _ _ _ r) = (r, r)
edits-local drive seen old new found changed rest
    (edited_tag _ front_tokens more others front tag other _ a b data_mode first blind e) =
    let now : List Said = seen ++ front_tokens in
    let both = edits-local drive (now ++ said (tag_at tag) ∷ []) (tag_at tag).rest (tag_at other).rest
    more others rest e in (
      reads-append drive seen front_tokens (said (tag_at tag) ∷ more) (front ++ (less_than_sign ∷ tag))
          (less_than_sign ∷ tag) rest first
          (reads_one now (less_than_sign ∷ tag) rest more (tag_at tag) (rw data_mode (tag-read tag a))
          both.0),
      reads-append drive seen front_tokens (said (tag_at other) ∷ others)
          (front ++ (less_than_sign ∷ other)) (less_than_sign ∷ other) rest
          (tags-local-after drive seen front tag other front_tokens a b first)
          (reads_one now (less_than_sign ∷ other) rest others (tag_at other)
          (rw data_mode (tag-read other b))
          (reads-blind drive (now ++ said (tag_at tag) ∷ []) (now ++ said (tag_at other) ∷ []) others
          (tag_at other).rest rest blind both.1)),
    )
edits-local drive seen old new found changed rest
    (edited_text _ more others text other end new_end _ name l k none no_end ends new_ends raw_mode blind e) =
    let both = edits-local drive (seen ++ said (raw_text text end) ∷ []) end new_end more others rest e in (
      reads_one seen (text ++ end) rest more (raw_text text end)
          (rw raw_mode (text-read name text end l none ends)) both.0,
      reads_one seen (other ++ new_end) rest others (raw_text other new_end)
          (rw raw_mode (text-read name other new_end k no_end new_ends))
          (reads-blind drive (seen ++ said (raw_text text end) ∷ [])
          (seen ++ said (raw_text other new_end) ∷ []) others new_end rest blind both.1),
    )
edits-local drive seen old new found changed rest
    (edited_put_in _ front_tokens put_tokens more others front put tag other _ a b first inner blind e) =
    let now : List Said = seen ++ front_tokens in
    let both = edits-local drive now (less_than_sign ∷ tag) (less_than_sign ∷ other) more others rest e in
    let page : List ℕ = less_than_sign ∷ (put ++ (less_than_sign ∷ other)) in (
      reads-append drive seen front_tokens more (front ++ (less_than_sign ∷ tag)) (less_than_sign ∷ tag)
          rest first both.0,
      reads-append drive seen front_tokens (put_tokens ++ others) (front ++ page) page rest
          (tags-local-after drive seen front tag (put ++ (less_than_sign ∷ other)) front_tokens a b first)
          (reads-append drive now put_tokens others page (less_than_sign ∷ other) rest inner
          (reads-blind drive now (now ++ put_tokens) others (less_than_sign ∷ other) rest blind both.1)),
    )
edits-local drive seen old new found changed rest
    (edited_out _ front_tokens put_tokens more others front put tag other _ a b first inner blind e) =
    let now : List Said = seen ++ front_tokens in
    let both = edits-local drive (now ++ put_tokens) (less_than_sign ∷ tag) (less_than_sign ∷ other) more
    others rest e in
    let page : List ℕ = less_than_sign ∷ (put ++ (less_than_sign ∷ tag)) in (
      reads-append drive seen front_tokens (put_tokens ++ more) (front ++ page) page rest first
          (reads-append drive now put_tokens more page (less_than_sign ∷ tag) rest inner both.0),
      reads-append drive seen front_tokens others (front ++ (less_than_sign ∷ other))
          (less_than_sign ∷ other) rest
          (tags-local-after drive seen front (put ++ (less_than_sign ∷ tag)) other front_tokens a b first)
          (reads-blind drive (now ++ put_tokens) now others (less_than_sign ∷ other) rest blind both.1),
    )
