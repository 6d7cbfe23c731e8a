-- An attribute put in changes no other token.
use Rattle.std.proofs.Common.{◌≡◌, ℕ, true, false, List, [], ◌∷◌, ◌++◌, Some, refl, sym, ap, subst, ◌∙◌, append_assoc, append-nil}
use Rattle.std.specs.List.{list_all}
use Rattle.css_text.specs.Bytes.{starts_by}
use Rattle.css_text.specs.Characters.{is_letter}
use Rattle.css_html.specs.Marks.{less_than_sign, is_in_name}
use Rattle.css_html.specs.Tokens.{token_from, next_token}
use Rattle.css_html.specs.Written.{written, IsAttributeName}
use Rattle.css_html.specs.Locality.{Said, said, TextDriver, Reads, reads_none, reads_one, tag_at}
use Rattle.css_html.specs.declared.modes.Mode.TheVariants.{Data}
use Rattle.css_html.specs.declared.tokenizer.TokenKind.TheVariants as kinds
use Rattle.css_html.proofs.Written.{puts-first}
use Rattle.css_html.proofs.TokenFrames.{begins-tag, tags-local}

-- one run after another
pub reads-append : (drive : TextDriver) (seen found more : List Said) (text middle rest : List ℕ)
    → Reads drive seen text found middle → Reads drive (seen ++ found) middle more rest
    → Reads drive seen text (found ++ more) rest
reads-append drive seen found more text middle rest (reads_none _ _) r =
    let nil : seen ++ [] ≡ seen = append-nil seen in rw nil at r
reads-append drive seen found more text middle rest (reads_one _ _ _ others t e first) r =
    let shape : (seen ++ said t ∷ []) ++ others ≡ seen ++ (said t ∷ others) =
    append_assoc seen (said t ∷ []) others in
    reads_one seen text rest (others ++ more) t e
    (reads-append drive (seen ++ said t ∷ []) others more t.rest middle rest first (rw (← shape) at r))

-- a run after what the driver takes for the same
pub reads-blind : (drive : TextDriver) (seen other found : List Said) (text rest : List ℕ)
    → ((later : List Said) → drive (seen ++ later) ≡ drive (other ++ later))
    → Reads drive seen text found rest → Reads drive other text found rest
reads-blind drive seen other found text rest same (reads_none _ _) = reads_none other text
reads-blind drive seen other found text rest same (reads_one _ _ _ more t e r) =
    let mode : drive seen ≡ drive other =
    ap drive (sym (append-nil seen)) ∙ same [] ∙ ap drive (append-nil other) in
    reads_one other text rest more t (rw mode at e)
    (reads-blind drive (seen ++ said t ∷ []) (other ++ said t ∷ []) more t.rest rest
    (λ later. ap drive (append_assoc seen (said t ∷ []) later) ∙ same (said t ∷ later)
    ∙ sym (ap drive (append_assoc other (said t ∷ []) later))) r)

-- the token at a `<` before a letter
pub tag-read : (text : List ℕ) → starts_by is_letter text ≡ true
    → next_token Data (less_than_sign ∷ text) ≡ Some (tag_at text, (tag_at text).rest)
unfolding next_token token_from
tag-read text h = rw (begins-tag text h, h) refl

pub letter-append : (tag tail : List ℕ) → starts_by is_letter tag ≡ true
    → starts_by is_letter (tag ++ tail) ≡ true
letter-append [] tail h = absurd (cc h)
letter-append (b ∷ tag) tail h = h

pub replaced-local : (drive : TextDriver) (front old new rest : List ℕ) (found more : List Said)
    → starts_by is_letter old ≡ true → starts_by is_letter new ≡ true → drive found ≡ Data
    → (tag_at new).rest ≡ (tag_at old).rest
    → Reads drive [] (front ++ (less_than_sign ∷ old)) found (less_than_sign ∷ old)
    → Reads drive (found ++ said (tag_at old) ∷ []) (tag_at old).rest more rest
    → ((later : List Said) → drive ((found ++ said (tag_at old) ∷ []) ++ later)
    ≡ drive ((found ++ said (tag_at new) ∷ []) ++ later))
    → Reads drive [] (front ++ (less_than_sign ∷ new)) (found ++ (said (tag_at new) ∷ more)) rest
replaced-local drive front old new rest found more a b data_mode same first after blind =
    let later : Reads drive (found ++ said (tag_at new) ∷ []) (tag_at new).rest more rest =
    let P : List ℕ → Type 0 = λ x. Reads drive (found ++ said (tag_at new) ∷ []) x more rest in
    subst P (sym same) (reads-blind drive (found ++ said (tag_at old) ∷ [])
    (found ++ said (tag_at new) ∷ []) more (tag_at old).rest rest blind after) in
    let next : next_token (drive found) (less_than_sign ∷ new) ≡ Some (tag_at new, (tag_at new).rest) =
    rw data_mode (tag-read new b) in
    reads-append drive [] found (said (tag_at new) ∷ more) (front ++ (less_than_sign ∷ new))
    (less_than_sign ∷ new) rest (tags-local drive front old new found a b first)
    (reads_one found (less_than_sign ∷ new) rest more (tag_at new) next later)

pub inserted-local : (drive : TextDriver) (front tag name value tail rest : List ℕ)
    (found more : List Said) → starts_by is_letter tag ≡ true → list_all is_in_name tag ≡ true
    → starts_by is_in_name tail ≡ false → IsAttributeName name → drive found ≡ Data
    → Reads drive [] (front ++ (less_than_sign ∷ (tag ++ tail))) found (less_than_sign ∷ (tag ++ tail))
    → Reads drive (found ++ said (tag_at (tag ++ tail)) ∷ []) (tag_at (tag ++ tail)).rest more rest
    → ((later : List Said) → drive ((found ++ said (tag_at (tag ++ tail)) ∷ []) ++ later)
    ≡ drive ((found ++ said (tag_at (tag ++ (written name value ++ tail))) ∷ []) ++ later))
    → Reads drive [] (front ++ (less_than_sign ∷ (tag ++ (written name value ++ tail))))
    (found ++ (said (tag_at (tag ++ (written name value ++ tail))) ∷ more)) rest
inserted-local drive front tag name value tail rest found more letter plain ends named data_mode first after blind =
    let old : List ℕ = tag ++ tail in
    let new : List ℕ = tag ++ (written name value ++ tail) in
    let put = puts-first kinds.StartTag tag name value tail plain ends named in
    replaced-local drive front old new rest found more (letter-append tag tail letter)
    (letter-append tag (written name value ++ tail) letter) data_mode
    (put.2.kind_and_rest (less_than_sign ∷ new) (less_than_sign ∷ old)).rest first after blind
