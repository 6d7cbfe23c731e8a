-- A raw text put in place of another changes no other token.
use Rattle.std.proofs.Common.{◌≡◌, ℕ, ◌<◌, List, [], ◌∷◌, ◌++◌, length, Some, true, arith, sym, ap, subst, ◌∙◌, length-append}
use Rattle.css_text.specs.Bytes.{starts_by}
use Rattle.css_text.specs.Characters.{is_letter}
use Rattle.css_html.specs.Marks.{less_than_sign, begins_end_named}
use Rattle.css_html.specs.Modes.{letters_of}
use Rattle.css_html.specs.Tokens.{PlacedToken, raw_token, token_from, next_token, with_rest}
use Rattle.css_html.specs.Written.{HasNoEnd}
use Rattle.css_html.specs.Locality.{Said, said, TextDriver, Reads, reads_one, tag_at, raw_text}
use Rattle.css_html.specs.declared.modes.RawName.{RawName}
use Rattle.css_html.specs.declared.modes.Mode.TheVariants.{Data, Raw}
use Rattle.css_html.specs.declared.tokenizer.TokenKind.TheVariants as kinds
use Rattle.css_html.proofs.Raw.{raw-itself}
use Rattle.css_html.proofs.Closed.{SameTag, tag-closed}
use Rattle.css_html.proofs.TokenFrames.{raw-whole, tags-local}
use Rattle.css_html.proofs.Inserted.{reads-append, reads-blind, tag-read, letter-append}

pub text-read : (name : RawName) (text end : List ℕ) → 0 < length text → HasNoEnd (letters_of name) text
    → begins_end_named (letters_of name) end ≡ true
    → next_token (Raw name) (text ++ end) ≡ Some (raw_text text end, end)
unfolding next_token token_from
text-read name [] end l none ends = absurd (omega arith)
text-read name (b ∷ text) end l none ends =
    ap (λ (e : List ℕ). Some (with_rest (raw_token (b ∷ (text ++ end)) e)))
    (raw-itself name (b ∷ text) end none ends)
    ∙ ap (λ (t : PlacedToken). Some (t, t.rest))
    (raw-whole b (text ++ end) end (omega (arith, length-append text end)))

pub texts-local : (drive : TextDriver) (front tag text other end rest : List ℕ)
    (found more : List Said) (name : RawName) → starts_by is_letter tag ≡ true
    → 0 < length text → 0 < length other → (tag_at (tag ++ (text ++ end))).rest ≡ text ++ end
    → drive found ≡ Data → drive (found ++ said (tag_at (tag ++ (text ++ end))) ∷ []) ≡ Raw name
    → HasNoEnd (letters_of name) other → begins_end_named (letters_of name) end ≡ true
    → Reads drive [] (front ++ (less_than_sign ∷ (tag ++ (text ++ end)))) found
    (less_than_sign ∷ (tag ++ (text ++ end)))
    → Reads drive ((found ++ said (tag_at (tag ++ (text ++ end))) ∷ []) ++ said (raw_text text end) ∷ [])
    end more rest
    → ((later : List Said)
    → drive (((found ++ said (tag_at (tag ++ (text ++ end))) ∷ []) ++ said (raw_text text end) ∷ []) ++ later)
    ≡ drive (((found ++ said (tag_at (tag ++ (text ++ end))) ∷ []) ++ said (raw_text other end) ∷ []) ++ later))
    → Reads drive [] (front ++ (less_than_sign ∷ (tag ++ (other ++ end))))
    (found ++ (said (tag_at (tag ++ (text ++ end))) ∷ said (raw_text other end) ∷ more)) rest
texts-local drive front tag text other end rest found more name letter l k closes data_mode raw_mode none ends first after blind =
    let old : List ℕ = tag ++ (text ++ end) in
    let new : List ℕ = tag ++ (other ++ end) in
    let tag_said : Said = said (tag_at old) in
    let a = letter-append tag (text ++ end) letter in
    let b = letter-append tag (other ++ end) letter in
    let few : 0 < length (text ++ end) = omega (arith, l, length-append text end) in
    let same : SameTag (text ++ end) (other ++ end) (tag_at old) (tag_at new) =
    tag-closed (text ++ end) (other ++ end) kinds.StartTag (less_than_sign ∷ tag) tag few closes in
    let later : Reads drive ((found ++ tag_said ∷ []) ++ said (raw_text other end) ∷ []) end more rest =
    reads-blind drive ((found ++ tag_said ∷ []) ++ said (raw_text text end) ∷ [])
    ((found ++ tag_said ∷ []) ++ said (raw_text other end) ∷ []) more end rest blind after in
    let of_text : next_token (drive (found ++ tag_said ∷ [])) (other ++ end) ≡ Some (raw_text other end, end) =
    rw raw_mode (text-read name other end k none ends) in
    let from_text : Reads drive (found ++ tag_said ∷ []) (other ++ end) (said (raw_text other end) ∷ more) rest =
    reads_one (found ++ tag_said ∷ []) (other ++ end) rest more (raw_text other end) of_text later in
    let P : Said → Type 0 =
    λ x. Reads drive (found ++ x ∷ []) (other ++ end) (said (raw_text other end) ∷ more) rest in
    let Q : List ℕ → Type 0 =
    λ x. Reads drive (found ++ said (tag_at new) ∷ []) x (said (raw_text other end) ∷ more) rest in
    let after_tag : Reads drive (found ++ said (tag_at new) ∷ []) (tag_at new).rest
    (said (raw_text other end) ∷ more) rest =
    subst Q (sym same.left) (subst P same.says from_text) in
    let of_tag : next_token (drive found) (less_than_sign ∷ new) ≡ Some (tag_at new, (tag_at new).rest) =
    rw data_mode (tag-read new b) in
    let R : Said → Type 0 =
    λ x. Reads drive found (less_than_sign ∷ new) (x ∷ said (raw_text other end) ∷ more) rest in
    reads-append drive [] found (tag_said ∷ said (raw_text other end) ∷ more)
    (front ++ (less_than_sign ∷ new)) (less_than_sign ∷ new) rest
    (tags-local drive front old new found a b first)
    (subst R (sym same.says) (reads_one found (less_than_sign ∷ new) rest
    (said (raw_text other end) ∷ more) (tag_at new) of_tag after_tag))
