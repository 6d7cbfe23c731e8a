-- Tokens are the text, one after another.
use Rattle.std.proofs.Common.{◌≡◌, ℕ, zero, suc, ◌≤◌, ◌==◌, ◌&&◌, Bool, true, false, if◌then◌else◌, List, [], ◌∷◌, ◌++◌, length, drop, arith, refl, ap, ◌∙◌, codes}
use Rattle.css_text.specs.AsciiBytes.{greater_than_sign, hyphen, slash, exclamation_mark}
use Rattle.css_text.specs.Reading.{before, Ends}
use Rattle.css_text.specs.Bytes.{past, starts, starts_by, starts_two}
use Rattle.css_text.specs.Characters.{is_letter}
use Rattle.css_text.proofs.reading.EndsLemmas.{ends-same, ends-nil, ends-drop, ends-ends, ends-cons, ends-tail, length-ends, ends-past}
use Rattle.css_html.specs.declared.modes.Mode.{Mode}
use Rattle.css_html.specs.declared.modes.Mode.TheVariants.{Data, Foreign, Raw, Script, Plaintext}
use Rattle.css_html.specs.declared.marks.ScriptState.{ScriptState}
use Rattle.css_html.specs.declared.marks.ScriptState.TheVariants.{Plain}
use Rattle.css_html.specs.declared.tokenizer.TokenKind.{TokenKind}
use Rattle.css_html.specs.declared.tokenizer.TokenKind.TheVariants as kinds
use Rattle.css_html.specs.Modes.{letters_of}
use Rattle.css_html.specs.Marks.{is_in_name, begins_markup, past_text, ends_comment, from_comment_close, from_cdata_close, begins_end_named, from_end_tag, script_letters, script_step, may_end, from_script_end}
use Rattle.css_html.specs.Attributes.{past_attributes}
use Rattle.css_html.specs.Tokens.{PlacedToken, framed, tag_end, tag_from, close_len, comment_from, is_not_close, up_to_close, begins_letters, begins_cdata, declared_from, closed_from, markup_from, marked_token, raw_token, token_from, next_token, Driver, tokens_after, tokens, text_of, texts_of}
use Rattle.css_html.proofs.Placed.{past_attributes-ends}

-- a token that begins here, and leaves an end of a text
pub record IsPlaced (from text : List ℕ) (t : PlacedToken) : Type 0 where
  pub begins : t.from ≡ from
  pub ends : Ends text t.rest

if-placed : (from text : List ℕ) (k : Bool) {x y : PlacedToken} → IsPlaced from text x
    → IsPlaced from text y → IsPlaced from text (if k then x else y)
if-placed from text true a b = a
if-placed from text false a b = b

-- more text in front of what it is an end of
placed-in : {from text middle : List ℕ} {t : PlacedToken} → Ends text middle
    → IsPlaced from middle t → IsPlaced from text t
placed-in {from = from} {text = text} {middle = middle} {t = t} e p =
    record { begins = p.begins; ends = ends-ends text middle t.rest e p.ends }

framed-placed : (kind : TokenKind) (from inside end : List ℕ) (n : ℕ) → Ends inside end
    → IsPlaced from inside (framed kind from inside end n)
framed-placed kind from inside end n e =
    record { begins = refl; ends = ends-ends inside end (drop n end) e (ends-drop n end) }

if-ends : (b : ℕ) (text rest : List ℕ) (k : Bool) → Ends text rest
    → Ends (b ∷ text) (if k then b ∷ text else rest)
if-ends b text rest true e = ends-same (b ∷ text)
if-ends b text rest false e = ends-cons b text rest e

pub past_text-ends : (text : List ℕ) → Ends text (past_text text)
unfolding past_text
past_text-ends [] = ends-same []
past_text-ends (b ∷ text) = if-ends b text (past_text text) (begins_markup (b ∷ text)) (past_text-ends text)

pub comment_close-ends : (text : List ℕ) → Ends text (from_comment_close text)
unfolding from_comment_close
comment_close-ends [] = ends-same []
comment_close-ends (b ∷ text) =
    if-ends b text (from_comment_close text)
    (ends_comment (b ∷ text)) (comment_close-ends text)

pub cdata_close-ends : (text : List ℕ) → Ends text (from_cdata_close text)
unfolding from_cdata_close
cdata_close-ends [] = ends-same []
cdata_close-ends (b ∷ text) =
    if-ends b text (from_cdata_close text)
    (starts_two 93 93 (b ∷ text) && starts greater_than_sign (drop 1 text)) (cdata_close-ends text)

pub end_tag-ends : (letters text : List ℕ) → Ends text (from_end_tag letters text)
unfolding from_end_tag
end_tag-ends letters [] = ends-same []
end_tag-ends letters (b ∷ text) =
    if-ends b text (from_end_tag letters text) (begins_end_named letters (b ∷ text))
    (end_tag-ends letters text)

pub script_end-ends : (state : ScriptState) (text : List ℕ) → Ends text (from_script_end state text)
unfolding from_script_end
script_end-ends state [] = ends-same []
script_end-ends state (b ∷ text) =
    if-ends b text (from_script_end (script_step state (b ∷ text)) text)
    (may_end state && begins_end_named script_letters (b ∷ text))
    (script_end-ends (script_step state (b ∷ text)) text)

tag_end-placed : (kind : TokenKind) (from name name_end end : List ℕ)
    → IsPlaced from end (tag_end kind from name name_end end)
tag_end-placed kind from name name_end [] = record { begins = refl; ends = ends-same [] }
tag_end-placed kind from name name_end (b ∷ rest) =
    record { begins = refl; ends = ends-tail b rest }

pub tag-placed : (kind : TokenKind) (from name : List ℕ) → IsPlaced from name (tag_from kind from name)
unfolding tag_from
tag-placed kind from name =
    let name_end : List ℕ = past is_in_name name in
    placed-in (ends-ends name name_end (past_attributes name_end) (ends-past is_in_name name)
    (past_attributes-ends name_end))
    (tag_end-placed kind from name name_end (past_attributes name_end))

pub up_to_close-placed : (kind : TokenKind) (from inside : List ℕ)
    → IsPlaced from inside (up_to_close kind from inside)
up_to_close-placed kind from inside =
    framed-placed kind from inside (past is_not_close inside) 1 (ends-past is_not_close inside)

pub comment-placed : (from inside : List ℕ) → IsPlaced from inside (comment_from from inside)
comment-placed from inside =
    if-placed from inside (starts greater_than_sign inside)
    (framed-placed kinds.Comment from inside inside 1 (ends-same inside))
    (if-placed from inside (starts_two hyphen greater_than_sign inside)
    (framed-placed kinds.Comment from inside inside 2 (ends-same inside))
    (framed-placed kinds.Comment from inside (from_comment_close inside)
    (close_len (from_comment_close inside)) (comment_close-ends inside)))

pub declared-placed : (foreign : Bool) (from text : List ℕ)
    → IsPlaced from text (declared_from foreign from text)
unfolding declared_from
declared-placed foreign from text =
    if-placed from text (starts_two hyphen hyphen text)
    (placed-in (ends-drop 2 text) (comment-placed from (drop 2 text)))
    (if-placed from text (begins_letters (codes "doctype") text)
    (up_to_close-placed kinds.Doctype from text)
    (if-placed from text (foreign && begins_cdata text)
    (placed-in (ends-drop 7 text)
    (framed-placed kinds.Cdata from (drop 7 text) (from_cdata_close (drop 7 text)) 3
    (cdata_close-ends (drop 7 text))))
    (up_to_close-placed kinds.Comment from text)))

pub closed-placed : (from text : List ℕ) → IsPlaced from text (closed_from from text)
unfolding closed_from
closed-placed from text =
    if-placed from text (starts_by is_letter text) (tag-placed kinds.EndTag from text)
    (up_to_close-placed
    (if starts greater_than_sign text then kinds.Nothing else kinds.Comment) from text)

pub markup-placed : (foreign : Bool) (from text : List ℕ)
    → IsPlaced from text (markup_from foreign from text)
markup-placed foreign from text =
    if-placed from text (starts_by is_letter text) (tag-placed kinds.StartTag from text)
    (if-placed from text (starts slash text)
    (placed-in (ends-drop 1 text) (closed-placed from (drop 1 text)))
    (if-placed from text (starts exclamation_mark text)
    (placed-in (ends-drop 1 text) (declared-placed foreign from (drop 1 text)))
    (up_to_close-placed kinds.Comment from text)))

pub marked-placed : (foreign : Bool) (b : ℕ) (text : List ℕ)
    → IsPlaced (b ∷ text) text (marked_token foreign b text)
marked-placed foreign b text =
    if-placed (b ∷ text) text (begins_markup (b ∷ text))
    (markup-placed foreign (b ∷ text) text)
    (record { begins = refl; ends = past_text-ends text })

pub same_length : (text : List ℕ) → (length text == length text) ≡ true
same_length text = grind arith

raw-placed : (b : ℕ) (text rest : List ℕ) (k : Bool) → Ends text rest
    → IsPlaced (b ∷ text) text (raw_token (b ∷ text) (if k then b ∷ text else rest))
raw-placed b text rest true e =
    rw (same_length (b ∷ text)) (placed-in (ends-drop 1 text)
    (tag-placed kinds.EndTag (b ∷ text) (drop 1 text)))
raw-placed b text rest false e =
    if-placed (b ∷ text) text (length rest == length (b ∷ text))
    (placed-in (ends-drop 1 text) (tag-placed kinds.EndTag (b ∷ text) (drop 1 text)))
    (record { begins = refl; ends = e })

pub token-placed : (mode : Mode) (b : ℕ) (text : List ℕ)
    → IsPlaced (b ∷ text) text (token_from mode b text)
unfolding token_from from_end_tag from_script_end
token-placed Data b text = marked-placed false b text
token-placed Foreign b text = marked-placed true b text
token-placed (Raw name) b text =
    raw-placed b text (from_end_tag (letters_of name) text)
    (begins_end_named (letters_of name) (b ∷ text)) (end_tag-ends (letters_of name) text)
token-placed Script b text =
    raw-placed b text (from_script_end (script_step Plain (b ∷ text)) text)
    (may_end Plain && begins_end_named script_letters (b ∷ text))
    (script_end-ends (script_step Plain (b ∷ text)) text)
token-placed Plaintext b text = record { begins = refl; ends = ends-nil text }

tiles : (drive : Driver) (n : ℕ) (seen : List PlacedToken) (text : List ℕ) → length text ≤ n
    → texts_of (tokens_after drive n seen text) ≡ text
unfolding next_token
tiles drive zero seen [] h = refl
tiles drive zero seen (b ∷ text) h = absurd (omega arith)
tiles drive (suc n) seen [] h = refl
tiles drive (suc n) seen (b ∷ text) h =
    let t : PlacedToken = token_from (drive seen) b text in
    let placed : IsPlaced (b ∷ text) text t = token-placed (drive seen) b text in
    let less : length t.rest ≤ n = omega (arith, length-ends text t.rest placed.ends) in
    let more : texts_of (tokens_after drive n (seen ++ t ∷ []) t.rest) ≡ t.rest =
    tiles drive n (seen ++ t ∷ []) t.rest less in
    let whole_text : before (b ∷ text) t.rest ++ t.rest ≡ b ∷ text =
    ends-cons b text t.rest placed.ends in
    ap (λ (r : List ℕ). text_of t ++ r) more
    ∙ ap (λ (f : List ℕ). before f t.rest ++ t.rest) placed.begins ∙ whole_text

-- the tokens of a text are the text, whatever the driver
pub tokens-tile : (drive : Driver) (text : List ℕ) → texts_of (tokens drive text) ≡ text
unfolding tokens
tokens-tile drive text = tiles drive (length text) [] text (omega arith)
