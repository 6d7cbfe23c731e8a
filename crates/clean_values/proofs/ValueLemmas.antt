-- What tests of UTF-8 say, tokens that are written in front of others, and words without a backslash. Serves `text_in`,
-- `written_tokens`, `urls` and `is_name`.
use Rattle.std.proofs.Common.{◌≡◌, ◌∙◌, ℕ, suc, Bool, true, false, not, ◌==◌, ◌||◌, ◌&&◌, if◌then◌else◌, List, [], ◌∷◌, ◌++◌, length, refl, sym, ap, rules, eqb-true, eq-eqb, ◌⊎◌, inl, inr, Option, Some, None}
use Rattle.std.specs.Char.{to_ascii_uppercase}
use Rattle.std.specs.Str.{IsUtf8, is_utf8}
use Rattle.std.proofs.lemmas.Str.{IsUtf8-from_is_utf8, is_utf8-from_IsUtf8}
use Rattle.std.specs.Option.{option_map}
use Rattle.std.specs.List.{flat_map}
use Rattle.std.proofs.lemmas.List.{append_assoc, append-nil}
use Rattle.std.proofs.lemmas.Grind.{flat_map-append}
use Rattle.css_text.specs.AsciiBytes.{backslash}
use Rattle.css_text.specs.Bytes.{starts_by}
use Rattle.css_text.proofs.reading.EachLemmas.{option_cases}
use Rattle.css_syntax.specs.Tokens.{spells, past_letter, is_either, is_newline, escaped_char, past_escape}
use Rattle.css_syntax.proofs.RunSteps.{spells-some, spells-none, spells-end}
use Rattle.clean_values.specs.Values.{PieceText, piece_text, then_written, has_backslash}
use Rattle.css_syntax.specs.declared.tokenizer.TokenKind.{TokenKind}
use Rattle.css_syntax.specs.declared.tokenizer.TokenKind.TheVariants as kinds
use Rattle.clean_values.specs.Urls.{urls_text, url_by, url_spelled, string_url}

pub utf8_true : (bytes : List ℕ) → IsUtf8 bytes → is_utf8 bytes ≡ true
utf8_true bytes h = is_utf8-from_IsUtf8 bytes h

not_true : (b : Bool) → ¬ (b ≡ true) → b ≡ false
not_true true h = absurd (h refl)
not_true false h = refl

pub utf8_false : (bytes : List ℕ) → ¬ (IsUtf8 bytes) → is_utf8 bytes ≡ false
utf8_false bytes h = not_true (is_utf8 bytes) (λ e. h (IsUtf8-from_is_utf8 bytes e))

-- a piece in front of what is written of the tokens that follow
pub written-more : (front : List ℕ) (piece : PieceText) (more : Option (List ℕ))
    → option_map (λ text. front ++ text) (then_written (Some piece) more)
    ≡ option_map (λ text. (front ++ piece_text piece) ++ text) more
written-more front piece None = refl
written-more front piece (Some more) = ap Some (sym (append_assoc front (piece_text piece) more))

-- urls in front of others
pub urls-more : (front now : List ℕ) (one more : List (List ℕ)) → now ≡ front ++ urls_text one
    → front ++ urls_text (one ++ more) ≡ now ++ urls_text more
urls-more front now one more e =
    ap (λ t. front ++ t) (flat_map-append (λ (url : List ℕ). url ++ 0 ∷ []) one more)
    ∙ sym (append_assoc front (urls_text one) (urls_text more))
    ∙ ap (λ t. t ++ urls_text more) (sym e)

-- ---- the urls of tokens, by their kinds

pub by-url : (strings : Bool) (kind : TokenKind) (inside : List ℕ) → kind ≡ kinds.Url
    → url_by strings kind inside ≡ url_spelled false inside
by-url strings kind inside e = ap (λ k. url_by strings k inside) e

pub by-string : (strings : Bool) (kind : TokenKind) (inside : List ℕ) → kind ≡ kinds.String
    → url_by strings kind inside ≡ string_url strings inside
by-string strings kind inside e = ap (λ k. url_by strings k inside) e

pub by-other : (strings : Bool) (kind : TokenKind) (inside : List ℕ) → ¬ (kind ≡ kinds.Url)
    → ¬ (kind ≡ kinds.String) → url_by strings kind inside ≡ []
by-other strings kinds.Whitespace inside u s = refl
by-other strings kinds.Comment inside u s = refl
by-other strings kinds.Ident inside u s = refl
by-other strings kinds.Function inside u s = refl
by-other strings kinds.AtKeyword inside u s = refl
by-other strings kinds.Hash inside u s = refl
by-other strings kinds.IdHash inside u s = refl
by-other strings kinds.String inside u s = absurd (s refl)
by-other strings kinds.BadString inside u s = refl
by-other strings kinds.Url inside u s = absurd (u refl)
by-other strings kinds.BadUrl inside u s = refl
by-other strings kinds.Number inside u s = refl
by-other strings kinds.Percentage inside u s = refl
by-other strings kinds.Dimension inside u s = refl
by-other strings kinds.Cdo inside u s = refl
by-other strings kinds.Cdc inside u s = refl
by-other strings kinds.Delim inside u s = refl

-- urls that are the same, after these bytes
pub urls-same : (front now : List ℕ) (one other : List (List ℕ)) → one ≡ other
    → now ≡ front ++ urls_text one → now ≡ front ++ urls_text other
urls-same front now one other e f = f ∙ ap (λ u. front ++ urls_text u) e

pub urls-none : (front : List ℕ) (one : List (List ℕ)) → one ≡ [] → front ≡ front ++ urls_text one
urls-none front one e = sym (ap (λ u. front ++ urls_text u) e ∙ append-nil front)

-- ---- words without a backslash

neither-left : (a b : Bool) → (a || b) ≡ false → a ≡ false
neither-left true b e = e
neither-left false b e = refl

neither-right : (a b : Bool) → (a || b) ≡ false → b ≡ false
neither-right true b e = absurd (search rules)
neither-right false b e = e

abbrev rest_of : Option (List ℕ) → List ℕ
rest_of None = []
rest_of (Some rest) = rest

-- what is left after a letter, where there is no escape
past-letter : (k m f g : Bool) (word other rest : List ℕ) → m ≡ false
    → (if k then Some word else (if (m && f) && g then Some other else None)) ≡ Some rest → word ≡ rest
past-letter true m f g word other rest n e = ap rest_of e
past-letter false true f g word other rest n e = absurd (search rules)
past-letter false false f g word other rest n e = absurd (search rules)

past-plain : (c up b : ℕ) (word rest : List ℕ) → (b == backslash) ≡ false
    → past_letter c up (b ∷ word) ≡ Some rest → word ≡ rest
unfolding past_letter
past-plain c up b word rest n e =
    past-letter (is_either c up b) (b == backslash) (not (starts_by is_newline word))
    (is_either c up (escaped_char word)) word (past_escape word) rest n e

past-none : (c up : ℕ) → past_letter c up [] ≡ None
unfolding past_letter
past-none c up = refl

-- the same of a longer keyword and a longer word, where it holds of these
plain-step : (c b : ℕ) (name word : List ℕ) → (b == backslash) ≡ false → spells (c ∷ name) (b ∷ word) ≡ true
    → (spells name word ≡ true → length name ≡ length word) → length (c ∷ name) ≡ length (b ∷ word)
plain-step c b name word n e more =
    by (option_cases (past_letter c (to_ascii_uppercase c) (b ∷ word)))
  where
    by : (past_letter c (to_ascii_uppercase c) (b ∷ word) ≡ None)
        ⊎ ((x : List ℕ) × (past_letter c (to_ascii_uppercase c) (b ∷ word) ≡ Some x))
        → length (c ∷ name) ≡ length (b ∷ word)
    by (inl f) =
        absurd
        (let no : spells (c ∷ name) (b ∷ word) ≡ false = spells-none c (to_ascii_uppercase c) name (b ∷ word) refl f in
        cc)
    by (inr x) =
        let same : word ≡ x.0 = past-plain c (to_ascii_uppercase c) b word x.0 n x.1 in
        ap suc (more (ap (spells name) same
        ∙ sym (spells-some c (to_ascii_uppercase c) name (b ∷ word) x.0 refl x.1) ∙ e))

-- a keyword is as long as a word without a backslash that spells it
plain-length : (name word : List ℕ) → has_backslash word ≡ false → spells name word ≡ true
    → length name ≡ length word
plain-length [] word n e = sym (eqb-true (length word) 0 (sym (spells-end word) ∙ e))
plain-length (c ∷ name) [] n e =
    absurd
    (let no : spells (c ∷ name) [] ≡ false = spells-none c (to_ascii_uppercase c) name [] refl (past-none c (to_ascii_uppercase c))
    in cc)
plain-length (c ∷ name) (b ∷ word) n e =
    plain-step c b name word (neither-left (b == backslash) (has_backslash word) n) e
    (plain-length name word (neither-right (b == backslash) (has_backslash word) n))

pub plain_word : (a : Bool) → not a ≡ true → a ≡ false
plain_word true e = sym e
plain_word false e = refl

pub not_spelled : (name word : List ℕ) → has_backslash word ≡ false → (length name == length word) ≡ false
    → spells name word ≡ false
not_spelled name word n d = by (spells name word) refl
  where
    by : (k : Bool) → spells name word ≡ k → spells name word ≡ false
    by true e =
        absurd
        (let same : (length name == length word) ≡ true = eq-eqb (length name) (length word) (plain-length name word n e)
        in cc)
    by false e = e
