-- Raw text before an end tag.
use Rattle.std.proofs.Common.{◌≡◌, ℕ, ◌==◌, ◌&&◌, Bool, true, false, not, if◌then◌else◌, List, [], ◌∷◌, ◌++◌, None, arith, refl, sym, ap}
use Rattle.std.specs.List.{list_all}
use Rattle.std.specs.Char.{to_ascii_lowercase}
use Rattle.std.proofs.lemmas.Bool.{and_parts}
use Rattle.css_text.specs.AsciiBytes.{slash}
use Rattle.css_html.specs.Marks.{less_than_sign, past_letters, name_ends, begins_end_named, from_end_tag}
use Rattle.css_html.specs.Modes.{letters_of}
use Rattle.css_html.specs.Written.{HasNoEnd}
use Rattle.css_html.specs.declared.modes.RawName.{RawName}
use Rattle.css_html.specs.declared.modes.RawName.TheVariants.{Title, Textarea, Style, Xmp, Iframe, Noembed, Noframes, Noscript}

-- not `<`
abbrev pub is_no_mark : ℕ → Bool
is_no_mark b = not (less_than_sign == b)

pub letters-plain : (name : RawName) → list_all is_no_mark (letters_of name) ≡ true
letters-plain Title = refl
letters-plain Textarea = refl
letters-plain Style = refl
letters-plain Xmp = refl
letters-plain Iframe = refl
letters-plain Noembed = refl
letters-plain Noframes = refl
letters-plain Noscript = refl

pub not_so : (k : Bool) → not k ≡ true → k ≡ false
not_so true e = sym e
not_so false e = refl

-- a name is not read into a `<` that follows
pub letters-over : (letters text rest : List ℕ) → list_all is_no_mark letters ≡ true
    → name_ends (past_letters letters (text ++ (less_than_sign ∷ rest)))
    ≡ name_ends (past_letters letters text)
unfolding past_letters
letters-over [] [] rest h = refl
letters-over [] (b ∷ text) rest h = refl
letters-over (c ∷ letters) [] rest h =
    let k = and_parts (is_no_mark c) (list_all is_no_mark letters) h in
    rw (not_so (less_than_sign == c) k.0) refl
letters-over (c ∷ letters) (b ∷ text) rest h =
    let k = and_parts (is_no_mark c) (list_all is_no_mark letters) h in
    by (to_ascii_lowercase b == c) (letters-over letters text rest k.1)
  where
    by : (t : Bool)
        → name_ends (past_letters letters (text ++ (less_than_sign ∷ rest)))
        ≡ name_ends (past_letters letters text)
        → name_ends (if t then past_letters letters (text ++ (less_than_sign ∷ rest)) else None)
        ≡ name_ends (if t then past_letters letters text else None)
    by true e = e
    by false e = refl

and-false : (k one two : Bool) → ((k && false) && one) ≡ ((k && false) && two)
and-false true one two = refl
and-false false one two = refl

pub begins-over : (letters : List ℕ) (b : ℕ) (text rest : List ℕ)
    → list_all is_no_mark letters ≡ true
    → begins_end_named letters ((b ∷ text) ++ (less_than_sign ∷ rest))
    ≡ begins_end_named letters (b ∷ text)
begins-over letters b [] rest h =
    and-false (b == less_than_sign) (name_ends (past_letters letters rest))
    (name_ends (past_letters letters []))
begins-over letters b (c ∷ text) rest h =
    ap (λ (k : Bool). (b == less_than_sign && c == slash) && k) (letters-over letters text rest h)

past-over-raw : (letters text rest : List ℕ) → list_all is_no_mark letters ≡ true
    → from_end_tag letters text ≡ [] → begins_end_named letters (less_than_sign ∷ rest) ≡ true
    → from_end_tag letters (text ++ (less_than_sign ∷ rest)) ≡ less_than_sign ∷ rest
unfolding from_end_tag
past-over-raw letters [] rest plain none ends = rw ends refl
past-over-raw letters (b ∷ text) rest plain none ends =
    by (begins_end_named letters (b ∷ text)) (begins-over letters b text rest plain)
    (past-over-raw letters text rest plain) none
  where
    by : (k : Bool)
        → begins_end_named letters ((b ∷ text) ++ (less_than_sign ∷ rest)) ≡ k
        → (from_end_tag letters text ≡ [] → begins_end_named letters (less_than_sign ∷ rest) ≡ true
        → from_end_tag letters (text ++ (less_than_sign ∷ rest)) ≡ less_than_sign ∷ rest)
        → (if k then b ∷ text else from_end_tag letters text) ≡ []
        → from_end_tag letters ((b ∷ text) ++ (less_than_sign ∷ rest)) ≡ less_than_sign ∷ rest
    by true e more h = absurd (cc h)
    by false e more h = rw e (more h ends)

pub raw-itself : (name : RawName) (text end : List ℕ) → HasNoEnd (letters_of name) text
    → begins_end_named (letters_of name) end ≡ true → from_end_tag (letters_of name) (text ++ end) ≡ end
raw-itself name text [] none ends = absurd (cc ends)
raw-itself name text (b ∷ end) none ends = by (b == less_than_sign) refl ends
  where
    by : (k : Bool) → (b == less_than_sign) ≡ k → begins_end_named (letters_of name) (b ∷ end) ≡ true
        → from_end_tag (letters_of name) (text ++ (b ∷ end)) ≡ b ∷ end
    by true e h =
        let same : b ≡ less_than_sign = grind (arith, e) in
        rw same (past-over-raw (letters_of name) text end (letters-plain name) none (rw same at h))
    by false e h = absurd (cc (rw e at h))
