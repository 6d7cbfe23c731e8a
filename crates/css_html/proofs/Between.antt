-- What is read up to a place between two tokens does not depend on what follows it.
use Rattle.std.proofs.Common.{◌≡◌, ℕ, ◌<◌, ◌≤◌, ◌==◌, ◌&&◌, ◌||◌, Bool, true, false, if◌then◌else◌, List, [], ◌∷◌, ◌++◌, length, take, drop, Some, None, arith, refl, sym, ap, subst, ◌∙◌, ◌⊎◌, length-append, length-drop, append_assoc, append-nil, inl, inr}
use Rattle.std.specs.List.{list_all}
use Rattle.std.specs.Char.{to_ascii_lowercase}
use Rattle.std.proofs.lemmas.Bool.{and_parts}
use Rattle.std.proofs.lemmas.List.{append_cancel_right}
use Rattle.css_text.specs.AsciiBytes.{slash, exclamation_mark}
use Rattle.css_text.specs.Reading.{before, Ends}
use Rattle.css_text.specs.Bytes.{past, starts, starts_by}
use Rattle.css_text.specs.Characters.{is_letter}
use Rattle.css_text.proofs.reading.EndsLemmas.{ends-same, ends-ends, ends-cons, length-ends}
use Rattle.css_html.specs.Marks.{less_than_sign, question_mark, is_in_name, may_end, past_letters, name_ends, follows_open, begins_markup, past_text, begins_end_named, from_end_tag, from_script_end, script_letters, script_step}
use Rattle.css_html.specs.Modes.{letters_of}
use Rattle.css_html.specs.Tokens.{PlacedToken, whole, tag_from, closed_from, markup_from, marked_token, token_from, next_token}
use Rattle.css_html.specs.Written.{HasNoEnd}
use Rattle.css_html.specs.Locality.{Said, said, TextDriver, Reads, reads_none, reads_one, is_text, reads_markup, MayFollowToken, style_element, style_tokens}
use Rattle.css_html.specs.declared.marks.ScriptState.{ScriptState}
use Rattle.css_html.specs.declared.marks.ScriptState.TheVariants.{Plain}
use Rattle.css_html.specs.declared.modes.Mode.{Mode}
use Rattle.css_html.specs.declared.modes.Mode.TheVariants.{Data, Foreign, Raw, Script, Plaintext}
use Rattle.css_html.specs.declared.modes.RawName.{RawName}
use Rattle.css_html.specs.declared.modes.RawName.TheVariants.{Title, Textarea, Style, Xmp, Iframe, Noembed, Noframes, Noscript}
use Rattle.css_html.specs.declared.tokenizer.TokenKind.TheVariants as kinds
use Rattle.css_html.proofs.Tiles.{token-placed, past_text-ends}
use Rattle.css_html.proofs.Frames.{length-past, past-step}
use Rattle.css_html.proofs.TokenFrames.{SameMark, before-same, marks-local, raw-step, script-step, first-same, next-is}
use Rattle.css_html.proofs.Closed.{SameTag}
use Rattle.css_html.proofs.Inserted.{reads-append, reads-blind}
use Rattle.css_html.proofs.Edited.{style-read}
use Rattle.css_html.proofs.MarkupKinds.{IsOther, tag-kind, markup-kind}
use Rattle.css_html.proofs.Ended.{ended-same, tag-beyond, tag-ended, closed-beyond, markup-beyond, markup-ended}

-- ---- names of end tags

letter-by : (b c : ℕ) → (to_ascii_lowercase b == c) ≡ true → is_letter c ≡ true → is_letter b ≡ true
letter-by b c e h = grind (arith, e, h)

name-by : (b : ℕ) → is_letter b ≡ true → is_in_name b ≡ true
name-by b h = grind (arith, h)

-- a byte that is a letter in lower case is a letter, which is in a name
letter-byte : (b c : ℕ) → (to_ascii_lowercase b == c) ≡ true → is_letter c ≡ true
    → (is_letter b ≡ true) × (is_in_name b ≡ true)
letter-byte b c e h = (letter-by b c e h, name-by b (letter-by b c e h))

-- Whether an end tag has this name is the same of both, or its name, which begins with a letter, does not end
-- before the place.
abbrev IsOpenName : (r i : List ℕ) → Type 0
IsOpenName r i =
    (length (past is_in_name (i ++ r)) ≤ length r) × ((i ≡ []) ⊎ (starts_by is_letter i ≡ true))

names-side : (r s letters i : List ℕ) → list_all is_letter letters ≡ true
    → (name_ends (past_letters letters (i ++ r)) ≡ name_ends (past_letters letters (i ++ s))) ⊎ IsOpenName r i
unfolding past_letters
names-side r s letters [] h = inr (length-past is_in_name r, inl refl)
names-side r s [] (b ∷ i) h = inl refl
names-side r s (c ∷ letters) (b ∷ i) h =
    let k = and_parts (is_letter c) (list_all is_letter letters) h in
    by (to_ascii_lowercase b == c) refl k.0 (names-side r s letters i k.1)
  where
    by : (t : Bool) → (to_ascii_lowercase b == c) ≡ t → is_letter c ≡ true
        → (name_ends (past_letters letters (i ++ r)) ≡ name_ends (past_letters letters (i ++ s))) ⊎ IsOpenName r i
        → (name_ends (if t then past_letters letters (i ++ r) else None)
        ≡ name_ends (if t then past_letters letters (i ++ s) else None)) ⊎ IsOpenName r (b ∷ i)
    by true e g (inl same) = inl same
    by true e g (inr open_name) =
        let letter = letter-byte b c e g in
        inr (rw (past-step is_in_name b (i ++ r), letter.1) open_name.0, inr letter.0)
    by false e g found = inl refl

letters-all : (name : RawName) → list_all is_letter (letters_of name) ≡ true
letters-all Title = refl
letters-all Textarea = refl
letters-all Style = refl
letters-all Xmp = refl
letters-all Iframe = refl
letters-all Noembed = refl
letters-all Noframes = refl
letters-all Noscript = refl

-- ---- the last token before the place, which is markup

-- a token that is not closed before the place
abbrev IsOpen : (r : List ℕ) → PlacedToken → Type 0
IsOpen r t = length t.rest < length r

open-no : (A : Type 0) (r : List ℕ) (t : PlacedToken) → IsOpen r t → t.rest ≡ r → A
open-no A r t h e = absurd (omega (arith, h, ap length e))

-- an end tag in both texts, or in neither, or its name is open
named-same : (r s letters : List ℕ) (b : ℕ) (i : List ℕ) → list_all is_letter letters ≡ true
    → (begins_end_named letters (less_than_sign ∷ b ∷ (i ++ r))
    ≡ begins_end_named letters (less_than_sign ∷ b ∷ (i ++ s))) ⊎ ((b ≡ slash) × IsOpenName r i)
named-same r s letters b i h = by (b == slash) refl (names-side r s letters i h)
  where
    by : (k : Bool) → (b == slash) ≡ k
        → (name_ends (past_letters letters (i ++ r)) ≡ name_ends (past_letters letters (i ++ s))) ⊎ IsOpenName r i
        → ((k && name_ends (past_letters letters (i ++ r))) ≡ (k && name_ends (past_letters letters (i ++ s))))
        ⊎ ((b ≡ slash) × IsOpenName r i)
    by true e (inl same) = inl same
    by true e (inr open_name) =
        let same : b ≡ slash = grind (arith, e) in inr (same, open_name)
    by false e found = inl refl

closed-open : (from r i : List ℕ) → IsOpenName r i → 0 < length r → IsOpen r (closed_from from (i ++ r))
unfolding closed_from
closed-open from r [] h l = closed-beyond from r l
closed-open from r (c ∷ i) (h, inl e) l = absurd (cc e)
closed-open from r (c ∷ i) (h, inr letter) l =
    rw letter (tag-beyond r kinds.EndTag from (c ∷ (i ++ r)) h l)

-- what follows a `<` and is not empty makes it markup in both texts
follows-both : (r s : List ℕ) (b : ℕ) (i : List ℕ) → 0 < length r → 0 < length s
    → follows_open (b ∷ (i ++ r)) ≡ follows_open (b ∷ (i ++ s))
follows-both [] s b i l k = absurd (omega arith)
follows-both (c ∷ r) [] b i l k = absurd (omega arith)
follows-both (c ∷ r) (d ∷ s) b [] l k = refl
follows-both (c ∷ r) (d ∷ s) b (e ∷ i) l k = refl

markup-marks : (foreign : Bool) (w r s y : List ℕ) → 0 < length r → 0 < length s
    → begins_markup (less_than_sign ∷ (y ++ r)) ≡ true → (markup_from foreign w (y ++ r)).rest ≡ r
    → SameMark (y ++ r) (y ++ s)
markup-marks foreign w r s [] l k h e =
    open-no (SameMark r s) r (markup_from foreign w r) (markup-beyond foreign w r l) e
markup-marks foreign w r s (b ∷ i) l k h e = record {
  one = h;
  other = sym (follows-both r s b i l k) ∙ h;
  ends = λ name. same (letters_of name) (letters-all name);
  script_ends = same script_letters refl;
}
  where
    same : (letters : List ℕ) → list_all is_letter letters ≡ true
        → begins_end_named letters (less_than_sign ∷ b ∷ (i ++ r))
        ≡ begins_end_named letters (less_than_sign ∷ b ∷ (i ++ s))
    same letters plain =
        elim (named-same r s letters b i plain) [
          | inl found ↦ found
          | inr open_name ↦
              open-no (begins_end_named letters (less_than_sign ∷ b ∷ (i ++ r))
              ≡ begins_end_named letters (less_than_sign ∷ b ∷ (i ++ s))) r (closed_from w (i ++ r))
              (closed-open w r i open_name.1 l)
              (subst (λ (x : ℕ). (markup_from foreign w (x ∷ (i ++ r))).rest ≡ r) open_name.0 e)
        ]

-- what is known of both texts after a `<`, if it is markup that ends at the place
record Both (r s y : List ℕ) (t u : PlacedToken) : Type 0 where
  pub token : SameTag r s t u
  pub marks : SameMark (y ++ r) (y ++ s)

marked-both : (foreign : Bool) (r s y : List ℕ) → 0 < length r → 0 < length s
    → begins_markup (less_than_sign ∷ (y ++ r)) ≡ true
    → (marked_token foreign less_than_sign (y ++ r)).rest ≡ r
    → Both r s y (marked_token foreign less_than_sign (y ++ r)) (marked_token foreign less_than_sign (y ++ s))
marked-both foreign r s y l k h e =
    let one : List ℕ = less_than_sign ∷ (y ++ r) in
    let two : List ℕ = less_than_sign ∷ (y ++ s) in
    let rest : (markup_from foreign one (y ++ r)).rest ≡ r = rw h at e in
    let marks : SameMark (y ++ r) (y ++ s) = markup-marks foreign one r s y l k h rest in
    record {
      token = rw (h, marks.other)
          (ended-same r s (markup_from foreign one (y ++ r)) (markup_from foreign two (y ++ s))
          (markup-ended r s foreign (less_than_sign ∷ y) y l) rest);
      marks = marks;
    }

-- ---- end tags of raw texts

-- the end tag at a `<`
abbrev end_tag_at : List ℕ → PlacedToken
end_tag_at text = tag_from kinds.EndTag (less_than_sign ∷ text) (drop 1 text)

record EndBoth (letters r s y : List ℕ) : Type 0 where
  pub both : Both r s y (end_tag_at (y ++ r)) (end_tag_at (y ++ s))
  pub begins : begins_end_named letters (less_than_sign ∷ (y ++ s)) ≡ true

slash-marks : (i r : List ℕ) → 0 < length r → begins_markup (less_than_sign ∷ slash ∷ (i ++ r)) ≡ true
slash-marks [] [] l = absurd (omega arith)
slash-marks [] (c ∷ r) l = refl
slash-marks (c ∷ i) r l = refl

slash-both : (letters r s i : List ℕ) → list_all is_letter letters ≡ true → 0 < length r → 0 < length s
    → begins_end_named letters (less_than_sign ∷ slash ∷ (i ++ r)) ≡ true
    → (end_tag_at (slash ∷ (i ++ r))).rest ≡ r → EndBoth letters r s (slash ∷ i)
slash-both letters r s i plain l k h e = record {
  both = record {
    token = ended-same r s (end_tag_at (slash ∷ (i ++ r))) (end_tag_at (slash ∷ (i ++ s)))
        (tag-ended r s kinds.EndTag (less_than_sign ∷ slash ∷ i) i l) e;
    marks = record {
      one = slash-marks i r l;
      other = slash-marks i s k;
      ends = λ name. same (letters_of name) (letters-all name);
      script_ends = same script_letters refl;
    };
  };
  begins = sym (same letters plain) ∙ h;
}
  where
    same : (others : List ℕ) → list_all is_letter others ≡ true
        → begins_end_named others (less_than_sign ∷ slash ∷ (i ++ r))
        ≡ begins_end_named others (less_than_sign ∷ slash ∷ (i ++ s))
    same others all =
        elim (named-same r s others slash i all) [
          | inl found ↦ found
          | inr open_name ↦
              open-no (begins_end_named others (less_than_sign ∷ slash ∷ (i ++ r))
              ≡ begins_end_named others (less_than_sign ∷ slash ∷ (i ++ s))) r
              (end_tag_at (slash ∷ (i ++ r)))
              (tag-beyond r kinds.EndTag (less_than_sign ∷ slash ∷ (i ++ r)) (i ++ r) open_name.1.0 l) e
        ]

end-both : (letters r s y : List ℕ) → list_all is_letter letters ≡ true → 0 < length r → 0 < length s
    → begins_end_named letters (less_than_sign ∷ (y ++ r)) ≡ true
    → (end_tag_at (y ++ r)).rest ≡ r → EndBoth letters r s y
end-both letters r s [] plain l k h e =
    open-no (EndBoth letters r s []) r (end_tag_at r)
    (tag-beyond r kinds.EndTag (less_than_sign ∷ r) (drop 1 r)
    (omega (arith, length-past is_in_name (drop 1 r), length-drop 1 r)) l) e
end-both letters r s (b ∷ i) plain l k h e = by (b == slash) refl h
  where
    by : (j : Bool) → (b == slash) ≡ j → (j && name_ends (past_letters letters (i ++ r))) ≡ true
        → EndBoth letters r s (b ∷ i)
    by true f g =
        let same : b ≡ slash = grind (arith, f) in
        let P : ℕ → Type 0 = λ x. EndBoth letters r s (x ∷ i) in
        subst P (sym same) (slash-both letters r s i plain l k g
        (subst (λ (x : ℕ). (end_tag_at (x ∷ (i ++ r))).rest ≡ r) same e))
    by false f g = absurd (cc g)

-- ---- tokens of each mode

-- a text or not
abbrev kind_of : PlacedToken → Bool
kind_of t = is_text t.kind

raw-both : (name : RawName) (r s y : List ℕ) → 0 < length r → 0 < length s
    → kind_of (token_from (Raw name) less_than_sign (y ++ r)) ≡ false
    → (token_from (Raw name) less_than_sign (y ++ r)).rest ≡ r
    → Both r s y (token_from (Raw name) less_than_sign (y ++ r)) (token_from (Raw name) less_than_sign (y ++ s))
unfolding token_from
raw-both name r s y l k t e =
    by (begins_end_named letters (less_than_sign ∷ (y ++ r))) refl
  where
    letters : List ℕ
    letters = letters_of name

    by : (j : Bool) → begins_end_named letters (less_than_sign ∷ (y ++ r)) ≡ j
        → Both r s y (token_from (Raw name) less_than_sign (y ++ r))
        (token_from (Raw name) less_than_sign (y ++ s))
    by true h =
        let one = raw-step letters less_than_sign (y ++ r) true h in
        let found : EndBoth letters r s y =
        end-both letters r s y (letters-all name) l k h (ap (λ (x : PlacedToken). x.rest) (sym one) ∙ e) in
        rw (one, raw-step letters less_than_sign (y ++ s) true found.begins) found.both
    by false h =
        absurd (cc (ap kind_of (sym (raw-step letters less_than_sign (y ++ r) false h)) ∙ t))

script-both : (r s y : List ℕ) → 0 < length r → 0 < length s
    → kind_of (token_from Script less_than_sign (y ++ r)) ≡ false
    → (token_from Script less_than_sign (y ++ r)).rest ≡ r
    → Both r s y (token_from Script less_than_sign (y ++ r)) (token_from Script less_than_sign (y ++ s))
unfolding token_from
script-both r s y l k t e =
    by (begins_end_named script_letters (less_than_sign ∷ (y ++ r))) refl
  where
    by : (j : Bool) → begins_end_named script_letters (less_than_sign ∷ (y ++ r)) ≡ j
        → Both r s y (token_from Script less_than_sign (y ++ r))
        (token_from Script less_than_sign (y ++ s))
    by true h =
        let one = script-step less_than_sign (y ++ r) true h in
        let found : EndBoth script_letters r s y =
        end-both script_letters r s y refl l k h (ap (λ (x : PlacedToken). x.rest) (sym one) ∙ e) in
        rw (one, script-step less_than_sign (y ++ s) true found.begins) found.both
    by false h =
        absurd (cc (ap kind_of (sym (script-step less_than_sign (y ++ r) false h)) ∙ t))

-- The last token before the place: markup, with what is known of both texts, or a text.
data Last (mode : Mode) (b : ℕ) (r s y : List ℕ) : Type 0 where
  is_markup : b ≡ less_than_sign
      → Both r s y (token_from mode less_than_sign (y ++ r)) (token_from mode less_than_sign (y ++ s))
      → Last mode b r s y
  is_words : reads_markup mode ≡ true → kind_of (token_from mode b (y ++ r)) ≡ true
      → begins_markup (b ∷ (y ++ r)) ≡ false → past_text (y ++ r) ≡ r → Last mode b r s y

-- the first byte of markup
mark-byte : (b : ℕ) (text : List ℕ) → begins_markup (b ∷ text) ≡ true → b ≡ less_than_sign
mark-byte b text h =
    let k = and_parts (b == less_than_sign) (follows_open text) h in grind (arith, k.0)

marked-last : (mode : Mode) (foreign : Bool) (b : ℕ) (r s y : List ℕ) → reads_markup mode ≡ true
    → ((c : ℕ) (text : List ℕ) → token_from mode c text ≡ marked_token foreign c text)
    → 0 < length r → 0 < length s → (marked_token foreign b (y ++ r)).rest ≡ r → Last mode b r s y
marked-last mode foreign b r s y reads is l k e = by (begins_markup (b ∷ (y ++ r))) refl
  where
    by : (j : Bool) → begins_markup (b ∷ (y ++ r)) ≡ j → Last mode b r s y
    by true h =
        let same : b ≡ less_than_sign = mark-byte b (y ++ r) h in
        is_markup same
        (rw (is less_than_sign (y ++ r), is less_than_sign (y ++ s))
        (marked-both foreign r s y l k
        (subst (λ (x : ℕ). begins_markup (x ∷ (y ++ r)) ≡ true) same h)
        (subst (λ (x : ℕ). (marked_token foreign x (y ++ r)).rest ≡ r) same e)))
    by false h =
        is_words reads (rw (is b (y ++ r), h) refl) h (rw h at e)

raw-first : (letters : List ℕ) (b : ℕ) (text : List ℕ) → begins_end_named letters (b ∷ text) ≡ true
    → b ≡ less_than_sign
raw-first letters b text h = by (b == less_than_sign) refl h
  where
    by : (k : Bool) → (b == less_than_sign) ≡ k
        → ((k && starts slash text) && name_ends (past_letters letters (drop 1 text))) ≡ true
        → b ≡ less_than_sign
    by true e g = grind (arith, e)
    by false e g = absurd (cc g)

last-of : (mode : Mode) (b : ℕ) (r s y : List ℕ) → 0 < length r → 0 < length s
    → (token_from mode b (y ++ r)).rest ≡ r
    → (kind_of (token_from mode b (y ++ r)) ≡ false) ⊎ (reads_markup mode ≡ true) → Last mode b r s y
unfolding token_from
last-of Data b r s y l k e h = marked-last Data false b r s y refl (λ c text. refl) l k e
last-of Foreign b r s y l k e h = marked-last Foreign true b r s y refl (λ c text. refl) l k e
last-of (Raw name) b r s y l k e (inr h) = absurd (cc h)
last-of (Raw name) b r s y l k e (inl h) =
    by (begins_end_named (letters_of name) (b ∷ (y ++ r))) refl
  where
    by : (j : Bool) → begins_end_named (letters_of name) (b ∷ (y ++ r)) ≡ j → Last (Raw name) b r s y
    by true f =
        let same : b ≡ less_than_sign = raw-first (letters_of name) b (y ++ r) f in
        is_markup same (raw-both name r s y l k
        (subst (λ (x : ℕ). kind_of (token_from (Raw name) x (y ++ r)) ≡ false) same h)
        (subst (λ (x : ℕ). (token_from (Raw name) x (y ++ r)).rest ≡ r) same e))
    by false f = absurd (cc (ap kind_of (sym (raw-step (letters_of name) b (y ++ r) false f)) ∙ h))
last-of Script b r s y l k e (inr h) = absurd (cc h)
last-of Script b r s y l k e (inl h) =
    by (begins_end_named script_letters (b ∷ (y ++ r))) refl
  where
    by : (j : Bool) → begins_end_named script_letters (b ∷ (y ++ r)) ≡ j → Last Script b r s y
    by true f =
        let same : b ≡ less_than_sign = raw-first script_letters b (y ++ r) f in
        is_markup same (script-both r s y l k
        (subst (λ (x : ℕ). kind_of (token_from Script x (y ++ r)) ≡ false) same h)
        (subst (λ (x : ℕ). (token_from Script x (y ++ r)).rest ≡ r) same e))
    by false f = absurd (cc (ap kind_of (sym (script-step b (y ++ r) false f)) ∙ h))
last-of Plaintext b r s y l k e (inr h) = absurd (cc h)
last-of Plaintext b r s y l k e (inl h) = absurd (cc h)

-- ---- texts

past_text-less : (text : List ℕ) → length (past_text text) ≤ length text
past_text-less text = length-ends text (past_text text) (past_text-ends text)

past_text-stops : (text : List ℕ) (c : ℕ) (x : List ℕ) → past_text text ≡ c ∷ x
    → begins_markup (c ∷ x) ≡ true
unfolding past_text
past_text-stops [] c x e = absurd (cc e)
past_text-stops (b ∷ text) c x e =
    by (past_text-stops text c x) (begins_markup (b ∷ text)) refl e
  where
    by : (past_text text ≡ c ∷ x → begins_markup (c ∷ x) ≡ true)
        → (k : Bool) → begins_markup (b ∷ text) ≡ k → (if k then b ∷ text else past_text text) ≡ c ∷ x
        → begins_markup (c ∷ x) ≡ true
    by more true f g = subst (λ (y : List ℕ). begins_markup y ≡ true) g f
    by more false f g = more g

-- what is no text begins with a `<`
no_text-mark : (c : ℕ) (s : List ℕ) → past_text (c ∷ s) ≡ c ∷ s → c ≡ less_than_sign
no_text-mark c s e = mark-byte c s (past_text-stops (c ∷ s) c s e)

not-marked : (b : ℕ) (z r s : List ℕ) → 0 < length r → 0 < length s → past_text s ≡ s
    → begins_markup (b ∷ (z ++ r)) ≡ false → begins_markup (b ∷ (z ++ s)) ≡ false
not-marked b z r [] l k e h = absurd (omega arith)
not-marked b [] r (c ∷ s) l k e h =
    let same : c ≡ less_than_sign = no_text-mark c s e in
    subst (λ (x : ℕ). begins_markup (b ∷ x ∷ s) ≡ false) (sym same) (no-mark (b == less_than_sign) s)
  where
    no-mark : (j : Bool) (text : List ℕ) → (j && follows_open (less_than_sign ∷ text)) ≡ false
    no-mark true [] = refl
    no-mark true (d ∷ text) = refl
    no-mark false text = refl
not-marked b (d ∷ z) r (c ∷ s) l k e h =
    ap (λ (j : Bool). b == less_than_sign && j) (sym (follows-both r (c ∷ s) d z l k)) ∙ h

words-both : (r s z : List ℕ) → 0 < length r → 0 < length s → past_text s ≡ s
    → past_text (z ++ r) ≡ r → past_text (z ++ s) ≡ s
unfolding past_text
words-both r s [] l k e h = e
words-both r s (b ∷ z) l k e h =
    by (words-both r s z l k e) (begins_markup (b ∷ (z ++ r))) refl h
  where
    by : (past_text (z ++ r) ≡ r → past_text (z ++ s) ≡ s) → (j : Bool) → begins_markup (b ∷ (z ++ r)) ≡ j
        → (if j then b ∷ (z ++ r) else past_text (z ++ r)) ≡ r
        → (if begins_markup (b ∷ (z ++ s)) then b ∷ (z ++ s) else past_text (z ++ s)) ≡ s
    by more true f g = absurd (omega (arith, ap length g, length-append z r))
    by more false f g = rw (not-marked b z r s l k e f) (more g)

words-same : (r s z : List ℕ) → SameTag r s (whole kinds.Text (z ++ r) r) (whole kinds.Text (z ++ s) s)
words-same r s z = record {
  says = ap (λ (x : List ℕ). record { kind = kinds.Text; text = x; inside = x }) (before-same z [] r s);
  left = refl;
}

-- a text read between markup
words-token : (mode : Mode) (b : ℕ) (r s y : List ℕ) → reads_markup mode ≡ true
    → begins_markup (b ∷ (y ++ r)) ≡ false → past_text (y ++ r) ≡ r
    → begins_markup (b ∷ (y ++ s)) ≡ false → past_text (y ++ s) ≡ s
    → SameTag r s (token_from mode b (y ++ r)) (token_from mode b (y ++ s))
unfolding token_from
words-token Data b r s y h e f g k = rw (e, f, g, k) (words-same r s (b ∷ y))
words-token Foreign b r s y h e f g k = rw (e, f, g, k) (words-same r s (b ∷ y))
words-token (Raw name) b r s y h e f g k = absurd (cc h)
words-token Script b r s y h e f g k = absurd (cc h)
words-token Plaintext b r s y h e f g k = absurd (cc h)

-- ---- a text ends before markup

-- no markup is a text
words-other : IsOther is_text
words-other = record { cut = refl; end_tag = refl; nothing = refl; comment = refl; doctype = refl; cdata = refl }

named-marks : (letters : List ℕ) (c : ℕ) (x : List ℕ) → begins_end_named letters (c ∷ x) ≡ true
    → begins_markup (c ∷ x) ≡ true
unfolding past_letters
named-marks letters c [] h = by (c == less_than_sign) h
  where
    by : (k : Bool) → ((k && false) && name_ends (past_letters letters [])) ≡ true → (k && false) ≡ true
    by true g = absurd (cc g)
    by false g = absurd (cc g)
named-marks letters c (d ∷ x) h = by (c == less_than_sign) (d == slash) refl x h
  where
    by : (k j : Bool) → (d == slash) ≡ j → (rest : List ℕ)
        → ((k && j) && name_ends (past_letters letters rest)) ≡ true
        → (k && follows_open (d ∷ rest)) ≡ true
    by true true e [] g = absurd (cc (no-end letters ∙ g))
      where
        no-end : (others : List ℕ) → false ≡ name_ends (past_letters others [])
        no-end [] = refl
        no-end (c ∷ others) = refl
    by true true e (f ∷ rest) g = rw e (last (is_letter d) (d == exclamation_mark) (d == question_mark))
      where
        last : (u v w : Bool) → (u || v || w || true) ≡ true
        last true v w = refl
        last false true w = refl
        last false false true = refl
        last false false false = refl
    by true false e rest g = absurd (cc g)
    by false j e rest g = absurd (cc g)

end_tag-stops : (letters text : List ℕ) (c : ℕ) (x : List ℕ) → from_end_tag letters text ≡ c ∷ x
    → begins_markup (c ∷ x) ≡ true
unfolding from_end_tag
end_tag-stops letters [] c x e = absurd (cc e)
end_tag-stops letters (b ∷ text) c x e =
    by (end_tag-stops letters text c x) (begins_end_named letters (b ∷ text)) refl e
  where
    by : (from_end_tag letters text ≡ c ∷ x → begins_markup (c ∷ x) ≡ true) → (k : Bool) → begins_end_named letters (b ∷ text) ≡ k
        → (if k then b ∷ text else from_end_tag letters text) ≡ c ∷ x → begins_markup (c ∷ x) ≡ true
    by more true f g =
        named-marks letters c x (subst (λ (y : List ℕ). begins_end_named letters y ≡ true) g f)
    by more false f g = more g

script_end-stops : (state : ScriptState) (text : List ℕ) (c : ℕ) (x : List ℕ)
    → from_script_end state text ≡ c ∷ x → begins_markup (c ∷ x) ≡ true
unfolding from_script_end
script_end-stops state [] c x e = absurd (cc e)
script_end-stops state (b ∷ text) c x e =
    by (script_end-stops (script_step state (b ∷ text)) text c x)
    (may_end state && begins_end_named script_letters (b ∷ text)) refl e
  where
    by : (from_script_end (script_step state (b ∷ text)) text ≡ c ∷ x → begins_markup (c ∷ x) ≡ true)
        → (k : Bool) → (may_end state && begins_end_named script_letters (b ∷ text)) ≡ k
        → (if k then b ∷ text else from_script_end (script_step state (b ∷ text)) text) ≡ c ∷ x
        → begins_markup (c ∷ x) ≡ true
    by more true f g =
        let k = and_parts (may_end state) (begins_end_named script_letters (b ∷ text)) f in
        named-marks script_letters c x
        (subst (λ (y : List ℕ). begins_end_named script_letters y ≡ true) g k.1)
    by more false f g = more g

marked-stops : (foreign : Bool) (b : ℕ) (text : List ℕ) (c : ℕ) (x : List ℕ)
    → kind_of (marked_token foreign b text) ≡ true → (marked_token foreign b text).rest ≡ c ∷ x
    → begins_markup (c ∷ x) ≡ true
marked-stops foreign b text c x h e = by (begins_markup (b ∷ text)) h e
  where
    by : (k : Bool)
        → kind_of (if k then markup_from foreign (b ∷ text) text
        else whole kinds.Text (b ∷ text) (past_text text)) ≡ true
        → (if k then markup_from foreign (b ∷ text) text
        else whole kinds.Text (b ∷ text) (past_text text)).rest ≡ c ∷ x
        → begins_markup (c ∷ x) ≡ true
    by true f g = absurd (cc (sym (markup-kind is_text words-other refl foreign (b ∷ text) text).no ∙ f))
    by false f g = past_text-stops text c x g

text-stops : (mode : Mode) (b : ℕ) (text : List ℕ) (c : ℕ) (x : List ℕ)
    → kind_of (token_from mode b text) ≡ true → (token_from mode b text).rest ≡ c ∷ x
    → begins_markup (c ∷ x) ≡ true
unfolding token_from
text-stops Data b text c x h e = marked-stops false b text c x h e
text-stops Foreign b text c x h e = marked-stops true b text c x h e
text-stops (Raw name) b text c x h e =
    by (begins_end_named (letters_of name) (b ∷ text)) refl
  where
    letters : List ℕ
    letters = letters_of name

    by : (k : Bool) → begins_end_named letters (b ∷ text) ≡ k → begins_markup (c ∷ x) ≡ true
    by true f =
        let one = raw-step letters b text true f in
        absurd (cc (sym (tag-kind is_text kinds.EndTag (b ∷ text) (drop 2 (b ∷ text)) refl refl).no
        ∙ ap kind_of (sym one) ∙ h))
    by false f =
        end_tag-stops letters text c x
        (ap (λ (t : PlacedToken). t.rest) (sym (raw-step letters b text false f)) ∙ e)
text-stops Script b text c x h e =
    by (begins_end_named script_letters (b ∷ text)) refl
  where
    by : (k : Bool) → begins_end_named script_letters (b ∷ text) ≡ k → begins_markup (c ∷ x) ≡ true
    by true f =
        let one = script-step b text true f in
        absurd (cc (sym (tag-kind is_text kinds.EndTag (b ∷ text) (drop 2 (b ∷ text)) refl refl).no
        ∙ ap kind_of (sym one) ∙ h))
    by false f =
        script_end-stops (script_step Plain (b ∷ text)) text c x
        (ap (λ (t : PlacedToken). t.rest) (sym (script-step b text false f)) ∙ e)
text-stops Plaintext b text c x h e = absurd (cc e)

-- ---- what is read, up to the last token and with it

next-ends : (mode : Mode) (text : List ℕ) (t : PlacedToken) → next_token mode text ≡ Some (t, t.rest)
    → Ends text t.rest
unfolding next_token
next-ends mode [] t e = absurd (cc e)
next-ends mode (b ∷ text) t e =
    rw (first-same mode b text t e)
    (ends-cons b text (token_from mode b text).rest (token-placed mode b text).ends)

reads-ends : (drive : TextDriver) (seen found : List Said) (text rest : List ℕ)
    → Reads drive seen text found rest → Ends text rest
reads-ends drive seen found text rest (reads_none _ _) = ends-same text
reads-ends drive seen found text rest (reads_one _ _ _ more t e r) =
    ends-ends text t.rest rest (next-ends (drive seen) text t e)
    (reads-ends drive (seen ++ said t ∷ []) more t.rest rest r)

-- the last of the tokens that were read, by the text from it on
record LastRead (drive : TextDriver) (seen : List Said) (text : List ℕ) (found : List Said) (last : Said)
    (rest : List ℕ) : Type 0 where
  pub byte : ℕ
  pub more : List ℕ
  pub first : Reads drive seen text found (byte ∷ more)
  pub says : said (token_from (drive (seen ++ found)) byte more) ≡ last
  pub left : (token_from (drive (seen ++ found)) byte more).rest ≡ rest

pub none-read : (drive : TextDriver) (seen : List Said) (text rest : List ℕ) → Reads drive seen text [] rest
    → text ≡ rest
none-read drive seen text rest (reads_none _ _) = refl

one-read : (drive : TextDriver) (seen : List Said) (text rest : List ℕ) (t : PlacedToken)
    → next_token (drive seen) text ≡ Some (t, t.rest) → t.rest ≡ rest
    → LastRead drive seen text [] (said t) rest
unfolding next_token
one-read drive seen [] rest t e r = absurd (cc e)
one-read drive seen (b ∷ text) rest t e r =
    let same : t ≡ token_from (drive seen) b text = first-same (drive seen) b text t e in
    let nil : seen ++ [] ≡ seen = append-nil seen in record {
      byte = b;
      more = text;
      first = reads_none seen (b ∷ text);
      says = rw nil (ap said (sym same));
      left = rw nil (ap (λ (x : PlacedToken). x.rest) (sym same) ∙ r);
    }

last-read : (drive : TextDriver) (seen : List Said) (text : List ℕ) (found : List Said) (last : Said)
    (rest : List ℕ) → Reads drive seen text (found ++ last ∷ []) rest
    → LastRead drive seen text found last rest
last-read drive seen text [] last rest (reads_one _ _ _ _ t e r) =
    one-read drive seen text rest t e (none-read drive (seen ++ said t ∷ []) t.rest rest r)
last-read drive seen text (x ∷ found) last rest (reads_one _ _ _ _ t e r) =
    let one : LastRead drive (seen ++ said t ∷ []) t.rest found last rest =
    last-read drive (seen ++ said t ∷ []) t.rest found last rest r in
    let shape : (seen ++ said t ∷ []) ++ found ≡ seen ++ (said t ∷ found) =
    append_assoc seen (said t ∷ []) found in record {
      byte = one.byte;
      more = one.more;
      first = reads_one seen text (one.byte ∷ one.more) found t e one.first;
      says = rw (← shape) one.says;
      left = rw (← shape) one.left;
    }

-- the text before the last token, and the last token's
record Parts (drive : TextDriver) (front r : List ℕ) (found : List Said) (last : Said) : Type 0 where
  pub before_it : List ℕ
  pub byte : ℕ
  pub inner : List ℕ
  pub whole_front : before_it ++ (byte ∷ inner) ≡ front
  pub first : Reads drive [] (before_it ++ (byte ∷ (inner ++ r))) found (byte ∷ (inner ++ r))
  pub says : said (token_from (drive found) byte (inner ++ r)) ≡ last
  pub left : (token_from (drive found) byte (inner ++ r)).rest ≡ r

parts-of : (drive : TextDriver) (front r : List ℕ) (found : List Said) (last : Said)
    → Reads drive [] (front ++ r) (found ++ last ∷ []) r → Parts drive front r found last
parts-of drive front r found last reads =
    let one : LastRead drive [] (front ++ r) found last r =
    last-read drive [] (front ++ r) found last r reads in
    let token : PlacedToken = token_from (drive found) one.byte one.more in
    let rest_ends : Ends one.more r =
    subst (λ (x : List ℕ). Ends one.more x) one.left (token-placed (drive found) one.byte one.more).ends in
    let inner : List ℕ = before one.more r in
    let first_ends : Ends (front ++ r) (one.byte ∷ one.more) =
    reads-ends drive [] found (front ++ r) (one.byte ∷ one.more) one.first in
    let start : List ℕ = before (front ++ r) (one.byte ∷ one.more) in
    let tail : one.byte ∷ (inner ++ r) ≡ one.byte ∷ one.more =
    ap (λ (x : List ℕ). one.byte ∷ x) rest_ends in
    let all : start ++ (one.byte ∷ (inner ++ r)) ≡ front ++ r =
    ap (λ (x : List ℕ). start ++ x) tail ∙ first_ends in record {
      before_it = start;
      byte = one.byte;
      inner = inner;
      whole_front = append_cancel_right (start ++ (one.byte ∷ inner)) front r
          (append_assoc start (one.byte ∷ inner) r ∙ all);
      first = subst (λ (x : List ℕ). Reads drive [] x found (one.byte ∷ (inner ++ r))) (sym all)
          (subst (λ (x : List ℕ). Reads drive [] (front ++ r) found x) (sym tail) one.first);
      says = ap (λ (x : List ℕ). said (token_from (drive found) one.byte x)) rest_ends ∙ one.says;
      left = ap (λ (x : List ℕ). (token_from (drive found) one.byte x).rest) rest_ends ∙ one.left;
    }

-- the last token is read before the other text too
with-last : (drive : TextDriver) (front r s : List ℕ) (found : List Said) (last : Said)
    (one : Parts drive front r found last)
    → Reads drive [] (one.before_it ++ (one.byte ∷ (one.inner ++ s))) found (one.byte ∷ (one.inner ++ s))
    → SameTag r s (token_from (drive found) one.byte (one.inner ++ r))
    (token_from (drive found) one.byte (one.inner ++ s))
    → Reads drive [] (front ++ s) (found ++ last ∷ []) s
with-last drive front r s found last one first same =
    let text : List ℕ = one.byte ∷ (one.inner ++ s) in
    let u : PlacedToken = token_from (drive found) one.byte (one.inner ++ s) in
    let says : said u ≡ last = sym same.says ∙ one.says in
    let page : one.before_it ++ text ≡ front ++ s =
    sym (append_assoc one.before_it (one.byte ∷ one.inner) s)
    ∙ ap (λ (x : List ℕ). x ++ s) one.whole_front in
    let read : next_token (drive found) text ≡ Some (u, u.rest) =
    next-is (drive found) one.byte (one.inner ++ s) in
    let after : Reads drive found text (said u ∷ []) u.rest =
    reads_one found text u.rest [] u read (reads_none (found ++ said u ∷ []) u.rest) in
    let all : Reads drive [] (one.before_it ++ text) (found ++ said u ∷ []) u.rest =
    reads-append drive [] found (said u ∷ []) (one.before_it ++ text) text u.rest first after in
    subst (λ (x : List ℕ). Reads drive [] x (found ++ last ∷ []) s) page
    (subst (λ (x : Said). Reads drive [] (one.before_it ++ text) (found ++ x ∷ []) s) says
    (subst (λ (x : List ℕ). Reads drive [] (one.before_it ++ text) (found ++ said u ∷ []) x) same.left all))

-- what is read up to markup and with it
with-markup : (drive : TextDriver) (front r s : List ℕ) (found : List Said) (last : Said)
    (one : Parts drive front r found last) → one.byte ≡ less_than_sign
    → Both r s one.inner (token_from (drive found) less_than_sign (one.inner ++ r))
    (token_from (drive found) less_than_sign (one.inner ++ s))
    → Reads drive [] (front ++ s) (found ++ last ∷ []) s
with-markup drive front r s found last one mark both =
    let P : ℕ → Type 0 = λ b. Reads drive [] (one.before_it ++ (b ∷ (one.inner ++ r))) found
    (b ∷ (one.inner ++ r)) in
    let Q : ℕ → Type 0 = λ b. Reads drive [] (one.before_it ++ (b ∷ (one.inner ++ s))) found
    (b ∷ (one.inner ++ s)) in
    let T : ℕ → Type 0 = λ b. SameTag r s (token_from (drive found) b (one.inner ++ r))
    (token_from (drive found) b (one.inner ++ s)) in
    with-last drive front r s found last one
    (subst Q (sym mark) (marks-local drive [] one.before_it (one.inner ++ r) (one.inner ++ s) found both.marks
    (subst P mark one.first)))
    (subst T (sym mark) both.token)

last-kind : (drive : TextDriver) (front r : List ℕ) (found : List Said) (last : Said)
    (one : Parts drive front r found last)
    → kind_of (token_from (drive found) one.byte (one.inner ++ r)) ≡ is_text last.kind
last-kind drive front r found last one = ap (λ (x : Said). is_text x.kind) one.says

-- a place after markup
after-markup : (drive : TextDriver) (front r s : List ℕ) (found : List Said) (last : Said) → 0 < length r
    → 0 < length s → is_text last.kind ≡ false → Reads drive [] (front ++ r) (found ++ last ∷ []) r
    → Reads drive [] (front ++ s) (found ++ last ∷ []) s
after-markup drive front r s found last l k h reads =
    let one : Parts drive front r found last = parts-of drive front r found last reads in
    let kind = last-kind drive front r found last one ∙ h in
    by one kind (last-of (drive found) one.byte r s one.inner l k one.left (inl kind))
  where
    by : (one : Parts drive front r found last)
        → kind_of (token_from (drive found) one.byte (one.inner ++ r)) ≡ false
        → Last (drive found) one.byte r s one.inner → Reads drive [] (front ++ s) (found ++ last ∷ []) s
    by one kind (is_markup mark both) = with-markup drive front r s found last one mark both
    by one kind (is_words _ text _ _) = absurd (cc (sym text ∙ kind))

-- all but the last of a list, and the last
data Backwards : List Said → Type 0 where
  nothing : Backwards []
  and_last : (found : List Said) (last : Said) → Backwards (found ++ last ∷ [])

backwards : (found : List Said) → Backwards found
backwards [] = nothing
backwards (x ∷ found) = by (backwards found)
  where
    by : {others : List Said} → Backwards others → Backwards (x ∷ others)
    by nothing = and_last [] x
    by (and_last more last) = and_last (x ∷ more) last

-- What is read before a text is read before the other one, since markup is before it, or nothing.
before-words : (drive : TextDriver) (front p q : List ℕ) (found : List Said) → Backwards found
    → 0 < length p → 0 < length q → begins_markup p ≡ false → Reads drive [] (front ++ p) found p
    → Reads drive [] (front ++ q) found q
before-words drive front p q found nothing l k h reads =
    let same : front ++ p ≡ p = none-read drive [] (front ++ p) p reads in
    none front (omega (arith, ap length same, length-append front p))
  where
    none : (x : List ℕ) → length x ≡ 0 → Reads drive [] (x ++ q) [] q
    none [] e = reads_none [] q
    none (b ∷ x) e = absurd (omega (arith, e))
before-words drive front p q found (and_last others last) l k h reads =
    by (is_text last.kind) refl
  where
    read : Type 0
    read = Reads drive [] (front ++ q) (others ++ last ∷ []) q

    no_text : (c : ℕ) (x : List ℕ) → p ≡ c ∷ x → is_text last.kind ≡ true → read
    no_text c x e text =
        let one : Parts drive front p others last = parts-of drive front p others last reads in
        let kind = last-kind drive front p others last one ∙ text in
        let marked : begins_markup (c ∷ x) ≡ true =
        text-stops (drive others) one.byte (one.inner ++ p) c x kind (one.left ∙ e) in
        absurd (cc (sym marked ∙ ap begins_markup (sym e) ∙ h))

    not_text : (text : List ℕ) → p ≡ text → is_text last.kind ≡ true → read
    not_text [] e text = absurd (omega (arith, l, ap length e))
    not_text (c ∷ x) e text = no_text c x e text

    by : (j : Bool) → is_text last.kind ≡ j → read
    by true e = not_text p refl e
    by false e = after-markup drive front p q others last l k e reads

-- ---- the laws

pub places-local : (drive : TextDriver) (front r s : List ℕ) (found : List Said) (last : Said)
    → 0 < length r → 0 < length s → MayFollowToken drive found last s
    → Reads drive [] (front ++ r) (found ++ last ∷ []) r
    → Reads drive [] (front ++ s) (found ++ last ∷ []) s
places-local drive front r s found last l k (inl h) reads =
    after-markup drive front r s found last l k h reads
places-local drive front r s found last l k (inr h) reads =
    let one : Parts drive front r found last = parts-of drive front r found last reads in
    by one (last-of (drive found) one.byte r s one.inner l k one.left (inr h.0))
  where
    by : (one : Parts drive front r found last) → Last (drive found) one.byte r s one.inner
        → Reads drive [] (front ++ s) (found ++ last ∷ []) s
    by one (is_markup mark both) = with-markup drive front r s found last one mark both
    by one (is_words reads_it text no_mark ends) =
        let new_mark : begins_markup (one.byte ∷ (one.inner ++ s)) ≡ false =
        not-marked one.byte one.inner r s l k h.1 no_mark in
        let new_ends : past_text (one.inner ++ s) ≡ s = words-both r s one.inner l k h.1 ends in
        with-last drive front r s found last one
        (before-words drive one.before_it (one.byte ∷ (one.inner ++ r)) (one.byte ∷ (one.inner ++ s)) found
        (backwards found) (omega arith) (omega arith) no_mark one.first)
        (words-token (drive found) one.byte r s one.inner reads_it no_mark ends new_mark new_ends)

pub between-local : (drive : TextDriver) (front old new text rest : List ℕ) (found : List Said)
    (last : Said) (old_tokens new_tokens more : List Said) → 0 < length (old ++ text)
    → 0 < length (new ++ text)
    → Reads drive [] (front ++ (old ++ text)) (found ++ last ∷ []) (old ++ text)
    → MayFollowToken drive found last (new ++ text)
    → Reads drive (found ++ last ∷ []) (new ++ text) new_tokens text
    → Reads drive ((found ++ last ∷ []) ++ old_tokens) text more rest
    → ((later : List Said) → drive (((found ++ last ∷ []) ++ old_tokens) ++ later)
    ≡ drive (((found ++ last ∷ []) ++ new_tokens) ++ later))
    → Reads drive [] (front ++ (new ++ text)) (((found ++ last ∷ []) ++ new_tokens) ++ more) rest
between-local drive front old new text rest found last old_tokens new_tokens more l k first may inner after blind =
    let seen : List Said = found ++ last ∷ [] in
    let page : List ℕ = front ++ (new ++ text) in
    let up_to : Reads drive [] page (seen ++ new_tokens) text =
    reads-append drive [] seen new_tokens page (new ++ text) text
    (places-local drive front (old ++ text) (new ++ text) found last l k may first) inner in
    reads-append drive [] (seen ++ new_tokens) more page text rest up_to
    (reads-blind drive (seen ++ old_tokens) (seen ++ new_tokens) more text rest blind after)

style-no_text : (inside text : List ℕ)
    → past_text (style_element inside ++ text) ≡ style_element inside ++ text
unfolding past_text
style-no_text inside text = refl

style-long : (inside text : List ℕ) → 0 < length (style_element inside ++ text)
style-long inside text = omega arith

pub style-local : (drive : TextDriver) (front inside text rest : List ℕ) (found : List Said)
    (last : Said) (more : List Said) → 0 < length text → 0 < length inside
    → HasNoEnd (letters_of Style) inside
    → Reads drive [] (front ++ text) (found ++ last ∷ []) text
    → (is_text last.kind ≡ false) ⊎ (reads_markup (drive found) ≡ true)
    → drive (found ++ last ∷ []) ≡ Data
    → drive ((found ++ last ∷ []) ++ take 1 (style_tokens inside)) ≡ Raw Style
    → drive ((found ++ last ∷ []) ++ take 2 (style_tokens inside)) ≡ Raw Style
    → Reads drive (found ++ last ∷ []) text more rest
    → ((later : List Said) → drive ((found ++ last ∷ []) ++ later)
    ≡ drive (((found ++ last ∷ []) ++ style_tokens inside) ++ later))
    → Reads drive [] (front ++ (style_element inside ++ text))
    (((found ++ last ∷ []) ++ style_tokens inside) ++ more) rest
style-local drive front inside text rest found last more l k none first may data_mode raw_mode end_mode after blind =
    let seen : List Said = found ++ last ∷ [] in
    let nil : seen ++ [] ≡ seen = append-nil seen in
    between-local drive front [] (style_element inside) text rest found last [] (style_tokens inside) more l
    (style-long inside text) first (follows may)
    (style-read drive seen inside text k none data_mode raw_mode end_mode)
    (rw nil after) (λ later. ap (λ (x : List Said). drive (x ++ later)) nil ∙ blind later)
  where
    follows : (is_text last.kind ≡ false) ⊎ (reads_markup (drive found) ≡ true)
        → MayFollowToken drive found last (style_element inside ++ text)
    follows (inl h) = inl h
    follows (inr h) = inr (h, style-no_text inside text)

pub style-out : (drive : TextDriver) (front inside text rest : List ℕ) (found : List Said)
    (last : Said) (more : List Said) → 0 < length text
    → Reads drive [] (front ++ (style_element inside ++ text)) (found ++ last ∷ []) (style_element inside ++ text)
    → MayFollowToken drive found last text
    → Reads drive ((found ++ last ∷ []) ++ style_tokens inside) text more rest
    → ((later : List Said) → drive (((found ++ last ∷ []) ++ style_tokens inside) ++ later)
    ≡ drive ((found ++ last ∷ []) ++ later))
    → Reads drive [] (front ++ text) ((found ++ last ∷ []) ++ more) rest
style-out drive front inside text rest found last more l first may after blind =
    let seen : List Said = found ++ last ∷ [] in
    let nil : seen ++ [] ≡ seen = append-nil seen in
    let P : List Said → Type 0 = λ x. Reads drive [] (front ++ text) (x ++ more) rest in
    subst P nil
    (between-local drive front (style_element inside) [] text rest found last (style_tokens inside) [] more
    (style-long inside text) l first may (reads_none seen text) after
    (λ later. blind later ∙ ap (λ (x : List Said). drive (x ++ later)) (sym nil)))
