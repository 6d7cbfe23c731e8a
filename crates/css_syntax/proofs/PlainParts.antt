-- Words and signs are parts, whatever follows.
-- Serves `plain::{take_plain, past_plain}` and `parts::{take_part, read_byte_parts}`.
use Rattle.std.proofs.Common.{◌≡◌, ◌∙◌, ℕ, ◌<◌, ◌≤◌, Bool, true, false, ◌==◌, ◌||◌, ◌&&◌, List, [], ◌∷◌, length, map, Option, Some, None, arith, refl, sym, ap, subst, inl, inr, if◌then◌else◌, eqb-true}
use Rattle.std.specs.Option.{is_some}
use Rattle.std.proofs.lemmas.Bool.{or_parts, cases_lt}
use Rattle.css_text.specs.Reading.{each, followed_by, last_or}
use Rattle.css_text.specs.Bytes.{past}
use Rattle.css_text.specs.Characters.{is_space}
use Rattle.css_text.specs.Comments.{opens_comment}
use Rattle.css_text.specs.Strings.{is_quote}
use Rattle.css_text.proofs.bytes.RunLemmas.{past-yes, past-no, starts_by-past}
use Rattle.css_text.proofs.reading.EachLemmas.{each-some}
use Rattle.css_text.proofs.reading.TakesLemmas.{length-past}
use Rattle.css_syntax.specs.declared.quality.Quality.{Quality}
use Rattle.css_syntax.specs.declared.quality.Quality.TheVariants.{Whole}
use Rattle.css_syntax.specs.declared.parts.Stops.{Stops}
use Rattle.css_syntax.specs.Qualities.{flaw_of_all}
use Rattle.css_syntax.specs.Tokens.{begins_escape, begins_url, begins_cdo, escaped_char, gap_part, is_closer, is_either, is_name_byte, name_part, other_token, past_escape, past_gap, past_letter, past_word, then_letter, then_open, token}
use Rattle.css_syntax.specs.ComponentValues.{component_value, deepest, is_opener}
use Rattle.css_syntax.specs.Parts.{ends_at, part, with_gap}
use Rattle.css_syntax.specs.internal.PlainTokens.{Goes, goes_on, is_plain, is_sign}
use Rattle.css_syntax.proofs.OpenBlocks.{value-token}
use Rattle.css_syntax.proofs.PartLemmas.{part-follows, part-takes}
use Rattle.css_syntax.proofs.RunSteps.{run-gap, run-word, no_name_part, no_gap_part}
use Rattle.css_syntax.proofs.Shorter.{each-rests}

-- ---- one part, and parts after others

pub goes-one : (stops : Stops) (text : List ℕ) (quality : Quality) (end next : List ℕ)
    → part stops text ≡ Some ((quality, end), next) → Goes stops text quality end next
goes-one stops text quality end next e =
    let h = part-follows stops text ((quality, end), next) e in
    let step : each (part stops) text ≡ followed_by (quality, end) (each (part stops) next) =
    each-some (part stops) (part-takes stops) text next (quality, end) e in
    record {
      last = λ other. ap (λ (r : List (Quality × List ℕ) × List ℕ).
          last_or other (map (λ one. one.1) r.0)) step;
      flaw = ap (λ (r : List (Quality × List ℕ) × List ℕ).
          flaw_of_all (map (λ one. one.0) r.0)) step;
      left = ap (λ (r : List (Quality × List ℕ) × List ℕ). r.1) step;
      less = h.0;
      within = h.1;
    }

pub goes-then : (stops : Stops) (text end next further after : List ℕ)
    → Goes stops text Whole end next → Goes stops next Whole further after
    → Goes stops text Whole further after
goes-then stops text end next further after one two = record {
  last = λ other. one.last other ∙ two.last end;
  flaw = one.flaw ∙ two.flaw;
  left = one.left ∙ two.left;
  less = omega (arith, one.less, one.within, two.less);
  within = two.within;
}

-- ---- what a byte of a word or a sign is not

pub plain-not : (b k : ℕ) → is_plain b ≡ true → is_plain k ≡ false → (b == k) ≡ false
plain-not b k h n = by (b == k) refl
  where
    by : (t : Bool) → (b == k) ≡ t → (b == k) ≡ false
    by true e = absurd (let same : is_plain b ≡ is_plain k = ap is_plain (eqb-true b k e) in cc)
    by false e = e

plain-no_space : (b : ℕ) → is_plain b ≡ true → is_space b ≡ false
plain-no_space b h =
    rw (
      plain-not b 32 h refl,
      plain-not b 9 h refl,
      plain-not b 10 h refl,
      plain-not b 13 h refl,
      plain-not b 12 h refl,
    ) refl

plain-no_comment : (b : ℕ) (text : List ℕ) → is_plain b ≡ true → opens_comment (b ∷ text) ≡ false
plain-no_comment b text h = rw (plain-not b 47 h refl) refl

plain-no_quote : (b : ℕ) → is_plain b ≡ true → is_quote b ≡ false
plain-no_quote b h = rw (plain-not b 39 h refl, plain-not b 34 h refl) refl

plain-no_opener : (b : ℕ) → is_plain b ≡ true → is_opener b ≡ false
plain-no_opener b h =
    rw (plain-not b 40 h refl, plain-not b 91 h refl, plain-not b 123 h refl) refl

plain-no_closer : (b : ℕ) → is_plain b ≡ true → is_closer b ≡ false
plain-no_closer b h =
    rw (plain-not b 41 h refl, plain-not b 93 h refl, plain-not b 125 h refl) refl

plain-no_cdo : (b : ℕ) (text : List ℕ) → is_plain b ≡ true → begins_cdo (b ∷ text) ≡ false
plain-no_cdo b text h = rw (plain-not b 60 h refl) refl

plain-no_escape : (b : ℕ) (text : List ℕ) → is_plain b ≡ true → begins_escape (b ∷ text) ≡ false
plain-no_escape b text h = rw (plain-not b 92 h refl) refl

-- it is no blank
pub plain-no_gap : (b : ℕ) (text : List ℕ) → is_plain b ≡ true → past_gap (b ∷ text) ≡ b ∷ text
plain-no_gap b text h =
    each-rests gap_part (b ∷ text)
    (no_gap_part (b ∷ text) (plain-no_comment b text h) (plain-no_space b h))

-- it ends no parts, unless commas do
stop-pick : (s o c k v e l : Bool) (S O C K : Bool) → s ≡ false → o ≡ false → c ≡ false → K ≡ false
    → e ≡ false → l ≡ false
    → (if s then S else (if o then O else (if c then C else (if k then K else (v && (e || l))))))
    ≡ false
stop-pick false false false true v e l S O C K hs ho hc hk he hl = hk
stop-pick false false false false true false false S O C K hs ho hc hk he hl = refl
stop-pick false false false false true true l S O C K hs ho hc hk he hl = he
stop-pick false false false false true false true S O C K hs ho hc hk he hl = hl
stop-pick false false false false false e l S O C K hs ho hc hk he hl = refl
stop-pick true o c k v e l S O C K hs ho hc hk he hl = absurd (cc)
stop-pick false true c k v e l S O C K hs ho hc hk he hl = absurd (cc)
stop-pick false false true k v e l S O C K hs ho hc hk he hl = absurd (cc)

plain-no_stop : (stops : Stops) (b : ℕ) (text : List ℕ) → stops.comma ≡ false → is_plain b ≡ true
    → ends_at stops (b ∷ text) ≡ false
plain-no_stop stops b text comma h =
    stop-pick (b == 59) (b == 123) (b == 125) (b == 44) stops.in_value (b == 33) (is_closer b)
    stops.semicolon stops.open_brace stops.close_brace stops.comma (plain-not b 59 h refl)
    (plain-not b 123 h refl) (plain-not b 125 h refl) comma (plain-not b 33 h refl)
    (plain-no_closer b h)

-- so the token here is a part
plain-part : (stops : Stops) (b : ℕ) (text rest : List ℕ) → stops.comma ≡ false
    → is_plain b ≡ true → token (b ∷ text) ≡ (Whole, rest)
    → part stops (b ∷ text) ≡ Some ((Whole, rest), past_gap rest)
plain-part stops b text rest comma h e =
    rw (plain-no_stop stops b text comma h)
    (ap (λ (x : Quality × List ℕ). Some (with_gap x))
    (value-token 64 b text (plain-no_opener b h) ∙ e))

-- ---- words

-- what does not go on with a word begins no escape
calm-no_escape : (text : List ℕ) → goes_on text ≡ false → begins_escape text ≡ false
calm-no_escape [] h = refl
calm-no_escape (b ∷ text) h = rw (or_parts (b == 40) (b == 92) h).1 refl

-- a word ends where its bytes do, if nothing goes on with it
word-ends : (text : List ℕ) → goes_on (past is_name_byte text) ≡ false
    → past_word text ≡ past is_name_byte text
word-ends text h =
    let rest = past is_name_byte text in
    sym (run-word text)
    ∙ each-rests name_part rest
    (no_name_part rest (calm-no_escape rest h) (starts_by-past is_name_byte text))

-- what is left of a word, after some of its letters, is calm, too
abbrev pub IsCalm : Option (List ℕ) → Type 0
IsCalm None = Unit {0}
IsCalm (Some rest) = goes_on (past is_name_byte rest) ≡ false

either-name : (low up b : ℕ) → is_name_byte low ≡ true → is_name_byte up ≡ true
    → is_either low up b ≡ true → is_name_byte b ≡ true
either-name low up b l u = by (b == low) refl
  where
    by : (t : Bool) → (b == low) ≡ t → (t || (b == up)) ≡ true → is_name_byte b ≡ true
    by true f e = ap is_name_byte (eqb-true b low f) ∙ l
    by false f e = ap is_name_byte (eqb-true b up e) ∙ u

-- a backslash or a parenthesis goes on
goes-on : (b k : ℕ) (text : List ℕ) → b ≡ k → is_name_byte k ≡ false → goes_on (k ∷ text) ≡ true
    → goes_on (past is_name_byte (b ∷ text)) ≡ true
goes-on b k text e n g =
    let name : is_name_byte b ≡ false = ap is_name_byte e ∙ n in
    ap goes_on (past-no is_name_byte b text name) ∙ ap (λ (c : ℕ). goes_on (c ∷ text)) e ∙ g

letter-calm : (low up : ℕ) → is_name_byte low ≡ true → is_name_byte up ≡ true → (text : List ℕ)
    → goes_on (past is_name_byte text) ≡ false → IsCalm (past_letter low up text)
unfolding past_letter
letter-calm low up l u [] h = tt
letter-calm low up l u (b ∷ text) h = by (is_either low up b) refl
  where
    escape : (t : Bool) → (b == 92) ≡ t → (x y : Bool)
        → IsCalm (if (t && x) && y then Some (past_escape text) else None)
    escape true e x y =
        absurd (let on = goes-on b 92 text (eqb-true b 92 e) refl refl in cc)
    escape false e x y = tt

    by : (t : Bool) → is_either low up b ≡ t
        → IsCalm (if t then Some text
        else (if begins_escape (b ∷ text) && is_either low up (escaped_char text)
        then Some (past_escape text) else None))
    by true e =
        let same = past-yes is_name_byte b text (either-name low up b l u e) in
        sym (ap goes_on same) ∙ h
    by false e = escape (b == 92) refl _ (is_either low up (escaped_char text))

then-calm : (low up : ℕ) → is_name_byte low ≡ true → is_name_byte up ≡ true
    → (o : Option (List ℕ)) → IsCalm o → IsCalm (then_letter low up o)
then-calm low up l u None h = tt
then-calm low up l u (Some text) h = letter-calm low up l u text h

open-calm : (o : Option (List ℕ)) → IsCalm o → is_some (then_open o) ≡ false
open-calm None h = refl
open-calm (Some []) h = refl
open-calm (Some (b ∷ text)) h = by (b == 40) refl _
  where
    by : (t : Bool) → (b == 40) ≡ t → (x : Bool)
        → is_some (if t && x then Some text else None) ≡ false
    by true e x = absurd (let on = goes-on b 40 text (eqb-true b 40 e) refl refl in cc)
    by false e x = refl

-- and so it begins no url
no-url : (text : List ℕ) → goes_on (past is_name_byte text) ≡ false → begins_url text ≡ false
no-url text h =
    open-calm (then_letter 108 76 (then_letter 114 82 (past_letter 117 85 text)))
    (then-calm 108 76 refl refl (then_letter 114 82 (past_letter 117 85 text))
    (then-calm 114 82 refl refl (past_letter 117 85 text)
    (letter-calm 117 85 refl refl text h)))

-- ---- the tokens

token-pick : (c q u d w : Bool) (A B C D E F : Quality × List ℕ) → c ≡ false → q ≡ false
    → u ≡ false → d ≡ false
    → (if c then A else (if q then B else (if u then C else (if d then D else
    (if w then E else F))))) ≡ (if w then E else F)
token-pick false false false false w A B C D E F hc hq hu hd = refl
token-pick true q u d w A B C D E F hc hq hu hd = absurd (cc)
token-pick false true u d w A B C D E F hc hq hu hd = absurd (cc)
token-pick false false true d w A B C D E F hc hq hu hd = absurd (cc)
token-pick false false false true w A B C D E F hc hq hu hd = absurd (cc)

-- a word or a sign
plain-token : (b : ℕ) (text : List ℕ) → is_plain b ≡ true
    → goes_on (past is_name_byte (b ∷ text)) ≡ false
    → token (b ∷ text) ≡ (if is_name_byte b || begins_escape (b ∷ text)
    then (Whole, past_word (b ∷ text)) else other_token b text)
unfolding token
plain-token b text h calm =
    token-pick (opens_comment (b ∷ text)) (is_quote b) (begins_url (b ∷ text))
    (begins_cdo (b ∷ text)) (is_name_byte b || begins_escape (b ∷ text)) _ _ _ _
    (Whole, past_word (b ∷ text)) (other_token b text) (plain-no_comment b text h)
    (plain-no_quote b h) (no-url (b ∷ text) calm) (plain-no_cdo b text h)

name-plain : (b : ℕ) → is_name_byte b ≡ true → is_plain b ≡ true
name-plain b h = rw h refl

sign-plain : (b : ℕ) → is_sign b ≡ true → is_plain b ≡ true
sign-plain b h = by (is_name_byte b)
  where
    by : (t : Bool) → (t || is_sign b) ≡ true
    by true = refl
    by false = h

word-token : (b : ℕ) (text : List ℕ) → is_name_byte b ≡ true
    → goes_on (past is_name_byte text) ≡ false
    → token (b ∷ text) ≡ (Whole, past is_name_byte text)
word-token b text name calm =
    let same : past is_name_byte (b ∷ text) ≡ past is_name_byte text =
    past-yes is_name_byte b text name in
    let calm_too : goes_on (past is_name_byte (b ∷ text)) ≡ false = ap goes_on same ∙ calm in
    plain-token b text (name-plain b name) calm_too
    ∙ ap (λ (t : Bool). if t || begins_escape (b ∷ text) then (Whole, past_word (b ∷ text))
    else other_token b text) name
    ∙ ap (λ (r : List ℕ). (Whole, r)) (word-ends (b ∷ text) calm_too ∙ same)

-- a sign, with the word after it if it is one of these two
other-pick : (h c s : Bool) (A B C D : Quality × List ℕ) → c ≡ false → s ≡ false
    → (if h then A else (if c then B else (if s then C else D))) ≡ (if h then A else D)
other-pick true c s A B C D hc hs = refl
other-pick false false false A B C D hc hs = refl
other-pick false true s A B C D hc hs = absurd (cc)
other-pick false false true A B C D hc hs = absurd (cc)

sign-token : (b : ℕ) (text : List ℕ) → is_name_byte b ≡ false → is_sign b ≡ true
    → token (b ∷ text)
    ≡ (if b == 35 || b == 64 then (Whole, past_word text) else (Whole, text))
sign-token b text name sign =
    let plain = sign-plain b sign in
    let calm : goes_on (past is_name_byte (b ∷ text)) ≡ false =
    ap goes_on (past-no is_name_byte b text name)
    ∙ rw (plain-not b 40 plain refl, plain-not b 92 plain refl) refl in
    let no_word : (is_name_byte b || begins_escape (b ∷ text)) ≡ false =
    ap (λ (t : Bool). t || begins_escape (b ∷ text)) name ∙ plain-no_escape b text plain in
    plain-token b text plain calm
    ∙ ap (λ (t : Bool). if t then (Whole, past_word (b ∷ text)) else other_token b text) no_word
    ∙ other-pick (b == 35 || b == 64) (is_closer b) (b == 92) _ _ _ _
    (plain-no_closer b plain) (plain-not b 92 plain refl)

-- ---- the parts

pub word-goes : (stops : Stops) (b : ℕ) (text : List ℕ) → stops.comma ≡ false
    → is_name_byte b ≡ true → goes_on (past is_name_byte text) ≡ false
    → Goes stops (b ∷ text) Whole (past is_name_byte text) (past_gap (past is_name_byte text))
word-goes stops b text comma name calm =
    goes-one stops (b ∷ text) Whole (past is_name_byte text) (past_gap (past is_name_byte text))
    (plain-part stops b text (past is_name_byte text) comma (name-plain b name)
    (word-token b text name calm))

-- a sign that is a part of its own, and the word after it
lone-goes : (stops : Stops) (b : ℕ) (text : List ℕ) → stops.comma ≡ false → is_plain b ≡ true
    → token (b ∷ text) ≡ (Whole, text) → goes_on (past is_name_byte text) ≡ false
    → Goes stops (b ∷ text) Whole (past is_name_byte text) (past_gap (past is_name_byte text))
lone-goes stops b [] comma plain e calm =
    goes-one stops (b ∷ []) Whole [] (past_gap []) (plain-part stops b [] [] comma plain e)
lone-goes stops b (c ∷ text) comma plain e calm = by (is_name_byte c) refl
  where
    lone : Goes stops (b ∷ c ∷ text) Whole (c ∷ text) (past_gap (c ∷ text))
    lone = goes-one stops (b ∷ c ∷ text) Whole (c ∷ text) (past_gap (c ∷ text))
        (plain-part stops b (c ∷ text) (c ∷ text) comma plain e)

    by : (t : Bool) → is_name_byte c ≡ t
        → Goes stops (b ∷ c ∷ text) Whole (past is_name_byte (c ∷ text))
        (past_gap (past is_name_byte (c ∷ text)))
    by true name =
        let same : past is_name_byte (c ∷ text) ≡ past is_name_byte text =
        past-yes is_name_byte c text name in
        let one : Goes stops (b ∷ c ∷ text) Whole (c ∷ text) (c ∷ text) =
        subst (λ (t : List ℕ). Goes stops (b ∷ c ∷ text) Whole (c ∷ text) t)
        (plain-no_gap c text (name-plain c name)) lone in
        rw same (goes-then stops (b ∷ c ∷ text) (c ∷ text) (c ∷ text) (past is_name_byte text)
        (past_gap (past is_name_byte text)) one
        (word-goes stops c text comma name (sym (ap goes_on same) ∙ calm)))
    by false name = rw (past-no is_name_byte c text name) lone

pub sign-goes : (stops : Stops) (b : ℕ) (text : List ℕ) → stops.comma ≡ false
    → is_name_byte b ≡ false → is_sign b ≡ true → goes_on (past is_name_byte text) ≡ false
    → Goes stops (b ∷ text) Whole (past is_name_byte text) (past_gap (past is_name_byte text))
sign-goes stops b text comma name sign calm = by (b == 35 || b == 64) refl
  where
    tok : token (b ∷ text) ≡ (if b == 35 || b == 64 then (Whole, past_word text) else (Whole, text))
    tok = sign-token b text name sign

    by : (t : Bool) → (b == 35 || b == 64) ≡ t
        → Goes stops (b ∷ text) Whole (past is_name_byte text) (past_gap (past is_name_byte text))
    by true e =
        goes-one stops (b ∷ text) Whole (past is_name_byte text)
        (past_gap (past is_name_byte text))
        (plain-part stops b text (past is_name_byte text) comma (sign-plain b sign)
        (tok ∙ ap (λ (t : Bool). if t then (Whole, past_word text) else (Whole, text)) e
        ∙ ap (λ (r : List ℕ). (Whole, r)) (word-ends text calm)))
    by false e =
        lone-goes stops b text comma (sign-plain b sign)
        (tok ∙ ap (λ (t : Bool). if t then (Whole, past_word text) else (Whole, text)) e) calm

-- a word, or a sign and the word after it
pub plain-goes : (stops : Stops) (b : ℕ) (text : List ℕ) → stops.comma ≡ false → is_plain b ≡ true
    → goes_on (past is_name_byte text) ≡ false
    → Goes stops (b ∷ text) Whole (past is_name_byte text) (past_gap (past is_name_byte text))
plain-goes stops b text comma plain calm = by (is_name_byte b) refl plain
  where
    by : (t : Bool) → is_name_byte b ≡ t → (t || is_sign b) ≡ true
        → Goes stops (b ∷ text) Whole (past is_name_byte text) (past_gap (past is_name_byte text))
    by true name e = word-goes stops b text comma name calm
    by false name e = sign-goes stops b text comma name e calm

-- as the code has it
pub took-plain : (stops : Stops) (b : ℕ) (bytes after rest : List ℕ) → bytes ≡ b ∷ after
    → rest ≡ past is_name_byte after → is_plain b ≡ true → stops.comma ≡ false
    → goes_on rest ≡ false → Goes stops bytes Whole rest (past_gap rest)
took-plain stops b bytes after rest e f plain comma calm =
    let found = plain-goes stops b after comma plain (sym (ap goes_on f) ∙ calm) in
    subst (λ (t : List ℕ). Goes stops t Whole rest (past_gap rest)) (sym e)
    (subst (λ (r : List ℕ). Goes stops (b ∷ after) Whole r (past_gap r)) (sym f) found)

pub took-no_gap : (b : ℕ) (bytes after : List ℕ) → bytes ≡ b ∷ after → is_plain b ≡ true
    → past_gap bytes ≡ bytes
took-no_gap b bytes after e plain =
    ap past_gap e ∙ plain-no_gap b after plain ∙ sym e

-- further ones after those up to `end`
pub plain-then : (stops : Stops) (bytes end from rest : List ℕ)
    → (length end < length bytes → Goes stops bytes Whole end (past_gap end))
    → (length bytes ≤ length end → from ≡ bytes) → past_gap from ≡ past_gap end
    → past_gap from ≡ from → Goes stops from Whole rest (past_gap rest)
    → Goes stops bytes Whole rest (past_gap rest)
plain-then stops bytes end from rest before start gap none found =
    elim (cases_lt (length end) (length bytes)) [
      | inl less ↦
          goes-then stops bytes end from rest (past_gap rest)
          (subst (λ (t : List ℕ). Goes stops bytes Whole end t) (sym gap ∙ none) (before less))
          found
      | inr all ↦ subst (λ (t : List ℕ). Goes stops t Whole rest (past_gap rest)) (start all) found
    ]

pub gap-spaces : (rest from : List ℕ) → from ≡ past is_space rest → past_gap from ≡ past_gap rest
gap-spaces rest from e = ap past_gap e ∙ run-gap rest

pub spaces-within : (rest from : List ℕ) → from ≡ past is_space rest → length from ≤ length rest
spaces-within rest from e = omega (arith, ap length e, length-past is_space rest)

-- any other component value
pub value-goes : (stops : Stops) (text : List ℕ) (quality : Quality) (rest next : List ℕ)
    → ends_at stops text ≡ false → component_value deepest text ≡ (quality, rest)
    → next ≡ past_gap rest → Goes stops text quality rest next
value-goes stops text quality rest next more value gap =
    let found : part stops text ≡ Some ((quality, rest), past_gap rest) =
    rw more (ap (λ (x : Quality × List ℕ). Some (with_gap x)) value) in
    subst (λ (t : List ℕ). Goes stops text quality rest t) (sym gap)
    (goes-one stops text quality rest (past_gap rest) found)
