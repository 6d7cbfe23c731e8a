-- No blank follows a blank, and gaps by what is in them.
-- Serves `readers::consume_gap`, `Stream::skip_spaces_and_comments`, `SelectorTokenizer` (a blank
-- is consumed once) and `Selector::parse` (gaps that are printed).
use Rattle.std.proofs.Common.{◌≡◌, ℕ, List, [], ◌∷◌, Bool, true, false, if◌then◌else◌, ◌==◌, None, refl, ap, subst, ◌∙◌}
use Rattle.std.specs.List.{list_any}
use Rattle.css_text.specs.AsciiBytes.{slash, space}
use Rattle.css_text.specs.Reading.{Fault, got, fails, no_comment, follow, followed_by, each}
use Rattle.css_text.specs.Characters.{is_space}
use Rattle.css_text.specs.Comments.{opens_comment, blank_part, past_blank, blank, has_space, gap}
use Rattle.css_text.proofs.reading.EachLemmas.{each-none, each-some, each-stops}
use Rattle.css_text.proofs.reading.TakesLemmas.{blank_part-takes}

-- no part of a blank follows one
past_blank-none : (text : List ℕ) → each blank_part (past_blank text) ≡ ([], past_blank text)
past_blank-none text = each-none blank_part (past_blank text)
    (each-stops blank_part blank_part-takes text)

pub past_blank-again : (text : List ℕ) → past_blank (past_blank text) ≡ past_blank text
past_blank-again text = ap (λ r. r.1) (past_blank-none text)

pub no_space_after : (text : List ℕ) → has_space (past_blank text) ≡ false
no_space_after text = rw (past_blank-none text) refl

-- an empty gap follows a gap
pub gap-again : (text start : List ℕ) (spaced : Bool) → gap text ≡ got spaced start
    → gap start ≡ got false start
unfolding gap blank
gap-again text start spaced = by (opens_comment (past_blank text)) refl
  where
    by : (t : Bool) → opens_comment (past_blank text) ≡ t
        → follow (if t then fails (no_comment (past_blank text)) [] else got (tt {0})
        (past_blank text)) (λ u. got (has_space text)) ≡ got spaced start
        → gap start ≡ got false start
    by true e h = absurd (cc)
    by false e h =
        let same : past_blank text ≡ start = cc in
        let again : gap (past_blank text) ≡ got false (past_blank text) =
        rw (past_blank-again text, e, no_space_after text) refl in
        subst (λ (t : List ℕ). gap t ≡ got false t) same again

pub gap_is_closed : (text : List ℕ) → opens_comment (past_blank text) ≡ false
    → gap text ≡ got (has_space text) (past_blank text)
unfolding gap blank
gap_is_closed text e = rw e refl

pub gap_is_open : (text : List ℕ) → opens_comment (past_blank text) ≡ true
    → gap text ≡ fails (no_comment (past_blank text)) []
unfolding gap blank
gap_is_open text e = rw e refl

-- a blank, where the gap is read
pub blank_where_gap_is_got : (text rest : List ℕ) (spaced : Bool) → gap text ≡ got spaced rest
    → blank text ≡ got (tt {0}) rest
unfolding gap blank
blank_where_gap_is_got text rest spaced = by (opens_comment (past_blank text)) refl
  where
    by : (t : Bool) → opens_comment (past_blank text) ≡ t
        → follow (if t then fails (no_comment (past_blank text)) [] else got (tt {0})
        (past_blank text)) (λ u. got (has_space text)) ≡ got spaced rest
        → blank text ≡ got (tt {0}) rest
    by true e h = absurd (cc)
    by false e h = let same : past_blank text ≡ rest = cc in rw (e, same) refl

pub blank_where_gap_fails : (text rest : List ℕ) (fault : Fault) → gap text ≡ fails fault rest
    → blank text ≡ fails fault rest
unfolding gap blank
blank_where_gap_fails text rest fault = by (opens_comment (past_blank text)) refl
  where
    by : (t : Bool) → opens_comment (past_blank text) ≡ t
        → follow (if t then fails (no_comment (past_blank text)) [] else got (tt {0})
        (past_blank text)) (λ u. got (has_space text)) ≡ fails fault rest
        → blank text ≡ fails fault rest
    by true e h =
        let which : no_comment (past_blank text) ≡ fault = cc in
        let left : [] ≡ rest = cc in
        rw (e, which, left) refl
    by false e h = absurd (cc)

-- ---- where no gap begins

-- no gap begins there, nor an open comment
pub record NoGap (text : List ℕ) : Type 0 where
  pub none : each blank_part text ≡ ([], text)
  pub closed : opens_comment text ≡ false

-- no gap begins with another byte
pub no_gap-byte : (b : ℕ) (text : List ℕ) → is_space b ≡ false → (b == slash) ≡ false
    → NoGap (b ∷ text)
no_gap-byte b text not_space not_slash =
    let part : blank_part (b ∷ text) ≡ None = rw (not_space, not_slash) refl in
    record { none = each-none blank_part (b ∷ text) part; closed = rw not_slash refl }

-- a blank, by what is left after it
pub blank-at : (text rest : List ℕ) → past_blank text ≡ rest → opens_comment rest ≡ false
    → blank text ≡ got tt rest
unfolding blank
blank-at text rest p c =
    ap (λ t. if opens_comment t then fails (no_comment t) [] else got (tt {0}) t) p
    ∙ ap (λ (k : Bool). if k then fails (no_comment rest) [] else got (tt {0}) rest) c

-- a gap, by its parts and what is left after it
gap-at : (text rest : List ℕ) (parts : List Bool) → each blank_part text ≡ (parts, rest)
    → opens_comment rest ≡ false → gap text ≡ got (list_any (λ b. b) parts) rest
gap-at text rest parts e c =
    gap_is_closed text (ap (λ r. opens_comment r.1) e ∙ c)
    ∙ ap (λ r. got (list_any (λ b. b) r.0) r.1) e

-- a gap that is empty
pub gap-none : (text : List ℕ) → NoGap text → gap text ≡ got false text
gap-none text w = gap-at text text [] w.none w.closed

-- a space, and no further gap
pub gap-space : (text : List ℕ) → NoGap text → gap (space ∷ text) ≡ got true text
gap-space text w =
    let part : each blank_part (space ∷ text) ≡ followed_by true (each blank_part text) =
    each-some blank_part blank_part-takes (space ∷ text) text true refl in
    gap-at (space ∷ text) text (true ∷ []) (part ∙ ap (followed_by true) w.none) w.closed
