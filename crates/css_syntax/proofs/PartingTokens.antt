-- Tokens of two texts that part after them.
-- Serves `laws::printed_declarations_read_back`.
use Rattle.std.proofs.Common.{◌≡◌, ℕ, suc, ◌<◌, ◌≤◌, ◌==◌, ◌||◌, ◌&&◌, not, Bool, true, false, List, [], ◌∷◌, length, length-append, Option, Some, None, arith, refl, ap, subst, if◌then◌else◌}
use Rattle.css_text.specs.AsciiBytes.{asterisk, slash, backslash, close_parenthesis}
use Rattle.css_text.specs.Reading.{each}
use Rattle.css_text.specs.Bytes.{past, past_one, starts}
use Rattle.css_text.specs.Characters.{is_space}
use Rattle.css_text.specs.Comments.{opens_comment, after_close}
use Rattle.css_text.proofs.reading.GotLemmas.{IfAfter, after_close-after}
use Rattle.css_text.proofs.reading.TakesLemmas.{each-within, length-past}
use Rattle.css_syntax.specs.declared.quality.Quality.{Quality}
use Rattle.css_syntax.specs.declared.quality.Quality.TheVariants.{Whole, BadString, BadUrl}
use Rattle.css_syntax.specs.Tokens.{is_newline, past_newline, past_escape, begins_escape, from_close, closed_or_open, past_comment, gap_part, past_gap, string_part, string_end, past_string, is_name_byte, name_part, past_word, url_part, url_end, past_url}
use Rattle.css_syntax.proofs.Shorter.{past_escape-within, past_comment-within, gap_part-takes, string_part-takes, name_part-takes, url_part-takes}
use Rattle.css_syntax.proofs.Parting.{Parting, Kept, Quiet, past_escape-kept, past-kept, Follows, follows-if, Any, each_left-kept}
use Rattle.css_syntax.proofs.Parting.Parting.{at, on, pair}

-- ---- words

name_part-follows : (t u : List ℕ) → Quiet u → name_part u ≡ None → (r s : List ℕ)
    → Parting t u r s → length t ≤ length r
    → Follows Any (length t) t u (name_part r) (name_part s)
unfolding name_part
name_part-follows [] u q e r s at l = rw e tt
name_part-follows (b ∷ t) u q e r s at l = rw e (by (is_name_byte b) (begins_escape (b ∷ t)))
  where
    by : (k m : Bool) → Follows Any (length (b ∷ t)) (b ∷ t) u
        (if k then Some (tt {0}, t) else (if m then Some (tt {0}, past_escape t) else None)) None
    by true m = omega arith
    by false true = omega (arith, past_escape-within t)
    by false false = tt
name_part-follows t u q e r s (on b r1 s1 f h) l =
    follows-if Any (length t) t u (is_name_byte b) _ _ _ _ (λ p k. (refl, h)) (rw f tt)
name_part-follows t u q e r s (pair c r1 s1 h) l =
    follows-if Any (length t) t u (not (is_newline c)) (Some (tt, past_escape (c ∷ r1))) None
    (Some (tt, past_escape (c ∷ s1))) None (λ p k. (refl, past_escape-kept t u q c r1 s1 h k)) tt

pub word-kept : (t u : List ℕ) → Quiet u → name_part u ≡ None → (r s : List ℕ)
    → Parting t u r s → Kept t u (past_word r) (past_word s)
word-kept t u q e r s h l =
    each_left-kept name_part name_part-takes (length t) t u (name_part-follows t u q e) r s h l

-- ---- comments and gaps

-- if a comment closes in the first text where the texts part or before, it does in the second
abbrev pub Closes : (t u : List ℕ) → Option (List ℕ) → Option (List ℕ) → Type 0
Closes t u None p = Unit {0}
Closes t u (Some x) None = length x < length t
Closes t u (Some x) (Some y) = Kept t u x y

closes-passed : (t u x : List ℕ) (p : Option (List ℕ)) → length x < length t → Closes t u (Some x) p
closes-passed t u x None h = h
closes-passed t u x (Some y) h = λ l. absurd (omega arith)

closes-if : (t u : List ℕ) (c : Bool) (a b x y : Option (List ℕ)) → Closes t u a x → Closes t u b y
    → Closes t u (if c then a else b) (if c then x else y)
closes-if t u true a b x y h k = h
closes-if t u false a b x y h k = k

-- what is left after a comment
pub close-less : (t x : List ℕ) → after_close t ≡ Some x → length x < length t
close-less t x e =
    let found = subst (IfAfter slash t) e (after_close-after t) in
    omega (arith, ap length found.1, length-append found.0 (slash ∷ x))

-- one byte further
close-step : (t u : List ℕ) → starts slash u ≡ false → (b : ℕ) (r s : List ℕ) → Parting t u r s
    → Closes t u (after_close r) (after_close s)
    → Closes t u (after_close (b ∷ r)) (after_close (b ∷ s))
close-step t u e b r s h more = by r s h more
  where
    -- at the last byte before the texts part
    last : (k m : Bool) → starts slash t ≡ m → Closes t u (after_close t) (after_close u)
        → Closes t u (if k && m then Some (past_one t) else after_close t)
        (if k && false then Some (past_one u) else after_close u)
    last true true f more = closes-passed t u (past_one t) (after_close u) (shorter t f)
      where
        shorter : (t : List ℕ) → starts slash t ≡ true → length (past_one t) < length t
        shorter [] f = absurd (cc)
        shorter (c ∷ t) f = omega arith
    last true false f more = more
    last false m f more = more

    never : (k : Bool) (a x : List ℕ) (o p : Option (List ℕ)) → Closes t u o p
        → Closes t u (if k && false then Some a else o) (if k && false then Some x else p)
    never true a x o p h = h
    never false a x o p h = h

    by : (r s : List ℕ) → Parting t u r s → Closes t u (after_close r) (after_close s)
        → Closes t u (after_close (b ∷ r)) (after_close (b ∷ s))
    by r s at more = rw e (last (b == asterisk) (starts slash t) refl more)
    by r s (on c r2 s2 f g) more =
        closes-if t u (b == asterisk && c == slash) (Some r2) _ (Some s2) _ (λ l. g) more
    by r s (pair c r2 s2 g) more =
        never (b == asterisk) (c ∷ r2) (c ∷ s2) (after_close (backslash ∷ c ∷ r2))
        (after_close (backslash ∷ c ∷ s2)) more

pub after_close-kept : (t u : List ℕ) → starts slash u ≡ false → (r s : List ℕ) → Parting t u r s
    → Closes t u (after_close r) (after_close s)
after_close-kept t u e r s at = by (after_close t) refl
  where
    by : (o : Option (List ℕ)) → after_close t ≡ o → Closes t u o (after_close u)
    by None f = tt
    by (Some x) f = closes-passed t u x (after_close u) (close-less t x f)
after_close-kept t u e r s (on b r1 s1 f h) =
    close-step t u e b r1 s1 h (after_close-kept t u e r1 s1 h)
after_close-kept t u e r s (pair c r1 s1 h) =
    close-step t u e c r1 s1 h (after_close-kept t u e r1 s1 h)

-- a comment that is closed before the texts part
pub comment-kept : (t u : List ℕ) → starts slash u ≡ false → (r s : List ℕ) → Parting t u r s
    → closed_or_open (after_close r) ≡ Whole → length t ≤ length (from_close (after_close r))
    → (closed_or_open (after_close s) ≡ Whole)
    × Parting t u (from_close (after_close r)) (from_close (after_close s))
comment-kept t u e r s h w l = by (after_close r) (after_close s) (after_close-kept t u e r s h) w l
  where
    by : (o p : Option (List ℕ)) → Closes t u o p → closed_or_open o ≡ Whole
        → length t ≤ length (from_close o)
        → (closed_or_open p ≡ Whole) × Parting t u (from_close o) (from_close p)
    by None p k w l = absurd (cc)
    by (Some x) None k w l = absurd (omega arith)
    by (Some x) (Some y) k w l = (refl, k l)

-- a comment of which something is left before the texts part
strict-kept : (t u : List ℕ) → starts slash u ≡ false → (r s : List ℕ) → Parting t u r s
    → length t < length (from_close (after_close r))
    → Parting t u (from_close (after_close r)) (from_close (after_close s))
strict-kept t u e r s h l = by (after_close r) (after_close s) (after_close-kept t u e r s h) l
  where
    by : (o p : Option (List ℕ)) → Closes t u o p → length t < length (from_close o)
        → Parting t u (from_close o) (from_close p)
    by None p k l = absurd (omega arith)
    by (Some x) None k l = absurd (omega arith)
    by (Some x) (Some y) k l = k (omega arith)

pub gap_part-follows : (t u : List ℕ) → starts slash u ≡ false → starts asterisk u ≡ false
    → (r s : List ℕ) → Parting t u r s → suc (length t) ≤ length r
    → Follows Any (suc (length t)) t u (gap_part r) (gap_part s)
unfolding gap_part past_comment
gap_part-follows t u e f r s at l = absurd (omega arith)
gap_part-follows t u e f r s (on b r1 s1 g h) l =
    follows-if Any (suc (length t)) t u (is_space b) _ _ _ _ (λ p k. (refl, h)) (by r1 s1 h)
  where
    last : (k : Bool) → Follows Any (suc (length t)) t u
        (if k then Some (tt {0}, past_comment (b ∷ t)) else None) None
    last true = omega (arith, past_comment-within b t)
    last false = tt

    none : (k : Bool) → (k && false) ≡ false
    none true = refl
    none false = refl

    by : (r1 s1 : List ℕ) → Parting t u r1 s1 → Follows Any (suc (length t)) t u
        (if opens_comment (b ∷ r1) then Some (tt {0}, past_comment (b ∷ r1)) else None)
        (if opens_comment (b ∷ s1) then Some (tt {0}, past_comment (b ∷ s1)) else None)
    by r1 s1 at = rw (f, none (b == slash)) (last (opens_comment (b ∷ t)))
    by r1 s1 (on c r2 s2 j g) =
        follows-if Any (suc (length t)) t u (opens_comment (b ∷ c ∷ r2)) _ _ _ _
        (λ p k. (refl, strict-kept t u e r2 s2 g k)) tt
    by r1 s1 (pair c r2 s2 g) = never (b == slash)
      where
        never : (k : Bool) → Follows Any (suc (length t)) t u
            (if k && false then Some (tt {0}, past_comment (b ∷ backslash ∷ c ∷ r2)) else None)
            (if k && false then Some (tt {0}, past_comment (b ∷ backslash ∷ c ∷ s2)) else None)
        never true = tt
        never false = tt
gap_part-follows t u e f r s (pair c r1 s1 h) l = tt

pub gap-kept : (t u : List ℕ) → starts slash u ≡ false → starts asterisk u ≡ false
    → (r s : List ℕ) → Parting t u r s → length t < length (past_gap r)
    → Parting t u (past_gap r) (past_gap s)
gap-kept t u e f r s h l =
    each_left-kept gap_part gap_part-takes (suc (length t)) t u (gap_part-follows t u e f) r s h
    (omega arith)

-- ---- strings

-- if the first reading is whole and stops where the texts part or before, the second is alike
abbrev pub WholeKept : (t u : List ℕ) → Quality × List ℕ → Quality × List ℕ → Type 0
WholeKept t u x y =
    x.0 ≡ Whole → length t ≤ length x.1 → (y.0 ≡ Whole) × Parting t u x.1 y.1

pub whole-if : (t u : List ℕ) (c : Bool) (a b x y : Quality × List ℕ) → WholeKept t u a x
    → WholeKept t u b y → WholeKept t u (if c then a else b) (if c then x else y)
whole-if t u true a b x y h k = h
whole-if t u false a b x y h k = k

string_part-follows : (quote : ℕ) → (backslash == quote) ≡ false → (t u : List ℕ) → Quiet u
    → (r s : List ℕ) → Parting t u r s
    → suc (length t) ≤ length r
    → Follows Any (suc (length t)) t u (string_part quote r) (string_part quote s)
unfolding string_part
string_part-follows quote n t u q r s at l = absurd (omega arith)
string_part-follows quote n t u q r s (on b r1 s1 f h) l =
    follows-if Any (suc (length t)) t u (b == quote || is_newline b) None _ None _ tt
    (rw f (λ p k. (refl, h)))
string_part-follows quote n t u q r s (pair c r1 s1 h) l =
    rw n (λ p k. (refl, past_escape-kept t u q c r1 s1 h (omega arith)))

abbrev string_closed : Bool → ℕ → List ℕ → Quality × List ℕ
string_closed k b e = if k then (Whole, e) else (BadString, past_newline (b ∷ e))

string_end-less : (quote : ℕ) (e : List ℕ) → (string_end quote e).0 ≡ Whole
    → length (string_end quote e).1 < length e
string_end-less quote [] w = absurd (cc)
string_end-less quote (b ∷ e) w = by (b == quote) w
  where
    by : (k : Bool) → (string_closed k b e).0 ≡ Whole
        → length (string_closed k b e).1 < length (b ∷ e)
    by true w = omega arith
    by false w = absurd (cc)

string_end-kept : (quote : ℕ) → (backslash == quote) ≡ false → (t u e f : List ℕ)
    → Parting t u e f → length t < length e
    → WholeKept t u (string_end quote e) (string_end quote f)
string_end-kept quote n t u e f at k = absurd (omega arith)
string_end-kept quote n t u e f (on b r1 s1 g h) k =
    whole-if t u (b == quote) (Whole, r1) _ (Whole, s1) _ (λ w l. (refl, h)) (λ w l. absurd (cc))
string_end-kept quote n t u e f (pair c r1 s1 h) k = rw n (λ w l. absurd (cc))

pub past_string-kept : (quote : ℕ) → (backslash == quote) ≡ false → (t u : List ℕ) → Quiet u
    → (r s : List ℕ) → Parting t u r s
    → WholeKept t u (past_string quote r) (past_string quote s)
unfolding past_string
past_string-kept quote n t u q r s h w l =
    let e = (each (string_part quote) r).1 in
    let before_end : length t < length e = omega (arith, l, string_end-less quote e w) in
    string_end-kept quote n t u e (each (string_part quote) s).1
    (each_left-kept (string_part quote) (string_part-takes quote) (suc (length t)) t u
    (string_part-follows quote n t u q) r s h (omega arith))
    before_end w l

-- ---- urls

url_part-follows : (t u : List ℕ) → Quiet u → (r s : List ℕ) → Parting t u r s
    → suc (length t) ≤ length r → Follows Any (suc (length t)) t u (url_part r) (url_part s)
unfolding url_part
url_part-follows t u q r s at l = absurd (omega arith)
url_part-follows t u q r s (on b r1 s1 f h) l =
    rw f (follows-if Any (suc (length t)) t u _ None (Some (tt, r1)) None (Some (tt, s1)) tt
    (λ p k. (refl, h)))
url_part-follows t u q r s (pair c r1 s1 h) l =
    follows-if Any (suc (length t)) t u (not (is_newline c)) (Some (tt, past_escape (c ∷ r1))) None
    (Some (tt, past_escape (c ∷ s1))) None (λ p k. (refl, strict k)) tt
  where
    strict : suc (length t) ≤ length (past_escape (c ∷ r1))
        → Parting t u (past_escape (c ∷ r1)) (past_escape (c ∷ s1))
    strict k = past_escape-kept t u q c r1 s1 h (omega arith)

abbrev chosen_end : Bool → List ℕ → List ℕ → Quality × List ℕ
chosen_end k e left = if k then (Whole, e) else (BadUrl, left)

url_end-less : (e : List ℕ) → (url_end e).0 ≡ Whole → length (url_end e).1 < length e
url_end-less [] w = absurd (cc)
url_end-less (b ∷ e) w = by (b == close_parenthesis) _ w
  where
    by : (k : Bool) (left : List ℕ) → (chosen_end k e left).0 ≡ Whole
        → length (chosen_end k e left).1 < length (b ∷ e)
    by true left w = omega arith
    by false left w = absurd (cc)

url_end-kept : (t u e f : List ℕ) → Parting t u e f → length t < length e
    → WholeKept t u (url_end e) (url_end f)
url_end-kept t u e f at k = absurd (omega arith)
url_end-kept t u e f (on b r1 s1 g h) k =
    whole-if t u (b == close_parenthesis) (Whole, r1) _ (Whole, s1) _ (λ w l. (refl, h))
    (λ w l. absurd (cc))
url_end-kept t u e f (pair c r1 s1 h) k = λ w l. absurd (cc)

-- a url that is whole ends after it begins
pub past_url-less : (r : List ℕ) → (past_url r).0 ≡ Whole → length (past_url r).1 < length r
unfolding past_url
past_url-less r w =
    let bare = (each url_part (past is_space r)).1 in
    omega (
      arith,
      url_end-less (past is_space bare) w,
      length-past is_space bare,
      each-within url_part url_part-takes (past is_space r),
      length-past is_space r,
    )

pub past_url-kept : (t u : List ℕ) → Quiet u → (r s : List ℕ) → Parting t u r s
    → WholeKept t u (past_url r) (past_url s)
unfolding past_url
past_url-kept t u q r s h w l =
    let start = past is_space r in
    let bare = (each url_part start).1 in
    let e = past is_space bare in
    let at_end : length t < length e = omega (arith, l, url_end-less e w) in
    let at_bare : length t < length bare = omega (arith, at_end, length-past is_space bare) in
    let at_start : length t < length start =
    omega (arith, at_bare, each-within url_part url_part-takes start) in
    let other = (each url_part (past is_space s)).1 in
    url_end-kept t u e (past is_space other)
    (past-kept t u is_space refl bare other
    (each_left-kept url_part url_part-takes (suc (length t)) t u (url_part-follows t u q) start
    (past is_space s) (past-kept t u is_space refl r s h at_start) (omega arith))
    at_end)
    at_end w l
