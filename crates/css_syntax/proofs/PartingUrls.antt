-- `url(` and `<!--` in two texts that part after the token that begins there.
-- Serves `laws::printed_declarations_read_back`.
use Rattle.std.proofs.Common.{◌≡◌, ℕ, zero, suc, ◌<◌, ◌≤◌, ◌+◌, ◌*◌, ◌==◌, ◌||◌, ◌&&◌, not, Bool, true, false, List, [], ◌∷◌, length, drop, length-drop, Option, Some, None, arith, refl, sym, ap, subst, ◌∙◌, if◌then◌else◌, eqb-true}
use Rattle.css_text.specs.AsciiBytes.{backslash, open_parenthesis, hyphen, exclamation_mark}
use Rattle.css_text.specs.Bytes.{past, starts_by, starts_two, is_hex_digit}
use Rattle.css_text.specs.Characters.{is_space}
use Rattle.css_text.specs.Strings.{is_quote}
use Rattle.css_text.proofs.bytes.RunLemmas.{past-yes, past-no}
use Rattle.css_syntax.specs.Tokens.{is_newline, past_hex, past_one_space, past_escape, begins_escape, hex_digit, hex_number, escaped_char, is_either, past_letter, then_letter, then_open, after_url, is_name_byte, name_part, past_word, begins_cdo}
use Rattle.css_syntax.proofs.Shorter.{each-goes, each-rests, name_part-takes, past_one_space-within, past_hex-within, word-less, past_word_within}
use Rattle.css_syntax.proofs.Parting.{Parting, Quiet, past_escape-kept}
use Rattle.css_syntax.proofs.Parting.Parting.{at, on, pair}

-- ---- letters

-- the word at the start ends where the texts part or before
abbrev pub WordKept : List ℕ → List ℕ → Type 0
WordKept t r = length t ≤ length (past_word r)

hex_number-same : (t u : List ℕ) → ((n so_far : ℕ) → hex_number n so_far u ≡ so_far)
    → (n so_far : ℕ) (r s : List ℕ) → Parting t u r s → length t ≤ length (past_hex n r)
    → hex_number n so_far r ≡ hex_number n so_far s
hex_number-same t u e zero so_far r s h l = refl
hex_number-same [] u e (suc n) so_far r s at l = sym (e (suc n) so_far)
hex_number-same (b ∷ t) u e (suc n) so_far r s at l = by (is_hex_digit b) refl
  where
    by : (k : Bool) → is_hex_digit b ≡ k
        → hex_number (suc n) so_far (b ∷ t) ≡ hex_number (suc n) so_far u
    by true f =
        absurd
        (let longer : length (b ∷ t) ≤ length (past_hex n t) = rw f at l in
        omega (arith, longer, past_hex-within n t))
    by false f = rw f (sym (e (suc n) so_far))
hex_number-same t u e (suc n) so_far r s (pair c r1 s1 h) l = refl
hex_number-same t u e (suc n) so_far r s (on b r1 s1 g h) l =
    by (hex_number-same t u e n (16 * so_far + hex_digit b) r1 s1 h) (is_hex_digit b) refl
  where
    by : (length t ≤ length (past_hex n r1)
        → hex_number n (16 * so_far + hex_digit b) r1 ≡ hex_number n (16 * so_far + hex_digit b) s1)
        → (k : Bool) → is_hex_digit b ≡ k
        → hex_number (suc n) so_far (b ∷ r1) ≡ hex_number (suc n) so_far (b ∷ s1)
    by more true f =
        let left : length t ≤ length (past_hex n r1) = rw f at l in
        rw f (more left)
    by more false f = rw f refl

escaped_char-same : (t u : List ℕ) → ((n so_far : ℕ) → hex_number n so_far u ≡ so_far)
    → (c : ℕ) (r s : List ℕ) → Parting t u r s → length t ≤ length (past_escape (c ∷ r))
    → escaped_char (c ∷ r) ≡ escaped_char (c ∷ s)
unfolding past_escape
escaped_char-same t u e c r s h l = by (is_hex_digit c) refl
  where
    by : (k : Bool) → is_hex_digit c ≡ k → escaped_char (c ∷ r) ≡ escaped_char (c ∷ s)
    by true f =
        let spaced : length t ≤ length (past_one_space (past_hex 5 r)) = rw f at l in
        let left : length t ≤ length (past_hex 5 r) =
        omega (arith, spaced, past_one_space-within (past_hex 5 r)) in
        rw f (hex_number-same t u e 5 (16 * 0 + hex_digit c) r s h left)
    by false f = rw f refl

-- the word after a byte of a name, and after an escape
pub word-byte : (b : ℕ) (r : List ℕ) → is_name_byte b ≡ true → past_word (b ∷ r) ≡ past_word r
unfolding name_part
word-byte b r e =
    let found : name_part (b ∷ r) ≡ Some (tt, r) = rw e refl in
    sym (each-goes name_part name_part-takes (b ∷ r) r tt found)

escape_no-name : (b : ℕ) (r : List ℕ) → begins_escape (b ∷ r) ≡ true → is_name_byte b ≡ false
escape_no-name b r e = by (b == backslash) refl
  where
    by : (k : Bool) → (b == backslash) ≡ k → is_name_byte b ≡ false
    by true f = subst (λ (c : ℕ). is_name_byte c ≡ false) (sym (eqb-true b backslash f)) refl
    by false f = absurd (let wrong = rw f at e in cc)

pub word-escape : (b : ℕ) (r : List ℕ) → begins_escape (b ∷ r) ≡ true
    → past_word (b ∷ r) ≡ past_word (past_escape r)
unfolding name_part
word-escape b r e =
    let no = escape_no-name b r e in
    let found : name_part (b ∷ r) ≡ Some (tt, past_escape r) = rw (no, e) refl in
    sym (each-goes name_part name_part-takes (b ∷ r) (past_escape r) tt found)

pub either-name : (low up b : ℕ) → is_name_byte low ≡ true → is_name_byte up ≡ true
    → is_either low up b ≡ true → is_name_byte b ≡ true
either-name low up b l u e = by (b == low) (b == up) refl refl e
  where
    by : (k m : Bool) → (b == low) ≡ k → (b == up) ≡ m → (k || m) ≡ true → is_name_byte b ≡ true
    by true m f g e = subst (λ (c : ℕ). is_name_byte c ≡ true) (sym (eqb-true b low f)) l
    by false true f g e = subst (λ (c : ℕ). is_name_byte c ≡ true) (sym (eqb-true b up g)) u
    by false false f g e = absurd (cc)

-- a letter is found in both texts or in none, and what follows it is alike
abbrev pub Letters : (t u : List ℕ) → Option (List ℕ) → Option (List ℕ) → Type 0
Letters t u None None = Unit {0}
Letters t u (Some x) (Some y) = Parting t u x y × WordKept t x
Letters t u None (Some y) = ⊥
Letters t u (Some x) None = ⊥

-- what a text that begins no letter owes
pub record NoLetter (u : List ℕ) : Type 0 where
  pub number : (n so_far : ℕ) → hex_number n so_far u ≡ so_far
  pub letter : (low up : ℕ) → is_name_byte low ≡ true → is_name_byte up ≡ true
      → past_letter low up u ≡ None

no_word-letter : (low up b : ℕ) (t : List ℕ) → is_name_byte low ≡ true → is_name_byte up ≡ true
    → length (b ∷ t) ≤ length (past_word (b ∷ t)) → past_letter low up (b ∷ t) ≡ None
unfolding past_letter
no_word-letter low up b t l m w = by (is_either low up b) (begins_escape (b ∷ t)) refl refl
  where
    by : (k n : Bool) → is_either low up b ≡ k → begins_escape (b ∷ t) ≡ n
        → past_letter low up (b ∷ t) ≡ None
    by true n e f =
        let name = either-name low up b l m e in
        let word : (is_name_byte b || begins_escape (b ∷ t)) ≡ true = rw name refl in
        absurd (omega (arith, w, word-less b t word))
    by false true e f =
        let no = escape_no-name b t f in
        let word : (is_name_byte b || begins_escape (b ∷ t)) ≡ true = rw (no, f) refl in
        absurd (omega (arith, w, word-less b t word))
    by false false e f = rw (e, f) refl

letter-kept : (low up : ℕ) (t u : List ℕ) → Quiet u → NoLetter u → is_name_byte low ≡ true
    → is_name_byte up ≡ true → (r s : List ℕ) → Parting t u r s → WordKept t r
    → Letters t u (past_letter low up r) (past_letter low up s)
unfolding past_letter
letter-kept low up [] u q n l m r s at w =
    subst (Letters [] u None) (sym (n.letter low up l m)) tt
letter-kept low up (b ∷ t) u q n l m r s at w =
    subst (Letters (b ∷ t) u (past_letter low up (b ∷ t))) (sym (n.letter low up l m))
    (subst (λ o. Letters (b ∷ t) u o None) (sym (no_word-letter low up b t l m w)) tt)
letter-kept low up t u q n l m r s (on b r1 s1 g h) w = by (is_either low up b) refl
  where
    by : (k : Bool) → is_either low up b ≡ k
        → Letters t u (past_letter low up (b ∷ r1)) (past_letter low up (b ∷ s1))
    by true e =
        let name = either-name low up b l m e in
        let left : WordKept t r1 =
        subst (λ (x : List ℕ). length t ≤ length x) (word-byte b r1 name) w in
        rw e (h, left)
    by false e = rw (e, g) tt
letter-kept low up t u q n l m r s (pair c r1 s1 h) w =
    rw no_letter (by (not (is_newline c)) refl)
  where
    no_letter : is_either low up backslash ≡ false
    no_letter = inner (is_either low up backslash) refl
      where
        inner : (k : Bool) → is_either low up backslash ≡ k → is_either low up backslash ≡ false
        inner true e =
            absurd (let wrong = either-name low up backslash l m e in cc)
        inner false e = e

    chosen : (k o : Bool) → k ≡ o → Parting t u (past_escape (c ∷ r1)) (past_escape (c ∷ s1))
        → WordKept t (past_escape (c ∷ r1))
        → Letters t u (if k then Some (past_escape (c ∷ r1)) else None)
        (if o then Some (past_escape (c ∷ s1)) else None)
    chosen true true e g v = (g, v)
    chosen false false e g v = tt
    chosen true false e g v = absurd (cc)
    chosen false true e g v = absurd (cc)

    by : (k : Bool) → not (is_newline c) ≡ k
        → Letters t u
        (if k && is_either low up (escaped_char (c ∷ r1)) then Some (past_escape (c ∷ r1))
        else None)
        (if k && is_either low up (escaped_char (c ∷ s1)) then Some (past_escape (c ∷ s1))
        else None)
    by true e =
        let left : WordKept t (past_escape (c ∷ r1)) =
        subst (λ (x : List ℕ). length t ≤ length x) (word-escape backslash (c ∷ r1) e) w in
        let here : length t ≤ length (past_escape (c ∷ r1)) =
        omega (arith, left, past_word_within (past_escape (c ∷ r1))) in
        let chars = escaped_char-same t u n.number c r1 s1 h here in
        chosen (is_either low up (escaped_char (c ∷ r1))) (is_either low up (escaped_char (c ∷ s1)))
        (ap (is_either low up) chars) (past_escape-kept t u q c r1 s1 h here) left
    by false e = tt

then_letter-kept : (low up : ℕ) (t u : List ℕ) → Quiet u → NoLetter u → is_name_byte low ≡ true
    → is_name_byte up ≡ true → (o p : Option (List ℕ)) → Letters t u o p
    → Letters t u (then_letter low up o) (then_letter low up p)
then_letter-kept low up t u q n l m None None h = tt
then_letter-kept low up t u q n l m (Some x) (Some y) h =
    letter-kept low up t u q n l m x y h.0 h.1
then_letter-kept low up t u q n l m None (Some y) h = absurd h
then_letter-kept low up t u q n l m (Some x) None h = absurd h

-- ---- the parenthesis

-- no quote follows the blanks at the start
abbrev pub no_quote : List ℕ → Bool
no_quote text = not (starts_by is_quote (past is_space text))

quote-same : (t u : List ℕ) → starts_by is_quote (past is_space t) ≡ false
    → starts_by is_quote (past is_space u) ≡ false → (r s : List ℕ) → Parting t u r s
    → starts_by is_quote (past is_space r) ≡ starts_by is_quote (past is_space s)
quote-same t u e f r s at = e ∙ sym f
quote-same t u e f r s (pair c r1 s1 h) = refl
quote-same t u e f r s (on b r1 s1 j h) = by (quote-same t u e f r1 s1 h) (is_space b) refl
  where
    by : starts_by is_quote (past is_space r1) ≡ starts_by is_quote (past is_space s1) → (k : Bool)
        → is_space b ≡ k
        → starts_by is_quote (past is_space (b ∷ r1)) ≡ starts_by is_quote (past is_space (b ∷ s1))
    by more true g = rw (past-yes is_space b r1 g, past-yes is_space b s1 g) more
    by more false g = rw (past-no is_space b r1 g, past-no is_space b s1 g) refl

-- a url begins in both texts or in none, or in the first it begins after they part
abbrev pub Urls : (t u : List ℕ) → Option (List ℕ) → Option (List ℕ) → Type 0
Urls t u None None = Unit {0}
Urls t u None (Some y) = ⊥
Urls t u (Some x) None = length x < length t
Urls t u (Some x) (Some y) = Parting t u x y

then_open-kept : (t u : List ℕ) → starts_by is_quote (past is_space t) ≡ false
    → starts_by is_quote (past is_space u) ≡ false → then_open (Some u) ≡ None
    → (o p : Option (List ℕ)) → Letters t u o p → Urls t u (then_open o) (then_open p)
then_open-kept t u e f g None None h = tt
then_open-kept t u e f g None (Some y) h = absurd h
then_open-kept t u e f g (Some x) None h = absurd h
then_open-kept t u e f g (Some x) (Some y) h = by x y h.0
  where
    seam : (t : List ℕ) → Urls t u (then_open (Some t)) None
    seam [] = tt
    seam (b ∷ t) = inner (b == open_parenthesis && no_quote t)
      where
        inner : (k : Bool) → Urls (b ∷ t) u (if k then Some t else None) None
        inner true = omega arith
        inner false = tt

    by : (x y : List ℕ) → Parting t u x y
        → Urls t u (then_open (Some x)) (then_open (Some y))
    by x y at = rw g (seam t)
    by x y (pair c r s k) = tt
    by x y (on b r s i k) =
        let same = quote-same t u e f r s k in
        rw same (inner (b == open_parenthesis && no_quote s))
      where
        inner : (m : Bool)
            → Urls t u (if m then Some r else None) (if m then Some s else None)
        inner true = k
        inner false = tt

-- what is before a url is a word
letter-word : (low up : ℕ) (r y : List ℕ) → is_name_byte low ≡ true → is_name_byte up ≡ true
    → past_letter low up r ≡ Some y → past_word r ≡ past_word y
unfolding past_letter
letter-word low up [] y l m e = absurd (cc)
letter-word low up (b ∷ r) y l m e = by (is_either low up b) (begins_escape (b ∷ r)) refl refl
  where
    chosen : (k : Bool) → (if k then Some (past_escape r) else None) ≡ Some y → past_escape r ≡ y
    chosen true g = cc
    chosen false g = absurd (cc)

    by : (k o : Bool) → is_either low up b ≡ k → begins_escape (b ∷ r) ≡ o
        → past_word (b ∷ r) ≡ past_word y
    by true o f g =
        let found : Some r ≡ Some y = rw f at e in
        let same : r ≡ y = cc in
        word-byte b r (either-name low up b l m f) ∙ ap past_word same
    by false true f g =
        let found = rw (f, g) at e in
        word-escape b r g ∙ ap past_word (chosen (is_either low up (escaped_char r)) found)
    by false false f g = absurd (let wrong = rw (f, g) at e in cc)

then_letter-word : (low up : ℕ) (r : List ℕ) (o : Option (List ℕ)) (y : List ℕ)
    → is_name_byte low ≡ true → is_name_byte up ≡ true
    → ((x : List ℕ) → o ≡ Some x → past_word r ≡ past_word x)
    → then_letter low up o ≡ Some y → past_word r ≡ past_word y
then_letter-word low up r None y l m h e = absurd (cc)
then_letter-word low up r (Some x) y l m h e = h x refl ∙ letter-word low up x y l m e

then_open-word : (o : Option (List ℕ)) (x : List ℕ) → then_open o ≡ Some x
    → o ≡ Some (open_parenthesis ∷ x)
then_open-word None x e = absurd (cc)
then_open-word (Some []) x e = absurd (cc)
then_open-word (Some (b ∷ text)) x e =
    by (b == open_parenthesis) (no_quote text) refl e
  where
    by : (k m : Bool) → (b == open_parenthesis) ≡ k → (if k && m then Some text else None) ≡ Some x
        → Some (b ∷ text) ≡ Some (open_parenthesis ∷ x)
    by true true f e =
        let byte : b ≡ open_parenthesis = eqb-true b open_parenthesis f in
        let text_is : text ≡ x = cc in
        cc
    by true false f e = absurd (cc)
    by false m f e = absurd (cc)

paren-word : (x : List ℕ) → past_word (open_parenthesis ∷ x) ≡ open_parenthesis ∷ x
unfolding name_part
paren-word x = each-rests name_part (open_parenthesis ∷ x) refl

pub url-word : (r x : List ℕ) → after_url r ≡ Some x → past_word r ≡ open_parenthesis ∷ x
url-word r x e =
    let letters = then_letter 108 76 (then_letter 114 82 (past_letter 117 85 r)) in
    then_letter-word 108 76 r (then_letter 114 82 (past_letter 117 85 r)) (open_parenthesis ∷ x)
    refl refl
    (λ y f. then_letter-word 114 82 r (past_letter 117 85 r) y refl refl
    (λ z g. letter-word 117 85 r z refl refl g) f)
    (then_open-word letters x e)
    ∙ paren-word x

pub url-kept : (t u : List ℕ) → Quiet u → NoLetter u → starts_by is_quote (past is_space t) ≡ false
    → starts_by is_quote (past is_space u) ≡ false → then_open (Some u) ≡ None → (r s : List ℕ)
    → Parting t u r s → WordKept t r → Urls t u (after_url r) (after_url s)
url-kept t u q n e f g r s h w =
    then_open-kept t u e f g _ _
    (then_letter-kept 108 76 t u q n refl refl _ _
    (then_letter-kept 114 82 t u q n refl refl _ _ (letter-kept 117 85 t u q n refl refl r s h w)))

-- ---- `<!--`

-- a text that does not continue it
pub record NoCdo (u : List ℕ) : Type 0 where
  pub one : (b : ℕ) → begins_cdo (b ∷ u) ≡ false
  pub two : (b c : ℕ) → begins_cdo (b ∷ c ∷ u) ≡ false
  pub three : (b c d : ℕ) → begins_cdo (b ∷ c ∷ d ∷ u) ≡ false

pub and-none : (x y : Bool) → (x && false && y) ≡ false
and-none true y = refl
and-none false y = refl

pub cdo-none : (t u : List ℕ) → NoCdo u → (b : ℕ) (r s : List ℕ) → Parting t u r s
    → begins_cdo (b ∷ r) ≡ false → begins_cdo (b ∷ s) ≡ false
cdo-none t u n b r s at e = n.one b
cdo-none t u n b r s (pair c r1 s1 h) e = and-none (b == 60) (starts_two hyphen hyphen (c ∷ s1))
cdo-none t u n b r s (on c r1 s1 i at) e = n.two b c
cdo-none t u n b r s (on c r1 s1 i (pair d r2 s2 h)) e = e
cdo-none t u n b r s (on c r1 s1 i (on d r2 s2 j at)) e = n.three b c d
cdo-none t u n b r s (on c r1 s1 i (on d r2 s2 j (pair f r3 s3 h))) e = e
cdo-none t u n b r s (on c r1 s1 i (on d r2 s2 j (on f r3 s3 k h))) e = e

cdo-long : (b : ℕ) (r : List ℕ) → begins_cdo (b ∷ r) ≡ true → 3 ≤ length r
cdo-long b [] e = absurd (by (b == 60) e)
  where
    by : (x : Bool) → (x && false && false) ≡ true → ⊥
    by true e = cc
    by false e = cc
cdo-long b (c ∷ []) e = absurd (by (b == 60) (c == exclamation_mark) e)
  where
    by : (x y : Bool) → (x && y && false) ≡ true → ⊥
    by true true e = cc
    by true false e = cc
    by false y e = cc
cdo-long b (c ∷ d ∷ []) e = absurd (by (b == 60) (c == exclamation_mark) (d == hyphen) e)
  where
    by : (x y z : Bool) → (x && y && (z && false)) ≡ true → ⊥
    by true true true e = cc
    by true true false e = cc
    by true false z e = cc
    by false y z e = cc
cdo-long b (c ∷ d ∷ f ∷ r) e = omega arith

-- what has no hyphen or mark there is none of it
no_second : (x : Bool) → (x && false) ≡ true → ⊥
no_second true e = cc
no_second false e = cc

no_third : (x y : Bool) → (x && y && false) ≡ true → ⊥
no_third true y e = no_second y e
no_third false y e = cc

no_fourth : (x y z : Bool) → (x && y && (z && false)) ≡ true → ⊥
no_fourth true true z e = no_second z e
no_fourth true false z e = cc
no_fourth false y z e = cc

pub cdo-kept : (t u : List ℕ) (b : ℕ) (r s : List ℕ) → Parting t u r s
    → begins_cdo (b ∷ r) ≡ true → length t ≤ length (drop 3 r)
    → (begins_cdo (b ∷ s) ≡ true) × Parting t u (drop 3 r) (drop 3 s)
cdo-kept t u b r s at e l = absurd (omega (arith, l, length-drop 3 t, cdo-long b t e))
cdo-kept t u b r s (pair c r1 s1 h) e l =
    absurd (let wrong = and-none (b == 60) (starts_two hyphen hyphen (c ∷ r1)) in cc)
cdo-kept t u b r s (on c r1 s1 i at) e l =
    absurd (omega (arith, l, length-drop 3 (c ∷ t), cdo-long b (c ∷ t) e))
cdo-kept t u b r s (on c r1 s1 i (pair d r2 s2 h)) e l =
    absurd (no_third (b == 60) (c == exclamation_mark) e)
cdo-kept t u b r s (on c r1 s1 i (on d r2 s2 j at)) e l =
    absurd (omega (arith, l, length-drop 3 (c ∷ d ∷ t), cdo-long b (c ∷ d ∷ t) e))
cdo-kept t u b r s (on c r1 s1 i (on d r2 s2 j (pair f r3 s3 h))) e l =
    absurd (no_fourth (b == 60) (c == exclamation_mark) (d == hyphen) e)
cdo-kept t u b r s (on c r1 s1 i (on d r2 s2 j (on f r3 s3 k h))) e l = (e, h)
