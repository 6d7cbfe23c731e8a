-- What is left after each reader is an end of the text, and UTF-8 if the text is: so all slices of
-- a text are texts.
-- Serves `texts::read_text_value`.
use Rattle.std.proofs.Common.{length, ◌≡◌, ℕ, zero, suc, ◌<◌, ◌==◌, ◌||◌, ◌&&◌, Bool, true, false, List, [], ◌∷◌, ◌++◌, drop, Option, Some, None, arith, refl, sym, subst, ap, ◌∙◌, if◌then◌else◌, eqb-true, ltb-true, IsUtf8, not}
use Rattle.std.proofs.lemmas.Bool.Decides.{nat_tests}
use Rattle.css_text.specs.AsciiBytes.{open_parenthesis, newline, carriage_return, number_sign, at_sign, slash, close_parenthesis, backslash}
use Rattle.css_text.specs.Reading.{each, before, Ends}
use Rattle.css_text.specs.Bytes.{past, past_byte, starts_by, is_ascii, is_hex_digit}
use Rattle.css_text.specs.Characters.{is_space}
use Rattle.css_text.specs.Comments.{opens_comment, after_close}
use Rattle.css_text.specs.Strings.{is_quote}
use Rattle.css_text.proofs.bytes.Utf8Lemmas.{utf8-before_byte, utf8-second}
use Rattle.css_text.proofs.reading.EachLemmas.{each-stops}
use Rattle.css_text.proofs.reading.EndsLemmas.{EndsFound, each-ends, ends-by, ends-drop, ends-ends, ends-past, ends-past_byte, ends-same, ends-tail, ends-nil}
use Rattle.css_text.proofs.reading.GotLemmas.{IfAfter, after_close-after}
use Rattle.css_text.proofs.reading.WellLemmas.{EndsWell, WellFound, each-well, well-after, well-nil, well-past, well-past_byte, well-same, well-tail, well-then}
use Rattle.css_syntax.specs.declared.quality.Quality.{Quality}
use Rattle.css_syntax.specs.declared.quality.Quality.TheVariants.{Whole, BadString, TooDeep}
use Rattle.css_syntax.specs.Tokens.{is_either, escaped_char, past_letter, then_letter, then_open, after_url, is_newline, past_newline, past_one_space, past_hex, past_escape, begins_escape, from_close, past_comment, gap_part, past_gap, string_part, past_string_parts, string_end, past_string, is_name_byte, name_part, past_word, begins_url, is_never_bare, url_part, past_url_parts, remnant_part, url_end, past_url, begins_cdo, is_closer, other_token, token}
use Rattle.css_syntax.specs.ComponentValues.{is_opener, mirror, value_inside, block_of, value_by, past_open, past_deep, component_value}
use Rattle.css_syntax.proofs.Shorter.{string_part-takes, name_part-takes, url_part-takes, remnant_part-takes}

-- ---- ends

if-ends : (text : List ℕ) (t : Bool) (x y : List ℕ) → Ends text x → Ends text y
    → Ends text (if t then x else y)
if-ends text true x y a b = a
if-ends text false x y a b = b

later : (b : ℕ) (text rest : List ℕ) → Ends text rest → Ends (b ∷ text) rest
later b text rest e = ends-ends (b ∷ text) text rest (ends-tail b text) e

one_space-ends : (text : List ℕ) → Ends text (past_one_space text)
one_space-ends [] = ends-same []
one_space-ends (b ∷ text) =
    if-ends (b ∷ text) (b == carriage_return) _ _
    (later b text (past_byte newline text) (ends-past_byte newline text))
    (if-ends (b ∷ text) (is_space b) text (b ∷ text) (ends-tail b text) (ends-same (b ∷ text)))

hex-ends : (n : ℕ) (text : List ℕ) → Ends text (past_hex n text)
hex-ends zero text = ends-same text
hex-ends (suc n) [] = ends-same []
hex-ends (suc n) (b ∷ text) =
    if-ends (b ∷ text) (is_hex_digit b) _ _ (later b text (past_hex n text) (hex-ends n text))
    (ends-same (b ∷ text))

escape-ends : (text : List ℕ) → Ends text (past_escape text)
unfolding past_escape
escape-ends [] = ends-same []
escape-ends (b ∷ text) =
    if-ends (b ∷ text) (is_hex_digit b) _ _
    (later b text (past_one_space (past_hex 5 text))
    (ends-ends text (past_hex 5 text) (past_one_space (past_hex 5 text)) (hex-ends 5 text)
    (one_space-ends (past_hex 5 text))))
    (if-ends (b ∷ text) (is_newline b) _ _ (one_space-ends (b ∷ text)) (ends-tail b text))

if-found : (text : List ℕ) (t : Bool) (x y : Option (Unit {0} × List ℕ)) → EndsFound text x
    → EndsFound text y → EndsFound text (if t then x else y)
if-found text true x y a b = a
if-found text false x y a b = b

escaped : (b : ℕ) (text : List ℕ) → Ends (b ∷ text) (past_escape text)
escaped b text = later b text (past_escape text) (escape-ends text)

string_part-ends : (quote : ℕ) (text : List ℕ) → EndsFound text (string_part quote text)
unfolding string_part
string_part-ends quote [] = tt
string_part-ends quote (b ∷ text) =
    if-found (b ∷ text) (b == quote || is_newline b) _ _ tt
    (if-found (b ∷ text) (b == backslash) _ _ (escaped b text) (ends-tail b text))

name_part-ends : (text : List ℕ) → EndsFound text (name_part text)
unfolding name_part
name_part-ends [] = tt
name_part-ends (b ∷ text) =
    if-found (b ∷ text) (is_name_byte b) _ _ (ends-tail b text)
    (if-found (b ∷ text) (begins_escape (b ∷ text)) _ _ (escaped b text) tt)

url_part-ends : (text : List ℕ) → EndsFound text (url_part text)
unfolding url_part
url_part-ends [] = tt
url_part-ends (b ∷ text) =
    if-found (b ∷ text) (begins_escape (b ∷ text)) _ _ (escaped b text)
    (if-found (b ∷ text) (b == close_parenthesis || is_space b || is_never_bare b) _ _ tt
    (ends-tail b text))

remnant_part-ends : (text : List ℕ) → EndsFound text (remnant_part text)
unfolding remnant_part
remnant_part-ends [] = tt
remnant_part-ends (b ∷ text) =
    if-found (b ∷ text) (begins_escape (b ∷ text)) _ _ (escaped b text)
    (if-found (b ∷ text) (b == close_parenthesis) _ _ tt (ends-tail b text))

-- ---- where an ASCII byte follows, or nothing

abbrev AsciiNext : List ℕ → Type 0
AsciiNext [] = Unit {0}
AsciiNext (b ∷ text) = b < 128

well-ascii : (text rest : List ℕ) → Ends text rest → AsciiNext rest → EndsWell text rest
well-ascii text [] e a = well-nil text
well-ascii text (b ∷ rest) e a = (
  e,
  λ u.
      let front = before text (b ∷ rest) in
      let all : IsUtf8 (front ++ b ∷ rest) = subst IsUtf8 (sym e) u in
      utf8-second front (b ∷ rest) all (utf8-before_byte front b rest a all),
)

-- a byte that is no part of a name is ASCII
no_name-ascii : (b : ℕ) → is_name_byte b ≡ false → b < 128
no_name-ascii b e = grind (arith, nat_tests)

space-ascii : (b : ℕ) → is_space b ≡ true → b < 128
space-ascii b e = grind (arith, nat_tests)

newline-ascii : (b : ℕ) → is_newline b ≡ true → b < 128
newline-ascii b e = grind (arith, nat_tests)

-- where a word stops
name-stop : (b : ℕ) (text : List ℕ) → name_part (b ∷ text) ≡ None → b < 128
unfolding name_part
name-stop b text e = by (is_name_byte b) refl
  where
    by : (t : Bool) → is_name_byte b ≡ t → b < 128
    by true f = absurd (let wrong = rw f at e in cc)
    by false f = no_name-ascii b f

-- where a string stops
string-stop : (quote b : ℕ) (text : List ℕ) → quote < 128 → string_part quote (b ∷ text) ≡ None
    → b < 128
unfolding string_part
string-stop quote b text low e = by (b == quote) (is_newline b) (b == backslash) refl refl refl
  where
    by : (s t k : Bool) → (b == quote) ≡ s → is_newline b ≡ t → (b == backslash) ≡ k → b < 128
    by true t k f g h = omega (arith, eqb-true b quote f)
    by false true k f g h = newline-ascii b g
    by false false true f g h = omega (arith, eqb-true b backslash h)
    by false false false f g h = absurd (let wrong = rw (f, g, h) at e in cc)

-- where the remnants of a url stop
remnant-stop : (b : ℕ) (text : List ℕ) → remnant_part (b ∷ text) ≡ None
    → (b == close_parenthesis) ≡ true
unfolding remnant_part
remnant-stop b text e = by (begins_escape (b ∷ text)) (b == close_parenthesis) refl refl
  where
    by : (s t : Bool) → begins_escape (b ∷ text) ≡ s → (b == close_parenthesis) ≡ t
        → (b == close_parenthesis) ≡ true
    by true t f g = absurd (let wrong = rw f at e in cc)
    by false true f g = g
    by false false f g = absurd (let wrong = rw (f, g) at e in cc)

-- ---- tokens

word-rest : (rest : List ℕ) → name_part rest ≡ None → AsciiNext rest
word-rest [] e = tt
word-rest (b ∷ text) e = name-stop b text e

pub word-well : (text : List ℕ) → EndsWell text (past_word text)
word-well text =
    well-ascii text (past_word text) (each-ends name_part name_part-ends text)
    (word-rest (past_word text) (each-stops name_part name_part-takes text))

pub comment-well : (text : List ℕ) → EndsWell text (past_comment text)
unfolding past_comment
comment-well text = by (after_close (drop 2 text)) (after_close-after (drop 2 text))
  where
    by : (o : Option (List ℕ)) → IfAfter slash (drop 2 text) o → EndsWell text (from_close o)
    by None h = well-nil text
    by (Some rest) h =
        well-after slash text rest (omega arith)
        (ends-ends text (drop 2 text) (slash ∷ rest) (ends-drop 2 text)
        (ends-by (drop 2 text) h.0 (slash ∷ rest) (sym h.1)))

if-well : (text : List ℕ) (t : Bool) (x y : Quality × List ℕ) → EndsWell text x.1
    → EndsWell text y.1 → EndsWell text (if t then x else y).1
if-well text true x y a b = a
if-well text false x y a b = b

string-rest : (quote : ℕ) (rest : List ℕ) → quote < 128 → string_part quote rest ≡ None
    → AsciiNext rest
string-rest quote [] low e = tt
string-rest quote (b ∷ text) low e = string-stop quote b text low e

pub string_parts_ends : (quote : ℕ) (text : List ℕ) → Ends text (past_string_parts quote text)
string_parts_ends quote text = each-ends (string_part quote) (string_part-ends quote) text

pub string_parts-well : (quote : ℕ) → quote < 128 → (text : List ℕ)
    → EndsWell text (past_string_parts quote text)
string_parts-well quote low text =
    well-ascii text (past_string_parts quote text)
    (string_parts_ends quote text)
    (string-rest quote (past_string_parts quote text) low
    (each-stops (string_part quote) (string_part-takes quote) text))

string_end-well : (quote : ℕ) (text rest : List ℕ) → quote < 128 → Ends text rest
    → string_part quote rest ≡ None → EndsWell text (string_end quote rest).1
string_end-well quote text [] low e stop = well-nil text
string_end-well quote text (b ∷ rest) low e stop =
    let ascii = string-stop quote b rest low stop in
    if-well text (b == quote) (Whole, rest) (BadString, past_newline (b ∷ rest))
    (well-after b text rest ascii e) (newline-left (is_newline b))
  where
    newline-left : (t : Bool) → EndsWell text (if t then rest else b ∷ rest)
    newline-left true = well-after b text rest (string-stop quote b rest low stop) e
    newline-left false = well-ascii text (b ∷ rest) e (string-stop quote b rest low stop)

string-well : (quote : ℕ) (text : List ℕ) → quote < 128 → EndsWell text (past_string quote text).1
unfolding past_string
string-well quote text low =
    string_end-well quote text (each (string_part quote) text).1 low
    (each-ends (string_part quote) (string_part-ends quote) text)
    (each-stops (string_part quote) (string_part-takes quote) text)

-- after the parenthesis at which the remnants of a url stop
remnants-well : (text rest : List ℕ) → Ends text rest → remnant_part rest ≡ None
    → EndsWell text (past_byte close_parenthesis rest)
remnants-well text [] e stop = well-nil text
remnants-well text (b ∷ rest) e stop =
    let here : (b == close_parenthesis) ≡ true = remnant-stop b rest stop in
    let past : rest ≡ past_byte close_parenthesis (b ∷ rest) = rw here refl in
    subst (EndsWell text) past
    (well-after b text rest (omega (arith, eqb-true b close_parenthesis here)) e)

url_end-well : (text rest : List ℕ) → Ends text rest → EndsWell text (url_end rest).1
url_end-well text [] e = well-nil text
url_end-well text (b ∷ rest) e = by (b == close_parenthesis) refl
  where
    by : (t : Bool) → (b == close_parenthesis) ≡ t → EndsWell text (url_end (b ∷ rest)).1
    by true f = rw f (well-after b text rest (omega (arith, eqb-true b close_parenthesis f)) e)
    by false f = rw f (remnants-well text (each remnant_part (b ∷ rest)).1
        (ends-ends text (b ∷ rest) (each remnant_part (b ∷ rest)).1 e
        (each-ends remnant_part remnant_part-ends (b ∷ rest)))
        (each-stops remnant_part remnant_part-takes (b ∷ rest)))

pub url-well : (text rest : List ℕ) → Ends text rest → EndsWell text (past_url rest).1
unfolding past_url
url-well text rest e =
    let inside = past is_space rest in
    let after = (each url_part inside).1 in
    url_end-well text (past is_space after)
    (ends-ends text after (past is_space after)
    (ends-ends text inside after (ends-ends text rest inside e (ends-past is_space rest))
    (each-ends url_part url_part-ends inside)) (ends-past is_space after))

-- a byte that a url does not have as it is is ASCII
bare-ascii : (b : ℕ) → (b == close_parenthesis || is_space b || is_never_bare b) ≡ true → b < 128
bare-ascii b e = grind (arith, nat_tests)

-- where what is in a url stops
url-stop : (b : ℕ) (text : List ℕ) → url_part (b ∷ text) ≡ None → b < 128
unfolding url_part
url-stop b text e =
    by (begins_escape (b ∷ text)) (b == close_parenthesis || is_space b || is_never_bare b) refl refl
  where
    by : (s t : Bool) → begins_escape (b ∷ text) ≡ s
        → (b == close_parenthesis || is_space b || is_never_bare b) ≡ t → b < 128
    by true t f g = absurd (let wrong = rw f at e in cc)
    by false true f g = bare-ascii b g
    by false false f g = absurd (let wrong = rw (f, g) at e in cc)

url-rest : (rest : List ℕ) → url_part rest ≡ None → AsciiNext rest
url-rest [] e = tt
url-rest (b ∷ text) e = url-stop b text e

pub url_parts-well : (text : List ℕ) → EndsWell text (past_url_parts text)
url_parts-well text =
    well-ascii text (past_url_parts text) (each-ends url_part url_part-ends text)
    (url-rest (past_url_parts text) (each-stops url_part url_part-takes text))

pub spaces-well : (text : List ℕ) → EndsWell text (past is_space text)
spaces-well text = well-past is_space space-ascii text

-- `url(`
EndsMaybe : List ℕ → Option (List ℕ) → Type 0
EndsMaybe text None = Unit {0}
EndsMaybe text (Some rest) = Ends text rest

letter-ends : (low up : ℕ) (all text : List ℕ) → Ends all text
    → EndsMaybe all (past_letter low up text)
unfolding past_letter EndsMaybe
letter-ends low up all [] e = tt
letter-ends low up all (b ∷ text) e =
    by (is_either low up b) (begins_escape (b ∷ text) && is_either low up (escaped_char text))
  where
    by : (s t : Bool) → EndsMaybe all (if s then Some text
        else (if t then Some (past_escape text) else None))
    by true t = ends-ends all (b ∷ text) text e (ends-tail b text)
    by false true = ends-ends all (b ∷ text) (past_escape text) e (escaped b text)
    by false false = tt

then_letter-ends : (low up : ℕ) (all : List ℕ) (o : Option (List ℕ)) → EndsMaybe all o
    → EndsMaybe all (then_letter low up o)
unfolding EndsMaybe
then_letter-ends low up all None h = tt
then_letter-ends low up all (Some text) h = letter-ends low up all text h

then_open-ends : (all : List ℕ) (o : Option (List ℕ)) → EndsMaybe all o
    → EndsMaybe all (then_open o)
unfolding EndsMaybe
then_open-ends all None h = tt
then_open-ends all (Some []) h = tt
then_open-ends all (Some (b ∷ text)) h =
    by (b == open_parenthesis && not (starts_by is_quote (past is_space text)))
  where
    by : (t : Bool) → EndsMaybe all (if t then Some text else None)
    by true = ends-ends all (b ∷ text) text h (ends-tail b text)
    by false = tt

pub after_url-ends : (text : List ℕ) → Ends text (from_close (after_url text))
unfolding EndsMaybe
after_url-ends text =
    by (after_url text) (then_open-ends text _ (then_letter-ends 108 76 text _
    (then_letter-ends 114 82 text _ (letter-ends 117 85 text text (ends-same text)))))
  where
    by : (o : Option (List ℕ)) → EndsMaybe text o → Ends text (from_close o)
    by None h = ends-nil text
    by (Some rest) h = h

-- `<!--` has four ASCII bytes
and-first : (a b : Bool) → (a && b) ≡ true → a ≡ true
and-first true b e = refl
and-first false b e = e

pub cdo-well : (b : ℕ) (text : List ℕ) → begins_cdo (b ∷ text) ≡ true
    → EndsWell (b ∷ text) (drop 3 text)
cdo-well b [] e = well-nil (b ∷ [])
cdo-well b (c ∷ []) e = well-nil (b ∷ c ∷ [])
cdo-well b (c ∷ d ∷ []) e = well-nil (b ∷ c ∷ d ∷ [])
cdo-well b (c ∷ d ∷ f ∷ text) e =
    well-after f (b ∷ c ∷ d ∷ f ∷ text) text (grind (arith, nat_tests))
    (ends-drop 3 (b ∷ c ∷ d ∷ f ∷ text))

newline-well : (text : List ℕ) → EndsWell text (past_newline text)
newline-well [] = well-nil []
newline-well (b ∷ text) = by (is_newline b) refl
  where
    by : (t : Bool) → is_newline b ≡ t → EndsWell (b ∷ text) (if t then text else b ∷ text)
    by true e = well-tail b text (newline-ascii b e)
    by false e = well-same (b ∷ text)

other-well : (b : ℕ) (text : List ℕ) → b < 128 → EndsWell (b ∷ text) (other_token b text).1
other-well b text low =
    if-well (b ∷ text) (b == number_sign || b == at_sign) _ _
    (well-then (b ∷ text) text (past_word text) (well-tail b text low) (word-well text))
    (if-well (b ∷ text) (is_closer b) _ _ (well-tail b text low)
    (if-well (b ∷ text) (b == backslash) _ _
    (well-then (b ∷ text) text (past_newline text) (well-tail b text low) (newline-well text))
    (well-tail b text low)))

quote-ascii : (b : ℕ) → is_quote b ≡ true → b < 128
quote-ascii b e = grind (arith, nat_tests)

or-false : (a b : Bool) → (a || b) ≡ false → a ≡ false
or-false true b e = e
or-false false b e = refl

pub token-well : (text : List ℕ) → EndsWell text (token text).1
unfolding token
token-well [] = well-same []
token-well (b ∷ text) =
    if-well (b ∷ text) (opens_comment (b ∷ text)) _ _ (comment-well (b ∷ text)) (quote
    (is_quote b) refl)
  where
    word : (t : Bool) → (is_name_byte b || begins_escape (b ∷ text)) ≡ t
        → EndsWell (b ∷ text) (if t then (Whole, past_word (b ∷ text)) else other_token b text).1
    word true e = word-well (b ∷ text)
    word false e = other-well b text (no_name-ascii b
        (or-false (is_name_byte b) (begins_escape (b ∷ text)) e))

    cdo : (t : Bool) → begins_cdo (b ∷ text) ≡ t
        → EndsWell (b ∷ text) (if t then (Whole, drop 3 text) else
        (if is_name_byte b || begins_escape (b ∷ text) then (Whole, past_word (b ∷ text))
        else other_token b text)).1
    cdo true e = cdo-well b text e
    cdo false e = word (is_name_byte b || begins_escape (b ∷ text)) refl

    quote : (t : Bool) → is_quote b ≡ t
        → EndsWell (b ∷ text) (if t then past_string b text else
        (if begins_url (b ∷ text) then past_url (from_close (after_url (b ∷ text)))
        else (if begins_cdo (b ∷ text) then (Whole, drop 3 text)
        else (if is_name_byte b || begins_escape (b ∷ text) then (Whole, past_word (b ∷ text))
        else other_token b text)))).1
    quote true e =
        well-then (b ∷ text) text (past_string b text).1 (well-tail b text (quote-ascii b e))
        (string-well b text (quote-ascii b e))
    quote false e =
        if-well (b ∷ text) (begins_url (b ∷ text)) _ _
        (url-well (b ∷ text) (from_close (after_url (b ∷ text))) (after_url-ends (b ∷ text)))
        (cdo (begins_cdo (b ∷ text)) refl)

-- ---- component values and values

-- a reader of values leaves a text
LeavesText : (List ℕ → Quality × List ℕ) → Type 0
LeavesText read = (text : List ℕ) → EndsWell text (read text).1

block-well : (read : List ℕ → Quality × List ℕ) → LeavesText read → (closer : ℕ) → closer < 128
    → (text : List ℕ) → EndsWell text (block_of read closer text).1
unfolding block_of LeavesText
block-well read h closer low text =
    well-then text (each (value_inside read closer) text).1 (block_of read closer text).1
    (each-well (value_inside read closer) inside text)
    (well-past_byte closer (each (value_inside read closer) text).1 low)
  where
    choice : (b : ℕ) (text : List ℕ) (t : Bool)
        → WellFound (b ∷ text) (if t then None else Some (read (b ∷ text)))
    choice b text true = tt
    choice b text false = h (b ∷ text)

    inside : (text : List ℕ) → WellFound text (value_inside read closer text)
    inside [] = tt
    inside (b ∷ text) = choice b text (b == closer)

mirror-ascii : (b : ℕ) → mirror b < 128
mirror-ascii b = grind (arith, nat_tests)

opener-ascii : (b : ℕ) → is_opener b ≡ true → b < 128
opener-ascii b e = grind (arith, nat_tests)

value_by-well : (block : ℕ → List ℕ → Quality × List ℕ)
    → ((closer : ℕ) → closer < 128 → (text : List ℕ) → EndsWell text (block closer text).1)
    → LeavesText (value_by block)
unfolding LeavesText
value_by-well block h [] = well-same []
value_by-well block h (b ∷ text) = by (is_opener b) refl
  where
    by : (t : Bool) → is_opener b ≡ t → EndsWell (b ∷ text) (value_by block (b ∷ text)).1
    by true e =
        rw e (well-then (b ∷ text) text (block (mirror b) text).1 (well-tail b text
        (opener-ascii b e))
        (h (mirror b) (mirror-ascii b) text))
    by false e = rw e (token-well (b ∷ text))

closer-ascii : (b : ℕ) → is_closer b ≡ true → b < 128
closer-ascii b e = grind (arith, nat_tests)

open-well : (n depth : ℕ) (text : List ℕ) → EndsWell text (past_open n depth text)
unfolding past_open
open-well zero depth text = well-same text
open-well (suc n) zero text = well-same text
open-well (suc n) (suc depth) [] = well-same []
open-well (suc n) (suc depth) (b ∷ text) =
    by (is_opener b) (is_closer b) refl refl (open-well n (suc (suc depth)) text)
    (open-well n depth text) (open-well n (suc depth) (token (b ∷ text)).1)
  where
    by : (t u : Bool) → is_opener b ≡ t → is_closer b ≡ u
        → EndsWell text (past_open n (suc (suc depth)) text)
        → EndsWell text (past_open n depth text)
        → EndsWell (token (b ∷ text)).1 (past_open n (suc depth) (token (b ∷ text)).1)
        → EndsWell (b ∷ text) (if t then past_open n (suc (suc depth)) text
        else (if u then past_open n depth text
        else past_open n (suc depth) (token (b ∷ text)).1))
    by true u e f h k l =
        well-then (b ∷ text) text (past_open n (suc (suc depth)) text)
        (well-tail b text (opener-ascii b e)) h
    by false true e f h k l =
        well-then (b ∷ text) text (past_open n depth text)
        (well-tail b text (closer-ascii b f)) k
    by false false e f h k l =
        well-then (b ∷ text) (token (b ∷ text)).1
        (past_open n (suc depth) (token (b ∷ text)).1) (token-well (b ∷ text)) l

component_value-well : (n : ℕ) → LeavesText (component_value n)
unfolding LeavesText component_value
component_value-well zero text =
    value_by-well (λ closer rest. (TooDeep, past_deep rest))
    (λ closer low rest. open-well (length rest) 1 rest) text
component_value-well (suc n) text =
    value_by-well (block_of (component_value n))
    (block-well (component_value n) (component_value-well n)) text

pub value-leaves_text : (n : ℕ) (text : List ℕ) → EndsWell text (component_value n text).1
unfolding LeavesText
value-leaves_text n text = component_value-well n text

pub gap_part-well : (text : List ℕ) → WellFound text (gap_part text)
unfolding gap_part
gap_part-well [] = tt
gap_part-well (b ∷ text) = by (is_space b) refl
  where
    comment : (t : Bool)
        → WellFound (b ∷ text) (if t then Some (tt {0}, past_comment (b ∷ text)) else None)
    comment true = comment-well (b ∷ text)
    comment false = tt

    by : (t : Bool) → is_space b ≡ t → WellFound (b ∷ text) (if t then Some (tt {0}, text)
        else (if opens_comment (b ∷ text) then Some (tt {0}, past_comment (b ∷ text)) else None))
    by true e = well-tail b text (space-ascii b e)
    by false e = comment (opens_comment (b ∷ text))

pub gap-well : (text : List ℕ) → EndsWell text (past_gap text)
gap-well text = each-well gap_part gap_part-well text

-- ---- escapes

hex-ascii : (b : ℕ) → is_hex_digit b ≡ true → b < 128
hex-ascii b e = grind (arith, nat_tests)

hex-well : (n : ℕ) (text : List ℕ) → EndsWell text (past_hex n text)
hex-well zero text = well-same text
hex-well (suc n) [] = well-same []
hex-well (suc n) (b ∷ text) = by (hex-well n text) (is_hex_digit b) refl
  where
    by : EndsWell text (past_hex n text) → (t : Bool) → is_hex_digit b ≡ t
        → EndsWell (b ∷ text) (past_hex (suc n) (b ∷ text))
    by more true e =
        rw e (well-then (b ∷ text) text (past_hex n text) (well-tail b text (hex-ascii b e)) more)
    by more false e = rw e (well-same (b ∷ text))

unspaced : (b : ℕ) (text : List ℕ) → (b == carriage_return) ≡ false
    → past_one_space (b ∷ text) ≡ (if is_space b then text else b ∷ text)
unspaced b text e =
    ap (λ (s : Bool). if s then past_byte newline text else (if is_space b then text else b ∷ text))
    e

one_space-well : (text : List ℕ) → EndsWell text (past_one_space text)
one_space-well [] = well-same []
one_space-well (b ∷ text) = by (b == carriage_return) (is_space b) refl refl
  where
    by : (s t : Bool) → (b == carriage_return) ≡ s → is_space b ≡ t
        → EndsWell (b ∷ text) (past_one_space (b ∷ text))
    by true t e f =
        let low : b < 128 = omega (arith, eqb-true b carriage_return e) in
        rw e (well-then (b ∷ text) text (past_byte newline text) (well-tail b text low)
        (well-past_byte newline text (omega arith)))
    by false true e f =
        subst (EndsWell (b ∷ text))
        (sym (unspaced b text e ∙ ap (λ (s : Bool). if s then text else b ∷ text) f))
        (well-tail b text (space-ascii b f))
    by false false e f =
        subst (EndsWell (b ∷ text))
        (sym (unspaced b text e ∙ ap (λ (s : Bool). if s then text else b ∷ text) f))
        (well-same (b ∷ text))

-- what an escape of an ASCII character leaves
pub escape-well : (text : List ℕ) → starts_by is_ascii text ≡ true → EndsWell text (past_escape text)
unfolding past_escape
escape-well [] e = absurd (cc)
escape-well (b ∷ text) e = by (is_hex_digit b) (is_newline b)
  where
    low : b < 128
    low = ltb-true b 128 e

    by : (h n : Bool) → EndsWell (b ∷ text)
        (if h then past_one_space (past_hex 5 text)
        else (if n then past_one_space (b ∷ text) else text))
    by true n =
        well-then (b ∷ text) text (past_one_space (past_hex 5 text)) (well-tail b text low)
        (well-then text (past_hex 5 text) (past_one_space (past_hex 5 text)) (hex-well 5 text)
        (one_space-well (past_hex 5 text)))
    by false true = one_space-well (b ∷ text)
    by false false = well-tail b text low
