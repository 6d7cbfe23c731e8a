-- What is left after a piece.
use Rattle.std.proofs.Common.{◌≡◌, ℕ, ◌<◌, ◌≤◌, ◌+◌, ◌-◌, ◌==◌, ◌&&◌, ◌++◌, zero, suc, map, subst, Bool, true, false, List, [], ◌∷◌, Option, Some, None, length, take, codes, arith, refl, ap, if◌then◌else◌}
use Rattle.css_text.specs.AsciiBytes.{comma, open_parenthesis, close_parenthesis}
use Rattle.css_text.specs.Reading.{before, Ends, each, up_to, and_then, last_or}
use Rattle.css_text.specs.Bytes.{past_one, past_byte, starts, starts_by, is_ascii}
use Rattle.css_text.proofs.reading.EachLemmas.{Takes, not_empty}
use Rattle.css_text.proofs.reading.TakesLemmas.{length-past_byte}
use Rattle.css_syntax.specs.Qualities.{is_whole}
use Rattle.css_syntax.specs.Tokens.{past_string_parts, past_gap, past_word, spells, token}
use Rattle.css_syntax.specs.declared.parts.Stops.{Stops}
use Rattle.css_syntax.specs.ComponentValues.{is_opener, component_value, deepest}
use Rattle.css_syntax.specs.Parts.{Stated, ends_at, part, parts, with_gap}
use Rattle.css_syntax.proofs.PartLemmas.{past_gap-within, parts-within}
use Rattle.css_text.proofs.reading.EndsLemmas.{length-ends}
use Rattle.css_syntax.proofs.PartTexts.{end-well, word_ends as word_ends_of}
use Rattle.css_syntax.proofs.Shorter.{token-takes, past_word_within}
use Rattle.css_syntax.proofs.Utf8Ends.{string_parts_ends, token-well}
use Rattle.css_values.specs.Pieces.{Piece, plain, broken, reference, after_var, in_fallback, closed_here, with_fallback, reference_from, past_piece, piece_by, piece}

pub word_ends : (text : List ℕ) → Ends text (past_word text)
word_ends text = word_ends_of text

pub string_ends : (quote : ℕ) (text : List ℕ) → Ends text (past_string_parts quote text)
string_ends quote text = string_parts_ends quote text

pub opener_ascii : (text : List ℕ) → starts_by is_opener text ≡ true
    → starts_by is_ascii text ≡ true
opener_ascii [] e = e
opener_ascii (b ∷ text) e = grind arith

pub one_ends : (text : List ℕ) → Ends text (past_one text)
one_ends [] = refl
one_ends (b ∷ text) =
    let n : length (b ∷ text) - length text ≡ 1 = omega arith in
    ap (λ (k : ℕ). take k (b ∷ text) ++ text) n

pub piece_ends : (text : List ℕ) → Ends text (past_piece text)
piece_ends text = by (starts_by is_opener text)
  where
    by : (t : Bool) → Ends text (if t then past_one text else (token text).1)
    by true = one_ends text
    by false = (token-well text).0

-- ---- a piece consumes a byte or more

if_le : {A : Type 0} (n : ℕ) (t : Bool) (x y : A × List ℕ) → length x.1 ≤ n → length y.1 ≤ n
    → length (if t then x else y).1 ≤ n
if_le n true x y a b = a
if_le n false x y a b = b

closed-within : (p : Piece) (rest : List ℕ) → length (closed_here p rest).1 ≤ length rest
closed-within p rest =
    if_le (length rest) (starts close_parenthesis rest) _ _ (length-past_byte close_parenthesis rest)
    (omega arith)

fallback-within : (name : List ℕ) (read : Stated × List ℕ)
    → length (with_fallback name read).1 ≤ length read.1
fallback-within name read =
    if_le (length read.1) (is_whole read.0.quality) _ _
    (closed-within (reference name (Some read.0.text)) read.1) (omega arith)

pub reference-within : (text : List ℕ) → length (reference_from text).1 ≤ length text
unfolding reference_from
reference-within text =
    let from = past_gap text in
    let next = past_gap (past_word from) in
    let a : length from ≤ length text = past_gap-within text in
    let b : length (past_word from) ≤ length from = past_word_within from in
    let d : length next ≤ length (past_word from) = past_gap-within (past_word from) in
    let e : length (past_gap (past_byte comma next)) ≤ length (past_byte comma next) =
    past_gap-within (past_byte comma next) in
    let f : length (past_byte comma next) ≤ length next = length-past_byte comma next in
    let read = parts in_fallback (past_gap (past_byte comma next)) in
    let name = before from (past_word from) in
    let g : length read.1 ≤ length (past_gap (past_byte comma next)) =
    parts-within in_fallback (past_gap (past_byte comma next)) in
    let h : length (with_fallback name read).1 ≤ length read.1 = fallback-within name read in
    let i : length (closed_here (reference name None) next).1 ≤ length next =
    closed-within (reference name None) next in
    if_le (length text) (starts comma next) _ _ (omega arith) (omega arith)

byte-less : (text : List ℕ) → starts open_parenthesis text ≡ true
    → length (past_byte open_parenthesis text) < length text
byte-less [] e = absurd (cc)
byte-less (b ∷ text) e = rw e (omega arith)

LessSome : ℕ → Option (List ℕ) → Type 0
LessSome n None = Unit {0}
LessSome n (Some rest) = length rest < n

both-second : (s t : Bool) → (s && t) ≡ true → t ≡ true
both-second true t e = e
both-second false t e = absurd (cc)

after_var-less : (text : List ℕ) → LessSome (length text) (after_var text)
unfolding after_var LessSome
after_var-less text =
    let rest = past_word text in
    by (spells (codes "var") (before text rest) && starts open_parenthesis rest) (λ e.
    let s : starts open_parenthesis rest ≡ true =
    both-second (spells (codes "var") (before text rest)) (starts open_parenthesis rest) e in
    let l : length (past_byte open_parenthesis rest) < length rest = byte-less rest s in
    let w : length rest ≤ length text = past_word_within text in
    omega arith)
  where
    by : (t : Bool)
        → (t ≡ true → length (past_byte open_parenthesis (past_word text)) < length text)
        → LessSome (length text)
        (if t then Some (past_byte open_parenthesis (past_word text)) else None)
    by true h = h refl
    by false h = tt

past_piece-less : (b : ℕ) (text : List ℕ) → length (past_piece (b ∷ text)) ≤ length text
past_piece-less b text = by (is_opener b)
  where
    by : (t : Bool) → length (if t then text else (token (b ∷ text)).1) ≤ length text
    by true = omega arith
    by false = token-takes b text

pub piece-takes : Takes piece
unfolding piece LessSome
piece-takes [] = tt
piece-takes (b ∷ text) =
    rw (not_empty b text) (by (after_var (b ∷ text)) (after_var-less (b ∷ text)))
  where
    by : (o : Option (List ℕ)) → LessSome (length (b ∷ text)) o
        → length (piece_by o (b ∷ text)).1 < length (b ∷ text)
    by None h = omega (arith, past_piece-less b text)
    by (Some inside) h = omega (arith, reference-within inside)

-- ---- a fallback and what follows its reference are shorter than what the reference begins

last-rest : (stops : Stops) (n : ℕ) (text end : List ℕ) → length text ≤ length end
    → length (up_to n (part stops) text).1
    ≤ length (last_or end (map (λ one. one.1) (up_to n (part stops) text).0))
last-rest stops zero text end h = h
last-rest stops (suc n) text end h = by (λ t e g. last-rest stops n t e g) (ends_at stops text)
  where
    by : ((t e : List ℕ) → length t ≤ length e
        → length (up_to n (part stops) t).1
        ≤ length (last_or e (map (λ one. one.1) (up_to n (part stops) t).0)))
        → (b : Bool)
        → length (and_then text (if b then None else Some (with_gap (component_value deepest text))) (up_to n (part stops))).1
        ≤ length (last_or end (map (λ one. one.1) (and_then text (if b then None else Some (with_gap (component_value deepest text))) (up_to n (part stops))).0))
    by more true = h
    by more false =
        let rest = (component_value deepest text).1 in more (past_gap rest) rest (past_gap-within rest)

length-take-most : (n : ℕ) (text : List ℕ) → length (take n text) ≤ n
length-take-most zero text = omega arith
length-take-most (suc n) [] = omega arith
length-take-most (suc n) (b ∷ text) = omega (arith, length-take-most n text)

before-length : (text end : List ℕ) → length (before text end) ≤ length text - length end
before-length text end = length-take-most (length text - length end) text

pub parts-size : (stops : Stops) (text : List ℕ)
    → length (parts stops text).0.text + length (parts stops text).1 ≤ length text
unfolding parts each
parts-size stops text =
    let found = up_to (length text) (part stops) text in
    let end = last_or text (map (λ one. one.1) found.0) in
    let a : length found.1 ≤ length end = last-rest stops (length text) text text (omega arith) in
    let b : length (before text end) ≤ length text - length end = before-length text end in
    let c : length end ≤ length text = length-ends text end (end-well stops text).0 in
    omega arith

-- how long a fallback is with what follows, if there is one
FallbackFits : ℕ → Piece × List ℕ → Type 0
FallbackFits n ((plain text), left) = Unit {0}
FallbackFits n ((reference name None), left) = Unit {0}
FallbackFits n ((reference name (Some inner)), left) = length inner + length left < n
FallbackFits n (broken, left) = Unit {0}

closed-fits : (n : ℕ) (name inner rest : List ℕ) → length inner + length rest ≤ n
    → FallbackFits n (closed_here (reference name (Some inner)) rest)
unfolding FallbackFits
closed-fits n name inner [] h = tt
closed-fits n name inner (b ∷ rest) h = by (b == close_parenthesis) refl
  where
    by : (t : Bool) → (b == close_parenthesis) ≡ t
        → FallbackFits n (if t then (reference name (Some inner), (if b == close_parenthesis then rest else b ∷ rest)) else (broken, []))
    by true e = rw e (omega arith)
    by false e = tt

with_fallback-fits : (n : ℕ) (name : List ℕ) (read : Stated × List ℕ)
    → length read.0.text + length read.1 ≤ n → FallbackFits n (with_fallback name read)
unfolding FallbackFits
with_fallback-fits n name read h = by (is_whole read.0.quality)
  where
    by : (t : Bool) → FallbackFits n
        (if t then closed_here (reference name (Some read.0.text)) read.1 else (broken, []))
    by true = closed-fits n name read.0.text read.1 h
    by false = tt

lone-fits : (n : ℕ) (name rest : List ℕ) → FallbackFits n (closed_here (reference name None) rest)
unfolding FallbackFits
lone-fits n name rest = by (starts close_parenthesis rest)
  where
    by : (t : Bool) → FallbackFits n
        (if t then (reference name None, past_byte close_parenthesis rest) else (broken, []))
    by true = tt
    by false = tt

reference-fits : (text : List ℕ) → FallbackFits (length text) (reference_from text)
unfolding reference_from
reference-fits text =
    let from = past_gap text in
    let name = before from (past_word from) in
    let next = past_gap (past_word from) in
    let inside = past_gap (past_byte comma next) in
    let a : length from ≤ length text = past_gap-within text in
    let b : length (past_word from) ≤ length from = past_word_within from in
    let d : length next ≤ length (past_word from) = past_gap-within (past_word from) in
    let e : length inside ≤ length (past_byte comma next) = past_gap-within (past_byte comma next) in
    let f : length (past_byte comma next) ≤ length next = length-past_byte comma next in
    let g : length (parts in_fallback inside).0.text + length (parts in_fallback inside).1 ≤ length inside =
    parts-size in_fallback inside in
    by name next (parts in_fallback inside) (omega arith) (starts comma next)
  where
    by : (name next : List ℕ) (read : Stated × List ℕ)
        → length read.0.text + length read.1 ≤ length text → (t : Bool)
        → FallbackFits (length text) (if t then with_fallback name read else closed_here (reference name None) next)
    by name next read h true = with_fallback-fits (length text) name read h
    by name next read h false = lone-fits (length text) name next

fits-more : (m n : ℕ) (p : Piece × List ℕ) → m < n → FallbackFits m p → FallbackFits (n - 1) p
unfolding FallbackFits
fits-more m n ((plain text), left) l h = tt
fits-more m n ((reference name None), left) l h = tt
fits-more m n ((reference name (Some inner)), left) l h = omega arith
fits-more m n (broken, left) l h = tt

FoundFits : ℕ → Option (Piece × List ℕ) → Type 0
FoundFits n None = Unit {0}
FoundFits n (Some p) = FallbackFits (n - 1) p

piece-found-fits : (text : List ℕ) → FoundFits (length text) (piece text)
unfolding piece LessSome FoundFits FallbackFits
piece-found-fits [] = tt
piece-found-fits (b ∷ text) =
    rw (not_empty b text) (by (after_var (b ∷ text)) (after_var-less (b ∷ text)))
  where
    by : (o : Option (List ℕ)) → LessSome (length (b ∷ text)) o
        → FoundFits (length (b ∷ text)) (Some (piece_by o (b ∷ text)))
    by None h = tt
    by (Some inside) h =
        fits-more (length inside) (length (b ∷ text)) (reference_from inside) h (reference-fits inside)

pub piece-fallback : (text name inner left : List ℕ)
    → piece text ≡ Some (reference name (Some inner), left)
    → length inner + length left + 1 < length text
unfolding FoundFits FallbackFits
piece-fallback text name inner left e =
    let h : length inner + length left < length text - 1 =
    subst (FoundFits (length text)) e (piece-found-fits text) in
    omega arith
