-- Blocks within blocks, a token at a time.
-- Serves `component_values::read_block`.
use Rattle.std.proofs.Common.{◌≡◌, ℕ, zero, suc, ◌+◌, ◌*◌, ◌/◌, ◌%◌, ◌^◌, ◌-◌, ◌<◌, ◌≤◌, ◌==◌, Bool, true, false, List, [], ◌∷◌, length, Some, None, arith, refl, sym, ap, ◌∙◌, if◌then◌else◌, eq-eqb, eqb-true, add-one}
use Rattle.std.proofs.Math.Nat.{pow-suc, pow-le-pow_right}
use Rattle.std.proofs.lemmas.Nat.{div_below}
use Rattle.css_text.specs.Reading.{each}
use Rattle.css_text.specs.Bytes.{past_byte}
use Rattle.css_text.proofs.reading.EachLemmas.{Shrinks, Takes, each-none, each-some}
use Rattle.css_text.proofs.reading.TakesLemmas.{length-past_byte, each-within}
use Rattle.css_syntax.specs.declared.quality.Quality.{Quality}
use Rattle.css_syntax.specs.declared.quality.Quality.TheVariants.{Whole, Open, BadString, BadUrl, StrayBracket, TooDeep}
use Rattle.css_syntax.specs.Qualities.{first_flaw, flaw_of_all}
use Rattle.css_syntax.specs.Tokens.{is_closer, token}
use Rattle.css_syntax.specs.ComponentValues.{is_opener, mirror, end_quality, value_inside, block_of, value_by, past_open, past_deep, component_value}
use Rattle.css_syntax.specs.internal.OpenBrackets.{closer_of}
use Rattle.css_syntax.proofs.Shorter.{token-takes}

-- ---- a component value consumes a byte or more

-- what a reader of values consumes
pub Consumes : (List ℕ → Quality × List ℕ) → Type 0
Consumes read = (b : ℕ) (text : List ℕ) → length (read (b ∷ text)).1 ≤ length text

value_inside-takes : (read : List ℕ → Quality × List ℕ) (closer : ℕ) → Consumes read
    → Takes (value_inside read closer)
unfolding Consumes
value_inside-takes read closer h [] = tt
value_inside-takes read closer h (b ∷ text) = by (b == closer)
  where
    by : (t : Bool) → Shrinks (b ∷ text) (if t then None else Some (read (b ∷ text)))
    by true = tt
    by false = omega (arith, h b text)

value_by-consumes : (block : ℕ → List ℕ → Quality × List ℕ)
    → ((closer : ℕ) (text : List ℕ) → length (block closer text).1 ≤ length text)
    → Consumes (value_by block)
unfolding Consumes
value_by-consumes block h b text = by (is_opener b)
  where
    by : (t : Bool)
        → length (if t then block (mirror b) text else token (b ∷ text)).1 ≤ length text
    by true = h (mirror b) text
    by false = token-takes b text

block_of-within : (read : List ℕ → Quality × List ℕ) → Consumes read → (closer : ℕ) (text : List ℕ)
    → length (block_of read closer text).1 ≤ length text
unfolding block_of
block_of-within read h closer text = omega (
  arith,
  length-past_byte closer (each (value_inside read closer) text).1,
  each-within (value_inside read closer) (value_inside-takes read closer h) text,
)

-- what is nested too deep
pub open-within : (n depth : ℕ) (text : List ℕ) → length (past_open n depth text) ≤ length text
unfolding past_open
open-within zero depth text = omega arith
open-within (suc n) zero text = omega arith
open-within (suc n) (suc depth) [] = omega arith
open-within (suc n) (suc depth) (b ∷ text) =
    by (is_opener b) (is_closer b) (open-within n (suc (suc depth)) text) (open-within n depth text)
    (open-within n (suc depth) (token (b ∷ text)).1)
  where
    by : (t u : Bool) → length (past_open n (suc (suc depth)) text) ≤ length text
        → length (past_open n depth text) ≤ length text
        → length (past_open n (suc depth) (token (b ∷ text)).1) ≤ length (token (b ∷ text)).1
        → length (if t then past_open n (suc (suc depth)) text
        else (if u then past_open n depth text
        else past_open n (suc depth) (token (b ∷ text)).1)) ≤ length (b ∷ text)
    by true u h k l = omega (arith, h)
    by false true h k l = omega (arith, k)
    by false false h k l = omega (arith, l, token-takes b text)

-- more steps change nothing
pub open-enough : (n m depth : ℕ) (text : List ℕ) → length text ≤ n → length text ≤ m
    → past_open n depth text ≡ past_open m depth text
unfolding past_open
open-enough zero zero depth text h k = refl
open-enough zero (suc m) zero text h k = refl
open-enough zero (suc m) (suc depth) [] h k = refl
open-enough zero (suc m) (suc depth) (b ∷ text) h k = absurd (omega arith)
open-enough (suc n) zero zero text h k = refl
open-enough (suc n) zero (suc depth) [] h k = refl
open-enough (suc n) zero (suc depth) (b ∷ text) h k = absurd (omega arith)
open-enough (suc n) (suc m) zero text h k = refl
open-enough (suc n) (suc m) (suc depth) [] h k = refl
open-enough (suc n) (suc m) (suc depth) (b ∷ text) h k =
    by (is_opener b) (is_closer b)
    (open-enough n m (suc (suc depth)) text (omega arith) (omega arith))
    (open-enough n m depth text (omega arith) (omega arith))
    (open-enough n m (suc depth) (token (b ∷ text)).1 (omega (arith, token-takes b text))
    (omega (arith, token-takes b text)))
  where
    by : (t u : Bool)
        → past_open n (suc (suc depth)) text ≡ past_open m (suc (suc depth)) text
        → past_open n depth text ≡ past_open m depth text
        → past_open n (suc depth) (token (b ∷ text)).1
        ≡ past_open m (suc depth) (token (b ∷ text)).1
        → (if t then past_open n (suc (suc depth)) text
        else (if u then past_open n depth text
        else past_open n (suc depth) (token (b ∷ text)).1))
        ≡ (if t then past_open m (suc (suc depth)) text
        else (if u then past_open m depth text
        else past_open m (suc depth) (token (b ∷ text)).1))
    by true u h k l = h
    by false true h k l = k
    by false false h k l = l

pub open-none : (n : ℕ) (text : List ℕ) → past_open n 0 text ≡ text
unfolding past_open
open-none zero text = refl
open-none (suc n) text = refl

pub open-end : (n depth : ℕ) → past_open n depth [] ≡ []
unfolding past_open
open-end zero depth = refl
open-end (suc n) zero = refl
open-end (suc n) (suc depth) = refl

pub open-opens : (n depth b : ℕ) (text : List ℕ) → 0 < depth → is_opener b ≡ true
    → past_open (suc n) depth (b ∷ text) ≡ past_open n (depth + 1) text
unfolding past_open
open-opens n zero b text h e = absurd (omega arith)
open-opens n (suc depth) b text h e =
    let deeper : suc (suc depth) ≡ suc depth + 1 = omega arith in
    rw e (ap (λ (k : ℕ). past_open n k text) deeper)

pub open-closes : (n depth b : ℕ) (text : List ℕ) → 0 < depth → is_opener b ≡ false
    → is_closer b ≡ true → past_open (suc n) depth (b ∷ text) ≡ past_open n (depth - 1) text
unfolding past_open
open-closes n zero b text h e f = absurd (omega arith)
open-closes n (suc depth) b text h e f =
    let fewer : depth ≡ suc depth - 1 = omega arith in
    rw (e, f) (ap (λ (k : ℕ). past_open n k text) fewer)

pub open-token : (n depth b : ℕ) (text : List ℕ) → 0 < depth → is_opener b ≡ false
    → is_closer b ≡ false
    → past_open (suc n) depth (b ∷ text) ≡ past_open n depth (token (b ∷ text)).1
unfolding past_open
open-token n zero b text h e f = absurd (omega arith)
open-token n (suc depth) b text h e f = rw (e, f) refl

pub component_value-consumes : (n : ℕ) → Consumes (component_value n)
unfolding Consumes component_value
component_value-consumes zero b text =
    value_by-consumes (λ closer rest. (TooDeep, past_deep rest))
    (λ closer rest. open-within (length rest) 1 rest) b text
component_value-consumes (suc n) b text =
    value_by-consumes (block_of (component_value n))
    (block_of-within (component_value n) (component_value-consumes n)) b text

-- in a block whose values may have `n` further brackets open
pub inside-takes : (n closer : ℕ) → Takes (value_inside (component_value n) closer)
inside-takes n closer =
    value_inside-takes (component_value n) closer (component_value-consumes n)

pub value-within : (n b : ℕ) (text : List ℕ) → length (component_value n (b ∷ text)).1 ≤ length text
unfolding Consumes
value-within n b text = component_value-consumes n b text

pub value-empty : (n : ℕ) → component_value n [] ≡ (Whole, [])
unfolding component_value
value-empty zero = refl
value-empty (suc n) = refl

pub value-open : (n b : ℕ) (text : List ℕ) → is_opener b ≡ true
    → component_value (suc n) (b ∷ text) ≡ block_of (component_value n) (mirror b) text
unfolding component_value
value-open n b text opener = rw opener refl

pub value-token : (n b : ℕ) (text : List ℕ) → is_opener b ≡ false
    → component_value n (b ∷ text) ≡ token (b ∷ text)
unfolding component_value
value-token zero b text opener = rw opener refl
value-token (suc n) b text opener = rw opener refl

-- ---- what is left of the blocks that are open

-- a reading after what has this quality
abbrev pub also : Quality → Quality × List ℕ → Quality × List ℕ
also quality read = (first_flaw quality read.0, read.1)

pub flaw-assoc : (a b c : Quality) → first_flaw a (first_flaw b c) ≡ first_flaw (first_flaw a b) c
flaw-assoc Whole b c = refl
flaw-assoc Open b c = refl
flaw-assoc BadString b c = refl
flaw-assoc BadUrl b c = refl
flaw-assoc StrayBracket b c = refl
flaw-assoc TooDeep b c = refl

pub flaw-whole : (a : Quality) → first_flaw a Whole ≡ a
flaw-whole Whole = refl
flaw-whole Open = refl
flaw-whole BadString = refl
flaw-whole BadUrl = refl
flaw-whole StrayBracket = refl
flaw-whole TooDeep = refl

pub also-also : (a b : Quality) (read : Quality × List ℕ)
    → also a (also b read) ≡ also (first_flaw a b) read
also-also a b read = ap (λ (quality : Quality). (quality, read.1)) (flaw-assoc a b read.0)

-- the rest of the innermost block, and then of those round it, of which there are `depth` in all;
-- `waiting` has their closing brackets, and `n` further brackets may be opened
abbrev pub resume : (depth waiting n : ℕ) → List ℕ → Quality × List ℕ
resume zero waiting n text = (Whole, text)
resume (suc depth) waiting n text =
    let inside = each (value_inside (component_value n) (closer_of (waiting % 4))) text in
    also (first_flaw (flaw_of_all inside.0) (end_quality inside.1))
    (resume depth (waiting / 4) (suc n) (past_byte (closer_of (waiting % 4)) inside.1))

-- at the end of the text
pub resume-end : (depth waiting n : ℕ) → resume (suc depth) waiting n [] ≡ (Open, [])
resume-end depth waiting n =
    rw (each-none (value_inside (component_value n) (closer_of (waiting % 4))) [] refl)
    (by depth (waiting / 4) (suc n))
  where
    by : (depth waiting n : ℕ) → also Open (resume depth waiting n []) ≡ (Open, [])
    by zero waiting n = refl
    by (suc depth) waiting n =
        rw (each-none (value_inside (component_value n) (closer_of (waiting % 4))) [] refl)
        (by depth (waiting / 4) (suc n))

-- at the closing bracket of the innermost block
pub resume-close : (depth waiting n b : ℕ) (text : List ℕ) → b ≡ closer_of (waiting % 4)
    → resume (suc depth) waiting n (b ∷ text) ≡ resume depth (waiting / 4) (suc n) text
resume-close depth waiting n b text e =
    let closer = closer_of (waiting % 4) in
    let read = value_inside (component_value n) closer in
    let same : (b == closer) ≡ true = eq-eqb b closer e in
    let none : read (b ∷ text) ≡ None = rw same refl in
    let past : past_byte closer (b ∷ text) ≡ text = rw same refl in
    ap (λ (r : List Quality × List ℕ). also (first_flaw (flaw_of_all r.0) (end_quality r.1))
    (resume depth (waiting / 4) (suc n) (past_byte closer r.1)))
    (each-none read (b ∷ text) none)
    ∙ ap (resume depth (waiting / 4) (suc n)) past

-- at a value
pub resume-value : (depth waiting n b : ℕ) (text : List ℕ) → (b == closer_of (waiting % 4)) ≡ false
    → resume (suc depth) waiting n (b ∷ text)
    ≡ also (component_value n (b ∷ text)).0
    (resume (suc depth) waiting n (component_value n (b ∷ text)).1)
resume-value depth waiting n b text e =
    let closer = closer_of (waiting % 4) in
    let read = value_inside (component_value n) closer in
    let x = component_value n (b ∷ text) in
    let found : read (b ∷ text) ≡ Some x = rw e refl in
    let more = each read x.1 in
    let left = resume depth (waiting / 4) (suc n) (past_byte closer more.1) in
    ap (λ (r : List Quality × List ℕ). also (first_flaw (flaw_of_all r.0) (end_quality r.1))
    (resume depth (waiting / 4) (suc n) (past_byte closer r.1)))
    (each-some read (inside-takes n closer) (b ∷ text) x.1 x.0 found)
    ∙ ap (λ (quality : Quality). also quality left)
    (sym (flaw-assoc x.0 (flaw_of_all more.0) (end_quality more.1)))
    ∙ sym (also-also x.0 (first_flaw (flaw_of_all more.0) (end_quality more.1)) left)

-- at an opening bracket
pub resume-open : (depth waiting next n b : ℕ) (text : List ℕ)
    → (b == closer_of (waiting % 4)) ≡ false → is_opener b ≡ true → next / 4 ≡ waiting
    → closer_of (next % 4) ≡ mirror b
    → resume (suc depth) waiting (suc n) (b ∷ text) ≡ resume (suc (suc depth)) next n text
unfolding block_of component_value
resume-open depth waiting next n b text e opener rest closer =
    let inner = each (value_inside (component_value n) (mirror b)) text in
    let value : component_value (suc n) (b ∷ text)
    ≡ (first_flaw (flaw_of_all inner.0) (end_quality inner.1), past_byte (mirror b) inner.1)
    = rw opener refl in
    resume-value depth waiting (suc n) b text e
    ∙ ap (λ (x : Quality × List ℕ). also x.0 (resume (suc depth) waiting (suc n) x.1)) value
    ∙ rw (closer, rest) refl

-- at one too many
pub resume-deep : (depth waiting b : ℕ) (text : List ℕ)
    → (b == closer_of (waiting % 4)) ≡ false → is_opener b ≡ true
    → resume (suc depth) waiting zero (b ∷ text)
    ≡ also TooDeep (resume (suc depth) waiting zero (past_deep text))
unfolding component_value
resume-deep depth waiting b text e opener =
    let value : component_value zero (b ∷ text) ≡ (TooDeep, past_deep text) = rw opener refl in
    resume-value depth waiting zero b text e
    ∙ ap (λ (x : Quality × List ℕ). also x.0 (resume (suc depth) waiting zero x.1)) value

-- at any other token
pub resume-token : (depth waiting n b : ℕ) (text : List ℕ)
    → (b == closer_of (waiting % 4)) ≡ false → is_opener b ≡ false
    → resume (suc depth) waiting n (b ∷ text)
    ≡ also (token (b ∷ text)).0 (resume (suc depth) waiting n (token (b ∷ text)).1)
resume-token depth waiting n b text e opener =
    resume-value depth waiting n b text e
    ∙ ap (λ (x : Quality × List ℕ). also x.0 (resume (suc depth) waiting n x.1))
    (value-token n b text opener)

-- one block, from its start
pub resume-start : (kind n : ℕ) (text : List ℕ) → kind < 4
    → resume 1 kind n text ≡ block_of (component_value n) (closer_of kind) text
unfolding block_of
resume-start kind n text h =
    let digit : kind % 4 ≡ kind = omega arith in
    let inside = each (value_inside (component_value n) (closer_of kind)) text in
    rw digit (ap (λ (quality : Quality). (quality, past_byte (closer_of kind) inside.1))
    (flaw-whole (first_flaw (flaw_of_all inside.0) (end_quality inside.1))))

-- ---- with the depth as the code has it

pub close-at : (depth waiting b : ℕ) (text : List ℕ) → 0 < depth → depth ≤ 64
    → b ≡ closer_of (waiting % 4)
    → resume depth waiting (64 - depth) (b ∷ text)
    ≡ resume (depth - 1) (waiting / 4) (64 - (depth - 1)) text
close-at zero waiting b text h l e = absurd (omega arith)
close-at (suc d) waiting b text h l e =
    let more : suc (64 - suc d) ≡ 64 - (suc d - 1) = omega arith in
    let fewer : d ≡ suc d - 1 = omega arith in
    resume-close d waiting (64 - suc d) b text e
    ∙ ap (λ (m : ℕ). resume d (waiting / 4) m text) more
    ∙ ap (λ (k : ℕ). resume k (waiting / 4) (64 - (suc d - 1)) text) fewer

pub open-at : (depth waiting kind b : ℕ) (text : List ℕ) → 0 < depth → depth < 64
    → (b == closer_of (waiting % 4)) ≡ false → is_opener b ≡ true → kind < 4
    → closer_of kind ≡ mirror b
    → resume depth waiting (64 - depth) (b ∷ text)
    ≡ resume (depth + 1) (4 * waiting + kind) (64 - (depth + 1)) text
open-at zero waiting kind b text h l e opener k closer = absurd (omega arith)
open-at (suc d) waiting kind b text h l e opener k closer =
    let next = 4 * waiting + kind in
    let digit : next % 4 ≡ kind = omega arith in
    let others : next / 4 ≡ waiting = omega arith in
    let fewer : 64 - suc d ≡ suc (64 - (suc d + 1)) = omega arith in
    let deeper : suc (suc d) ≡ suc d + 1 = omega arith in
    ap (λ (m : ℕ). resume (suc d) waiting m (b ∷ text)) fewer
    ∙ resume-open d waiting next (64 - (suc d + 1)) b text e opener others (ap closer_of digit
    ∙ closer)
    ∙ ap (λ (k : ℕ). resume k next (64 - (suc d + 1)) text) deeper

pub deep-at : (depth waiting b : ℕ) (text : List ℕ) → depth ≡ 64
    → (b == closer_of (waiting % 4)) ≡ false → is_opener b ≡ true
    → resume depth waiting (64 - depth) (b ∷ text)
    ≡ also TooDeep (resume depth waiting (64 - depth) (past_deep text))
deep-at depth waiting b text h e opener =
    let none : 64 - depth ≡ zero = omega arith in
    let all : depth ≡ suc 63 = omega arith in
    let same : (t : List ℕ) → resume depth waiting (64 - depth) t ≡ resume 64 waiting zero t =
    λ t. ap (λ (n : ℕ). resume depth waiting n t) none
    ∙ ap (λ (k : ℕ). resume k waiting zero t) all in
    same (b ∷ text) ∙ resume-deep 63 waiting b text e opener
    ∙ ap (also TooDeep) (sym (same (past_deep text)))

pub token-at : (depth waiting n b : ℕ) (text : List ℕ) → 0 < depth
    → (b == closer_of (waiting % 4)) ≡ false → is_opener b ≡ false
    → resume depth waiting n (b ∷ text)
    ≡ also (token (b ∷ text)).0 (resume depth waiting n (token (b ∷ text)).1)
token-at zero waiting n b text h e opener = absurd (omega arith)
token-at (suc d) waiting n b text h e opener = resume-token d waiting n b text e opener

-- ---- the number of the brackets

-- a further digit
pub digits : (waiting kind depth : ℕ) → kind < 4 → waiting < 4 ^ depth
    → 4 * waiting + kind < 4 ^ (depth + 1)
digits waiting kind depth k h =
    rw (add-one, pow-suc 4 depth) (omega arith)

-- and one less
pub fewer : (waiting depth : ℕ) → 0 < depth → waiting < 4 ^ depth
    → waiting / 4 < 4 ^ (depth - 1)
fewer waiting zero z h = absurd (omega arith)
fewer waiting (suc d) z h =
    let less : d ≡ suc d - 1 = omega arith in
    let next : waiting < 4 ^ d * 4 = rw (← pow-suc 4 d) h in
    rw (← less) (div_below waiting 4 (4 ^ d) (omega arith) next)

-- as many as a number of 64 bits has
pub fits : (waiting depth : ℕ) → depth < 64 → waiting < 4 ^ depth → waiting < 4 ^ 63
fits waiting depth l h =
    omega (arith, pow-le-pow_right {n = 4} (omega arith) {i = depth} {j = 63} (omega arith))

-- ---- as the loop goes

pub other_byte : (a b : ℕ) → (a ≡ b → ⊥) → (a == b) ≡ false
other_byte a b h = by (a == b) refl
  where
    by : (t : Bool) → (a == b) ≡ t → (a == b) ≡ false
    by true e = absurd (h (eqb-true a b e))
    by false e = e

pub at-end : (depth waiting n : ℕ) (rest : List ℕ) (quality : Quality) → 0 < depth → rest ≡ []
    → also quality (resume depth waiting n rest) ≡ (first_flaw quality Open, rest)
at-end zero waiting n rest quality h e = absurd (omega arith)
at-end (suc depth) waiting n rest quality h e =
    ap (λ (t : List ℕ). also quality (resume (suc depth) waiting n t)) e
    ∙ ap (also quality) (resume-end depth waiting n)
    ∙ ap (λ (t : List ℕ). (first_flaw quality Open, t)) (sym e)

pub step-close : (depth waiting b : ℕ) (rest after : List ℕ) (quality : Quality) → 0 < depth
    → depth ≤ 64
    → rest ≡ b ∷ after → b ≡ closer_of (waiting % 4)
    → also quality (resume (depth - 1) (waiting / 4) (64 - (depth - 1)) after)
    ≡ also quality (resume depth waiting (64 - depth) rest)
step-close depth waiting b rest after quality h l e closer =
    ap (also quality) (sym (ap (resume depth waiting (64 - depth)) e
    ∙ close-at depth waiting b after h l closer))

pub step-open : (depth waiting kind b : ℕ) (rest after : List ℕ) (quality : Quality) → 0 < depth
    → depth < 64 → rest ≡ b ∷ after → (b == closer_of (waiting % 4)) ≡ false
    → is_opener b ≡ true → kind < 4 → closer_of kind ≡ mirror b
    → also quality (resume (depth + 1) (4 * waiting + kind) (64 - (depth + 1)) after)
    ≡ also quality (resume depth waiting (64 - depth) rest)
step-open depth waiting kind b rest after quality h l e other opener k closer =
    ap (also quality) (sym (ap (resume depth waiting (64 - depth)) e
    ∙ open-at depth waiting kind b after h l other opener k closer))

pub step-deep : (depth waiting b : ℕ) (rest after left : List ℕ) (quality : Quality) → depth ≡ 64
    → rest ≡ b ∷ after → (b == closer_of (waiting % 4)) ≡ false → is_opener b ≡ true
    → left ≡ past_deep after
    → also (first_flaw quality TooDeep) (resume depth waiting (64 - depth) left)
    ≡ also quality (resume depth waiting (64 - depth) rest)
step-deep depth waiting b rest after left quality l e other opener d =
    sym (also-also quality TooDeep (resume depth waiting (64 - depth) left))
    ∙ ap (also quality) (sym (ap (resume depth waiting (64 - depth)) e
    ∙ deep-at depth waiting b after l other opener
    ∙ ap (λ (t : List ℕ). also TooDeep (resume depth waiting (64 - depth) t)) (sym d)))

pub step-token : (depth waiting n b : ℕ) (rest after : List ℕ) (quality : Quality)
    (skipped : Quality × List ℕ) → 0 < depth → rest ≡ b ∷ after
    → (b == closer_of (waiting % 4)) ≡ false → is_opener b ≡ false → token rest ≡ skipped
    → also (first_flaw quality skipped.0) (resume depth waiting n skipped.1)
    ≡ also quality (resume depth waiting n rest)
step-token depth waiting n b rest after quality skipped h e other opener t =
    sym (also-also quality skipped.0 (resume depth waiting n skipped.1))
    ∙ ap (also quality) (sym (ap (resume depth waiting n) e
    ∙ token-at depth waiting n b after h other opener
    ∙ ap (λ (x : Quality × List ℕ). also x.0 (resume depth waiting n x.1)) (ap token (sym e) ∙ t)))

pub token-less : (b : ℕ) (rest after : List ℕ) (skipped : Quality × List ℕ) → rest ≡ b ∷ after
    → token rest ≡ skipped → length skipped.1 < length rest
token-less b rest after skipped e t =
    omega (
      arith,
      token-takes b after,
      ap length e,
      ap (λ (x : Quality × List ℕ). length x.1) (ap token (sym e) ∙ t),
    )
