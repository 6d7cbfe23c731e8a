-- Blocks, a declaration at a time.
-- Serves `blocks::{brace_counts, closing_offset, block_end, consume_declarations,
-- consume_next_block}` (where a block begins and ends).
use Rattle.std.proofs.Common.{◌≡◌, ℕ, ◌+◌, ◌-◌, ◌<◌, ◌≤◌, ◌==◌, ◌&&◌, List, [], ◌∷◌, Bool, true, false, cond, not, suc, length, take, drop, get_or, slice_index, Option, None, Some, refl, sym, ap, ◌∙◌, arith, eq-eqb, eqb-true, if◌then◌else◌, length-drop, nat_lt, ltb-true, ltb-false}
use Rattle.std.proofs.lemmas.List.{get_or-drop, get_or-take, take-take, drop-take, length-take, length-take-le, take_rest, take_more}
use Rattle.std.proofs.lemmas.List.Sums.{sum_by-take-drop, sum_by-append}
use mir.Val.{bool_byte}
use Rattle.std.specs.List.{prefix_len}
use Rattle.std.specs.Str.{IsCharBoundary}
use Rattle.css_text.specs.AsciiBytes.{close_brace, open_brace}
use Rattle.css_text.specs.Reading.{Reading, got, fails, found, each, followed_by}
use Rattle.css_text.specs.Bytes.{past_byte, after_byte}
use Rattle.css_text.specs.Characters.{Edition}
use Rattle.simplecss_grammar.specs.Declarations.{StyleDeclaration, declaration, next_declaration}
use Rattle.simplecss_grammar.specs.Blocks.{count_of, closes_block, block_end, from_block_end, ends_list, declaration_in_block, past_broken, past_list, block}
use Rattle.simplecss_grammar.specs.Statements.{next_block}
use Rattle.simplecss_declaration.specs.internal.ListEnds.{EndsAt}
use Rattle.simplecss_grammar.specs.Skipped.{Skip, broken_part, if_broken, list_skips, block_skips, next_block_skips}
use Rattle.css_text.proofs.reading.EachLemmas.{took, each-none, each-some}
use Rattle.simplecss_grammar.proofs.reading.DeclarationLemmas.{next_declaration-takes, declaration_in_block-takes}
use Rattle.simplecss_grammar.proofs.reading.LeastLemmas.{least-is, least-none, least-le, least-passes}
use Rattle.simplecss_declaration.specs.internal.UnreportedFaults.{FailsAt}
use Rattle.simplecss_declaration.specs.internal.BlockDepths.{closes_at, ClosesFirst, ClosesNowhere}
use Rattle.simplecss_declaration.proofs.DeclarationLists.{found-none}

first-true : (a b : Bool) → (a && b) ≡ true → a ≡ true
first-true true b e = refl
first-true false b e = e

-- the number of the byte before an offset, and up to a later one
count_of-take-add : (byte : ℕ) (text : List ℕ) (offset len : ℕ)
    → count_of byte (take (offset + len) text)
    ≡ count_of byte (take offset text) + count_of byte (take len (drop offset text))
count_of-take-add byte text offset len =
    let front : take offset (take (offset + len) text) ≡ take offset text =
    take-take offset (offset + len) text (omega arith) in
    let after : drop offset (take (offset + len) text) ≡ take len (drop offset text) =
    drop-take offset len text in
    let all : count_of byte (take offset (take (offset + len) text)) + count_of byte
    (drop offset (take (offset + len) text)) ≡ count_of byte (take (offset + len) text) =
    sum_by-take-drop (λ b. cond (b == byte) 1 0) (take (offset + len) text) offset in
    sym all
    ∙ ap (λ t. count_of byte t + count_of byte (drop offset (take (offset + len) text))) front
    ∙ ap (λ t. count_of byte (take offset text) + count_of byte t) after

one_byte : (b : Bool) → 0 + cond b 1 0 ≡ bool_byte b
one_byte true = refl
one_byte false = refl

-- one more of the byte is before the next offset, if it is at this one
pub count_of-more : (byte : ℕ) (text : List ℕ) (offset : ℕ) → offset < length text
    → count_of byte (take offset text) + bool_byte (get_or text offset 0 == byte)
    ≡ count_of byte (take (offset + 1) text)
count_of-more byte text offset within = sym (
    ap (count_of byte) (take_more text offset 0 within)
    ∙ sum_by-append (λ b. cond (b == byte) 1 0) (take offset text) (get_or text offset 0 ∷ [])
    ∙ ap (λ n. count_of byte (take offset text) + n) (one_byte (get_or text offset 0 == byte))
    )

same_test : (a b c d : ℕ) → (a ≡ b → c ≡ d) → (c ≡ d → a ≡ b) → (a == b) ≡ (c == d)
same_test a b c d there back = by (a == b) (c == d) refl refl
  where
    by : (s t : Bool) → (a == b) ≡ s → (c == d) ≡ t → s ≡ t
    by true true e f = refl
    by false false e f = refl
    by true false e f = sym (eq-eqb c d (there (eqb-true a b e))) ∙ f
    by false true e f = sym e ∙ eq-eqb a b (back (eqb-true c d f))

-- The block in which the text begins is not closed before the offset, and `depth` of those that
-- begin before it are open there.
pub record IsInside (text : List ℕ) (offset depth : ℕ) : Type 0 where
  pub counts : depth + count_of close_brace (take offset text)
      ≡ count_of open_brace (take offset text)
  pub none : (k : ℕ) → k < offset → closes_block text k ≡ false

-- `n` bytes from an offset on are a part of the text
pub part_len : (text part : List ℕ) (offset n : ℕ) → part ≡ take n (drop offset text)
    → offset + n ≤ length text → (part ≡ take (length part) (drop offset text)) × (length part ≡ n)
part_len text part offset n p l =
    let len : length part ≡ n =
    ap length p ∙ length-take-le n (drop offset text) (omega (arith, length-drop offset text)) in
    (p ∙ ap (λ m. take m (drop offset text)) (sym len), len)

-- so are as many bytes of a rest of which others are left
pub part_split : (text part left : List ℕ) (offset n : ℕ) → offset ≤ length text
    → part ≡ take n (take (length text - offset) (drop offset text))
    → length left + n ≡ length (take (length text - offset) (drop offset text))
    → (part ≡ take (length part) (drop offset text)) × (length part ≡ n)
    × (offset + n ≤ length text)
part_split text part left offset n l p e =
    let rest : take (length text - offset) (drop offset text) ≡ drop offset text =
    take_rest text offset in
    let within : offset + n ≤ length text =
    omega (arith, e, ap length rest, length-drop offset text) in
    let split = part_len text part offset n (p ∙ ap (take n) rest) within in
    (split.0, split.1, within)

-- what closes a part of the text closes the text
closes_block-part : (text part : List ℕ) (offset depth k : ℕ) → IsInside text offset depth
    → part ≡ take (length part) (drop offset text) → k < length part
    → closes_block text (offset + k) ≡ closes_at depth part k
closes_block-part text part offset depth k inside p h =
    let front : take k part ≡ take k (drop offset text) =
    ap (take k) p ∙ take-take k (length part) (drop offset text) (omega arith) in
    let byte : get_or part k 0 ≡ get_or text (offset + k) 0 = ap (λ t. get_or t k 0) p
    ∙ get_or-take (length part) (drop offset text) k 0 h ∙ get_or-drop offset text k 0 in
    let begun : count_of open_brace (take (offset + k) text)
    ≡ count_of open_brace (take offset text) + count_of open_brace (take k part) =
    count_of-take-add open_brace text offset k
    ∙ ap (λ t. count_of open_brace (take offset text) + count_of open_brace t) (sym front) in
    let ended : count_of close_brace (take (offset + k) text)
    ≡ count_of close_brace (take offset text) + count_of close_brace (take k part) =
    count_of-take-add close_brace text offset k
    ∙ ap (λ t. count_of close_brace (take offset text) + count_of close_brace t) (sym front) in
    let even :
    (count_of open_brace (take (offset + k) text) == count_of close_brace (take (offset + k) text))
    ≡ (depth + count_of open_brace (take k part) == count_of close_brace (take k part)) =
    same_test _ _ _ _ (λ e. omega (arith, inside.counts)) (λ e. omega (arith, inside.counts)) in
    ap (λ b. b == close_brace && count_of open_brace (take (offset + k) text)
    == count_of close_brace (take (offset + k) text)) (sym byte)
    ∙ ap (λ t. get_or part k 0 == close_brace && t) even

-- after a part of the text in which nothing closes the block
pub inside-passed : (text part : List ℕ) (offset depth after : ℕ) → IsInside text offset depth
    → part ≡ take (length part) (drop offset text) → ClosesNowhere depth part after
    → IsInside text (offset + length part) after
inside-passed text part offset depth after inside p nowhere = record {
  counts = omega (
    arith,
    inside.counts,
    nowhere.counts,
    count_of-take-add open_brace text offset (length part),
    count_of-take-add close_brace text offset (length part),
    ap (count_of open_brace) p,
    ap (count_of close_brace) p,
  );
  none = λ k h. by k h (nat_lt k offset) refl;
}
  where
    by : (k : ℕ) → k < offset + length part → (before : Bool) → nat_lt k offset ≡ before
        → closes_block text k ≡ false
    by k h true e = inside.none k (ltb-true k offset e)
    by k h false e =
        let after : offset ≤ k = ltb-false k offset e in
        let at : offset + (k - offset) ≡ k = omega arith in
        ap (closes_block text) (sym at)
        ∙ closes_block-part text part offset depth (k - offset) inside p (omega arith)
        ∙ nowhere.none (k - offset) (omega arith)

-- where a part of the text is closed, the block ends that the text begins in
pub inside-closed : (text part : List ℕ) (offset depth at : ℕ) → IsInside text offset depth
    → part ≡ take (length part) (drop offset text) → ClosesFirst depth part at
    → block_end text ≡ offset + at
unfolding block_end
inside-closed text part offset depth at inside p first =
    let within : offset + at < length text = omega (
      arith,
      first.within,
      ap length p,
      length-take (length part) (drop offset text),
      length-drop offset text,
    ) in
    least-is (closes_block text) (length text) (offset + at) within
    (closes_block-part text part offset depth at inside p first.within ∙ first.closes)
    (λ k h. by k h (nat_lt k offset) refl)
  where
    by : (k : ℕ) → k < offset + at → (before : Bool) → nat_lt k offset ≡ before
        → closes_block text k ≡ false
    by k h true e = inside.none k (ltb-true k offset e)
    by k h false e =
        let after : offset ≤ k = ltb-false k offset e in
        let here : offset + (k - offset) ≡ k = omega arith in
        ap (closes_block text) (sym here) ∙ closes_block-part text part offset depth (k - offset)
        inside p (omega (arith, first.within)) ∙ first.before (k - offset) (omega arith)

-- without such a brace the block ends where the text does
pub inside-open : (text : List ℕ) (depth : ℕ) → IsInside text (length text) depth
    → block_end text ≡ length text
unfolding block_end
inside-open text depth inside = least-none (closes_block text) (length text) inside.none

-- a text may be cut where a block ends
pub boundary_at_block_end : (text : List ℕ) → IsCharBoundary text (block_end text)
unfolding block_end
boundary_at_block_end text = (
  least-le (closes_block text) (length text),
  λ h wide.
      let here : closes_block text (block_end text) ≡ true =
      least-passes (closes_block text) (length text) h in
      let brace : slice_index text (block_end text) ≡ close_brace =
      eqb-true (slice_index text (block_end text)) close_brace
      (first-true (slice_index text (block_end text) == close_brace) (count_of open_brace
      (take (block_end text) text) == count_of close_brace (take (block_end text) text)) here) in
      absurd (omega (arith, brace)),
)

pub list-some : (edition : Edition) (text rest : List ℕ) (p : StyleDeclaration)
    → ends_list text ≡ false → declaration edition text ≡ got p rest
    → each (declaration_in_block edition) text
    ≡ followed_by p (each (declaration_in_block edition) rest)
list-some edition text rest p e f =
    let read : declaration_in_block edition text ≡ Some (p, rest) = rw e (ap found f) in
    each-some (declaration_in_block edition) (declaration_in_block-takes edition) text rest p read

pub list-less : (edition : Edition) (text rest : List ℕ) (p : StyleDeclaration)
    → declaration edition text ≡ got p rest → length rest < length text
list-less edition text rest p f =
    took (next_declaration edition) (next_declaration-takes edition) text rest p (ap found f)

pub list-none : (edition : Edition) (text : List ℕ) → ends_list text ≡ true
    → each (declaration_in_block edition) text ≡ ([], text)
list-none edition text e = each-none (declaration_in_block edition) text (rw e refl)

pub list-broken : (edition : Edition) (text left : List ℕ) → FailsAt (declaration edition text) left
    → each (declaration_in_block edition) text ≡ ([], text)
list-broken edition text left h =
    each-none (declaration_in_block edition) text (by (ends_list text))
  where
    by : (t : Bool) → (if t then None else found (declaration edition text)) ≡ None
    by true = refl
    by false = found-none (declaration edition text) left h

pub past_list-end : (edition : Edition) (text : List ℕ) → ends_list text ≡ true
    → past_list edition text ≡ text
past_list-end edition text e = rw e refl

pub past_list-broken : (edition : Edition) (text left : List ℕ) → ends_list text ≡ false
    → FailsAt (declaration edition text) left
    → past_list edition text ≡ past_byte close_brace (from_block_end left)
past_list-broken edition text left e h = rw e (by (declaration edition text) h)
  where
    by : (r : Reading StyleDeclaration) → FailsAt r left
        → past_broken r ≡ past_byte close_brace (from_block_end left)
    by (got p rest) h = absurd h
    by (fails fault rest) h = ap (λ (t : List ℕ). past_byte close_brace (from_block_end t)) (sym h)

-- ---- the block of a rule set

-- the block after the first opening brace, if there is one
abbrev block_after : Edition → Option (List ℕ) → List StyleDeclaration × List ℕ
block_after edition None = ([], [])
block_after edition (Some text) = block edition text

next_block-after : (edition : Edition) (text : List ℕ)
    → next_block edition text ≡ block_after edition (after_byte open_brace text)
unfolding next_block
next_block-after edition [] = refl
next_block-after edition (b ∷ text) = by (b == open_brace) refl (next_block-after edition text)
  where
    by : (t : Bool) → (b == open_brace) ≡ t
        → next_block edition text ≡ block_after edition (after_byte open_brace text)
        → next_block edition (b ∷ text) ≡ block_after edition (after_byte open_brace (b ∷ text))
    by true e more = rw (e, e) refl
    by false e more =
        let one : 1 + prefix_len (λ b. not (b == open_brace)) text
        ≡ suc (prefix_len (λ b. not (b == open_brace)) text) = omega arith in
        rw (e, one) more

pub next_block-some : (edition : Edition) (text rest : List ℕ)
    → after_byte open_brace text ≡ Some rest → next_block edition text ≡ block edition rest
next_block-some edition text rest e = next_block-after edition text ∙ ap (block_after edition) e

pub next_block-none : (edition : Edition) (text : List ℕ) → after_byte open_brace text ≡ None
    → next_block edition text ≡ ([], [])
next_block-none edition text e = next_block-after edition text ∙ ap (block_after edition) e

-- where no broken declaration ends the list of declarations
pub block-ended : (edition : Edition) (text left rest : List ℕ) (front : List StyleDeclaration)
    → front ≡ (each (declaration_in_block edition) text).0
    → EndsAt edition (each (declaration_in_block edition) text).1 None left
    → rest ≡ past_byte close_brace left → block edition text ≡ (front, rest)
unfolding block
block-ended edition text left rest front f h r =
    let here = (each (declaration_in_block edition) text).1 in
    ap (λ (x : List StyleDeclaration). (x, past_byte close_brace (past_list edition here))) (sym f)
    ∙ ap (λ (t : List ℕ). (front, past_byte close_brace t))
    (past_list-end edition here h.0 ∙ sym h.1)
    ∙ ap (λ (t : List ℕ). (front, t)) (sym r)

-- where a broken declaration ends it
pub block-broken : (edition : Edition) (text begun left rest : List ℕ)
    (front : List StyleDeclaration) → front ≡ (each (declaration_in_block edition) text).0
    → EndsAt edition (each (declaration_in_block edition) text).1 (Some begun) left
    → rest ≡ past_byte close_brace (past_byte close_brace (from_block_end left))
    → block edition text ≡ (front, rest)
unfolding block
block-broken edition text begun left rest front f h r =
    let here = (each (declaration_in_block edition) text).1 in
    ap (λ (x : List StyleDeclaration). (x, past_byte close_brace (past_list edition here))) (sym f)
    ∙ ap (λ (t : List ℕ). (front, past_byte close_brace t))
    (past_list-broken edition here left h.0 h.2)
    ∙ ap (λ (t : List ℕ). (front, t)) (sym r)

-- ---- what a block skips

-- where no broken declaration ends the list of declarations
pub list_skips-ended : (edition : Edition) (here left : List ℕ) → EndsAt edition here None left
    → list_skips edition here ≡ []
list_skips-ended edition here left h = let ends = h.0 in rw ends refl

-- where a broken declaration ends it
pub list_skips-broken : (edition : Edition) (here begun left : List ℕ)
    → EndsAt edition here (Some begun) left
    → list_skips edition here ≡ broken_part begun (from_block_end left)
list_skips-broken edition here begun left h =
    let goes = h.0 in
    rw goes (by (declaration edition here) h.2
    ∙ ap (λ (t : List ℕ). broken_part t (from_block_end left)) (sym h.1))
  where
    by : (r : Reading StyleDeclaration) → FailsAt r left
        → if_broken here r ≡ broken_part here (from_block_end left)
    by (got p rest) f = absurd f
    by (fails fault rest) f =
        ap (λ (t : List ℕ). broken_part here (from_block_end t)) (sym f)

-- the block after the first opening brace, if there is one
abbrev skips_after : Edition → Option (List ℕ) → List Skip
skips_after edition None = []
skips_after edition (Some text) = block_skips edition text

next_block_skips-after : (edition : Edition) (text : List ℕ)
    → next_block_skips edition text ≡ skips_after edition (after_byte open_brace text)
unfolding next_block_skips
next_block_skips-after edition [] = refl
next_block_skips-after edition (b ∷ text) =
    by (b == open_brace) refl (next_block_skips-after edition text)
  where
    by : (t : Bool) → (b == open_brace) ≡ t
        → next_block_skips edition text ≡ skips_after edition (after_byte open_brace text)
        → next_block_skips edition (b ∷ text)
        ≡ skips_after edition (after_byte open_brace (b ∷ text))
    by true e more = rw (e, e) refl
    by false e more =
        let one : 1 + prefix_len (λ b. not (b == open_brace)) text
        ≡ suc (prefix_len (λ b. not (b == open_brace)) text) = omega arith in
        rw (e, one) more

pub next_block_skips-some : (edition : Edition) (text rest : List ℕ)
    → after_byte open_brace text ≡ Some rest
    → next_block_skips edition text ≡ block_skips edition rest
next_block_skips-some edition text rest e =
    next_block_skips-after edition text ∙ ap (skips_after edition) e

pub next_block_skips-none : (edition : Edition) (text : List ℕ) → after_byte open_brace text ≡ None
    → next_block_skips edition text ≡ []
next_block_skips-none edition text e =
    next_block_skips-after edition text ∙ ap (skips_after edition) e
