-- How long a group rule's block is, and what is left after it.
-- Serves `SheetReader::step` (its measure).
use Rattle.std.proofs.Common.{◌≡◌, ℕ, zero, suc, ◌+◌, ◌<◌, ◌≤◌, ◌-◌, Bool, true, false, List, [], ◌∷◌, length, map, Option, Some, None, arith, refl, subst, if◌then◌else◌, length-take-le, ap, sym, inl, inr}
use Rattle.css_text.specs.AsciiBytes.{open_brace, close_brace, at_sign}
use Rattle.css_text.specs.Reading.{before, each, up_to, and_then, last_or}
use Rattle.css_text.specs.Bytes.{past_byte, starts}
use Rattle.css_text.proofs.reading.EachLemmas.{each-stops}
use Rattle.css_text.proofs.reading.TakesLemmas.{length-past_byte}
use Rattle.css_text.proofs.reading.EndsLemmas.{length-ends}
use Rattle.css_syntax.specs.declared.parts.Stops.{Stops}
use Rattle.css_syntax.specs.Tokens.{gap_part, past_gap, past_word}
use Rattle.css_syntax.specs.ComponentValues.{deepest, component_value}
use Rattle.css_syntax.specs.Parts.{Stated, ends_at, with_gap, part, parts}
use Rattle.css_syntax.specs.Statements.{begins_at_rule, BlockText, block_ends, block, AtRuleText, at_rule_ends, at_rule_ended, at_rule, at_rule_statement, rule_set_ends, rule_set_ended, statement, past_between, ends_block, SheetText, statement_from, next_statement, with_text}
use Rattle.css_syntax.proofs.Shorter.{each-rests, gap_part-takes, past_word_within}
use Rattle.css_syntax.proofs.PartLemmas.{past_gap-within, parts-within}
use Rattle.css_syntax.proofs.PartTexts.{end-well}
use Rattle.css_syntax.proofs.ItemLemmas.{between-well, at-less}
use Rattle.css_sheet.specs.SheetItems.{GroupText, group_with, group_of, is_group_name, next_part}
use Rattle.css_sheet.proofs.NextParts.{next-cases}

-- ---- the text of parts and what is left after them

pub gap-again : (text : List ℕ) → past_gap (past_gap text) ≡ past_gap text
gap-again text = each-rests gap_part (past_gap text) (each-stops gap_part gap_part-takes text)

-- what is left is what follows the last part and the blank after it
pub gap-after : (stops : Stops) (n : ℕ) (text end : List ℕ) → text ≡ past_gap end
    → (up_to n (part stops) text).1
    ≡ past_gap (last_or end (map (λ one. one.1) (up_to n (part stops) text).0))
gap-after stops zero text end h = h
gap-after stops (suc n) text end h =
    by (λ rest from e. gap-after stops n rest from e) (ends_at stops text)
  where
    by : ((rest from : List ℕ) → rest ≡ past_gap from → (up_to n (part stops) rest).1
        ≡ past_gap (last_or from (map (λ one. one.1) (up_to n (part stops) rest).0)))
        → (t : Bool)
        → (and_then text (if t then None else Some (with_gap (component_value deepest text)))
        (up_to n (part stops))).1
        ≡ past_gap (last_or end (map (λ one. one.1) (and_then text
        (if t then None else Some (with_gap (component_value deepest text)))
        (up_to n (part stops))).0))
    by more true = h
    by more false =
        let value = component_value deepest text in more (past_gap value.1) value.1 refl

end-within : (stops : Stops) (text : List ℕ)
    → length (last_or text (map (λ one. one.1) (up_to (length text) (part stops) text).0))
    ≤ length text
unfolding each
end-within stops text = length-ends text _ (end-well stops text).0

parts-sum : (stops : Stops) (text : List ℕ) → text ≡ past_gap text
    → length (parts stops text).0.text + length (parts stops text).1 ≤ length text
unfolding parts each
parts-sum stops text g =
    let end = last_or text (map (λ one. one.1) (up_to (length text) (part stops) text).0) in
    let inside : length end ≤ length text = end-within stops text in
    let taken : length (before text end) ≡ length text - length end =
    length-take-le _ text (omega arith) in
    omega (
      arith,
      ap length (gap-after stops (length text) text text g),
      past_gap-within end,
      taken,
      inside,
    )

-- ---- blocks

block-sum : (text : List ℕ) → length (block text).0.text + length (block text).1 ≤ length text
unfolding block
block-sum text =
    let inside = parts block_ends (past_gap text) in
    omega (
      arith,
      parts-sum block_ends (past_gap text) (sym (gap-again text)),
      length-past_byte close_brace inside.1,
      past_gap-within text,
    )

open-less : (text : List ℕ) → starts open_brace text ≡ true
    → length (past_byte open_brace text) < length text
open-less [] e = absurd (cc)
open-less (b ∷ text) e = rw e (omega arith)

-- the block of a group rule and what is left after it, by what is left after its prelude
Fits : ℕ → Option GroupText → List ℕ → Type 0
Fits n None rest = Unit {0}
Fits n (Some group) rest = length group.text + length rest < n

group_with-fits : (n : ℕ) (rule : AtRuleText) (found : BlockText) (rest : List ℕ)
    → length found.text + length rest < n → Fits n (group_with rule (Some found)) rest
unfolding Fits
group_with-fits n rule found rest h = by (is_group_name rule.name)
  where
    by : (t : Bool) → Fits n (if t then Some (record {
      name = rule.name;
      prelude = rule.prelude.text;
      text = found.text;
    }) else None) rest
    by true = h
    by false = tt

ended-fits : (name : List ℕ) (prelude : Stated) (rest : List ℕ)
    → Fits (length rest) (group_of (at_rule_statement (at_rule_ended name prelude rest).0))
    (at_rule_ended name prelude rest).1
unfolding Fits
ended-fits name prelude rest = by (starts open_brace rest) refl
  where
    by : (t : Bool) → starts open_brace rest ≡ t
        → Fits (length rest) (group_of (at_rule_statement (at_rule_ended name prelude rest).0))
        (at_rule_ended name prelude rest).1
    by true e =
        let found = block (past_byte open_brace rest) in
        rw e (group_with-fits (length rest)
        (record { name = name; prelude = prelude; block = Some found.0 }) found.0 found.1
        (omega (arith, block-sum (past_byte open_brace rest), open-less rest e)))
    by false e = rw e tt

fits-more : (m n : ℕ) (o : Option GroupText) (rest : List ℕ) → m ≤ n → Fits m o rest → Fits n o rest
unfolding Fits
fits-more m n None rest h f = tt
fits-more m n (Some group) rest h f = omega (arith, h, f)

at_rule-fits : (in_block : Bool) (b : ℕ) (text : List ℕ) → begins_at_rule (b ∷ text) ≡ true
    → Fits (length text) (group_of (at_rule_statement (at_rule in_block (b ∷ text)).0))
    (at_rule in_block (b ∷ text)).1
unfolding at_rule
at_rule-fits in_block b text e =
    let start = past_byte at_sign (b ∷ text) in
    let stops = at_rule_ends in_block in
    let prelude = parts stops (past_gap (past_word start)) in
    fits-more (length prelude.1) (length text) _ _
    (omega (
      arith,
      parts-within stops (past_gap (past_word start)),
      past_gap-within (past_word start),
      past_word_within start,
      at-less b text e,
    ))
    (ended-fits (before start (past_word start)) prelude.0 prelude.1)

-- what is no at-rule is no group rule
rule-fits : (n : ℕ) (prelude : Stated) (rest : List ℕ)
    → Fits n (group_of (rule_set_ended prelude rest).0) (rule_set_ended prelude rest).1
unfolding Fits
rule-fits n prelude rest = by (starts open_brace rest) refl
  where
    by : (t : Bool) → starts open_brace rest ≡ t
        → Fits n (group_of (rule_set_ended prelude rest).0) (rule_set_ended prelude rest).1
    by true e = rw e tt
    by false e = rw e tt

statement-fits : (in_block : Bool) (b : ℕ) (text : List ℕ)
    → Fits (length text) (group_of (statement in_block (b ∷ text)).0) (statement in_block
    (b ∷ text)).1
unfolding statement
statement-fits in_block b text = by (begins_at_rule (b ∷ text)) refl
  where
    by : (t : Bool) → begins_at_rule (b ∷ text) ≡ t → Fits (length text)
        (group_of (statement in_block (b ∷ text)).0) (statement in_block (b ∷ text)).1
    by true e = rw e (at_rule-fits in_block b text e)
    by false e =
        rw e (rule-fits (length text) (parts (rule_set_ends in_block) (b ∷ text)).0
        (parts (rule_set_ends in_block) (b ∷ text)).1)

-- the group rule that the next statement is, and what is left after it, are less than the text by
-- more than one byte
PartFits : ℕ → Option (SheetText × List ℕ) → Type 0
PartFits n None = Unit {0}
PartFits n (Some x) = Fits n (group_of x.0.statement) x.1

start-fits : (in_block : Bool) (b : ℕ) (start : List ℕ)
    → PartFits (length start) (statement_from in_block (b ∷ start))
unfolding PartFits
start-fits in_block b start = by (ends_block in_block (b ∷ start))
  where
    by : (t : Bool) → PartFits (length start) (if t then None
        else Some (with_text (b ∷ start) (statement in_block (b ∷ start))))
    by true = tt
    by false = statement-fits in_block b start

read-fits : (in_block : Bool) (text rest : List ℕ) (p : SheetText)
    → next_statement in_block text ≡ Some (p, rest) → (group : GroupText)
    → group_of p.statement ≡ Some group → suc (length group.text + length rest) < length text
unfolding next_statement PartFits Fits
read-fits in_block text rest p e group g =
    by (past_between in_block text) (length-ends text (past_between in_block text)
    (between-well in_block text).0) e
  where
    by : (start : List ℕ) → length start ≤ length text
        → statement_from in_block start ≡ Some (p, rest)
        → suc (length group.text + length rest) < length text
    by [] h f = absurd (cc)
    by (b ∷ start) h f =
        let fits : Fits (length start) (group_of p.statement) rest =
        subst (PartFits (length start)) f (start-fits in_block b start) in
        let less : Fits (length start) (Some group) rest =
        subst (λ (o : Option GroupText). Fits (length start) o rest) g fits in
        omega (arith, less, h)

-- a group rule is a statement that was read
pub group-read : (in_block : Bool) (text rest : List ℕ) (p : SheetText)
    → next_part in_block text ≡ Some (p, rest) → (group : GroupText)
    → group_of p.statement ≡ Some group → next_statement in_block text ≡ Some (p, rest)
group-read in_block text rest p e group g =
    elim (next-cases in_block text rest p e) [
      | inl read ↦ read
      | inr stray ↦ absurd (
          let none : group_of p.statement ≡ None =
          ap (λ (q : SheetText). group_of q.statement) stray.part_is in cc)
    ]

pub next-fits : (in_block : Bool) (text rest : List ℕ) (p : SheetText)
    → next_part in_block text ≡ Some (p, rest) → (group : GroupText)
    → group_of p.statement ≡ Some group → suc (length group.text + length rest) < length text
next-fits in_block text rest p e group g =
    read-fits in_block text rest p (group-read in_block text rest p e group g) group g
