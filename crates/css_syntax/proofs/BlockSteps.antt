-- What the parts of blocks consume.
-- Serves what reads parts one after another.
use Rattle.std.proofs.Common.{eqb-true, ◌≡◌, ℕ, ◌≤◌, ◌&&◌, ◌==◌, Bool, true, false, List, [], ◌∷◌, length, Option, Some, None, Ok, Err, arith, refl, if◌then◌else◌}
use Rattle.css_text.specs.AsciiBytes.{open_brace, close_brace, semicolon, at_sign}
use Rattle.css_text.specs.Reading.{before}
use Rattle.css_text.specs.Bytes.{past_byte, starts}
use Rattle.css_text.proofs.reading.EachLemmas.{Shrinks, Takes, each-stops}
use Rattle.css_text.proofs.reading.TakesLemmas.{length-past_byte}
use Rattle.css_text.proofs.reading.WellLemmas.{EndsWell, WellFound, well-same, well-tail, well-then, well-past_byte}
use Rattle.css_syntax.specs.declared.quality.Fault.{Fault}
use Rattle.css_syntax.specs.Tokens.{past_gap, past_word}
use Rattle.css_syntax.specs.Parts.{Stated, ends_at, parts}
use Rattle.css_syntax.specs.Statements.{at_rule_ends, rule_set_ends, begins_at_rule, ends_block, past_between}
use Rattle.css_syntax.specs.DeclarationLists.{Declared, declaration, declaration_ends, begins_custom, past_broken, past_separators, separator_part, skipped_item}
use Rattle.css_syntax.specs.Blocks.{listed, opens_rule, closes, at_rule_begun, at_rule_opened, rule_opened, rule_opened_by, or_opened, block_part, block_part_from, next_block_part, listed_rule, listed_rule_by, rule_part, rule_part_from, next_rule_part}
use Rattle.css_syntax.proofs.Shorter.{past_word_within}
use Rattle.css_syntax.proofs.PartLemmas.{past_gap-within, parts-within, parts-less, parts-rests}
use Rattle.css_syntax.proofs.PartTexts.{parts-well}
use Rattle.css_syntax.proofs.Utf8Ends.{gap-well, word-well}
use Rattle.css_syntax.proofs.ItemLemmas.{if-well, past_broken-well, DeclaredWell, declaration-well, separator_part-takes, at-less, no_separator, ends-not, opens, opens_rule as opens_brace, if-within, past_broken-within, declaration-less, DeclaredWithin, past_separators-within, past_between-within}

-- ---- at-rules

at_rule_begun-within : (name : List ℕ) (prelude : Stated) (rest : List ℕ)
    → length (at_rule_begun name prelude rest).1 ≤ length rest
at_rule_begun-within name prelude rest =
    if-within (length rest) (starts open_brace rest) _ _ (length-past_byte open_brace rest)
    (length-past_byte semicolon rest)

at_rule_opened-less : (in_block : Bool) (b : ℕ) (text : List ℕ) → begins_at_rule (b ∷ text) ≡ true
    → length (at_rule_opened in_block (b ∷ text)).1 ≤ length text
unfolding at_rule_opened
at_rule_opened-less in_block b text e =
    let start = past_byte at_sign (b ∷ text) in
    let stops = at_rule_ends in_block in
    let prelude = parts stops (past_gap (past_word start)) in
    omega (
      arith,
      at_rule_begun-within (before start (past_word start)) prelude.0 prelude.1,
      parts-within stops (past_gap (past_word start)),
      past_gap-within (past_word start),
      past_word_within start,
      at-less b text e,
    )

-- ---- in a style rule

rule_opened-within : (custom : Bool) (fault : Fault) (prelude : Stated) (rest : List ℕ)
    → length (rule_opened custom fault prelude rest).1 ≤ length rest
rule_opened-within custom fault prelude rest =
    if-within (length rest) (starts open_brace rest) _ _
    (if-within (length rest) custom _ _ (past_broken-within true rest)
    (length-past_byte open_brace rest))
    (omega arith)

-- a rule that has no prelude consumes its brace
rule_opened-less : (custom : Bool) (fault : Fault) (prelude : Stated) (b : ℕ) (text : List ℕ)
    → (b == open_brace) ≡ true → length (past_broken true (b ∷ text)) ≤ length text
    → length (rule_opened custom fault prelude (b ∷ text)).1 ≤ length text
rule_opened-less custom fault prelude b text e h =
    rw e (if-within (length text) custom
    (listed (skipped_item fault), past_broken true (b ∷ text)) (opens_rule prelude, text) h
    (omega arith))

or_opened-less : (b : ℕ) (text : List ℕ)
    → ends_at (declaration_ends true) (b ∷ text) ≡ false → (x : Declared)
    → DeclaredWithin (length text) x → length (or_opened (b ∷ text) x).1 ≤ length text
or_opened-less b text e (Ok found) h = h
or_opened-less b text e (Err fault) h = by (ends_at (at_rule_ends true) (b ∷ text)) refl
  where
    found : Stated × List ℕ
    found = parts (at_rule_ends true) (b ∷ text)

    by : (t : Bool) → ends_at (at_rule_ends true) (b ∷ text) ≡ t
        → length (rule_opened_by (begins_custom (b ∷ text)) fault
        (parts (at_rule_ends true) (b ∷ text))).1 ≤ length text
    by true f =
        rw (parts-rests (at_rule_ends true) (b ∷ text) f)
        (rule_opened-less (begins_custom (b ∷ text)) fault found.0 b text
        (opens_brace true b text f e) (parts-less (declaration_ends true) b text e))
    by false f =
        omega (
          arith,
          rule_opened-within (begins_custom (b ∷ text)) fault found.0 found.1,
          parts-less (at_rule_ends true) b text f,
        )

block_part-less : (b : ℕ) (text : List ℕ)
    → ends_at (declaration_ends true) (b ∷ text) ≡ false
    → length (block_part (b ∷ text)).1 ≤ length text
unfolding block_part
block_part-less b text f = by (begins_at_rule (b ∷ text)) refl
  where
    by : (t : Bool) → begins_at_rule (b ∷ text) ≡ t
        → length (block_part (b ∷ text)).1 ≤ length text
    by true e = rw e (at_rule_opened-less true b text e)
    by false e =
        rw e (or_opened-less b text f (declaration true (b ∷ text)) (declaration-less true b text))

pub next_block_part-takes : Takes next_block_part
unfolding next_block_part
next_block_part-takes text =
    by (past_separators text) (past_separators-within text)
    (each-stops separator_part separator_part-takes text)
  where
    some : (b : ℕ) (start : List ℕ) (t : Bool) → (b == close_brace) ≡ t
        → separator_part (b ∷ start) ≡ None → length (b ∷ start) ≤ length text
        → Shrinks text (if t then Some (closes, start) else Some (block_part (b ∷ start)))
    some b start true e g h = omega arith
    some b start false e g h =
        omega (
          arith,
          block_part-less b start (ends-not true b start (no_separator b start g) e),
        )

    by : (start : List ℕ) → length start ≤ length text → separator_part start ≡ None
        → Shrinks text (block_part_from start)
    by [] h g = tt
    by (b ∷ start) h g = some b start (b == close_brace) refl g h

-- ---- in a sheet

listed_rule-within : (prelude : Stated) (rest : List ℕ)
    → length (listed_rule prelude rest).1 ≤ length rest
listed_rule-within prelude rest =
    if-within (length rest) (starts open_brace rest) _ _ (length-past_byte open_brace rest)
    (omega arith)

-- a rule that has no prelude consumes its brace
listed_rule-less : (prelude : Stated) (b : ℕ) (text : List ℕ) → (b == open_brace) ≡ true
    → length (listed_rule prelude (b ∷ text)).1 ≤ length text
listed_rule-less prelude b text e = rw e (omega arith)

rule_part-less : (in_block : Bool) (b : ℕ) (text : List ℕ)
    → ends_block in_block (b ∷ text) ≡ false
    → length (rule_part in_block (b ∷ text)).1 ≤ length text
unfolding rule_part
rule_part-less in_block b text f = by (begins_at_rule (b ∷ text)) refl
  where
    found : Stated × List ℕ
    found = parts (rule_set_ends in_block) (b ∷ text)

    rule : (t : Bool) → ends_at (rule_set_ends in_block) (b ∷ text) ≡ t
        → length (listed_rule_by (parts (rule_set_ends in_block) (b ∷ text))).1 ≤ length text
    rule true e =
        rw (parts-rests (rule_set_ends in_block) (b ∷ text) e)
        (listed_rule-less found.0 b text (opens in_block b text e f))
    rule false e =
        omega (
          arith,
          listed_rule-within found.0 found.1,
          parts-less (rule_set_ends in_block) b text e,
        )

    by : (t : Bool) → begins_at_rule (b ∷ text) ≡ t
        → length (rule_part in_block (b ∷ text)).1 ≤ length text
    by true e = rw e (at_rule_opened-less in_block b text e)
    by false e = rw e (rule (ends_at (rule_set_ends in_block) (b ∷ text)) refl)

pub next_rule_part-takes : (in_block : Bool) → Takes (next_rule_part in_block)
unfolding next_rule_part
next_rule_part-takes in_block text =
    by (past_between in_block text) (past_between-within in_block text)
  where
    some : (b : ℕ) (start : List ℕ) (t : Bool) → ends_block in_block (b ∷ start) ≡ t
        → length (b ∷ start) ≤ length text
        → Shrinks text (if t then Some (closes, start) else Some (rule_part in_block (b ∷ start)))
    some b start true e h = omega arith
    some b start false e h = omega (arith, rule_part-less in_block b start e)

    by : (start : List ℕ) → length start ≤ length text
        → Shrinks text (rule_part_from in_block start)
    by [] h = tt
    by (b ∷ start) h = some b start (in_block && b == close_brace) refl h

-- ---- ends of the text

at_rule_begun-well : (name : List ℕ) (prelude : Stated) (rest : List ℕ)
    → EndsWell rest (at_rule_begun name prelude rest).1
at_rule_begun-well name prelude rest =
    if-well rest (starts open_brace rest) _ _ (well-past_byte open_brace rest (omega arith))
    (well-past_byte semicolon rest (omega arith))

at_rule_opened-well : (in_block : Bool) (text : List ℕ)
    → EndsWell text (at_rule_opened in_block text).1
unfolding at_rule_opened
at_rule_opened-well in_block text =
    let start = past_byte at_sign text in
    let stops = at_rule_ends in_block in
    let after = past_word start in
    let prelude = parts stops (past_gap after) in
    let rest = (at_rule_begun (before start after) prelude.0 prelude.1).1 in
    well-then text start rest (well-past_byte at_sign text (omega arith))
    (well-then start after rest (word-well start)
    (well-then after (past_gap after) rest (gap-well after)
    (well-then (past_gap after) prelude.1 rest (parts-well stops (past_gap after))
    (at_rule_begun-well (before start after) prelude.0 prelude.1))))

rule_opened-well : (custom : Bool) (fault : Fault) (prelude : Stated) (rest : List ℕ)
    → EndsWell rest (rule_opened custom fault prelude rest).1
rule_opened-well custom fault prelude rest =
    if-well rest (starts open_brace rest) _ _
    (if-well rest custom _ _ (past_broken-well true rest)
    (well-past_byte open_brace rest (omega arith)))
    (well-same rest)

or_opened-well : (text : List ℕ) (x : Declared) → DeclaredWell text x
    → EndsWell text (or_opened text x).1
or_opened-well text (Ok found) h = h
or_opened-well text (Err fault) h =
    let found = parts (at_rule_ends true) text in
    well-then text found.1 (rule_opened (begins_custom text) fault found.0 found.1).1
    (parts-well (at_rule_ends true) text)
    (rule_opened-well (begins_custom text) fault found.0 found.1)

block_part-well : (text : List ℕ) → EndsWell text (block_part text).1
unfolding block_part
block_part-well text =
    if-well text (begins_at_rule text) _ _ (at_rule_opened-well true text)
    (or_opened-well text (declaration true text) (declaration-well true text))

block_part_from-well : (start : List ℕ) → WellFound start (block_part_from start)
block_part_from-well [] = tt
block_part_from-well (b ∷ start) = by (b == close_brace) refl
  where
    by : (t : Bool) → (b == close_brace) ≡ t → WellFound (b ∷ start)
        (if t then Some (closes, start) else Some (block_part (b ∷ start)))
    by true e = well-tail b start (omega (arith, eqb-true b close_brace e))
    by false e = block_part-well (b ∷ start)

-- from where the part begins
pub next_block_part-well : (text : List ℕ)
    → WellFound (past_separators text) (next_block_part text)
unfolding next_block_part
next_block_part-well text = block_part_from-well (past_separators text)

-- what is found after a text that is skipped
pub found_then-well : {A : Type 0} (text middle : List ℕ) (o : Option (A × List ℕ))
    → EndsWell text middle → WellFound middle o → WellFound text o
found_then-well text middle None h k = tt
found_then-well text middle (Some x) h k = well-then text middle x.1 h k

listed_rule-well : (prelude : Stated) (rest : List ℕ) → EndsWell rest (listed_rule prelude rest).1
listed_rule-well prelude rest =
    if-well rest (starts open_brace rest) _ _ (well-past_byte open_brace rest (omega arith))
    (well-same rest)

rule_part-well : (in_block : Bool) (text : List ℕ) → EndsWell text (rule_part in_block text).1
unfolding rule_part
rule_part-well in_block text =
    let found = parts (rule_set_ends in_block) text in
    if-well text (begins_at_rule text) _ _ (at_rule_opened-well in_block text)
    (well-then text found.1 (listed_rule found.0 found.1).1
    (parts-well (rule_set_ends in_block) text) (listed_rule-well found.0 found.1))

rule_part_from-well : (in_block : Bool) (start : List ℕ)
    → WellFound start (rule_part_from in_block start)
rule_part_from-well in_block [] = tt
rule_part_from-well in_block (b ∷ start) = by in_block (b == close_brace) refl
  where
    by : (k t : Bool) → (b == close_brace) ≡ t → WellFound (b ∷ start)
        (if k && t then Some (closes, start) else Some (rule_part in_block (b ∷ start)))
    by true true e = well-tail b start (omega (arith, eqb-true b close_brace e))
    by true false e = rule_part-well in_block (b ∷ start)
    by false t e = rule_part-well in_block (b ∷ start)

pub next_rule_part-well : (in_block : Bool) (text : List ℕ)
    → WellFound (past_between in_block text) (next_rule_part in_block text)
unfolding next_rule_part
next_rule_part-well in_block text = rule_part_from-well in_block (past_between in_block text)
