-- What items and statements consume, and that what is left is an end of the text.
-- Serves the loops and the iterators of `statements` and `declarations`.
use Rattle.std.proofs.Common.{◌≡◌, ℕ, ◌≤◌, ◌||◌, ◌&&◌, not, codes, eqb-true, Bool, true, false, List, [], ◌∷◌, length, Option, Some, None, Ok, Err, arith, refl, if◌then◌else◌, ◌==◌, drop, length-drop}
use Rattle.std.proofs.lemmas.Bool.Decides.{nat_tests}
use Rattle.css_text.specs.AsciiBytes.{colon, comma, exclamation_mark, open_brace, close_brace, semicolon, at_sign, hyphen, underscore}
use Rattle.css_text.specs.Reading.{before, Ends}
use Rattle.css_text.specs.Bytes.{past_byte, starts, is_digit}
use Rattle.css_text.specs.Characters.{is_letter}
use Rattle.css_text.proofs.reading.EachLemmas.{Shrinks, Takes, each-stops}
use Rattle.css_text.proofs.reading.TakesLemmas.{each-within, length-past_byte}
use Rattle.css_text.proofs.reading.EndsLemmas.{ends-drop}
use Rattle.css_text.proofs.reading.WellLemmas.{EndsWell, WellFound, each-well, well-after, well-nil, well-same, well-tail, well-then, well-past_byte}
use Rattle.css_syntax.specs.declared.quality.Fault.{Fault}
use Rattle.css_syntax.specs.declared.quality.Fault.TheVariants.{NestedRule}
use Rattle.css_syntax.specs.Tokens.{gap_part, past_gap, past_word, spells, is_wide_byte, is_name_byte, begins_escape, begins_cdo}
use Rattle.css_syntax.specs.Parts.{Stated, ends_at, parts}
use Rattle.css_syntax.specs.Statements.{starts_ident, begins_at_rule, block_ends, block, at_rule_ends, at_rule_ended, at_rule, rule_set_ends, rule_set_ended, statement, begins_cdc, between_part, past_between, ends_block, with_text, statement_from, next_statement}
use Rattle.css_syntax.specs.DeclarationLists.{declaration_ends, is_custom, value, important_word, importance, past_broken, is_stated, Declared, stated_as, named, declaration, begins_custom, rule_ended, or_rule, skipped_item, item, separator_part, past_separators, value_ends, item_from, next_item, with_text as list_with_text}
use Rattle.css_syntax.proofs.Shorter.{gap_part-takes, word-less, past_word_within}
use Rattle.css_syntax.proofs.PartLemmas.{past_gap-within, parts-within, parts-less, parts-rests}
use Rattle.css_syntax.proofs.PartTexts.{parts-well}
use Rattle.css_syntax.proofs.Utf8Ends.{gap_part-well, gap-well, word-well, cdo-well}

-- ---- what is between items and statements

if-shrinks : (text : List ℕ) (t : Bool) (x y : Option (Unit {0} × List ℕ)) → Shrinks text x
    → Shrinks text y → Shrinks text (if t then x else y)
if-shrinks text true x y a b = a
if-shrinks text false x y a b = b

pub between_part-takes : (in_block : Bool) → Takes (between_part in_block)
unfolding between_part
between_part-takes in_block [] = tt
between_part-takes in_block (b ∷ text) =
    if-shrinks (b ∷ text) (not in_block && begins_cdo (b ∷ text)) _ _
    (omega (arith, length-drop 3 text))
    (if-shrinks (b ∷ text) (not in_block && begins_cdc (b ∷ text)) _ _
    (omega (arith, length-drop 2 text)) (gap_part-takes (b ∷ text)))

pub separator_part-takes : Takes separator_part
unfolding separator_part
separator_part-takes [] = tt
separator_part-takes (b ∷ text) =
    if-shrinks (b ∷ text) (b == semicolon) _ _ (omega arith) (gap_part-takes (b ∷ text))

past_byte-within : (c : ℕ) (text : List ℕ) → length (past_byte c text) ≤ length text
past_byte-within c text = length-past_byte c text

-- ---- blocks and at-rules

pub block-within : (text : List ℕ) → length (block text).1 ≤ length text
unfolding block
block-within text =
    let inside = parts block_ends (past_gap text) in
    omega (
      arith,
      past_byte-within close_brace inside.1,
      parts-within block_ends (past_gap text),
      past_gap-within text,
    )

pub if-within : (n : ℕ) (t : Bool) {A : Type 0} (x y : A × List ℕ) → length x.1 ≤ n → length y.1 ≤ n
    → length (if t then x else y).1 ≤ n
if-within n true x y a b = a
if-within n false x y a b = b

at_rule_ended-within : (name : List ℕ) (prelude : Stated) (rest : List ℕ)
    → length (at_rule_ended name prelude rest).1 ≤ length rest
at_rule_ended-within name prelude rest =
    if-within (length rest) (starts open_brace rest) _ _
    (omega (arith, block-within (past_byte open_brace rest), past_byte-within open_brace rest))
    (past_byte-within semicolon rest)

-- an at-rule consumes its `@`
pub at-less : (b : ℕ) (text : List ℕ) → begins_at_rule (b ∷ text) ≡ true
    → length (past_byte at_sign (b ∷ text)) ≤ length text
at-less b text e = by (b == at_sign) refl
  where
    by : (t : Bool) → (b == at_sign) ≡ t → length (past_byte at_sign (b ∷ text)) ≤ length text
    by true f = rw f (omega arith)
    by false f = absurd (let wrong = rw f at e in cc)

pub at_rule-less : (in_block : Bool) (b : ℕ) (text : List ℕ) → begins_at_rule (b ∷ text) ≡ true
    → length (at_rule in_block (b ∷ text)).1 ≤ length text
unfolding at_rule
at_rule-less in_block b text e =
    let start = past_byte at_sign (b ∷ text) in
    let stops = at_rule_ends in_block in
    let prelude = parts stops (past_gap (past_word start)) in
    omega (
      arith,
      at_rule_ended-within (before start (past_word start)) prelude.0 prelude.1,
      parts-within stops (past_gap (past_word start)),
      past_gap-within (past_word start),
      past_word_within start,
      at-less b text e,
    )

-- ---- statements

rule_set_ended-within : (prelude : Stated) (rest : List ℕ)
    → length (rule_set_ended prelude rest).1 ≤ length rest
rule_set_ended-within prelude rest =
    if-within (length rest) (starts open_brace rest) _ _
    (omega (arith, block-within (past_byte open_brace rest), past_byte-within open_brace rest))
    (omega arith)

-- a rule set that has no prelude consumes its brace
rule_set_ended-less : (prelude : Stated) (b : ℕ) (text : List ℕ) → (b == open_brace) ≡ true
    → length (rule_set_ended prelude (b ∷ text)).1 ≤ length text
rule_set_ended-less prelude b text e = rw e (block-within text)

-- what ends a prelude and not the block is an opening brace
pub opens : (in_block : Bool) (b : ℕ) (text : List ℕ)
    → ends_at (rule_set_ends in_block) (b ∷ text) ≡ true → ends_block in_block (b ∷ text) ≡ false
    → (b == open_brace) ≡ true
opens in_block b text e f =
    by (b == semicolon) (b == open_brace) (b == close_brace) (b == comma) in_block e f
  where
    by : (s o c m k : Bool) → (if s then false
        else (if o then true else (if c then k else (if m then false else false)))) ≡ true
        → (k && c) ≡ false → o ≡ true
    by true o c m k g h = absurd (cc)
    by false true c m k g h = refl
    by false false true m true g h = absurd (cc)
    by false false true m false g h = absurd (cc)
    by false false false true k g h = absurd (cc)
    by false false false false k g h = absurd (cc)

rule-less : (in_block : Bool) (b : ℕ) (text : List ℕ) → ends_block in_block (b ∷ text) ≡ false
    → length (rule_set_ended (parts (rule_set_ends in_block) (b ∷ text)).0
    (parts (rule_set_ends in_block) (b ∷ text)).1).1 ≤ length text
rule-less in_block b text f = by (ends_at (rule_set_ends in_block) (b ∷ text)) refl
  where
    by : (t : Bool) → ends_at (rule_set_ends in_block) (b ∷ text) ≡ t
        → length (rule_set_ended (parts (rule_set_ends in_block) (b ∷ text)).0
        (parts (rule_set_ends in_block) (b ∷ text)).1).1 ≤ length text
    by true e =
        rw (parts-rests (rule_set_ends in_block) (b ∷ text) e)
        (rule_set_ended-less (parts (rule_set_ends in_block) (b ∷ text)).0 b text
        (opens in_block b text e f))
    by false e =
        omega (
          arith,
          rule_set_ended-within (parts (rule_set_ends in_block) (b ∷ text)).0
              (parts (rule_set_ends in_block) (b ∷ text)).1,
          parts-less (rule_set_ends in_block) b text e,
        )

pub statement-less : (in_block : Bool) (b : ℕ) (text : List ℕ)
    → ends_block in_block (b ∷ text) ≡ false
    → length (statement in_block (b ∷ text)).1 ≤ length text
unfolding statement
statement-less in_block b text f = by (begins_at_rule (b ∷ text)) refl
  where
    by : (t : Bool) → begins_at_rule (b ∷ text) ≡ t
        → length (statement in_block (b ∷ text)).1 ≤ length text
    by true e = rw e (at_rule-less in_block b text e)
    by false e = rw e (rule-less in_block b text f)

pub past_between-within : (in_block : Bool) (text : List ℕ)
    → length (past_between in_block text) ≤ length text
past_between-within in_block text =
    each-within (between_part in_block) (between_part-takes in_block) text

pub next_statement-takes : (in_block : Bool) → Takes (next_statement in_block)
unfolding next_statement
next_statement-takes in_block text =
    by (past_between in_block text) (past_between-within in_block text)
  where
    some : (b : ℕ) (start : List ℕ) (t : Bool) → ends_block in_block (b ∷ start) ≡ t
        → length (b ∷ start) ≤ length text
        → Shrinks text (if t then None
        else Some (with_text (b ∷ start) (statement in_block (b ∷ start))))
    some b start true e h = tt
    some b start false e h = omega (arith, statement-less in_block b start e)

    by : (start : List ℕ) → length start ≤ length text
        → Shrinks text (statement_from in_block start)
    by [] h = tt
    by (b ∷ start) h = some b start (ends_block in_block (b ∷ start)) refl h

-- ---- declarations

important_word-within : (from text : List ℕ) → length text ≤ length from
    → length (important_word from text).1 ≤ length from
important_word-within from text h =
    if-within (length from)
    (spells (codes "important") (before text (past_word text))) _ _
    (omega (arith, past_gap-within (past_word text), past_word_within text)) (omega arith)

importance-within : (text : List ℕ) → length (importance text).1 ≤ length text
importance-within text =
    if-within (length text) (starts exclamation_mark text) _ _
    (important_word-within text (past_gap (past_byte exclamation_mark text)) (omega (
      arith,
      past_gap-within (past_byte exclamation_mark text),
      past_byte-within exclamation_mark text,
    )))
    (omega arith)

pub past_broken-within : (in_block : Bool) (text : List ℕ)
    → length (past_broken in_block text) ≤ length text
past_broken-within in_block text = parts-within (declaration_ends in_block) text

-- at most as much is left after a declaration
abbrev pub DeclaredWithin : ℕ → Declared → Type 0
DeclaredWithin n (Ok found) = length found.1 ≤ n
DeclaredWithin n (Err fault) = Unit {0}

declared-if : (n : ℕ) (t : Bool) (x y : Declared) → DeclaredWithin n x → DeclaredWithin n y
    → DeclaredWithin n (if t then x else y)
declared-if n true x y a b = a
declared-if n false x y a b = b

declared-more : (n m : ℕ) (x : Declared) → m ≤ n → DeclaredWithin m x → DeclaredWithin n x
declared-more n m (Ok found) h k = omega arith
declared-more n m (Err fault) h k = tt

stated_as-within : (in_block : Bool) (name : List ℕ) (stated : Stated) (important : Bool × List ℕ)
    → DeclaredWithin (length important.1) (stated_as in_block name stated important)
stated_as-within in_block name stated important =
    declared-if (length important.1) (is_stated in_block name stated important.1) _ _
    (omega arith) tt

named-within : (in_block : Bool) (n : ℕ) (name text : List ℕ) → length text ≤ n
    → DeclaredWithin n (named in_block name text)
named-within in_block n name text k =
    let from = past_gap (past_byte colon text) in
    let stated = value (is_custom name) from in
    let important = importance stated.1 in
    declared-if n (starts colon text) _ _
    (declared-more n (length important.1) (stated_as in_block name stated.0 important)
    (omega (
      arith,
      importance-within stated.1,
      parts-within (value_ends (is_custom name)) from,
      past_gap-within (past_byte colon text),
      past_byte-within colon text,
    ))
    (stated_as-within in_block name stated.0 important))
    tt

-- a name that begins here has a byte
hyphen-word : (p q r s t u : Bool) → s ≡ true → (((((p || q) || r) || s) || t) || u) ≡ true
hyphen-word true q r s t u e = refl
hyphen-word false true r s t u e = refl
hyphen-word false false true s t u e = refl
hyphen-word false false false s t u e = rw e refl

plain-word : (l d u h w e : Bool) → (((l || u) || w) || e) ≡ true
    → (((((l || d) || u) || h) || w) || e) ≡ true
plain-word true d u h w e k = refl
plain-word false true u h w e k = refl
plain-word false false true h w e k = refl
plain-word false false false true w e k = refl
plain-word false false false false w e k = k

pub ident-word : (b : ℕ) (text : List ℕ) → starts_ident (b ∷ text) ≡ true
    → (is_name_byte b || begins_escape (b ∷ text)) ≡ true
ident-word b text h = by (b == hyphen) refl
  where
    by : (t : Bool) → (b == hyphen) ≡ t → (is_name_byte b || begins_escape (b ∷ text)) ≡ true
    by true e = hyphen-word (is_letter b) (is_digit b) (b == underscore) (b == hyphen)
        (is_wide_byte b)
        (begins_escape (b ∷ text)) e
    by false e =
        plain-word (is_letter b) (is_digit b) (b == underscore) (b == hyphen) (is_wide_byte b)
        (begins_escape (b ∷ text)) (rw e at h)

pub declaration-less : (in_block : Bool) (b : ℕ) (text : List ℕ)
    → DeclaredWithin (length text) (declaration in_block (b ∷ text))
unfolding declaration
declaration-less in_block b text = by (starts_ident (b ∷ text)) refl
  where
    by : (t : Bool) → starts_ident (b ∷ text) ≡ t
        → DeclaredWithin (length text) (declaration in_block (b ∷ text))
    by true f =
        let word = past_word (b ∷ text) in
        rw f (named-within in_block (length text) (before (b ∷ text) word) (past_gap word)
        (omega (arith, past_gap-within word, word-less b text (ident-word b text f))))
    by false f = rw f tt

rule_ended-within : (in_block custom : Bool) (fault : Fault) (rest : List ℕ)
    → length (rule_ended in_block custom fault rest).1 ≤ length rest
rule_ended-within in_block custom fault rest =
    if-within (length rest) (starts open_brace rest) _ _
    (if-within (length rest) custom _ _ (past_broken-within in_block rest)
    (omega (arith, block-within (past_byte open_brace rest), past_byte-within open_brace rest)))
    (omega arith)

-- a rule that has no prelude consumes its brace
rule_ended-less : (in_block custom : Bool) (fault : Fault) (b : ℕ) (text : List ℕ)
    → (b == open_brace) ≡ true → length (past_broken in_block (b ∷ text)) ≤ length text
    → length (rule_ended in_block custom fault (b ∷ text)).1 ≤ length text
rule_ended-less in_block custom fault b text e h =
    rw e (if-within (length text) custom (skipped_item fault, past_broken in_block (b ∷ text))
    (skipped_item NestedRule, (block text).1) h (block-within text))

-- what ends a prelude and no declaration is an opening brace
pub opens_rule : (in_block : Bool) (b : ℕ) (text : List ℕ)
    → ends_at (at_rule_ends in_block) (b ∷ text) ≡ true
    → ends_at (declaration_ends in_block) (b ∷ text) ≡ false → (b == open_brace) ≡ true
opens_rule in_block b text e f =
    by (b == semicolon) (b == open_brace) (b == close_brace) (b == comma) in_block e f
  where
    by : (s o c m k : Bool) → (if s then true
        else (if o then true else (if c then k else (if m then false else false)))) ≡ true
        → (if s then true
        else (if o then false else (if c then k else (if m then false else false)))) ≡ false
        → o ≡ true
    by true o c m k g h = absurd (cc)
    by false true c m k g h = refl
    by false false true m true g h = absurd (cc)
    by false false true m false g h = absurd (cc)
    by false false false true k g h = absurd (cc)
    by false false false false k g h = absurd (cc)

or_rule-less : (in_block : Bool) (b : ℕ) (text : List ℕ)
    → ends_at (declaration_ends in_block) (b ∷ text) ≡ false → (x : Declared)
    → DeclaredWithin (length text) x → length (or_rule in_block (b ∷ text) x).1 ≤ length text
or_rule-less in_block b text e (Ok found) h = h
or_rule-less in_block b text e (Err fault) h =
    inside in_block
  where
    by : (t : Bool) → ends_at (at_rule_ends in_block) (b ∷ text) ≡ t
        → length (rule_ended in_block (begins_custom (b ∷ text)) fault
        (parts (at_rule_ends in_block) (b ∷ text)).1).1 ≤ length text
    by true f =
        rw (parts-rests (at_rule_ends in_block) (b ∷ text) f)
        (rule_ended-less in_block (begins_custom (b ∷ text)) fault b text
        (opens_rule in_block b text f e) (parts-less (declaration_ends in_block) b text e))
    by false f =
        omega (
          arith,
          rule_ended-within in_block (begins_custom (b ∷ text)) fault
              (parts (at_rule_ends in_block) (b ∷ text)).1,
          parts-less (at_rule_ends in_block) b text f,
        )

    inside : (k : Bool) → length (if k
        then rule_ended in_block (begins_custom (b ∷ text)) fault
        (parts (at_rule_ends in_block) (b ∷ text)).1
        else (skipped_item fault, past_broken in_block (b ∷ text))).1 ≤ length text
    inside true = by (ends_at (at_rule_ends in_block) (b ∷ text)) refl
    inside false = parts-less (declaration_ends in_block) b text e

pub item-less : (in_block : Bool) (b : ℕ) (text : List ℕ)
    → ends_at (declaration_ends in_block) (b ∷ text) ≡ false
    → length (item in_block (b ∷ text)).1 ≤ length text
unfolding item
item-less in_block b text f = by (begins_at_rule (b ∷ text)) refl
  where
    by : (t : Bool) → begins_at_rule (b ∷ text) ≡ t
        → length (item in_block (b ∷ text)).1 ≤ length text
    by true e = rw e (at_rule-less in_block b text e)
    by false e =
        rw e (or_rule-less in_block b text f (declaration in_block (b ∷ text))
        (declaration-less in_block b text))

-- after separators no semicolon is next
pub no_separator : (b : ℕ) (text : List ℕ) → separator_part (b ∷ text) ≡ None
    → (b == semicolon) ≡ false
unfolding separator_part
no_separator b text e = by (b == semicolon) refl
  where
    by : (t : Bool) → (b == semicolon) ≡ t → (b == semicolon) ≡ false
    by true f = absurd (let wrong = rw f at e in cc)
    by false f = f

pub ends-not : (in_block : Bool) (b : ℕ) (text : List ℕ) → (b == semicolon) ≡ false
    → ends_block in_block (b ∷ text) ≡ false
    → ends_at (declaration_ends in_block) (b ∷ text) ≡ false
ends-not in_block b text s f =
    by (b == open_brace) (b == close_brace) (b == comma) in_block s f
  where
    by : (o c m k : Bool) → (b == semicolon) ≡ false → (k && c) ≡ false
        → (if b == semicolon then true
        else (if o then false else (if c then k else (if m then false else false)))) ≡ false
    by true c m k g h = rw g refl
    by false true m true g h = absurd (cc)
    by false true m false g h = rw g refl
    by false false true k g h = rw g refl
    by false false false k g h = rw g refl

pub past_separators-within : (text : List ℕ) → length (past_separators text) ≤ length text
past_separators-within text = each-within separator_part separator_part-takes text

pub next_item-takes : (in_block : Bool) → Takes (next_item in_block)
unfolding next_item
next_item-takes in_block text =
    by (past_separators text) (past_separators-within text)
    (each-stops separator_part separator_part-takes text)
  where
    some : (b : ℕ) (start : List ℕ) (t : Bool) → ends_block in_block (b ∷ start) ≡ t
        → separator_part (b ∷ start) ≡ None → length (b ∷ start) ≤ length text
        → Shrinks text (if t
        then None else Some (list_with_text (b ∷ start) (item in_block (b ∷ start))))
    some b start true e g h = tt
    some b start false e g h =
        omega (
          arith,
          item-less in_block b start (ends-not in_block b start (no_separator b start g) e),
        )

    by : (start : List ℕ) → length start ≤ length text → separator_part start ≡ None
        → Shrinks text (item_from in_block start)
    by [] h g = tt
    by (b ∷ start) h g = some b start (ends_block in_block (b ∷ start)) refl g h

-- ---- ends of the text

pub block-well : (text : List ℕ) → EndsWell text (block text).1
unfolding block
block-well text =
    let inside = parts block_ends (past_gap text) in
    well-then text (past_gap text) (block text).1 (gap-well text)
    (well-then (past_gap text) inside.1 (block text).1 (parts-well block_ends (past_gap text))
    (well-past_byte close_brace inside.1 (omega arith)))

pub if-well : (text : List ℕ) (t : Bool) {A : Type 0} (x y : A × List ℕ) → EndsWell text x.1
    → EndsWell text y.1 → EndsWell text (if t then x else y).1
if-well text true x y a b = a
if-well text false x y a b = b

at_rule_ended-well : (name : List ℕ) (prelude : Stated) (rest : List ℕ)
    → EndsWell rest (at_rule_ended name prelude rest).1
at_rule_ended-well name prelude rest =
    if-well rest (starts open_brace rest) _ _
    (well-then rest (past_byte open_brace rest) (block (past_byte open_brace rest)).1
    (well-past_byte open_brace rest (omega arith)) (block-well (past_byte open_brace rest)))
    (well-past_byte semicolon rest (omega arith))

at_rule-well : (in_block : Bool) (text : List ℕ) → EndsWell text (at_rule in_block text).1
unfolding at_rule
at_rule-well in_block text =
    let start = past_byte at_sign text in
    let stops = at_rule_ends in_block in
    let after = past_word start in
    let prelude = parts stops (past_gap after) in
    let name = before start after in
    well-then text start (at_rule in_block text).1 (well-past_byte at_sign text (omega arith))
    (well-then start after (at_rule in_block text).1 (word-well start)
    (well-then after (past_gap after) (at_rule in_block text).1 (gap-well after)
    (well-then (past_gap after) prelude.1 (at_rule in_block text).1 (parts-well stops
    (past_gap after))
    (at_rule_ended-well name prelude.0 prelude.1))))

rule_set_ended-well : (prelude : Stated) (rest : List ℕ)
    → EndsWell rest (rule_set_ended prelude rest).1
rule_set_ended-well prelude rest =
    if-well rest (starts open_brace rest) _ _
    (well-then rest (past_byte open_brace rest) (block (past_byte open_brace rest)).1
    (well-past_byte open_brace rest (omega arith)) (block-well (past_byte open_brace rest)))
    (well-same rest)

statement-well : (in_block : Bool) (text : List ℕ) → EndsWell text (statement in_block text).1
unfolding statement
statement-well in_block text =
    let stops = rule_set_ends in_block in
    let prelude = parts stops text in
    if-well text (begins_at_rule text) _ _ (at_rule-well in_block text)
    (well-then text prelude.1 (rule_set_ended prelude.0 prelude.1).1 (parts-well stops text)
    (rule_set_ended-well prelude.0 prelude.1))

pub statement-ends : (in_block : Bool) (text : List ℕ) → Ends text (statement in_block text).1
statement-ends in_block text = (statement-well in_block text).0

pub past_broken-well : (in_block : Bool) (text : List ℕ) → EndsWell text (past_broken in_block text)
past_broken-well in_block text = parts-well (declaration_ends in_block) text

important_word-well : (from text : List ℕ) → EndsWell from text
    → EndsWell from (important_word from text).1
important_word-well from text h =
    let word = past_word text in
    if-well from (spells (codes "important") (before text word)) _ _
    (well-then from text (past_gap word) h
    (well-then text word (past_gap word) (word-well text) (gap-well word)))
    (well-same from)

importance-well : (text : List ℕ) → EndsWell text (importance text).1
importance-well text =
    let after = past_byte exclamation_mark text in
    if-well text (starts exclamation_mark text) _ _
    (important_word-well text (past_gap after)
    (well-then text after (past_gap after) (well-past_byte exclamation_mark text (omega arith))
    (gap-well after)))
    (well-same text)

-- what is left after a declaration
abbrev pub DeclaredWell : List ℕ → Declared → Type 0
DeclaredWell start (Ok found) = EndsWell start found.1
DeclaredWell start (Err fault) = Unit {0}

declared_if-well : (start : List ℕ) (t : Bool) (x y : Declared) → DeclaredWell start x
    → DeclaredWell start y → DeclaredWell start (if t then x else y)
declared_if-well start true x y a b = a
declared_if-well start false x y a b = b

declared_then-well : (start rest : List ℕ) (x : Declared) → EndsWell start rest
    → DeclaredWell rest x → DeclaredWell start x
declared_then-well start rest (Ok found) h k = well-then start rest found.1 h k
declared_then-well start rest (Err fault) h k = tt

stated_as-well : (in_block : Bool) (name : List ℕ) (stated : Stated) (important : Bool × List ℕ)
    → DeclaredWell important.1 (stated_as in_block name stated important)
stated_as-well in_block name stated important =
    declared_if-well important.1 (is_stated in_block name stated important.1) _ _
    (well-same important.1) tt

named-well : (in_block : Bool) (start name text : List ℕ) → EndsWell start text
    → DeclaredWell start (named in_block name text)
named-well in_block start name text h =
    let after = past_byte colon text in
    let stated = value (is_custom name) (past_gap after) in
    let important = importance stated.1 in
    declared_if-well start (starts colon text) _ _
    (declared_then-well start important.1 (stated_as in_block name stated.0 important)
    (well-then start text important.1 h
    (well-then text after important.1 (well-past_byte colon text (omega arith))
    (well-then after (past_gap after) important.1 (gap-well after)
    (well-then (past_gap after) stated.1 important.1
    (parts-well (value_ends (is_custom name)) (past_gap after)) (importance-well stated.1)))))
    (stated_as-well in_block name stated.0 important))
    tt

pub declaration-well : (in_block : Bool) (text : List ℕ) → DeclaredWell text (declaration in_block text)
unfolding declaration
declaration-well in_block text =
    let word = past_word text in
    declared_if-well text (starts_ident text) _ _
    (named-well in_block text (before text word) (past_gap word)
    (well-then text word (past_gap word) (word-well text) (gap-well word)))
    tt

rule_ended-well : (in_block custom : Bool) (fault : Fault) (rest : List ℕ)
    → EndsWell rest (rule_ended in_block custom fault rest).1
rule_ended-well in_block custom fault rest =
    let inside = past_byte open_brace rest in
    if-well rest (starts open_brace rest) _ _
    (if-well rest custom _ _ (past_broken-well in_block rest)
    (well-then rest inside (block inside).1 (well-past_byte open_brace rest (omega arith))
    (block-well inside)))
    (well-same rest)

or_rule-well : (in_block : Bool) (text : List ℕ) (x : Declared) → DeclaredWell text x
    → EndsWell text (or_rule in_block text x).1
or_rule-well in_block text (Ok found) h = h
or_rule-well in_block text (Err fault) h =
    let rest = (parts (at_rule_ends in_block) text).1 in
    if-well text in_block _ _
    (well-then text rest (rule_ended in_block (begins_custom text) fault rest).1
    (parts-well (at_rule_ends in_block) text)
    (rule_ended-well in_block (begins_custom text) fault rest))
    (past_broken-well in_block text)

item-well : (in_block : Bool) (text : List ℕ) → EndsWell text (item in_block text).1
unfolding item
item-well in_block text =
    if-well text (begins_at_rule text) _ _ (at_rule-well in_block text)
    (or_rule-well in_block text (declaration in_block text) (declaration-well in_block text))

pub item-ends : (in_block : Bool) (text : List ℕ) → Ends text (item in_block text).1
item-ends in_block text = (item-well in_block text).0

-- ---- what is between items and statements

separator_part-well : (text : List ℕ) → WellFound text (separator_part text)
unfolding separator_part
separator_part-well [] = tt
separator_part-well (b ∷ text) = by (b == semicolon) refl
  where
    by : (t : Bool) → (b == semicolon) ≡ t
        → WellFound (b ∷ text) (if t then Some (tt {0}, text) else gap_part (b ∷ text))
    by true e = well-tail b text (omega (arith, eqb-true b semicolon e))
    by false e = gap_part-well (b ∷ text)

pub separators-well : (text : List ℕ) → EndsWell text (past_separators text)
separators-well text = each-well separator_part separator_part-well text

cdc-well : (b : ℕ) (text : List ℕ) → begins_cdc (b ∷ text) ≡ true
    → EndsWell (b ∷ text) (drop 2 text)
cdc-well b [] e = well-nil (b ∷ [])
cdc-well b (c ∷ []) e = well-nil (b ∷ c ∷ [])
cdc-well b (c ∷ d ∷ text) e =
    well-after d (b ∷ c ∷ d ∷ text) text (grind (arith, nat_tests))
    (ends-drop 2 (b ∷ c ∷ d ∷ text))

second-true : (a b : Bool) → (a && b) ≡ true → b ≡ true
second-true true b e = e
second-true false b e = absurd (cc)

between_part-well : (in_block : Bool) (text : List ℕ) → WellFound text (between_part in_block text)
unfolding between_part
between_part-well in_block [] = tt
between_part-well in_block (b ∷ text) = by (not in_block && begins_cdo (b ∷ text)) refl
  where
    cdc : (t : Bool) → (not in_block && begins_cdc (b ∷ text)) ≡ t
        → WellFound (b ∷ text) (if t then Some (tt {0}, drop 2 text) else gap_part (b ∷ text))
    cdc true e = cdc-well b text (second-true (not in_block) (begins_cdc (b ∷ text)) e)
    cdc false e = gap_part-well (b ∷ text)

    by : (t : Bool) → (not in_block && begins_cdo (b ∷ text)) ≡ t
        → WellFound (b ∷ text) (if t then Some (tt {0}, drop 3 text)
        else (if not in_block && begins_cdc (b ∷ text) then Some (tt {0}, drop 2 text)
        else gap_part (b ∷ text)))
    by true e = cdo-well b text (second-true (not in_block) (begins_cdo (b ∷ text)) e)
    by false e = cdc (not in_block && begins_cdc (b ∷ text)) refl

pub between-well : (in_block : Bool) (text : List ℕ) → EndsWell text (past_between in_block text)
between-well in_block text = each-well (between_part in_block) (between_part-well in_block) text
