-- The pieces of a group rule are its text.
-- Serves `SheetReader::new` (that nothing is lost).
use Rattle.std.proofs.Common.{◌≡◌, ℕ, Bool, true, false, List, [], ◌∷◌, ◌++◌, length, map, Some, None, refl, sym, ap, ◌∙◌, subst, if◌then◌else◌, ◌==◌, eqb-true, inl, inr}
use Rattle.css_text.specs.AsciiBytes.{comma, semicolon, open_brace, close_brace, at_sign}
use Rattle.css_text.specs.Reading.{before, each, last_or}
use Rattle.css_text.specs.Bytes.{past_byte, starts}
use Rattle.css_text.proofs.reading.EachLemmas.{each-stops}
use Rattle.css_text.proofs.reading.GotLemmas.{starts-cons}
use Rattle.css_syntax.specs.declared.parts.Stops.{Stops}
use Rattle.css_syntax.specs.Tokens.{past_gap, past_word}
use Rattle.css_syntax.specs.Parts.{Stated, ends_at, part, parts}
use Rattle.css_syntax.specs.Statements.{begins_at_rule, block_ends, block, StatementText, at_rule_ends, at_rule_ended, at_rule, as_statement, rule_set_ends, rule_set_ended, statement}
use Rattle.css_syntax.specs.Contents.{contents_after, at_rule_contents, statement_contents}
use Rattle.css_syntax.proofs.Utf8Ends.{gap-well}
use Rattle.css_syntax.proofs.PartLemmas.{part-takes}
use Rattle.css_syntax.proofs.PartTexts.{end-well, starts_past, word_ends}
use Rattle.css_sheet.specs.SheetItems.{GroupText, group_of, is_group_name}
use Rattle.css_sheet.specs.NothingLost.{BlankTo, EndsBlock, IsGroupRule}
use Rattle.css_sheet.proofs.Sizes.{gap-again, gap-after}

pub blank : (text : List ℕ) → BlankTo text (past_gap text)
blank text = (refl, (gap-well text).0)

-- what is left after the last of parts
abbrev pub after_last : Stops → List ℕ → List ℕ
after_last stops text = last_or text (map (λ one. one.1) (each (part stops) text).0)

-- after their text, a blank is before what ends parts
pub parts-blank : (stops : Stops) (start : List ℕ) → start ≡ past_gap start
    → BlankTo (after_last stops start) (parts stops start).1
unfolding parts each
parts-blank stops start g =
    let end = after_last stops start in
    subst (BlankTo end) (sym (gap-after stops (length start) start start g)) (blank end)

pub parts-text : (stops : Stops) (text : List ℕ)
    → (parts stops text).0.text ++ after_last stops text ≡ text
unfolding parts
parts-text stops text = (end-well stops text).0

parts-end : (stops : Stops) (text : List ℕ) → ends_at stops (parts stops text).1 ≡ true
unfolding parts
parts-end stops text = by (ends_at stops left) refl
  where
    left : List ℕ
    left = (each (part stops) text).1

    by : (t : Bool) → ends_at stops left ≡ t → ends_at stops left ≡ true
    by true e = e
    by false e = absurd (
        let stop : part stops left ≡ None = each-stops (part stops) (part-takes stops) text in
        let wrong = rw e at stop in cc)

-- a block ends at its brace or with the text
block-ends : (text : List ℕ) → ends_at block_ends text ≡ true
    → EndsBlock text (past_byte close_brace text)
block-ends [] e = inr (refl, refl)
block-ends (b ∷ text) e = by (b == close_brace) refl
  where
    other : (s o m : Bool) → (if s then false
        else (if o then false else (if m then false else false))) ≡ true → ⊥
    other true o m g = cc
    other false true m g = cc
    other false false true g = cc
    other false false false g = cc

    by : (t : Bool) → (b == close_brace) ≡ t
        → EndsBlock (b ∷ text) (past_byte close_brace (b ∷ text))
    by true f = rw f (inl (ap (λ (c : ℕ). c ∷ text) (eqb-true b close_brace f)))
    by false f = absurd (let ends = rw f at e in other (b == semicolon) (b == open_brace)
        (b == comma) ends)

-- ---- a group rule

-- an at-rule begins with its `@`
at-first : (text : List ℕ) → begins_at_rule text ≡ true
    → text ≡ at_sign ∷ past_byte at_sign text
at-first [] e = absurd (cc)
at-first (b ∷ text) e = by (b == at_sign) refl
  where
    by : (t : Bool) → (b == at_sign) ≡ t → b ∷ text ≡ at_sign ∷ past_byte at_sign (b ∷ text)
    by true f = rw f (ap (λ (c : ℕ). c ∷ text) (eqb-true b at_sign f))
    by false f = absurd (let wrong = rw f at e in cc)

-- what begins with a byte
pub first-byte : (c : ℕ) (text : List ℕ) → starts c text ≡ true → text ≡ c ∷ past_byte c text
first-byte c text e =
    starts-cons c text e ∙ ap (λ (t : List ℕ). c ∷ t) (starts_past c text e)

-- the pieces of a group rule, if it is one
abbrev PiecesOf : (start inside : List ℕ) → StatementText × List ℕ → Type 0
PiecesOf start inside read =
    (group : GroupText) → group_of read.0 ≡ Some group → IsGroupRule group start inside read.1

-- an at-rule that has a block, by what is before the block
pub record Head (name prelude start rest : List ℕ) : Type 0 where
  pub after_name : List ℕ
  pub after_prelude : List ℕ
  pub name_first : start ≡ at_sign ∷ (name ++ after_name)
  pub prelude_next : BlankTo after_name (prelude ++ after_prelude)
  pub rest_next : BlankTo after_prelude rest

with-block : (name : List ℕ) (prelude : Stated) (start rest : List ℕ)
    → Head name prelude.text start rest → starts open_brace rest ≡ true
    → (t : Bool) → is_group_name name ≡ t → (group : GroupText)
    → (if t then Some (record {
      name = name;
      prelude = prelude.text;
      text = (block (past_byte open_brace rest)).0.text;
    }) else None) ≡ Some group
    → IsGroupRule group start (past_gap (past_byte open_brace rest))
    (block (past_byte open_brace rest)).1
unfolding block
with-block name prelude start rest head opens false n group g = absurd (cc)
with-block name prelude start rest head opens true n group g =
    subst (λ (o : GroupText). IsGroupRule o start inside (block after).1) is pieces
  where
    after : List ℕ
    after = past_byte open_brace rest

    inside : List ℕ
    inside = past_gap after

    this : GroupText
    this = record { name = name; prelude = prelude.text; text = (block after).0.text }

    is : this ≡ group
    is = cc

    pieces : IsGroupRule this start inside (block after).1
    pieces = record {
      after_name = head.after_name;
      after_prelude = head.after_prelude;
      after_brace = after;
      after_contents = after_last block_ends inside;
      from_end = (parts block_ends inside).1;
      is_group = n;
      name_first = head.name_first;
      prelude_next = head.prelude_next;
      brace_next = subst (BlankTo head.after_prelude) (first-byte open_brace rest opens)
          head.rest_next;
      inside_next = blank after;
      contents_next = sym (parts-text block_ends inside);
      end_next = parts-blank block_ends inside (sym (gap-again after));
      ends = block-ends (parts block_ends inside).1 (parts-end block_ends inside);
    }

ended-pieces : (name : List ℕ) (prelude : Stated) (start rest : List ℕ)
    → Head name prelude.text start rest
    → PiecesOf start (contents_after rest) (as_statement (at_rule_ended name prelude rest))
ended-pieces name prelude start rest head = by (starts open_brace rest) refl
  where
    by : (t : Bool) → starts open_brace rest ≡ t
        → PiecesOf start (contents_after rest) (as_statement (at_rule_ended name prelude rest))
    by true e = rw e (λ group g.
        with-block name prelude start rest head e (is_group_name name) refl group g)
    by false e = rw e (λ group g. absurd (cc))

-- what is before the block of an at-rule
abbrev HeadAt : (in_block : Bool) → List ℕ → Type 0
HeadAt in_block text =
    let word = past_word (past_byte at_sign text) in
    let prelude = parts (at_rule_ends in_block) (past_gap word) in
    Head (before (past_byte at_sign text) word) prelude.0.text text prelude.1

pub at-head : (in_block : Bool) (text : List ℕ) → begins_at_rule text ≡ true → HeadAt in_block text
at-head in_block text e =
    let start = past_byte at_sign text in
    let word = past_word start in
    let stops = at_rule_ends in_block in
    record {
      after_name = word;
      after_prelude = after_last stops (past_gap word);
      name_first = at-first text e ∙ ap (λ (t : List ℕ). at_sign ∷ t) (sym (word_ends start));
      prelude_next = subst (BlankTo word) (sym (parts-text stops (past_gap word))) (blank word);
      rest_next = parts-blank stops (past_gap word) (sym (gap-again word));
    }

at_rule-pieces : (in_block : Bool) (text : List ℕ) → begins_at_rule text ≡ true
    → PiecesOf text (at_rule_contents in_block text) (as_statement (at_rule in_block text))
unfolding at_rule
at_rule-pieces in_block text e =
    let start = past_byte at_sign text in
    let word = past_word start in
    let prelude = parts (at_rule_ends in_block) (past_gap word) in
    ended-pieces (before start word) prelude.0 text prelude.1 (at-head in_block text e)

rule-pieces : (start inside : List ℕ) (prelude : Stated) (rest : List ℕ)
    → PiecesOf start inside (rule_set_ended prelude rest)
rule-pieces start inside prelude rest = by (starts open_brace rest) refl
  where
    by : (t : Bool) → starts open_brace rest ≡ t
        → PiecesOf start inside (rule_set_ended prelude rest)
    by true e = rw e (λ group g. absurd (cc))
    by false e = rw e (λ group g. absurd (cc))

pub statement-pieces : (in_block : Bool) (text : List ℕ)
    → PiecesOf text (statement_contents in_block text) (statement in_block text)
unfolding statement
statement-pieces in_block text = by (begins_at_rule text) refl
  where
    by : (t : Bool) → begins_at_rule text ≡ t
        → PiecesOf text (statement_contents in_block text) (statement in_block text)
    by true e = rw e (at_rule-pieces in_block text e)
    by false e =
        rw e (rule-pieces text (contents_after (parts (rule_set_ends in_block) text).1)
        (parts (rule_set_ends in_block) text).0 (parts (rule_set_ends in_block) text).1)
