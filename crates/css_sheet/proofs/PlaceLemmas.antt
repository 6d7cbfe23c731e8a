-- Where the next statement is, and how long its block is.
-- Serves `SheetReader::step` (what it asks of `find`, and that no offset is outside the sheet).
use Rattle.std.proofs.Common.{◌≡◌, ℕ, ◌≤◌, ◌<◌, ◌+◌, ◌^◌, Bool, true, false, List, length, Option, Some, None, arith, refl, ap, sym, ◌∙◌, subst, if◌then◌else◌, inl, inr}
use Rattle.css_syntax.specs.Statements.{BlockText, AtRuleText, StatementText, rule_set, at_rule_statement, skipped_statement, SheetText, statement, past_between, ends_block, statement_from, next_statement, with_text}
use Rattle.css_syntax.specs.Contents.{statement_contents}
use Rattle.css_syntax.proofs.PlaceBounds.{BlockFits, block_in, statement-fits, between-within, contents-within}
use Rattle.css_sheet.specs.SheetItems.{GroupText, group_with, group_of, is_group_name, next_part}
use Rattle.css_sheet.specs.Places.{block_size, block_length, places_by, PlacesText}
use Rattle.css_sheet.proofs.NextParts.{next-cases}
use Rattle.css_sheet.proofs.SheetSteps.{place}

-- the length of a block by its fit
size-fits : (o : Option BlockText) (inside : List ℕ) → BlockFits o inside
    → block_size o ≤ length inside
size-fits None inside h = omega arith
size-fits (Some found) inside h = h

length-fits : (s : StatementText) (inside : List ℕ) → BlockFits (block_in s) inside
    → block_length s ≤ length inside
length-fits (rule_set prelude found) inside h = h
length-fits (at_rule_statement rule) inside h = size-fits rule.block inside h
length-fits (skipped_statement fault) inside h = omega arith

-- the statement that was read is the one at the start
StatementOf : Bool → List ℕ → Option (SheetText × List ℕ) → Type 0
StatementOf in_block start None = Unit {0}
StatementOf in_block start (Some x) = x.0.statement ≡ (statement in_block start).0

statement-at : (in_block : Bool) (start : List ℕ)
    → StatementOf in_block start (statement_from in_block start)
unfolding StatementOf
statement-at in_block start = by (ends_block in_block start)
  where
    by : (t : Bool) → StatementOf in_block start (if t then None
        else Some (with_text start (statement in_block start)))
    by true = tt
    by false = refl

read-length : (in_block : Bool) (text rest : List ℕ) (p : SheetText)
    → next_statement in_block text ≡ Some (p, rest)
    → block_length p.statement ≤ length (statement_contents in_block (past_between in_block text))
unfolding next_statement StatementOf
read-length in_block text rest p e =
    let start = past_between in_block text in
    let is : p.statement ≡ (statement in_block start).0 =
    subst (StatementOf in_block start) e (statement-at in_block start) in
    length-fits p.statement (statement_contents in_block start)
    (subst (λ (s : StatementText). BlockFits (block_in s) (statement_contents in_block start))
    (sym is) (statement-fits in_block start))

pub block-length : (in_block : Bool) (text rest : List ℕ) (p : SheetText)
    → next_part in_block text ≡ Some (p, rest)
    → block_length p.statement ≤ length (statement_contents in_block (past_between in_block text))
block-length in_block text rest p e =
    elim (next-cases in_block text rest p e) [
      | inl read ↦ read-length in_block text rest p read
      | inr stray ↦ omega (arith, ap (λ (q : SheetText). block_length q.statement) stray.part_is)
    ]

-- the text of a group rule is the contents of its block
GroupIs : ℕ → Option GroupText → Type 0
GroupIs n None = Unit {0}
GroupIs n (Some group) = length group.text ≡ n

with-is : (rule : AtRuleText) (o : Option BlockText) → GroupIs (block_size o) (group_with rule o)
unfolding GroupIs
with-is rule None = tt
with-is rule (Some found) = by (is_group_name rule.name)
  where
    by : (t : Bool) → GroupIs (length found.text) (if t then Some (record {
      name = rule.name;
      prelude = rule.prelude.text;
      text = found.text;
    }) else None)
    by true = refl
    by false = tt

group-is : (s : StatementText) → GroupIs (block_length s) (group_of s)
unfolding GroupIs
group-is (rule_set prelude found) = tt
group-is (at_rule_statement rule) = with-is rule rule.block
group-is (skipped_statement fault) = tt

pub group-length : (s : StatementText) (group : GroupText) → group_of s ≡ Some group
    → length group.text ≡ block_length s
unfolding GroupIs
group-length s group e = subst (GroupIs (block_length s)) e (group-is s)

pub start-within : (in_block : Bool) (text from : List ℕ) (end : ℕ)
    → from ≡ past_between in_block text → length text ≤ end → length from ≤ end
start-within in_block text from end e h =
    omega (arith, h, ap length e, between-within in_block text)

pub inside-within : (in_block : Bool) (text inside : List ℕ) (end : ℕ)
    → inside ≡ statement_contents in_block (past_between in_block text) → length text ≤ end
    → length inside ≤ end
inside-within in_block text inside end e h =
    omega (
      arith,
      h,
      ap length e,
      contents-within in_block (past_between in_block text),
      between-within in_block text,
    )

-- the places that were found are those of the statement that the reader is at
pub places-open : (end : ℕ) (a b : Bool) (text : List ℕ) (part : SheetText)
    (from inside : List ℕ) (places : PlacesText)
    → places ≡ places_by end part.statement from inside
    → from ≡ past_between a text → inside ≡ statement_contents a (past_between a text)
    → a ≡ b → places ≡ place end b text part
places-open end a b text part from inside places p e i o =
    p ∙ ap (λ (f : List ℕ). places_by end part.statement f inside) e
    ∙ ap (λ (n : List ℕ). places_by end part.statement (past_between a text) n) i
    ∙ ap (λ (t : Bool). place end t text part) o

-- the contents of a group rule end where the places say
pub group-short : (places : PlacesText) (end : ℕ) (s : StatementText) (from inside : List ℕ)
    (group : GroupText) → places ≡ places_by end s from inside → group_of s ≡ Some group
    → places.block_end < 2 ^ 63 → places.block + length group.text < 2 ^ 63
group-short places end s from inside group e g short =
    omega (
      arith,
      ap (λ (p : PlacesText). p.block_end) e,
      ap (λ (p : PlacesText). p.block) e,
      group-length s group g,
      short,
    )
