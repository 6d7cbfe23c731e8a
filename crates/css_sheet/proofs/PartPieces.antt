-- The parts of a sheet are all of it.
-- Serves `laws::nothing_is_lost`.
use Rattle.std.proofs.Common.{◌≡◌, ℕ, zero, suc, ◌<◌, ◌≤◌, ◌==◌, ◌&&◌, not, drop, Bool, true, false, List, [], ◌∷◌, ◌++◌, length, Option, Some, None, Ok, Err, arith, refl, sym, ap, subst, if◌then◌else◌, eqb-true, inl, inr}
use Rattle.css_text.specs.AsciiBytes.{semicolon, open_brace, close_brace, at_sign}
use Rattle.css_text.specs.Reading.{before, Ends}
use Rattle.css_text.specs.Bytes.{past_byte, starts}
use Rattle.css_text.proofs.reading.EachLemmas.{Shrinks, each-stops, option_cases}
use Rattle.css_text.proofs.reading.EndsLemmas.{ends-ends}
use Rattle.css_text.proofs.reading.WellLemmas.{WellFound}
use Rattle.css_syntax.specs.declared.parts.Stops.{Stops}
use Rattle.css_syntax.specs.declared.quality.Fault.{Fault}
use Rattle.css_syntax.specs.Tokens.{gap_part, past_gap, past_word, begins_cdo}
use Rattle.css_syntax.specs.Parts.{Stated, parts}
use Rattle.css_syntax.specs.Statements.{begins_at_rule, begins_cdc, block, at_rule_ends, rule_set_ends, between_part, past_between}
use Rattle.css_syntax.specs.DeclarationLists.{Declared, declaration, begins_custom, separator_part, past_separators}
use Rattle.css_syntax.specs.Blocks.{BlockPart, listed, opens_rule, opens_at_rule, closes, at_rule_begun, at_rule_opened, rule_opened_by, or_opened, block_part, block_part_from, next_block_part, listed_rule_by, rule_part, rule_part_from, next_rule_part}
use Rattle.css_syntax.proofs.Shorter.{each-rests}
use Rattle.css_syntax.proofs.ItemLemmas.{between_part-takes, separator_part-takes, block-within, block-well, separators-well, between-well}
use Rattle.css_syntax.proofs.BlockSteps.{next_rule_part-takes, next_block_part-well, next_rule_part-well}
use Rattle.css_sheet.specs.SheetItems.{group_keyword}
use Rattle.css_sheet.specs.SheetParts.{Nesting, outside, within, nested, OpenText, nesting_of, is_more_open, past_before, from_part, SheetPart, past_run, at_rule_in, option_inside, next_inside, at_rule_outside, option_outside, next_outside, next_by, next_in, open_after, Source, place_at, parts_in, open_given, parts_given}
use Rattle.css_sheet.specs.Sheets.{GroupRuleText}
use Rattle.css_sheet.specs.NothingLost.{BlankTo}
use Rattle.css_sheet.specs.PartsAll.{PartBegins, IsPart, ArePartsIn, ArePartsOf}
use Rattle.css_sheet.specs.PartsAll.ArePartsOf.{no_part, part_then}
use Rattle.css_sheet.proofs.GroupPieces.{Head, at-head, after_last, first-byte, parts-blank, parts-text}
use Rattle.css_sheet.proofs.PartSteps.{run-well, parts-some, parts-none, took}

-- ---- heads of rules

-- what a part of a block that begins or ends a rule is
HeadOf : (start : List ℕ) → BlockPart → (rest : List ℕ) → Type 0
HeadOf start (listed item) rest = Unit {0}
HeadOf start (opens_rule prelude) rest =
    (after : List ℕ) × (start ≡ prelude.text ++ after) × BlankTo after (open_brace ∷ rest)
HeadOf start (opens_at_rule name prelude) rest =
    (after_name after : List ℕ) × (start ≡ at_sign ∷ (name ++ after_name))
    × BlankTo after_name (prelude.text ++ after) × BlankTo after (open_brace ∷ rest)
HeadOf start closes rest = start ≡ close_brace ∷ rest

abbrev HeadRead : (start : List ℕ) → BlockPart × List ℕ → Type 0
HeadRead start read = HeadOf start read.0 read.1

begun-head : (name : List ℕ) (prelude : Stated) (start rest : List ℕ)
    → Head name prelude.text start rest → HeadRead start (at_rule_begun name prelude rest)
unfolding HeadOf
begun-head name prelude start rest head = by (starts open_brace rest) refl
  where
    by : (t : Bool) → starts open_brace rest ≡ t → HeadRead start (at_rule_begun name prelude rest)
    by true e =
        let brace : BlankTo head.after_prelude (open_brace ∷ past_byte open_brace rest) =
        subst (BlankTo head.after_prelude) (first-byte open_brace rest e) head.rest_next in
        rw e (head.after_name, head.after_prelude, head.name_first, head.prelude_next, brace)
    by false e = rw e tt

at_rule-head : (in_block : Bool) (start : List ℕ) → begins_at_rule start ≡ true
    → HeadRead start (at_rule_opened in_block start)
unfolding at_rule_opened
at_rule-head in_block start e =
    let name = past_byte at_sign start in
    let prelude = parts (at_rule_ends in_block) (past_gap (past_word name)) in
    begun-head (before name (past_word name)) prelude.0 start prelude.1 (at-head in_block start e)

-- a brace after the prelude of a style rule
prelude-head : (stops : Stops) (start : List ℕ) → start ≡ past_gap start
    → starts open_brace (parts stops start).1 ≡ true
    → HeadOf start (opens_rule (parts stops start).0) (past_byte open_brace (parts stops start).1)
unfolding HeadOf
prelude-head stops start g e = (
  after_last stops start,
  sym (parts-text stops start),
  subst (BlankTo (after_last stops start)) (first-byte open_brace (parts stops start).1 e)
      (parts-blank stops start g),
)

opened-head : (custom : Bool) (fault : Fault) (start : List ℕ) → start ≡ past_gap start
    → HeadRead start (rule_opened_by custom fault (parts (at_rule_ends true) start))
unfolding HeadOf
opened-head custom fault start g = by custom (starts open_brace rest) refl
  where
    rest : List ℕ
    rest = (parts (at_rule_ends true) start).1

    by : (c t : Bool) → starts open_brace rest ≡ t
        → HeadRead start (rule_opened_by c fault (parts (at_rule_ends true) start))
    by true true e = rw e tt
    by false true e = rw e (prelude-head (at_rule_ends true) start g e)
    by c false e = rw e tt

or_opened-head : (start : List ℕ) → start ≡ past_gap start → (read : Declared)
    → HeadRead start (or_opened start read)
unfolding HeadOf
or_opened-head start g (Ok found) = tt
or_opened-head start g (Err fault) = opened-head (begins_custom start) fault start g

block_part-head : (start : List ℕ) → start ≡ past_gap start → HeadRead start (block_part start)
unfolding block_part
block_part-head start g = by (begins_at_rule start) refl
  where
    by : (t : Bool) → begins_at_rule start ≡ t → HeadRead start (block_part start)
    by true e = rw e (at_rule-head true start e)
    by false e = rw e (or_opened-head start g (declaration true start))

listed-head : (in_block : Bool) (start : List ℕ) → start ≡ past_gap start
    → HeadRead start (listed_rule_by (parts (rule_set_ends in_block) start))
unfolding HeadOf
listed-head in_block start g = by (starts open_brace (parts (rule_set_ends in_block) start).1) refl
  where
    by : (t : Bool) → starts open_brace (parts (rule_set_ends in_block) start).1 ≡ t
        → HeadRead start (listed_rule_by (parts (rule_set_ends in_block) start))
    by true e = rw e (prelude-head (rule_set_ends in_block) start g e)
    by false e = rw e tt

rule_part-head : (in_block : Bool) (start : List ℕ) → start ≡ past_gap start
    → HeadRead start (rule_part in_block start)
unfolding rule_part
rule_part-head in_block start g = by (begins_at_rule start) refl
  where
    by : (t : Bool) → begins_at_rule start ≡ t → HeadRead start (rule_part in_block start)
    by true e = rw e (at_rule-head in_block start e)
    by false e = rw e (listed-head in_block start g)

-- ---- parts of blocks

-- what was read at a start, if the text does not end there
PartAt : (start : List ℕ) → Option (BlockPart × List ℕ) → Type 0
PartAt start None = start ≡ []
PartAt start (Some x) = HeadRead start x

block-at : (start : List ℕ) → start ≡ past_gap start → PartAt start (block_part_from start)
unfolding PartAt HeadOf
block-at [] g = refl
block-at (b ∷ start) g = by (b == close_brace) refl
  where
    by : (t : Bool) → (b == close_brace) ≡ t → PartAt (b ∷ start)
        (if t then Some (closes, start) else Some (block_part (b ∷ start)))
    by true e = ap (λ (c : ℕ). c ∷ start) (eqb-true b close_brace e)
    by false e = block_part-head (b ∷ start) g

rule-at : (in_block : Bool) (start : List ℕ) → start ≡ past_gap start
    → PartAt start (rule_part_from in_block start)
unfolding PartAt HeadOf
rule-at in_block [] g = refl
rule-at in_block (b ∷ start) g = by in_block (b == close_brace) refl
  where
    by : (k t : Bool) → (b == close_brace) ≡ t → PartAt (b ∷ start)
        (if k && t then Some (closes, start) else Some (rule_part in_block (b ∷ start)))
    by true true e = ap (λ (c : ℕ). c ∷ start) (eqb-true b close_brace e)
    by true false e = rule_part-head in_block (b ∷ start) g
    by false t e = rule_part-head in_block (b ∷ start) g

-- ---- parts of a sheet

-- what is read of a sheet from a start, if the text does not end there
PieceAt : (start : List ℕ) → Option (SheetPart × List ℕ) → Type 0
PieceAt start None = start ≡ []
PieceAt start (Some x) = IsPart x.0 start x.1

-- declarations from a start, of which this is left after the first
run-piece : (start rest : List ℕ) → Ends start rest
    → start ≡ before start (past_run rest) ++ past_run rest
run-piece start rest ends = sym (ends-ends start rest (past_run rest) ends (run-well rest).0)

at_rule-inside : (start name rest : List ℕ) (prelude : Stated) → Ends start rest
    → HeadOf start (opens_at_rule name prelude) rest → (keyword : Option (List ℕ))
    → group_keyword name ≡ keyword
    → IsPart (at_rule_in start prelude rest keyword).0 start (at_rule_in start prelude rest keyword).1
unfolding HeadOf
at_rule-inside start name rest prelude ends head None e =
    run-piece start (block rest).1
    (ends-ends start rest (block rest).1 ends (block-well rest).0)
at_rule-inside start name rest prelude ends head (Some keyword) e =
    (name, head.0, head.1, head.2, e, head.3, head.4)

inside-piece : (start : List ℕ) (read : Option (BlockPart × List ℕ)) → PartAt start read
    → WellFound start read → PieceAt start (option_inside start read)
unfolding PartAt PieceAt HeadOf
inside-piece start None h w = h
inside-piece start (Some (listed item, rest)) h w = run-piece start rest w.0
inside-piece start (Some (opens_rule prelude, rest)) h w = h
inside-piece start (Some (opens_at_rule name prelude, rest)) h w =
    at_rule-inside start name rest prelude w.0 h (group_keyword name) refl
inside-piece start (Some (closes, rest)) h w = h

at_rule-outside : (start name rest : List ℕ) (prelude : Stated) → Ends start rest
    → length rest < length start → HeadOf start (opens_at_rule name prelude) rest
    → (keyword : Option (List ℕ)) → group_keyword name ≡ keyword
    → IsPart (at_rule_outside name prelude rest keyword).0 start
    (at_rule_outside name prelude rest keyword).1
unfolding HeadOf
at_rule-outside start name rest prelude ends less head None e = (
  omega (arith, less, block-within rest),
  ends-ends start rest (block rest).1 ends (block-well rest).0,
)
at_rule-outside start name rest prelude ends less head (Some keyword) e =
    (name, head.0, head.1, head.2, e, head.3, head.4)

outside-piece : (start : List ℕ) (read : Option (BlockPart × List ℕ)) → PartAt start read
    → WellFound start read → Shrinks start read → PieceAt start (option_outside read)
unfolding PartAt PieceAt HeadOf
outside-piece start None h w less = h
outside-piece start (Some (listed item, rest)) h w less = (less, w.0)
outside-piece start (Some (opens_rule prelude, rest)) h w less = h
outside-piece start (Some (opens_at_rule name prelude, rest)) h w less =
    at_rule-outside start name rest prelude w.0 less h (group_keyword name) refl
outside-piece start (Some (closes, rest)) h w less = h

-- ---- what is before a part

separated : (start : List ℕ) → separator_part start ≡ None → gap_part start ≡ None
unfolding separator_part gap_part
separated [] e = refl
separated (b ∷ start) e = by (b == semicolon) e
  where
    by : (t : Bool) → (if t then Some (tt, start) else gap_part (b ∷ start)) ≡ None
        → gap_part (b ∷ start) ≡ None
    by true f = absurd (cc)
    by false f = f

no-separator : (text : List ℕ) → past_separators text ≡ past_gap (past_separators text)
no-separator text =
    sym (each-rests gap_part (past_separators text)
    (separated (past_separators text) (each-stops separator_part separator_part-takes text)))

between-none : (in_block : Bool) (start : List ℕ) → between_part in_block start ≡ None
    → gap_part start ≡ None
unfolding between_part gap_part
between-none in_block [] e = refl
between-none in_block (b ∷ start) e =
    by (not in_block && begins_cdo (b ∷ start)) (not in_block && begins_cdc (b ∷ start)) e
  where
    by : (c d : Bool) → (if c then Some (tt, drop 3 start)
        else (if d then Some (tt, drop 2 start) else gap_part (b ∷ start))) ≡ None
        → gap_part (b ∷ start) ≡ None
    by true d f = absurd (cc)
    by false true f = absurd (cc)
    by false false f = f

no-between : (in_block : Bool) (text : List ℕ)
    → past_between in_block text ≡ past_gap (past_between in_block text)
no-between in_block text =
    sym (each-rests gap_part (past_between in_block text)
    (between-none in_block (past_between in_block text)
    (each-stops (between_part in_block) (between_part-takes in_block) text)))

-- what is read from a start is shorter than what is there
rule-less : (in_block : Bool) (text : List ℕ)
    → Shrinks (past_between in_block text) (next_rule_part in_block text)
unfolding next_rule_part
rule-less in_block text =
    let start = past_between in_block text in
    let same : past_between in_block start ≡ start =
    each-rests (between_part in_block) start
    (each-stops (between_part in_block) (between_part-takes in_block) text) in
    subst (λ (t : List ℕ). Shrinks start (rule_part_from in_block t)) same
    (next_rule_part-takes in_block start)

inside-found : (text : List ℕ) → PieceAt (past_separators text) (next_inside text)
unfolding next_block_part
inside-found text =
    inside-piece (past_separators text) (next_block_part text)
    (block-at (past_separators text) (no-separator text)) (next_block_part-well text)

outside-found : (in_block : Bool) (text : List ℕ)
    → PieceAt (past_between in_block text) (next_outside in_block text)
unfolding next_rule_part
outside-found in_block text =
    outside-piece (past_between in_block text) (next_rule_part in_block text)
    (rule-at in_block (past_between in_block text) (no-between in_block text))
    (next_rule_part-well in_block text) (rule-less in_block text)

found-by : (nesting : Nesting) (in_block : Bool) (text : List ℕ)
    → PieceAt (past_before nesting in_block text) (next_by nesting in_block text)
found-by outside in_block text = outside-found in_block text
found-by (within prelude) in_block text = inside-found text
found-by nested in_block text = inside-found text

ends-by : (nesting : Nesting) (in_block : Bool) (text : List ℕ)
    → Ends text (past_before nesting in_block text)
ends-by outside in_block text = (between-well in_block text).0
ends-by (within prelude) in_block text = (separators-well text).0
ends-by nested in_block text = (separators-well text).0

begins-at : (depth : ℕ) (around : List OpenText) (text : List ℕ)
    → PartBegins depth around text (from_part depth around text)
begins-at depth around text = (refl, ends-by (nesting_of around) (is_more_open depth around) text)

found-in : (depth : ℕ) (around : List OpenText) (text : List ℕ)
    → PieceAt (from_part depth around text) (next_in depth around text)
unfolding next_in
found-in depth around text = found-by (nesting_of around) (is_more_open depth around) text

-- ---- all parts

module _ (holds : List ℕ → List ℕ → Bool) (source : Source) where
  parts-end : (around : List OpenText) (text : List ℕ) → next_in source.depth around text ≡ None
      → ArePartsOf source around text (parts_in holds source around text)
  unfolding PieceAt
  parts-end around text e =
      let start = from_part source.depth around text in
      let none : start ≡ [] = subst (PieceAt start) e (found-in source.depth around text) in
      subst (ArePartsOf source around text) (sym (parts-none holds source around text e))
      (no_part around text (subst (PartBegins source.depth around text) none (begins-at source.depth around text)))

  parts-then : (around : List OpenText) (text rest : List ℕ) (part : SheetPart)
      → next_in source.depth around text ≡ Some (part, rest)
      → ArePartsOf source (open_after holds around part (place_at source rest)) rest
      (parts_in holds source (open_after holds around part (place_at source rest)) rest)
      → ArePartsOf source around text (parts_in holds source around text)
  unfolding PieceAt
  parts-then around text rest part e more =
      let start = from_part source.depth around text in
      let after = open_after holds around part (place_at source rest) in
      let piece : IsPart part start rest = subst (PieceAt start) e (found-in source.depth around text) in
      subst (ArePartsOf source around text)
      (sym (parts-some holds source around after text rest part e refl))
      (part_then around text start rest _ _ (begins-at source.depth around text) piece refl refl refl more)

  pub parts-all : (m : ℕ) (around : List OpenText) (text : List ℕ) → length text ≤ m
      → ArePartsOf source around text (parts_in holds source around text)
  parts-all zero around text h =
      elim (option_cases (next_in source.depth around text)) [
        | inl e ↦ parts-end around text e
        | inr found ↦ absurd (omega (arith, h, took source.depth around text found.0.1 found.0.0 found.1))
      ]
  parts-all (suc m) around text h =
      elim (option_cases (next_in source.depth around text)) [
        | inl e ↦ parts-end around text e
        | inr found ↦
            parts-then around text found.0.1 found.0.0 found.1
            (parts-all m (open_after holds around found.0.0 (place_at source found.0.1)) found.0.1
            (omega (arith, h, took source.depth around text found.0.1 found.0.0 found.1)))
      ]

-- the group rules that all of the text is in begin before it
pub given-all : (holds : List ℕ → List ℕ → Bool) (source : Source) (around : List OpenText)
    (rules : List GroupRuleText) (text : List ℕ)
    → ArePartsIn source around rules text (parts_given holds source around rules text)
given-all holds source around [] text = parts-all holds source (length text) around text (omega arith)
given-all holds source around (rule ∷ rules) text =
    (refl, given-all holds source (open_given holds around rule) rules text)
