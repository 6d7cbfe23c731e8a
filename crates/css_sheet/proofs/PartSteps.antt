-- What the parts of a sheet consume, and the parts one after another.
-- Serves `parts::{past_run, state_from, begin_inside, SheetParts::{read_next, next}}`.
use Rattle.std.specs.Prelude.{IfOk, Result, Ok, Err}
use Rattle.std.proofs.Common.{◌≡◌, ℕ, zero, suc, ◌<◌, ◌≤◌, Bool, List, [], ◌∷◌, length, Option, Some, None, arith, refl, sym, ap, ◌∙◌, subst, inl, inr}
use Rattle.css_text.proofs.reading.EachLemmas.{Shrinks, Takes, option_cases}
use Rattle.css_text.proofs.reading.TakesLemmas.{each-within}
use Rattle.css_text.proofs.reading.WellLemmas.{EndsWell, WellFound, each-well, well-then}
use Rattle.css_syntax.specs.Parts.{Stated}
use Rattle.css_syntax.specs.Statements.{block}
use Rattle.css_syntax.specs.DeclarationLists.{past_separators}
use Rattle.css_syntax.specs.Blocks.{BlockPart, listed, opens_rule, opens_at_rule, closes, next_block_part, next_rule_part}
use Rattle.css_syntax.proofs.ItemLemmas.{block-within, block-well, separators-well}
use Rattle.css_syntax.proofs.BlockSteps.{next_block_part-takes, next_rule_part-takes, next_block_part-well, found_then-well}
use Rattle.css_sheet.specs.SheetItems.{group_keyword}
use Rattle.css_sheet.specs.Sheets.{GroupRuleText}
use Rattle.css_sheet.specs.declared.parts.Part.{Part}
use Rattle.css_sheet.specs.declared.parts.SheetParts.{SheetParts}
use Rattle.css_sheet.specs.ContentViews.{part_of}
use Rattle.css_sheet.specs.internal.PartViews.{given_in, left_in, open_in, placed_last, source_of, GivesNext, GivesPart}
use Rattle.css_sheet.specs.SheetParts.{Nesting, outside, within, nested, OpenText, SheetPart, PlacedPart, after_at_rule, among_declarations, run_part, past_run, at_rule_in, part_inside, option_inside, at_rule_outside, part_outside, option_outside, next_by, nesting_of, is_more_open, from_part, next_in, open_after, part_then, parts_from, parts_given, parts_in, place_at, placed_part, Source}

-- ---- declarations one after another

at_rule-takes : (text rest : List ℕ) (keyword : Option (List ℕ)) → length rest < length text
    → Shrinks text (after_at_rule keyword rest)
at_rule-takes text rest None h = omega (arith, block-within rest)
at_rule-takes text rest (Some keyword) h = tt

among-takes : (text : List ℕ) (found : Option (BlockPart × List ℕ)) → Shrinks text found
    → Shrinks text (among_declarations found)
among-takes text None h = tt
among-takes text (Some (listed item, rest)) h = h
among-takes text (Some (opens_rule prelude, rest)) h = tt
among-takes text (Some (opens_at_rule name prelude, rest)) h =
    at_rule-takes text rest (group_keyword name) h
among-takes text (Some (closes, rest)) h = tt

pub run_part-takes : Takes run_part
unfolding run_part
run_part-takes text = among-takes text (next_block_part text) (next_block_part-takes text)

at_rule-well : (text rest : List ℕ) (keyword : Option (List ℕ)) → EndsWell text rest
    → WellFound text (after_at_rule keyword rest)
at_rule-well text rest None h = well-then text rest (block rest).1 h (block-well rest)
at_rule-well text rest (Some keyword) h = tt

among-well : (text : List ℕ) (found : Option (BlockPart × List ℕ)) → WellFound text found
    → WellFound text (among_declarations found)
among-well text None h = tt
among-well text (Some (listed item, rest)) h = h
among-well text (Some (opens_rule prelude, rest)) h = tt
among-well text (Some (opens_at_rule name prelude, rest)) h =
    at_rule-well text rest (group_keyword name) h
among-well text (Some (closes, rest)) h = tt

pub run_part-well : (text : List ℕ) → WellFound text (run_part text)
unfolding run_part
run_part-well text =
    among-well text (next_block_part text)
    (found_then-well text (past_separators text) (next_block_part text) (separators-well text)
    (next_block_part-well text))

pub run-well : (text : List ℕ) → EndsWell text (past_run text)
run-well text = each-well run_part run_part-well text

run-within : (text : List ℕ) → length (past_run text) ≤ length text
run-within text = each-within run_part run_part-takes text

-- ---- a part takes a byte or more

at_rule_in-within : (start rest : List ℕ) (prelude : Stated) (keyword : Option (List ℕ))
    → length (at_rule_in start prelude rest keyword).1 ≤ length rest
at_rule_in-within start rest prelude None =
    omega (arith, run-within (block rest).1, block-within rest)
at_rule_in-within start rest prelude (Some keyword) = omega arith

inside-within : (start rest : List ℕ) (part : BlockPart)
    → length (part_inside start (part, rest)).1 ≤ length rest
inside-within start rest (listed item) = run-within rest
inside-within start rest (opens_rule prelude) = omega arith
inside-within start rest (opens_at_rule name prelude) =
    at_rule_in-within start rest prelude (group_keyword name)
inside-within start rest closes = omega arith

option_inside-takes : (text start : List ℕ) (found : Option (BlockPart × List ℕ))
    → Shrinks text found → Shrinks text (option_inside start found)
option_inside-takes text start None h = tt
option_inside-takes text start (Some (part, rest)) h =
    omega (arith, h, inside-within start rest part)

at_rule_outside-within : (name rest : List ℕ) (prelude : Stated) (keyword : Option (List ℕ))
    → length (at_rule_outside name prelude rest keyword).1 ≤ length rest
at_rule_outside-within name rest prelude None = block-within rest
at_rule_outside-within name rest prelude (Some keyword) = omega arith

outside-within : (rest : List ℕ) (part : BlockPart)
    → length (part_outside (part, rest)).1 ≤ length rest
outside-within rest (listed item) = omega arith
outside-within rest (opens_rule prelude) = omega arith
outside-within rest (opens_at_rule name prelude) =
    at_rule_outside-within name rest prelude (group_keyword name)
outside-within rest closes = omega arith

option_outside-takes : (text : List ℕ) (found : Option (BlockPart × List ℕ)) → Shrinks text found
    → Shrinks text (option_outside found)
option_outside-takes text None h = tt
option_outside-takes text (Some (part, rest)) h = omega (arith, h, outside-within rest part)

by-takes : (nesting : Nesting) (in_block : Bool) (text : List ℕ)
    → Shrinks text (next_by nesting in_block text)
by-takes outside in_block text =
    option_outside-takes text (next_rule_part in_block text) (next_rule_part-takes in_block text)
by-takes (within prelude) in_block text =
    option_inside-takes text (past_separators text) (next_block_part text)
    (next_block_part-takes text)
by-takes nested in_block text =
    option_inside-takes text (past_separators text) (next_block_part text)
    (next_block_part-takes text)

next_in-takes : (depth : ℕ) (around : List OpenText) (text : List ℕ)
    → Shrinks text (next_in depth around text)
unfolding next_in
next_in-takes depth around text = by-takes (nesting_of around) (is_more_open depth around) text

pub took : (depth : ℕ) (around : List OpenText) (text rest : List ℕ) (part : SheetPart)
    → next_in depth around text ≡ Some (part, rest) → length rest < length text
took depth around text rest part e =
    let P : Option (SheetPart × List ℕ) → Type 0 = Shrinks text in
    subst P e (next_in-takes depth around text)

-- ---- the parts one after another

module _ (holds : List ℕ → List ℕ → Bool) (source : Source) where
  then-some : (more : List OpenText → List ℕ → List PlacedPart) (around : List OpenText) (from : List ℕ)
      (part : SheetPart) (rest : List ℕ) (o : Option (SheetPart × List ℕ)) → o ≡ Some (part, rest)
      → part_then holds source more around from o
      ≡ placed_part source from part (open_after holds around part (place_at source rest)) rest
      ∷ more (open_after holds around part (place_at source rest)) rest
  then-some more around from part rest o e = ap (part_then holds source more around from) e

  -- with enough steps, more change nothing
  enough : (m n : ℕ) (around : List OpenText) (text : List ℕ) → length text ≤ m → length text ≤ n
      → parts_from holds source m around text ≡ parts_from holds source n around text
  unfolding parts_from
  enough zero zero around text a b = refl
  enough zero (suc n) around text a b =
      elim (option_cases (next_in source.depth around text)) [
        | inl e ↦ sym (ap (part_then holds source (parts_from holds source n) around
            (from_part source.depth around text)) e)
        | inr found ↦ absurd (omega (arith, took source.depth around text found.0.1 found.0.0 found.1))
      ]
  enough (suc m) zero around text a b =
      elim (option_cases (next_in source.depth around text)) [
        | inl e ↦ ap (part_then holds source (parts_from holds source m) around
            (from_part source.depth around text)) e
        | inr found ↦ absurd (omega (arith, took source.depth around text found.0.1 found.0.0 found.1))
      ]
  enough (suc m) (suc n) around text a b =
      let from = from_part source.depth around text in
      elim (option_cases (next_in source.depth around text)) [
        | inl e ↦
            ap (part_then holds source (parts_from holds source m) around from) e
            ∙ sym (ap (part_then holds source (parts_from holds source n) around from) e)
        | inr found ↦
            let rest = found.0.1 in
            let part = found.0.0 in
            let after = open_after holds around part (place_at source rest) in
            let less : length rest < length text = took source.depth around text rest part found.1 in
            then-some (parts_from holds source m) around from part rest (next_in source.depth around text) found.1
            ∙ ap (λ (more : List PlacedPart). placed_part source from part after rest ∷ more)
            (enough m n after rest (omega arith) (omega arith))
            ∙ sym (then-some (parts_from holds source n) around from part rest (next_in source.depth around text)
            found.1)
      ]

  pub parts-some : (around after : List OpenText) (text rest : List ℕ) (part : SheetPart)
      → next_in source.depth around text ≡ Some (part, rest) → after ≡ open_after holds around part (place_at source rest)
      → parts_in holds source around text
      ≡ placed_part source (from_part source.depth around text) part after rest ∷ parts_in holds source after rest
  unfolding parts_from
  parts-some around after [] rest part e f = absurd (omega (arith, took source.depth around [] rest part e))
  parts-some around after (b ∷ text) rest part e f =
      let less : length rest < length (b ∷ text) = took source.depth around (b ∷ text) rest part e in
      let from = from_part source.depth around (b ∷ text) in
      let now = open_after holds around part (place_at source rest) in
      then-some (parts_from holds source (length text)) around from part rest
      (next_in source.depth around (b ∷ text)) e
      ∙ ap (λ (more : List PlacedPart). placed_part source from part now rest ∷ more)
      (enough (length text) (length rest) now rest (omega arith) (omega arith))
      ∙ sym (ap (λ (os : List OpenText). placed_part source from part os rest ∷ parts_in holds source os rest) f)

  pub parts-none : (around : List OpenText) (text : List ℕ) → next_in source.depth around text ≡ None
      → parts_in holds source around text ≡ []
  unfolding parts_from
  parts-none around [] e = refl
  parts-none around (b ∷ text) e =
      ap (part_then holds source (parts_from holds source (length text)) around
      (from_part source.depth around (b ∷ text))) e

-- the same text, and the same start of the part
pub part-same : (holds : List ℕ → List ℕ → Bool) (before after : Source) (start from : List ℕ)
    (part : SheetPart) (around : List OpenText) (rest : List ℕ) → after ≡ before → from ≡ start
    → placed_part before start part around rest ∷ parts_in holds before around rest
    ≡ placed_part after from part around rest ∷ parts_in holds after around rest
part-same holds before after start from part around rest e f =
    ap (λ (source : Source).
    placed_part source start part around rest ∷ parts_in holds source around rest) (sym e)
    ∙ ap (λ (text : List ℕ).
    placed_part after text part around rest ∷ parts_in holds after around rest) (sym f)

-- ---- group rules that all of a sheet is in

-- once all have begun, the parts that are to come are those of what is left of the text
none-given : (holds : List ℕ → List ℕ → Bool) (before after : SheetParts) (part : Option Part)
    → given_in before ≡ [] → given_in after ≡ given_in before → GivesNext holds before part after
    → GivesPart holds before part after
none-given holds before after None e f gives =
    ap (λ (rules : List GroupRuleText).
    parts_given holds (source_of before) (open_in before) rules (left_in before)) e ∙ gives
none-given holds before after (Some part) e f gives =
    ap (λ (rules : List GroupRuleText).
    parts_given holds (source_of before) (open_in before) rules (left_in before)) e
    ∙ gives
    ∙ sym (ap (λ (rules : List GroupRuleText). placed_last after (part_of part)
    ∷ parts_given holds (source_of after) (open_in after) rules (left_in after)) (f ∙ e))

pub none-given-ok : {E : Type 0} (holds : List ℕ → List ℕ → Bool) (before after : SheetParts)
    (result : Result (Option Part) E)
    → given_in before ≡ [] → given_in after ≡ given_in before
    → IfOk result (λ part. GivesNext holds before part after)
    → IfOk result (λ part. GivesPart holds before part after)
none-given-ok holds before after (Ok part) e f gives = none-given holds before after part e f gives
none-given-ok holds before after (Err error) e f gives = tt
