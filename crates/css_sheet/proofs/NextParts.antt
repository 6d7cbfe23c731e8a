-- The next statement of a sheet, or of the contents of a group rule, in which a brace may be left.
-- Serves `reader::read_brace`, `SheetReader::{new, step}`.
use Rattle.std.proofs.Common.{◌≡◌, ℕ, ◌<◌, ◌≤◌, Bool, true, false, List, [], ◌∷◌, length, Option, Some, None, arith, refl, sym, ap, ◌∙◌, ◌==◌, eqb-true, zero, suc, if◌then◌else◌, ◌⊎◌, inl, inr}
use Rattle.std.specs.Option.{option_map}
use Rattle.css_text.specs.AsciiBytes.{close_brace}
use Rattle.css_text.specs.Bytes.{past_byte}
use Rattle.css_text.specs.Reading.{before, and_then, followed_by, up_to, each}
use Rattle.css_text.proofs.reading.EndsLemmas.{before-append}
use Rattle.css_text.proofs.reading.EachLemmas.{Shrinks, Takes, each-none, each-some, took}
use Rattle.css_syntax.specs.declared.quality.Fault.TheVariants.{StrayBracket}
use Rattle.css_syntax.specs.Tokens.{gap_part, past_gap}
use Rattle.css_syntax.specs.Statements.{SheetText, skipped_statement, rule_set_ends, statement, between_part, past_between, ends_block, next_statement, with_text}
use Rattle.css_syntax.specs.Contents.{contents_after, statement_contents}
use Rattle.css_syntax.specs.Placed.{placed_statement}
use Rattle.css_syntax.proofs.PartLemmas.{parts-rests}
use Rattle.css_syntax.proofs.ItemLemmas.{next_statement-takes}
use Rattle.css_syntax.proofs.PlacedSteps.{map-shrinks}
use Rattle.css_syntax.proofs.PlaceBounds.{between-within}
use Rattle.css_sheet.specs.SheetItems.{stray_brace, or_brace, next_part, next_placed_part, placed_parts}

-- where no statement is next, the text ends, or in a block a brace is next
pub no-statement : (in_block : Bool) (text : List ℕ) → next_statement in_block text ≡ None
    → ends_block in_block (past_between in_block text) ≡ true
unfolding next_statement
no-statement in_block text e = by (ends_block in_block (past_between in_block text)) e
  where
    by : (t : Bool) → (if t then None else Some (with_text (past_between in_block text)
        (statement in_block (past_between in_block text)))) ≡ None → t ≡ true
    by true f = refl
    by false f = absurd (cc)

-- a brace that is skipped is at the start
pub record StrayBrace (start : List ℕ) (part : SheetText) (rest : List ℕ) : Type 0 where
  pub brace : ℕ
  pub start_is : start ≡ brace ∷ rest
  pub part_is : part ≡ record { text = brace ∷ []; statement = skipped_statement StrayBracket }

pub next-cases : (in_block : Bool) (text rest : List ℕ) (p : SheetText)
    → next_part in_block text ≡ Some (p, rest)
    → (next_statement in_block text ≡ Some (p, rest))
    ⊎ StrayBrace (past_between in_block text) p rest
unfolding next_part
next-cases in_block text rest p e =
    by (next_statement in_block text) (past_between in_block text) e
  where
    by : (o : Option (SheetText × List ℕ)) (start : List ℕ) → or_brace start o ≡ Some (p, rest)
        → (o ≡ Some (p, rest)) ⊎ StrayBrace start p rest
    by (Some read) start f = inl f
    by None [] f = absurd (cc)
    by None (b ∷ left) f =
        let stray : SheetText =
        record { text = b ∷ []; statement = skipped_statement StrayBracket } in
        let both : (p, rest) ≡ (stray, left) = cc in
        inr (record {
          brace = b;
          start_is = ap (λ (r : SheetText × List ℕ). b ∷ r.1) (sym both);
          part_is = ap (λ (r : SheetText × List ℕ). r.0) both;
        })

pub next-none : (in_block : Bool) (text : List ℕ) → next_part in_block text ≡ None
    → past_between in_block text ≡ []
unfolding next_part
next-none in_block text e = by (next_statement in_block text) (past_between in_block text) e
  where
    by : (o : Option (SheetText × List ℕ)) (start : List ℕ) → or_brace start o ≡ None → start ≡ []
    by (Some read) start f = absurd (cc)
    by None [] f = refl
    by None (b ∷ left) f = absurd (cc)

next_part-takes : (in_block : Bool) → Takes (next_part in_block)
unfolding next_part
next_part-takes in_block text =
    by (next_statement in_block text) (next_statement-takes in_block text)
    (past_between in_block text) (between-within in_block text)
  where
    by : (o : Option (SheetText × List ℕ)) → Shrinks text o → (start : List ℕ)
        → length start ≤ length text → Shrinks text (or_brace start o)
    by (Some read) h start w = h
    by None h [] w = tt
    by None h (b ∷ left) w = omega arith

pub rest-less : (in_block : Bool) (text rest : List ℕ) (p : SheetText)
    → next_part in_block text ≡ Some (p, rest) → length rest < length text
rest-less in_block text rest p e =
    took (next_part in_block) (next_part-takes in_block) text rest p e

placed-takes : (in_block : Bool) → Takes (next_placed_part in_block)
unfolding next_placed_part
placed-takes in_block text =
    map-shrinks text (placed_statement (past_between in_block text)) (λ x i. x.1)
    (next_part in_block text) (next_part-takes in_block text)

pub placed-parts-some : (in_block : Bool) (text rest : List ℕ) (p : SheetText)
    → next_part in_block text ≡ Some (p, rest)
    → placed_parts in_block text
    ≡ record { part = p; from = past_between in_block text; after = rest }
    ∷ placed_parts in_block rest
unfolding placed_parts next_placed_part
placed-parts-some in_block text rest p e =
    ap (λ r. r.0) (each-some (next_placed_part in_block) (placed-takes in_block) text rest
    (record { part = p; from = past_between in_block text; after = rest })
    (ap (option_map (placed_statement (past_between in_block text))) e))

pub placed-parts-none : (in_block : Bool) (text : List ℕ) → next_part in_block text ≡ None
    → placed_parts in_block text ≡ []
unfolding placed_parts next_placed_part
placed-parts-none in_block text e =
    ap (λ r. r.0) (each-none (next_placed_part in_block) text
    (ap (option_map (placed_statement (past_between in_block text))) e))

-- ---- a brace that is skipped

-- in no block, nothing is left where no statement is next
pub nothing-left : (text : List ℕ) → next_statement false text ≡ None
    → past_between false text ≡ []
nothing-left text e = by (past_between false text) (no-statement false text e)
  where
    by : (start : List ℕ) → ends_block false start ≡ true → start ≡ []
    by [] f = refl
    by (b ∷ start) f = absurd (cc)

-- in a block, only blanks are between statements
part-same : (text : List ℕ) → between_part true text ≡ gap_part text
unfolding between_part gap_part
part-same [] = refl
part-same (b ∷ text) = refl

run-same : (n : ℕ) (text : List ℕ)
    → up_to n (between_part true) text ≡ up_to n gap_part text
run-same zero text = refl
run-same (suc n) text =
    ap (λ (o : Option (Unit {0} × List ℕ)). and_then text o (up_to n (between_part true)))
    (part-same text) ∙ others (λ rest. run-same n rest) (gap_part text)
  where
    others : ((rest : List ℕ) → up_to n (between_part true) rest ≡ up_to n gap_part rest)
        → (o : Option (Unit {0} × List ℕ))
        → and_then text o (up_to n (between_part true)) ≡ and_then text o (up_to n gap_part)
    others more None = refl
    others more (Some x) = ap (followed_by x.0) (more x.1)

pub between-gap : (text : List ℕ) → past_between true text ≡ past_gap text
unfolding each
between-gap text = ap (λ (r : List (Unit {0}) × List ℕ). r.1) (run-same (length text) text)

contents-brace : (rest : List ℕ)
    → statement_contents true (close_brace ∷ rest) ≡ close_brace ∷ rest
contents-brace rest =
    ap contents_after (parts-rests (rule_set_ends true) (close_brace ∷ rest) refl)

no-brace : (start : List ℕ) → start ≡ [] → stray_brace start ≡ None
no-brace start e = ap stray_brace e

pub no-brace-outside : (in_block : Bool) (text : List ℕ) → next_statement in_block text ≡ None
    → in_block ≡ false → stray_brace (past_between in_block text) ≡ None
no-brace-outside false text e h = no-brace (past_between false text) (nothing-left text e)
no-brace-outside true text e h = absurd (cc)

length-none : (text : List ℕ) → true ≡ (length text == 0) → text ≡ []
length-none [] h = refl
length-none (b ∷ text) h = absurd (omega (arith, eqb-true (length (b ∷ text)) 0 (sym h)))

pub no-brace-inside : (in_block : Bool) (text gap : List ℕ) → in_block ≡ true
    → gap ≡ past_gap text → true ≡ (length gap == 0)
    → stray_brace (past_between in_block text) ≡ None
no-brace-inside true text gap e g h =
    no-brace (past_between true text) (between-gap text ∙ sym g ∙ length-none gap h)
no-brace-inside false text gap e g h = absurd (cc)

-- What is read of a brace, by its text, and by what is left from it on and after it.
pub record BraceRead (in_block : Bool) (start front from rest : List ℕ) : Type 0 where
  pub read : stray_brace start
      ≡ Some (record { text = front; statement = skipped_statement StrayBracket }, rest)
  pub from_is : from ≡ start
  pub inside : from ≡ statement_contents in_block start

pub brace-read : (in_block : Bool) → in_block ≡ true → (text front from rest : List ℕ)
    → next_statement in_block text ≡ None → from ≡ past_gap text → false ≡ (length from == 0)
    → rest ≡ past_byte close_brace from → front ≡ before from rest
    → BraceRead in_block (past_between in_block text) front from rest
brace-read false n text front from rest e f some r t = absurd (cc)
brace-read true n text front from rest e f some r t =
    by (past_between true text) (f ∙ sym (between-gap text)) (no-statement true text e)
  where
    by : (start : List ℕ) → from ≡ start → ends_block true start ≡ true
        → BraceRead true start front from rest
    by [] same ends =
        absurd (let wrong : true ≡ false =
        ap (λ (t : List ℕ). length t == 0) (sym same) ∙ sym some in cc)
    by (b ∷ left) same ends =
        let brace : b ∷ left ≡ close_brace ∷ left =
        ap (λ (c : ℕ). c ∷ left) (eqb-true b close_brace ends) in
        let after : rest ≡ left = r ∙ ap (past_byte close_brace) (same ∙ brace) in
        let text_is : front ≡ b ∷ [] =
        t ∙ ap (λ (x : List ℕ). before x rest) same ∙ ap (before (b ∷ left)) after
        ∙ before-append (b ∷ []) left in
        record {
          read = sym (ap (λ (t : List ℕ). Some (a_brace t, rest)) text_is
              ∙ ap (λ (t : List ℕ). Some (a_brace (b ∷ []), t)) after);
          from_is = same;
          inside = same ∙ brace ∙ sym (contents-brace left)
              ∙ ap (statement_contents true) (sym brace);
        }
      where
        a_brace : List ℕ → SheetText
        a_brace text = record { text = text; statement = skipped_statement StrayBracket }
