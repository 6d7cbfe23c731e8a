-- The parts of a sheet that is cut before an `@`: those of its front, and then those of its rest.
-- Serves `cutting_law`.
use Rattle.std.proofs.Common.{◌≡◌, ℕ, zero, suc, ◌<◌, ◌≤◌, ◌-◌, Bool, List, [], ◌∷◌, ◌++◌, length, length-append, map, Some, None, arith, refl, sym, ap, subst, ◌∙◌, ◌⊎◌, inl, inr}
use Rattle.css_text.specs.AsciiBytes.{at_sign}
use Rattle.css_text.proofs.reading.EachLemmas.{option_cases}
use Rattle.css_syntax.specs.Statements.{past_between}
use Rattle.css_sheet.specs.SheetParts.{Nesting, OpenText, PlacedPart, SheetPart, Source, begins, ends, from_part, is_more_open, nested, nesting_of, next_by, next_in, next_inside, open_after, outside, parts_in, past_before, place_at, placed_part, stands, states, within}
use Rattle.css_sheet.proofs.PartSteps.{parts-none, parts-some, took}
use Rattle.sheet_laws.specs.Cutting.{before_rest, front_of}
use Rattle.sheet_laws.proofs.CutParts.{HasCut, InFront, at-cut, cut-up, from-as, next-as, next-front, none-front}
use Rattle.sheet_laws.proofs.CutStyles.{AfterStates, NextLong, inside-front, inside-no_item, next-long}

-- something is in a style rule
abbrev IsInside : List OpenText → Type 0
IsInside around = nesting_of around ≡ outside → ⊥

as-inside : (depth : ℕ) (around : List OpenText) (text : List ℕ) → IsInside around
    → next_in depth around text ≡ next_inside text
unfolding next_in
as-inside depth around text n = by (nesting_of around) refl
  where
    by : (k : Nesting) → nesting_of around ≡ k → next_by k (is_more_open depth around) text ≡ next_inside text
    by outside e = absurd (n e)
    by (within prelude) e = refl
    by nested e = refl

any-front : (t : List ℕ) (depth : ℕ) (around : List OpenText) (s : List ℕ) (part : SheetPart) (rest : List ℕ)
    → next_in depth around (s ++ at_sign ∷ t) ≡ Some (part, rest) → length t < length rest
    → (IsInside around → AfterStates t part rest)
    → InFront t (next_in depth around s) part rest
    × (from_part depth around (s ++ at_sign ∷ t) ≡ from_part depth around s ++ at_sign ∷ t)
unfolding next_in
any-front t depth around s part rest e long next = by (nesting_of around) refl e
  where
    in_block : Bool
    in_block = is_more_open depth around

    by : (k : Nesting) → nesting_of around ≡ k → next_by k in_block (s ++ at_sign ∷ t) ≡ Some (part, rest)
        → InFront t (next_by k in_block s) part rest
        × (past_before k in_block (s ++ at_sign ∷ t) ≡ past_before k in_block s ++ at_sign ∷ t)
    by outside f h = next-front t in_block s part rest h long
    by (within prelude) f h =
        inside-front t s part rest h long (next (λ g. let wrong : outside ≡ within prelude = sym g ∙ f in cc))
    by nested f h =
        inside-front t s part rest h long (next (λ g. let wrong : outside ≡ nested = sym g ∙ f in cc))

module _ (t : List ℕ) (holds : List ℕ → List ℕ → Bool) (source : Source) (top : List OpenText) where
  abbrev in_source : List OpenText → List ℕ → List PlacedPart
  in_source around text = parts_in holds source around text

  abbrev in_front : List OpenText → List ℕ → List PlacedPart
  in_front around text = parts_in holds (front_of source (at_sign ∷ t)) around text

  abbrev Cut : List PlacedPart → Type 0
  Cut parts = HasCut t holds source top parts

  -- in a style rule a part is next that ends before the cut
  next-after : (around : List OpenText) (rest : List ℕ) → IsInside around → Cut (in_source around rest)
      → NextLong t rest
  next-after around rest n c = by (option_cases (next_in source.depth around rest))
    where
      by : (next_in source.depth around rest ≡ None)
          ⊎ ((x : SheetPart × List ℕ) × (next_in source.depth around rest ≡ Some x)) → NextLong t rest
      by (inl none) = absurd (subst Cut (parts-none holds source around rest none) c)
      by (inr found) = there (subst Cut (parts-some holds source around after rest left part found.1 refl) c)
        where
          part : SheetPart
          part = found.0.0

          left : List ℕ
          left = found.0.1

          after : List OpenText
          after = open_after holds around part (place_at source left)

          next : next_inside rest ≡ Some (part, left)
          next = sym (as-inside source.depth around rest n) ∙ found.1

          there : Cut (placed_part source (from_part source.depth around rest) part after left ∷ in_source after left)
              → NextLong t rest
          there (inl here) =
              absurd (inside-no_item t rest here.0.0 left
              (next ∙ ap (λ (p : SheetPart). Some (p, left)) here.0.1))
          there (inr later) =
              next-long t rest part left next (cut-up t holds source top (length left) after left (omega arith) later)

  after-states : (around : List OpenText) (part : SheetPart) (place rest : List ℕ) → IsInside around
      → Cut (in_source (open_after holds around part place) rest) → AfterStates t part rest
  after-states around (states text) place rest n c = next-after around rest n c
  after-states around (begins kind) place rest n c = tt
  after-states around ends place rest n c = tt
  after-states around (stands item) place rest n c = tt

  abbrev pub Split : List OpenText → List ℕ → Type 0
  Split around s =
      Cut (in_source around (s ++ at_sign ∷ t))
      → in_source around (s ++ at_sign ∷ t)
      ≡ map (before_rest (at_sign ∷ t)) (in_front around s) ++ in_source top (at_sign ∷ t)

  split-step : nesting_of top ≡ outside → (s : List ℕ)
      → ((r : List ℕ) → length r < length s → (around : List OpenText) → Split around r)
      → (around : List OpenText) → Split around s
  split-step top_outside s more around c = by (option_cases (next_in source.depth around W))
    where
      W : List ℕ
      W = s ++ at_sign ∷ t

      in_block : Bool
      in_block = is_more_open source.depth around

      front : Source
      front = front_of source (at_sign ∷ t)

      Goal : Type 0
      Goal = in_source around W ≡ map (before_rest (at_sign ∷ t)) (in_front around s) ++ in_source top (at_sign ∷ t)

      by : (next_in source.depth around W ≡ None)
          ⊎ ((x : SheetPart × List ℕ) × (next_in source.depth around W ≡ Some x)) → Goal
      by (inl none) = absurd (subst Cut (parts-none holds source around W none) c)
      by (inr found) = cut (subst Cut all c)
        where
          part : SheetPart
          part = found.0.0

          rest : List ℕ
          rest = found.0.1

          after : List OpenText
          after = open_after holds around part (place_at source rest)

          all : in_source around W
              ≡ placed_part source (from_part source.depth around W) part after rest ∷ in_source after rest
          all = parts-some holds source around after W rest part found.1 refl

          cut : Cut (placed_part source (from_part source.depth around W) part after rest ∷ in_source after rest)
              → Goal
          cut (inl here) =
              let is_top : around ≡ top =
              sym (ap (λ (p : SheetPart). open_after holds around p (place_at source rest)) here.0.1) ∙ here.2 in
              let nest : nesting_of around ≡ outside = ap nesting_of is_top ∙ top_outside in
              let between : past_between in_block W ≡ at_sign ∷ t =
              sym (from-as source.depth around W nest) ∙ here.1 in
              let front_none : in_front around s ≡ [] =
              parts-none holds front around s
              (next-as source.depth around s nest ∙ none-front t in_block s between) in
              let cutting = at-cut t in_block s between in
              let same_from : from_part source.depth around W ≡ from_part source.depth around (at_sign ∷ t) =
              here.1 ∙ sym (from-as source.depth around (at_sign ∷ t) nest ∙ cutting.0) in
              let same_next : next_in source.depth around (at_sign ∷ t) ≡ Some (part, rest) =
              next-as source.depth around (at_sign ∷ t) nest ∙ sym cutting.1
              ∙ sym (next-as source.depth around W nest) ∙ found.1 in
              all
              ∙ ap (λ (f : List ℕ). placed_part source f part after rest ∷ in_source after rest) same_from
              ∙ sym (parts-some holds source around after (at_sign ∷ t) rest part same_next refl)
              ∙ ap (λ (a : List OpenText). in_source a (at_sign ∷ t)) is_top
              ∙ sym (ap (λ (f : List PlacedPart). map (before_rest (at_sign ∷ t)) f ++ in_source top (at_sign ∷ t))
              front_none)
          cut (inr later) =
              let long = cut-up t holds source top (length rest) after rest (omega arith) later in
              let in_front_of = any-front t source.depth around s part rest found.1 long
              (λ n. after-states around part (place_at source rest) rest n later) in
              let left = in_front_of.0.0 in
              let next = in_front_of.0.1 in
              let rest_is = in_front_of.0.2 in
              let offset : source.size - length rest ≡ (source.size - length (at_sign ∷ t)) - length left =
              omega (arith, ap length rest_is, length-append left (at_sign ∷ t)) in
              let after_is : after ≡ open_after holds around part (place_at front left) =
              ap (λ (k : ℕ). open_after holds around part (source.sheet ∷ k ∷ [])) offset in
              let fronts = parts-some holds front around after s left part next after_is in
              let last = more left (took source.depth around s left part next) after
              (subst (λ (z : List ℕ). Cut (in_source after z)) rest_is later) in
              let one : List ℕ → ℕ → PlacedPart = λ f k. record {
                part = part;
                from = f;
                around = after;
                names = source.names;
                sheet = source.sheet;
                end = k;
              } in
              let placed : placed_part source (from_part source.depth around W) part after rest
              ≡ before_rest (at_sign ∷ t) (placed_part front (from_part source.depth around s) part after left) =
              ap (λ (f : List ℕ). one f (source.size - length rest)) in_front_of.1
              ∙ ap (one (from_part source.depth around s ++ at_sign ∷ t)) offset in
              all
              ∙ ap (λ (p : PlacedPart). p ∷ in_source after rest) placed
              ∙ ap (λ (z : List ℕ). before_rest (at_sign ∷ t)
              (placed_part front (from_part source.depth around s) part after left) ∷ in_source after z) rest_is
              ∙ ap (λ (ps : List PlacedPart). before_rest (at_sign ∷ t)
              (placed_part front (from_part source.depth around s) part after left) ∷ ps) last
              ∙ sym (ap (λ (f : List PlacedPart). map (before_rest (at_sign ∷ t)) f ++ in_source top (at_sign ∷ t))
              fronts)

  split-up : nesting_of top ≡ outside → (n : ℕ) (s : List ℕ) → length s ≤ n → (around : List OpenText)
      → Split around s
  split-up top_outside zero s small = split-step top_outside s (λ r less. absurd (omega (arith, less, small)))
  split-up top_outside (suc n) s small =
      split-step top_outside s (λ r less. split-up top_outside n r (omega (arith, less, small)))

  pub whole-split : nesting_of top ≡ outside → (s : List ℕ) (around : List OpenText) → Split around s
  whole-split top_outside s = split-up top_outside (length s) s (omega arith)
