-- The selectors of a list that are kept, by a loop over its parts, and the rest after a part.
-- Serves `compounds`.
use Rattle.std.proofs.Common.{◌≡◌, ℕ, ◌-◌, ◌<◌, Bool, true, false, List, [], ◌∷◌, ◌++◌, length, Option, Some, None, refl, sym, ap, ◌∙◌, arith}
use Rattle.std.specs.Prelude.{if◌then◌else◌}
use Rattle.std.specs.Option.{option_to_list}
use Rattle.css_text.proofs.reading.EachLemmas.{Takes, Shrinks}
use Rattle.css_syntax.specs.ComponentValues.{deepest as deepest_brackets, component_value}
use Rattle.css_syntax.proofs.OpenBlocks.{value-within}
use Rattle.css_syntax.proofs.Shorter.{each-goes, each-rests}
use Rattle.css_selector_text.specs.declared.refusal.Why.{Why}
use Rattle.css_selector_text.specs.Components.{Part}
use Rattle.css_selector_text.specs.reading.Grammar.{keep, ends_part, part_value, past_part}
use Rattle.css_selector_text.specs.reading.Readings.{Reading, got, refused, Step, item, none, stop, with_first, items_up_to, found_before}
use Rattle.css_selector_text.proofs.ItemLemmas.{found_end, found_refused, stepped}

-- ---- selectors that are kept

pub kept_first : (o : Option (List Part)) (r : Reading (List (Option (List Part))))
    → found_before (option_to_list o) (keep r) ≡ keep (with_first o r)
kept_first None (got os rest) = refl
kept_first None (refused why rest) = refl
kept_first (Some s) (got os rest) = refl
kept_first (Some s) (refused why rest) = refl

pub kept_init : (ys xs : List (List Part)) (o : Option (List Part))
    (r : Reading (List (Option (List Part)))) → xs ≡ ys ++ option_to_list o → ys ≡ []
    → found_before xs (keep r) ≡ keep (with_first o r)
kept_init ys xs o r e empty =
    ap (λ l. found_before l (keep r)) (e ∙ ap (λ l. l ++ option_to_list o) empty) ∙ kept_first o r

found_more : {A : Type 0} (xs ys : List A) (r : Reading (List A))
    → found_before (xs ++ ys) r ≡ found_before xs (found_before ys r)
found_more [] ys r = refl
found_more (x ∷ xs) ys r = ap (with_first x) (found_more xs ys r)

module _ (read : List ℕ → Step (Option (List Part))) (xs : List (List Part)) where
  pub kept_item : (o : Option (List Part)) (n : ℕ) (rest after : List ℕ)
      (all : Reading (List (List Part))) → 0 < n → item o after ≡ read rest
      → found_before xs (keep (items_up_to n read rest)) ≡ all
      → found_before (xs ++ option_to_list o) (keep (items_up_to (n - 1) read after)) ≡ all
  kept_item o n rest after all some e so_far =
      found_more xs (option_to_list o) (keep (items_up_to (n - 1) read after))
      ∙ ap (found_before xs) (kept_first o (items_up_to (n - 1) read after)
      ∙ ap keep (sym (stepped read n rest (item o after) some e)))
      ∙ so_far

  pub kept_none : (n : ℕ) (rest : List ℕ) (all : Reading (List (List Part))) → 0 < n
      → none ≡ read rest → found_before xs (keep (items_up_to n read rest)) ≡ all
      → got xs rest ≡ all
  kept_none n rest all some e so_far =
      sym (found_end xs rest)
      ∙ ap (λ r. found_before xs (keep r)) (sym (stepped read n rest none some e)) ∙ so_far

  pub kept_over : (n : ℕ) (rest : List ℕ) (all : Reading (List (List Part))) → n ≡ 0
      → found_before xs (keep (items_up_to n read rest)) ≡ all → got xs rest ≡ all
  kept_over n rest all e so_far =
      sym (found_end xs rest)
      ∙ ap (λ m. found_before xs (keep (items_up_to m read rest))) (sym e) ∙ so_far

  pub kept_stop : (n : ℕ) (rest : List ℕ) (why : Why) (s : List ℕ)
      (all : Reading (List (List Part))) → 0 < n → stop why s ≡ read rest
      → found_before xs (keep (items_up_to n read rest)) ≡ all → refused why s ≡ all
  kept_stop n rest why s all some e so_far =
      sym (found_refused xs why s)
      ∙ ap (λ r. found_before xs (keep r)) (sym (stepped read n rest (stop why s) some e))
      ∙ so_far

-- ---- the rest after a part

value_less : (text : List ℕ) → ends_part text ≡ false
    → length (component_value deepest_brackets text).1 < length text
value_less [] h = absurd (cc)
value_less (b ∷ text) h = let less = value-within deepest_brackets b text in omega (arith, less)

part_shrinks : (text : List ℕ) (t : Bool) → ends_part text ≡ t
    → Shrinks {A = Unit {0}} text
    (if t then None else Some (tt, (component_value deepest_brackets text).1))
part_shrinks text true h = tt
part_shrinks text false h = value_less text h

part_value-takes : Takes part_value
part_value-takes text = part_shrinks text (ends_part text) refl

pub part_goes : (text : List ℕ) → ends_part text ≡ false
    → past_part (component_value deepest_brackets text).1 ≡ past_part text
unfolding past_part
part_goes text h = each-goes part_value part_value-takes text _ tt (rw h refl)

pub part_less : (text : List ℕ) → ends_part text ≡ false
    → length (component_value deepest_brackets text).1 < length text
part_less text h = value_less text h

pub part_rests : (text : List ℕ) → ends_part text ≡ true → past_part text ≡ text
unfolding past_part
part_rests text h = each-rests part_value text (rw h refl)
