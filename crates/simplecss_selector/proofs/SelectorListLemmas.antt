-- Lists of selectors, item by item.
-- Serves `Selector::read_list`.
use Rattle.std.proofs.Common.{◌≡◌, ◌<◌, ◌≤◌, ◌∷◌, [], ◌++◌, ◌∙◌, ℕ, List, Bool, true, false, length, Option, Some, None, arith, refl, ap, sym, subst, if◌then◌else◌, ◌==◌}
use Rattle.std.specs.Option.{option_map}
use Rattle.css_text.specs.AsciiBytes.{comma}
use Rattle.css_text.specs.Bytes.{past, past_one, starts}
use Rattle.css_text.specs.Characters.{Edition, is_space}
use Rattle.simplecss_grammar.specs.Components.{Component}
use Rattle.css_text.specs.Reading.{each}
use Rattle.simplecss_grammar.specs.Selectors.{reads}
use Rattle.simplecss_grammar.specs.Skipped.{Refusal, after_selector, refusal, refused_part, selector_skips}
use Rattle.css_text.proofs.reading.EachLemmas.{Shrinks, Takes, took, Done, done_step, done_end, each-none, each-some}
use Rattle.simplecss_grammar.proofs.reading.WithinLemmas.{length-reads}
use Rattle.simplecss_grammar.proofs.skipped.CutUps.{IsDecided, selector-decided}
use Rattle.simplecss_selector.specs.SelectorLists.{before_comma, item_and_comma, last_item, at_end, list_of, left_over, list_skips}

module _ (edition : Edition) where
  item-takes : Takes (item_and_comma edition)
  item-takes text = by (reads edition text).0 (reads edition text).1 (length-reads edition text)
    where
      by : (s : Option (List Component)) (rest : List ℕ) → length rest ≤ length text
          → Shrinks text (before_comma s rest)
      by None rest h = tt
      by (Some s) [] h = tt
      by (Some s) (b ∷ rest) h = with_comma (b == comma)
        where
          with_comma : (t : Bool) → Shrinks text (if t then Some (s, rest) else None)
          with_comma true = omega arith
          with_comma false = tt

  pub not_ended : (s : List Component) (rest : List ℕ) → (rest ≡ [] → ⊥) → at_end (Some s) rest ≡ None
  not_ended s [] h = absurd (h refl)
  not_ended s (b ∷ rest) h = refl

  pub left : (s : List Component) (rest : List ℕ) → (rest ≡ [] → ⊥) → left_over (Some s) rest
      ≡ record { from = rest; after = []; why = after_selector } ∷ []
  left s [] h = absurd (h refl)
  left s (b ∷ rest) h = refl

  pub no_comma : (s : List Component) (rest : List ℕ) → starts comma rest ≡ false
      → before_comma (Some s) rest ≡ None
  no_comma s rest h = ap (λ (t : Bool). if t then Some (s, past_one rest) else None) h

  -- a selector that is read skips nothing
  pub selector_skips-none : (text : List ℕ) (s : List Component)
      → (reads edition text).0 ≡ Some s → selector_skips edition text ≡ []
  unfolding selector_skips
  selector_skips-none text s e =
      ap (refused_part text (past is_space (reads edition text).1))
      (by (refusal edition text)
      (subst (λ (o : Option (List Component)). IsDecided o (refusal edition text)) e
      (selector-decided edition text)))
    where
      by : (r : Option Refusal) → IsDecided (Some s) r → r ≡ None
      by None h = refl
      by (Some r) h = absurd h

  module _ (text here rest : List ℕ) (front : List (List Component))
      (done : Done (item_and_comma edition) front here text)
      (rest_is : rest ≡ (reads edition here).1) where
    -- an item and a comma
    found : (s : List Component) → (reads edition here).0 ≡ Some s → starts comma rest ≡ true
        → item_and_comma edition here ≡ Some (s, past_one rest)
    found s is occurs =
        ap (λ (o : Option (List Component)). before_comma o (reads edition here).1) is
        ∙ ap (before_comma (Some s)) (sym rest_is)
        ∙ ap (λ (t : Bool). if t then Some (s, past_one rest) else None) occurs

    pub item-less : (s : List Component) → (reads edition here).0 ≡ Some s
        → starts comma rest ≡ true → length (past_one rest) < length here
    item-less s is occurs =
        took (item_and_comma edition) item-takes here (past_one rest) s (found s is occurs)

    pub item-more : (s : List Component) → (reads edition here).0 ≡ Some s
        → starts comma rest ≡ true
        → Done (item_and_comma edition) (front ++ s ∷ []) (past_one rest) text
    item-more s is occurs =
        done_step (item_and_comma edition) front here text (past_one rest) s
        (each-some (item_and_comma edition) item-takes here (past_one rest) s (found s is occurs))
        done

    -- where no item and comma is found, this is the last item
    ended : (o : Option (List Component)) → (reads edition here).0 ≡ o
        → before_comma o rest ≡ None → each (item_and_comma edition) text ≡ (front, here)
    ended o is none =
        done_end (item_and_comma edition) front here text
        (each-none (item_and_comma edition) here
        (ap (λ (o : Option (List Component)). before_comma o (reads edition here).1) is
        ∙ ap (before_comma o) (sym rest_is) ∙ none)) done

    module _ (o : Option (List Component)) (is : (reads edition here).0 ≡ o)
        (none : before_comma o rest ≡ None) where
      pub list-ends : list_of edition text
          ≡ option_map (λ last. front ++ last ∷ []) (at_end o rest)
      unfolding list_of
      list-ends =
          ap (λ (r : List (List Component) × List ℕ). option_map (λ last. r.0 ++ last ∷ [])
          (at_end (reads edition r.1).0 (reads edition r.1).1)) (ended o is none)
          ∙ ap (λ (o : Option (List Component)). option_map (λ last. front ++ last ∷ [])
          (at_end o (reads edition here).1)) is
          ∙ ap (λ (t : List ℕ). option_map (λ last. front ++ last ∷ []) (at_end o t)) (sym rest_is)

      -- the last item begins here
      pub last-is : last_item edition text ≡ here
      last-is = ap (λ (r : List (List Component) × List ℕ). r.1) (ended o is none)

      -- and this is left after it
      pub left-is : (reads edition (last_item edition text)).1 ≡ rest
      left-is = ap (λ (t : List ℕ). (reads edition t).1) last-is ∙ sym rest_is

      pub skips-end : list_skips edition text ≡ selector_skips edition here ++ left_over o rest
      unfolding list_skips
      skips-end =
          ap (λ (r : List (List Component) × List ℕ). selector_skips edition r.1
          ++ left_over (reads edition r.1).0 (reads edition r.1).1) (ended o is none)
          ∙ ap (λ (o : Option (List Component)). selector_skips edition here
          ++ left_over o (reads edition here).1) is
          ∙ ap (λ (t : List ℕ). selector_skips edition here ++ left_over o t) (sym rest_is)
