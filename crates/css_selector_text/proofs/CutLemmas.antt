-- A list of selectors is cut at its commas.
-- Serves `reading_laws::cut_law`.
use Rattle.std.proofs.Common.{◌≡◌, ℕ, zero, suc, ◌≤◌, Bool, true, false, List, [], ◌∷◌, length, arith, refl, ap, ◌∙◌, subst}
use Rattle.std.specs.Prelude.{if◌then◌else◌}
use Rattle.css_text.specs.AsciiBytes.{comma}
use Rattle.css_text.specs.Bytes.{past_one, starts}
use Rattle.css_text.proofs.reading.EndsLemmas.{ends-ends, length-ends}
use Rattle.css_text.proofs.reading.GotLemmas.{starts-cons}
use Rattle.css_selector_text.specs.declared.reading.Start.{Start}
use Rattle.css_selector_text.specs.Components.{Placed}
use Rattle.css_selector_text.specs.reading.CutLists.{AreCut}
use Rattle.css_selector_text.specs.reading.Grammar.{at_end, next_placed, one_more, placed_by, placed_list_by}
use Rattle.css_selector_text.specs.reading.Readings.{got, follow, give, ◌>>=◌, ◌>>◌, Step, item, none, stop, as_item, with_first, go_on, items, items_up_to}
use Rattle.css_selector_text.proofs.round_trip.ReadEnds.{LeavesPlaced, placed-leaves}
use Rattle.css_selector_text.proofs.round_trip.ReadSimples.{made, first_of_all}
use Rattle.css_selector_text.proofs.round_trip.ReadingLemmas.{followed}
use Rattle.css_selector_text.specs.Names.{Names}

module _ (names : Names) (start : Start) where
  -- what is left after a selector is no longer than the text
  placed-within : (text : List ℕ) (p : Placed) (rest : List ℕ) → placed_by names start text ≡ got p rest
      → length rest ≤ length text
  placed-within text p rest h =
      let e = subst (LeavesPlaced text) h (placed-leaves names start text) in
      length-ends text rest (ends-ends text p.from rest e.0.0
      (ends-ends p.from p.element rest e.0.1 (ends-ends p.element p.to rest e.0.2 e.1)))

  -- a further selector is after a comma
  record Further (text : List ℕ) (p : Placed) (after : List ℕ) : Type 0 where
    rest : List ℕ
    comma_first : text ≡ comma ∷ rest
    reads : placed_by names start rest ≡ got p after

  further : (text : List ℕ) (p : Placed) (after : List ℕ) → next_placed names start text ≡ item p after
      → Further text p after
  unfolding next_placed
  further text p after h = by (starts comma text) refl h
    where
      by : (k : Bool) → starts comma text ≡ k
          → (if k then as_item (λ q. q) (placed_by names start (past_one text)) else none) ≡ item p after
          → Further text p after
      by false e k = absurd (cc)
      by true e k =
          let m = made (λ q. q) (placed_by names start (past_one text)) p after k in record {
            rest = past_one text;
            comma_first = starts-cons comma text e;
            reads = m.first ∙ ap (λ q. got q after) m.is;
          }

  no_further : next_placed names start [] ≡ none
  unfolding next_placed
  no_further = refl

  comma_further : (rest : List ℕ) (p : Placed) (after : List ℕ) → placed_by names start rest ≡ got p after
      → next_placed names start (comma ∷ rest) ≡ item p after
  unfolding next_placed
  comma_further rest p after h = ap (as_item (λ q. q)) h

  -- the first selector is the last
  only : (text : List ℕ) (p : Placed) (rest : List ℕ) (all : List Placed)
      → placed_by names start text ≡ got p rest → got [] rest ≡ got all [] → AreCut names start text (p ∷ all)
  only text p rest all h k =
      let nothing : [] ≡ all = cc in
      let ended : rest ≡ [] = cc in
      subst (λ others. AreCut names start text (p ∷ others)) nothing (h ∙ ap (got p) ended)

  cut : (n : ℕ) (text : List ℕ) (p : Placed) (rest : List ℕ) (all : List Placed)
      → placed_by names start text ≡ got p rest → items_up_to n (next_placed names start) rest ≡ got all []
      → AreCut names start text (p ∷ all)
  cut zero text p rest all h k = only text p rest all h k
  cut (suc n) text p rest all h k = by (next_placed names start rest) refl k (cut n)
    where
      by : (s : Step Placed) → next_placed names start rest ≡ s
          → go_on rest s (items_up_to n (next_placed names start)) ≡ got all []
          → ((text : List ℕ) (p : Placed) (rest : List ℕ) (all : List Placed)
          → placed_by names start text ≡ got p rest → items_up_to n (next_placed names start) rest ≡ got all []
          → AreCut names start text (p ∷ all))
          → AreCut names start text (p ∷ all)
      by none e k more = only text p rest all h k
      by (stop why after) e k more = absurd (cc)
      by (item q after) e k more =
          let f = first_of_all q (items_up_to n (next_placed names start) after) all [] k in
          let g = further rest q after e in
          subst (λ others. AreCut names start text (p ∷ others)) f.is
          (g.rest, h ∙ ap (got p) g.comma_first, more g.rest q after f.others g.reads f.reads)

  -- the first selector, and how the others are found after it
  record Joined (text : List ℕ) (p : Placed) (all : List Placed) : Type 0 where
    rest : List ℕ
    first : placed_by names start text ≡ got p rest
    others : (n : ℕ) → length rest ≤ n → items_up_to n (next_placed names start) rest ≡ got all []

  joined : (text : List ℕ) (p : Placed) (all : List Placed) → AreCut names start text (p ∷ all)
      → Joined text p all
  joined text p [] h = record { rest = []; first = h; others = λ n le. ended n }
    where
      ended : (n : ℕ) → items_up_to n (next_placed names start) [] ≡ got [] []
      ended zero = refl
      ended (suc n) =
          ap (λ s. go_on [] s (items_up_to n (next_placed names start))) no_further
  joined text p (q ∷ all) (rest, h, more) =
      let j = joined rest q all more in
      record { rest = comma ∷ rest; first = h; others = found j }
    where
      found : Joined rest q all → (n : ℕ) → length (comma ∷ rest) ≤ n
          → items_up_to n (next_placed names start) (comma ∷ rest) ≡ got (q ∷ all) []
      found j zero le = absurd (omega arith)
      found j (suc n) le =
          let within = placed-within rest q j.rest j.first in
          ap (λ s. go_on (comma ∷ rest) s (items_up_to n (next_placed names start)))
          (comma_further rest q j.rest j.first)
          ∙ ap (with_first q) (j.others n (omega (arith, within, le)))

  pub list_cut : (text : List ℕ) (all : List Placed) → placed_list_by names start text ≡ got all []
      → AreCut names start text all
  unfolding placed_list_by
  list_cut text all h =
      let f = followed (placed_by names start text) (λ first.
      one_more first (items (next_placed names start)) >>= λ all. at_end >> give all) all [] h in
      let g = followed (with_first f.value (items (next_placed names start) f.middle))
      (λ all. at_end >> give all) all [] f.second in
      let ended = end_read g.value g.middle all g.second in
      let i = first_of_all f.value (items (next_placed names start) f.middle) g.value g.middle g.first in
      subst (AreCut names start text) (i.is ∙ ended.0)
      (cut (length f.middle) text f.value f.middle i.others f.first
      (i.reads ∙ ap (got i.others) ended.1))
    where
      end_read : (found : List Placed) (rest : List ℕ) (all : List Placed)
          → follow (at_end rest) (λ x. give found) ≡ got all [] → (found ≡ all) × (rest ≡ [])
      end_read found [] all h = (cc, refl)
      end_read found (b ∷ rest) all h = absurd (cc)

  pub cut_list : (text : List ℕ) (all : List Placed) → AreCut names start text all
      → placed_list_by names start text ≡ got all []
  unfolding placed_list_by
  cut_list text [] h = absurd h
  cut_list text (p ∷ all) h =
      let j = joined text p all h in
      let others = j.others (length j.rest) (omega arith) in
      ap (λ r. follow r (λ first. one_more first (items (next_placed names start)) >>= λ all.
      at_end >> give all)) j.first
      ∙ ap (λ r. follow (with_first p r) (λ all. at_end >> give all)) others
