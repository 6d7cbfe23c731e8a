-- The texts of an element's declarations that are in no rule, among those of all.
-- Serves `contents::{text_at, own_at}`.
use Rattle.std.proofs.Common.{◌≡◌, ℕ, ◌<◌, ◌≤◌, ◌+◌, ◌*◌, List, [], length, map, get_or, Some, inl, inr, sym, ap, ◌∙◌, arith, option_map}
use Rattle.std.specs.Borrow.{Bor}
use Rattle.std.proofs.lemmas.Option.{slice_get-map, slice_get-get_or, slice_get_cases}
use Rattle.css_styles.specs.Contenders.{OwnText}
use Rattle.simplecss_calls.specs.WinnerNumbers.{or_empty, own_at, text_at}

abbrev now_of : Bor (List ℕ) → List ℕ
now_of text = text.now

pub text-some : (all : List (Bor (List ℕ))) (number : ℕ) (text d : Bor (List ℕ)) → number < length all
    → text ≡ get_or all number d → text.now ≡ text_at (map (λ t. t.now) all) number
text-some all number text d within is =
    sym (ap or_empty (slice_get-map now_of all number
    ∙ ap (option_map now_of) (slice_get-get_or all number d within ∙ ap Some (sym is))))

pub text-none : (all : List (Bor (List ℕ))) (number : ℕ) → length all ≤ number
    → [] ≡ text_at (map (λ t. t.now) all) number
text-none all number past = elim (slice_get_cases all number).1 [
  | inl h ↦ absurd (let within = h.1 in omega (arith, within, past))
  | inr h ↦ sym (ap or_empty (slice_get-map now_of all number ∙ ap (option_map now_of) h.1))
]

abbrev with : List ℕ → List ℕ → OwnText
with style presentation = record { style = style; presentation = presentation }

pub own-both : (texts : List (List ℕ)) (index : ℕ) (style presentation : List ℕ)
    → style ≡ text_at texts (2 * index) → presentation ≡ text_at texts (2 * index + 1)
    → with style presentation ≡ own_at texts index
own-both texts index style presentation first second =
    ap (λ s. with s presentation) first
    ∙ ap (λ p. with (text_at texts (2 * index)) p) second

pub own-none : (all : List (Bor (List ℕ))) (index : ℕ) → length all ≤ index
    → with [] [] ≡ own_at (map (λ t. t.now) all) index
own-none all index past =
    own-both (map (λ t. t.now) all) index [] [] (text-none all (2 * index) (omega (arith, past)))
    (text-none all (2 * index + 1) (omega (arith, past)))
