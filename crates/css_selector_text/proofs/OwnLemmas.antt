-- A selector reads as itself from where it begins.
-- Serves `reading_laws::own_law`.
use Rattle.std.proofs.Common.{◌≡◌, ℕ, Bool, false, List, [], refl, ap, ◌∙◌, subst}
use Rattle.css_text.specs.Comments.{blank, gap as gap_before}
use Rattle.css_text.specs.Reading.{Reading as TextReading, each, got as text_got, fails as text_fails}
use Rattle.css_text.proofs.bytes.GapLemmas.{gap-again}
use Rattle.css_selector_text.specs.declared.reading.Start.{Start}
use Rattle.css_selector_text.specs.Components.{Placed}
use Rattle.css_selector_text.specs.reading.Grammar.{closed_gap, gap, past_comments, placed_as, placed_by, pseudo_element, start_parts}
use Rattle.css_selector_text.specs.reading.Readings.{Reading, got, refused, follow}
use Rattle.css_selector_text.proofs.round_trip.ReadEnds.{follow-holds, gap-leaves, pseudo_element-leaves, start-leaves}
use Rattle.css_selector_text.specs.reading.Defaults.{in_default}
use Rattle.css_selector_text.specs.Names.{Names}

nothing_there : closed_gap (gap_before []) ≡ got false []
unfolding gap_before blank each
nothing_there = refl

-- where a gap ends there is none
no_gap_after : (text : List ℕ) (spaced : Bool) (from : List ℕ) → gap text ≡ got spaced from
    → gap from ≡ got false from
unfolding gap
no_gap_after text spaced from h = by (gap_before text) refl h
  where
    by : (r : TextReading Bool) → gap_before text ≡ r → closed_gap r ≡ got spaced from
        → closed_gap (gap_before from) ≡ got false from
    by (text_got s rest) e k =
        let same : rest ≡ from = cc in
        subst (λ x. closed_gap (gap_before x) ≡ got false x) same
        (ap closed_gap (gap-again text rest s e))
    by (text_fails fault rest) e k =
        let same : [] ≡ from = cc in
        subst (λ x. closed_gap (gap_before x) ≡ got false x) same nothing_there

-- the selector that was read begins there
abbrev BeginsAt : List ℕ → Reading Placed → Type 0
BeginsAt from (got p rest) = p.from ≡ from
BeginsAt from (refused why rest) = Unit {0}

pub own : (names : Names) (start : Start) (text : List ℕ) (p : Placed) (rest : List ℕ)
    → placed_by names start text ≡ got p rest → placed_by names start p.from ≡ got p rest
unfolding placed_by
own names start text p rest h = by (gap text) refl h
  where
    begins : (from : List ℕ) → BeginsAt from (follow (start_parts names start from) (λ all end.
        follow (pseudo_element names (past_comments end)) (λ element after.
        follow (gap after) (λ spaced rest.
        got (placed_as (in_default names.default_namespace all) element from end (past_comments end) after) rest))))
    begins from =
        follow-holds (BeginsAt from) from (start_parts names start from) _ (λ why rest. tt)
        (start-leaves names start from) (λ all end f.
        follow-holds (BeginsAt from) (past_comments end) (pseudo_element names (past_comments end)) _
        (λ why rest. tt) (pseudo_element-leaves names (past_comments end)) (λ element after g.
        follow-holds (BeginsAt from) after (gap after) _ (λ why rest. tt) (gap-leaves after)
        (λ spaced rest k. refl)))

    by : (r : Reading Bool) → gap text ≡ r → follow r (λ spaced from.
        follow (start_parts names start from) (λ all end.
        follow (pseudo_element names (past_comments end)) (λ element after.
        follow (gap after) (λ spaced rest.
        got (placed_as (in_default names.default_namespace all) element from end (past_comments end) after) rest)))) ≡ got p rest
        → placed_by names start p.from ≡ got p rest
    by (refused why t) e k = absurd (cc)
    by (got spaced from) e k =
        let at : p.from ≡ from = subst (BeginsAt from) k (begins from) in
        ap (placed_by names start) at
        ∙ ap (λ r. follow r (λ spaced from. follow (start_parts names start from) (λ all end.
        follow (pseudo_element names (past_comments end)) (λ element after.
        follow (gap after) (λ spaced rest.
        got (placed_as (in_default names.default_namespace all) element from end (past_comments end) after) rest)))))
        (no_gap_after text spaced from e)
        ∙ k
