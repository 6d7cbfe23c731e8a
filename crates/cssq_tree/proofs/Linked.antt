-- The lines that are linked to their parents.
-- Serves `tree::{link, nearest}` (a line finds its parent and its previous sibling).
use Rattle.std.proofs.Common.{◌≡◌, ℕ, ◌<◌, ◌≤◌, List, length, get_or, sym, ◌∙◌, subst, arith, Option, None, Some}
use Rattle.std.specs.Prelude.{nat_le}
use Rattle.std.proofs.lemmas.List.{length-map, get_or-map}
use Rattle.std.proofs.lemmas.Option.{slice_get-get_or}
use Rattle.cssq_tree.specs.declared.tree.Line.{Line}
use Rattle.cssq_tree.specs.ParentsAndSiblings.{last_index}
use Rattle.cssq_tree.specs.internal.EntryLines.{depths, AreLinked}
use Rattle.cssq_tree.specs.internal.LastIndices.{IsCandidate, steps_left, parent_candidate, some_last, none_last}

module _ (lines : List Line) (i : ℕ) (d : Line) (within : i < length lines) where
  pub depth_at : get_or (depths lines) i 0 ≡ (get_or lines i d).entry.depth
  depth_at = get_or-map (λ l. l.entry.depth) lines i d 0 within

within_lines : (lines : List Line) (depth i : ℕ) → IsCandidate (depths lines) depth (Some i)
    → i < length lines
within_lines lines depth i candidate =
    let lt = candidate.0 in
    rw (length-map lines (λ l. l.entry.depth)) at lt

pub next_candidate : (lines : List Line) (depth i : ℕ) (d : Line) (candidate : Option ℕ)
    → AreLinked lines → candidate ≡ Some i → IsCandidate (depths lines) depth candidate
    → depth < (get_or lines i d).entry.depth
    → IsCandidate (depths lines) depth (get_or lines i d).parent
    × (steps_left (get_or lines i d).parent < steps_left candidate)
next_candidate lines depth i d candidate linked is before above =
    let here : IsCandidate (depths lines) depth (Some i) =
    subst (IsCandidate (depths lines) depth) is before in
    let within = within_lines lines depth i here in
    let deep : depth < get_or (depths lines) i 0 = omega (arith, depth_at lines i d within) in
    let found = parent_candidate (depths lines) depth i here deep (get_or lines i d).parent
    (linked i (get_or lines i d) (slice_get-get_or lines i d within)).0 in
    (found.0, subst (λ r. steps_left (get_or lines i d).parent < steps_left r) (sym is) found.1)

pub last_found : (lines : List Line) (depth i : ℕ) (d : Line) (candidate : Option ℕ)
    → candidate ≡ Some i → IsCandidate (depths lines) depth candidate
    → (get_or lines i d).entry.depth ≤ depth
    → Some i ≡ last_index (λ d. nat_le d depth) (depths lines)
last_found lines depth i d candidate is before le =
    let here : IsCandidate (depths lines) depth (Some i) =
    subst (IsCandidate (depths lines) depth) is before in
    some_last (depths lines) depth i here
    (omega (arith, depth_at lines i d (within_lines lines depth i here)))

pub none_found : (lines : List Line) (depth : ℕ) (candidate : Option ℕ) → candidate ≡ None
    → IsCandidate (depths lines) depth candidate
    → candidate ≡ last_index (λ d. nat_le d depth) (depths lines)
none_found lines depth candidate is before =
    is ∙ none_last (depths lines) depth (subst (IsCandidate (depths lines) depth) is before)
