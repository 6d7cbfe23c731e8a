-- Indices of the selectors that a search keeps, and what it looks up of a path.
use Rattle.std.specs.Prelude.{ℕ, ◌&&◌, ◌∷◌, [], List, Bool, true, Option, Some, None, IsTrue, length, drop}
use Rattle.simplecss_grammar.specs.Components.{Component}
use Rattle.simplecss_selector.specs.Buckets.{Near, reports_bucket}
use Rattle.simplecss.specs.OpenPaths.{Path, needed_keys, are_open}
use Rattle.simplecss.specs.SelectorIndices.{selector_at, key_at, AreTheIndices}

-- the indices are in order, and are exactly those of the selectors whose key is reported
abbrev pub AreKeyed : Near → List (List Component) → List ℕ → Type 0
AreKeyed reported selectors =
    AreTheIndices (λ index. IsTrue (reports_bucket reported (key_at selectors index)))
    (length selectors)

-- the indices are in order, and are exactly those of the selectors whose key is reported and which
-- the test keeps
abbrev pub AreKept : Near → (List Component → Bool) → List (List Component) → List ℕ → Type 0
AreKept reported keeps selectors = AreTheIndices
    (λ index. IsTrue (reports_bucket reported (key_at selectors index)
    && keeps (selector_at selectors index))) (length selectors)

-- whether a path keeps the selector: open elements report those keys; without a path it is kept
abbrev pub is_kept : List (List Component) → Option Path → List Component → Bool
is_kept selectors None selector = true
is_kept selectors (Some path) selector = are_open (needed_keys selectors) path.listed selector

-- the indices of the element that was opened last
abbrev pub top_starts : List (ℕ × ℕ) → List ℕ → List ℕ
top_starts [] starts = starts
top_starts (m ∷ ms) starts = drop m.1 starts
