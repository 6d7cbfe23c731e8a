-- The rules that a walk finds are some of all, and the properties of what they state have numbers.
-- Serves `Styles::{winners, winners_named}`.
use Rattle.std.proofs.Common.{◌≡◌, ℕ, ◌<◌, ◌≤◌, List, length, arith}
use Rattle.std.specs.List.{All, Contains}
use Rattle.std.proofs.lemmas.List.Elements.{All-contains_itself}
use Rattle.css_selector_text.specs.Components.{Selector}
use Rattle.css_selectors.specs.Documents.{Document}
use Rattle.css_index.specs.Found.{AreMatches}
use Rattle.css_styles.specs.Properties.{property_key}
use Rattle.css_styles.specs.declared.contest.Numbered.{Numbered}
use Rattle.css_styles.specs.internal.Numbered.{IsNumbered}
use Rattle.css_styles.proofs.ContestLemmas.{All-each}
use Rattle.css_styles.proofs.IndexLemmas.{get-past}
use Rattle.css_styles.proofs.NumberLemmas.{number-within}

pub found-within : {Node : Type 0} (document : Document Node) (n : Node) (selectors : List Selector)
    (count : ℕ) (indices : List ℕ) → length selectors ≡ count → AreMatches document n selectors indices
    → All (λ index. index < count) indices
found-within document n selectors count indices len are =
    All-each (Contains indices) (λ index. index < count) each indices (All-contains_itself indices)
  where
    each : (k : ℕ) → Contains indices k → k < count
    each k c =
        let at = (are.exactly k).0 c in
        let within = get-past selectors k at.0 at.1 in
        omega (arith, within, len)

-- ---- each declaration has the number of a property, of which the best is noted

pub numbers-within : (properties : List (List ℕ)) (all : List Numbered) (count most : ℕ)
    → count ≡ length properties → count ≤ most → All (IsNumbered properties) all
    → All (λ n. n.property < most) all
numbers-within properties all count most counted fits =
    All-each (IsNumbered properties) (λ n. n.property < most) each all
  where
    each : (n : Numbered) → IsNumbered properties n → n.property < most
    each n has =
        let within = number-within properties (property_key n.contender.winner.declaration.name.now) n.property has in
        omega (arith, within, counted, fits)
