-- A selector's printed text reads back as it exactly if it is clean.
-- Serves `Selector::{parse, parse_front}` and `StyleSheet::parse` (a selector printed and read
-- again).
use Rattle.std.proofs.Common.{◌≡◌, ℕ, ◌↔◌, List, [], ◌++◌, Bool, true, false, Some, refl, ap}
use Rattle.css_text.specs.Characters.{Edition}
use Rattle.simplecss_grammar.specs.Components.{Component}
use Rattle.simplecss_grammar.specs.Selectors.{reads}
use Rattle.simplecss_grammar.specs.Printing.{selector_text, is_clean}
use Rattle.simplecss_grammar.proofs.round_trip.PrintedSelectors.{Goes, IsSelector, printed-reads}
use Rattle.simplecss_grammar.proofs.round_trip.UncleanSelectors.{printed-differs}

-- a selector that reads back is clean
clean-from_reads : (edition : Edition) (s : List Component) (tail left : List ℕ)
    → IsSelector edition s tail → Goes edition tail [] left
    → reads edition (selector_text s ++ tail) ≡ (Some s, left) → is_clean s ≡ true
clean-from_reads edition s tail left w g e = by (is_clean s) refl
  where
    by : (t : Bool) → is_clean s ≡ t → t ≡ true
    by true h = refl
    by false h = absurd (printed-differs edition s tail w h g.ends (ap (λ r. r.0) e))

-- it reads back exactly if it is clean
pub printing-law : (edition : Edition) (s : List Component) (tail left : List ℕ)
    → IsSelector edition s tail → Goes edition tail [] left
    → (reads edition (selector_text s ++ tail) ≡ (Some s, left)) ↔ (is_clean s ≡ true)
printing-law edition s tail left w g =
    (clean-from_reads edition s tail left w g, λ h. printed-reads edition s tail left w h g)
