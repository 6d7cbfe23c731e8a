-- Parts without a combinator, and with one.
-- Serves `support`.
use Rattle.std.proofs.Common.{◌≡◌, ◌<◌, ◌≤◌, List, [], ◌∷◌, length, map, refl, arith}
use Rattle.css_selector_text.specs.declared.components.Part.{Part as PartOf}
use Rattle.css_selector_text.specs.Components.{parts_from}
use Rattle.css_selector_text.specs.reading.SearchCounts.{search_count}
use Rattle.css_selector_text.specs.Views.{part_of}

pub count_lone : (ps : List PartOf) → length ps < 2
    → 0 ≡ search_count (parts_from (map part_of ps))
count_lone [] h = refl
count_lone (p ∷ []) h = refl
count_lone (p ∷ q ∷ ps) h = absurd (omega (arith, h))

pub count_joined : (ps : List PartOf) → 2 ≤ length ps
    → 1 ≡ search_count (parts_from (map part_of ps))
count_joined [] h = absurd (omega (arith, h))
count_joined (p ∷ []) h = absurd (omega (arith, h))
count_joined (p ∷ q ∷ ps) h = refl
