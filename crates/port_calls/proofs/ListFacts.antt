-- What a text that was read as a list of selectors is.
-- Serves `lists::selectors_of` (the selectors, or that there are none).
use Rattle.std.proofs.Common.{◌≡◌, List, Option, None, Some, ap}
use Rattle.std.specs.Prelude.{Ok, Err}
use Rattle.simplecss.specs.Components.{Component}
use Rattle.simplecss.specs.SelectorLists.{ListFault, list_or}

pub selectors_are : (fault : ListFault) (o : Option (List (List Component)))
    (selectors : List (List Component)) → Ok selectors ≡ list_or fault o → o ≡ Some selectors
selectors_are fault None selectors e = absurd (cc)
selectors_are fault (Some found) selectors e = let same : found ≡ selectors = cc in ap Some same

pub none_are : (fault other : ListFault) (o : Option (List (List Component)))
    → Err other ≡ list_or fault o → o ≡ None
none_are fault other None e = λ i. None
none_are fault other (Some found) e = absurd (cc)
