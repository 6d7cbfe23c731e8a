-- The element that the search tries.
use Rattle.css_selectors.specs.declared.meeting.Tried.{Tried}
use Rattle.css_selectors.specs.declared.meeting.Tried.TheVariants.{First, Found}

abbrev pub element_of : {E : Type 0} → Tried E → E
element_of (First e) = e.now
element_of (Found e) = e
