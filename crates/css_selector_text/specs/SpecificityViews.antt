-- What contracts see of a specificity.
use Rattle.css_selector_text.specs.declared.specificity.Specificity.{Specificity}
use Rattle.css_selector_text.specs.Specificities.{Counts}

abbrev pub counts_of : Specificity → Counts
counts_of s = record { ids = s.ids; classes = s.classes; names = s.names }
