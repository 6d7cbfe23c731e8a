use Rattle.std.proofs.lemmas.List.Elements.{All-contains}
use Rattle.css_selector_text.specs.declared.reading.Start.TheVariants.{Relative}
use Rattle.css_selector_text.specs.printing.WellFormed.{IsWellFormed}
use Rattle.css_selector_text.proofs.round_trip.NestedTexts.{read_again}
use Rattle.css_selector_text.proofs.round_trip.ReadWellFormed.{selector-well, list_well}
use Rattle.css_selector_text.proofs.round_trip.SelectorsAgain.{selector-again}
use Rattle.css_selector_text.proofs.printing.laws.printing_law.Goals as goal

pub returns-clause-read_again : goal.returns-clause-read_again
returns-clause-read_again c names text rest s h = selector-again names s (selector-well names text s rest h)

pub returns-clause-well_formed : goal.returns-clause-well_formed
returns-clause-well_formed c names text rest s h = selector-well names text s rest h

pub returns-clause-all_well_formed : goal.returns-clause-all_well_formed
returns-clause-all_well_formed c names s w = selector-again names s w

pub returns-clause-nested : goal.returns-clause-nested
returns-clause-nested c names text rest all h list p contains =
    read_again names list p
    (All-contains (λ q. IsWellFormed names q.selector) all p (list_well names Relative text all rest h) contains)
