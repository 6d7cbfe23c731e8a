use Rattle.std.proofs.lemmas.List.Elements.{All-contains}
use Rattle.css_selector_text.proofs.round_trip.ReadEnds.{IsIn, all_in}
use Rattle.css_selector_text.proofs.reading.laws.places_law.Goals as goal

pub returns : goal.returns
returns c names start text rest all h p within =
    All-contains (IsIn text) all p (all_in names start text rest all h) within
