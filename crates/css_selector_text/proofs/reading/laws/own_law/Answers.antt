use Rattle.css_selector_text.proofs.OwnLemmas.{own}
use Rattle.css_selector_text.proofs.reading.laws.own_law.Goals as goal

pub returns : goal.returns
returns c names start text rest p h = own names start text p rest h
