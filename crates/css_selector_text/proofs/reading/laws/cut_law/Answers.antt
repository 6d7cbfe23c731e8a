use Rattle.css_selector_text.proofs.CutLemmas.{list_cut, cut_list}
use Rattle.css_selector_text.proofs.reading.laws.cut_law.Goals as goal

pub returns : goal.returns
returns c names start text all = (list_cut names start text all, cut_list names start text all)
