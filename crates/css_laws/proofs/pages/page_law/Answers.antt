use Rattle.simplecss_tree.specs.TreeNodes.{element_tree}
use Rattle.css_tree.specs.Pages.{page_document}
use Rattle.css_laws.proofs.OneTreeLemmas.{converted_matches}
use Rattle.css_laws.proofs.PageLemmas.{one_element}
use Rattle.css_laws.proofs.pages.page_law.Goals as goal

pub returns : goal.returns
returns c components page i is shared made spaces within =
    converted_matches page_document element_tree components is (page, i) (page.rows, i)
    (λ steps. one_element page made spaces components shared steps i within)
