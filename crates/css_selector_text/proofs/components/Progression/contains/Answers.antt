use Rattle.css_selector_text.specs.Views.{progression_of}
use Rattle.css_selector_text.proofs.NumberLemmas.{numbered_means}
use Rattle.css_selector_text.proofs.components.Progression.contains.Goals as goal

pub returns-clause-means : goal.returns-clause-means
returns-clause-means c =
    rw c.is_reached.ensures (numbered_means (progression_of c.args.self.now) c.args.number)
