use Rattle.css_values.proofs.CircleLemmas.{piled-pop}
use Rattle.css_values.proofs.circles.take_last.Goals as goal

pub returns-clause-parts : goal.returns-clause-parts
returns-clause-parts c =
    piled-pop c.args.path.now.items c.pop.new.self.items c.pop.result c.pop.ensures.items
