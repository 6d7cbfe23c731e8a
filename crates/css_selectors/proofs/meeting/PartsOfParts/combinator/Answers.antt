use Rattle.css_selectors.proofs.PartLemmas.{combinator_at-from}
use Rattle.css_selectors.proofs.meeting.PartsOfParts.combinator.Goals as goal

pub returns : goal.returns
returns c =
    combinator_at-from c.args.self.now.parts.now c.args.index c.index-self-index.result c.requires
