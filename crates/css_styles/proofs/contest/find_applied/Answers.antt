use Rattle.css_styles.proofs.OrderLemmas.{numbered-alike}
use Rattle.css_styles.proofs.contest.find_applied.Goals as goal

pub roll_back-requires : goal.roll_back-requires
roll_back-requires c = (
  c.requires.0,
  c.requires.1,
  c.requires.2,
  numbered-alike c.requires.0 c.args.contenders.now.items c.settle.new.contenders.items
      c.settle.ensures.named c.requires.3,
)

pub keep_unbeaten-requires-clause-numbered : goal.keep_unbeaten-requires-clause-numbered
keep_unbeaten-requires-clause-numbered c = (
  c.requires.0,
  c.in_ok-roll_back.ensures.numbered c.requires.0
      (numbered-alike c.requires.0 c.args.contenders.now.items c.settle.new.contenders.items
      c.settle.ensures.named c.requires.3),
)
