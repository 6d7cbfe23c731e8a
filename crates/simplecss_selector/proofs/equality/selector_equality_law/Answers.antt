use Rattle.simplecss_selector.specs.EqualityLaws.{selector_decides}
use Rattle.simplecss_selector.proofs.equality.selector_equality_law.Goals as goal

pub returns : goal.returns
returns c a b = selector_decides a b
