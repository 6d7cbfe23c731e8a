use Rattle.std.proofs.Common.{map, arith}
use Rattle.css_selector_text.specs.Components.{selectors_from}
use Rattle.css_selectors.specs.Keys.{selector_keys, least_rank}
use Rattle.css_selector_text.specs.Views.{complex_of}
use Rattle.css_selectors.proofs.KeyLemmas.{least_rank-at_most, min_right}
use Rattle.css_selectors.proofs.key.least_of.Goals as goal

pub selectors-init : goal.selectors-init
selectors-init c = (
  min_right 4 (least_rank (selector_keys (selectors_from (map complex_of c.args.selectors.now))))
      (least_rank-at_most (selector_keys (selectors_from (map complex_of c.args.selectors.now)))),
  omega arith,
)
