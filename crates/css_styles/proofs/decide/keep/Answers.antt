use Rattle.std.proofs.Common.{rules}
use Rattle.std.proofs.lemmas.Fn.{filter_same}
use Rattle.css_cascade.specs.Rollbacks.{is_left_under}
use Rattle.css_cascade.specs.WeightViews.{weighed}
use Rattle.css_styles.specs.internal.Floors.{floor_of}
use Rattle.css_styles.proofs.decide.keep.Goals as goal

pub returns : goal.returns
returns c =
    filter_same _ (λ one. is_left_under (floor_of c.args.standing.now) (weighed one.weight)) _
    (λ x b f called. search rules) _ _ c.retain.ensures.filtered
