use Rattle.std.proofs.Common.{rules}
use Rattle.std.specs.List.{slice_get}
use Rattle.std.proofs.lemmas.Fn.{filter_same}
use Rattle.css_styles.specs.internal.Floors.{is_over}
use Rattle.css_styles.specs.internal.Numbered.{weight_of}
use Rattle.css_styles.proofs.contest.keep.Goals as goal

pub returns : goal.returns
returns c =
    filter_same _ (λ n. is_over (slice_get c.args.standings.now n.property) (weight_of n)) _
    (λ x b f called. search rules) _ _ c.retain.ensures.filtered
