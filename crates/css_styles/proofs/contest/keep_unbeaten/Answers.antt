use Rattle.std.proofs.Common.{rules, ◌∙◌, ap, map}
use Rattle.std.specs.List.{slice_get}
use Rattle.std.proofs.lemmas.Fn.{filter_same}
use Rattle.css_styles.specs.internal.Numbered.{is_best_by, numbered_of, weight_of}
use Rattle.css_styles.proofs.OrderLemmas.{best-kept}
use Rattle.css_styles.proofs.contest.keep_unbeaten.Goals as goal

pub returns : goal.returns
returns c =
    ap (map numbered_of)
    (filter_same _ (λ n. is_best_by (slice_get c.args.best.now n.property) (weight_of n)) _
    (λ x b f called. search rules) _ _ c.retain.ensures.filtered)
    ∙ best-kept c.requires.numbered.0 c.args.contenders.now.items c.args.best.now c.requires.numbered.1
    c.requires.noted
