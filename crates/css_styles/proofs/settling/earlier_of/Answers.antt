use Rattle.std.proofs.Common.{◌∙◌, ◌||◌, ap, sym, option_map}
use Rattle.css_cascade.specs.Rollbacks.{is_left}
use Rattle.css_cascade.specs.WeightViews.{weighed}
use Rattle.css_styles.specs.internal.Numbered.{is_reached}
use Rattle.css_styles.proofs.SettledLemmas.{earlier-kept, earlier-taken}
use Rattle.css_styles.proofs.settling.earlier_of.Goals as goal

pub returns-then-is_before : goal.returns-then-is_before
returns-then-is_before c = λ winner.
    earlier-taken (weighed c.in-Some.before) (weighed c.args.one.now) winner
    (sym c.is_before.ensures ∙ c.if-is_before.true)
    ∙ ap (λ first. is_reached (option_map weighed first) winner || is_left (weighed c.args.one.now) winner)
    (sym c.in-Some.is)

pub returns-else-is_before : goal.returns-else-is_before
returns-else-is_before c = λ winner.
    earlier-kept (weighed c.in-Some.before) (weighed c.args.one.now) winner
    (sym c.is_before.ensures ∙ c.if-is_before.false)
    ∙ ap (λ first. is_reached (option_map weighed first) winner || is_left (weighed c.args.one.now) winner)
    (sym c.in-Some.is)
