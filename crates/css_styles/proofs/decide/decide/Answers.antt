use Rattle.std.proofs.Common.{◌∙◌, None, ap, map, sym}
use Rattle.css_cascade.specs.Cascade.{winner_from}
use Rattle.css_styles.specs.internal.Stepping.{contender_of, seen}
use Rattle.css_styles.proofs.RollingLemmas.{decided-none, decided-some}
use Rattle.css_styles.proofs.decide.decide.Goals as goal

pub returns-in_default : goal.returns-in_default
returns-in_default c =
    decided-none (map contender_of c.args.rivals.now.items)
    (c.in_default.ensures ∙ ap (λ xs. winner_from seen None (map contender_of xs)) c.deref.ensures.value)

pub returns-then-not-rolls_back : goal.returns-then-not-rolls_back
returns-then-not-rolls_back c =
    decided-some (map contender_of c.args.rivals.now.items) (contender_of c.in-Some.best)
    (c.in-Some.ensures ∙ ap (λ xs. winner_from seen None (map contender_of xs)) c.deref.ensures.value)
    (sym c.rolls_back.ensures ∙ c.if-not-rolls_back.true)
