use Rattle.std.proofs.Common.{◌≡◌, ◌∙◌, map, sym, ap, subst}
use Rattle.css_styles.specs.Contenders.{contenders}
use Rattle.css_styles.specs.StyleViews.{names_of, own_of}
use Rattle.css_styles.specs.Winners.{AreWinners}
use Rattle.css_styles.specs.internal.Numbered.{numbered_of}
use Rattle.css_styles.specs.internal.Stepping.{best_named}
use Rattle.css_styles.proofs.GatherLemmas.{then-ok}
use Rattle.css_styles.proofs.WinningLemmas.{are-winners}
use Rattle.css_styles.proofs.style_rules.StyleRules.winners_named.Goals as goal

pub returns-clause-winners : goal.returns-clause-winners
returns-clause-winners c =
    let asked = names_of c.args.asked.now in
    let all = contenders c.args.self.now.rules c.args.matching.now (own_of c.args.own) in
    let whole : map numbered_of c.deref.result.now ≡ all =
    ap (map numbered_of) c.deref.ensures.value ∙ c.in_ok-gather.ensures.contenders in
    then-ok c.find_asked.result
    (λ best. subst (AreWinners all asked)
    (sym (best ∙ ap (λ cs. map (best_named cs) asked) whole)) (are-winners all asked)) c.find_asked.ensures.winners
