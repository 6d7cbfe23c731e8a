use Rattle.std.proofs.Common.{◌≡◌, ◌<◌, ◌∙◌, length, map, sym, ap, subst}
use Rattle.std.specs.List.{All}
use Rattle.css_styles.specs.Contenders.{contenders}
use Rattle.css_styles.specs.StyleViews.{names_of, own_of}
use Rattle.css_styles.specs.Winners.{AreWinners}
use Rattle.css_styles.specs.internal.Numbered.{numbered_of}
use Rattle.css_styles.specs.internal.Stepping.{best_named}
use Rattle.css_styles.proofs.GatherLemmas.{then-ok}
use Rattle.css_styles.proofs.WinningLemmas.{are-winners}
use Rattle.css_styles.proofs.finder.Finder.winners_named.Goals as goal

pub gather-requires : goal.gather-requires
gather-requires c =
    subst (λ rules. All (λ index. index < length rules) c.args.indices.now) (sym c.self.view_is) c.requires

pub returns-clause-winners : goal.returns-clause-winners
returns-clause-winners c =
    let own = own_of c.args.own in
    let asked = names_of c.args.asked.now in
    let whole : map numbered_of c.deref.result.now ≡ contenders c.args.self.now c.args.indices.now own =
    ap (map numbered_of) c.deref.ensures.value ∙ c.in_ok-gather.ensures.contenders
    ∙ ap (λ rules. contenders rules c.args.indices.now own) c.self.view_is in
    then-ok c.find_asked.result
    (λ best. subst (AreWinners (contenders c.args.self.now c.args.indices.now own) asked)
    (sym (best ∙ ap (λ cs. map (best_named cs) asked) whole))
    (are-winners (contenders c.args.self.now c.args.indices.now own) asked)) c.find_asked.ensures.winners
