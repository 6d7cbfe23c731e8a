use Rattle.std.proofs.Common.{◌≡◌, List, map, refl, sym, subst, ◌∙◌}
use Rattle.std.proofs.lemmas.List.{map-id}
use Rattle.std.proofs.lemmas.Result.{IfOk-weaker}
use Rattle.css_selector_text.specs.Components.{Selector}
use Rattle.css_tree.specs.Answered.{IsMarkedFor}
use Rattle.css_styles.proofs.AnsweredRules.{html-marked-for}
use Rattle.css_styles.proofs.style_rules.StyleRules.walk_in_html.Goals as goal

pub new-requires : goal.new-requires
new-requires c = λ lifetimes. (
  (refl, (refl, tt)),
  subst (λ (ss : List Selector). IsMarkedFor ss c.args.page.now) (sym (map-id c.args.selectors.now))
      (html-marked-for c.args.self.now c.args.selectors.now c.args.page.now c.list_count-count.ensures c.requires),
)

pub returns-clause-selectors : goal.returns-clause-selectors
returns-clause-selectors c =
    IfOk-weaker c.new.result
    (λ walk. walk.walk.selectors ≡ map (λ s. s) c.args.selectors.now)
    (λ walk. walk.walk.selectors ≡ c.args.selectors.now)
    (λ walk are. are ∙ map-id c.args.selectors.now) c.new.ensures.selectors
