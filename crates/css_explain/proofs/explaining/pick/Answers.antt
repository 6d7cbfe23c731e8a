use Rattle.std.proofs.Common.{rules, ◌∙◌, ap, sym, map}
use Rattle.std.proofs.lemmas.Fn.{filter_same}
use Rattle.css_text.proofs.order.ListFacts.{filter-map}
use Rattle.css_styles.specs.Contenders.{Contender, is_named}
use Rattle.css_explain.specs.internal.Parts.{contender_of}
use Rattle.css_explain.proofs.explaining.pick.Goals as goal

pub returns : goal.returns
returns c =
    let names = map (λ name. name.now) c.args.names.now in
    ap (map contender_of)
    (filter_same _ (λ one. is_named names one.winner.declaration.name.now) _
    (λ x b f called. search rules) _ _ c.retain.ensures.filtered)
    ∙ sym (filter-map contender_of (λ (one : Contender). is_named names one.declaration.name)
    c.args.found.now.items)
