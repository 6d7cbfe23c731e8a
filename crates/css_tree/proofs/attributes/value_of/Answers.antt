use Rattle.std.proofs.Common.{ap, ◌∙◌, sym, subst}
use Rattle.std.specs.Prelude.{IfSome}
use Rattle.std.specs.Option.{option_map}
use Rattle.css_elements.specs.TreeNodes.{attribute_at, attributes_at}
use Rattle.css_tree.specs.Attributes.{AreNamed}
use Rattle.css_tree.proofs.AttributeLemmas.{attribute-value}
use Rattle.css_tree.proofs.attributes.value_of.Goals as goal

pub returns-in-Some : goal.returns-in-Some
returns-in-Some c =
    let rows = c.args.node.now.0 in
    let i = c.index.result in
    let named = subst (λ r. IfSome r (λ values. AreNamed values (attributes_at rows i)))
    (sym c.in-Some.ensures.value) (c.requires i) in
    ap (option_map (λ v. v.now)) (c.copied.ensures ∙ c.get-in-Some.ensures.value)
    ∙ named c.args.name.now ∙ attribute-value rows i c.args.name.now
    ∙ ap (λ k. attribute_at rows k c.args.name.now) c.index.ensures
