use Rattle.std.proofs.Common.{◌≡◌, true, false, ap, sym, ◌∙◌}
use Rattle.std.specs.Prelude.{codes}
use Rattle.css_tree.specs.HtmlElements.{is_named}
use Rattle.css_tree.proofs.SurroundingLemmas.{passed-none, passed-all, passed-legend, passed-more}
use Rattle.css_tree.proofs.surroundings.has_earlier_legend.Goals as goal

pub siblings-init : goal.siblings-init
siblings-init c = passed-none c.args.page.now.rows c.args.parent c.args.index c.requires.parent

pub returns-then-is_named : goal.returns-then-is_named
returns-then-is_named c =
    passed-legend c.args.page.now.rows c.args.parent c.args.index c.siblings.earlier
    c.siblings.invariant c.in-Some.sibling (sym c.before-in-siblings.ensures.last ∙ c.in-Some.is)
    (sym (c.is_named.ensures ∙ ap (λ n. is_named n.0 n.1 (codes "legend")) c.plain.ensures)
    ∙ c.if-is_named.true)

pub siblings-preserved : goal.siblings-preserved
siblings-preserved c =
    passed-more c.args.page.now.rows c.args.parent c.args.index c.siblings.earlier
    c.siblings.invariant c.in-Some.sibling (sym c.before-in-siblings.ensures.last ∙ c.in-Some.is)
    (sym (c.is_named.ensures ∙ ap (λ n. is_named n.0 n.1 (codes "legend")) c.plain.ensures)
    ∙ c.if-is_named.false)

pub returns : goal.returns
returns c =
    passed-all c.args.page.now.rows c.args.parent c.args.index c.siblings.earlier
    c.siblings.invariant (sym c.before-in-siblings.ensures.last ∙ c.in_default.is)
