use Rattle.std.proofs.Common.{ap, ◌∙◌, sym}
use Rattle.std.proofs.lemmas.Option.{get_or_from_slice_get}
use Rattle.css_tree.proofs.LanguageNames.{language-own, language-parent, language-root}
use Rattle.css_tree.proofs.numbered_tree.language_after.Goals as goal

pub returns-in-Some : goal.returns-in-Some
returns-in-Some c =
    language-own c.args.tree.now c.args.index c.own_language.result c.own_language.ensures
    c.in-Some.language c.in-Some.is

pub returns-in-Some-parent_of : goal.returns-in-Some-parent_of
returns-in-Some-parent_of c =
    let parent = c.in-Some-parent_of.parent in
    let known = c.requires.so_far.each parent c.in-Some-parent_of.ensures.before in
    ap (λ l. l.now) (get_or_from_slice_get c.args.before.now parent known.0 _ known.1)
    ∙ known.2
    ∙ language-parent c.args.tree.now c.args.index c.own_language.result c.own_language.ensures parent
    c.in_default.is (sym c.parent_of.ensures.value ∙ c.in-Some-parent_of.is)

pub returns-in-None : goal.returns-in-None
returns-in-None c =
    language-root c.args.tree.now c.args.index c.own_language.result c.own_language.ensures
    c.in_default.is (sym c.parent_of.ensures.value ∙ c.in-None.is)
