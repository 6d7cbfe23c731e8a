use Rattle.std.proofs.Common.{subst, arith}
use Rattle.css_tree.specs.Keys.{AreLanguages}
use Rattle.css_tree.proofs.LanguageNames.{languages-more}
use Rattle.css_tree.proofs.numbered_tree.languages_of.Goals as goal

pub loop-index-preserved : goal.loop-index-preserved
loop-index-preserved c =
    languages-more c.args.tree.now c.loop-index.found.items c.push.new.self.items
    c.language_after-language.result c.loop-index.index c.in_ok-push.ensures.items
    c.language_after-language.ensures c.loop-index.invariant

pub returns : goal.returns
returns c =
    let test = c.loop-index-test.false in let most = c.loop-index.auto.index-end in
    let is = c.len-index-end.ensures in
    subst (AreLanguages c.args.tree.now c.loop-index.found.items) (omega (arith, test, most, is))
    c.loop-index.invariant
