use Rattle.std.proofs.Common.{sym, subst}
use Rattle.std.specs.List.{All}
use Rattle.std.proofs.lemmas.List.Elements.{All-push}
use Rattle.css_styles.specs.internal.Numbered.{IsNumbered}
use Rattle.css_styles.proofs.StatedLemmas.{numbered-more}
use Rattle.css_styles.proofs.stated.push_valid.Goals as goal

pub returns-clause-numbers : goal.returns-clause-numbers
returns-clause-numbers c =
    let properties = c.number_one.new.properties in
    let old = c.args.stated.now.items in
    subst (All (IsNumbered properties)) (sym c.in_ok-push.ensures.items)
    (All-push (IsNumbered properties) old c.in_ok-numbered.numbered
    (numbered-more c.args.properties.now properties old c.in_ok-numbered.ensures.more c.requires)
    c.in_ok-numbered.ensures.number)
