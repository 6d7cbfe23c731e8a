use Rattle.std.proofs.Common.{◌++◌, sym, subst}
use Rattle.std.specs.List.{All}
use Rattle.std.proofs.lemmas.List.Elements.{All-push}
use Rattle.css_styles.specs.internal.Numbered.{IsNumbered}
use Rattle.css_styles.proofs.GatherLemmas.{more-after}
use Rattle.css_styles.proofs.StatedLemmas.{numbered-more}
use Rattle.css_styles.proofs.gathering.push_valid.Goals as goal

pub returns-clause-numbered : goal.returns-clause-numbered
returns-clause-numbered c =
    let known = c.args.known.now in
    let now = known ++ c.number_own.new.others in
    let old = c.args.contenders.now.items in
    subst (All (IsNumbered now)) (sym c.in_ok-push.ensures.items)
    (All-push (IsNumbered now) old _
    (numbered-more (known ++ c.args.others.now) now old
    (more-after known c.args.others.now c.number_own.new.others c.in_ok-property.ensures.more)
    c.requires) c.in_ok-property.ensures.number)
