use Rattle.std.proofs.Common.{length, map, sym, subst}
use Rattle.std.specs.Prelude.{All}
use Rattle.std.proofs.lemmas.List.{length-map}
use Rattle.css_selectors.specs.MarkedLists.{list_of}
use Rattle.css_tree.specs.Answered.{SelectorIsAnswered}
use Rattle.page_calls.proofs.MarkCalls.{marked-as}
use Rattle.page_calls.proofs.modern.marked_lines.Goals as goal

pub lines-requires-clause-marked : goal.lines-requires-clause-marked
lines-requires-clause-marked c =
    marked-as c.args.kind (map list_of c.args.lists.now) c.args.selectors.now c.mark.new.page c.in_ok-mark.ensures.answers.0.1
    (subst (λ n. All (SelectorIsAnswered n) c.args.selectors.now) (sym (length-map c.args.lists.now list_of))
    c.requires.answered)
