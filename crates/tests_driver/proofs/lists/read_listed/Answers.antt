use Rattle.std.proofs.Common.{[], length, sym, ap, subst, ◌∙◌}
use Rattle.std.specs.Prelude.{All}
use Rattle.css_selectors.specs.Numberings.{numbered_selectors}
use Rattle.css_tree.specs.Answered.{SelectorIsAnswered}
use Rattle.css_tree.proofs.AnsweredLemmas.{list-answers}
use Rattle.tests_driver.proofs.lists.read_listed.Goals as goal

pub returns : goal.returns
returns c =
    let old = c.new-numbering.result in
    let none =
    ap (λ l. record { lists = l; numbers = old.numbers }) c.new-numbering.ensures.lists
    ∙ ap (λ k. record { lists = []; numbers = k }) c.new-numbering.ensures.numbers in
    subst (λ n. All (SelectorIsAnswered (length n.1.lists)) n.0)
    (ap (λ n. numbered_selectors n c.loop-list.read.items) (sym none) ∙ c.in_ok-selectors.ensures)
    (list-answers c.loop-list.read.items)
