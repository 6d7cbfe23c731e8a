use Rattle.std.proofs.Common.{◌≡◌, ◌++◌, sym, ap, ◌∙◌, append_assoc, append-nil}
use Rattle.css_text.specs.ThisEdition.{this_edition}
use Rattle.css_text.specs.Cursor.{rest_of}
use Rattle.simplecss_declaration.specs.DeclarationViews.{declaration_of}
use Rattle.simplecss_declaration.proofs.BlockLemmas.{list-less}
use Rattle.simplecss.specs.Hints.{block_hints, declaration_hints}
use Rattle.simplecss.specs.HintViews.{hints_of}
use Rattle.simplecss.proofs.HintLemmas.{block_hints-some, block_hints-none}
use Rattle.simplecss.proofs.hints.values.push_values.Goals as goal

pub list-smaller : goal.list-smaller
list-smaller c = list-less this_edition _ _ _ c.in-Some.ensures.reads.1

pub list-preserved : goal.list-preserved
list-preserved c =
    let here = rest_of c.list.s in
    let rest = rest_of c.take_in_block.new.s in
    let declared = declaration_of c.in-Some.declaration in
    let had = hints_of c.list.hints.items in
    let step =
    block_hints-some this_edition here rest declared c.in-Some.ensures.reads.0
    c.in-Some.ensures.reads.1 in
    let pushed : hints_of c.push_value.new.hints.items ≡ had ++ declaration_hints this_edition here =
    rw (← c.slice_tail-text.ensures)
    (c.in_ok-push_value-in-Some.ensures
    (rw (c.slice_tail-text.ensures, c.slice_tail.ensures) c.in-Some.ensures.reads.1)) in
    ap (λ t. t ++ block_hints this_edition rest) pushed
    ∙ append_assoc had (declaration_hints this_edition here) (block_hints this_edition rest)
    ∙ ap (λ t. had ++ t) (sym step)
    ∙ c.list.invariant

pub returns-in-None : goal.returns-in-None
returns-in-None c =
    let had = hints_of c.list.hints.items in
    sym (append-nil had)
    ∙ ap (λ t. had ++ t) (sym (block_hints-none this_edition (rest_of c.list.s)
    c.in-None.ensures.reads))
    ∙ c.list.invariant
