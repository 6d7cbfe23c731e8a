use Rattle.std.proofs.Common.{cond, None, Some, sym, ap, ◌∙◌}
use Rattle.simplecss.specs.internal.TextIndices.{index_for_text}
use Rattle.simplecss.proofs.TextSlots.{unmarked_none}
use Rattle.simplecss.proofs.index.texts.Texts.get.Goals as goal

pub returns-then-eq : goal.returns-then-eq
returns-then-eq c =
    let told = (c.args.self.now.told c.args.text.now).1 c.in-One.known c.in-One.index
    (sym c.slot.ensures ∙ c.in-One.is) in
    sym (told ∙ ap (λ t. cond t (Some c.in-One.index) None) (sym c.eq.ensures ∙ c.if-eq.true))

pub returns-else-eq : goal.returns-else-eq
returns-else-eq c =
    let told = (c.args.self.now.told c.args.text.now).1 c.in-One.known c.in-One.index
    (sym c.slot.ensures ∙ c.in-One.is) in
    sym (told ∙ ap (λ t. cond t (Some c.in-One.index) None) (sym c.eq.ensures ∙ c.if-eq.false))

pub returns-then-not-is_marked : goal.returns-then-not-is_marked
returns-then-not-is_marked c =
    sym (unmarked_none c.args.self.now.marks (index_for_text c.args.self.now.indices)
    c.args.text.now c.args.self.now.marked (sym c.is_marked.ensures ∙ c.if-not-is_marked.true))
