use Rattle.std.proofs.Common.{Some, sym, ◌∙◌}
use Rattle.std.proofs.lemmas.Option.{get_or_from_slice_get}
use Rattle.css_tree.specs.Keys.{kind}
use Rattle.css_tree.proofs.KindLemmas.{compared-none, compared-alike, compared-same, named-again, sooner}
use Rattle.css_tree.proofs.Numbering.{last_seen}
use Rattle.css_tree.proofs.kinds.kind_of_previous.Goals as goal

pub returns-then-have_one_type-clause-kind : goal.returns-then-have_one_type-clause-kind
returns-then-have_one_type-clause-kind c =
    let rows = c.args.tree.now in
    let namespaces = c.args.namespaces.now in
    let i = c.args.index in
    let s = c.in-Some.sibling in
    let so_far = compared-none rows namespaces i in
    let last = last_seen rows c.args.families.now c.requires.families i c.before-2.result (Some s)
    c.requires.within c.before-2.ensures.seen c.in-Some.is in
    get_or_from_slice_get c.args.kinds.now s (kind rows namespaces s) 0
    (c.requires.kinds.each s (sooner rows namespaces i i so_far s last))
    ∙ sym (compared-same rows namespaces i i so_far s last
    (sym c.have_one_type.ensures ∙ c.if-have_one_type.true))

pub returns-then-have_one_type-clause-named : goal.returns-then-have_one_type-clause-named
returns-then-have_one_type-clause-named c = λ named are.
    let rows = c.args.tree.now in
    let namespaces = c.args.namespaces.now in
    let i = c.args.index in
    let s = c.in-Some.sibling in
    let so_far = compared-none rows namespaces i in
    let last = last_seen rows c.args.families.now c.requires.families i c.before-2.result (Some s)
    c.requires.within c.before-2.ensures.seen c.in-Some.is in
    named-again rows namespaces c.args.families.now i s named (sooner rows namespaces i i so_far s last)
    (compared-alike rows namespaces i i so_far s last
    (sym c.have_one_type.ensures ∙ c.if-have_one_type.true)) are
