use Rattle.std.proofs.Common.{◌<◌, length, None, Some, sym, ◌∙◌, arith}
use Rattle.std.proofs.lemmas.Option.{get_or_from_slice_get}
use Rattle.css_tree.specs.Keys.{kind}
use Rattle.css_tree.proofs.KindLemmas.{compared-none, compared-all, compared-more, compared-same, sooner}
use Rattle.css_tree.proofs.Numbering.{last_seen}
use Rattle.css_tree.proofs.kinds.kind_by_siblings.Goals as goal

pub siblings-init : goal.siblings-init
siblings-init c = compared-none c.args.tree.now c.args.namespaces.now c.args.index

pub returns-then-have_one_type : goal.returns-then-have_one_type
returns-then-have_one_type c =
    let rows = c.args.tree.now in
    let namespaces = c.args.namespaces.now in
    let i = c.args.index in
    let e = c.siblings.earlier in
    let s = c.in-Some.sibling in
    let so_far = c.siblings.invariant in
    let below = so_far.within in let all = c.requires.within in
    let within : e < length rows = omega (arith, below, all) in
    let last = last_seen rows c.args.families.now c.requires.families e c.before-in-siblings.result
    (Some s) within c.before-in-siblings.ensures.seen c.in-Some.is in
    get_or_from_slice_get c.args.kinds.now s (kind rows namespaces s) 0
    (c.requires.kinds.each s (sooner rows namespaces i e so_far s last))
    ∙ sym (compared-same rows namespaces i e so_far s last
    (sym c.have_one_type.ensures ∙ c.if-have_one_type.true))

pub siblings-preserved : goal.siblings-preserved
siblings-preserved c =
    let rows = c.args.tree.now in
    let i = c.args.index in
    let e = c.siblings.earlier in
    let s = c.in-Some.sibling in
    let so_far = c.siblings.invariant in
    let below = so_far.within in let all = c.requires.within in
    let within : e < length rows = omega (arith, below, all) in
    compared-more rows c.args.namespaces.now i e so_far s
    (last_seen rows c.args.families.now c.requires.families e c.before-in-siblings.result (Some s)
    within c.before-in-siblings.ensures.seen c.in-Some.is)
    (sym c.have_one_type.ensures ∙ c.if-have_one_type.false)

pub returns : goal.returns
returns c =
    let rows = c.args.tree.now in
    let e = c.siblings.earlier in
    let below = c.siblings.invariant.within in let all = c.requires.within in
    let within : e < length rows = omega (arith, below, all) in
    sym (compared-all rows c.args.namespaces.now c.args.index e c.siblings.invariant
    (last_seen rows c.args.families.now c.requires.families e c.before-in-siblings.result None within
    c.before-in-siblings.ensures.seen c.in_default.is))
