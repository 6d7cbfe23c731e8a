use Rattle.std.proofs.Common.{◌<◌, sym, ◌∙◌, subst, arith}
use Rattle.simplecss.proofs.Following.{Follows, kept_by, end_of, chain_start, chain_more, chain_less, chain_at, chain_end, leads_back}
use Rattle.simplecss.proofs.index.find.push_earlier.Goals.{then-is_kept+in_ok-push, else-is_kept}
use Rattle.simplecss.proofs.index.find.push_earlier.Goals as goal

pub back-init : goal.back-init
back-init c =
    chain_start c.args.rule_index.now (kept_by c.args.rule_index.now c.args.path) c.args.index
    c.args.indices.now.items c.earlier-known.result c.earlier-known.ensures

pub earlier-known-requires-in-Some : goal.earlier-known-requires-in-Some
earlier-known-requires-in-Some c =
    let at = chain_at c.args.rule_index.now (kept_by c.args.rule_index.now c.args.path) c.args.index
    c.args.indices.now.items
    c.back.indices.items c.back.known c.in-Some.other c.in-Some.is c.back.invariant in
    let before = at.before.0 in
    let within = c.requires in
    omega (arith, before, within)

pub back-smaller : goal.back-smaller
back-smaller c =
    subst (λ known. end_of c.earlier-known-in-Some.result < end_of known) (sym c.in-Some.is)
    (leads_back c.args.rule_index.now c.in-Some.other _ c.earlier-known-in-Some.result
    c.earlier-known-in-Some.ensures)

pub back-preserved : goal.back-preserved
back-preserved c =
    let selectors = c.args.rule_index.now in
    let keeps = kept_by selectors c.args.path in
    let old = c.args.indices.now.items in
    let at = chain_at selectors keeps c.args.index old c.back.indices.items c.back.known
    c.in-Some.other c.in-Some.is c.back.invariant in
    elim c.if-is_kept.branch [
      | then-is_kept+in_ok-push w ↦ subst (λ is. Follows selectors keeps c.args.index old is.items
          c.earlier-known-in-Some.result) (sym w.indices-is)
          (chain_more selectors keeps c.args.index old c.back.indices.items c.in-Some.other
          c.earlier-known-in-Some.result at c.earlier-known-in-Some.ensures w.push.new.self.items
          (sym c.is_kept.ensures ∙ w.if-is_kept.true) w.in_ok-push.ensures.items)
      | else-is_kept w ↦ subst (λ is. Follows selectors keeps c.args.index old is.items
          c.earlier-known-in-Some.result) (sym w.indices-is)
          (chain_less selectors keeps c.args.index old c.back.indices.items c.in-Some.other
          c.earlier-known-in-Some.result at c.earlier-known-in-Some.ensures
          (sym c.is_kept.ensures ∙ w.if-is_kept.false))
    ]

pub returns : goal.returns
returns c =
    let keeps = kept_by c.args.rule_index.now c.args.path in
    chain_end c.args.rule_index.now keeps c.args.index c.args.indices.now.items c.back.indices.items
    (subst (Follows c.args.rule_index.now keeps c.args.index c.args.indices.now.items
    c.back.indices.items) c.in_default.is c.back.invariant)
