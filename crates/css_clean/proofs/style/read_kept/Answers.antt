use Rattle.std.proofs.Common.{◌∙◌, ◌++◌, map, sym, ap, rules}
use Rattle.std.proofs.lemmas.List.{append-nil, append_assoc}
use Rattle.css_text.proofs.reading.EachLemmas.{took}
use Rattle.css_syntax.specs.DeclarationLists.{past_separators, next_item, items}
use Rattle.css_syntax.specs.Placed.{placed_items}
use Rattle.css_syntax.specs.Views.{list_part_of}
use Rattle.css_syntax.proofs.ItemLemmas.{next_item-takes}
use Rattle.css_syntax.proofs.ListSteps.{items-some, items-none}
use Rattle.css_syntax.proofs.PlacedSteps.{placed-items-some, placed-items-none}
use Rattle.css_clean.specs.Cleaning.{kept, kept_item, dropped}
use Rattle.css_clean.specs.Views.{policy_of, dropped_of, written_of}
use Rattle.css_clean.proofs.CleanLemmas.{left-at}
use Rattle.css_clean.proofs.style.read_kept.Goals as goal

pub parts-smaller : goal.parts-smaller
parts-smaller c =
    took (next_item c.args.in_block) (next_item-takes c.args.in_block) c.parts.rest.now
    c.in-Some.found.rest.now (list_part_of c.in-Some.found.part) c.in-Some.ensures.read

pub parts-preserved : goal.parts-preserved
parts-preserved c =
    let policy = policy_of c.args.policy in
    let b = c.args.in_block in
    let part = list_part_of c.in-Some.found.part in
    let rest = c.in-Some.found.rest.now in (
      search rules,
      c.parts.invariant.1
          ∙ ap (λ parts. map written_of c.parts.out.items ++ kept policy parts)
          (items-some b c.parts.rest.now rest part c.in-Some.ensures.read)
          ∙ sym (append_assoc (map written_of c.parts.out.items) (kept_item policy part.item)
          (kept policy (items b rest)))
          ∙ ap (λ found. found ++ kept policy (items b rest)) (sym c.in_ok-push_item.ensures.kept),
      c.parts.invariant.2
          ∙ ap (λ parts. map dropped_of c.parts.dropped.items ++ dropped policy c.args.stop parts)
          (placed-items-some b c.parts.rest.now rest part c.in-Some.ensures.read)
          ∙ left-at policy c.args.stop (map dropped_of c.parts.dropped.items) part
          (past_separators c.parts.rest.now) c.in-Some.found.from.now (placed_items b rest)
          c.in-Some.ensures.from
          ∙ ap (λ found. found ++ dropped policy c.args.stop (placed_items b rest))
          (sym c.in_ok-push_item.ensures.dropped),
    )

pub returns-clause-kept : goal.returns-clause-kept
returns-clause-kept c =
    sym (c.parts.invariant.1
    ∙ ap (λ parts. map written_of c.parts.out.items ++ kept (policy_of c.args.policy) parts)
    (items-none c.args.in_block c.parts.rest.now c.in_default.ensures.read)
    ∙ append-nil (map written_of c.parts.out.items))

pub returns-clause-dropped : goal.returns-clause-dropped
returns-clause-dropped c =
    sym (c.parts.invariant.2
    ∙ ap (λ parts. map dropped_of c.parts.dropped.items
    ++ dropped (policy_of c.args.policy) c.args.stop parts)
    (placed-items-none c.args.in_block c.parts.rest.now c.in_default.ensures.read)
    ∙ append-nil (map dropped_of c.parts.dropped.items))
