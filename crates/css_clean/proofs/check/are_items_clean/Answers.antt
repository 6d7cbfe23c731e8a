use Rattle.std.proofs.Common.{◌≡◌, ◌∙◌, ◌&&◌, true, false, sym, ap, rules}
use Rattle.css_text.proofs.reading.EachLemmas.{took}
use Rattle.css_syntax.specs.DeclarationLists.{next_item, items}
use Rattle.css_syntax.specs.Views.{list_part_of}
use Rattle.css_syntax.proofs.ItemLemmas.{next_item-takes}
use Rattle.css_syntax.proofs.ListSteps.{items-some, items-none}
use Rattle.css_clean.specs.Sheets.{is_item_clean, are_items_clean}
use Rattle.css_clean.specs.Views.{policy_of}
use Rattle.css_clean.proofs.check.are_items_clean.Goals as goal

pub parts-smaller : goal.parts-smaller
parts-smaller c =
    took (next_item false) (next_item-takes false) c.parts.rest.now c.in-Some.found.rest.now
    (list_part_of c.in-Some.found.part) c.in-Some.ensures.read

pub parts-preserved : goal.parts-preserved
parts-preserved c =
    let policy = policy_of c.args.policy in
    let part = list_part_of c.in-Some.found.part in
    let rest = c.in-Some.found.rest.now in
    let clean : is_item_clean policy part.item ≡ true = search rules in (
      search rules,
      c.parts.invariant.1
          ∙ ap (are_items_clean policy)
          (items-some false c.parts.rest.now rest part c.in-Some.ensures.read)
          ∙ ap (λ b. b && are_items_clean policy (items false rest)) clean,
    )

pub returns-then-not-is_item_clean : goal.returns-then-not-is_item_clean
returns-then-not-is_item_clean c =
    let policy = policy_of c.args.policy in
    let part = list_part_of c.in-Some.found.part in
    let rest = c.in-Some.found.rest.now in
    let unclean : is_item_clean policy part.item ≡ false = search rules in
    sym (c.parts.invariant.1
    ∙ ap (are_items_clean policy) (items-some false c.parts.rest.now rest part c.in-Some.ensures.read)
    ∙ ap (λ b. b && are_items_clean policy (items false rest)) unclean)

pub returns : goal.returns
returns c =
    sym (c.parts.invariant.1
    ∙ ap (are_items_clean (policy_of c.args.policy)) (items-none false c.parts.rest.now c.in_default.ensures.read))
