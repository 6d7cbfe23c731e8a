use Rattle.std.proofs.Common.{◌++◌, ◌∷◌, ◌∙◌, [], ap, filter, map}
use Rattle.css_sheet.specs.SheetRuleViews.{sheet_rule_of}
use Rattle.css_syntax.specs.ListReaders.{items_to_come}
use Rattle.css_syntax.specs.Views.{declaration_of}
use Rattle.css_styles.specs.Contenders.{declared_in, in_rule, is_declared}
use Rattle.css_styles.specs.internal.Numbered.{numbered_of}
use Rattle.css_styles.proofs.GatherLemmas.{come-count, turn-step}
use Rattle.css_styles.proofs.StatedLemmas.{first-declared, more-then}
use Rattle.css_styles.proofs.stated.read_stated.Goals as goal

pub items-preserved-in-Declaration : goal.items-preserved-in-Declaration
items-preserved-in-Declaration c =
    let old = map numbered_of c.items.stated.items in
    record {
      come =
          turn-step (in_rule c.args.rule_place (sheet_rule_of c.args.rule.now)) c.items.place
          (declaration_of c.in-Declaration.one) (declared_in (items_to_come c.items.declarations))
          (declared_in (items_to_come c.next.new.self)) old _ _
          (first-declared c.in-Some.part c.in-Declaration.one (items_to_come c.items.declarations)
          (items_to_come c.next.new.self) c.in-Some.ensures.steps.items c.in-Declaration.is)
          c.items.invariant.come
          (c.in_ok-push_valid.ensures.declarations
          ∙ ap (λ one. old ++ filter is_declared (one ∷ [])) c.in_rule-contender.ensures.contender);
      numbered = c.in_ok-push_valid.ensures.numbers;
      more =
          more-then c.args.properties.now c.items.properties c.push_valid.new.properties
          c.items.invariant.more c.in_ok-push_valid.ensures.more;
      counted =
          come-count (items_to_come c.items.declarations) (items_to_come c.next.new.self) _
          c.items.place _ c.in-Some.ensures.steps.items c.items.invariant.counted;
    }
