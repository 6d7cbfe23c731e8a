use Rattle.std.proofs.Common.{◌++◌, ◌∷◌, ◌∙◌, [], ap, filter, map}
use Rattle.css_syntax.specs.ListReaders.{items_to_come}
use Rattle.css_syntax.specs.Views.{declaration_of}
use Rattle.css_styles.specs.Contenders.{declared_in, is_declared}
use Rattle.css_explain.specs.internal.Parts.{contender_of, contends}
use Rattle.css_explain.proofs.GatherLemmas.{come-count, first-declared, turn-step}
use Rattle.css_explain.proofs.gathering.push_part.Goals as goal

pub items-preserved-in-Declaration : goal.items-preserved-in-Declaration
items-preserved-in-Declaration c =
    let old = map contender_of c.items.found.items in
    record {
      come =
          turn-step (contends c.args.part) c.items.place (declaration_of c.in-Declaration.one)
          (declared_in (items_to_come c.items.declarations))
          (declared_in (items_to_come c.next.new.self)) old _ _
          (first-declared c.in-Some.item c.in-Declaration.one (items_to_come c.items.declarations)
          (items_to_come c.next.new.self) c.in-Some.ensures.steps.items c.in-Declaration.is)
          c.items.invariant.come
          (c.in_ok-push_valid.ensures
          ∙ ap (λ one. old ++ filter is_declared (one ∷ [])) c.new.ensures);
      counted =
          come-count (items_to_come c.items.declarations) (items_to_come c.next.new.self) _
          c.items.place _ c.in-Some.ensures.steps.items c.items.invariant.counted;
    }
