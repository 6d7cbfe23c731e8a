use Rattle.std.proofs.Common.{◌≡◌, ◌++◌, ◌∷◌, ◌∙◌, [], length, sym, ap, append-nil, filter, map, rules}
use Rattle.css_syntax.specs.ListReaders.{items_to_come}
use Rattle.css_syntax.specs.Views.{declaration_of}
use Rattle.css_styles.specs.Contenders.{declared_in, in_turn, is_declared}
use Rattle.css_styles.specs.internal.Numbered.{numbered_of}
use Rattle.css_styles.specs.internal.Stepping.{in_own}
use Rattle.css_styles.proofs.GatherLemmas.{come-count, own-empty, turn-step}
use Rattle.css_styles.proofs.StatedLemmas.{first-declared}
use Rattle.css_styles.proofs.gathering.push_text.Goals as goal

pub items-preserved-in-Declaration : goal.items-preserved-in-Declaration
items-preserved-in-Declaration c =
    let old = map numbered_of c.items.contenders.items in
    record {
      come =
          turn-step (in_own c.args.part) c.items.place (declaration_of c.in-Declaration.one)
          (declared_in (items_to_come c.items.declarations))
          (declared_in (items_to_come c.next.new.self)) old _ _
          (first-declared c.in-Some.part_of_text c.in-Declaration.one (items_to_come c.items.declarations)
          (items_to_come c.next.new.self) c.in-Some.ensures.steps.items c.in-Declaration.is)
          c.items.invariant.come
          (c.in_ok-push_valid.ensures.contenders
          ∙ ap (λ one. old ++ filter is_declared (one ∷ [])) c.in_own-contender.ensures.contender);
      numbered = c.in_ok-push_valid.ensures.numbered;
      counted =
          come-count (items_to_come c.items.declarations) (items_to_come c.next.new.self) _
          c.items.place _ c.in-Some.ensures.steps.items c.items.invariant.counted;
    }

pub returns-then-is_empty-clause-contenders : goal.returns-then-is_empty-clause-contenders
returns-then-is_empty-clause-contenders c =
    let old = map numbered_of c.args.contenders.now.items in
    let none : length c.args.text.now ≡ 0 = search rules in
    sym (append-nil old)
    ∙ sym (ap (λ ds. old ++ in_turn (in_own c.args.part) 0 ds) (own-empty c.args.text.now none))
