use Rattle.std.proofs.Common.{[], map, ap, sym, ◌∙◌, ◌++◌, ◌∷◌, arith}
use Rattle.std.proofs.lemmas.List.{map-append}
use Rattle.std.proofs.lemmas.List.FromFn.{map-range_with_len_more}
use Rattle.css_selectors.specs.ElementViews.{namespaced_attribute_of}
use Rattle.call_answers.specs.Elements.{attributes_by, attributes_of}
use Rattle.call_answers.specs.internal.Attributes.{lists_of}
use Rattle.call_answers.proofs.SpacedAttributes.{list-of}
use Rattle.page_calls.proofs.attributes.empty_lists.Goals as goal

-- one list more, which is empty
pub loop-preserved : goal.loop-preserved
loop-preserved c =
    ap lists_of c.in_ok-push.ensures.items
    ∙ map-append list-of c.loop.found.items (c.new.result ∷ [])
    ∙ ap (λ lists. lists ++ list-of c.new.result ∷ []) c.loop.invariant
    ∙ ap (λ list. attributes_by c.loop.counter [] ++ list ∷ []) (ap (map namespaced_attribute_of) c.new.ensures.items)
    ∙ sym (map-range_with_len_more (attributes_of []) 0 c.loop.counter c.loop.counter (omega arith))
