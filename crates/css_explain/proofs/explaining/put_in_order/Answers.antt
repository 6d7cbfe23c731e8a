use Rattle.std.proofs.Common.{rules, ◌∙◌, ap, map, reverse}
use Rattle.css_explain.specs.internal.Parts.{contender_of}
use Rattle.css_explain.proofs.OrderLemmas.{map-reverse, sort-orders}
use Rattle.css_explain.proofs.explaining.put_in_order.Goals as goal

pub returns : goal.returns
returns c =
    ap (map contender_of) c.reverse.ensures.items
    ∙ map-reverse contender_of c.sort_by.new.self.items
    ∙ ap reverse (sort-orders _ _ c.in_ok-sort_by.ensures.permutation c.in_ok-sort_by.ensures.sorted
    c.in_ok-sort_by.ensures.stable (λ a r f called. search rules))
