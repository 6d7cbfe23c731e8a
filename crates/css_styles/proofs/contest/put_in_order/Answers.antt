use Rattle.std.proofs.Common.{rules}
use Rattle.css_styles.proofs.OrderLemmas.{sort-orders}
use Rattle.css_styles.proofs.contest.put_in_order.Goals as goal

pub returns : goal.returns
returns c =
    sort-orders _ _ c.in_ok-sort_by.ensures.permutation c.in_ok-sort_by.ensures.sorted
    c.in_ok-sort_by.ensures.stable (λ a r f called. search rules)
