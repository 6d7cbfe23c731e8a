use Rattle.std.proofs.Common.{inl, inr, rules}
use Rattle.css_values.proofs.circles.joined.Goals as goal

pub returns-in_ok-append : goal.returns-in_ok-append
returns-in_ok-append c = λ d. inr (search rules)

pub returns-in_ok-append-2 : goal.returns-in_ok-append-2
returns-in_ok-append-2 c = λ d. inl (search rules)
