use Rattle.std.proofs.Common.{◌≡◌, ◌-◌, length, take, drop, ap, ◌∙◌}
use Rattle.call_answers.proofs.elements.cut_names.Goals as goal

pub returns : goal.returns
returns c =
    let strings = c.args.strings.items in
    let at : c.saturating_sub.result ≡ length strings - c.args.count =
    c.saturating_sub.ensures ∙ ap (λ n. n - c.args.count) (c.len.ensures ∙ c.args.strings.ok.0) in (
      c.in_ok-names.ensures.items ∙ ap (λ n. take n strings) at,
      c.in_ok-names.ensures.tail ∙ ap (λ n. drop n strings) at,
    )
