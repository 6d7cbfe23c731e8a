use Rattle.std.proofs.Common.{rules, ◌≡◌, ◌-◌, ◌∙◌, ap, sym, take, drop, length}
use Rattle.css_edits.specs.internal.Views.{said_texts}
use Rattle.css_edits.proofs.Cuts.{said_cut, said_count}
use Rattle.css_edits.proofs.changing.inside.Goals as goal

pub returns : goal.returns
returns c =
    let xs = c.args.entries.now in
    let count : c.saturating_sub-count.result ≡ length xs - 2 = search rules in
    let cut : c.front.result.now ≡ take (length xs - 2) (drop 1 xs) =
    c.front.ensures
    ∙ ap (λ n. take n c.past-rest.result.now) count
    ∙ ap (λ ys. take (length xs - 2) ys) c.past-rest.ensures in
    ap (λ ys. said_texts ys) cut
    ∙ said_cut 1 (length xs - 2) xs
    ∙ ap (λ n. take (n - 2) (drop 1 (said_texts xs))) (sym (said_count xs))
