use Rattle.std.proofs.Common.{◌≡◌, ap, sym, ◌∙◌}
use Rattle.simplecss_selector.specs.BucketViews.{bucket_value}
use Rattle.simplecss_selector.specs.KeyViews.{key_value}
use Rattle.simplecss.specs.OnlyKeys.{only_meets, requires_only}
use Rattle.simplecss.proofs.OnlyKeyLemmas.{only_placement, same_truth}
use Rattle.simplecss.proofs.index.only_key.is_only_key.Goals as goal

pub returns-in-OfElement : goal.returns-in-OfElement
returns-in-OfElement c =
    let selector = c.args.selector.now in
    let key = key_value c.in-OfElement.key in
    let placed = only_placement key selector in
    same_truth c.matches.result (only_meets key selector)
    (λ h. placed.0 (c.matches.ensures.0 h), λ h. c.matches.ensures.1 (placed.1 h))
    ∙ ap (λ b. requires_only (bucket_value b) selector) (sym c.in-OfElement.is)
    ∙ ap (λ b. requires_only b selector) c.requires
