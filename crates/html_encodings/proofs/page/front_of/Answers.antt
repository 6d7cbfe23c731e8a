use Rattle.std.proofs.Common.{◌∙◌, ap, ℕ, take}
use Rattle.std.proofs.lemmas.List.{take_min}
use Rattle.html_encodings.proofs.page.front_of.Goals as goal

pub returns : goal.returns
returns c =
    ap (λ (n : ℕ). take n c.args.page.now) c.min.ensures
    ∙ take_min 1024 c.args.page.now
