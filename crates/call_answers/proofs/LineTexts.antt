-- Texts that are written piece by piece.
-- Serves `port_texts`, `lists::printed`, `rule_texts::texts` and `pages::push_winners`.
use Rattle.std.proofs.Common.{◌≡◌, ℕ, ◌+◌, ◌<◌, List, ◌∷◌, ◌++◌, [], length, take, get_or, map, sym, ap, ◌∙◌}
use Rattle.std.specs.List.{flat_map}
use Rattle.std.proofs.lemmas.List.{take_more, flat_map_more, map-append}

-- one text more, after those that were written
pub line_more : {D E : Type 0} (f : E → List ℕ) (g : D → E) (ds : List D) (index : ℕ) (d : D)
    (before out all : List ℕ) → index < length ds
    → out ≡ before ++ flat_map f (map g (take index ds)) → all ≡ out ++ f (g (get_or ds index d))
    → all ≡ before ++ flat_map f (map g (take (index + 1) ds))
line_more f g ds index d before out all less so_far wrote =
    let value = g (get_or ds index d) in
    wrote ∙ ap (λ t. t ++ f value) so_far ∙ flat_map_more f before (map g (take index ds)) value
    ∙ ap (λ vs. before ++ flat_map f vs) (sym (ap (map g) (take_more ds index d less)
    ∙ map-append g (take index ds) (get_or ds index d ∷ [])))
