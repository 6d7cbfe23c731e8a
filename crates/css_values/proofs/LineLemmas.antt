-- Properties and values as texts, one after another.
use Rattle.std.proofs.Common.{◌≡◌, ◌++◌, List, [], ◌∷◌, Option, Some, None, option_map, refl, sym, ap}
use Rattle.std.proofs.lemmas.List.{append_assoc}
use Rattle.css_values.specs.Registrations.{Stated}

pub pairs-begin : (o : Option (List Stated)) → o ≡ option_map (λ more. [] ++ more) o
pairs-begin None = refl
pairs-begin (Some more) = refl

pub pairs-more : (found : List Stated) (p : Stated) (o : Option (List Stated))
    → option_map (λ more. found ++ more) (option_map (λ others. p ∷ others) o)
    ≡ option_map (λ more. (found ++ p ∷ []) ++ more) o
pairs-more found p None = refl
pairs-more found p (Some more) = ap Some (sym (append_assoc found (p ∷ []) more))
