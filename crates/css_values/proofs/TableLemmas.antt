-- Numbers of properties.
use Rattle.std.proofs.Common.{◌≡◌, ◌∙◌, ℕ, suc, ◌<◌, ◌+◌, List, ◌∷◌, Option, Some, length, drop, get_or, arith, sym, ap, if◌then◌else◌, bytes_eq}
use Rattle.std.proofs.lemmas.List.{drop_more}
use Rattle.css_syntax.specs.Escapes.{decoded}
use Rattle.css_values.specs.Resolution.{Property, no_property, number_from}

-- one more has its number
pub number_from-more : (all : List Property) (n : ℕ) (name : List ℕ) (old new : Option ℕ)
    → n < length all → old ≡ number_from (suc n) (drop (suc n) all) name
    → new ≡ (if bytes_eq (decoded (get_or all n no_property).name) name then Some n else old)
    → new ≡ number_from n (drop n all) name
number_from-more all n name old new l o e =
    let next : n + 1 ≡ suc n = omega arith in
    e
    ∙ ap (λ (x : Option ℕ). if bytes_eq (decoded (get_or all n no_property).name) name then Some n else x) o
    ∙ sym (ap (λ (ps : List Property). number_from n ps name)
    (drop_more all n no_property l ∙ ap (λ (k : ℕ). get_or all n no_property ∷ drop k all) next))
