-- The names that an element reports.
-- Serves `NumberedNode`.
use Rattle.std.proofs.Common.{◌≡◌, ℕ, ◌<◌, List, length, map, get_or, Bor, sym, ap, ◌∙◌, arith}
use Rattle.std.proofs.lemmas.List.{length-map, get_or-map}
use Rattle.css_elements.specs.Rows.{attribute_of}

-- the name of the attribute at an index, as it is read
pub name_read : (attributes : List (Bor (List ℕ) × Bor (List ℕ))) (rows : List (List ℕ × List ℕ))
    (i : ℕ) (d : Bor (List ℕ) × Bor (List ℕ)) → map attribute_of attributes ≡ rows
    → i < length (map (λ a. a.0) rows)
    → (get_or attributes i d).0.now
    ≡ get_or (map (λ a. a.0) rows) i (get_or attributes i d).0.now
name_read attributes rows i d are lt =
    let name = (get_or attributes i d).0.now in
    let r : length (map (λ a. a.0) rows) ≡ length rows = length-map rows (λ a. a.0) in
    let n : length rows ≡ length attributes =
    ap length (sym are) ∙ length-map attributes attribute_of in
    let within : i < length rows = omega (arith, lt, r) in
    let inside : i < length attributes = omega (arith, within, n) in
    let read : get_or rows i (attribute_of d) ≡ attribute_of (get_or attributes i d) =
    ap (λ xs. get_or xs i (attribute_of d)) (sym are)
    ∙ get_or-map attribute_of attributes i d (attribute_of d) inside in
    sym (get_or-map (λ a. a.0) rows i (attribute_of d) name within ∙ ap (λ a. a.0) read)
