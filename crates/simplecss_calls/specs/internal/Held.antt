-- The group rules that hold, by their preludes.
use Rattle.std.specs.Prelude.{String, ℕ, Bool, if◌then◌else◌, List, [], ◌∷◌, ◌++◌, map, bytes_eq}
use Rattle.std.specs.BTreeMap.{BTreeMap, get_by_text}
use Rattle.std.specs.Borrow.{Bor}
use Rattle.std.specs.List.{list_any}
use Rattle.std.specs.Option.{option_map_or}
use Rattle.std.specs.Global.{Vec}

-- the names at a prelude
abbrev pub names_at : {Y : Type 0} → BTreeMap (String Y) (Vec (Bor (List ℕ))) → List ℕ
    → List (List ℕ)
names_at held prelude =
    map (λ (name : Bor (List ℕ)). name.now)
    (option_map_or (λ (names : Vec (Bor (List ℕ))). names.items) (get_by_text held prelude) [])

-- with one more, if it is of the same prelude
abbrev pub with_name : (same : Bool) → List (List ℕ) → List ℕ → List (List ℕ)
with_name same names name = if same then names ++ name ∷ [] else names

-- the keyword is one of them
abbrev pub is_among : List (List ℕ) → List ℕ → Bool
is_among names keyword = list_any (λ name. bytes_eq name keyword) names
