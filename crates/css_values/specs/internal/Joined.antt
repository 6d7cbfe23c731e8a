-- What two parts of a value have together, and the rows of the table by names.
use Rattle.std.specs.Prelude.{String, ℕ, ◌+◌, ◌||◌, List, Option}
use Rattle.std.specs.Borrow.{Bor}
use Rattle.std.specs.BTreeMap.{BTreeMap, get_by_text}
use Rattle.std.specs.Option.{option_map}
use Rattle.css_values.specs.Refused.{Found}

abbrev pub joined : Found → Found → Found
joined a b = record {
  count = a.count + b.count;
  sign = a.sign || b.sign;
  foreign = a.foreign || b.foreign;
  substituted = a.substituted || b.substituted;
  other = a.other || b.other;
}

-- the row at a name, if there is one
abbrev pub row_at : {Y : Type 0} → BTreeMap (String Y) (Bor (List ℕ)) → (name : List ℕ) → Option (List ℕ)
row_at rows name = option_map (λ text. text.now) (get_by_text rows name)
