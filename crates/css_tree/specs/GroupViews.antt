-- Members of groups. Each member has the number of its group.
use Rattle.std.specs.Prelude.{◌≡◌, ℕ, ◌+◌, ◌-◌, ◌<◌, ◌==◌, Bool, false, List, length, None, Some, slice_index_or}
use Rattle.std.specs.List.{slice_get}
use Rattle.std.specs.Option.{option_map_or}
use Rattle.css_tree.specs.Counts.{count_below, last_below}
use Rattle.css_tree.specs.declared.groups.Seen.{Seen}

-- none
abbrev pub nothing_seen : Seen
nothing_seen = record { count = 0; last = None }

module _ (numbers : List ℕ) where
  -- whether the member at an index is in the group of a number
  abbrev pub is_in_group : ℕ → ℕ → Bool
  is_in_group number i = option_map_or (λ n. number == n) (slice_get numbers i) false

  -- the members of a group below an index: how many, and the last of them
  abbrev pub seen_below : ℕ → ℕ → Seen
  seen_below number n = record {
    count = count_below (is_in_group number) n;
    last = last_below (is_in_group number) n;
  }

  -- for each member below an index, those of its group that are before it
  abbrev pub AreBefore : List Seen → ℕ → Type 0
  AreBefore before n =
      (i number : ℕ) → i < n → slice_get numbers i ≡ Some number
      → slice_index_or before i nothing_seen ≡ seen_below number i

  -- for each group its members below an index
  abbrev pub AreAll : List Seen → ℕ → Type 0
  AreAll all n = (number : ℕ) → slice_index_or all number nothing_seen ≡ seen_below number n

  -- of a member's group, the number of those that are neither before it nor it
  abbrev pub count_after : ℕ → ℕ → ℕ
  count_after number i =
      count_below (is_in_group number) (length numbers) - (count_below (is_in_group number) i + 1)
