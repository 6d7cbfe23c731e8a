-- What is known of each group after one more member.
-- Serves `groups::{see_all, Groups}`.
use Rattle.std.proofs.Common.{◌≡◌, ℕ, suc, ◌+◌, ◌-◌, ◌<◌, ◌≤◌, inl, inr, Bool, true, false, List, [], ◌∷◌, ◌++◌, length, get_or, Some, refl, sym, ap, ◌∙◌, add-one, arith}
use Rattle.std.specs.Prelude.{◌==◌, if◌then◌else◌, slice_set}
use Rattle.std.specs.List.{slice_get}
use Rattle.std.specs.Option.{option_map_or}
use Rattle.css_tree.specs.Counts.{count_below, last_below}
use Rattle.css_tree.specs.GroupViews.{is_in_group, seen_below, count_after, nothing_seen, AreBefore, AreAll}
use Rattle.css_tree.specs.declared.groups.Seen.{Seen}
use Rattle.css_tree.proofs.Counting.{some_same, last_or_before, count_below-with}
use Rattle.std.proofs.lemmas.Bool.Decides.{Decides-eqb, not_from_Decides}
use Rattle.std.proofs.lemmas.List.{get_or-set_other}
use Rattle.std.proofs.lemmas.Grind.{get_or-set_at}
use Rattle.std.proofs.lemmas.Option.{slice_get_read, get_or_from_slice_get}
use Rattle.std.proofs.Math.ListN.{get_or-append}
use Rattle.std.proofs.Math.Seq.{get_or-append_seam}

module _ (numbers : List ℕ) where
  -- whether a member is in a group
  in_group : (number g i : ℕ) → slice_get numbers i ≡ Some number
      → is_in_group numbers g i ≡ (g == number)
  in_group number g i is = ap (λ r. option_map_or (λ n. g == n) r false) is

  -- a member is in its own group
  in_own_group : (number i : ℕ) → slice_get numbers i ≡ Some number → is_in_group numbers number i ≡ true
  in_own_group number i is = in_group number number i is ∙ (Decides-eqb number number).1 refl

  -- one more member
  module _ (old new : List Seen) (n number : ℕ) (seen : Seen) (is : slice_get numbers n ≡ Some number)
      (within : number < length old) (known : seen ≡ seen_below numbers number n)
      (sets : new ≡ slice_set old number (record { count = seen.count + 1; last = Some n }))
      (are : AreAll numbers old n) where
    seen_next : (g : ℕ) (b : Bool) → (g == number) ≡ b
        → get_or new g nothing_seen ≡ record {
          count = count_below (is_in_group numbers g) n + (if b then 1 else 0);
          last = if b then Some n else last_below (is_in_group numbers g) n;
        }
    seen_next g true same =
        let e : g ≡ number = (Decides-eqb g number).0 same in
        ap (λ xs. get_or xs g nothing_seen) sets
        ∙ get_or-set_at old number g (record { count = seen.count + 1; last = Some n }) nothing_seen e within
        ∙ ap (λ s. record { count = s.count + 1; last = Some n }) known
        ∙ ap (λ k. record { count = count_below (is_in_group numbers k) n + 1; last = Some n }) (sym e)
    seen_next g false other =
        ap (λ xs. get_or xs g nothing_seen) sets
        ∙ get_or-set_other old number g (record { count = seen.count + 1; last = Some n }) nothing_seen
        (not_from_Decides (g == number) (Decides-eqb g number) other)
        ∙ are g
        ∙ ap (λ c. record { count = c; last = last_below (is_in_group numbers g) n }) (omega arith)

    all_next : AreAll numbers new (suc n)
    all_next g =
        seen_next g (g == number) refl
        ∙ ap (λ b. record {
          count = count_below (is_in_group numbers g) n + (if b then 1 else 0);
          last = if b then Some n else last_below (is_in_group numbers g) n;
        }) (sym (in_group number g n is))

    pub all_more : AreAll numbers new (n + 1)
    all_more = rw add-one all_next

  -- those before one more member are those that were known of its group
  pub before_more : (old new : List Seen) (n number : ℕ) (seen : Seen) → length old ≡ n
      → new ≡ old ++ seen ∷ [] → slice_get numbers n ≡ Some number
      → seen ≡ seen_below numbers number n → AreBefore numbers old n → AreBefore numbers new (n + 1)
  before_more old new n number seen len is at known are i other lt there =
      elim (last_or_before i n (omega (arith, lt))) [
        | inl same ↦
            (let same_number : number ≡ other =
            some_same (sym at ∙ ap (slice_get numbers) (sym same) ∙ there) in
            ap (λ xs. get_or xs i nothing_seen) is
            ∙ ap (λ j. get_or (old ++ seen ∷ []) j nothing_seen) (same ∙ sym len)
            ∙ get_or-append_seam old seen [] nothing_seen
            ∙ known
            ∙ ap (λ k. seen_below numbers k n) same_number
            ∙ ap (seen_below numbers other) (sym same))
        | inr less ↦
            ap (λ xs. get_or xs i nothing_seen) is
            ∙ get_or-append old (seen ∷ []) nothing_seen i (rw len less)
            ∙ are i other less there
      ]

-- what is read at an index
read_at : (before : List Seen) (i : ℕ) (seen : Seen) → i < length before → seen ≡ get_or before i seen
    → seen ≡ get_or before i nothing_seen
read_at before i seen within read =
    sym (get_or_from_slice_get before i seen nothing_seen
    (slice_get_read before (length before) i seen refl within read))

pub number_at : (numbers now : List ℕ) (i number : ℕ) → numbers ≡ now → i < length now
    → number ≡ get_or numbers i number → slice_get now i ≡ Some number
number_at numbers now i number view within read =
    ap (λ xs. slice_get xs i) (sym view)
    ∙ slice_get_read numbers (length now) i number (ap length (sym view)) within read

-- the member at an index: those of its group that are before it, and it is counted
module _ (numbers now : List ℕ) (before : List Seen) (i number : ℕ) (seen : Seen) (view : numbers ≡ now)
    (len : length before ≡ length numbers) (are : AreBefore numbers before (length numbers))
    (within : i < length now) (at : slice_get now i ≡ Some number) (there : seen ≡ get_or before i seen) where
  own_before : seen ≡ seen_below numbers number i
  own_before =
      let inside : i < length numbers = rw (ap length view) within in
      read_at before i seen (omega (arith, inside, len)) there
      ∙ are i number inside (ap (λ xs. slice_get xs i) view ∙ at)

  pub own_before_now : seen ≡ seen_below now number i
  own_before_now = own_before ∙ ap (λ xs. seen_below xs number i) view

  pub own_counted : seen.count + 1 ≤ count_below (is_in_group now number) (length now)
  own_counted =
      let own = in_own_group now number i at in
      let h = count_below-with (is_in_group now number) i (length now) within own in
      let e = ap (λ s. s.count) own_before_now in omega (arith, h, e)

  pub own_after : (other count : ℕ) → slice_get now i ≡ Some other
      → count ≡ count_below (is_in_group now number) (length now)
      → count - (seen.count + 1) ≡ count_after now other i
  own_after other count there is =
      ap (λ n. n - (seen.count + 1)) is
      ∙ ap (λ s. count_below (is_in_group now number) (length now) - (s.count + 1)) own_before_now
      ∙ ap (λ k. count_after now k i) (some_same (sym at ∙ there))
