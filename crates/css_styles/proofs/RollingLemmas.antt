-- Declarations that count, as those that win and revert are rolled back.
-- Serves the functions of `contest` and `decide`.
use Rattle.std.proofs.Common.{◌≡◌, ℕ, Bool, true, false, cond, List, [], ◌∷◌, length, map, Option, None, Some, refl, sym, ap, ◌∙◌, arith}
use Rattle.std.specs.Prelude.{filter, option_map}
use Rattle.std.specs.List.{All}
use Rattle.std.proofs.lemmas.List.Elements.{All-head, All-tail}
use Rattle.css_cascade.specs.Cascade.{winner_from}
use Rattle.css_cascade.specs.Rollbacks.{best_of as best_seen, is_left, is_left_under, left_once, rolls_back}
use Rattle.css_cascade.specs.declared.weights.Weight.{Weight}
use Rattle.css_cascade.proofs.RollbackLemmas.{all-left, still, winner-mapped}
use Rattle.css_styles.specs.declared.contest.Numbered.{Numbered}
use Rattle.css_styles.specs.Contenders.{Contender, of_property}
use Rattle.css_styles.specs.Winners.{counting_each}
use Rattle.css_styles.specs.internal.Numbered.{IsNoted, IsNumbered, is_kept, numbered_of}
use Rattle.css_styles.specs.internal.Stepping.{decided, seen}
use Rattle.css_styles.proofs.ContestLemmas.{kept-noted}
use Rattle.css_styles.proofs.FloorLemmas.{filter-all}

-- ---- of several properties

-- those that a declaration contends with
abbrev pub of_its_property : List Contender → Contender → List Contender
of_its_property all one = of_property one.declaration.name all

-- one of these counts still
abbrev counts : List Contender → Contender → Bool
counts all one = is_left_under (best_seen seen (of_its_property all one)) (seen one)

module _ (properties : List (List ℕ)) (all : List Numbered) (best : List (Option Weight))
    (numbered : All (IsNumbered properties) all) where
  kept-in : (xs : List Numbered) → All (IsNumbered properties) xs → All (IsNoted all best) xs
      → map numbered_of (filter (is_kept best) xs)
      ≡ filter (counts (map numbered_of all)) (map numbered_of xs)
  kept-in [] of-xs noted = refl
  kept-in (n ∷ xs) of-xs noted =
      by (is_kept best n)
      (kept-noted properties n (All-head (IsNumbered properties) n xs of-xs) all best numbered
      (All-head (IsNoted all best) n xs noted))
      (kept-in xs (All-tail (IsNumbered properties) n xs of-xs) (All-tail (IsNoted all best) n xs noted))
    where
      by : (t : Bool) → t ≡ counts (map numbered_of all) (numbered_of n)
          → map numbered_of (filter (is_kept best) xs)
          ≡ filter (counts (map numbered_of all)) (map numbered_of xs)
          → map numbered_of (cond t (n ∷ filter (is_kept best) xs) (filter (is_kept best) xs))
          ≡ filter (counts (map numbered_of all)) (map numbered_of (n ∷ xs))
      by true e rest =
          ap (λ cs. numbered_of n ∷ cs) rest
          ∙ ap (λ s. cond s (numbered_of n ∷ filter (counts (map numbered_of all)) (map numbered_of xs))
          (filter (counts (map numbered_of all)) (map numbered_of xs))) e
      by false e rest =
          rest
          ∙ ap (λ s. cond s (numbered_of n ∷ filter (counts (map numbered_of all)) (map numbered_of xs))
          (filter (counts (map numbered_of all)) (map numbered_of xs))) e

  -- those that are kept are those that count still
  pub kept-once : All (IsNoted all best) all
      → map numbered_of (filter (is_kept best) all)
      ≡ left_once seen of_its_property (map numbered_of all)
  kept-once noted = kept-in all numbered noted

  -- where all are kept, they count
  pub kept-all : All (IsNoted all best) all → All (λ n. is_kept best n ≡ true) all
      → left_once seen of_its_property (map numbered_of all) ≡ map numbered_of all
  kept-all noted kept =
      sym (kept-once noted) ∙ ap (map numbered_of) (filter-all (is_kept best) all kept)

-- where all of these count still, they do in the end
pub counted-all : (all : List Contender) → left_once seen of_its_property all ≡ all
    → all ≡ counting_each all
counted-all all fixed = sym (still seen of_its_property all 0 fixed (length all) (omega arith))

-- ---- of one property

abbrev pub all_of : List Contender → Contender → List Contender
all_of all one = all

-- the one that wins, in two ways
best-is : (all : List Contender) (best : Option Contender) → best ≡ winner_from seen None all
    → best_seen seen all ≡ option_map seen best
best-is all best e = sym (ap (option_map seen) e ∙ winner-mapped seen None all)

every : {X : Type 0} (test : X → Bool) → ((x : X) → test x ≡ true) → (xs : List X)
    → filter test xs ≡ xs
every test all xs = filter-all test xs (λ k d l. all _)

fixed-none : (now : List Contender) → None ≡ winner_from seen None now
    → left_once seen all_of now ≡ now
fixed-none now e =
    ap (λ b. filter (λ (one : Contender). is_left_under b (seen one)) now) (best-is now None e)
    ∙ every (λ (one : Contender). true) (λ one. refl) now

fixed-some : (now : List Contender) (best : Contender) → Some best ≡ winner_from seen None now
    → rolls_back (seen best) ≡ false → left_once seen all_of now ≡ now
fixed-some now best e stays =
    ap (λ b. filter (λ (one : Contender). is_left_under b (seen one)) now) (best-is now (Some best) e)
    ∙ every (λ (one : Contender). is_left (seen one) (seen best))
    (λ one. all-left (seen one) (seen best) stays) now

-- where the best of these is not rolled back, it is what wins
module _ (all : List Contender) where
  settled : left_once seen all_of all ≡ all → winner_from seen None all ≡ decided all
  settled fixed = ap (winner_from seen None) (sym (still seen all_of all 0 fixed (length all) (omega arith)))

  pub decided-none : None ≡ winner_from seen None all → None ≡ decided all
  decided-none found = found ∙ settled (fixed-none all found)

  pub decided-some : (best : Contender) → Some best ≡ winner_from seen None all
      → rolls_back (seen best) ≡ false → Some best ≡ decided all
  decided-some best found stays = found ∙ settled (fixed-some all best found stays)
