-- Declarations that are read one after another, and their numbers.
-- Serves `held::read_held`, `rule_texts::lines` and `winners::block_numbers`.
use Rattle.std.proofs.Common.{◌≡◌, ℕ, ◌-◌, ◌≤◌, length, map, take, drop, get_or, arith, Bool, true, false, List, [], ◌∷◌, ◌++◌, Option, Some, None, refl, sym, ap, ◌∙◌, append-nil}
use Rattle.std.specs.Prelude.{◌&&◌, ◌||◌, bytes_eq, option_to_list}
use Rattle.std.proofs.lemmas.Cmp.{nat_list_eq_equiv}
use Rattle.std.proofs.lemmas.List.Folds.{list_any-append}
use Rattle.simplecss_calls.specs.internal.Held.{is_among, with_name}
use Rattle.std.specs.List.{cons_option, filter_map, flat_map}
use Rattle.std.proofs.lemmas.Grind.{flat_map-append}
use Rattle.std.proofs.lemmas.List.{append_assoc, map-append, take-append-drop, take_all}
use Rattle.css_syntax.specs.DeclarationLists.{ListText, past_separators, next_item}
use Rattle.css_syntax.specs.Placed.{PlacedItem}
use Rattle.css_syntax.proofs.PlacedSteps.{placed-items-some, placed-items-none}
use Rattle.simplecss_calls.specs.WinnerNumbers.{first_text, later_texts, is_pair, is_held, item_numbers, block_numbers}

held_step : (name : List ℕ) (later : List (List ℕ)) (keyword prelude : List ℕ)
    → is_held (name ∷ later) keyword prelude
    ≡ is_pair name (first_text later) keyword prelude || is_held (later_texts later) keyword prelude
held_step name [] keyword prelude = refl
held_step name (text ∷ more) keyword prelude = refl

-- a list that has an element, by its first and the others
pub first-of : {X : Type 0} (rest : List X) (n : ℕ) (d x : X) → 1 ≤ length rest
    → n ≡ length rest - 1 → x ≡ get_or rest 0 d → rest ≡ x ∷ take n (drop 1 rest)
first-of [] n d x l e is = absurd (omega (arith, l))
first-of (y ∷ ys) n d x l e is =
    let all : take n ys ≡ ys = take_all n ys (omega (arith, e)) in
    ap (λ z. z ∷ ys) (sym is) ∙ ap (λ zs. x ∷ zs) (sym all)

-- the lines of the first and of the others are all
pub lines-split : {D E : Type 0} (f : E → List ℕ) (g : D → E) (ds : List D) (n : ℕ)
    → flat_map f (map g (take n ds)) ++ flat_map f (map g (drop n ds)) ≡ flat_map f (map g ds)
lines-split f g ds n =
    sym (flat_map-append f (map g (take n ds)) (map g (drop n ds)))
    ∙ ap (flat_map f) (sym (map-append g (take n ds) (drop n ds)) ∙ ap (map g) (take-append-drop n ds))

one-among : (names : List (List ℕ)) (name keyword : List ℕ) (same later : Bool)
    → (is_among (with_name same names name) keyword || later)
    ≡ (is_among names keyword || (bytes_eq name keyword && same || later))
one-among names name keyword true later =
    ap (λ b. b || later) (list_any-append (λ n. bytes_eq n keyword) names (name ∷ []))
    ∙ by (is_among names keyword) (bytes_eq name keyword)
  where
    by : (found is : Bool) → ((found || (is || false)) || later) ≡ (found || (is && true || later))
    by true is = refl
    by false true = refl
    by false false = refl
one-among names name keyword false later = by (bytes_eq name keyword)
  where
    by : (is : Bool) → (is_among names keyword || later)
        ≡ (is_among names keyword || (is && false || later))
    by true = refl
    by false = refl

-- a pair is at its prelude, and no longer among those that are left
pub pair-held : (keyword prelude name text : List ℕ) (before after : List (List ℕ))
    (left later rest : List (List ℕ)) (all : Bool) → text ≡ first_text later
    → after ≡ with_name (bytes_eq prelude text) before name → rest ≡ later_texts later
    → left ≡ name ∷ later → (is_among before keyword || is_held left keyword prelude) ≡ all
    → (is_among after keyword || is_held rest keyword prelude) ≡ all
pair-held keyword prelude name text before after left later rest all is_text added is_rest whole so_far =
    let others = is_held (later_texts later) keyword prelude in
    let same : bytes_eq prelude text ≡ bytes_eq (first_text later) prelude =
    nat_list_eq_equiv.symm prelude text ∙ ap (λ t. bytes_eq t prelude) is_text in
    ap (λ names. is_among names keyword || is_held rest keyword prelude) added
    ∙ ap (λ texts. is_among (with_name (bytes_eq prelude text) before name) keyword
    || is_held texts keyword prelude) is_rest
    ∙ one-among before name keyword (bytes_eq prelude text) others
    ∙ ap (λ b. is_among before keyword || (bytes_eq name keyword && b || others)) same
    ∙ ap (λ b. is_among before keyword || b) (sym (held_step name later keyword prelude))
    ∙ ap (λ texts. is_among before keyword || is_held texts keyword prelude) (sym whole)
    ∙ so_far

option-more : {X : Type 0} (one : Option X) (out rest : List X)
    → (out ++ option_to_list one) ++ rest ≡ out ++ cons_option one rest
option-more None out rest = ap (λ o. o ++ rest) (append-nil out)
option-more (Some x) out rest = append_assoc out (x ∷ []) rest

-- the numbers of these items, after others
after : (end : ℕ) (out : List (List ℕ)) → List PlacedItem → List (List ℕ)
after end out items =
    out ++ filter_map (λ (placed : PlacedItem). item_numbers end placed.from placed.part.item) items

-- one item more
pub item-numbered : (end : ℕ) (rest later from : List ℕ) (out all : List (List ℕ)) (p : ListText)
    → next_item true rest ≡ Some (p, later) → from ≡ past_separators rest
    → all ≡ out ++ option_to_list (item_numbers end from p.item)
    → all ++ block_numbers end later ≡ out ++ block_numbers end rest
unfolding after
item-numbered end rest later from out all p read is_from wrote =
    ap (λ a. a ++ block_numbers end later)
    (wrote ∙ ap (λ f. out ++ option_to_list (item_numbers end f p.item)) is_from)
    ∙ option-more (item_numbers end (past_separators rest) p.item) out (block_numbers end later)
    ∙ ap (after end out) (sym (placed-items-some true rest later p read))

-- no item is left
pub items-numbered : (end : ℕ) (rest : List ℕ) (out all : List (List ℕ))
    → next_item true rest ≡ None → out ++ block_numbers end rest ≡ all → out ≡ all
unfolding after
items-numbered end rest out all none so_far =
    sym (append-nil out) ∙ ap (after end out) (sym (placed-items-none true rest none)) ∙ so_far
