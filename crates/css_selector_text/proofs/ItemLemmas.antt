-- Items that are read one after another, by a loop that keeps those that it found.
-- Serves the loops of `compounds` and `reading`.
use Rattle.std.proofs.Common.{◌≡◌, ℕ, zero, suc, ◌-◌, ◌<◌, List, [], ◌∷◌, ◌++◌, map, refl, sym, ap, ◌∙◌, arith, Bor, Option, Some, None, Ok, subst}
use Rattle.css_selector_text.specs.declared.refusal.Why.{Why}
use Rattle.css_selector_text.specs.internal.Reads.{Finds}
use Rattle.css_selector_text.specs.reading.Readings.{Reading, got, refused, Step, item, none, stop, with_first, go_on, items_up_to, found_before}

found_listed : {A : Type 0} (xs : List A) (x : A) (r : Reading (List A))
    → found_before (xs ++ (x ∷ [])) r ≡ found_before xs (with_first x r)
found_listed [] x r = refl
found_listed (y ∷ xs) x r = ap (with_first y) (found_listed xs x r)

module _ {T A : Type 0} (view : T → A) where
  found_after : (xs : List T) (x : T) (r : Reading (List A))
      → found_before (map view (xs ++ (x ∷ []))) r ≡ found_before (map view xs) (with_first (view x) r)
  found_after [] x r = refl
  found_after (y ∷ xs) x r = ap (with_first (view y)) (found_after xs x r)

pub found_end : {A : Type 0} (xs : List A) (rest : List ℕ) → found_before xs (got [] rest) ≡ got xs rest
found_end [] rest = refl
found_end (x ∷ xs) rest = ap (with_first x) (found_end xs rest)

pub found_refused : {A : Type 0} (xs : List A) (why : Why) (rest : List ℕ)
    → found_before xs (refused why rest) ≡ refused why rest
found_refused [] why rest = refl
found_refused (x ∷ xs) why rest = ap (with_first x) (found_refused xs why rest)

one_less : (k : ℕ) → suc k - 1 ≡ k
one_less k = omega arith

pub stepped : {A : Type 0} (read : List ℕ → Step A) (n : ℕ) (rest : List ℕ) (s : Step A) → 0 < n
    → s ≡ read rest → items_up_to n read rest ≡ go_on rest s (items_up_to (n - 1) read)
stepped read zero rest s some e = absurd (omega arith)
stepped read (suc k) rest s some e =
    ap (λ t. go_on rest t (items_up_to k read)) (sym e)
    ∙ ap (λ m. go_on rest s (items_up_to m read)) (sym (one_less k))

-- the loop keeps the items as the definitions see them
module _ {A : Type 0} (read : List ℕ → Step A) (xs : List A) (n : ℕ) (rest : List ℕ) where
  pub listed_item : (x : A) (after : List ℕ) (all : Reading (List A)) → 0 < n
      → item x after ≡ read rest → found_before xs (items_up_to n read rest) ≡ all
      → found_before (xs ++ (x ∷ [])) (items_up_to (n - 1) read after) ≡ all
  listed_item x after all some e so_far =
      found_listed xs x (items_up_to (n - 1) read after)
      ∙ ap (found_before xs) (sym (stepped read n rest (item x after) some e)) ∙ so_far

  pub listed_none : (all : Reading (List A)) → 0 < n → none ≡ read rest
      → found_before xs (items_up_to n read rest) ≡ all → got xs rest ≡ all
  listed_none all some e so_far =
      sym (found_end xs rest) ∙ ap (found_before xs) (sym (stepped read n rest none some e))
      ∙ so_far

  pub listed_over : (all : Reading (List A)) → n ≡ 0
      → found_before xs (items_up_to n read rest) ≡ all → got xs rest ≡ all
  listed_over all e so_far =
      sym (found_end xs rest) ∙ ap (λ m. found_before xs (items_up_to m read rest)) (sym e)
      ∙ so_far

  pub listed_stop : (why : Why) (s : List ℕ) (all : Reading (List A)) → 0 < n
      → stop why s ≡ read rest → found_before xs (items_up_to n read rest) ≡ all
      → refused why s ≡ all
  listed_stop why s all some e so_far =
      sym (found_refused xs why s)
      ∙ ap (found_before xs) (sym (stepped read n rest (stop why s) some e)) ∙ so_far

-- the loop keeps values that `view` shows
module _ {T A : Type 0} (view : T → A) (read : List ℕ → Step A) where
  pub loop_item : (xs : List T) (x : T) (n : ℕ) (rest after : List ℕ) (all : Reading (List A))
      → 0 < n → item (view x) after ≡ read rest
      → found_before (map view xs) (items_up_to n read rest) ≡ all
      → found_before (map view (xs ++ (x ∷ []))) (items_up_to (n - 1) read after) ≡ all
  loop_item xs x n rest after all some e so_far =
      found_after view xs x (items_up_to (n - 1) read after)
      ∙ ap (found_before (map view xs)) (sym (stepped read n rest (item (view x) after) some e))
      ∙ so_far

  pub loop_none : (xs : List T) (n : ℕ) (rest : List ℕ) (all : Reading (List A)) → 0 < n
      → none ≡ read rest → found_before (map view xs) (items_up_to n read rest) ≡ all
      → got (map view xs) rest ≡ all
  loop_none xs n rest all some e so_far = listed_none read (map view xs) n rest all some e so_far

  pub loop_over : (xs : List T) (n : ℕ) (rest : List ℕ) (all : Reading (List A)) → n ≡ 0
      → found_before (map view xs) (items_up_to n read rest) ≡ all → got (map view xs) rest ≡ all
  loop_over xs n rest all e so_far = listed_over read (map view xs) n rest all e so_far

  pub loop_stop : (xs : List T) (n : ℕ) (rest : List ℕ) (why : Why) (s : List ℕ)
      (all : Reading (List A)) → 0 < n → stop why s ≡ read rest
      → found_before (map view xs) (items_up_to n read rest) ≡ all → refused why s ≡ all
  loop_stop xs n rest why s all some e so_far =
      listed_stop read (map view xs) n rest why s all some e so_far

-- ---- what a call found

module _ {T A : Type 0} (view : T → A) (s : Step A) where
  pub finds_some : (f : Option (T × Bor (List ℕ))) (x : T) (rest : Bor (List ℕ))
      → f ≡ Some (x, rest) → Finds view (Ok f) s → item (view x) rest.now ≡ s
  finds_some f x rest e h = subst (λ (o : Option (T × Bor (List ℕ))). Finds view (Ok o) s) e h

  pub finds_none : (f : Option (T × Bor (List ℕ))) → f ≡ None → Finds view (Ok f) s → none ≡ s
  finds_none f e h = subst (λ (o : Option (T × Bor (List ℕ))). Finds view (Ok o) s) e h
