-- The rules of sheets that agree in their keys are in the order of the texts.
-- Serves `source_order_law`.
use Rattle.std.proofs.Common.{◌≡◌, ℕ, zero, suc, ◌+◌, ◌<◌, ◌≤◌, Bool, true, false, cond, List, [], ◌∷◌, get_or, length, take, refl, sym, ap, ◌∙◌, arith}
use Rattle.std.specs.Prelude.{not, ◌&&◌}
use Rattle.std.specs.List.{count_by}
use Rattle.std.specs.List.Sorted.{ties}
use Rattle.std.proofs.lemmas.List.Recursion.{is_count_by}
use Rattle.std.proofs.lemmas.List.Sums.{count_by_more_yes}
use Rattle.std.specs.Ordering.{is_lt, nat_cmp}
use Rattle.std.specs.Cmp.Lexicographic.{slice_cmp}
use Rattle.std.specs.declared.cmp.Ordering.{Ordering}
use Rattle.std.specs.declared.cmp.Ordering.TheVariants.{Less, Equal, Greater}
use Rattle.std.specs.Ordering.{ordering_reverse}
use Rattle.std.specs.Cmp.{IsStrictWeakOrder}
use Rattle.std.proofs.lemmas.Cmp.{nat_list_cmp_total}
use Rattle.std.proofs.lemmas.List.Sorted.{ranks_by}
use Rattle.css_text.specs.Ranks.{rank_by}
use Rattle.css_sheet.specs.SheetOrder.{SheetRuleText, is_before, rule_key, source_rules}
use Rattle.css_sheet.specs.Sheets.{SheetText}

abbrev count : {X : Type 0} → (X → Bool) → List X → ℕ
count p [] = 0
count p (x ∷ xs) = cond (p x) (1 + count p xs) (count p xs)

counts : {X : Type 0} (p : X → Bool) (xs : List X) → count p xs ≡ count_by p xs
counts p xs = is_count_by (count p) p refl (λ x ys. refl) xs

same_counts : {X : Type 0} (p q : X → Bool) → ((z : X) → p z ≡ q z) → (xs : List X) → count p xs ≡ count q xs
same_counts p q same [] = refl
same_counts p q same (x ∷ xs) =
    ap (λ b. cond b (1 + count p xs) (count p xs)) (same x) ∙ ap (λ n. cond (q x) (1 + n) n) (same_counts p q same xs)

count_same : {X : Type 0} (p q : X → Bool) → ((z : X) → p z ≡ q z) → (xs : List X) → count_by p xs ≡ count_by q xs
count_same p q same xs = sym (counts p xs) ∙ same_counts p q same xs ∙ counts q xs

one_more : (t : Bool) (a b : ℕ) → a ≤ b → cond t (1 + a) a ≤ cond t (1 + b) b
one_more true a b le = omega (arith, le)
one_more false a b le = le

more_counts : {X : Type 0} (p : X → Bool) (xs : List X) (n m : ℕ) → n ≤ m → count p (take n xs) ≤ count p (take m xs)
more_counts p xs zero m le = omega arith
more_counts p [] (suc n) zero le = absurd (omega (arith, le))
more_counts p [] (suc n) (suc m) le = omega arith
more_counts p (x ∷ xs) (suc n) zero le = absurd (omega (arith, le))
more_counts p (x ∷ xs) (suc n) (suc m) le =
    one_more (p x) (count p (take n xs)) (count p (take m xs)) (more_counts p xs n m (omega (arith, le)))

count_more : {X : Type 0} (p : X → Bool) (xs : List X) (n m : ℕ) → n ≤ m → count_by p (take n xs) ≤ count_by p (take m xs)
count_more p xs n m le =
    omega (arith, counts p (take n xs), counts p (take m xs), more_counts p xs n m le)

both : (a b : Bool) → a ≡ false → b ≡ false → (not a && not b) ≡ true
both true b e f = absurd (cc)
both false true e f = absurd (cc)
both false false e f = refl

stable : {X : Type 0} (lt : X → X → Bool) (xs : List X) (a b : ℕ) (x y d : X) → a < b → b < length xs
    → get_or xs a d ≡ x → ((z : X) → lt z x ≡ lt z y) → ((z : X) → lt x z ≡ lt y z) → lt x x ≡ false
    → rank_by lt xs a x < rank_by lt xs b y
stable lt xs a b x y d less within at into from self =
    let lesser : count_by (λ z. lt z x) xs ≡ count_by (λ z. lt z y) xs =
    count_same (λ z. lt z x) (λ z. lt z y) into xs in
    let alike : count_by (ties lt x) (take a xs) ≡ count_by (ties lt y) (take a xs) =
    count_same (ties lt x) (ties lt y)
    (λ z. ap (λ t. not t && not (lt z x)) (from z) ∙ ap (λ t. not (lt y z) && not t) (into z)) (take a xs) in
    let here : ties lt y (get_or xs a d) ≡ true =
    ap (ties lt y) at ∙ both (lt y x) (lt x y) (sym (from x) ∙ self) (sym (into x) ∙ self) in
    let one : count_by (ties lt y) (take (a + 1) xs) ≡ count_by (ties lt y) (take a xs) + 1 =
    count_by_more_yes (ties lt y) xs a d (omega (arith, less, within)) here in
    let more : count_by (ties lt y) (take (a + 1) xs) ≤ count_by (ties lt y) (take b xs) =
    count_more (ties lt y) xs (a + 1) b (omega (arith, less)) in
    omega (arith, lesser, alike, one, more)

pub before_order : IsStrictWeakOrder is_before
before_order = ranks_by nat_list_cmp_total (λ (rule : SheetRuleText). rule_key rule)

not_before_itself : (k : List ℕ) → is_lt (slice_cmp nat_cmp k k) ≡ false
not_before_itself k = by (slice_cmp nat_cmp k k) (nat_list_cmp_total.antisymm k k)
  where
    by : (o : Ordering) → o ≡ ordering_reverse o → is_lt o ≡ false
    by Less e = absurd (cc)
    by Equal e = refl
    by Greater e = refl

pub earlier : (holds : List ℕ → List ℕ → Bool) (sheets : List SheetText) (i j : ℕ) (r s : SheetRuleText) → i < j
    → j < length (source_rules holds sheets) → get_or (source_rules holds sheets) i r ≡ r
    → rule_key r ≡ rule_key s
    → rank_by is_before (source_rules holds sheets) i r < rank_by is_before (source_rules holds sheets) j s
earlier holds sheets i j r s less within at same =
    stable is_before (source_rules holds sheets) i j r s r less within at
    (λ z. ap (λ k. is_lt (slice_cmp nat_cmp (rule_key z) k)) same)
    (λ z. ap (λ k. is_lt (slice_cmp nat_cmp k (rule_key z))) same) (not_before_itself (rule_key r))
