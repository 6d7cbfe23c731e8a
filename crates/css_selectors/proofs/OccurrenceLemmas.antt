-- Orders of bytes, cuts of texts, and what occurrences are.
-- Serves `occurrences`.
use Rattle.std.proofs.Common.{◌≡◌, ⊎_elim, ℕ, zero, suc, ◌+◌, ◌-◌, ◌*◌, ◌<◌, ◌≤◌, refl, sym, ap, ◌∙◌, arith, Bool, true, false, ◌&&◌, ◌||◌, ◌==◌, List, [], ◌∷◌, length, max}
use Rattle.std.proofs.lemmas.Bool.{eqb-true, eq-eqb, false_from_ne_true, false≢true, cases_lt}
use Rattle.memchr.specs.Critical.{IsSuffixAt, IsCutPlace}
use Rattle.memchr.specs.TwoWay.{IsCut as IsTwoWayCut}
use Rattle.memchr.specs.declared.arch.all.twoway.Shift.TheVariants.{Large}
use Rattle.memchr.proofs.lemmas.CriticalLemmas.{IsCutPlace-of, IsCut-wide, IsCut-long, IsCut-small}
use Rattle.memchr.proofs.lemmas.SearchLemmas.{IsShift-large, IsShift-small}
use Rattle.css_selector_text.specs.AttributeTests.{begins, occurs_in, same_byte}
use Rattle.css_selectors.specs.internal.Occurrences.{folded, folded_at, OccursAt, IsBefore, IsCut}

pub IsBefore-trans : (reverse : Bool) (a b c : ℕ) → IsBefore reverse a b → IsBefore reverse b c
    → IsBefore reverse a c
unfolding IsBefore
IsBefore-trans false a b c p q = omega arith
IsBefore-trans true a b c p q = omega arith

pub IsBefore-irrefl : (reverse : Bool) (a : ℕ) → IsBefore reverse a a → ⊥
unfolding IsBefore
IsBefore-irrefl false a p = omega arith
IsBefore-irrefl true a p = omega arith

IsBefore-opposed : (a b : ℕ) → IsBefore false a b → IsBefore true a b → ⊥
unfolding IsBefore
IsBefore-opposed a b p q = omega arith

same-number : (a b : ℕ) → (a < b → false ≡ true) → (b < a → false ≡ true) → a ≡ b
same-number a b p q = ⊎_elim (λ less. absurd (false≢true (p less)))
    (λ most. ⊎_elim (λ less. absurd (false≢true (q less))) (λ least. omega arith) (cases_lt b a))
    (cases_lt a b)

-- neither of two bytes is found before the other: they are the same
pub IsBefore-same : (reverse : Bool) (a b : ℕ) → (IsBefore reverse a b → false ≡ true)
    → (IsBefore reverse b a → false ≡ true) → a ≡ b
unfolding IsBefore
IsBefore-same false a b p q = same-number a b p q
IsBefore-same true a b p q = same-number a b q p

module _ (x : ℕ → ℕ) (m one period other period2 : ℕ)
    (rising : IsSuffixAt (IsBefore false) x m one period)
    (falling : IsSuffixAt (IsBefore true) x m other period2) where
  -- the greatest suffix by the order of bytes is the later: there the text may be cut
  pub cut-rising : other ≤ one → IsCutPlace x m one period
  cut-rising later =
      let some = rising.some in
      let fits = rising.fits in
      IsCutPlace-of (IsBefore false) (IsBefore true) (IsBefore-trans false) (IsBefore-irrefl false)
      (IsBefore-irrefl true) IsBefore-opposed x m one other (omega (arith, some, fits)) rising.greatest
      falling.greatest later period rising

  -- the one by the reverse order is the later
  pub cut-falling : one ≤ other → IsCutPlace x m other period2
  cut-falling later =
      let some = falling.some in
      let fits = falling.fits in
      IsCutPlace-of (IsBefore true) (IsBefore false) (IsBefore-trans true) (IsBefore-irrefl true)
      (IsBefore-irrefl false) (λ a b p q. IsBefore-opposed a b q p) x m other one
      (omega (arith, some, fits)) falling.greatest rising.greatest later period2 falling

module _ (x : ℕ → ℕ) (m place period : ℕ) (h : IsCutPlace x m place period) where
  long : IsTwoWayCut x m place (Large (max place (m - place))) → IsCut x m place (max place (m - place))
  long cut =
      let shifts = IsShift-large place cut.shifts in
      record {
        below = cut.below;
        critical = cut.critical;
        moves = shifts.0;
        within = shifts.1;
        short = shifts.2;
      }

  -- the cut lies in the back half
  pub cut-wide : m ≤ place * 2 → IsCut x m place (max place (m - place))
  cut-wide wide = long (IsCut-wide x m place period h wide)

  -- what is before the cut does not repeat a period on
  pub cut-long : (((k : ℕ) → k < place → x k ≡ x (k + period)) → ⊥)
      → IsCut x m place (max place (m - place))
  cut-long differs = long (IsCut-long x m place period h differs)

  -- it repeats a period on
  pub cut-small : ((k : ℕ) → k < place → x k ≡ x (k + period)) → IsCut x m place period
  cut-small same =
      let cut = IsCut-small x m place period h same in
      let shifts = IsShift-small place cut.shifts in
      record {
        below = cut.below;
        critical = cut.critical;
        moves = shifts.0;
        within = shifts.2;
        short = shifts.4;
      }

none-before : (j : ℕ) → 0 + j ≡ j
none-before j = omega arith

one-before : (k j : ℕ) → suc k + j ≡ suc (k + j)
one-before k j = omega arith

or-true : (b : Bool) → (b || true) ≡ true
or-true true = refl
or-true false = refl

-- the texts are read alike, as far as the first goes
abbrev Reads : Bool → List ℕ → List ℕ → Type 0
Reads ignores text value =
    (j : ℕ) → j < length text → folded_at ignores value j ≡ folded_at ignores text j

module _ (ignores : Bool) where
  same-folded : (i : Bool) (a b : ℕ) → same_byte i a b ≡ (folded i a == folded i b)
  same-folded true a b = refl
  same-folded false a b = refl

  same-is : (a b : ℕ) → same_byte ignores a b ≡ true → folded ignores b ≡ folded ignores a
  same-is a b same =
      sym (eqb-true (folded ignores a) (folded ignores b) (sym (same-folded ignores a b) ∙ same))

  is-same : (a b : ℕ) → folded ignores b ≡ folded ignores a → same_byte ignores a b ≡ true
  is-same a b eq = same-folded ignores a b ∙ eq-eqb (folded ignores a) (folded ignores b) (sym eq)

  reads-cons : (x y : ℕ) (text value : List ℕ) → folded ignores y ≡ folded ignores x
      → Reads ignores text value → Reads ignores (x ∷ text) (y ∷ value)
  reads-cons x y text value first rest zero short = first
  reads-cons x y text value first rest (suc j) short = rest j (omega (arith, short))

  both : (a b : Bool) → (a && b) ≡ true → (a ≡ true) × (b ≡ true)
  both true b h = (refl, h)
  both false b h = absurd (cc)

  -- what a value begins with occurs at its start
  begins-occurs : (text value : List ℕ) → begins ignores text value ≡ true
      → OccursAt ignores text value 0
  begins-occurs [] value h = record {
    fits = omega arith;
    reads = λ j short. absurd (omega (arith, short));
  }
  begins-occurs (x ∷ text) [] h = absurd (cc)
  begins-occurs (x ∷ text) (y ∷ value) h =
      let parts = both (same_byte ignores x y) (begins ignores text value) h in
      let rest = begins-occurs text value parts.1 in
      let fits = rest.fits in
      let same : Reads ignores text value =
      λ j short. ap (folded_at ignores value) (sym (none-before j)) ∙ rest.reads j short in
      record {
        fits = omega (arith, fits);
        reads = λ j short. ap (folded_at ignores (y ∷ value)) (none-before j)
            ∙ reads-cons x y text value (same-is x y parts.0) same j short;
      }

  -- the value begins with what is read at its start
  reads-begins : (text value : List ℕ) → length text ≤ length value
      → Reads ignores text value → begins ignores text value ≡ true
  reads-begins [] value fits reads = refl
  reads-begins (x ∷ text) [] fits reads = absurd (omega (arith, fits))
  reads-begins (x ∷ text) (y ∷ value) fits reads =
      ap (λ b. b && begins ignores text value) (is-same x y (reads 0 (omega arith)))
      ∙ reads-begins text value (omega (arith, fits))
      (λ j short. reads (suc j) (omega (arith, short)))

  later : (b : ℕ) (text value : List ℕ) (k : ℕ) → OccursAt ignores text value k
      → OccursAt ignores text (b ∷ value) (suc k)
  later b text value k o =
      let fits = o.fits in
      record {
        fits = omega (arith, fits);
        reads = λ j short. ap (folded_at ignores (b ∷ value)) (one-before k j) ∙ o.reads j short;
      }

  -- what occurs at an index occurs
  pub occurs-at : (text value : List ℕ) (k : ℕ) → 0 < length text → OccursAt ignores text value k
      → occurs_in ignores text value ≡ true
  occurs-at text [] k some o =
      let fits = o.fits in
      absurd (omega (arith, some, fits))
  occurs-at text (b ∷ value) zero some o =
      let fits = o.fits in
      ap (λ c. c || occurs_in ignores text value)
      (reads-begins text (b ∷ value) (omega (arith, fits))
      (λ j short. ap (folded_at ignores (b ∷ value)) (sym (none-before j)) ∙ o.reads j short))
  occurs-at text (b ∷ value) (suc k) some o =
      let fits = o.fits in
      let rest = occurs-at text value k some (record {
        fits = omega (arith, fits);
        reads = λ j short.
            ap (folded_at ignores (b ∷ value)) (sym (one-before k j)) ∙ o.reads j short;
      }) in
      ap (λ c. begins ignores text (b ∷ value) || c) rest
      ∙ or-true (begins ignores text (b ∷ value))

  -- what occurs at no index does not occur
  pub occurs-nowhere : (text value : List ℕ) → ((k : ℕ) → OccursAt ignores text value k → ⊥)
      → occurs_in ignores text value ≡ false
  occurs-nowhere text [] none = refl
  occurs-nowhere text (b ∷ value) none =
      ap (λ c. c || occurs_in ignores text value)
      (false_from_ne_true (begins ignores text (b ∷ value))
      (λ is. none 0 (begins-occurs text (b ∷ value) is)))
      ∙ occurs-nowhere text value (λ k o. none (suc k) (later b text value k o))
