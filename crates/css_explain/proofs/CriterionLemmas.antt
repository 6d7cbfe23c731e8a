-- What a criterion says of two declarations is what the cascade says.
-- Serves `laws::explain_law`.
use Rattle.std.proofs.Common.{◌≡◌, ℕ, ◌<◌, Bool, true, false, refl, sym, ap, ◌∙◌, eqb-true, eq-eqb}
use Rattle.std.specs.Prelude.{◌&&◌, ◌==◌, if◌then◌else◌, List, nat_eq}
use Rattle.std.specs.Bool.{beq}
use Rattle.std.specs.Cmp.Lexicographic.{pointwise, slice_cmp}
use Rattle.std.specs.declared.cmp.Ordering.{Ordering}
use Rattle.std.specs.declared.cmp.Ordering.TheVariants.{Less, Equal, Greater}
use Rattle.std.specs.Ordering.{MatchOrdering, bool_cmp, is_eq, nat_cmp, ordering_then}
use Rattle.std.proofs.lemmas.Cmp.{nat_cmp_total, ranked, tied_itself}
use Rattle.std.proofs.lemmas.Map.Text.{is_eq-slice_cmp}
use Rattle.css_cascade.specs.Cascade.{Weighed, cascade_cmp, important_layer, important_origin, normal_layer, normal_origin, origin_rank}
use Rattle.css_explain.specs.Explanations.{criterion, has_same_origin, order_by}
use Rattle.css_explain.specs.declared.criterion.Criterion.{Criterion}
use Rattle.css_explain.specs.declared.criterion.Criterion.TheVariants.{OriginAndImportance, StyleAttribute, Layers, Specificity, Order}

then-within : (r s t : Ordering) → ordering_then (ordering_then r s) t ≡ ordering_then r (ordering_then s t)
then-within Less s t = refl
then-within Equal s t = refl
then-within Greater s t = refl

both-tied : (r s : Ordering) → ordering_then r s ≡ Equal → (r ≡ Equal) × (s ≡ Equal)
both-tied Less s e = absurd (cc)
both-tied Equal s e = (refl, e)
both-tied Greater s e = absurd (cc)

then-tied : (r s : Ordering) → r ≡ Equal → s ≡ Equal → ordering_then r s ≡ Equal
then-tied r s e f = ap (λ o. ordering_then o s) e ∙ f

nat-alike : (m n : ℕ) → nat_cmp m n ≡ Equal → m ≡ n
nat-alike m n e = by (nat_cmp m n) (ranked m n (nat_cmp m n) refl) e
  where
    by : (r : Ordering) → MatchOrdering r (m < n) (m ≡ n) (n < m) → r ≡ Equal → m ≡ n
    by Less h e = absurd (cc)
    by Equal h e = h
    by Greater h e = absurd (cc)

nat-tied : (m n : ℕ) → m ≡ n → nat_cmp m n ≡ Equal
nat-tied m n e = ap (nat_cmp m) (sym e) ∙ tied_itself nat_cmp_total m

-- the test says whether the comparison tells two apart
record Tells (t : Bool) (r : Ordering) : Type 0 where
  tied : t ≡ true → r ≡ Equal
  alike : r ≡ Equal → t ≡ true

-- a criterion decides, where its test fails, and else those after it
choose : (by : Criterion → Ordering) (t : Bool) (next here : Criterion) (r rest : Ordering) → Tells t r
    → by here ≡ r → (t ≡ true → by next ≡ rest) → by (if t then next else here) ≡ ordering_then r rest
choose by true next here r rest tells is later =
    later refl ∙ sym (ap (λ o. ordering_then o rest) (tells.tied refl))
choose by false next here r rest tells is later = is ∙ apart r tells.alike
  where
    apart : (o : Ordering) → (o ≡ Equal → false ≡ true) → o ≡ ordering_then o rest
    apart Less h = refl
    apart Equal h = absurd (let no : false ≡ true = h refl in cc)
    apart Greater h = refl

-- of two that are as important, their ranks, which important ones turn around
ranks-tell : (s t : Bool) (m n : ℕ) → s ≡ t
    → Tells (m == n) (ordering_then (nat_cmp (if s then 0 else m) (if t then 0 else n))
    (nat_cmp (if t then n else 0) (if s then m else 0)))
ranks-tell true true m n e = record {
  tied = λ h. then-tied (nat_cmp 0 0) (nat_cmp n m) refl (nat-tied n m (sym (eqb-true m n h)));
  alike = λ h. eq-eqb m n (sym (nat-alike n m (both-tied (nat_cmp 0 0) (nat_cmp n m) h).1));
}
ranks-tell true false m n e = absurd (cc)
ranks-tell false true m n e = absurd (cc)
ranks-tell false false m n e = record {
  tied = λ h. then-tied (nat_cmp m n) (nat_cmp 0 0) (nat-tied m n (eqb-true m n h)) refl;
  alike = λ h. eq-eqb m n (nat-alike m n (both-tied (nat_cmp m n) (nat_cmp 0 0) h).0);
}

tests-tell : (s t : Bool) → Tells (beq s t) (bool_cmp s t)
tests-tell true true = record { tied = λ h. refl; alike = λ h. refl }
tests-tell true false = record { tied = λ h. absurd (cc); alike = λ h. absurd (cc) }
tests-tell false true = record { tied = λ h. absurd (cc); alike = λ h. absurd (cc) }
tests-tell false false = record { tied = λ h. refl; alike = λ h. refl }

-- two tests, the second of which tells where the first does
both-tell : (t u : Bool) (r s : Ordering) → Tells t r → (t ≡ true → Tells u s)
    → Tells (t && u) (ordering_then r s)
both-tell true u r s first second = record {
  tied = λ h. then-tied r s (first.tied refl) ((second refl).tied h);
  alike = λ h. (second refl).alike (both-tied r s h).1;
}
both-tell false u r s first second = record {
  tied = λ h. absurd (cc);
  alike = λ h. first.alike (both-tied r s h).0;
}

beq-same : (s t : Bool) → beq s t ≡ true → s ≡ t
beq-same true true e = refl
beq-same true false e = absurd (cc)
beq-same false true e = absurd (cc)
beq-same false false e = refl

and-first : (t u : Bool) → (t && u) ≡ true → t ≡ true
and-first true u e = refl
and-first false u e = absurd (cc)

eq-tells : (r : Ordering) → Tells (is_eq r) r
eq-tells Less = record { tied = λ h. absurd (cc); alike = λ h. absurd (cc) }
eq-tells Equal = record { tied = λ h. refl; alike = λ h. refl }
eq-tells Greater = record { tied = λ h. absurd (cc); alike = λ h. absurd (cc) }

texts-tell : (xs ys : List ℕ) → Tells (pointwise nat_eq xs ys) (slice_cmp nat_cmp xs ys)
texts-tell xs ys =
    let told = eq-tells (slice_cmp nat_cmp xs ys) in
    record {
      tied = λ h. told.tied (is_eq-slice_cmp xs ys ∙ h);
      alike = λ h. sym (is_eq-slice_cmp xs ys) ∙ told.alike h;
    }

pub decides : (a b : Weighed) → order_by (criterion a b) a b ≡ cascade_cmp a b
decides a b =
    choose by (has_same_origin a b) _ OriginAndImportance origins _
    (both-tell (beq a.important b.important) (origin_rank a.origin == origin_rank b.origin) important _
    (tests-tell a.important b.important)
    (λ h. ranks-tell a.important b.important (origin_rank a.origin) (origin_rank b.origin)
    (beq-same a.important b.important h))) refl
    (λ same. choose by (beq a.attached b.attached) _ StyleAttribute attached _
    (tests-tell a.attached b.attached) refl
    (λ h. choose by (a.layer == b.layer) _ Layers layers _
    (ranks-tell a.important b.important a.layer b.layer
    (beq-same a.important b.important (and-first (beq a.important b.important) _ same))) refl
    (λ h. choose by (pointwise nat_eq a.specificity b.specificity) Order Specificity specific places
    (texts-tell a.specificity b.specificity) refl (λ h. refl))))
    ∙ then-within important (ordering_then normal turned)
    (ordering_then attached (ordering_then layers (ordering_then specific places)))
    ∙ ap (ordering_then important)
    (then-within normal turned (ordering_then attached (ordering_then layers (ordering_then specific places)))
    ∙ ap (λ o. ordering_then normal (ordering_then turned (ordering_then attached o)))
    (then-within normal-layers turned-layers (ordering_then specific places)))
  where
    by : Criterion → Ordering
    by c = order_by c a b

    important : Ordering
    important = bool_cmp a.important b.important

    normal : Ordering
    normal = nat_cmp (normal_origin a) (normal_origin b)

    turned : Ordering
    turned = nat_cmp (important_origin b) (important_origin a)

    origins : Ordering
    origins = ordering_then important (ordering_then normal turned)

    attached : Ordering
    attached = bool_cmp a.attached b.attached

    normal-layers : Ordering
    normal-layers = nat_cmp (normal_layer a) (normal_layer b)

    turned-layers : Ordering
    turned-layers = nat_cmp (important_layer b) (important_layer a)

    layers : Ordering
    layers = ordering_then normal-layers turned-layers

    specific : Ordering
    specific = slice_cmp nat_cmp a.specificity b.specificity

    places : Ordering
    places = slice_cmp nat_cmp a.place b.place
