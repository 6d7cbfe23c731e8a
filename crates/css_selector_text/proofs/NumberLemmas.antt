-- The numbers that `An+B` names, found by a division.
-- Serves `Progression::has`.
use Rattle.std.proofs.Common.{◌≡◌, ◌↔◌, ℕ, ◌+◌, ◌-◌, ◌*◌, ◌/◌, ◌%◌, ◌≤◌, ◌==◌, ◌&&◌, nat_le, Bool, true, false, if◌then◌else◌, IsTrue, refl, sym, ap, ◌∙◌, arith, eqb-true, eq-eqb}
use Rattle.std.proofs.Math.Nat.{mul-mod_right}
use Rattle.std.proofs.lemmas.Nat.{div-add-mod'}
use Rattle.std.proofs.lemmas.Bool.Decides.{nat_tests}
use Rattle.css_selector_text.specs.Components.{Progression}
use Rattle.css_selector_text.specs.reading.Numbers.{above, below, IsNumbered, is_multiple, is_steps, is_numbered}

quotient : (size d : ℕ) (t : Bool) → (size == 0) ≡ t
    → (if t then d == 0 else d % size == 0) ≡ true → (n : ℕ) × (size * n ≡ d)
quotient size d true e h = (0, omega (arith, eqb-true d 0 h))
quotient size d false e h =
    (d / size, omega (arith, eqb-true (d % size) 0 h, div-add-mod' d size))

product : (size n d : ℕ) (t : Bool) → (size == 0) ≡ t → size * n ≡ d
    → (if t then d == 0 else d % size == 0) ≡ true
product size n d true e h =
    let z = ap (λ s. s * n) (eqb-true size 0 e) in eq-eqb d 0 (omega (arith, z, h))
product size n d false e h = eq-eqb (d % size) 0 (ap (λ x. x % size) (sym h) ∙ mul-mod_right size n)

both : (a b : Bool) → (a && b) ≡ true → (a ≡ true) × (b ≡ true)
both true b h = (refl, h)
both false b h = absurd (cc)

joined : (a b : Bool) → a ≡ true → b ≡ true → (a && b) ≡ true
joined true b h k = k
joined false b h k = absurd (cc)

pub steps_mean : (size low high : ℕ)
    → IsTrue (is_steps size low high) ↔ ((n : ℕ) × (low + size * n ≡ high))
steps_mean size low high = (forth, back)
  where
    forth : IsTrue (is_steps size low high) → (n : ℕ) × (low + size * n ≡ high)
    forth h =
        let parts = both (nat_le low high) (is_multiple size (high - low)) h in
        let le : low ≤ high = grind (arith, nat_tests, parts.0) in
        let q = quotient size (high - low) (size == 0) refl parts.1 in (q.0, omega (arith, q.1, le))

    back : (n : ℕ) × (low + size * n ≡ high) → IsTrue (is_steps size low high)
    back h =
        let w = h.1 in let le : low ≤ high = omega (arith, w) in
        joined (nat_le low high) (is_multiple size (high - low)) (grind (arith, nat_tests, le))
        (product size h.0 (high - low) (size == 0) refl (omega (arith, w)))

numbered_by : (negative : Bool) (size number b a : ℕ)
    → IsTrue (if negative then is_steps size (number + b) a else is_steps size a (number + b))
    ↔ ((n : ℕ)
    × (number + (if negative then size else 0) * n + b ≡ (if negative then 0 else size) * n + a))
numbered_by true size number b a =
    let s = steps_mean size (number + b) a in
    (λ h. let w = s.0 h in (w.0, omega (arith, w.1)), λ h. s.1 (h.0, omega (arith, h.1)))
numbered_by false size number b a =
    let s = steps_mean size a (number + b) in
    (λ h. let w = s.0 h in (w.0, omega (arith, w.1)), λ h. s.1 (h.0, omega (arith, h.1)))

pub numbered_means : (p : Progression) (number : ℕ)
    → IsTrue (is_numbered p number) ↔ IsNumbered p number
numbered_means p number =
    numbered_by p.step.is_negative p.step.size number (below p.offset) (above p.offset)
