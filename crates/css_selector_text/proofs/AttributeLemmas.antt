-- What the tests of attribute values say of lengths.
-- Serves `attributes::begins`.
use Rattle.std.proofs.Common.{◌≡◌, ℕ, ◌<◌, ◌≤◌, refl, Bool, true, false, ◌&&◌, List, [], ◌∷◌, length, IsTrue, arith}
use Rattle.css_selector_text.specs.AttributeTests.{begins, same_byte}

second : (a b : Bool) → (a && b) ≡ true → b ≡ true
second true b h = h
second false b h = absurd (cc)

pub begins_within : (ignores : Bool) (text value : List ℕ) → IsTrue (begins ignores text value)
    → length text ≤ length value
begins_within ignores [] value h = omega arith
begins_within ignores (x ∷ text) [] h = absurd (cc)
begins_within ignores (x ∷ text) (y ∷ value) h =
    let r =
    begins_within ignores text value (second (same_byte ignores x y) (begins ignores text value) h)
    in omega (arith, r)

pub begins_nothing : (ignores : Bool) (text value : List ℕ) → length text < 1
    → begins ignores text value ≡ true
begins_nothing ignores [] value short = refl
begins_nothing ignores (x ∷ text) value short = absurd (omega (arith, short))
