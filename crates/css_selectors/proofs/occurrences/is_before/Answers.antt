use Rattle.std.proofs.Common.{◌≡◌, ℕ, Bool, true, false, IsTrue}
use Rattle.std.proofs.Math.Dec.{ltb}
use Rattle.std.proofs.lemmas.Bool.{ltb-true, lt-ltb}
use Rattle.css_selectors.specs.internal.Occurrences.{IsBefore}
use Rattle.css_selectors.proofs.occurrences.is_before.Goals as goal

both-ways : (reverse : Bool) (a b : ℕ) → reverse ≡ false
    → (IsTrue (ltb a b) → IsBefore reverse a b) × (IsBefore reverse a b → IsTrue (ltb a b))
unfolding IsBefore
both-ways false a b is = (ltb-true a b, lt-ltb a b)
both-ways true a b is = absurd (cc)

both-ways-back : (reverse : Bool) (a b : ℕ) → reverse ≡ true
    → (IsTrue (ltb b a) → IsBefore reverse a b) × (IsBefore reverse a b → IsTrue (ltb b a))
unfolding IsBefore
both-ways-back true a b is = (ltb-true b a, lt-ltb b a)
both-ways-back false a b is = absurd (cc)

pub returns-then-reverse : goal.returns-then-reverse
returns-then-reverse c = both-ways-back c.args.reverse _ _ c.if-reverse.true

pub returns-else-reverse : goal.returns-else-reverse
returns-else-reverse c = both-ways c.args.reverse _ _ c.if-reverse.false
