use Rattle.std.proofs.Common.{◌≡◌, ◌<◌, length, get_or, drop, ap, ◌∙◌, subst, arith}
use Rattle.std.specs.Prelude.{IsTrue, Contains, nat_lt, false}
use Rattle.std.proofs.lemmas.Bool.Decides.{nat_tests}
use Rattle.css_open_elements.specs.internal.{numbers_of}
use Rattle.css_open_elements.proofs.Places.{contains_dropped}
use Rattle.css_open_elements.proofs.numbers.Numbers.is_since.Goals as goal

pub returns-in-Some : goal.returns-in-Some
returns-in-Some c =
    let lasts = c.self.inside.lasts.items in
    let listed = numbers_of c.self.inside.listed.items in
    let number = c.args.number in
    let len = c.args.len in
    let value : c.in-Some.last.now ≡ get_or lasts number 0 =
    c.in-Some.ensures.lookup.3.1 0 ∙ ap (λ xs. get_or xs number 0) c.deref.ensures.value in
    let is = c.self.invariant.lasts_are number
    (subst (λ xs. number < length xs) c.deref.ensures.value c.in-Some.ensures.lookup.3.0) len in
    subst (λ v. (IsTrue (nat_lt len c.in-Some.last.now) → Contains (drop len v.listed) number)
    × (Contains (drop len v.listed) number → IsTrue (nat_lt len c.in-Some.last.now))) c.self.view_is (
      λ h. is.0 (let lt : len < c.in-Some.last.now = grind (arith, nat_tests, h) in omega (arith, lt, value)),
      λ h. let some = is.1 h in grind (arith, nat_tests, value, some),
    )

pub returns-in-None : goal.returns-in-None
returns-in-None c =
    let number = c.args.number in
    let len = c.args.len in
    let outside = c.in-None.ensures.lookup.0 in
    let size = ap length c.deref.ensures.value in
    subst (λ v. (IsTrue false → Contains (drop len v.listed) number)
    × (Contains (drop len v.listed) number → IsTrue false))
    c.self.view_is (
      λ h. absurd (grind (arith, nat_tests, h)),
      λ h. let lt = c.self.invariant.within number
          (contains_dropped (numbers_of c.self.inside.listed.items) len number h) in
          absurd (grind (arith, nat_tests, outside, size, lt)),
    )
