use Rattle.std.proofs.Common.{◌≡◌, ℕ, zero, suc, ◌+◌, ◌<◌, ◌⊎◌, inl, inr, length, Some, refl, sym, ap, ◌∙◌, subst, rules, arith}
use Rattle.std.specs.List.{slice_get}
use Rattle.std.proofs.lemmas.Option.{slice_get_cases, slice_get_read}
use Rattle.css_selectors.specs.Meanings.{Matches}
use Rattle.css_tree.specs.Pages.{page_document}
use Rattle.page_calls.proofs.modern.ranges.is_matched.Goals as goal

some_same : {A : Type 0} {x y : A} → Some x ≡ Some y → x ≡ y
some_same e = cc

before_or_last : (k n : ℕ) → k < n + 1 → (k < n) ⊎ (k ≡ n)
before_or_last zero zero lt = inr refl
before_or_last zero (suc n) lt = inl (omega arith)
before_or_last (suc k) zero lt = absurd (omega (arith, lt))
before_or_last (suc k) (suc n) lt =
    elim (before_or_last k n (omega (arith, lt))) [
      | inl less ↦ inl (omega (arith, less))
      | inr same ↦ inr (ap suc same)
    ]

-- this selector does not match either
pub loop-selector-preserved : goal.loop-selector-preserved
loop-selector-preserved c = λ index within m.
    let at = c.loop-selector.selector-index in
    let selectors = c.args.selectors.now in
    let selector = c.selector-item.result in
    let there : slice_get selectors at ≡ Some selector =
    slice_get_read selectors (length selectors) at selector refl c.loop-selector-test.true c.selector-item.is in
    elim (before_or_last index at within) [
      | inl less ↦ c.loop-selector.invariant index less m
      | inr same ↦
          (let is : m.0 ≡ selector = some_same (sym m.1 ∙ (ap (slice_get selectors) same ∙ there)) in
          let yes = c.matches_counted.ensures.answer.1 (subst (λ s. Matches page_document s c.args.node.now) is m.2) in
          let no = c.if-matches_counted.false in
          cc)
    ]

pub returns : goal.returns
returns c = (
  λ t. absurd (cc),
  λ m. absurd (elim (slice_get_cases c.args.selectors.now m.0).1 [
    | inl there ↦ c.loop-selector.invariant m.0 (search rules) m.1
    | inr past ↦ (let none = past.1 in let some = m.1.1 in cc)
  ]),
)
