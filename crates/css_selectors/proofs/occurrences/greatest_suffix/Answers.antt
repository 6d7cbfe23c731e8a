use Rattle.std.proofs.Common.{◌≡◌, ◌+◌, ◌-◌, ℕ, Bool, length, sym, subst, ◌∙◌, arith, refl}
use Rattle.memchr.proofs.lemmas.SuffixLemmas.{IsScan, IsScan-start, IsScan-accept, IsScan-skip, IsScan-push, IsScan-block, IsScan-end}
use Rattle.css_selectors.specs.internal.Occurrences.{IsBefore, folded_at}
use Rattle.css_selectors.proofs.OccurrenceLemmas.{IsBefore-trans, IsBefore-irrefl, IsBefore-same}
use Rattle.css_selectors.proofs.occurrences.greatest_suffix.Goals as goal

-- what is before what, for the two bytes as they are read
before : (reverse : Bool) {one other a b : ℕ} → one ≡ a → other ≡ b → IsBefore reverse one other
    → IsBefore reverse a b
before reverse {one} {other} {a} {b} is also less =
    subst (λ v. IsBefore reverse v b) is (subst (IsBefore reverse one) also less)

pub loop-candidate-init : goal.loop-candidate-init
loop-candidate-init c =
    let r = c.args.reverse in
    IsScan-start (IsBefore r) (IsBefore-trans r) (IsBefore-irrefl r) _ _ c.requires

pub loop-candidate-preserved-then-is_before : goal.loop-candidate-preserved-then-is_before
loop-candidate-preserved-then-is_before c =
    let r = c.args.reverse in
    let x = folded_at c.args.ignores_case c.args.text.now in
    let won = before r c.folded_at-own.ensures c.folded_at-other.ensures (c.if-is_before.ensures.0 refl) in
    IsScan-accept (IsBefore r) (IsBefore-trans r) (IsBefore-irrefl r) x _ c.loop-candidate.invariant
    c.loop-candidate-test.true won

pub loop-candidate-preserved-then-is_before-2 : goal.loop-candidate-preserved-then-is_before-2
loop-candidate-preserved-then-is_before-2 c =
    let r = c.args.reverse in
    let s = c.loop-candidate in
    let x = folded_at c.args.ignores_case c.args.text.now in
    let m = length c.args.text.now in
    let lost =
    before r c.folded_at-other.ensures c.folded_at-own.ensures (c.if-is_before-2.ensures.0 refl) in
    let moved : s.candidate + s.offset + 1 ≡ s.candidate + (s.offset + 1) = omega arith in
    subst (λ k. IsScan (IsBefore r) x m s.place (k - s.place) k 0) moved
    (IsScan-skip (IsBefore r) (IsBefore-trans r) (IsBefore-irrefl r) x m s.invariant
    c.loop-candidate-test.true lost)

pub loop-candidate-preserved-then-offset-period : goal.loop-candidate-preserved-then-offset-period
loop-candidate-preserved-then-offset-period c =
    let r = c.args.reverse in
    let eq = sym c.folded_at-own.ensures
    ∙ IsBefore-same r _ _ c.if-is_before.ensures.1 c.if-is_before-2.ensures.1
    ∙ c.folded_at-other.ensures in
    IsScan-block (IsBefore r) (IsBefore-trans r) (IsBefore-irrefl r) _ _ c.loop-candidate.invariant
    c.loop-candidate-test.true eq c.if-offset-period.true

pub loop-candidate-preserved : goal.loop-candidate-preserved
loop-candidate-preserved c =
    let r = c.args.reverse in
    let short = c.loop-candidate.invariant.short in
    let differs = c.if-offset-period.false in
    let eq = sym c.folded_at-own.ensures
    ∙ IsBefore-same r _ _ c.if-is_before.ensures.1 c.if-is_before-2.ensures.1
    ∙ c.folded_at-other.ensures in
    IsScan-push (IsBefore r) (IsBefore-trans r) (IsBefore-irrefl r) _ _ c.loop-candidate.invariant
    c.loop-candidate-test.true eq (omega (arith, short, differs))

pub returns : goal.returns
returns c =
    let r = c.args.reverse in
    let within = c.loop-candidate.invariant.within in
    let ended = c.loop-candidate-test.false in
    IsScan-end (IsBefore r) (IsBefore-trans r) (IsBefore-irrefl r) _ _ c.loop-candidate.invariant
    (omega (arith, within, ended))
