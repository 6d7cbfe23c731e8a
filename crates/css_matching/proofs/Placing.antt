-- There is a placement exactly if the parts can be placed from the last one on.
-- Serves the contract of `matches`.
use Rattle.std.proofs.Common.{◌≡◌, ℕ, zero, suc, ◌+◌, ◌≤◌, ◌↔◌, cond, refl, sym, subst, arith, add-one}
use Rattle.std.proofs.Math.Decide.{dec_lt}
use Rattle.std.proofs.Math.Dec.{leb}
use Rattle.std.proofs.lemmas.Bool.{le-leb, lt-leb}
use Rattle.css_matching.specs.declared.Combinator.{Combinator}
use Rattle.css_matching.specs.Trees.{Tree}
use Rattle.css_matching.specs.Placements.{Relates, IsPlacement, HasPlacement}
use Rattle.css_matching.specs.internal.Search.{Reaches}

module _ {Node : Type 0} (tree : Tree Node) (combinator : ℕ → Combinator)
    (Meets : ℕ → Node → Type 0) where
  reaches_from : (last : ℕ) (end : Node) (place : ℕ → Node)
      → IsPlacement tree combinator Meets last end place → (q : ℕ) → q ≤ last
      → Reaches tree combinator Meets q (place q)
  reaches_from last end place p zero h = (p.meets 0 h, tt)
  reaches_from last end place p (suc q) h = (
    p.meets (suc q) h,
    (
      place q,
      rw add-one at (p.relates q (omega (arith, h))),
      reaches_from last end place p q (omega (arith, h)),
    ),
  )

  -- the same nodes up to `q`, and then another
  abbrev then_node : ℕ → (ℕ → Node) → Node → ℕ → Node
  then_node q place n k = cond (leb k q) (place k) n

  kept : (q : ℕ) (place : ℕ → Node) (n : Node) (k : ℕ) → k ≤ q → then_node q place n k ≡ place k
  kept q place n k h = rw (le-leb k q h) refl

  added : (q : ℕ) (place : ℕ → Node) (n : Node) → then_node q place n (suc q) ≡ n
  added q place n = rw (lt-leb (suc q) q (omega arith)) refl

  placement_from : (q : ℕ) (n : Node) → Reaches tree combinator Meets q n
      → HasPlacement tree combinator Meets q n
  placement_from zero n h = (
    λ k. n,
    record {
      meets = λ k le. (let e : 0 ≡ k = omega (arith, le) in subst (λ x. Meets x n) e h.0);
      relates = λ k lt. absurd (omega (arith, lt));
      ends = refl;
    },
  )
  placement_from (suc q) n h =
      let m = h.1.0 in
      let r = placement_from q m h.1.2 in
      let place = then_node q r.0 n in (
        place,
        record {
          meets = λ k le. elim (dec_lt q k) [
            | yes more ↦ (let e : suc q ≡ k = omega (arith, le, more) in
                subst (λ x. Meets x (place x)) e (subst (Meets (suc q)) (sym (added q r.0 n)) h.0))
            | no less ↦ subst (Meets k) (sym (kept q r.0 n k (omega (arith, less))))
                (r.1.meets k (omega (arith, less)))
          ];
          relates = λ k lt. elim (dec_lt k q) [
            | yes less ↦ (let a = kept q r.0 n k (omega (arith, less)) in
                let b = kept q r.0 n (k + 1) (omega (arith, less)) in
                rw (a, b) (r.1.relates k less))
            | no more ↦ (let e : q ≡ k = omega (arith, more, lt) in
                subst (λ x. Relates tree (combinator (x + 1)) (place x) (place (x + 1))) e
                (rw (kept q r.0 n q (omega arith), add-one, added q r.0 n, r.1.ends) h.1.1))
          ];
          ends = added q r.0 n;
        },
      )

  pub placement_is : (last : ℕ) (end : Node)
      → HasPlacement tree combinator Meets last end ↔ Reaches tree combinator Meets last end
  placement_is last end = (
    λ h. subst (Reaches tree combinator Meets last) h.1.ends
        (reaches_from last end h.0 h.1 last (omega arith)),
    placement_from last end,
  )
