use Rattle.std.proofs.Common.{◌≡◌, ◌<◌, ℕ, List, [], ◌∷◌, length, vec_len, eqb-true, arith, refl, sym, ◌∙◌, subst}
use Rattle.std.specs.List.{All}
use Rattle.css_tree.specs.Keys.{HasKinds}
use Rattle.css_tree.specs.Pages.{namespace_at}
use Rattle.css_tree.proofs.KindLemmas.{kinds-unspaced, none_spaced}
use Rattle.css_tree.proofs.Numbering.{kinds_within}
use Rattle.css_tree.proofs.numbered_tree.NumberedTree.set_namespaces.Goals as goal

nothing : (xs : List ℕ) → length xs ≡ 0 → xs ≡ []
nothing [] is = refl
nothing (x ∷ xs) is = absurd (omega (arith, is))

pub invariant_of-self : goal.invariant_of-self
invariant_of-self c =
    let i = c.self.invariant in
    let rows = c.self.inside.tree.now in
    let count = eqb-true (vec_len c.self.inside.namespaces) 0
    (sym c.is_empty.ensures ∙ c.if-is_empty.true) in
    let all = c.self.inside.namespaces.ok.0 in
    let empty : c.self.inside.namespaces.items ≡ [] =
    nothing c.self.inside.namespaces.items (omega (arith, count, all)) in
    let none : (k : ℕ) → namespace_at c.args.namespaces.items k ≡ 0 =
    subst (λ ns. (k : ℕ) → namespace_at ns k ≡ 0) c.deref.ensures.value
    (none_spaced c.deref.result.now (c.are_in_none.ensures.0 c.if-are_in_none.true)) in (
      i.0,
      kinds-unspaced rows c.args.namespaces.items c.self.inside.kinds (length rows) none
          (subst (λ ns. HasKinds rows ns c.self.inside.kinds (length rows)) empty i.1),
      i.2,
      i.3,
      i.4,
      i.5,
      i.6,
    )

pub new-requires-clause-within : goal.new-requires-clause-within
new-requires-clause-within c =
    subst (λ n. All (λ number. number < n) c.in_ok-kinds.kinds.items) (sym c.len.ensures)
    (kinds_within c.self.inside.tree.now c.as_slice.result.now c.in_ok-kinds.kinds.items
    c.in_ok-kinds.ensures)
