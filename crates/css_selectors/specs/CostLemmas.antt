-- What a selector costs on a node is no less than on its parent or its previous sibling.
-- Serves the law of costs.
use Rattle.std.proofs.Common.{◌≡◌, ℕ, ◌+◌, ◌-◌, ◌*◌, ◌≤◌, Bool, true, false, IsTrue, Option, Some, None, IfSome, refl, sym, ◌∙◌, ap, arith, add-one}
use Rattle.std.proofs.lemmas.Bool.{false≢true}
use Rattle.std.proofs.Math.Nat.{mul-le-mul_left, mul-le-mul_right}
use Rattle.std.specs.Option.{option_map_or}
use Rattle.css_matching.specs.Bounds.{longest_fixed, longest_free, most_levels, width}
use Rattle.css_matching.specs.Trees.{Counts, SiblingsShareParent, IsMonotone}
use Rattle.css_matching.proofs.Steps.{count_less, sibling_parent}
use Rattle.css_selectors.specs.Documents.{Document, shape}
use Rattle.css_selector_text.specs.Components.{Condition, Conditions, Parts, Selectors}
use Rattle.css_selector_text.specs.Components.Condition.{simple, negation, any_of, where_any, tested}
use Rattle.css_selector_text.specs.Components.Conditions.{end_of_compound, with_condition}
use Rattle.css_selector_text.specs.Components.Parts.{end_of_selector, with_part}
use Rattle.css_selector_text.specs.Components.Selectors.{end_of_list, with_selector}
use Rattle.css_selectors.specs.Meanings.{combinator_at, part_count}
use Rattle.css_selectors.specs.Costs.{most_questions, condition_cost, compound_cost, dearest_part, list_cost, selector_cost_by, IsPlain, ArePlain, HasPlainParts, IsPlainList, most_tests}
use Rattle.css_selector_text.specs.reading.SearchCounts.{is_lone}

product-le : (a b c e : ℕ) → a ≤ b → c ≤ e → a * c ≤ b * e
product-le a b c e h k =
    let p = mul-le-mul_right c h in let q = mul-le-mul_left b k in omega (arith, p, q)

selector-le : (b : Bool) (q r a c : ℕ) → q ≤ r → a ≤ c
    → selector_cost_by b q a ≤ selector_cost_by b r c
selector-le true q r a c h k = k
selector-le false q r a c h k = product-le q r (a + 1) (c + 1) h (omega (arith, k))

module _ {Node : Type 0} (d : Document Node) where
  -- the first node has no more ancestors, and no more earlier siblings of these, than the second
  record IsLighter (m n : Node) : Type 0 where
    depth : d.depth m ≤ d.depth n
    width : width (shape d) (d.depth m + 1) m ≤ width (shape d) (d.depth n + 1) n

  module _ (m n : Node) (h : IsLighter m n) where
    questions-le : (parts : Parts) → most_questions d parts m ≤ most_questions d parts n
    questions-le parts =
        let k = combinator_at parts in
        let last = part_count parts - 1 in
        let more : d.depth m + 1 ≤ d.depth n + 1 = (let a = h.depth in omega arith) in
        let a = mul-le-mul_left (longest_fixed k last) more in
        let b = mul-le-mul_left (longest_free k last) (mul-le-mul_left (most_levels k last) h.width) in
        omega (arith, a, b)

    mutual
      condition-le : (c : Condition) → condition_cost d c m ≤ condition_cost d c n
      condition-le (simple s) = omega arith
      condition-le (negation selectors) = list-le selectors
      condition-le (any_of selectors) = list-le selectors
      condition-le (where_any selectors) = list-le selectors
      condition-le (tested test selectors) = omega arith

      compound-le : (cs : Conditions) → compound_cost d cs m ≤ compound_cost d cs n
      compound-le end_of_compound = omega arith
      compound-le (with_condition c cs) =
          let a = condition-le c in let b = compound-le cs in omega (arith, a, b)

      dearest-le : (parts : Parts) → dearest_part d parts m ≤ dearest_part d parts n
      dearest-le end_of_selector = omega arith
      dearest-le (with_part c cs parts) =
          let a = compound-le cs in let b = dearest-le parts in omega (arith, a, b)

      list-le : (selectors : Selectors) → list_cost d selectors m ≤ list_cost d selectors n
      list-le end_of_list = omega arith
      list-le (with_selector parts selectors) =
          let q = selector-le (is_lone parts) (most_questions d parts m) (most_questions d parts n)
          (dearest_part d parts m) (dearest_part d parts n) (questions-le parts) (dearest-le parts) in
          let b = list-le selectors in omega (arith, q, b)

  module _ (depth_law : Counts d.parent d.depth) (earlier_law : Counts d.previous_sibling d.earlier)
      (sibling_law : SiblingsShareParent (shape d)) where
    width_once : (k : ℕ) (n : Node) → width (shape d) (k + 1) n
        ≡ d.earlier n + option_map_or (width (shape d) k) (d.parent n) 0
    width_once k n = rw add-one refl

    above_lighter : (n p : Node) → d.parent n ≡ Some p → IsLighter p n
    above_lighter n p e =
        let one = count_less d.parent d.depth depth_law n p e in
        let a = width_once (d.depth n) n in
        let b : option_map_or (width (shape d) (d.depth n)) (d.parent n) 0
        ≡ width (shape d) (d.depth p + 1) p =
        ap (λ o. option_map_or (width (shape d) (d.depth n)) o 0) e
        ∙ ap (λ k. width (shape d) k p) one in
        record { depth = omega (arith, one); width = omega (arith, a, b) }

    same_depth : (s n : Node) (o : Option Node) → d.parent s ≡ o → d.parent n ≡ o
        → d.depth s ≡ d.depth n
    same_depth s n None e f =
        let a = depth_law s in let b = depth_law n in
        let p = rw e at a in let q = rw f at b in cc
    same_depth s n (Some p) e f =
        count_less d.parent d.depth depth_law s p e
        ∙ sym (count_less d.parent d.depth depth_law n p f)

    before_lighter : (n s : Node) → d.previous_sibling n ≡ Some s → IsLighter s n
    before_lighter n s e =
        let shared = sibling_parent (shape d) sibling_law s n e in
        let same = same_depth s n (d.parent n) shared refl in
        let one = count_less d.previous_sibling d.earlier earlier_law n s e in
        let a = width_once (d.depth n) n in
        let b = width_once (d.depth s) s in
        let c : option_map_or (width (shape d) (d.depth s)) (d.parent s) 0
        ≡ option_map_or (width (shape d) (d.depth n)) (d.parent n) 0 =
        ap (λ o. option_map_or (width (shape d) (d.depth s)) o 0) shared
        ∙ ap (λ k. option_map_or (width (shape d) k) (d.parent n) 0) same in
        record { depth = omega (arith, same); width = omega (arith, a, b, c, one) }

    if_some : (o : Option Node) (P : Node → Type 0) → ((p : Node) → o ≡ Some p → P p) → IfSome o P
    if_some None P h = tt
    if_some (Some p) P h = h p refl

    pub dearest_part-monotone : (parts : Parts) → IsMonotone (shape d) (dearest_part d parts)
    dearest_part-monotone parts n = (
      if_some (d.parent n) (λ p. dearest_part d parts p ≤ dearest_part d parts n)
          (λ p e. dearest-le p n (above_lighter n p e) parts),
      if_some (d.previous_sibling n) (λ s. dearest_part d parts s ≤ dearest_part d parts n)
          (λ s e. dearest-le s n (before_lighter n s e) parts),
    )

  -- lists of compound selectors make no tests of their own
  module _ (n : Node) where
    single-none : (b : Bool) (q a : ℕ) → IsTrue b → a ≡ 0 → selector_cost_by b q a ≡ 0
    single-none true q a h e = e
    single-none false q a h e = absurd (false≢true h)

    mutual
      condition-plain : (c : Condition) → IsPlain c → condition_cost d c n ≡ 0
      condition-plain (simple s) h = refl
      condition-plain (negation selectors) h = list-plain selectors h
      condition-plain (any_of selectors) h = list-plain selectors h
      condition-plain (where_any selectors) h = list-plain selectors h
      condition-plain (tested test selectors) h = refl

      compound-plain : (cs : Conditions) → ArePlain cs → compound_cost d cs n ≡ 0
      compound-plain end_of_compound h = refl
      compound-plain (with_condition c cs) h =
          let a = condition-plain c h.0 in let b = compound-plain cs h.1 in omega (arith, a, b)

      part-plain : (parts : Parts) → HasPlainParts parts → dearest_part d parts n ≡ 0
      part-plain end_of_selector h = refl
      part-plain (with_part k cs parts) h =
          let a = compound-plain cs h.0 in let b = part-plain parts h.1 in omega (arith, a, b)

      pub list-plain : (selectors : Selectors) → IsPlainList selectors → list_cost d selectors n ≡ 0
      list-plain end_of_list h = refl
      list-plain (with_selector parts selectors) h =
          let a = single-none (is_lone parts) (most_questions d parts n) (dearest_part d parts n) h.0
          (part-plain parts h.1) in
          let b = list-plain selectors h.2 in omega (arith, a, b)

    pub most_tests-plain : (parts : Parts) → HasPlainParts parts
        → most_tests d parts n ≡ most_questions d parts n
    most_tests-plain parts h =
        let a = part-plain parts h in
        ap (λ k. most_questions d parts n * (k + 1)) a ∙ omega arith
