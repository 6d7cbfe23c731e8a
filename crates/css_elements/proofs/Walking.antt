-- Walks over the elements of a tree.
-- Serves `ways`, and the walks of the crates above.
use Rattle.std.proofs.Common.{◌≡◌, ℕ, ◌+◌, ◌<◌, ◌≤◌, ◌⊎◌, inl, inr, List, [], ◌∷◌, ◌++◌, Option, None, Some, IfSome, MatchOption, true, false, length, reverse, refl, sym, ap, ◌∙◌, subst, arith}
use Rattle.std.specs.Option.{option_eq}
use Rattle.std.specs.Prelude.{nat_eq, IsSome}
use Rattle.std.proofs.lemmas.Bool.Decides.{nat_tests}
use Rattle.std.proofs.lemmas.Bool.{false≢true}
use Rattle.std.proofs.lemmas.List.{reverse-append}
use Rattle.css_matching.specs.ListTrees.{spot, parent_by}
use Rattle.css_elements.specs.Rows.{Row}
use Rattle.css_elements.specs.TreeNodes.{named_parent}
use Rattle.css_elements.specs.Ways.{LeadsTo, IsAbove}

-- how far a place is
abbrev pub past : Option ℕ → ℕ
past None = 0
past (Some index) = index + 1

-- one more element above
pub leads_push : (rows : List Row) (xs ys : List ℕ) (i : ℕ) (above next element : Option ℕ)
    → i < length rows → above ≡ Some i → next ≡ parent_by (named_parent rows) i → ys ≡ xs ++ i ∷ []
    → LeadsTo rows above (reverse xs) element → LeadsTo rows next (reverse ys) element
leads_push rows xs ys i above next element lt at up is leads =
    subst (λ zs. LeadsTo rows next zs element)
    (sym (ap reverse is ∙ reverse-append xs (i ∷ [])))
    (lt, sym up, subst (λ p. LeadsTo rows p (reverse xs) element) at leads)

pub leads_pop : (rows : List Row) (xs ys : List ℕ) (i : ℕ) (place element : Option ℕ)
    → xs ≡ ys ++ i ∷ [] → LeadsTo rows place (reverse xs) element
    → (i < length rows) × (parent_by (named_parent rows) i ≡ place)
    × LeadsTo rows (Some i) (reverse ys) element
leads_pop rows xs ys i place element is leads =
    subst (λ zs. LeadsTo rows place zs element) (ap reverse is ∙ reverse-append ys (i ∷ [])) leads

pub same_place : (p q : Option ℕ) → option_eq nat_eq p q ≡ true → p ≡ q
same_place None None is = refl
same_place None (Some q) is = absurd (cc)
same_place (Some p) None is = absurd (cc)
same_place (Some p) (Some q) is = ap Some (grind (arith, nat_tests, is))

pub none_left : (xs : List ℕ) → length xs ≡ 0 → xs ≡ []
none_left [] e = refl
none_left (x ∷ xs) e = absurd (omega (arith, e))

-- elements of which none is left lead to where they begin
pub same_end : (rows : List Row) (xs : List ℕ) (place element : Option ℕ) → xs ≡ []
    → LeadsTo rows place (reverse xs) element → place ≡ element
same_end rows xs place element none leads =
    subst (λ ys. LeadsTo rows place (reverse ys) element) none leads

-- a walk that closes an element
pub nearer : (place new above : Option ℕ) → option_eq nat_eq place above ≡ false
    → MatchOption place (above ≡ None) (λ last. IfSome above (λ i. i ≤ last))
    → IfSome place (λ last. IfSome new (λ parent. parent < last)) → past new < past place
nearer None new above differs is less =
    absurd (false≢true (sym differs ∙ ap (λ a. option_eq nat_eq None a) is))
nearer (Some last) None above differs is less = omega arith
nearer (Some last) (Some parent) above differs is less = omega (arith, less)

pub higher : (above next : Option ℕ) (i : ℕ) → above ≡ Some i → IfSome next (λ parent. parent < i)
    → past next < past above
higher above next i at less = subst (λ a. past next < past a) (sym at) (by next less)
  where
    by : (next : Option ℕ) → IfSome next (λ parent. parent < i) → past next < i + 1
    by None h = omega arith
    by (Some parent) h = omega (arith, h)

-- a place above an element, and its parent
pub above_more : (rows : List Row) (place next element : Option ℕ)
    → IfSome place (λ i. i < length rows)
    → MatchOption place (next ≡ None) (λ i. next ≡ parent_by (named_parent rows) i)
    → IsAbove rows place element → IsAbove rows next element
above_more rows None next element lt is above = subst (λ p. IsAbove rows p element) (sym is) above
above_more rows (Some i) next element lt is (xs, leads) = (i ∷ xs, (lt, sym is, leads))

-- nothing is above no element
above_none : (rows : List Row) (above : Option ℕ) (xs : List ℕ) → LeadsTo rows above xs None
    → above ≡ None
above_none rows above [] leads = leads
above_none rows above (x ∷ xs) (lt, up, leads) =
    let none = above_none rows (Some x) xs leads in absurd (cc)

-- what is above an element is that element, or above its parent
above_parent : (rows : List Row) (above next : Option ℕ) (xs : List ℕ) (i : ℕ)
    → LeadsTo rows above xs (Some i) → next ≡ parent_by (named_parent rows) i
    → (above ≡ Some i) ⊎ IsAbove rows above next
above_parent rows above next [] i leads is = inl leads
above_parent rows above next (x ∷ xs) i (lt, up, leads) is =
    elim (above_parent rows (Some x) next xs i leads is) [
      | inl same ↦ inr ([], (sym up ∙ ap (parent_by (named_parent rows)) (some_is x i same) ∙ sym is))
      | inr (ys, more) ↦ inr (x ∷ ys, (lt, up, more))
    ]
  where
    some_is : (p q : ℕ) → Some p ≡ Some q → p ≡ q
    some_is p q e = cc

-- an element is closed that is not the one at the place above
pub still_above : (rows : List Row) (place next above : Option ℕ) → option_eq nat_eq place above ≡ false
    → IsAbove rows above place → IfSome place (λ i. next ≡ parent_by (named_parent rows) i)
    → IsAbove rows above next
still_above rows None next above differs (xs, leads) is =
    absurd (false≢true (sym differs ∙ ap (option_eq nat_eq None) (above_none rows above xs leads)))
still_above rows (Some i) next above differs (xs, leads) is =
    elim (above_parent rows above next xs i leads is) [
      | inl same ↦ absurd (false≢true (sym differs ∙ ap (option_eq nat_eq (Some i)) same ∙ same_self i))
      | inr more ↦ more
    ]
  where
    same_self : (n : ℕ) → nat_eq n n ≡ true
    same_self n = grind (arith, nat_tests)

pub closer : (rows : List Row) (place next above : Option ℕ) → option_eq nat_eq place above ≡ false
    → IsAbove rows above place → IfSome place (λ last. IfSome next (λ parent. parent < last))
    → past next < past place
closer rows None next above differs (xs, leads) less =
    absurd (false≢true (sym differs ∙ ap (option_eq nat_eq None) (above_none rows above xs leads)))
closer rows (Some last) None above differs is less = omega arith
closer rows (Some last) (Some parent) above differs is less = omega (arith, less)

-- the parent of an element is among the elements
pub inside : (rows : List Row) (i : ℕ) (parent : Option ℕ) → i < length rows
    → IfSome parent (λ p. p < i) → IfSome parent (λ p. p < length rows)
inside rows i None lt before = tt
inside rows i (Some p) lt before = omega (arith, lt, before)

pub still_inside : (rows : List Row) (place next : Option ℕ) → IfSome place (λ i. i < length rows)
    → MatchOption place (next ≡ None) (λ i. next ≡ parent_by (named_parent rows) i)
    → IfSome place (λ i. IfSome next (λ p. p < i)) → IfSome next (λ p. p < length rows)
still_inside rows None next lt is before = subst (λ p. IfSome p (λ i. i < length rows)) (sym is) tt
still_inside rows (Some i) next lt is before = inside rows i next lt before

-- what a node at an index denotes
pub node_is : {Rows : Type 0} (rows : Rows) (count i : ℕ) (found : Option (Rows × ℕ))
    (node : Rows × ℕ) → found ≡ Some node
    → MatchOption found (count ≤ i) (λ n. (i < count) × (n ≡ spot rows i)) → node ≡ spot rows i
node_is rows count i None node is h = absurd (cc)
node_is rows count i (Some n) node is h = let same : n ≡ node = cc in sym same ∙ h.1

-- there is a node at each index
pub node_there : {Rows : Type 0} (rows : Rows) (count i : ℕ) (found : Option (Rows × ℕ)) → i < count
    → MatchOption found (count ≤ i) (λ n. (i < count) × (n ≡ spot rows i)) → IsSome found
node_there rows count i None lt h = absurd (omega (arith, lt, h))
node_there rows count i (Some n) lt h = refl
