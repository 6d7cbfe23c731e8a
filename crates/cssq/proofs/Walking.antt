-- Walks over the elements of a page.
-- Serves `walk::Walk`.
use Rattle.std.proofs.Common.{◌≡◌, ◌⊎◌, ℕ, zero, suc, ◌+◌, ◌<◌, ◌≤◌, List, [], Option, None, Some, IfSome, true, false, length, take, get_or, refl, sym, ap, ◌∙◌, subst, arith, eqb, MatchOption, inl, inr, ⊎_elim}
use Rattle.std.specs.Prelude.{nat_lt}
use Rattle.std.specs.Option.{option_map, option_eq}
use Rattle.std.proofs.lemmas.Bool.{false≢true, eq-eqb, cases_lt}
use Rattle.std.proofs.lemmas.Bool.Decides.{nat_tests}
use Rattle.std.proofs.lemmas.List.{get_or-take, length-map, length-take-le}
use Rattle.simplecss.specs.OpenPaths.{Path, IsOpenTo, AreOpened, left}
use Rattle.simplecss.proofs.OpenPathLemmas.{path_left}
use Rattle.cssq_tree.specs.ParentsAndSiblings.{depths_of, parent_index}
use Rattle.cssq_tree.specs.internal.LastIndices.{IsLast, last_index_is}
use Rattle.cssq_tree.specs.TreeText.{Row}
use Rattle.cssq_tree.specs.PageNodes.{Spot, spot, parent_of, page_tree, reported_of}
use Rattle.cssq.specs.internal.Walks.{IsAtOrAbove, place_before}

-- the path is open to the element at the place
abbrev pub IsAt : List Row → Path → Option ℕ → Type 0
IsAt rows path place = IsOpenTo {Node = Spot} {Self = Spot} page_tree (λ element. element)
    reported_of path (option_map (spot rows) place)

pub none_open : (rows : List Row) (path : Path) → path.listed ≡ [] → path.starts ≡ []
    → path.marks ≡ [] → IsAt rows path None
none_open rows path listed starts marks =
    subst (λ ms. AreOpened {Node = Spot} {Self = Spot} page_tree (λ element. element) reported_of
    path.selectors None ms path.listed path.starts) (sym marks) (listed, starts)

-- the element that was opened last is closed
pub closed_one : (rows : List Row) (path new : Path) (place parent : Option ℕ) (index : ℕ)
    → IsAt rows path place → place ≡ Some index → new ≡ left path
    → parent ≡ parent_index (depths_of rows) index → IsAt rows new parent
closed_one rows path new place parent index at is closed next =
    subst (IsAt rows new) (sym next)
    (subst (λ p. IsAt rows p (parent_index (depths_of rows) index)) (sym closed)
    (path_left page_tree (λ element. element) reported_of path.selectors (spot rows index) path.marks
    path.listed path.starts (subst (IsAt rows path) is at)))

-- there is a depth for each row
pub depth_within : (rows : List Row) (index : ℕ) → index < length rows
    → index < length (depths_of rows)
depth_within rows index lt =
    subst (λ n. index < n) (sym (length-map rows (λ row. row.depth))) lt

-- how far a place is
abbrev pub past : Option ℕ → ℕ
past None = 0
past (Some index) = index + 1

pub nearer : (place parent : Option ℕ) (index : ℕ) → place ≡ Some index
    → IfSome parent (λ p. p < index) → past parent < past place
nearer place parent index is before =
    subst (λ p. past parent < past p) (sym is) (less parent before)
  where
    less : (parent : Option ℕ) → IfSome parent (λ p. p < index) → past parent < index + 1
    less None h = omega arith
    less (Some p) h = omega (arith, h)

-- a path that is at the parent is open to it
pub at_parent : (rows : List Row) (path : Path) (place found : Option ℕ) (element : ℕ) (node : Spot)
    → IsAt rows path place → place ≡ found → found ≡ parent_index (depths_of rows) element
    → node ≡ spot rows element
    → IsOpenTo {Node = Spot} {Self = Spot} page_tree (λ e. e) reported_of path (parent_of node)
at_parent rows path place found element node at same is spot_is =
    subst (λ n. IsOpenTo {Node = Spot} {Self = Spot} page_tree (λ e. e) reported_of path
    (parent_of n)) (sym spot_is) (subst (IsAt rows path) (same ∙ is) at)

-- what a node of a page denotes
pub node_is : (rows : List Row) (index : ℕ) (found : Option Spot) (node : Spot)
    → found ≡ Some node
    → MatchOption found (length rows ≤ index) (λ n. (index < length rows) × (n ≡ spot rows index))
    → node ≡ spot rows index
node_is rows index None node is h = absurd (cc)
node_is rows index (Some n) node is h = let same : n ≡ node = cc in sym same ∙ h.1

is_lt : (d e : ℕ) → nat_lt d e ≡ true → d < e
is_lt d e is = grind (arith, nat_tests)

is_not_lt : (d e : ℕ) → nat_lt d e ≡ false → e ≤ d
is_not_lt d e is = grind (arith, nat_tests)

parent_last : (ds : List ℕ) (i : ℕ) (r : Option ℕ) → r ≡ parent_index ds i
    → IsLast (λ d. nat_lt d (get_or ds i 0)) (take i ds) r
parent_last ds i r is =
    subst (IsLast (λ d. nat_lt d (get_or ds i 0)) (take i ds)) (sym is)
    (last_index_is (λ d. nat_lt d (get_or ds i 0)) (take i ds))

-- the parent comes before the element and is less deep, and all between them are at least as deep
pub record IsParent (ds : List ℕ) (i t : ℕ) : Type 0 where
  pub before : t < i
  pub lesser : get_or ds t 0 < get_or ds i 0
  pub between : (k : ℕ) → t < k → k < i → get_or ds i 0 ≤ get_or ds k 0

pub parent_facts : (ds : List ℕ) (i t : ℕ) → i < length ds → Some t ≡ parent_index ds i
    → IsParent ds i t
parent_facts ds i t within is =
    let last = parent_last ds i (Some t) is in
    let le : i ≤ length ds = omega (arith, within) in
    let inside : t < i = (let lt = last.0 in rw (length-take-le i ds) at lt) in
    record {
      before = inside;
      lesser = is_lt _ _
          (subst (λ d. nat_lt d (get_or ds i 0) ≡ true) (get_or-take i ds t 0 inside) last.1);
      between = λ k after before. is_not_lt _ _
          (subst (λ d. nat_lt d (get_or ds i 0) ≡ false) (get_or-take i ds k 0 before)
          (last.2 k after (rw (length-take-le i ds) before)));
    }

-- an element that comes before and is less deep comes no later than the parent
pub parent_exists : (ds : List ℕ) (i j : ℕ) (r : Option ℕ) → i < length ds → j < i
    → get_or ds j 0 < get_or ds i 0 → r ≡ parent_index ds i
    → (p : ℕ) × (r ≡ Some p) × (j ≤ p) × (p < i)
parent_exists ds i j None within before lesser is =
    let le : i ≤ length ds = omega (arith, within) in
    let fails = parent_last ds i None is j (rw (length-take-le i ds) before) in
    let deep : get_or ds i 0 ≤ get_or ds j 0 = is_not_lt _ _
    (subst (λ d. nat_lt d (get_or ds i 0) ≡ false) (get_or-take i ds j 0 before) fails) in
    absurd (omega (arith, deep, lesser))
parent_exists ds i j (Some p) within before lesser is =
    let facts = parent_facts ds i p within is in
    ⊎_elim
    (λ after. let deep = facts.between j after before in absurd (omega (arith, deep, lesser)))
    (λ le. (p, refl, le, facts.before))
    (cases_lt p j)

-- where a walk may be while elements are closed, up to the target, which is the parent of an
-- element: above the target if that is the last one, or at an element from the target on
abbrev pub IsOnWay : List ℕ → ℕ → Option ℕ → Option ℕ → Type 0
IsOnWay ds element None place = Unit {0}
IsOnWay ds element (Some t) place =
    ((t + 1 ≡ element) × (place ≡ parent_index ds t))
    ⊎ ((p : ℕ) × (place ≡ Some p) × (t ≤ p) × (p < element))

pub on_way : (ds : List ℕ) (element : ℕ) (target place : Option ℕ) → element < length ds
    → target ≡ parent_index ds element → place ≡ place_before ds element
    → IsOnWay ds element target place
on_way ds element None place within is before = tt
on_way ds zero (Some t) place within is before =
    let lt = (parent_facts ds zero t within is).before in absurd (omega (arith, lt))
on_way ds (suc i) (Some t) place within is before =
    let facts = parent_facts ds (suc i) t within is in
    ⊎_elim
    (λ lt.
    let deep = facts.between i lt (omega arith) in
    let less = facts.lesser in
    let found = parent_exists ds i t place (omega (arith, within)) lt
    (omega (arith, deep, less)) before in
    inr (found.0, found.1, found.2, omega (arith, found.3)))
    (λ le.
    let lt = facts.before in
    let same : i ≡ t = omega (arith, le, lt) in
    inl (omega (arith, same), before ∙ ap (parent_index ds) same))
    (cases_lt t i)

-- an element after the target is closed
pub on_way_closed : (ds : List ℕ) (element opened : ℕ) (target place next : Option ℕ)
    → element < length ds → target ≡ parent_index ds element → place ≡ Some opened
    → next ≡ parent_index ds opened → IfSome target (λ t. t < opened)
    → IsOnWay ds element target place → IsOnWay ds element target next
on_way_closed ds element opened None place next within is at up after way = tt
on_way_closed ds element opened (Some t) place next within is at up after (inl above) =
    let parent = parent_facts ds element t within is in
    let before = parent.before in
    let lt = (parent_facts ds t opened (omega (arith, before, within)) (sym at ∙ above.1)).before in
    absurd (omega (arith, lt, after))
on_way_closed ds element opened (Some t) place next within is at up after (inr from) =
    let same : from.0 ≡ opened = cc in
    let lt : opened < element = omega (arith, from.3, same) in
    let facts = parent_facts ds element t within is in
    let deep = facts.between opened after lt in
    let less = facts.lesser in
    let found = parent_exists ds opened t next (omega (arith, within, lt)) after
    (omega (arith, deep, less)) up in
    inr (found.0, found.1, found.2, omega (arith, found.3, lt))

-- the walk stops at an element that is not after the target
pub way_ends : (ds : List ℕ) (element opened : ℕ) (target place : Option ℕ) → place ≡ Some opened
    → MatchOption target ⊥ (λ t. opened ≤ t) → IsOnWay ds element target place
    → IsAtOrAbove ds target place
way_ends ds element opened None place at before way = absurd before
way_ends ds element opened (Some t) place at before (inl above) = inr above.1
way_ends ds element opened (Some t) place at before (inr from) =
    let same : from.0 ≡ opened = cc in
    let here : opened ≡ t = omega (arith, same, before, from.2) in
    inl (at ∙ ap Some here)

-- the walk stops where no element is open
pub way_ends_outside : (ds : List ℕ) (element : ℕ) (target place : Option ℕ) → place ≡ None
    → IsOnWay ds element target place → IsAtOrAbove ds target place
way_ends_outside ds element None place out way = out
way_ends_outside ds element (Some t) place out (inl above) = inr above.1
way_ends_outside ds element (Some t) place out (inr from) = absurd (cc)

-- where the walk is not at the target, it is above
pub above_target : (ds : List ℕ) (parent : ℕ) (target place : Option ℕ) → target ≡ Some parent
    → IsAtOrAbove ds target place → option_eq eqb place (Some parent) ≡ false
    → place ≡ parent_index ds parent
above_target ds parent target place is at differs =
    ⊎_elim
    (λ same. absurd (false≢true (sym differs ∙ ap (λ p. option_eq eqb p (Some parent)) same
    ∙ eq-eqb parent parent refl)))
    (λ above. above)
    (subst (λ r. IsAtOrAbove ds r place) is at)

-- after the line of an element the walk is where the next one wants it
pub next_place : (ds : List ℕ) (element : ℕ) (place : Option ℕ) → place ≡ parent_index ds element
    → place ≡ place_before ds (element + 1)
next_place ds element place is =
    let next : suc element ≡ element + 1 = omega arith in
    is ∙ ap (place_before ds) next
