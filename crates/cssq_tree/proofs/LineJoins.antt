-- A line that joins linked lines.
-- Serves `tree::link` (a line finds its parent and its previous sibling).
use Rattle.std.proofs.Common.{◌≡◌, ℕ, zero, suc, ◌<◌, ◌≤◌, List, [], ◌∷◌, ◌++◌, length, get_or, refl, sym, ap, ◌∙◌, subst, arith, None, Some, ⊎_elim}
use Rattle.std.specs.Prelude.{nat_le, nat_lt}
use Rattle.std.specs.List.{slice_get}
use Rattle.std.proofs.lemmas.Bool.{cases_lt}
use Rattle.std.proofs.lemmas.List.{length-map, map-append}
use Rattle.std.proofs.lemmas.Option.{slice_get_within, slice_get-get_or}
use Rattle.cssq_tree.specs.declared.tree.entry.Entry.{Entry}
use Rattle.cssq_tree.specs.declared.tree.Line.{Line}
use Rattle.cssq_tree.specs.ParentsAndSiblings.{last_index, parent_index, previous_index}
use Rattle.cssq_tree.specs.internal.EntryLines.{depths, AreLinked}
use Rattle.cssq_tree.proofs.Linked.{depth_at}
use Rattle.cssq_tree.specs.internal.Siblings.{equal_at, parent_old, parent_new, previous_old, previous_new, none_near, lesser_near, equal_near}

slice_get_front : (xs ys : List Line) (i : ℕ) → i < length xs
    → slice_get (xs ++ ys) i ≡ slice_get xs i
slice_get_front [] ys i within = absurd (omega arith)
slice_get_front (x ∷ xs) ys zero within = refl
slice_get_front (x ∷ xs) ys (suc i) within = slice_get_front xs ys i (omega arith)

slice_get_last : (xs : List Line) (x y : Line) (i : ℕ) → length xs ≤ i
    → slice_get (xs ++ x ∷ []) i ≡ Some y → (i ≡ length xs) × (y ≡ x)
slice_get_last [] x y zero past is = (refl, cc)
slice_get_last [] x y (suc i) past is = absurd (cc)
slice_get_last (w ∷ xs) x y zero past is = absurd (omega arith)
slice_get_last (w ∷ xs) x y (suc i) past is =
    let rest = slice_get_last xs x y i (omega arith) is in
    (omega (arith, rest.0), rest.1)

-- what a line has to say to join linked lines
pub record Joins (lines : List Line) (l : Line) : Type 0 where
  pub parent : l.parent ≡ last_index (λ x. nat_lt x l.entry.depth) (depths lines)
  pub previous : l.previous ≡ equal_at (depths lines) l.entry.depth
      (last_index (λ x. nat_le x l.entry.depth) (depths lines))

module _ (lines : List Line) (l : Line) (linked : AreLinked lines) (joins : Joins lines l) where
  depths_more : depths (lines ++ l ∷ []) ≡ depths lines ++ l.entry.depth ∷ []
  depths_more = map-append (λ l. l.entry.depth) lines (l ∷ [])

  -- the lines that were there
  old_kept : (i : ℕ) (m : Line) → slice_get lines i ≡ Some m
      → (m.parent ≡ parent_index (depths (lines ++ l ∷ [])) i)
      × (m.previous ≡ previous_index (depths (lines ++ l ∷ [])) i)
  old_kept i m is =
      let within : i < length (depths lines) =
      rw (length-map lines (λ l. l.entry.depth)) (slice_get_within lines i m is) in
      let before = linked i m is in (
        before.0 ∙ sym (parent_old (depths lines) l.entry.depth i within)
            ∙ ap (λ ds. parent_index ds i) (sym depths_more),
        before.1 ∙ sym (previous_old (depths lines) l.entry.depth i within)
            ∙ ap (λ ds. previous_index ds i) (sym depths_more),
      )

  new_kept : (l.parent ≡ parent_index (depths (lines ++ l ∷ [])) (length (depths lines)))
      × (l.previous ≡ previous_index (depths (lines ++ l ∷ [])) (length (depths lines)))
  new_kept = (
    joins.parent ∙ sym (parent_new (depths lines) l.entry.depth)
        ∙ ap (λ ds. parent_index ds (length (depths lines))) (sym depths_more),
    joins.previous ∙ sym (previous_new (depths lines) l.entry.depth)
        ∙ ap (λ ds. previous_index ds (length (depths lines))) (sym depths_more),
  )

  pub joined : AreLinked (lines ++ l ∷ [])
  joined i m is =
      ⊎_elim
      (λ within. old_kept i m (sym (slice_get_front lines (l ∷ []) i within) ∙ is))
      (λ past. let here = slice_get_last lines l m i past is in
      let at : length (depths lines) ≡ i = length-map lines (λ l. l.entry.depth) ∙ sym here.0 in
      subst (λ m. (m.parent ≡ parent_index (depths (lines ++ l ∷ [])) i)
      × (m.previous ≡ previous_index (depths (lines ++ l ∷ [])) i)) (sym here.1)
      (subst (λ i. (l.parent ≡ parent_index (depths (lines ++ l ∷ [])) i)
      × (l.previous ≡ previous_index (depths (lines ++ l ∷ [])) i)) at new_kept))
      (cases_lt i (length lines))

pub link_none : (lines : List Line) (e : Entry) → AreLinked lines
    → None ≡ last_index (λ x. nat_le x e.depth) (depths lines)
    → AreLinked (lines ++ record { entry = e; parent = None; previous = None } ∷ [])
link_none lines e linked is =
    let near = none_near (depths lines) e.depth is in
    joined lines (record { entry = e; parent = None; previous = None }) linked
    (record { parent = near.0; previous = near.1 })

pub link_lesser : (lines : List Line) (e : Entry) (i : ℕ) (d : Line) → AreLinked lines
    → i < length lines → Some i ≡ last_index (λ x. nat_le x e.depth) (depths lines)
    → ((get_or lines i d).entry.depth ≡ e.depth → ⊥)
    → AreLinked (lines ++ record { entry = e; parent = Some i; previous = None } ∷ [])
link_lesser lines e i d linked within is ne =
    let near =
    lesser_near (depths lines) e.depth i is (λ same. ne (sym (depth_at lines i d within) ∙ same)) in
    joined lines (record { entry = e; parent = Some i; previous = None }) linked
    (record { parent = near.0; previous = near.1 })

pub link_equal : (lines : List Line) (e : Entry) (i : ℕ) (d : Line) → AreLinked lines
    → i < length lines → Some i ≡ last_index (λ x. nat_le x e.depth) (depths lines)
    → (get_or lines i d).entry.depth ≡ e.depth
    → AreLinked (lines ++ record {
      entry = e;
      parent = (get_or lines i d).parent;
      previous = Some i;
    } ∷ [])
link_equal lines e i d linked within is same =
    let near = equal_near (depths lines) e.depth i (get_or lines i d).parent is
    (depth_at lines i d within ∙ same)
    (linked i (get_or lines i d) (slice_get-get_or lines i d within)).0 in
    joined lines (record {
      entry = e;
      parent = (get_or lines i d).parent;
      previous = Some i;
    }) linked (record { parent = near.0; previous = near.1 })
