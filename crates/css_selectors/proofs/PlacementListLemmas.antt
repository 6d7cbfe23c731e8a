-- There is a placement as a list of nodes exactly if there is one as a function.
-- Serves `placement_law`.
use Rattle.std.proofs.Common.{◌≡◌, ◌↔◌, ℕ, zero, suc, ◌-◌, ◌<◌, ◌≤◌, List, [], ◌∷◌, length, get_or, None, refl, sym, subst, arith, add-one}
use Rattle.css_matching.specs.Placements.{Relates, HasPlacement}
use Rattle.css_selectors.specs.Documents.{Document, shape}
use Rattle.css_selector_text.specs.Components.{Part, Selector, parts_from}
use Rattle.css_selectors.specs.Meanings.{combinator_at, part_count, MeetsPart, Matches}
use Rattle.css_selectors.specs.PlacementLists.{ContinuesPlacement, IsPlacementList, HasPlacementList}

module _ {Node : Type 0} (document : Document Node) where
  abbrev HasPlacementOf : List Part → Node → Type 0
  HasPlacementOf parts end =
      HasPlacement (shape document) (combinator_at (parts_from parts)) (MeetsPart document (parts_from parts))
      (length parts - 1) end

  -- a node after the first for each part, which meets it and is related to the node before
  abbrev Follow : List Part → (ℕ → Node) → Type 0
  Follow ps place =
      (k : ℕ) → k < length ps → Relates (shape document) (combinator_at (parts_from ps) k) (place k) (place (suc k))
      × MeetsPart document (parts_from ps) k (place (suc k))

  -- the first `count` nodes
  abbrev first_nodes : (ℕ → Node) → ℕ → List Node
  first_nodes place zero = []
  first_nodes place (suc count) = place 0 ∷ first_nodes (λ k. place (suc k)) count

  abbrev nodes_after : (ℕ → Node) → List Part → List Node
  nodes_after place ps = first_nodes (λ k. place (suc k)) (length ps)

  continues_from : (ps : List Part) (place : ℕ → Node) → Follow ps place
      → ContinuesPlacement document (place 0) ps (nodes_after place ps) (place (length ps))
  continues_from [] place follow = refl
  continues_from (p ∷ ps) place follow =
      let h = follow 0 (omega arith) in (
        h.0,
        h.1,
        continues_from ps (λ k. place (suc k)) (λ k lt. follow (suc k) (omega (arith, lt))),
      )

  list_from : (parts : List Part) (end : Node) → 0 < length parts → HasPlacementOf parts end
      → HasPlacementList document parts end
  list_from [] end some h = absurd (omega (arith, some))
  list_from (p ∷ ps) end some h =
      let place = h.0 in
      let last : length (p ∷ ps) - 1 ≡ length ps = omega arith in
      let ends : place (length ps) ≡ end = (rw last at h.1.ends) in
      let follow : Follow ps place = λ k lt. (
        rw add-one at (h.1.relates k (omega (arith, lt, last))),
        h.1.meets (suc k) (omega (arith, lt, last)),
      ) in (
        place 0 ∷ nodes_after place ps,
        (
          h.1.meets 0 (omega arith),
          subst (ContinuesPlacement document (place 0) ps (nodes_after place ps)) ends
              (continues_from ps place follow),
        ),
      )

  -- the nodes of a placement that continues from `before`, and then `end`
  abbrev node_at : Node → List Node → Node → ℕ → Node
  node_at before ns end k = get_or (before ∷ ns) k end

  follow_list : (before : Node) (ps : List Part) (ns : List Node) (end last : Node)
      → ContinuesPlacement document before ps ns last → Follow ps (node_at before ns end)
  follow_list before [] ns end last h k lt = absurd (omega (arith, lt))
  follow_list before (p ∷ ps) [] end last h k lt = absurd h
  follow_list before (p ∷ ps) (n ∷ ns) end last h zero lt = (h.0, h.1)
  follow_list before (p ∷ ps) (n ∷ ns) end last h (suc k) lt =
      follow_list n ps ns end last h.2 k (omega (arith, lt))

  list_ends : (before : Node) (ps : List Part) (ns : List Node) (end last : Node)
      → ContinuesPlacement document before ps ns last → node_at before ns end (length ps) ≡ last
  list_ends before [] [] end last h = h
  list_ends before [] (n ∷ ns) end last h = absurd h
  list_ends before (p ∷ ps) [] end last h = absurd h
  list_ends before (p ∷ ps) (n ∷ ns) end last h = list_ends n ps ns end last h.2

  placement_from : (parts : List Part) (end : Node) → HasPlacementList document parts end
      → HasPlacementOf parts end
  placement_from [] end h = absurd h.1
  placement_from (p ∷ ps) end h = listed h.0 h.1
    where
      last : length (p ∷ ps) - 1 ≡ length ps
      last = omega arith

      listed : (nodes : List Node) → IsPlacementList document (p ∷ ps) nodes end
          → HasPlacementOf (p ∷ ps) end
      listed [] i = absurd i
      listed (n ∷ ns) i = (
        node_at n ns end,
        record {
          meets = meets;
          relates = λ k lt. rw add-one (follow k (omega (arith, lt, last))).0;
          ends = rw last (list_ends n ps ns end end i.1);
        },
      )
        where
          follow : Follow ps (node_at n ns end)
          follow = follow_list n ps ns end end i.1

          meets : (k : ℕ) → k ≤ length (p ∷ ps) - 1
              → MeetsPart document (parts_from (p ∷ ps)) k (node_at n ns end k)
          meets zero le = i.0
          meets (suc k) le = (follow k (omega (arith, le, last))).1

  pub count_from : (ps : List Part) → part_count (parts_from ps) ≡ length ps
  count_from [] = refl
  count_from (p ∷ ps) = let h = count_from ps in omega (arith, h)

  -- the number of parts, as the definitions count them
  abbrev Ends : List Part → Node → ℕ → Type 0
  Ends parts n count =
      HasPlacement (shape document) (combinator_at (parts_from parts))
      (MeetsPart document (parts_from parts)) (count - 1) n

  pub matches_list : (s : Selector) (n : Node) → 0 < length s.parts → Matches document s n
      ↔ ((s.pseudo_element ≡ None) × HasPlacementList document s.parts n)
  matches_list s n some = (
    λ h. (h.0, list_from s.parts n some (subst (Ends s.parts n) (count_from s.parts) h.1)),
    λ h. (h.0, subst (Ends s.parts n) (sym (count_from s.parts)) (placement_from s.parts n h.1)),
  )
