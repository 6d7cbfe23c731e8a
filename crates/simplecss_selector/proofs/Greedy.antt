-- Placing a stretch at the nearest node that fits loses nothing.
-- Serves `Selector::{matches, matches_counted}` (no placement is missed).
use Rattle.std.proofs.Common.{refl, ◌≡◌, ℕ, zero, suc, ◌+◌, ◌<◌, ◌≤◌, ◌↔◌, List, [], ◌∷◌, length, IsTrue, arith, Some, None, sym, ◌∙◌, add-one, subst}
use Rattle.std.proofs.Math.Seq.{take-length}
use Rattle.std.proofs.lemmas.Bool.{false≢true}
use Rattle.simplecss_grammar.specs.Components.{Component, Combinator}
use Rattle.simplecss_grammar.specs.Components.Combinator.{none, descendant, child, adjacent}
use Rattle.simplecss_selector.specs.Trees.{Tree, SiblingsShareParent}
use Rattle.simplecss_selector.specs.Placements.{Meets, Relates, HasPlacement, is_step}
use Rattle.simplecss_selector.specs.internal.PlacementSearch.{IsAtOrAbove, IsWithin, Reaches, CanPlace, IfMore, step_from}
use Rattle.simplecss_selector.specs.Shapes.{first_of, component_at}
use Rattle.simplecss_selector.specs.internal.PlacementSearch.IsAtOrAbove.{here, above}
use Rattle.simplecss_selector.specs.internal.StretchFits.{LeavesRest}
use Rattle.simplecss_selector.proofs.Ancestors.{same_some, no_some, no_ancestor, ancestor_from, at_or_above_from, within_above, within_step}
use Rattle.simplecss_selector.proofs.Reaching.{first_of-suc, reaches_from, placement_from}

module _ {Node : Type 0} (tree : Tree Node) (cs : List Component) where
  -- the components before `p`, and then one more above the node
  abbrev pub Opened : ℕ → Node → Type 0
  Opened p n =
      Meets tree n (component_at cs p).compound × ((m : Node)
      × Relates tree (component_at cs p).combinator m n × Reaches tree (first_of cs p) m)

  if_more : (p : ℕ) (P : Type 0) → 0 < p → p ≤ length cs → IfMore (first_of cs p) P ↔ P
  if_more zero P some within = absurd (omega arith)
  if_more (suc q) P some within = rw (first_of-suc cs q within) (λ x. x, λ x. x)

  pub opened : (p : ℕ) (n : Node) → 0 < p → p < length cs
      → Reaches tree (first_of cs (p + 1)) n ↔ Opened p n
  opened p n some within =
      rw (add-one, first_of-suc cs p within)
      (let more = if_more p ((m : Node) × Relates tree (component_at cs p).combinator m n
      × Reaches tree (first_of cs p) m) some (omega arith) in
      (λ h. (h.0, more.0 h.1), λ h. (h.0, more.1 h.1)))

  pub opened_first : (n : Node) → 0 < length cs
      → Reaches tree (first_of cs 1) n ↔ Meets tree n (component_at cs 0).compound
  opened_first n within = rw (first_of-suc cs 0 within) (λ h. h.0, λ h. (h, tt))

  pub placement_is : (n : Node) → HasPlacement tree cs n ↔ Reaches tree (first_of cs (length cs)) n
  placement_is n = rw (take-length) (reaches_from tree cs n, placement_from tree cs n)

  -- placing the components before `p`, with the last of them on `u`, is equivalent to placing those
  -- before `left` on `n`
  pub record Tracks (left p : ℕ) (n u : Node) : Type 0 where
    pub onward : Reaches tree (first_of cs left) n → Reaches tree (first_of cs p) u
    pub back : Reaches tree (first_of cs p) u → Reaches tree (first_of cs left) n
    pub nothing_lost : (m : Node) → IsWithin tree m n → Reaches tree (first_of cs left) m
        → (k : Node) × IsWithin tree k u × Reaches tree (first_of cs p) k

  pub tracks_start : (left : ℕ) (n : Node) → Tracks left left n n
  tracks_start left n = record { onward = λ h. h; back = λ h. h; nothing_lost = λ m w h. (m, w, h) }

  pub tracks_from : (left q : ℕ) (n : Node) → q ≡ left → Tracks left q n n
  tracks_from left q n e = rw e (tracks_start left n)

  -- a step has one node only
  one_step : (c : Combinator) (v w u : Node) → IsTrue (is_step c) → Relates tree c v u
      → Relates tree c w u → v ≡ w
  one_step none v w u s r r' = absurd r
  one_step descendant v w u s r r' = absurd (false≢true s)
  one_step child v w u s r r' = same_some (sym r ∙ r')
  one_step adjacent v w u s r r' = same_some (sym r ∙ r')

  pub tracks_step : SiblingsShareParent tree → (left p q : ℕ) (n u v : Node) → 0 < p → p < length cs
      → q ≡ p → IsTrue (is_step (component_at cs p).combinator)
      → Meets tree u (component_at cs p).compound → Relates tree (component_at cs p).combinator v u
      → Tracks left (p + 1) n u → Tracks left q n v
  tracks_step shared left p q n u v some within e step met related t =
      rw e (record {
        onward = λ h. (let o = (opened p u some within).0 (t.onward h) in
            subst (Reaches tree (first_of cs p))
            (one_step (component_at cs p).combinator o.1.0 v u step o.1.1 related) o.1.2);
        back = λ h. t.back ((opened p u some within).1 (met, (v, related, h)));
        nothing_lost =
            λ m w h. (let k = t.nothing_lost m w h in let o = (opened p k.0 some within).0 k.2 in (
              o.1.0,
              within_step tree shared (component_at cs p).combinator step k.1 o.1.1 related,
              o.1.2,
            ));
      })

  -- the stretch does not fit where a component is not met
  pub not_met : (left p : ℕ) (n u : Node) → p < length cs
      → (Meets tree u (component_at cs p).compound → ⊥) → Tracks left (p + 1) n u
      → Reaches tree (first_of cs left) n → ⊥
  not_met left zero n u within fails t h = fails ((opened_first u within).0 (t.onward h))
  not_met left (suc p) n u within fails t h =
      fails ((opened (suc p) u (omega arith) within).0 (t.onward h)).0

  -- nor where a component has no node
  pub no_node : (left p : ℕ) (n u : Node) → 0 < p → p < length cs
      → ((v : Node) → Relates tree (component_at cs p).combinator v u → ⊥) → Tracks left (p + 1) n u
      → Reaches tree (first_of cs left) n → ⊥
  no_node left p n u some within fails t h =
      let o = (opened p u some within).0 (t.onward h) in
      fails o.1.0 o.1.1

  -- nothing above the top of a stretch
  pub no_rest : (left p : ℕ) (n u : Node) → 0 < p → p < length cs
      → (component_at cs p).combinator ≡ descendant → tree.parent u ≡ None → Tracks left (p + 1) n u
      → (m : Node) → IsWithin tree m n → Reaches tree (first_of cs left) m → ⊥
  no_rest left p n u some within e top t m w h =
      let k = t.nothing_lost m w h in let o = (opened p k.0 some within).0 k.2 in
      no_ancestor tree top
      (k.1 o.1.0 (subst (λ (c : Combinator). Relates tree c o.1.0 k.0) e o.1.1))

  -- the rest of the components are placed above the top of the stretch
  pub leaves_rest : (left p : ℕ) (n u v : Node) → 0 < p → p < left → p < length cs
      → (component_at cs p).combinator ≡ descendant → Meets tree u (component_at cs p).compound
      → tree.parent u ≡ Some v → tree.depth v < tree.depth n → Tracks left (p + 1) n u
      → LeavesRest tree cs left p n v
  leaves_rest left p n u v some fewer within e met parent higher t =
      record {
        some = some;
        fewer = fewer;
        higher = higher;
        nothing_lost =
            λ m w h. (let k = t.nothing_lost m w h in let o = (opened p k.0 some within).0 k.2 in (
              o.1.0,
              at_or_above_from tree parent
                  (k.1 o.1.0 (subst (λ (c : Combinator). Relates tree c o.1.0 k.0) e o.1.1)),
              o.1.2,
            ));
        enough = λ h. t.back ((opened p u some within).1 (
          met,
          (
            h.0,
            subst (λ (c : Combinator). Relates tree c h.0 u) (sym e)
                (ancestor_from tree parent h.1),
            h.2,
          ),
        ));
      }

  -- where the stretch does not fit, the components can be placed at or above the node if they can
  -- be above it
  pub misfit_up : (left : ℕ) (n p : Node) → tree.parent n ≡ Some p
      → (Reaches tree (first_of cs left) n → ⊥)
      → CanPlace tree (first_of cs left) n ↔ CanPlace tree (first_of cs left) p
  misfit_up left n p e fails =
      (λ h. up h.0 h.1 h.2, λ h. (h.0, above e h.1, h.2))
    where
      up : (m : Node) → IsAtOrAbove tree m n → Reaches tree (first_of cs left) m
          → CanPlace tree (first_of cs left) p
      up m here h = absurd (fails h)
      up m (above f q) h = (m, subst (IsAtOrAbove tree m) (same_some (sym f ∙ e)) q, h)

  pub misfit_top : (left : ℕ) (n : Node) → tree.parent n ≡ None
      → (Reaches tree (first_of cs left) n → ⊥) → CanPlace tree (first_of cs left) n → ⊥
  misfit_top left n e fails h = up h.0 h.1 h.2
    where
      up : (m : Node) → IsAtOrAbove tree m n → Reaches tree (first_of cs left) m → ⊥
      up m here r = fails r
      up m (above f q) r = no_some e f

  pub rest_up : (left rest : ℕ) (n v : Node) → LeavesRest tree cs left rest n v
      → CanPlace tree (first_of cs left) n ↔ CanPlace tree (first_of cs rest) v
  rest_up left rest n v l =
      (λ h. l.nothing_lost h.0 (within_above tree h.1) h.2, λ h. (n, here, l.enough h))

  pub alone_fails : (left : ℕ) (n : Node)
      → ((m : Node) → IsWithin tree m n → Reaches tree (first_of cs left) m → ⊥)
      → CanPlace tree (first_of cs left) n → ⊥
  alone_fails left n f h = f h.0 (within_above tree h.1) h.2

-- what a step back says of the combinator and the node
pub stepped : {Node : Type 0} (tree : Tree Node) (c : Combinator) (n v : Node)
    → step_from tree c n ≡ Some v → IsTrue (is_step c) × Relates tree c v n
stepped tree none n v e = absurd (no_some refl e)
stepped tree descendant n v e = absurd (no_some refl e)
stepped tree child n v e = (refl, e)
stepped tree adjacent n v e = (refl, e)

pub no_step : {Node : Type 0} (tree : Tree Node) (c : Combinator) (n : Node) → (c ≡ descendant → ⊥)
    → step_from tree c n ≡ None → (v : Node) → Relates tree c v n → ⊥
no_step tree none n d e v r = r
no_step tree descendant n d e v r = d refl
no_step tree child n d e v r = no_some e r
no_step tree adjacent n d e v r = no_some e r

pub placement_of : {Node : Type 0} (tree : Tree Node) (cs : List Component) (k : ℕ) (n : Node)
    → k ≡ length cs → HasPlacement tree cs n ↔ Reaches tree (first_of cs k) n
placement_of tree cs k n e = rw e (placement_is tree cs n)

-- from the element on, what a first stretch leaves
pub first_rest : {Node : Type 0} (tree : Tree Node) (cs : List Component) (k rest : ℕ) (n v : Node)
    → k ≡ length cs → LeavesRest tree cs k rest n v
    → HasPlacement tree cs n ↔ CanPlace tree (first_of cs rest) v
first_rest tree cs k rest n v e l =
    let p = placement_of tree cs k n e in
    (λ h. l.nothing_lost n (λ a q. q) (p.0 h), λ h. p.1 (l.enough h))

-- a single component
pub alone_reached : {Node : Type 0} (tree : Tree Node) (cs : List Component) (n : Node) (k : ℕ)
    → length cs ≡ 1 → k ≡ 0 → Meets tree n (component_at cs k).compound
    → Reaches tree (first_of cs (length cs)) n
alone_reached tree [] n k one e m = absurd (omega arith)
alone_reached tree (c ∷ d ∷ cs) n k one e m = absurd (omega arith)
alone_reached tree (c ∷ []) n k one e m = ((rw e at m), tt)
