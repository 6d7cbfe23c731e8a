-- The nearest placement loses nothing, along any function that leads from a node to at most one.
-- Serves the contract of `matches`.
use Rattle.std.proofs.Common.{◌≡◌, Option, Some, None, sym, ◌∙◌, subst}
use Rattle.css_matching.specs.Placements.{IsBeyond}
use Rattle.css_matching.specs.Placements.IsBeyond.{is_next, is_further}
use Rattle.css_matching.specs.internal.Search.{IsAlong, Can}
use Rattle.css_matching.specs.internal.Search.IsAlong.{here, after}

pub same_some : {A : Type 0} {x y : A} → Some x ≡ Some y → x ≡ y
same_some e = cc

pub no_some : {A : Type 0} {x : A} {o : Option A} → o ≡ None → o ≡ Some x → ⊥
no_some e f = cc

module _ {Node : Type 0} (next : Node → Option Node) where
  -- what is along the next node is beyond the node
  pub beyond_from : {m n p : Node} → next n ≡ Some p → IsAlong next m p → IsBeyond next m n
  beyond_from e here = is_next e
  beyond_from e (after f q) = is_further e (beyond_from f q)

  pub along_from : {m n : Node} → IsBeyond next m n → IsAlong next m n
  along_from (is_next e) = after e here
  along_from (is_further e q) = after e (along_from q)

  -- what is beyond a node is along the next one
  pub along_next : {m n p : Node} → next n ≡ Some p → IsBeyond next m n → IsAlong next m p
  along_next {m} e (is_next f) =
      subst (IsAlong next m) (same_some (sym f ∙ e)) here
  along_next {m} e (is_further f q) =
      subst (IsAlong next m) (same_some (sym f ∙ e)) (along_from q)

  pub beyond_none : {m n : Node} → next n ≡ None → IsBeyond next m n → ⊥
  beyond_none e (is_next f) = no_some e f
  beyond_none e (is_further f q) = no_some e f

  pub beyond_along : {m k u : Node} → IsAlong next k u → IsBeyond next m k → IsBeyond next m u
  beyond_along here h = h
  beyond_along (after e q) h = is_further e (beyond_along q h)

  pub step_beyond : {m k u : Node} → IsAlong next k u → next k ≡ Some m → IsBeyond next m u
  step_beyond here e = is_next e
  step_beyond (after f q) e = is_further f (step_beyond q e)

  -- One step from each of two nodes, and any number of steps.
  abbrev pub One : Node → Node → Type 0
  One m n = next n ≡ Some m

  abbrev pub Many : Node → Node → Type 0
  Many m n = IsBeyond next m n

  -- what is placed on `u` opens what is placed on nodes of the relation
  pub record Opens (R S : Node → Type 0) (U : Node → Node → Type 0) (u : Node) : Type 0 where
    pub enter : (m : Node) → U m u → S m → R u
    pub leave : (k : Node) → R k → (m : Node) × U m k × S m

  -- placing `S` on `u` is placing `R` on `v`, and whatever of `R` is along `v` has `S` along `u`
  pub record Tracks (R S : Node → Type 0) (v u : Node) : Type 0 where
    pub onward : R v → S u
    pub back : S u → R v
    pub nothing_lost : (m : Node) → IsAlong next m v → R m → Can next S u

  pub tracks_start : (R : Node → Type 0) (v : Node) → Tracks R R v v
  tracks_start R v = record { onward = λ h. h; back = λ h. h; nothing_lost = λ m a h. (m, a, h) }

  pub tracks_one : (R S T : Node → Type 0) (v u w : Node) → Opens S T One u → next u ≡ Some w
      → Tracks R S v u → Tracks R T v w
  tracks_one R S T v u w o e t =
      record {
        onward = λ h. (let k = o.leave u (t.onward h) in subst T (same_some (sym k.1 ∙ e)) k.2);
        back = λ h. t.back (o.enter w e h);
        nothing_lost = λ m a h.
            (let k = t.nothing_lost m a h in let l = o.leave k.0 k.2 in
            (l.0, along_next e (step_beyond k.1 l.1), l.2));
      }

  pub one_none : (R S T : Node → Type 0) (v u : Node) → Opens S T One u → next u ≡ None
      → Tracks R S v u → Can next R v → ⊥
  one_none R S T v u o e t h =
      let k = t.nothing_lost h.0 h.1 h.2 in let l = o.leave k.0 k.2 in
      beyond_none e (step_beyond k.1 l.1)

  pub many_lost : (R S T : Node → Type 0) (v u w : Node) → Opens S T Many u → next u ≡ Some w
      → Tracks R S v u → Can next R v → Can next T w
  many_lost R S T v u w o e t h =
      let k = t.nothing_lost h.0 h.1 h.2 in let l = o.leave k.0 k.2 in
      (l.0, along_next e (beyond_along k.1 l.1), l.2)

  pub many_enough : (R S T : Node → Type 0) (v u w : Node) → Opens S T Many u → next u ≡ Some w
      → Tracks R S v u → Can next T w → R v
  many_enough R S T v u w o e t h = t.back (o.enter h.0 (beyond_from e h.1) h.2)

  pub many_none : (R S T : Node → Type 0) (v u : Node) → Opens S T Many u → next u ≡ None
      → Tracks R S v u → Can next R v → ⊥
  many_none R S T v u o e t h =
      let k = t.nothing_lost h.0 h.1 h.2 in let l = o.leave k.0 k.2 in
      beyond_none e (beyond_along k.1 l.1)

  -- where it does not fit, it is further on, if anywhere
  pub misfit_next : (R : Node → Type 0) (n p : Node) → next n ≡ Some p → (R n → ⊥) → Can next R n
      → Can next R p
  misfit_next R n p e fails h = up h.0 h.1 h.2
    where
      up : (m : Node) → IsAlong next m n → R m → Can next R p
      up m here r = absurd (fails r)
      up m (after f q) r = (m, subst (IsAlong next m) (same_some (sym f ∙ e)) q, r)

  pub next_misfit : (R : Node → Type 0) (n p : Node) → next n ≡ Some p → Can next R p → Can next R n
  next_misfit R n p e h = (h.0, after e h.1, h.2)

  pub misfit_none : (R : Node → Type 0) (n : Node) → next n ≡ None → (R n → ⊥) → Can next R n → ⊥
  misfit_none R n e fails h = up h.0 h.1 h.2
    where
      up : (m : Node) → IsAlong next m n → R m → ⊥
      up m here r = fails r
      up m (after f q) r = no_some e f
