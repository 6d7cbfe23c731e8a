-- What one step of the search says of the parts that are left.
-- Serves the contract of `matches`.
use Rattle.std.proofs.Common.{◌≡◌, ℕ, zero, suc, ◌+◌, ◌-◌, ◌<◌, ◌≤◌, ◌↔◌, Option, Some, None, refl, sym, ◌∙◌, subst, arith, ap, Bor, ◌⊎◌, inl, inr}
use Rattle.std.specs.Option.{option_copied, unwrap_or, option_map_or}
use Rattle.css_matching.specs.declared.Combinator.{Combinator}
use Rattle.css_matching.specs.declared.Combinator.TheVariants.{Descendant, Child, Adjacent, Sibling}
use Rattle.css_matching.specs.Trees.{Tree, SiblingsShareParent, Counts}
use Rattle.css_matching.specs.Placements.{IsBeyond, Relates}
use Rattle.css_matching.specs.Placements.IsBeyond.{is_next, is_further}
use Rattle.css_matching.specs.Bounds.{level_count, run_length, longest_free, fixed_length, above_length}
use Rattle.css_matching.proofs.Counting.{level_count-adjacent, level_count-sibling, run_length-step, run_length-sibling, fixed_length-adjacent, fixed_length-sibling, above_length-adjacent, above_length-sibling, fixed_length-up, free_bound, longest_free-below}
use Rattle.css_matching.specs.declared.matching.Fit.{Fit}
use Rattle.css_matching.specs.declared.matching.Fit.TheVariants.{Mismatch, NoNode}
use Rattle.css_matching.specs.internal.Search.{IsAlong, FindsRun, FindsStretch, HasTested, HasTestedAll, Can, Before, Reaches, IsUp, Level, Rest, Leaves}
use Rattle.css_matching.specs.internal.Search.IsAlong.{here, after}
use Rattle.css_matching.proofs.Chains.{One, Many, Opens, Tracks, tracks_start, tracks_one, one_none, many_lost, many_enough, many_none, misfit_next, next_misfit, misfit_none}

taken : {T Node : Type 0} (node : T → Node) (r : Option (Bor T)) (top : Option T) (low : Bor T)
    → option_copied r ≡ top → node (unwrap_or r low).now ≡ option_map_or node top (node low.now)
taken node None top low e = ap (λ (o : Option _). option_map_or node o (node low.now)) e
taken node (Some x) top low e = ap (λ (o : Option _). option_map_or node o (node low.now)) e

-- the node that is borrowed is the top, or the lowest where there is no top yet
pub borrowed : {T Node : Type 0} (node : T → Node) (r : Option (Bor T)) (top : Option T)
    (low b : Bor T) → option_copied r ≡ top → b ≡ unwrap_or r low
    → node b.now ≡ option_map_or node top (node low.now)
borrowed node r top low b e f = ap (λ (x : Bor _). node x.now) f ∙ taken node r top low e

pub next_at : {Node : Type 0} (next : Node → Option Node) (x u : Node) (o : Option Node) → x ≡ u
    → o ≡ next x → next u ≡ o
next_at next x u o e p = cc

pub up_of : (c d : Combinator) → c ≡ d → (c ≡ Descendant) ⊎ (c ≡ Child) → IsUp d
up_of c d e (inl f) = subst IsUp (sym f ∙ e) tt
up_of c d e (inr f) = subst IsUp (sym f ∙ e) tt

pub descendant_of : (c d : Combinator) → c ≡ d → IsUp d
    → (c ≡ Descendant) ⊎ ((c ≡ Adjacent) ⊎ (c ≡ Sibling)) → d ≡ Descendant
descendant_of c d e up (inl f) = sym e ∙ f
descendant_of c d e up (inr (inl f)) = absurd (subst IsUp (sym e ∙ f) up)
descendant_of c d e up (inr (inr f)) = absurd (subst IsUp (sym e ∙ f) up)

-- one step less along a function that counts
pub count_less : {Node : Type 0} (next : Node → Option Node) (number : Node → ℕ)
    → Counts next number → (n p : Node) → next n ≡ Some p → number n ≡ number p + 1
count_less next number law n p e = let h = law n in rw e at h

pub beyond_less : {Node : Type 0} (next : Node → Option Node) (number : Node → ℕ)
    → Counts next number → (m n : Node) → IsBeyond next m n → number m < number n
beyond_less next number law m n (is_next e) =
    let h = count_less next number law n m e in omega (arith, h)
beyond_less next number law m n (is_further {p = p} e q) =
    let h = count_less next number law n p e in let r = beyond_less next number law m p q in
    omega (arith, h, r)

-- siblings share their parent
pub sibling_parent : {Node : Type 0} (tree : Tree Node) → SiblingsShareParent tree → (s n : Node)
    → tree.previous_sibling n ≡ Some s → tree.parent s ≡ tree.parent n
sibling_parent tree law s n e = let h = law n in rw e at h

pub along_parent : {Node : Type 0} (tree : Tree Node) → SiblingsShareParent tree → {s n : Node}
    → IsAlong tree.previous_sibling s n → tree.parent s ≡ tree.parent n
along_parent tree law here = refl
along_parent tree law (after {p = p} {n = n} e q) =
    along_parent tree law q ∙ sibling_parent tree law p n e

pub beyond_parent : {Node : Type 0} (tree : Tree Node) → SiblingsShareParent tree → {s n : Node}
    → IsBeyond tree.previous_sibling s n → tree.parent s ≡ tree.parent n
beyond_parent tree law {s} {n} (is_next e) = sibling_parent tree law s n e
beyond_parent tree law (is_further {p = p} {n = n} e q) =
    beyond_parent tree law q ∙ sibling_parent tree law p n e

pub along_then : {Node : Type 0} (next : Node → Option Node) {w u n : Node} → IsAlong next u n
    → next u ≡ Some w → IsAlong next w n
along_then next here e = after e here
along_then next (after f q) e = after f (along_then next q e)

pub beyond_then : {Node : Type 0} (next : Node → Option Node) {w u n : Node} → IsAlong next u n
    → next u ≡ Some w → IsBeyond next w n
beyond_then next here e = is_next e
beyond_then next (after f q) e = is_further f (beyond_then next q e)

module _ {Node : Type 0} (tree : Tree Node) (combinator : ℕ → Combinator)
    (Meets : ℕ → Node → Type 0) where
  abbrev pub B : ℕ → Node → Type 0
  B = Before tree combinator Meets

  abbrev pub R : ℕ → Node → Type 0
  R = Reaches tree combinator Meets

  one_less : (j : ℕ) → suc j - 1 ≡ j
  one_less j = omega arith

  pub before_open : (i : ℕ) (n : Node) → 0 < i
      → B i n ↔ ((m : Node) × Relates tree (combinator i) m n × R (i - 1) m)
  before_open zero n some = absurd (omega arith)
  before_open (suc j) n some = rw (one_less j) (λ h. h, λ h. h)

  -- with an upper combinator, only the parent matters
  pub before_shared : (i : ℕ) (m n : Node) → (0 < i → IsUp (combinator i))
      → tree.parent m ≡ tree.parent n → B i m → B i n
  before_shared zero m n up e h = tt
  before_shared (suc j) m n up e h =
      (h.0, related (combinator (suc j)) h.0 (up (omega arith)) h.1, h.2)
    where
      above : (a : Node) → IsBeyond tree.parent a m → IsBeyond tree.parent a n
      above a (is_next f) = is_next (sym e ∙ f)
      above a (is_further f q) = is_further (sym e ∙ f) q

      related : (c : Combinator) (a : Node) → IsUp c → Relates tree c a m → Relates tree c a n
      related Descendant a u r = above a r
      related Child a u r = sym e ∙ r
      related Adjacent a u r = absurd u
      related Sibling a u r = absurd u

  -- a part that is met opens what is before it
  pub opens_run : (i : ℕ) (c : Combinator) (U : Node → Node → Type 0) (u : Node) → 0 < i
      → combinator i ≡ c → ((m n : Node) → Relates tree c m n ↔ U m n) → Meets i u
      → Opens tree.previous_sibling (R i) (R (i - 1)) U u
  opens_run i c U u some e same met =
      record {
        enter = λ m r h. (met, (before_open i u some).1 (m, (rw e ((same m u).1 r)), h));
        leave = λ k h. (let o = (before_open i k some).0 h.1 in
            (o.0, (same o.0 k).0 (rw e at o.1), o.2));
      }

  -- a level that fits opens what is before it
  pub opens_level : (first last : ℕ) (c : Combinator) (U : Node → Node → Type 0) (u : Node)
      → 0 < first → combinator first ≡ c → ((m n : Node) → Relates tree c m n ↔ U m n)
      → Level tree combinator Meets first last u
      → Opens tree.parent (R last) (R (first - 1)) U u
  opens_level first last c U u some e same l =
      record {
        enter = λ m r h. l.enter ((before_open first u some).1 (m, (rw e ((same m u).1 r)), h));
        leave = λ k h. (let o = (before_open first k some).0 (l.leave k h) in
            (o.0, (same o.0 k).0 (rw e at o.1), o.2));
      }

  -- A run that was followed back to part `i`, which is next to be tried, on `u`.
  pub record RunState (last i : ℕ) (n u : Node) : Type 0 where
    pub within : i ≤ last
    pub tracks : Tracks tree.previous_sibling (R last) (R i) n u
    pub along : IsAlong tree.previous_sibling u n
    pub leave : (m : Node) → R last m → (k : Node) × (tree.parent k ≡ tree.parent m) × R i k
    pub levels : level_count combinator i ≡ level_count combinator last
    pub fixed : fixed_length combinator last + run_length combinator i
        ≡ run_length combinator last + fixed_length combinator i
    pub free : above_length combinator i ≡ above_length combinator last

  pub run_start : (last : ℕ) (n : Node) → RunState last last n n
  run_start last n =
      record {
        within = omega arith;
        tracks = tracks_start tree.previous_sibling (R last) n;
        along = here;
        leave = λ m h. (m, refl, h);
        levels = refl;
        fixed = omega arith;
        free = refl;
      }

  pub run_misfit : (last i : ℕ) (n u : Node) → RunState last i n u → (Meets i u → ⊥) → R last n → ⊥
  run_misfit last i n u s fails h = fails (s.tracks.onward h).0

  adjacent : (m n : Node) → Relates tree Adjacent m n ↔ One tree.previous_sibling m n
  adjacent m n = (λ h. h, λ h. h)

  sibling : (m n : Node) → Relates tree Sibling m n ↔ Many tree.previous_sibling m n
  sibling m n = (λ h. h, λ h. h)

  pub run_step : SiblingsShareParent tree → (last i : ℕ) (n u w : Node) → RunState last i n u
      → 0 < i → combinator i ≡ Adjacent → Meets i u → tree.previous_sibling u ≡ Some w
      → RunState last (i - 1) n w
  run_step law last i n u w s some e met f =
      let o = opens_run i Adjacent (One tree.previous_sibling) u some e adjacent met in
      let le = s.within in
      record {
        within = omega (arith, le);
        tracks = tracks_one tree.previous_sibling (R last) (R i) (R (i - 1)) n u w o f s.tracks;
        along = along_then tree.previous_sibling s.along f;
        leave = λ m h. (let k = s.leave m h in let b = (before_open i k.0 some).0 k.2.1 in
            let r : tree.previous_sibling k.0 ≡ Some b.0 = (rw e at b.1) in
            (b.0, sibling_parent tree law b.0 k.0 r ∙ k.1, b.2));
        levels = level_count-adjacent combinator i some e ∙ s.levels;
        fixed = (let f = s.fixed in omega (
          arith,
          f,
          fixed_length-adjacent combinator i some e,
          run_length-step combinator i some e,
        ));
        free = above_length-adjacent combinator i some e ∙ s.free;
      }

  pub run_none_adjacent : (last i : ℕ) (n u : Node) → RunState last i n u → 0 < i
      → combinator i ≡ Adjacent → Meets i u → tree.previous_sibling u ≡ None
      → Can tree.previous_sibling (R last) n → ⊥
  run_none_adjacent last i n u s some e met f =
      one_none tree.previous_sibling (R last) (R i) (R (i - 1)) n u
      (opens_run i Adjacent (One tree.previous_sibling) u some e adjacent met) f s.tracks

  pub run_none_sibling : (last i : ℕ) (n u : Node) → RunState last i n u → 0 < i
      → combinator i ≡ Sibling → Meets i u → tree.previous_sibling u ≡ None
      → Can tree.previous_sibling (R last) n → ⊥
  run_none_sibling last i n u s some e met f =
      many_none tree.previous_sibling (R last) (R i) (R (i - 1)) n u
      (opens_run i Sibling (Many tree.previous_sibling) u some e sibling met) f s.tracks

  pub run_continues : SiblingsShareParent tree → (last i : ℕ) (n u w : Node) → RunState last i n u
      → 0 < i → combinator i ≡ Sibling → Meets i u → tree.previous_sibling u ≡ Some w
      → Rest tree combinator Meets tree.previous_sibling (i - 1) last n w
      × Leaves tree combinator Meets (i - 1) last n w
  run_continues law last i n u w s some e met f =
      let o = opens_run i Sibling (Many tree.previous_sibling) u some e sibling met in
      let le = s.within in (
        record {
          fewer = omega (arith, le, some);
          beyond = beyond_then tree.previous_sibling s.along f;
          nothing_lost =
              many_lost tree.previous_sibling (R last) (R i) (R (i - 1)) n u w o f s.tracks;
          enough = many_enough tree.previous_sibling (R last) (R i) (R (i - 1)) n u w o f s.tracks;
        },
        record {
          shared = sibling_parent tree law w u f ∙ along_parent tree law s.along;
          levels = level_count-sibling combinator i some e ∙ s.levels;
          fixed = (let f = s.fixed in omega (
            arith,
            f,
            fixed_length-sibling combinator i some e,
            run_length-sibling combinator i some e,
          ));
          free = above_length-sibling combinator i some e ∙ s.free;
          bounded = free_bound combinator i last some e le;
          leave = λ m h. (let k = s.leave m h in let b = (before_open i k.0 some).0 k.2.1 in
              let r : IsBeyond tree.previous_sibling b.0 k.0 = (rw e at b.1) in
              (b.0, beyond_parent tree law r ∙ k.1, b.2));
        },
      )

  pub run_complete : SiblingsShareParent tree → (last i : ℕ) (n u : Node) → RunState last i n u
      → (0 < i → IsUp (combinator i)) → Meets i u → Level tree combinator Meets i last n
  run_complete law last i n u s up met =
      record {
        within = s.within;
        up = up;
        enter = λ h. s.tracks.back
            (met, before_shared i n u up (sym (along_parent tree law s.along)) h);
        leave = λ m h. (let k = s.leave m h in before_shared i k.0 m up k.1 k.2.1);
        levels = s.levels;
        fixed = (let f = s.fixed in let g = fixed_length-up combinator i up in
            let a = g.0 in let b = g.1 in omega (arith, f, a, b));
        free = s.free;
      }

  -- A level of which the parts up to `low` remain, to be placed on `c` or an earlier sibling.
  pub record LevelState (last low : ℕ) (n c : Node) : Type 0 where
    pub fewer : low < last
    pub onward : R last n → Can tree.previous_sibling (R low) c
    pub back : Can tree.previous_sibling (R low) c → R last n
    pub shared : tree.parent c ≡ tree.parent n
    pub leave : (m : Node) → R last m → (k : Node) × (tree.parent k ≡ tree.parent m) × R low k
    pub levels : level_count combinator low ≡ level_count combinator last
    pub fixed : fixed_length combinator last
        ≡ run_length combinator last + above_length combinator low
    pub free : above_length combinator low ≡ above_length combinator last
    pub bounded : run_length combinator low ≤ longest_free combinator last

  pub level_begun : (last low : ℕ) (n c : Node)
      → Rest tree combinator Meets tree.previous_sibling low last n c
      → Leaves tree combinator Meets low last n c → LevelState last low n c
  level_begun last low n c r l =
      record {
        fewer = r.fewer;
        onward = λ h. r.nothing_lost (n, here, h);
        back = r.enough;
        shared = l.shared;
        leave = l.leave;
        levels = l.levels;
        fixed = l.fixed;
        free = l.free;
        bounded = l.bounded;
      }

  pub level_goes : (last low rest : ℕ) (n c v : Node) → LevelState last low n c
      → Rest tree combinator Meets tree.previous_sibling rest low c v
      → Leaves tree combinator Meets rest low c v → LevelState last rest n v
  level_goes last low rest n c v s r l =
      let a = s.fewer in let b = r.fewer in
      record {
        fewer = omega (arith, a, b);
        onward = λ h. r.nothing_lost (s.onward h);
        back = λ h. s.back (c, here, r.enough h);
        shared = l.shared ∙ s.shared;
        leave = λ m h. (let k = s.leave m h in let j = l.leave k.0 k.2 in (j.0, j.1 ∙ k.1, j.2));
        levels = l.levels ∙ s.levels;
        fixed = (let f = s.fixed in let g = l.free in omega (arith, f, g));
        free = l.free ∙ s.free;
        bounded = (let x = l.bounded in
            let y = longest_free-below combinator low last (omega (arith, a)) in omega (arith, x, y));
      }

  pub level_misfit : SiblingsShareParent tree → (last low : ℕ) (n c v : Node)
      → LevelState last low n c → (R low c → ⊥) → tree.previous_sibling c ≡ Some v
      → LevelState last low n v
  level_misfit law last low n c v s fails e =
      record {
        fewer = s.fewer;
        onward = λ h. misfit_next tree.previous_sibling (R low) c v e fails (s.onward h);
        back = λ h. s.back (next_misfit tree.previous_sibling (R low) c v e h);
        shared = sibling_parent tree law v c e ∙ s.shared;
        leave = s.leave;
        levels = s.levels;
        fixed = s.fixed;
        free = s.free;
        bounded = s.bounded;
      }

  pub level_none : (last low : ℕ) (n c : Node) → LevelState last low n c → (R low c → ⊥)
      → tree.previous_sibling c ≡ None → R last n → ⊥
  level_none last low n c s fails e h =
      misfit_none tree.previous_sibling (R low) c e fails (s.onward h)

  pub level_fails : (last low : ℕ) (n c : Node) → LevelState last low n c
      → (Can tree.previous_sibling (R low) c → ⊥) → R last n → ⊥
  level_fails last low n c s fails h = fails (s.onward h)

  pub level_done : (last low first : ℕ) (n c : Node) → LevelState last low n c
      → Level tree combinator Meets first low c → Level tree combinator Meets first last n
  level_done last low first n c s l =
      let a = s.fewer in let b = l.within in
      record {
        within = omega (arith, a, b);
        up = l.up;
        enter = λ h. s.back (c, here, l.enter (before_shared first n c l.up (sym s.shared) h));
        leave = λ m h. (let k = s.leave m h in before_shared first k.0 m l.up k.1 (l.leave k.0 k.2));
        levels = l.levels ∙ s.levels;
        fixed = (let f = s.fixed in let g = l.free in omega (arith, f, g));
        free = l.free ∙ s.free;
      }

  -- A stretch that was followed up to part `i`, which is next to be tried, on `u`.
  pub record StretchState (last i : ℕ) (n u : Node) : Type 0 where
    pub within : i ≤ last
    pub tracks : Tracks tree.parent (R last) (R i) n u
    pub along : IsAlong tree.parent u n

  pub stretch_start : (last : ℕ) (n : Node) → StretchState last last n n
  stretch_start last n =
      record { within = omega arith; tracks = tracks_start tree.parent (R last) n; along = here }

  child : (m n : Node) → Relates tree Child m n ↔ One tree.parent m n
  child m n = (λ h. h, λ h. h)

  descendant : (m n : Node) → Relates tree Descendant m n ↔ Many tree.parent m n
  descendant m n = (λ h. h, λ h. h)

  pub stretch_misfit : (last i : ℕ) (n u : Node) → StretchState last i n u → (R i u → ⊥) → R last n
      → ⊥
  stretch_misfit last i n u s fails h = fails (s.tracks.onward h)

  pub stretch_complete : (last i : ℕ) (n u : Node) → StretchState last i n u
      → Level tree combinator Meets 0 i u → R last n
  stretch_complete last i n u s l = s.tracks.back (l.enter tt)

  pub stretch_step : (last i first : ℕ) (n u w : Node) → StretchState last i n u
      → Level tree combinator Meets first i u → 0 < first → combinator first ≡ Child
      → tree.parent u ≡ Some w → StretchState last (first - 1) n w
  stretch_step last i first n u w s l some e f =
      let a = s.within in let b = l.within in
      record {
        within = omega (arith, a, b);
        tracks = tracks_one tree.parent (R last) (R i) (R (first - 1)) n u w
            (opens_level first i Child (One tree.parent) u some e child l) f s.tracks;
        along = along_then tree.parent s.along f;
      }

  pub stretch_continues : (last i first : ℕ) (n u w : Node) → StretchState last i n u
      → Level tree combinator Meets first i u → 0 < first → combinator first ≡ Descendant
      → tree.parent u ≡ Some w → Rest tree combinator Meets tree.parent (first - 1) last n w
  stretch_continues last i first n u w s l some e f =
      let a = s.within in let b = l.within in
      let o = opens_level first i Descendant (Many tree.parent) u some e descendant l in
      record {
        fewer = omega (arith, a, b, some);
        beyond = beyond_then tree.parent s.along f;
        nothing_lost = many_lost tree.parent (R last) (R i) (R (first - 1)) n u w o f s.tracks;
        enough = many_enough tree.parent (R last) (R i) (R (first - 1)) n u w o f s.tracks;
      }

  pub stretch_none : (last i first : ℕ) (n u : Node) → StretchState last i n u
      → Level tree combinator Meets first i u → 0 < first → tree.parent u ≡ None
      → Can tree.parent (R last) n → ⊥
  stretch_none last i first n u s l some f = by (combinator first) refl
    where
      by : (c : Combinator) → combinator first ≡ c → Can tree.parent (R last) n → ⊥
      by Child e h = one_none tree.parent (R last) (R i) (R (first - 1)) n u
          (opens_level first i Child (One tree.parent) u some e child l) f s.tracks h
      by Descendant e h = many_none tree.parent (R last) (R i) (R (first - 1)) n u
          (opens_level first i Descendant (Many tree.parent) u some e descendant l) f s.tracks h
      by Adjacent e h = let x = l.up some in absurd (rw e at x)
      by Sibling e h = let x = l.up some in absurd (rw e at x)

  -- A search of which the parts up to `low` remain, to be placed on `c` or above it.
  pub record SearchState (last low : ℕ) (n c : Node) : Type 0 where
    pub fewer : low < last
    pub onward : R last n → Can tree.parent (R low) c
    pub back : Can tree.parent (R low) c → R last n

  pub search_begun : (last low : ℕ) (n c : Node)
      → Rest tree combinator Meets tree.parent low last n c → SearchState last low n c
  search_begun last low n c r =
      record { fewer = r.fewer; onward = λ h. r.nothing_lost (n, here, h); back = r.enough }

  pub search_goes : (last low rest : ℕ) (n c v : Node) → SearchState last low n c
      → Rest tree combinator Meets tree.parent rest low c v → SearchState last rest n v
  search_goes last low rest n c v s r =
      let a = s.fewer in let b = r.fewer in
      record {
        fewer = omega (arith, a, b);
        onward = λ h. r.nothing_lost (s.onward h);
        back = λ h. s.back (c, here, r.enough h);
      }

  pub search_misfit : (last low : ℕ) (n c v : Node) → SearchState last low n c → (R low c → ⊥)
      → tree.parent c ≡ Some v → SearchState last low n v
  search_misfit last low n c v s fails e =
      record {
        fewer = s.fewer;
        onward = λ h. misfit_next tree.parent (R low) c v e fails (s.onward h);
        back = λ h. s.back (next_misfit tree.parent (R low) c v e h);
      }

  pub search_none : (last low : ℕ) (n c : Node) → SearchState last low n c → (R low c → ⊥)
      → tree.parent c ≡ None → R last n → ⊥
  search_none last low n c s fails e h = misfit_none tree.parent (R low) c e fails (s.onward h)

-- A run or a stretch that fits neither here nor further on does not fit here.
pub run_fails : {Node E : Type 0} (tree : Tree Node) (combinator : ℕ → Combinator)
    (Meets : ℕ → Node → Type 0) (node : E → Node) (last : ℕ) (n : Node) (fit : Fit E)
    → FindsRun tree combinator Meets node last n fit → (fit ≡ Mismatch) ⊎ (fit ≡ NoNode)
    → Reaches tree combinator Meets last n → ⊥
run_fails tree combinator Meets node last n fit f (inl e) h =
    subst (FindsRun tree combinator Meets node last n) e f h
run_fails tree combinator Meets node last n fit f (inr e) h =
    subst (FindsRun tree combinator Meets node last n) e f (n, here, h)

pub stretch_fails : {Node E : Type 0} (tree : Tree Node) (combinator : ℕ → Combinator)
    (Meets : ℕ → Node → Type 0) (node : E → Node) (last : ℕ) (n : Node) (fit : Fit E)
    → FindsStretch tree combinator Meets node last n fit → (fit ≡ Mismatch) ⊎ (fit ≡ NoNode)
    → Reaches tree combinator Meets last n → ⊥
stretch_fails tree combinator Meets node last n fit f (inl e) h =
    subst (FindsStretch tree combinator Meets node last n) e f h
stretch_fails tree combinator Meets node last n fit f (inr e) h =
    subst (FindsStretch tree combinator Meets node last n) e f (n, here, h)

-- In both cases a part was tested.
pub tested_run : {E : Type 0} (before now last : ℕ) (fit : Fit E) → HasTested before now last fit
    → (fit ≡ Mismatch) ⊎ (fit ≡ NoNode) → before < now
tested_run before now last fit h (inl e) = subst (HasTested before now last) e h
tested_run before now last fit h (inr e) = subst (HasTested before now last) e h

pub tested_stretch : {E : Type 0} (before now last : ℕ) (fit : Fit E)
    → HasTestedAll before now last fit → (fit ≡ Mismatch) ⊎ (fit ≡ NoNode) → before < now
tested_stretch before now last fit h (inl e) = subst (HasTestedAll before now last) e h
tested_stretch before now last fit h (inr e) = subst (HasTestedAll before now last) e h
