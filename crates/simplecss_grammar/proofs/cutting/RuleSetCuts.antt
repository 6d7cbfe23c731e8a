-- A rule set reads the same where the text is cut after it or later.
-- Serves `StyleSheet::parse_more` and `laws::cutting_law` (a text read in pieces).
use Rattle.std.proofs.Common.{◌≡◌, ℕ, ◌≤◌, List, [], ◌∷◌, ◌++◌, Bool, true, false, if◌then◌else◌, ◌==◌, not, length, map, Option, Some, None, arith, refl, ◌⊎◌, inl, inr, IsUtf8, ◌<◌, eqb-true}
use Rattle.std.specs.List.{filter_map}
use Rattle.css_text.specs.AsciiBytes.{close_brace, comma, open_brace}
use Rattle.css_text.specs.Reading.{Ends, each}
use Rattle.css_text.specs.Bytes.{past, past_one, past_byte, starts}
use Rattle.css_text.specs.Characters.{Edition, is_space}
use Rattle.simplecss_grammar.specs.Components.{Component}
use Rattle.simplecss_grammar.specs.Selectors.{reads}
use Rattle.simplecss_grammar.specs.Declarations.{StyleDeclaration}
use Rattle.simplecss_grammar.specs.Blocks.{block}
use Rattle.simplecss_grammar.specs.Statements.{StyleRule, part, part_and_comma, parts, next_block, rule_set}
use Rattle.css_text.proofs.reading.TakesLemmas.{length-past}
use Rattle.simplecss_grammar.proofs.reading.DeclarationLemmas.{length-block}
use Rattle.simplecss_grammar.proofs.reading.StatementTextLemmas.{length-part, length-parts, part_and_comma-takes}
use Rattle.simplecss_grammar.proofs.reading.LocalLemmas.{Diverge, at, on, To, Equal, Step, Repeats, each-repeats, past-diverge, past-both, past_byte-to, pairs-equal, Same}
use Rattle.css_text.proofs.reading.EndsLemmas.{ends-ends, ends-past}
use Rattle.css_text.proofs.bytes.Utf8Lemmas.{utf8-after, utf8-past_byte_if}
use Rattle.css_text.proofs.reading.WellLemmas.{each-well, found-text}
use Rattle.simplecss_grammar.proofs.cutting.StatementEnds.{part_and_comma-well, parts-ends}
use Rattle.simplecss_grammar.proofs.cutting.BlockEndGuards.{Exact}
use Rattle.simplecss_grammar.proofs.cutting.BlockCuts.{Lost, BlockSame, block-same}
use Rattle.simplecss_grammar.proofs.cutting.SelectorGuards.{selectors-guarded}

abbrev PartPasses : Edition → List ℕ → List ℕ → Type 0
PartPasses edition t a = length (part edition a).1 ≤ length t

-- a rule set, up to its block's end
abbrev pub RulesSame : List ℕ → List ℕ → List StyleRule × List ℕ → List StyleRule × List ℕ → Type 0
RulesSame t u a b = Lost t a.1 ⊎ ((a.0 ≡ b.0) × Exact close_brace t u a.1 b.1)

module _ (edition : Edition) where
  pub opened-lost : (t x : List ℕ) → length x ≤ length t
      → Lost t (if starts open_brace x then block edition (past_one x) else ([], [])).1
  opened-lost t [] l = inr refl
  opened-lost t (b ∷ x) l = by (b == open_brace)
    where
      by : (k : Bool) → Lost t (if k then block edition x else ([], [])).1
      by true = inl (omega (arith, length-block edition x))
      by false = inr refl

  -- the next block, from after the brace
  pub next_block-lost : (t x : List ℕ) → length x ≤ length t → Lost t (next_block edition x).1
  unfolding next_block
  next_block-lost t x l =
      opened-lost t (past (λ b. not (b == open_brace)) x)
      (omega (arith, length-past (λ b. not (b == open_brace)) x))

  opened-same : (u v whole x y : List ℕ) → IsUtf8 whole → Ends whole x
      → Diverge (close_brace ∷ (u ++ v)) (close_brace ∷ u) x y
      → BlockSame (u ++ v) u (if starts open_brace x then block edition (past_one x) else ([], []))
      (if starts open_brace y then block edition (past_one y) else ([], []))
  opened-same u v whole x y w e at = inl (inr refl)
  opened-same u v whole x y w e (on b x1 y1 h) = by (b == open_brace) refl
    where
      by : (k : Bool) → (b == open_brace) ≡ k
          → BlockSame (u ++ v) u (if k then block edition x1 else ([], []))
          (if k then block edition y1 else ([], []))
      by true f =
          block-same edition u v x1 y1 (utf8-after whole x1 b (omega
          (arith, eqb-true b open_brace f)) w e)
          h
      by false f = inl (inr refl)

  next_block-same : (u v whole r s : List ℕ) → IsUtf8 whole → Ends whole r
      → Diverge (close_brace ∷ (u ++ v)) (close_brace ∷ u) r s
      → BlockSame (u ++ v) u (next_block edition r) (next_block edition s)
  unfolding next_block
  next_block-same u v whole r s w e h =
      by (past (λ b. not (b == open_brace)) r) (past (λ b. not (b == open_brace)) s)
      (ends-ends whole r (past (λ b. not (b == open_brace)) r) e
      (ends-past (λ b. not (b == open_brace)) r))
      (past-both close_brace (u ++ v) u (λ b. not (b == open_brace)) r s h)
    where
      by : (x y : List ℕ) → Ends whole x → To true (close_brace ∷ (u ++ v)) (close_brace ∷ u) x y
          → BlockSame (u ++ v) u
          (if starts open_brace x then block edition (past_one x) else ([], []))
          (if starts open_brace y then block edition (past_one y) else ([], []))
      by x y f (inl l) = inl (opened-lost (u ++ v) x l)
      by x y f (inr k) = opened-same u v whole x y w f k

  pub part-same : (u v r s : List ℕ) → IsUtf8 r
      → Diverge (close_brace ∷ (u ++ v)) (close_brace ∷ u) r s
      → Same (u ++ v) u (part edition r) (part edition s)
  unfolding part
  part-same u v r s w h =
      by (reads edition r) (reads edition s) (selectors-guarded edition u v r s w h)
    where
      by : (a b : Option (List Component) × List ℕ) → Same (u ++ v) u a b
          → Same (u ++ v) u (a.0, past is_space a.1) (b.0, past is_space b.1)
      by a b (inl l) = inl (omega (arith, length-past is_space a.1))
      by a b (inr k) = inr (k.0, past-diverge close_brace (u ++ v) u is_space refl a.1 b.1 k.1)

  comma-step : (t u r s : List ℕ) (a b : Option (List Component) × List ℕ) → Same t u a b
      → (length a.1 ≤ length t → PartPasses edition t r)
      → Step Equal (PartPasses edition t) close_brace t u r
      (if starts comma a.1 then Some (a.0, past_one a.1) else None)
      (if starts comma b.1 then Some (b.0, past_one b.1) else None)
  comma-step t u r s (a, x) (b, y) (inl l) stuck = by (starts comma x) (starts comma y)
    where
      shorter : (z : List ℕ) → length (past_one z) ≤ length z
      shorter [] = omega arith
      shorter (c ∷ z) = omega arith

      by : (j k : Bool)
          → Step Equal (PartPasses edition t) close_brace t u r
          (if j then Some (a, past_one x) else None)
          (if k then Some (b, past_one y) else None)
      by true true = inl (omega (arith, shorter x))
      by true false = omega (arith, shorter x)
      by false true = stuck l
      by false false = tt
  comma-step t u r s (a, x) (b, y) (inr (e, k)) stuck = one x y k
    where
      one : (c d : List ℕ) → Diverge (close_brace ∷ t) (close_brace ∷ u) c d
          → Step Equal (PartPasses edition t) close_brace t u r
          (if starts comma c then Some (a, past_one c) else None)
          (if starts comma d then Some (b, past_one d) else None)
      one c d at = tt
      one c d (on z c1 d1 h) = by (z == comma)
        where
          by : (j : Bool)
              → Step Equal (PartPasses edition t) close_brace t u r
              (if j then Some (a, c1) else None)
              (if j then Some (b, d1) else None)
          by true = inr (e, h)
          by false = tt

  pub parts-same : (u v r s : List ℕ) → IsUtf8 r
      → Diverge (close_brace ∷ (u ++ v)) (close_brace ∷ u) r s
      → Same (u ++ v) u (parts edition r) (parts edition s)
  unfolding parts
  parts-same u v r s w h =
      by (each (part_and_comma edition) r) (each (part_and_comma edition) s)
      ((each-well (part_and_comma edition) (part_and_comma-well edition) r).1 w)
      (each-repeats IsUtf8 Equal (PartPasses edition (u ++ v)) close_brace (u ++ v) u
      (part_and_comma edition)
      (part_and_comma-takes edition)
      (found-text (part_and_comma edition) (part_and_comma-well edition))
      (λ a b x k. comma-step (u ++ v) u a b (part edition a) (part edition b)
      (part-same u v a b x k) (λ l. l)) (length r) r s (omega arith) w h)
    where
      chosen : List (Option (List Component)) → List (List Component)
      chosen xs = filter_map (λ selector. selector) xs

      last : (xs ys : List (Option (List Component))) (c d : Option (List Component) × List ℕ)
          → xs ≡ ys → Same (u ++ v) u c d
          → Same (u ++ v) u (filter_map (λ selector. selector) (xs ++ c.0 ∷ []), c.1)
          (filter_map (λ selector. selector) (ys ++ d.0 ∷ []), d.1)
      last xs ys c d e (inl l) = inl l
      last xs ys c d e (inr (f, k)) = inr (rw (e, f) refl, k)

      by : (a b : List (Option (List Component)) × List ℕ) → IsUtf8 a.1
          → Repeats Equal (PartPasses edition (u ++ v)) close_brace (u ++ v) u a b
          → Same (u ++ v) u (
            filter_map (λ selector. selector) (a.0 ++ (part edition a.1).0 ∷ []),
            (part edition a.1).1,
          ) (
            filter_map (λ selector. selector) (b.0 ++ (part edition b.1).0 ∷ []),
            (part edition b.1).1,
          )
      by a b z (inl l) = inl (omega (arith, length-part edition a.1))
      by a b z (inr (inl l)) = inl l
      by a b z (inr (inr k)) =
          last a.0 b.0 (part edition a.1) (part edition b.1) (pairs-equal a.0 b.0 k.0)
          (part-same u v a.1 b.1 z k.1)

  pub rule_set-same : (u v r s : List ℕ) → IsUtf8 r
      → Diverge (close_brace ∷ (u ++ v)) (close_brace ∷ u) r s
      → RulesSame (u ++ v) u (rule_set edition r) (rule_set edition s)
  unfolding rule_set
  rule_set-same u v r s w h =
      after_comma (past_byte comma r) (past_byte comma s)
      (utf8-past_byte_if comma r (omega arith) w)
      (past_byte-to (close_brace ∷ (u ++ v)) (close_brace ∷ u) comma refl r s h)
    where
      body : (xs ys : List (List Component)) (c d : List StyleDeclaration × List ℕ) → xs ≡ ys
          → BlockSame (u ++ v) u c d → RulesSame (u ++ v) u
          (map (λ selector. record { components = selector; declarations = c.0 }) xs, c.1)
          (map (λ selector. record { components = selector; declarations = d.0 }) ys, d.1)
      body xs ys c d e (inl l) = inl l
      body xs ys c d e (inr (f, k)) = inr (rw (e, f) refl, k)

      head : (x : List ℕ) (a b : List (List Component) × List ℕ) → IsUtf8 x → Ends x a.1
          → Same (u ++ v) u a b → RulesSame (u ++ v) u (
            map (λ selector. record
                { components = selector; declarations = (next_block edition a.1).0 }) a.0,
            (next_block edition a.1).1,
          ) (
            map (λ selector. record
                { components = selector; declarations = (next_block edition b.1).0 }) b.0,
            (next_block edition b.1).1,
          )
      head x a b z f (inl l) = inl (next_block-lost (u ++ v) a.1 l)
      head x a b z f (inr (e, k)) =
          body a.0 b.0 (next_block edition a.1) (next_block edition b.1) e
          (next_block-same u v x a.1 b.1 z f k)

      after_comma : (x y : List ℕ) → IsUtf8 x
          → (length x < length (close_brace ∷ (u ++ v)))
          ⊎ Diverge (close_brace ∷ (u ++ v)) (close_brace ∷ u) x y
          → RulesSame (u ++ v) u (
            map (λ selector. record {
              components = selector;
              declarations = (next_block edition
                  (parts edition x).1).0;
            })
                (parts edition x).0,
            (next_block edition (parts edition x).1).1,
          ) (
            map (λ selector. record {
              components = selector;
              declarations = (next_block edition
                  (parts edition y).1).0;
            })
                (parts edition y).0,
            (next_block edition (parts edition y).1).1,
          )
      after_comma x y z (inl l) =
          inl (next_block-lost (u ++ v) (parts edition x).1 (omega (arith, length-parts edition x)))
      after_comma x y z (inr k) =
          head x (parts edition x) (parts edition y) z (parts-ends edition x)
          (parts-same u v x y z k)
