-- Declarations of a text that is cut before an `@`, read in its front alone.
-- Serves `cutting_law`.
use Rattle.std.proofs.Common.{◌≡◌, ℕ, ◌<◌, ◌≤◌, ◌==◌, ◌||◌, Bool, true, false, List, [], ◌∷◌, ◌++◌, length, Ok, Err, arith, refl, sym, ap, subst, ◌∙◌, if◌then◌else◌, eqb-true, codes}
use Rattle.css_text.specs.AsciiBytes.{at_sign, colon, exclamation_mark, open_parenthesis}
use Rattle.css_text.specs.Reading.{before}
use Rattle.css_text.specs.Bytes.{starts}
use Rattle.css_syntax.specs.declared.parts.Stops.{Stops}
use Rattle.css_syntax.specs.declared.quality.Fault.{Fault}
use Rattle.css_syntax.specs.Tokens.{begins_escape, is_name_byte, past_gap, past_word, spells}
use Rattle.css_syntax.specs.Parts.{Stated, parts}
use Rattle.css_syntax.specs.Statements.{starts_ident}
use Rattle.css_syntax.specs.DeclarationLists.{Declared, DeclarationText, declaration, importance, is_custom, is_stated, named, stated_as, value, value_ends, valued}
use Rattle.css_syntax.proofs.ItemLemmas.{ident-word}
use Rattle.css_syntax.proofs.PartLemmas.{parts-less, parts-within, past_gap-within}
use Rattle.sheet_laws.proofs.CutTokens.{gap-kept, word-kept}
use Rattle.sheet_laws.proofs.CutValues.{before-same, parts-same}
use Rattle.sheet_laws.proofs.CutRules.{ident-same}
use Rattle.sheet_laws.proofs.DeclarationReach.{Fewer, IsNamed, Plain, colon-through, important-named, mark-through, no-paren, no-word, paren-gap, through, word-reach, word-through}

pair-is : {A B : Type 0} (x : A × B) (a : A) (b : B) → x.0 ≡ a → x.1 ≡ b → x ≡ (a, b)
pair-is (p, q) a b e f = cc

abbrev either : Bool → Bool × List ℕ → Bool × List ℕ → Bool × List ℕ
either k x y = if k then x else y

module _ (t : List ℕ) where
  -- parts do not end at `@`
  pub at-short : (stops : Stops) → Plain stops → length (parts stops (at_sign ∷ t)).1 ≤ length t
  at-short stops plain = parts-less stops at_sign t (plain at_sign refl refl refl)

  word-long : (stops : Stops) → Plain stops → (e : List ℕ) → length t < length (parts stops (e ++ at_sign ∷ t)).1
      → length t < length (past_word (e ++ at_sign ∷ t))
  word-long stops plain [] l = absurd (omega (arith, l, at-short stops plain))
  word-long stops plain (c ∷ e) l = by (is_name_byte c || begins_escape (c ∷ (e ++ at_sign ∷ t))) refl
    where
      W : List ℕ
      W = e ++ at_sign ∷ t

      by : (k : Bool) → (is_name_byte c || begins_escape (c ∷ W)) ≡ k → length t < length (past_word (c ∷ W))
      by true h = omega (arith, l, word-reach stops plain c W h, past_gap-within (past_word (c ∷ W)))
      by false h = omega (arith, l, parts-within stops (c ∷ W), ap length (no-word c W h))

  -- ---- importance

  -- what is left after `important` is more than what follows the cut
  rest-some : (stops : Stops) → Plain stops → (e : List ℕ) → length t < length (parts stops (e ++ at_sign ∷ t)).1
      → past_word (e ++ at_sign ∷ t) ≡ past_word e ++ at_sign ∷ t
      → past_gap (past_word (e ++ at_sign ∷ t)) ≡ past_gap (past_word e) ++ at_sign ∷ t
      → (c : ℕ) (more : List ℕ) → e ++ at_sign ∷ t ≡ c ∷ more → IsNamed c more
      → 0 < length (past_gap (past_word e))
  rest-some stops plain e l w g c more f h =
      by (past_gap (past_word e)) refl (starts open_parenthesis (past_word (e ++ at_sign ∷ t))) refl
    where
      paren : (x : List ℕ) → starts open_parenthesis (x ++ at_sign ∷ t) ≡ true → past_gap x ≡ [] → ⊥
      paren [] k n = cc
      paren (d ∷ x) k n =
          let same : past_gap (d ∷ x) ≡ open_parenthesis ∷ x =
          ap (λ (y : ℕ). past_gap (y ∷ x)) (eqb-true d open_parenthesis k) ∙ paren-gap x in
          cc

      by : (i : List ℕ) → past_gap (past_word e) ≡ i → (k : Bool)
          → starts open_parenthesis (past_word (e ++ at_sign ∷ t)) ≡ k → 0 < length (past_gap (past_word e))
      by (x ∷ i) n k p = omega (arith, ap length n)
      by [] n true p =
          absurd (paren (past_word e) (subst (λ (z : List ℕ). starts open_parenthesis z ≡ true) w p) n)
      by [] n false p =
          let last : (parts stops (at_sign ∷ t)).1 ≡ (parts stops (e ++ at_sign ∷ t)).1 =
          ap (λ (z : List ℕ). (parts stops (z ++ at_sign ∷ t)).1) (sym n)
          ∙ ap (λ (z : List ℕ). (parts stops z).1) (sym g)
          ∙ ap (λ (z : List ℕ). (parts stops (past_gap (past_word z))).1) f
          ∙ word-through stops plain c more h
          (subst (λ (z : List ℕ). starts open_parenthesis (past_word z) ≡ false) f p)
          ∙ ap (λ (z : List ℕ). (parts stops z).1) (sym f) in
          absurd (omega (arith, l, at-short stops plain, ap length last))

  abbrev ImportanceSame : List ℕ → Type 0
  ImportanceSame u =
      ((importance (u ++ at_sign ∷ t)).0 ≡ (importance u).0)
      × ((importance (u ++ at_sign ∷ t)).1 ≡ (importance u).1 ++ at_sign ∷ t) × (0 < length (importance u).1)

  -- `!`, and what follows it
  marked-same : (stops : Stops) → Plain stops → (u : List ℕ)
      → length t < length (parts stops (exclamation_mark ∷ (u ++ at_sign ∷ t))).1
      → ImportanceSame (exclamation_mark ∷ u)
  marked-same stops plain u l = by (spells (codes "important") (before e (past_word e))) refl
    where
      e : List ℕ
      e = past_gap u

      W : List ℕ
      W = u ++ at_sign ∷ t

      inside : length t < length (parts stops (past_gap W)).1
      inside = omega (arith, l, ap length (mark-through stops plain W))

      gap : past_gap W ≡ e ++ at_sign ∷ t
      gap = gap-kept t u (omega (arith, inside, parts-within stops (past_gap W)))

      here : length t < length (parts stops (e ++ at_sign ∷ t)).1
      here = subst (λ (z : List ℕ). length t < length (parts stops z).1) gap inside

      word : past_word (e ++ at_sign ∷ t) ≡ past_word e ++ at_sign ∷ t
      word = word-kept t e (word-long stops plain e here)

      spelled : spells (codes "important") (before (past_gap W) (past_word (past_gap W)))
          ≡ spells (codes "important") (before e (past_word e))
      spelled =
          ap (λ (z : List ℕ). spells (codes "important") (before z (past_word z))) gap
          ∙ ap (spells (codes "important"))
          (ap (before (e ++ at_sign ∷ t)) word ∙ before-same t e (past_word e))

      Chosen : Bool → Bool → Type 0
      Chosen k m =
          ((either k (true, past_gap (past_word (past_gap W))) (false, exclamation_mark ∷ W)).0
          ≡ (either m (true, past_gap (past_word e)) (false, exclamation_mark ∷ u)).0)
          × ((either k (true, past_gap (past_word (past_gap W))) (false, exclamation_mark ∷ W)).1
          ≡ (either m (true, past_gap (past_word e)) (false, exclamation_mark ∷ u)).1 ++ at_sign ∷ t)
          × (0 < length (either m (true, past_gap (past_word e)) (false, exclamation_mark ∷ u)).1)

      chosen : (m : Bool) → spells (codes "important") (before e (past_word e)) ≡ m → Chosen m m
      chosen true f =
          let whole : spells (codes "important") (before (e ++ at_sign ∷ t) (past_word (e ++ at_sign ∷ t))) ≡ true =
          ap (spells (codes "important"))
          (ap (before (e ++ at_sign ∷ t)) word ∙ before-same t e (past_word e)) ∙ f in
          let there = important-named (e ++ at_sign ∷ t) whole in
          let reach = word-reach stops plain there.0 there.1 there.3 in
          let long : length t < length (past_gap (past_word (e ++ at_sign ∷ t))) =
          omega (
            arith,
            here,
            reach,
            ap (λ (z : List ℕ). length (parts stops z).1) there.2,
            ap (λ (z : List ℕ). length (past_gap (past_word z))) there.2,
          ) in
          let rest : past_gap (past_word (e ++ at_sign ∷ t)) ≡ past_gap (past_word e) ++ at_sign ∷ t =
          ap past_gap word
          ∙ gap-kept t (past_word e) (subst (λ (z : List ℕ). length t < length (past_gap z)) word long) in (
            refl,
            ap (λ (z : List ℕ). past_gap (past_word z)) gap ∙ rest,
            rest-some stops plain e here word rest there.0 there.1 there.2 there.3,
          )
      chosen false f = (refl, refl, omega arith)

      by : (m : Bool) → spells (codes "important") (before e (past_word e)) ≡ m
          → ImportanceSame (exclamation_mark ∷ u)
      by m f =
          subst (λ (k : Bool). Chosen k (spells (codes "important") (before e (past_word e)))) (sym (spelled ∙ f))
          (subst (λ (n : Bool). Chosen m n) (sym f) (chosen m f))

  importance-same : (stops : Stops) → Plain stops → (u : List ℕ)
      → length t < length (parts stops (u ++ at_sign ∷ t)).1 → ImportanceSame u
  importance-same stops plain [] l = absurd (omega (arith, l, at-short stops plain))
  importance-same stops plain (b ∷ u) l = by (b == exclamation_mark) refl
    where
      by : (k : Bool) → (b == exclamation_mark) ≡ k → ImportanceSame (b ∷ u)
      by true f =
          subst (λ (x : ℕ). length t < length (parts stops (x ∷ (u ++ at_sign ∷ t))).1 → ImportanceSame (x ∷ u))
          (sym (eqb-true b exclamation_mark f)) (marked-same stops plain u) l
      by false f = rw f (refl, refl, omega arith)

  -- ---- declarations

  -- a declaration of the front as one of the whole
  abbrev pub with_cut : Declared → Declared
  with_cut (Ok found) = Ok (found.0, found.1 ++ at_sign ∷ t)
  with_cut (Err fault) = Err fault

  stated-same : (name : List ℕ) (stated : Stated) (i : Bool) (r : List ℕ) → 0 < length r
      → stated_as true name stated (i, r ++ at_sign ∷ t) ≡ with_cut (stated_as true name stated (i, r))
  stated-same name stated i [] h = absurd (omega (arith, h))
  stated-same name stated i (c ∷ r) h = by (is_stated true name stated (c ∷ r)) _ _
    where
      by : (k : Bool) (made : DeclarationText) (why : Fault)
          → (if k then Ok (made, c ∷ (r ++ at_sign ∷ t)) else Err why)
          ≡ with_cut (if k then Ok (made, c ∷ r) else Err why)
      by true made why = refl
      by false made why = refl

  valued-same : (stops : Stops) → Plain stops → (name : List ℕ) → Fewer stops (value_ends (is_custom name))
      → (v : List ℕ) → length t < length (parts stops (v ++ at_sign ∷ t)).1
      → valued true name (value (is_custom name) (v ++ at_sign ∷ t))
      ≡ with_cut (valued true name (value (is_custom name) v))
  valued-same stops plain name fewer v l =
      let many = value_ends (is_custom name) in
      let X = parts many (v ++ at_sign ∷ t) in
      let Y = parts many v in
      let inside : length t < length (parts stops X.1).1 =
      omega (arith, l, ap length (through stops many fewer (v ++ at_sign ∷ t))) in
      let both = parts-same t many v (omega (arith, inside, parts-within stops X.1)) in
      let same = importance-same stops plain Y.1
      (subst (λ (z : List ℕ). length t < length (parts stops z).1) both.1 inside) in
      ap (λ (s : Stated). stated_as true name s (importance X.1)) both.0
      ∙ ap (λ (z : List ℕ). stated_as true name Y.0 (importance z)) both.1
      ∙ ap (stated_as true name Y.0)
      (pair-is (importance (Y.1 ++ at_sign ∷ t)) (importance Y.1).0 ((importance Y.1).1 ++ at_sign ∷ t) same.0 same.1)
      ∙ stated-same name Y.0 (importance Y.1).0 (importance Y.1).1 same.2

  named-same : (stops : Stops) → Plain stops → (name g : List ℕ)
      → (starts colon g ≡ true → Fewer stops (value_ends (is_custom name)))
      → (starts colon g ≡ true → length t < length (parts stops (g ++ at_sign ∷ t)).1)
      → named true name (g ++ at_sign ∷ t) ≡ with_cut (named true name g)
  named-same stops plain name [] fewer l = refl
  named-same stops plain name (c ∷ g) fewer l = by (c == colon) refl
    where
      colon_case : Fewer stops (value_ends (is_custom name))
          → length t < length (parts stops (colon ∷ (g ++ at_sign ∷ t))).1
          → named true name (colon ∷ (g ++ at_sign ∷ t)) ≡ with_cut (named true name (colon ∷ g))
      colon_case some k =
          let V = past_gap (g ++ at_sign ∷ t) in
          let inside : length t < length (parts stops V).1 =
          omega (arith, k, ap length (colon-through stops plain (g ++ at_sign ∷ t))) in
          let gap : V ≡ past_gap g ++ at_sign ∷ t =
          gap-kept t g (omega (arith, inside, parts-within stops V)) in
          ap (λ (z : List ℕ). valued true name (value (is_custom name) z)) gap
          ∙ valued-same stops plain name some (past_gap g)
          (subst (λ (z : List ℕ). length t < length (parts stops z).1) gap inside)

      by : (k : Bool) → (c == colon) ≡ k
          → named true name (c ∷ (g ++ at_sign ∷ t)) ≡ with_cut (named true name (c ∷ g))
      by true f =
          subst (λ (x : ℕ). length t < length (parts stops (x ∷ (g ++ at_sign ∷ t))).1
          → named true name (x ∷ (g ++ at_sign ∷ t)) ≡ with_cut (named true name (x ∷ g)))
          (sym (eqb-true c colon f)) (colon_case (fewer f)) (l f)
      by false f = rw f refl

  -- The name of a declaration and what follows it, if parts from its start on end in the front.
  pub record NameSame (b : ℕ) (s : List ℕ) : Type 0 where
    pub ident : starts_ident (b ∷ (s ++ at_sign ∷ t)) ≡ true
    pub name : before (b ∷ (s ++ at_sign ∷ t)) (past_word (b ∷ (s ++ at_sign ∷ t)))
        ≡ before (b ∷ s) (past_word (b ∷ s))
    pub gap : past_gap (past_word (b ∷ (s ++ at_sign ∷ t))) ≡ past_gap (past_word (b ∷ s)) ++ at_sign ∷ t

  pub name-same : (stops : Stops) → Plain stops → (b : ℕ) (s : List ℕ) → starts_ident (b ∷ s) ≡ true
      → length t < length (parts stops (b ∷ (s ++ at_sign ∷ t))).1 → NameSame b s
  name-same stops plain b s h l =
      let W = s ++ at_sign ∷ t in
      let ident : starts_ident (b ∷ W) ≡ true = ident-same t (b ∷ s) ∙ h in
      let rest = past_word (b ∷ W) in
      let long : length t < length (past_gap rest) =
      omega (arith, l, word-reach stops plain b W (ident-word b W ident)) in
      let word : rest ≡ past_word (b ∷ s) ++ at_sign ∷ t =
      word-kept t (b ∷ s) (omega (arith, long, past_gap-within rest)) in
      record {
        ident = ident;
        name = ap (before (b ∷ W)) word ∙ before-same t (b ∷ s) (past_word (b ∷ s));
        gap = ap past_gap word
            ∙ gap-kept t (past_word (b ∷ s)) (subst (λ (z : List ℕ). length t < length (past_gap z)) word long);
      }

  pub declared-same : (stops : Stops) → Plain stops → (b : ℕ) (s : List ℕ) → starts_ident (b ∷ s) ≡ true
      → (starts colon (past_gap (past_word (b ∷ s))) ≡ true
      → Fewer stops (value_ends (is_custom (before (b ∷ s) (past_word (b ∷ s))))))
      → length t < length (parts stops (b ∷ (s ++ at_sign ∷ t))).1
      → declaration true (b ∷ (s ++ at_sign ∷ t)) ≡ with_cut (declaration true (b ∷ s))
  unfolding declaration
  declared-same stops plain b s h fewer l =
      let W = s ++ at_sign ∷ t in
      let same = name-same stops plain b s h l in
      let name = before (b ∷ s) (past_word (b ∷ s)) in
      let g = past_gap (past_word (b ∷ s)) in
      let ident = same.ident in
      rw (ident, h)
      (ap (λ (n : List ℕ). named true n (past_gap (past_word (b ∷ W)))) same.name
      ∙ ap (named true name) same.gap
      ∙ named-same stops plain name g fewer
      (λ k.
      let whole : starts colon (past_gap (past_word (b ∷ W))) ≡ true =
      ap (starts colon) same.gap ∙ colon_on g k in
      let through_word = word-through stops plain b W (ident-word b W ident)
      (no-paren (past_word (b ∷ W)) whole) in
      subst (λ (z : List ℕ). length t < length (parts stops z).1) same.gap
      (omega (arith, l, ap length through_word))))
    where
      colon_on : (x : List ℕ) → starts colon x ≡ true → starts colon (x ++ at_sign ∷ t) ≡ true
      colon_on [] k = absurd (cc)
      colon_on (c ∷ x) k = k
