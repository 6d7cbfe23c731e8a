-- Parts in the style rules of a sheet that is cut before an `@`, read in its front alone.
-- Serves `cutting_law`.
use Rattle.std.proofs.Common.{◌≡◌, ℕ, zero, suc, ◌<◌, ◌≤◌, Bool, true, false, List, [], ◌∷◌, ◌++◌, length, Option, Some, None, arith, refl, sym, ap, subst, ◌∙◌, ◌⊎◌, inl, inr}
use Rattle.css_text.specs.AsciiBytes.{at_sign}
use Rattle.css_text.specs.Reading.{before}
use Rattle.css_text.proofs.reading.EachLemmas.{each-stops, option_cases, took as took_by}
use Rattle.css_text.proofs.reading.TakesLemmas.{each-within}
use Rattle.css_syntax.specs.Blocks.{BlockPart, block_part_from, closes, listed, next_block_part, opens_at_rule, opens_rule}
use Rattle.css_syntax.specs.DeclarationLists.{ItemText, past_separators, separator_part}
use Rattle.css_syntax.specs.Parts.{Stated}
use Rattle.css_syntax.specs.Statements.{block}
use Rattle.css_syntax.proofs.BlockSteps.{next_block_part-takes}
use Rattle.css_syntax.proofs.ItemLemmas.{block-within, separator_part-takes}
use Rattle.css_syntax.proofs.Shorter.{each-goes, each-rests}
use Rattle.css_sheet.specs.SheetItems.{group_keyword}
use Rattle.css_sheet.specs.SheetParts.{SheetPart, after_at_rule, among_declarations, at_rule_in, begins, ends, next_inside, option_inside, part_inside, past_run, run_part, stands, stated_from, states, style_rule}
use Rattle.css_sheet.proofs.PartSteps.{run_part-takes}
use Rattle.sheet_laws.proofs.CutTokens.{Same}
use Rattle.sheet_laws.proofs.CutValues.{before-same, block-same}
use Rattle.sheet_laws.proofs.CutBlocks.{FoundPart, block_part_from-same, plain_part, separators-kept}
use Rattle.sheet_laws.proofs.CutParts.{InFront}

separators-again : (text : List ℕ) → past_separators (past_separators text) ≡ past_separators text
separators-again text =
    each-rests separator_part (past_separators text) (each-stops separator_part separator_part-takes text)

block-less : (text : List ℕ) (x : BlockPart × List ℕ) → block_part_from (past_separators text) ≡ Some x
    → length x.1 < length (past_separators text)
unfolding next_block_part
block-less text x e =
    took_by next_block_part next_block_part-takes (past_separators text) x.1 x.0
    (ap block_part_from (separators-again text) ∙ e)

run-within : (text : List ℕ) → length (past_run text) ≤ length text
run-within text = each-within run_part run_part-takes text

abbrev left_in : Option (Unit {0} × List ℕ) → List ℕ
left_in None = []
left_in (Some x) = x.1

abbrev is_stood : SheetPart → Bool
is_stood (states text) = false
is_stood (begins kind) = false
is_stood ends = false
is_stood (stands item) = true

abbrev is_item : Option (SheetPart × List ℕ) → Bool
is_item None = false
is_item (Some x) = is_stood x.0

-- a part that is the same ends declarations in the same way
among-none : (p q : BlockPart) (r s : List ℕ) → plain_part p ≡ plain_part q
    → among_declarations (Some (p, r)) ≡ None → among_declarations (Some (q, s)) ≡ None
among-none (listed item) q r s e n = absurd (cc)
among-none (opens_rule prelude) (listed other) r s e n = absurd (cc)
among-none (opens_rule prelude) (opens_rule other) r s e n = refl
among-none (opens_rule prelude) (opens_at_rule other also) r s e n = absurd (cc)
among-none (opens_rule prelude) closes r s e n = absurd (cc)
among-none (opens_at_rule name prelude) (listed other) r s e n = absurd (cc)
among-none (opens_at_rule name prelude) (opens_rule other) r s e n = absurd (cc)
among-none (opens_at_rule name prelude) (opens_at_rule other also) r s e n =
    by (group_keyword other)
    (subst (λ (x : List ℕ). after_at_rule (group_keyword x) r ≡ None) (ap name_of e) n)
  where
    name_of : BlockPart → List ℕ
    name_of (listed item) = []
    name_of (opens_rule one) = []
    name_of (opens_at_rule one two) = one
    name_of closes = []

    by : (o : Option (List ℕ)) → after_at_rule o r ≡ None → after_at_rule o s ≡ None
    by None h = absurd (cc)
    by (Some keyword) h = refl
among-none (opens_at_rule name prelude) closes r s e n = absurd (cc)
among-none closes (listed other) r s e n = absurd (cc)
among-none closes (opens_rule other) r s e n = absurd (cc)
among-none closes (opens_at_rule other also) r s e n = absurd (cc)
among-none closes closes r s e n = refl

module _ (t : List ℕ) where
  -- what is found in the front
  abbrev BlockFront : List ℕ → BlockPart × List ℕ → Type 0
  BlockFront s x =
      (y : BlockPart × List ℕ) × (next_block_part s ≡ Some y)
      × ((plain_part x.0 ≡ plain_part y.0) × (x.1 ≡ y.1 ++ at_sign ∷ t))

  block-from : (x : BlockPart × List ℕ) → length t < length x.1 → (y : List ℕ)
      → block_part_from (y ++ at_sign ∷ t) ≡ Some x → length x.1 < length (y ++ at_sign ∷ t)
      → (z : BlockPart × List ℕ) × (block_part_from y ≡ Some z)
      × ((plain_part x.0 ≡ plain_part z.0) × (x.1 ≡ z.1 ++ at_sign ∷ t))
  block-from x long [] e less = absurd (omega (arith, long, less))
  block-from x long (c ∷ y) e less =
      by (block_part_from (c ∷ y)) refl
      (subst (λ o. FoundPart t o (block_part_from (c ∷ y))) e (block_part_from-same t c y))
    where
      by : (o : Option (BlockPart × List ℕ)) → block_part_from (c ∷ y) ≡ o → FoundPart t (Some x) o
          → (z : BlockPart × List ℕ) × (block_part_from (c ∷ y) ≡ Some z)
          × ((plain_part x.0 ≡ plain_part z.0) × (x.1 ≡ z.1 ++ at_sign ∷ t))
      by None f same = absurd same
      by (Some z) f same = (z, f, same long)

  block-front : (s : List ℕ) (x : BlockPart × List ℕ) → next_block_part (s ++ at_sign ∷ t) ≡ Some x
      → length t < length x.1
      → BlockFront s x × (past_separators (s ++ at_sign ∷ t) ≡ past_separators s ++ at_sign ∷ t)
  unfolding next_block_part
  block-front s x e long =
      let less = block-less (s ++ at_sign ∷ t) x e in
      let kept = separators-kept t s (omega (arith, long, less)) in (
        block-from x long (past_separators s) (ap block_part_from (sym kept) ∙ e)
            (subst (λ (z : List ℕ). length x.1 < length z) kept less),
        kept,
      )

  -- the part that is next ends in the front
  abbrev pub NextLong : List ℕ → Type 0
  NextLong rest = (x : BlockPart × List ℕ) × (next_block_part rest ≡ Some x) × (length t < length x.1)

  -- ---- declarations one after another

  abbrev RunKept : List ℕ → Type 0
  RunKept s =
      length t < length (past_run (s ++ at_sign ∷ t)) → NextLong (past_run (s ++ at_sign ∷ t))
      → past_run (s ++ at_sign ∷ t) ≡ past_run s ++ at_sign ∷ t

  -- the same declaration, or at-rule
  among-some : (p q : BlockPart) (r x : List ℕ) → plain_part p ≡ plain_part q
      → among_declarations (Some (p, r ++ at_sign ∷ t)) ≡ Some (tt, x) → length t < length x
      → (y : List ℕ) × (among_declarations (Some (q, r)) ≡ Some (tt, y)) × (x ≡ y ++ at_sign ∷ t)
  among-some (listed item) (listed other) r x e n l = (r, refl, sym (ap left_in n))
  among-some (listed item) (opens_rule other) r x e n l = absurd (cc)
  among-some (listed item) (opens_at_rule other also) r x e n l = absurd (cc)
  among-some (listed item) closes r x e n l = absurd (cc)
  among-some (opens_rule prelude) q r x e n l = absurd (cc)
  among-some (opens_at_rule name prelude) (listed other) r x e n l = absurd (cc)
  among-some (opens_at_rule name prelude) (opens_rule other) r x e n l = absurd (cc)
  among-some (opens_at_rule name prelude) (opens_at_rule other also) r x e n l =
      by (group_keyword other)
      (subst (λ (z : List ℕ). after_at_rule (group_keyword z) (r ++ at_sign ∷ t) ≡ Some (tt, x)) (ap name_of e) n)
    where
      name_of : BlockPart → List ℕ
      name_of (listed item) = []
      name_of (opens_rule one) = []
      name_of (opens_at_rule one two) = one
      name_of closes = []

      by : (o : Option (List ℕ)) → after_at_rule o (r ++ at_sign ∷ t) ≡ Some (tt, x)
          → (y : List ℕ) × (after_at_rule o r ≡ Some (tt, y)) × (x ≡ y ++ at_sign ∷ t)
      by None h =
          let is : (block (r ++ at_sign ∷ t)).1 ≡ x = ap left_in h in
          let both = block-same t r (omega (arith, l, ap length is)) in
          ((block r).1, refl, sym is ∙ both.1)
      by (Some keyword) h = absurd (cc)
  among-some (opens_at_rule name prelude) closes r x e n l = absurd (cc)
  among-some closes q r x e n l = absurd (cc)

  -- what is left after a part is no less than after the declarations that it begins
  among-within : (x : BlockPart × List ℕ) (rest : List ℕ) → among_declarations (Some x) ≡ Some (tt, rest)
      → length rest ≤ length x.1
  among-within (listed item, r) rest n = let is : r ≡ rest = ap left_in n in omega (arith, ap length is)
  among-within (opens_rule prelude, r) rest n = absurd (cc)
  among-within (opens_at_rule name prelude, r) rest n = by (group_keyword name) n
    where
      by : (o : Option (List ℕ)) → after_at_rule o r ≡ Some (tt, rest) → length rest ≤ length r
      by None h = let is : (block r).1 ≡ rest = ap left_in h in omega (arith, ap length is, block-within r)
      by (Some keyword) h = absurd (cc)
  among-within (closes, r) rest n = absurd (cc)

  run-step : (s : List ℕ) → ((r : List ℕ) → length r < length s → RunKept r) → RunKept s
  unfolding run_part
  run-step s more long next = by (option_cases (run_part W))
    where
      W : List ℕ
      W = s ++ at_sign ∷ t

      by : (run_part W ≡ None) ⊎ ((x : Unit {0} × List ℕ) × (run_part W ≡ Some x))
          → past_run W ≡ past_run s ++ at_sign ∷ t
      by (inl none) =
          let whole = each-rests run_part W none in
          let here = subst NextLong whole next in
          let found = block-front s here.0 here.1 here.2 in
          let stops : among_declarations (Some here.0) ≡ None = ap among_declarations (sym here.1) ∙ none in
          let front : run_part s ≡ None =
          ap among_declarations found.0.1
          ∙ among-none here.0.0 found.0.0.0 here.0.1 found.0.0.1 found.0.2.0 stops in
          whole ∙ ap (λ (z : List ℕ). z ++ at_sign ∷ t) (sym (each-rests run_part s front))
      by (inr found) = by_part (option_cases (next_block_part W))
        where
          x : List ℕ
          x = found.0.1

          goes : past_run x ≡ past_run W
          goes = each-goes run_part run_part-takes W x found.0.0 found.1

          by_part : (next_block_part W ≡ None) ⊎ ((b : BlockPart × List ℕ) × (next_block_part W ≡ Some b))
              → past_run W ≡ past_run s ++ at_sign ∷ t
          by_part (inl none) = absurd (let wrong = ap among_declarations (sym none) ∙ found.1 in cc)
          by_part (inr part) =
              let b = part.0 in
              let run : among_declarations (Some b) ≡ Some (tt, x) =
              ap among_declarations (sym part.1) ∙ found.1 in
              let long_x : length t < length x =
              omega (arith, long, ap length goes, run-within x) in
              let front = block-front s b part.1 (omega (arith, long_x, among-within b x run)) in
              let z = front.0.0 in
              let moved : among_declarations (Some (b.0, z.1 ++ at_sign ∷ t)) ≡ Some (tt, x) =
              ap (λ (r : List ℕ). among_declarations (Some (b.0, r))) (sym front.0.2.1) ∙ run in
              let same = among-some b.0 z.0 z.1 x front.0.2.0 moved long_x in
              let y = same.0 in
              let run_front : run_part s ≡ Some (tt, y) = ap among_declarations front.0.1 ∙ same.1 in
              let less = took_by run_part run_part-takes s y tt run_front in
              let whole : past_run W ≡ past_run (y ++ at_sign ∷ t) = sym goes ∙ ap past_run same.2 in
              whole
              ∙ more y less (subst (λ (r : List ℕ). length t < length r) whole long) (subst NextLong whole next)
              ∙ ap (λ (r : List ℕ). r ++ at_sign ∷ t) (each-goes run_part run_part-takes s y tt run_front)

  run-up : (n : ℕ) (s : List ℕ) → length s ≤ n → RunKept s
  run-up zero s small = run-step s (λ r less. absurd (omega (arith, less, small)))
  run-up (suc n) s small = run-step s (λ r less. run-up n r (omega (arith, less, small)))

  run-kept : (s : List ℕ) → RunKept s
  run-kept s = run-up (length s) s (omega arith)

  -- ---- the next part

  -- the next part after declarations ends in the front
  abbrev pub AfterStates : SheetPart → List ℕ → Type 0
  AfterStates (states text) rest = NextLong rest
  AfterStates (begins kind) rest = Unit {0}
  AfterStates ends rest = Unit {0}
  AfterStates (stands item) rest = Unit {0}

  abbrev InsideSame : SheetPart × List ℕ → SheetPart × List ℕ → Type 0
  InsideSame x y = AfterStates x.0 x.1 → Same t x y

  stated-on : (b r : List ℕ) → InsideSame (stated_from (b ++ at_sign ∷ t) (r ++ at_sign ∷ t)) (stated_from b r)
  stated-on b r next l =
      let kept = run-kept r l next in
      (ap states (ap (before (b ++ at_sign ∷ t)) kept ∙ before-same t b (past_run r)), kept)

  -- after what is skipped first
  stated-then : (b r s : List ℕ) → (length t < length r → r ≡ s ++ at_sign ∷ t)
      → InsideSame (stated_from (b ++ at_sign ∷ t) r) (stated_from b s)
  stated-then b r s e next l =
      let is = e (omega (arith, l, run-within r)) in
      let same = stated-on b s (subst (λ (z : List ℕ). NextLong (past_run z)) is next)
      (subst (λ (z : List ℕ). length t < length (past_run z)) is l) in
      (ap (λ (z : List ℕ). states (before (b ++ at_sign ∷ t) (past_run z))) is ∙ same.0, ap past_run is ∙ same.1)

  inside-on : (b r : List ℕ) (p q : BlockPart) → plain_part p ≡ plain_part q
      → InsideSame (part_inside (b ++ at_sign ∷ t) (p, r ++ at_sign ∷ t)) (part_inside b (q, r))
  inside-on b r (listed item) (listed other) e = stated-on b r
  inside-on b r (listed item) (opens_rule other) e = absurd (cc)
  inside-on b r (listed item) (opens_at_rule other also) e = absurd (cc)
  inside-on b r (listed item) closes e = absurd (cc)
  inside-on b r (opens_rule prelude) (listed other) e = absurd (cc)
  inside-on b r (opens_rule prelude) (opens_rule other) e =
      λ next l. (let same : prelude ≡ other = cc in ap (λ (s : Stated). begins (style_rule s)) same, refl)
  inside-on b r (opens_rule prelude) (opens_at_rule other also) e = absurd (cc)
  inside-on b r (opens_rule prelude) closes e = absurd (cc)
  inside-on b r (opens_at_rule name prelude) (listed other) e = absurd (cc)
  inside-on b r (opens_at_rule name prelude) (opens_rule other) e = absurd (cc)
  inside-on b r (opens_at_rule name prelude) (opens_at_rule other also) e =
      let names : name ≡ other = cc in
      let preludes : prelude ≡ also = cc in
      subst (λ (n : List ℕ). InsideSame (at_rule_in (b ++ at_sign ∷ t) prelude (r ++ at_sign ∷ t) (group_keyword n))
      (at_rule_in b also r (group_keyword other))) (sym names)
      (subst (λ (s : Stated). InsideSame
      (at_rule_in (b ++ at_sign ∷ t) s (r ++ at_sign ∷ t) (group_keyword other))
      (at_rule_in b also r (group_keyword other))) (sym preludes) (by (group_keyword other)))
    where
      by : (o : Option (List ℕ))
          → InsideSame (at_rule_in (b ++ at_sign ∷ t) also (r ++ at_sign ∷ t) o) (at_rule_in b also r o)
      by None =
          stated-then b (block (r ++ at_sign ∷ t)).1 (block r).1 (λ l. (block-same t r l).1)
      by (Some keyword) = λ next l. (refl, refl)
  inside-on b r (opens_at_rule name prelude) closes e = absurd (cc)
  inside-on b r closes (listed other) e = absurd (cc)
  inside-on b r closes (opens_rule other) e = absurd (cc)
  inside-on b r closes (opens_at_rule other also) e = absurd (cc)
  inside-on b r closes closes e = λ next l. (refl, refl)

  inside-within : (start : List ℕ) (x : BlockPart × List ℕ) → length (part_inside start x).1 ≤ length x.1
  inside-within start (listed item, r) = run-within r
  inside-within start (opens_rule prelude, r) = omega arith
  inside-within start (opens_at_rule name prelude, r) = by (group_keyword name)
    where
      by : (o : Option (List ℕ)) → length (at_rule_in start prelude r o).1 ≤ length r
      by None = omega (arith, run-within (block r).1, block-within r)
      by (Some keyword) = omega arith
  inside-within start (closes, r) = omega arith

  pub inside-front : (s : List ℕ) (part : SheetPart) (rest : List ℕ)
      → next_inside (s ++ at_sign ∷ t) ≡ Some (part, rest) → length t < length rest → AfterStates part rest
      → InFront t (next_inside s) part rest
      × (past_separators (s ++ at_sign ∷ t) ≡ past_separators s ++ at_sign ∷ t)
  inside-front s part rest e long next = by (option_cases (next_block_part W))
    where
      W : List ℕ
      W = s ++ at_sign ∷ t

      B : List ℕ
      B = past_separators W

      b : List ℕ
      b = past_separators s

      by : (next_block_part W ≡ None) ⊎ ((x : BlockPart × List ℕ) × (next_block_part W ≡ Some x))
          → InFront t (next_inside s) part rest × (B ≡ b ++ at_sign ∷ t)
      by (inl none) = absurd (let wrong = ap (option_inside B) (sym none) ∙ e in cc)
      by (inr found) =
          let x = found.0 in
          let is : part_inside B x ≡ (part, rest) = cc (ap (option_inside B) (sym found.1) ∙ e) in
          let front = block-front s x found.1
          (omega (arith, long, inside-within B x, ap (λ (z : SheetPart × List ℕ). length z.1) is)) in
          let y = front.0.0 in
          let moved : part_inside (b ++ at_sign ∷ t) (x.0, y.1 ++ at_sign ∷ t) ≡ (part, rest) =
          ap (λ (z : List ℕ). part_inside z (x.0, y.1 ++ at_sign ∷ t)) (sym front.1)
          ∙ ap (λ (r : List ℕ). part_inside B (x.0, r)) (sym front.0.2.1) ∙ is in
          let same = inside-on b y.1 x.0 y.0 front.0.2.0
          (subst (λ (z : SheetPart × List ℕ). AfterStates z.0 z.1) (sym moved) next)
          (subst (λ (z : SheetPart × List ℕ). length t < length z.1) (sym moved) long) in
          let part_is : (part_inside b y).0 ≡ part =
          sym same.0 ∙ ap (λ (z : SheetPart × List ℕ). z.0) moved in
          let rest_is : rest ≡ (part_inside b y).1 ++ at_sign ∷ t =
          sym (ap (λ (z : SheetPart × List ℕ). z.1) moved) ∙ same.1 in (
            (
              (part_inside b y).1,
              ap (option_inside b) front.0.1
                  ∙ ap (λ (p : SheetPart). Some (p, (part_inside b y).1)) part_is,
              rest_is,
            ),
            front.1,
          )

  -- a part of a style rule is no item
  pub inside-no_item : (text : List ℕ) (item : ItemText) (rest : List ℕ)
      → next_inside text ≡ Some (stands item, rest) → ⊥
  inside-no_item text item rest e = by (next_block_part text) e
    where
      at_rule : (prelude : Stated) (r : List ℕ) (o : Option (List ℕ))
          → Some (at_rule_in (past_separators text) prelude r o) ≡ Some (stands item, rest) → ⊥
      at_rule prelude r None h = let wrong = ap is_item h in cc
      at_rule prelude r (Some keyword) h = let wrong = ap is_item h in cc

      by : (o : Option (BlockPart × List ℕ)) → option_inside (past_separators text) o ≡ Some (stands item, rest) → ⊥
      by None h = let wrong = ap is_item h in cc
      by (Some (listed one, r)) h = let wrong = ap is_item h in cc
      by (Some (opens_rule prelude, r)) h = let wrong = ap is_item h in cc
      by (Some (opens_at_rule name prelude, r)) h = at_rule prelude r (group_keyword name) h
      by (Some (closes, r)) h = let wrong = ap is_item h in cc

  -- what the part that is next leaves is no more than what its first piece leaves
  pub next-long : (text : List ℕ) (part : SheetPart) (rest : List ℕ) → next_inside text ≡ Some (part, rest)
      → length t < length rest → NextLong text
  next-long text part rest e long = by (option_cases (next_block_part text))
    where
      by : (next_block_part text ≡ None) ⊎ ((x : BlockPart × List ℕ) × (next_block_part text ≡ Some x))
          → NextLong text
      by (inl none) = absurd (let wrong = ap (option_inside (past_separators text)) (sym none) ∙ e in cc)
      by (inr found) =
          let is : part_inside (past_separators text) found.0 ≡ (part, rest) =
          cc (ap (option_inside (past_separators text)) (sym found.1) ∙ e) in (
            found.0,
            found.1,
            omega (
              arith,
              long,
              inside-within (past_separators text) found.0,
              ap (λ (z : SheetPart × List ℕ). length z.1) is,
            ),
          )
