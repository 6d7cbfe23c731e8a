-- Sheets keep the order of their layers, whatever sheets follow.
-- Serves `pieces_law`.
use Rattle.std.proofs.Common.{◌≡◌, ℕ, zero, suc, ◌+◌, ◌<◌, ◌≤◌, ◌⊎◌, inl, inr, Bool, true, false, ◌==◌, eqb-true, if◌then◌else◌, List, [], ◌∷◌, ◌++◌, length, length-append, take, drop, append_assoc, Option, None, Some, refl, sym, ap, ◌∙◌, subst, arith}
use Rattle.std.specs.List.{All, slice_get}
use Rattle.std.proofs.lemmas.List.{take-append-drop}
use Rattle.std.proofs.lemmas.List.Elements.{All-append, All-head, All-nil, All-tail, All-weaker}
use Rattle.css_cascade.specs.LayerNames.{layer_names}
use Rattle.css_cascade.specs.Layers.{LayerPart, LayerText, inserted, number_in, number_of, outermost_layers, outermost_number, place_of, unless_known, with_layer, with_name}
use Rattle.css_syntax.specs.DeclarationLists.{ItemText, at_rule_item, declared, skipped_item}
use Rattle.css_syntax.specs.Statements.{AtRuleText, BlockText}
use Rattle.css_sheet.specs.OpenParents.{Parent, ParentsText, after_part, after_parts, is_dropped, none_open}
use Rattle.css_sheet.specs.SheetItems.{is_layer}
use Rattle.css_sheet.specs.SheetLayers.{if_applies, layer_parts, layered_parts, mentioned, number_in_all, or_none, sheet_layers, with_item, with_layers, with_list, with_names, with_part, with_parts, with_rule}
use Rattle.css_sheet.specs.SheetParts.{OpenText, PlacedPart, SheetPart, all_parts_from, applies_in, begins, ends, sheet_parts, sheet_source, stands, states}
use Rattle.css_sheet.specs.Sheets.{SheetText, origin_if, outermost_at}
use Rattle.css_laws.proofs.PieceLemmas.{given-of}

-- ---- the numbers of layers

-- each is less than a bound
abbrev Below : ℕ → List LayerText → Type 0
Below b [] = Unit {0}
Below b (one ∷ more) = (one.number < b) × Below b more

below-more : (b c : ℕ) (known : List LayerText) → b ≤ c → Below b known → Below c known
below-more b c [] l h = tt
below-more b c (one ∷ more) l h = let k = h.0 in (omega (arith, k, l), below-more b c more l h.1)

below-append : (b : ℕ) (xs ys : List LayerText) → Below b xs → Below b ys → Below b (xs ++ ys)
below-append b [] ys h k = k
below-append b (one ∷ xs) ys h k = (h.0, below-append b xs ys h.1 k)

below-split : (b : ℕ) (xs ys : List LayerText) → Below b (xs ++ ys) → Below b xs × Below b ys
below-split b [] ys h = (tt, h)
below-split b (one ∷ xs) ys h = let k = below-split b xs ys h.1 in ((h.0, k.0), k.1)

placed-below : (b : ℕ) (known : List LayerText) (m : ℕ) → Below b known → place_of m known < length known → m < b
placed-below b [] m h l = absurd (omega (arith, l))
placed-below b (one ∷ more) m h l = by (placed-below b more m h.1) (one.number == m) refl l
  where
    by : (place_of m more < length more → m < b) → (t : Bool) → (one.number == m) ≡ t
        → (if t then zero else suc (place_of m more)) < suc (length more) → m < b
    by rest true e k = let same = eqb-true one.number m e in let n = h.0 in omega (arith, same, n)
    by rest false e k = rest (omega (arith, k))

-- ---- a new layer among others

-- the place of another is what it was, if that is before the new one, and else one more
abbrev Shift : (front before after : ℕ) → Type 0
Shift front before after =
    ((before < front) × (after ≡ before)) ⊎ ((front ≤ before) × (after ≡ suc before))

shifted : (xs ys : List LayerText) (new : LayerText) (m : ℕ) → (new.number == m) ≡ false
    → Shift (length xs) (place_of m (xs ++ ys)) (place_of m (xs ++ new ∷ ys))
shifted [] ys new m e =
    inr (omega arith, ap (λ (t : Bool). if t then zero else suc (place_of m ys)) e)
shifted (one ∷ xs) ys new m e = by (one.number == m) (shifted xs ys new m e)
  where
    a : ℕ
    a = place_of m (xs ++ ys)

    b : ℕ
    b = place_of m (xs ++ new ∷ ys)

    by : (t : Bool) → Shift (length xs) a b
        → Shift (suc (length xs)) (if t then zero else suc a) (if t then zero else suc b)
    by true r = inl (omega arith, refl)
    by false (inl r) = let l = r.0 in inl (omega (arith, l), ap suc r.1)
    by false (inr r) = let l = r.0 in inr (omega (arith, l), ap suc r.1)

-- of layers that were known, the order is the same, and all are there still
record Keeps (known all : List LayerText) : Type 0 where
  below : Below (length all) all
  order : (m n : ℕ) → place_of m known < place_of n known → place_of n known < length known
      → place_of m all < place_of n all
  there : (n : ℕ) → place_of n known < length known → place_of n all < length all

keeps-itself : (known : List LayerText) → Below (length known) known → Keeps known known
keeps-itself known h = record { below = h; order = λ m n l k. l; there = λ n l. l }

keeps-then : (known more all : List LayerText) → Keeps known more → Keeps more all → Keeps known all
keeps-then known more all one other = record {
  below = other.below;
  order = λ m n l k. other.order m n (one.order m n l k) (one.there n k);
  there = λ n l. other.there n (one.there n l);
}

other-number : (m n : ℕ) → m < n → (n == m) ≡ false
other-number m n l = by (n == m) refl
  where
    by : (t : Bool) → (n == m) ≡ t → t ≡ false
    by true e = absurd (let same = eqb-true n m e in omega (arith, l, same))
    by false e = refl

inserted-at : (xs ys : List LayerText) (new : LayerText) → new.number ≡ length (xs ++ ys)
    → Below (length (xs ++ ys)) (xs ++ ys) → Keeps (xs ++ ys) (xs ++ new ∷ ys)
inserted-at xs ys new is h = record { below = now-below; order = order; there = there }
  where
    one-more : length (xs ++ new ∷ ys) ≡ suc (length (xs ++ ys))
    one-more = omega (arith, length-append xs (new ∷ ys), length-append xs ys)

    now-below : Below (length (xs ++ new ∷ ys)) (xs ++ new ∷ ys)
    now-below =
        let both =
        below-split (length (xs ++ new ∷ ys)) xs ys
        (below-more (length (xs ++ ys)) (length (xs ++ new ∷ ys)) (xs ++ ys) (omega (arith, one-more)) h) in
        below-append (length (xs ++ new ∷ ys)) xs (new ∷ ys) both.0 (omega (arith, is, one-more), both.1)

    moved : (m : ℕ) → place_of m (xs ++ ys) < length (xs ++ ys)
        → Shift (length xs) (place_of m (xs ++ ys)) (place_of m (xs ++ new ∷ ys))
    moved m l =
        shifted xs ys new m
        (other-number m new.number (let k = placed-below (length (xs ++ ys)) (xs ++ ys) m h l in omega (arith, k, is)))

    in-order : (front a b c d : ℕ) → a < b → Shift front a c → Shift front b d → c < d
    in-order front a b c d l (inl r) (inl s) = let e = r.1 in let f = s.1 in omega (arith, l, e, f)
    in-order front a b c d l (inl r) (inr s) = let e = r.1 in let f = s.1 in omega (arith, l, e, f)
    in-order front a b c d l (inr r) (inl s) = let e = r.0 in let f = s.0 in absurd (omega (arith, l, e, f))
    in-order front a b c d l (inr r) (inr s) = let e = r.1 in let f = s.1 in omega (arith, l, e, f)

    at-most : (front a c n : ℕ) → a < n → Shift front a c → c < suc n
    at-most front a c n l (inl r) = let e = r.1 in omega (arith, l, e)
    at-most front a c n l (inr r) = let e = r.1 in omega (arith, l, e)

    order : (m n : ℕ) → place_of m (xs ++ ys) < place_of n (xs ++ ys) → place_of n (xs ++ ys) < length (xs ++ ys)
        → place_of m (xs ++ new ∷ ys) < place_of n (xs ++ new ∷ ys)
    order m n l k =
        in-order (length xs) (place_of m (xs ++ ys)) (place_of n (xs ++ ys)) (place_of m (xs ++ new ∷ ys))
        (place_of n (xs ++ new ∷ ys)) l (moved m (omega (arith, l, k))) (moved n k)

    there : (n : ℕ) → place_of n (xs ++ ys) < length (xs ++ ys)
        → place_of n (xs ++ new ∷ ys) < length (xs ++ new ∷ ys)
    there n l =
        let k =
        at-most (length xs) (place_of n (xs ++ ys)) (place_of n (xs ++ new ∷ ys)) (length (xs ++ ys)) l (moved n l) in
        omega (arith, k, one-more)

inserted-keeps : (known : List LayerText) (new : LayerText) → new.number ≡ length known
    → Below (length known) known → Keeps known (inserted new known)
inserted-keeps known new is h =
    let xs = take (place_of new.outer known) known in
    let ys = drop (place_of new.outer known) known in
    let e : xs ++ ys ≡ known = take-append-drop (place_of new.outer known) known in
    subst (λ (ks : List LayerText). Keeps ks (xs ++ new ∷ ys)) e
    (inserted-at xs ys new (is ∙ ap length (sym e))
    (subst (λ (ks : List LayerText). Below (length ks) ks) (sym e) h))

-- ---- what is mentioned

-- with more layers, those that were known keep their order
abbrev Grows : List LayerText → List LayerText → Type 0
Grows known all = Below (length known) known → Keeps known all

grows-then : (known more all : List LayerText) → Grows known more → Grows more all → Grows known all
grows-then known more all one other h = let k = one h in keeps-then known more all k (other k.below)

layer-grows : (known : List LayerText) (outer : ℕ) (part : LayerPart) → Grows known (with_layer known outer part)
layer-grows known outer part = by (number_in outer part known)
  where
    by : (o : Option ℕ) → Grows known (unless_known known outer part o)
    by None =
        inserted-keeps known (record { number = length known; outer = outer; part = part }) refl
    by (Some number) = keeps-itself known

name-grows : (known : List LayerText) (outer : ℕ) (parts : List LayerPart) → Grows known (with_name known outer parts)
name-grows known outer [] = keeps-itself known
name-grows known outer (part ∷ more) =
    let first = with_layer known outer part in
    let inner = number_of outer part first in
    grows-then known first (with_name first inner more) (layer-grows known outer part) (name-grows first inner more)

names-grow : (outer : ℕ) (known : List LayerText) (names : List (List LayerPart))
    → Grows known (with_names outer known names)
names-grow outer known [] = keeps-itself known
names-grow outer known (name ∷ more) =
    let first = with_name known outer name in
    grows-then known first (with_names outer first more) (name-grows known outer name) (names-grow outer first more)

rule-grows : (outer : ℕ) (known : List LayerText) (rule : AtRuleText) → Grows known (with_rule outer known rule)
rule-grows outer known rule = by (is_layer rule.name) rule.block
  where
    by : (t : Bool) (o : Option BlockText)
        → Grows known (if t then with_list outer rule.prelude.text known o else known)
    by true None = names-grow outer known (or_none (layer_names rule.prelude.text))
    by true (Some block) = keeps-itself known
    by false o = keeps-itself known

item-grows : (outer : ℕ) (known : List LayerText) (item : ItemText) → Grows known (with_item outer known item)
item-grows outer known (declared one) = keeps-itself known
item-grows outer known (at_rule_item rule) = rule-grows outer known rule
item-grows outer known (skipped_item fault) = keeps-itself known

mentioned-grows : (outermost : ℕ) (known : List LayerText) (parent : Parent) (around : List OpenText) (part : SheetPart)
    → Grows known (mentioned outermost known parent around part)
mentioned-grows outermost known parent around (states text) = keeps-itself known
mentioned-grows outermost known parent around (begins kind) = by (is_dropped parent)
  where
    by : (t : Bool) → Grows known (if t then known else with_name known outermost (layer_parts around))
    by true = keeps-itself known
    by false = name-grows known outermost (layer_parts around)
mentioned-grows outermost known parent around ends = keeps-itself known
mentioned-grows outermost known parent around (stands item) = by (applies_in around)
  where
    by : (t : Bool) → Grows known (if_applies t (number_in_all outermost around known) known item)
    by true = item-grows (number_in_all outermost around known) known item
    by false = keeps-itself known

module _ (outermost : ℕ → ℕ) where
  parts-grow : (known : List LayerText) (parents : ParentsText) (parts : List PlacedPart)
      → Grows known (with_parts outermost known parents parts)
  parts-grow known parents [] = keeps-itself known
  parts-grow known parents (placed ∷ more) =
      let after = after_part parents placed in
      let first = with_part outermost known after.innermost placed in
      grows-then known first (with_parts outermost first after more)
      (mentioned-grows (outermost placed.sheet) known after.innermost placed.around placed.part)
      (parts-grow first after more)

  parts-append : (known : List LayerText) (parents : ParentsText) (xs ys : List PlacedPart)
      → with_parts outermost known parents (xs ++ ys)
      ≡ with_parts outermost (with_parts outermost known parents xs) (after_parts parents xs) ys
  parts-append known parents [] ys = refl
  parts-append known parents (placed ∷ xs) ys =
      parts-append (with_part outermost known (after_part parents placed).innermost placed) (after_part parents placed)
      xs ys

parts-agree : (one other : ℕ → ℕ) (known : List LayerText) (parents : ParentsText) (parts : List PlacedPart)
    → All (λ (placed : PlacedPart). one placed.sheet ≡ other placed.sheet) parts
    → with_parts one known parents parts ≡ with_parts other known parents parts
parts-agree one other known parents [] all = refl
parts-agree one other known parents (placed ∷ more) all =
    let Same : PlacedPart → Type 0 = λ p. one p.sheet ≡ other p.sheet in
    let after = after_part parents placed in
    ap (λ (number : ℕ). with_parts one (mentioned number known after.innermost placed.around placed.part) after more)
    (All-head Same placed more all)
    ∙ parts-agree one other (with_part other known after.innermost placed) after more (All-tail Same placed more all)

-- ---- sheets, and others after them

module _ (holds : List ℕ → List ℕ → Bool) where
  parts-within : (number : ℕ) (sheets : List SheetText)
      → All (λ (placed : PlacedPart). placed.sheet < number + length sheets) (all_parts_from holds number sheets)
  parts-within number [] = All-nil (λ (placed : PlacedPart). placed.sheet < number + 0)
  parts-within number (sheet ∷ sheets) =
      let In : PlacedPart → Type 0 = λ p. p.sheet < number + suc (length sheets) in
      All-append In (sheet_parts holds number sheet) (all_parts_from holds (number + 1) sheets)
      (All-weaker (λ p. p.sheet ≡ number) In (λ p e. omega (arith, e)) (sheet_parts holds number sheet)
      (given-of holds (sheet_source number sheet) [] sheet.around sheet.text))
      (All-weaker (λ p. p.sheet < (number + 1) + length sheets) In (λ p l. omega (arith, l))
      (all_parts_from holds (number + 1) sheets) (parts-within (number + 1) sheets))

  parts-front : (number : ℕ) (earlier later : List SheetText)
      → (more : List PlacedPart)
      × (all_parts_from holds number (earlier ++ later) ≡ all_parts_from holds number earlier ++ more)
  parts-front number [] later = (all_parts_from holds number later, refl)
  parts-front number (sheet ∷ earlier) later =
      let rest = parts-front (number + 1) earlier later in (
        rest.0,
        ap (λ (parts : List PlacedPart). sheet_parts holds number sheet ++ parts) rest.1
            ∙ sym (append_assoc (sheet_parts holds number sheet) (all_parts_from holds (number + 1) earlier) rest.0),
      )

get-front : {X : Type 0} (xs ys : List X) (k : ℕ) → k < length xs → slice_get (xs ++ ys) k ≡ slice_get xs k
get-front [] ys k l = absurd (omega (arith, l))
get-front (x ∷ xs) ys zero l = refl
get-front (x ∷ xs) ys (suc k) l = get-front xs ys k (omega (arith, l))

first-below : Below (length outermost_layers) outermost_layers
first-below = (omega arith, (omega arith, (omega arith, (omega arith, tt))))

module _ (holds : List ℕ → List ℕ → Bool) (earlier later : List SheetText) where
  layers-kept : Keeps (sheet_layers holds earlier) (sheet_layers holds (earlier ++ later))
  layers-kept =
      let front = layered_parts holds earlier in
      let both = parts-front (with_layers holds) 0 earlier later in
      let one = outermost_at earlier in
      let all = outermost_at (earlier ++ later) in
      let agree : with_parts all outermost_layers (none_open []) front ≡ sheet_layers holds earlier =
      parts-agree all one outermost_layers (none_open []) front
      (All-weaker (λ (placed : PlacedPart). placed.sheet < 0 + length earlier)
      (λ (placed : PlacedPart). all placed.sheet ≡ one placed.sheet)
      (λ placed l. ap (λ (o : Option SheetText). outermost_number (origin_if o))
      (get-front earlier later placed.sheet (omega (arith, l)))) front (parts-within (with_layers holds) 0 earlier)) in
      let whole : sheet_layers holds (earlier ++ later)
      ≡ with_parts all (sheet_layers holds earlier) (after_parts (none_open []) front) both.0 =
      ap (with_parts all outermost_layers (none_open [])) both.1
      ∙ parts-append all outermost_layers (none_open []) front both.0
      ∙ ap (λ (known : List LayerText). with_parts all known (after_parts (none_open []) front) both.0) agree in
      let below = (parts-grow one outermost_layers (none_open []) front first-below).below in
      subst (Keeps (sheet_layers holds earlier)) (sym whole)
      (parts-grow all (sheet_layers holds earlier) (after_parts (none_open []) front) both.0 below)

  pub layers-stay : (m n : ℕ)
      → place_of m (sheet_layers holds earlier) < place_of n (sheet_layers holds earlier)
      → place_of n (sheet_layers holds earlier) < length (sheet_layers holds earlier)
      → place_of m (sheet_layers holds (earlier ++ later)) < place_of n (sheet_layers holds (earlier ++ later))
  layers-stay m n l k = layers-kept.order m n l k
