-- Layers that are known stay known, with their numbers.
-- Serves `Layers::mention`.
use Rattle.std.proofs.Common.{◌≡◌, ℕ, Bool, true, false, ◌&&◌, ◌==◌, if◌then◌else◌, List, [], ◌∷◌, ◌++◌, length, take, drop, Option, None, Some, ◌≤◌, ◌<◌, refl, sym, ap, ◌∙◌, eqb-true, arith}
use Rattle.std.specs.Prelude.{option_and_then, Result, Ok, Err, IfErr}
use Rattle.std.specs.Result.{IsErrAnd}
use Rattle.std.proofs.lemmas.Cmp.{nat_list_eq_equiv}
use Rattle.std.proofs.lemmas.List.{length-append, take-append-drop}
use Rattle.css_cascade.specs.Layers.{LayerPart, LayerText, named, anonymous, outermost, is_same_part, number_in, number_of, number_at, place_of, with_layer, with_name, unless_known, or_outermost}
use Rattle.css_cascade.specs.declared.layers.LayersError.{LayersError}
use Rattle.css_cascade.specs.declared.layers.LayersError.TheVariants.{TooManyLayers}
use Rattle.css_cascade.proofs.LayerLemmas.{number-inserted}

-- what is the same is the same as others
same-congr : (x p q : LayerPart) → is_same_part p q ≡ true → is_same_part x p ≡ is_same_part x q
same-congr (named a) (named b) (named c) e =
    nat_list_eq_equiv.symm a b ∙ nat_list_eq_equiv.congr b c a e ∙ nat_list_eq_equiv.symm c a
same-congr (named a) (named b) (anonymous n) e = absurd (cc)
same-congr (named a) (named b) outermost e = absurd (cc)
same-congr (named a) (anonymous m) q e = by q e
  where
    by : (q : LayerPart) → is_same_part (anonymous m) q ≡ true
        → is_same_part (named a) (anonymous m) ≡ is_same_part (named a) q
    by (named c) e = absurd (cc)
    by (anonymous n) e = refl
    by outermost e = absurd (cc)
same-congr (named a) outermost (named c) e = absurd (cc)
same-congr (named a) outermost (anonymous n) e = absurd (cc)
same-congr (named a) outermost outermost e = refl
same-congr (anonymous k) (named b) (named c) e = refl
same-congr (anonymous k) (named b) (anonymous n) e = absurd (cc)
same-congr (anonymous k) (named b) outermost e = absurd (cc)
same-congr (anonymous k) (anonymous m) (named c) e = absurd (cc)
same-congr (anonymous k) (anonymous m) (anonymous n) e =
    nat_list_eq_equiv.symm k m ∙ nat_list_eq_equiv.congr m n k e ∙ nat_list_eq_equiv.symm n k
same-congr (anonymous k) (anonymous m) outermost e = absurd (cc)
same-congr (anonymous k) outermost (named c) e = absurd (cc)
same-congr (anonymous k) outermost (anonymous n) e = absurd (cc)
same-congr (anonymous k) outermost outermost e = refl
same-congr outermost (named b) (named c) e = refl
same-congr outermost (named b) (anonymous n) e = absurd (cc)
same-congr outermost (named b) outermost e = absurd (cc)
same-congr outermost (anonymous m) (named c) e = absurd (cc)
same-congr outermost (anonymous m) (anonymous n) e = refl
same-congr outermost (anonymous m) outermost e = absurd (cc)
same-congr outermost outermost (named c) e = absurd (cc)
same-congr outermost outermost (anonymous n) e = absurd (cc)
same-congr outermost outermost outermost e = refl

number-congr : (outer : ℕ) (p q : LayerPart) → is_same_part p q ≡ true → (known : List LayerText)
    → number_in outer p known ≡ number_in outer q known
number-congr outer p q e [] = refl
number-congr outer p q e (x ∷ known) =
    ap (λ (t : Bool). if x.outer == outer && t then Some x.number else number_in outer p known)
    (same-congr x.part p q e)
    ∙ ap (λ (o : Option ℕ). if x.outer == outer && is_same_part x.part q then Some x.number else o)
    (number-congr outer p q e known)

both : (s t : Bool) → (s && t) ≡ true → (s ≡ true) × (t ≡ true)
both true true e = (refl, refl)
both true false e = absurd (cc)
both false t e = absurd (cc)

-- a layer that is found is not the new one
module _ (n outer : ℕ) (part : LayerPart) (o : ℕ) (p : LayerPart) (found : ℕ) where
  abbrev new : LayerText
  new = record { number = n; outer = outer; part = part }

  not-new : (ys : List LayerText) → number_in outer part ys ≡ None → number_in o p ys ≡ Some found
      → (outer == o && is_same_part part p) ≡ true → ⊥
  not-new ys none some e =
      let b = both (outer == o) (is_same_part part p) e in
      let same : outer ≡ o = eqb-true outer o b.0 in
      let no : None ≡ Some found =
      sym none ∙ number-congr outer part p b.1 ys ∙ ap (λ (i : ℕ). number_in i p ys) same ∙ some in
      cc

  stays : (xs ys : List LayerText) → number_in outer part (xs ++ ys) ≡ None
      → number_in o p (xs ++ ys) ≡ Some found → number_in o p (xs ++ new ∷ ys) ≡ Some found
  stays [] ys none some = by (outer == o && is_same_part part p) refl
    where
      by : (t : Bool) → (outer == o && is_same_part part p) ≡ t
          → (if t then Some n else number_in o p ys) ≡ Some found
      by true e = absurd (not-new ys none some e)
      by false e = some
  stays (x ∷ xs) ys none some =
      by (stays xs ys) (x.outer == outer && is_same_part x.part part)
      (x.outer == o && is_same_part x.part p) none some
    where
      by : (number_in outer part (xs ++ ys) ≡ None → number_in o p (xs ++ ys) ≡ Some found
          → number_in o p (xs ++ new ∷ ys) ≡ Some found) → (s t : Bool)
          → (if s then Some x.number else number_in outer part (xs ++ ys)) ≡ None
          → (if t then Some x.number else number_in o p (xs ++ ys)) ≡ Some found
          → (if t then Some x.number else number_in o p (xs ++ new ∷ ys)) ≡ Some found
      by more true t e f = absurd (cc)
      by more false true e f = f
      by more false false e f = more e f

-- what is known in the first is known in the second, with its number
abbrev pub Keeps : List LayerText → List LayerText → Type 0
Keeps before after =
    (outer : ℕ) (part : LayerPart) (number : ℕ) → number_in outer part before ≡ Some number
    → number_in outer part after ≡ Some number

pub keeps-itself : (known : List LayerText) → Keeps known known
keeps-itself known outer part number e = e

pub keeps-then : (a b c : List LayerText) → Keeps a b → Keeps b c → Keeps a c
keeps-then a b c h k outer part number e = k outer part number (h outer part number e)

pub keeps-layer : (known : List LayerText) (outer : ℕ) (part : LayerPart)
    → Keeps known (with_layer known outer part)
keeps-layer known outer part o p found e = by (number_in outer part known) refl
  where
    by : (f : Option ℕ) → number_in outer part known ≡ f
        → number_in o p (unless_known known outer part f) ≡ Some found
    by (Some number) h = e
    by None h =
        let i = place_of outer known in
        let all = take-append-drop i known in
        stays (length known) outer part o p found (take i known) (drop i known)
        (ap (number_in outer part) all ∙ h) (ap (number_in o p) all ∙ e)

pub keeps-name : (known : List LayerText) (outer : ℕ) (parts : List LayerPart)
    → Keeps known (with_name known outer parts)
keeps-name known outer [] = keeps-itself known
keeps-name known outer (part ∷ more) =
    let next = with_layer known outer part in
    keeps-then known next (with_name next (number_of outer part next) more)
    (keeps-layer known outer part) (keeps-name next (number_of outer part next) more)

-- a layer that is mentioned is known
pub layer-known : (known : List LayerText) (outer : ℕ) (part : LayerPart)
    → number_in outer part (with_layer known outer part)
    ≡ Some (number_of outer part (with_layer known outer part))
layer-known known outer part = by (number_in outer part known) refl
  where
    shown : (f : Option ℕ) (number : ℕ) → f ≡ Some number → f ≡ Some (or_outermost f)
    shown f number e = e ∙ ap (λ (g : Option ℕ). Some (or_outermost g)) (sym e)

    by : (f : Option ℕ) → number_in outer part known ≡ f
        → number_in outer part (unless_known known outer part f)
        ≡ Some (number_of outer part (unless_known known outer part f))
    by (Some number) h = shown (number_in outer part known) number h
    by None h =
        shown (number_in outer part (unless_known known outer part None)) (length known)
        (number-inserted (length known) outer part known h)

-- a layer that is known is not a new one
pub layer-there : (known : List LayerText) (outer : ℕ) (part : LayerPart) (number : ℕ)
    → number_in outer part known ≡ Some number → with_layer known outer part ≡ known
layer-there known outer part number e = ap (unless_known known outer part) e

-- ---- by all parts

pub keeps-at : (before after : List LayerText) → Keeps before after → (outer : ℕ)
    (parts : List LayerPart) (number : ℕ) → number_at outer parts before ≡ Some number
    → number_at outer parts after ≡ Some number
keeps-at before after keeps outer [] number e = e
keeps-at before after keeps outer (part ∷ more) number e =
    by (λ (n : ℕ). keeps-at before after keeps n more number) (number_in outer part before) refl e
  where
    by : ((n : ℕ) → number_at n more before ≡ Some number → number_at n more after ≡ Some number)
        → (f : Option ℕ) → number_in outer part before ≡ f
        → option_and_then (λ (n : ℕ). number_at n more before) f ≡ Some number
        → number_at outer (part ∷ more) after ≡ Some number
    by next None h k = absurd (cc)
    by next (Some n) h k =
        ap (λ (g : Option ℕ). option_and_then (λ (i : ℕ). number_at i more after) g)
        (keeps outer part n h)
        ∙ next n k

pub at-append : (outer : ℕ) (xs ys : List LayerPart) (known : List LayerText) (number : ℕ)
    → number_at outer xs known ≡ Some number
    → number_at outer (xs ++ ys) known ≡ number_at number ys known
at-append outer [] ys known number e =
    let same : outer ≡ number = cc in ap (λ (n : ℕ). number_at n ys known) same
at-append outer (x ∷ xs) ys known number e =
    by (λ (n : ℕ). at-append n xs ys known number) (number_in outer x known) e
  where
    by : ((n : ℕ) → number_at n xs known ≡ Some number
        → number_at n (xs ++ ys) known ≡ number_at number ys known) → (f : Option ℕ) → option_and_then (λ (n : ℕ). number_at n xs known) f ≡ Some number
        → option_and_then (λ (n : ℕ). number_at n (xs ++ ys) known) f ≡ number_at number ys known
    by next None k = absurd (cc)
    by next (Some n) k = next n k

-- what is known is mentioned again
pub name-there : (known : List LayerText) (outer : ℕ) (xs ys : List LayerPart) (number : ℕ)
    → number_at outer xs known ≡ Some number
    → with_name known outer (xs ++ ys) ≡ with_name known number ys
name-there known outer [] ys number e =
    let same : outer ≡ number = cc in ap (λ (n : ℕ). with_name known n ys) same
name-there known outer (x ∷ xs) ys number e =
    by (λ (n : ℕ). name-there known n xs ys number) (number_in outer x known) refl e
  where
    by : ((n : ℕ) → number_at n xs known ≡ Some number
        → with_name known n (xs ++ ys) ≡ with_name known number ys) → (f : Option ℕ) → number_in outer x known ≡ f
        → option_and_then (λ (n : ℕ). number_at n xs known) f ≡ Some number
        → with_name known outer (x ∷ (xs ++ ys)) ≡ with_name known number ys
    by more None h k = absurd (cc)
    by more (Some n) h k =
        ap (λ (next : List LayerText). with_name next (number_of outer x next) (xs ++ ys))
        (layer-there known outer x n h)
        ∙ ap (λ (g : Option ℕ). with_name known (or_outermost g) (xs ++ ys)) h
        ∙ more n k

-- a layer that is mentioned by a name is known
pub name-known : (known : List LayerText) (outer : ℕ) (parts : List LayerPart)
    → number_at outer parts (with_name known outer parts)
    ≡ Some (or_outermost (number_at outer parts (with_name known outer parts)))
name-known known outer [] = refl
name-known known outer (part ∷ more) =
    let next = with_layer known outer part in
    let n = number_of outer part next in
    let all = with_name next n more in
    let first : number_in outer part all ≡ Some n =
    keeps-name next n more outer part n (layer-known known outer part) in
    let same : number_at outer (part ∷ more) all ≡ number_at n more all =
    ap (λ (g : Option ℕ). option_and_then (λ (i : ℕ). number_at i more all) g) first in
    same ∙ name-known next n more
    ∙ ap (λ (g : Option ℕ). Some (or_outermost g)) (sym same)

-- one after another
pub name-append : (known : List LayerText) (outer : ℕ) (xs ys : List LayerPart) (number : ℕ)
    → number_at outer xs (with_name known outer xs) ≡ Some number
    → with_name known outer (xs ++ ys) ≡ with_name (with_name known outer xs) number ys
name-append known outer [] ys number e =
    let same : outer ≡ number = cc in ap (λ (n : ℕ). with_name known n ys) same
name-append known outer (x ∷ xs) ys number e =
    let next = with_layer known outer x in
    let n = number_of outer x next in
    let all = with_name next n xs in
    let first : number_in outer x all ≡ Some n =
    keeps-name next n xs outer x n (layer-known known outer x) in
    name-append next n xs ys number
    (sym (ap (λ (g : Option ℕ). option_and_then (λ (i : ℕ). number_at i xs all) g) first) ∙ e)

-- ---- how many there are

longer : (xs ys : List LayerText) (x : LayerText)
    → length (xs ++ ys) ≤ length (xs ++ x ∷ ys)
longer xs ys x =
    let before = length-append xs ys in
    let after = length-append xs (x ∷ ys) in
    omega (arith, before, after)

pub grows-layer : (known : List LayerText) (outer : ℕ) (part : LayerPart)
    → length known ≤ length (with_layer known outer part)
grows-layer known outer part = by (number_in outer part known)
  where
    by : (f : Option ℕ) → length known ≤ length (unless_known known outer part f)
    by (Some number) = omega arith
    by None =
        let i = place_of outer known in
        let all = ap length (take-append-drop i known) in
        let more = longer (take i known) (drop i known)
        (record { number = length known; outer = outer; part = part }) in
        omega (arith, all, more)

pub grows-name : (known : List LayerText) (outer : ℕ) (parts : List LayerPart)
    → length known ≤ length (with_name known outer parts)
grows-name known outer [] = omega arith
grows-name known outer (part ∷ more) =
    let next = with_layer known outer part in
    let one = grows-layer known outer part in
    let others = grows-name next (number_of outer part next) more in
    omega (arith, one, others)

-- The layers so far are those of the parts so far; and these parts are the ones to come.
pub record Mentioning (start : List LayerText) (outer : ℕ) (all : List LayerPart)
    (now : List LayerText) (number : ℕ) (come : List LayerPart) : Type 0 where
  pub layers : with_name now number come ≡ with_name start outer all
  pub numbers : number_at number come (with_name now number come)
      ≡ number_at outer all (with_name start outer all)

pub mentioning-next : (start : List LayerText) (outer : ℕ) (all : List LayerPart)
    (now after : List LayerText) (number next : ℕ) (part : LayerPart) (come : List LayerPart)
    → after ≡ with_layer now number part → next ≡ number_of number part after
    → Mentioning start outer all now number (part ∷ come)
    → Mentioning start outer all after next come
mentioning-next start outer all now after number next part come e f h =
    let step : with_name after next come ≡ with_name now number (part ∷ come) =
    ap (λ (n : ℕ). with_name after n come) f
    ∙ ap (λ (k : List LayerText). with_name k (number_of number part k) come) e in
    let known : number_in number part after ≡ Some next =
    ap (number_in number part) e ∙ layer-known now number part
    ∙ ap (λ (k : List LayerText). Some (number_of number part k)) (sym e) ∙ ap (λ (n : ℕ). Some n) (sym f) in
    let kept : number_in number part (with_name after next come) ≡ Some next =
    keeps-name after next come number part next known in
    record {
      layers = step ∙ h.layers;
      numbers =
          sym (ap (option_and_then (λ (n : ℕ). number_at n come (with_name after next come))) kept)
          ∙ ap (number_at number (part ∷ come)) step ∙ h.numbers;
    }

-- a further part is one layer too many, and so are all
pub many-named : (start : List LayerText) (outer : ℕ) (all : List LayerPart) (now : List LayerText)
    (number : ℕ) (part : LayerPart) (come : List LayerPart) (most : ℕ)
    → Mentioning start outer all now number (part ∷ come)
    → most < length (with_layer now number part) → most < length (with_name start outer all)
many-named start outer all now number part come most h over =
    let next = with_layer now number part in
    let more = grows-name next (number_of number part next) come in
    let whole = ap length h.layers in
    omega (arith, more, whole, over)

-- an error that is handed on
pub handed-error : {V : Type 0} (P : Type 0) (r : Result V LayersError) (error : LayersError)
    → IsErrAnd r (λ reported. reported ≡ error) → (error ≡ TooManyLayers → P)
    → IfErr r (λ reported. reported ≡ TooManyLayers → P)
handed-error P (Ok x) error is due = tt
handed-error P (Err reported) error is due = λ same. due (sym is ∙ same)
