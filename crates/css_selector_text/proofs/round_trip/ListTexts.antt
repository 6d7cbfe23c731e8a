-- The texts of lists, as the definitions see them and as the code goes through them.
-- Serves `printing`.
use Rattle.std.proofs.Common.{◌≡◌, ℕ, zero, suc, ◌+◌, ◌<◌, List, [], ◌∷◌, ◌++◌, length, get_or, take, map, Vec, Global, refl, sym, ap, ◌∙◌, append-nil, append_assoc, arith, rules}
use Rattle.std.proofs.lemmas.List.{take_more, length-take-le}
use Rattle.std.proofs.lemmas.List.Folds.{flat_map-map}
use Rattle.std.proofs.lemmas.Grind.{flat_map-append}
use Rattle.std.specs.Prelude.{codes}
use Rattle.std.specs.List.{flat_map}
use Rattle.css_selector_text.specs.declared.components.Complex.{Complex}
use Rattle.css_selector_text.specs.declared.components.Condition.{Condition as ConditionOf, Not, Is, Where, Tested}
use Rattle.css_selector_text.specs.declared.components.ListTest.{ListTest as ListTestOf}
use Rattle.css_selector_text.specs.Components.{Condition, Part, conditions_from, parts_from, selectors_from}
use Rattle.css_selector_text.specs.printing.Printing.{condition_text, compound_text, complex_text, further_parts_text, selectors_text, further_selectors_text, further_text, list_text, function_text, test_text, part_text, listed_text}
use Rattle.css_selector_text.specs.Views.{condition_of, complex_of, list_test_of}
use Rattle.css_selector_text.proofs.ConditionViews.{condition_not, condition_is, condition_where, condition_tested}

pub compound_text_conditions : (cs : List Condition)
    → compound_text (conditions_from cs) ≡ flat_map condition_text cs
compound_text_conditions [] = refl
compound_text_conditions (c ∷ cs) = ap (λ t. condition_text c ++ t) (compound_text_conditions cs)

further_text_parts : (ps : List Part) → further_parts_text (parts_from ps) ≡ flat_map part_text ps
further_text_parts [] = refl
further_text_parts (p ∷ ps) =
    rw (compound_text_conditions p.conditions, further_text_parts ps) refl

pub complex_text_parts : (ps : List Part) → complex_text (parts_from ps) ≡ listed_text ps
complex_text_parts [] = refl
complex_text_parts (p ∷ ps) = rw (compound_text_conditions p.conditions, further_text_parts ps) refl

pub further_text_selectors : (ss : List (List Part))
    → further_selectors_text (selectors_from ss) ≡ flat_map (further_text listed_text) ss
further_text_selectors [] = refl
further_text_selectors (s ∷ ss) =
    rw (complex_text_parts s, further_text_selectors ss) (search rules)

-- what the code writes of a complex selector in a list
abbrev pub selector_shown : Complex → List ℕ
selector_shown c = listed_text (complex_of c)

pub text_selectors : (cs : List Complex)
    → selectors_text (selectors_from (map complex_of cs)) ≡ list_text selector_shown cs
text_selectors [] = refl
text_selectors (c ∷ cs) =
    rw (complex_text_parts (complex_of c), further_text_selectors (map complex_of cs))
    (ap (λ t. selector_shown c ++ t) (flat_map-map (further_text listed_text) complex_of cs))

module _ (c : ConditionOf) (v : Vec Complex Global) (xs : List Complex) where
  shown_by : (name : List ℕ) → condition_text (condition_of c)
      ≡ function_text name (selectors_text (selectors_from (map complex_of v.items)))
      → xs ≡ v.items
      → function_text name (list_text selector_shown xs) ≡ condition_text (condition_of c)
  shown_by name is same =
      sym (is ∙ ap (λ ys. function_text name (selectors_text (selectors_from (map complex_of ys))))
      (sym same)
      ∙ ap (function_text name) (text_selectors xs))

  pub text_not : c ≡ Not v → xs ≡ v.items
      → function_text (codes ":not(") (list_text selector_shown xs) ≡ condition_text (condition_of c)
  text_not is = shown_by (codes ":not(") (ap (λ x. condition_text (condition_of x)) is ∙ ap condition_text (condition_not v))

  pub text_is : c ≡ Is v → xs ≡ v.items
      → function_text (codes ":is(") (list_text selector_shown xs) ≡ condition_text (condition_of c)
  text_is is = shown_by (codes ":is(") (ap (λ x. condition_text (condition_of x)) is ∙ ap condition_text (condition_is v))

  pub text_where : c ≡ Where v → xs ≡ v.items
      → function_text (codes ":where(") (list_text selector_shown xs) ≡ condition_text (condition_of c)
  text_where is = shown_by (codes ":where(") (ap (λ x. condition_text (condition_of x)) is ∙ ap condition_text (condition_where v))

  pub text_tested : (t : ListTestOf) → c ≡ Tested t v → xs ≡ v.items
      → test_text (list_test_of t) (list_text selector_shown xs) ≡ condition_text (condition_of c)
  text_tested t is same =
      let shown : List ℕ → List ℕ = test_text (list_test_of t) in
      sym (ap (λ x. condition_text (condition_of x)) is ∙ ap condition_text (condition_tested t v)
      ∙ ap (λ ys. shown (selectors_text (selectors_from (map complex_of ys)))) (sym same)
      ∙ ap shown (text_selectors xs))

-- what the code writes before an item of a list, of which there are so many before it
abbrev pub separator : ℕ → List ℕ
separator zero = []
separator (suc n) = codes ", "

pub separator_later : (n : ℕ) → codes ", " ≡ separator (n + 1)
separator_later n = let e : suc n ≡ n + 1 = omega arith in ap separator e

module _ {A : Type 0} (F : A → List ℕ) where
  list_push : (ys : List A) (y : A)
      → (list_text F ys ++ separator (length ys)) ++ F y ≡ list_text F (ys ++ y ∷ [])
  list_push [] y = sym (append-nil (F y))
  list_push (z ∷ zs) y =
      append_assoc (F z ++ flat_map (further_text F) zs) (codes ", ") (F y)
      ∙ append_assoc (F z) (flat_map (further_text F) zs) (codes ", " ++ F y)
      ∙ ap (λ t. F z ++ t)
      (sym (flat_map-append (further_text F) zs (y ∷ [])
      ∙ ap (λ t. flat_map (further_text F) zs ++ t) (append-nil (codes ", " ++ F y))))

  -- a list's text goes on with what is before an item and with the item
  pub list_step : (xs : List A) (i : ℕ) (x : A) → i < length xs → x ≡ get_or xs i x
      → (list_text F (take i xs) ++ separator i) ++ F x ≡ list_text F (take (i + 1) xs)
  list_step xs i x within is =
      ap (λ n. (list_text F (take i xs) ++ separator n) ++ F x)
      (sym (length-take-le i xs (omega arith)))
      ∙ ap (λ z. (list_text F (take i xs) ++ separator (length (take i xs))) ++ F z) is
      ∙ list_push (take i xs) (get_or xs i x) ∙ ap (list_text F) (sym (take_more xs i x within))
