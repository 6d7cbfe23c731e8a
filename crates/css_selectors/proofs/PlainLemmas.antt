-- Numbering parts in which nothing is numbered returns them.
-- Serves `numbering`.
use Rattle.std.proofs.Common.{◌≡◌, ℕ, Bool, true, false, ◌&&◌, List, [], ◌∷◌, refl, ap, ◌∙◌}
use Rattle.std.specs.List.{list_all}
use Rattle.css_selector_text.specs.Components.{Simple, Condition, Part}
use Rattle.css_selector_text.specs.Components.Simple.{universal, type_name, id, class, has_attribute, attribute, structure, language, state, function, named_element, nesting, namespaced}
use Rattle.css_selector_text.specs.Components.Condition.{simple, negation, any_of, where_any, tested}
use Rattle.css_selectors.specs.MarkedLists.{ListText}
use Rattle.css_selectors.specs.Numberings.{Numbered, one_then, made_of, numbered_simple, numbered_condition, numbered_each, numbered_part, numbered_parts, part_with}
use Rattle.css_selectors.specs.internal.PlainParts.{is_plain_simple, is_plain_condition, is_plain_part}

and-first : (a b : Bool) → a && b ≡ true → a ≡ true
and-first true b h = refl
and-first false b h = absurd (cc)

and-second : (a b : Bool) → a && b ≡ true → b ≡ true
and-second true b h = h
and-second false b h = absurd (cc)

each-stay : {A : Type 0} (one : List ListText → A → Numbered A) (test : A → Bool)
    → ((lists : List ListText) (x : A) → test x ≡ true → one lists x ≡ (x, lists))
    → (lists : List ListText) (xs : List A) → list_all test xs ≡ true
    → numbered_each one lists xs ≡ (xs, lists)
each-stay one test stays lists [] h = refl
each-stay {A} one test stays lists (x ∷ xs) h =
    ap (λ (m : Numbered A). one_then (λ y ys. y ∷ ys) m (λ more. numbered_each one more xs))
    (stays lists x (and-first (test x) (list_all test xs) h))
    ∙ ap (λ (m : Numbered (List A)). (x ∷ m.0, m.1))
    (each-stay one test stays lists xs (and-second (test x) (list_all test xs) h))

module _ (numbers : List ℕ) where
  simple-stays : (s : Simple) → is_plain_simple s ≡ true → numbered_simple numbers s ≡ s
  simple-stays universal h = refl
  simple-stays (type_name name) h = refl
  simple-stays (id text) h = refl
  simple-stays (class word) h = refl
  simple-stays (has_attribute name) h = refl
  simple-stays (attribute name c text ignores) h = refl
  simple-stays (structure s) h = refl
  simple-stays (language ranges) h = refl
  simple-stays (state name) h = refl
  simple-stays (function name argument) h = refl
  simple-stays (named_element name argument) h = refl
  simple-stays (nesting list) h = absurd (cc)
  simple-stays (namespaced namespace local) h = refl

  condition-stays : (lists : List ListText) (c : Condition) → is_plain_condition c ≡ true
      → numbered_condition numbers lists c ≡ (c, lists)
  condition-stays lists (simple s) h = ap (λ x. (simple x, lists)) (simple-stays s h)
  condition-stays lists (negation ss) h = absurd (cc)
  condition-stays lists (any_of ss) h = absurd (cc)
  condition-stays lists (where_any ss) h = absurd (cc)
  condition-stays lists (tested test ss) h = absurd (cc)

  part-stays : (lists : List ListText) (p : Part) → is_plain_part p ≡ true
      → numbered_part numbers lists p ≡ (p, lists)
  part-stays lists p h =
      ap (made_of (part_with p))
      (each-stay (numbered_condition numbers) is_plain_condition condition-stays lists p.conditions h)

  pub plain_parts_stay : (lists : List ListText) (ps : List Part) → list_all is_plain_part ps ≡ true
      → numbered_parts numbers lists ps ≡ (ps, lists)
  plain_parts_stay = each-stay (numbered_part numbers) is_plain_part part-stays
