-- The languages of the elements so far.
-- Serves `numbered_tree::{language_after, languages_of}`.
use Rattle.std.proofs.Common.{◌≡◌, ℕ, ◌+◌, List, [], ◌∷◌, ◌++◌, length, Option, None, Some, sym, ap, ◌∙◌, Bor}
use Rattle.std.specs.Prelude.{codes}
use Rattle.std.specs.Option.{option_map, option_or, unwrap_or}
use Rattle.std.proofs.lemmas.List.{length-append}
use Rattle.css_matching.specs.ListTrees.{with_those_after, ancestors, ancestors_step}
use Rattle.css_elements.specs.Rows.{Row}
use Rattle.css_elements.specs.TreeNodes.{named_parent, attribute_at, first_value}
use Rattle.css_elements.proofs.Languages.{language_at-parent}
use Rattle.css_tree.specs.Keys.{AreLanguages}
use Rattle.css_tree.specs.Pages.{language_of, parent_index}
use Rattle.css_tree.proofs.Numbering.{known_more}

module _ (rows : List Row) (i : ℕ) (found : Option (Bor (List ℕ)))
    (is : option_map (λ value. value.now) found ≡ attribute_at rows i (codes "lang")) where
  none : found ≡ None → attribute_at rows i (codes "lang") ≡ None
  none absent = sym is ∙ ap (option_map (λ value. value.now)) absent

  -- an element that names its language
  pub language-own : (l : Bor (List ℕ)) → found ≡ Some l → l.now ≡ language_of rows i
  language-own l some =
      ap (λ r. unwrap_or (option_or r (first_value rows (codes "lang")
      (ancestors (named_parent rows) i))) []) (sym (ap (option_map (λ value. value.now)) some) ∙ is)

  -- one that names none has that of its parent, if it has one
  pub language-parent : (p : ℕ) → found ≡ None → parent_index rows i ≡ Some p
      → language_of rows p ≡ language_of rows i
  language-parent p absent up =
      ap (λ r. unwrap_or r []) (sym (language_at-parent rows i p (none absent) up))

  pub language-root : found ≡ None → parent_index rows i ≡ None → [] ≡ language_of rows i
  language-root absent up =
      sym (ap (λ r. unwrap_or (option_or r (first_value rows (codes "lang")
      (ancestors (named_parent rows) i))) []) (none absent)
      ∙ ap (λ is. unwrap_or (first_value rows (codes "lang") is) [])
      (ancestors_step (named_parent rows) i ∙ ap (with_those_after (ancestors (named_parent rows))) up))

-- the language of one more element
pub languages-more : (rows : List Row) (xs ys : List (Bor (List ℕ))) (x : Bor (List ℕ)) (n : ℕ)
    → ys ≡ xs ++ x ∷ [] → x.now ≡ language_of rows n → AreLanguages rows xs n
    → AreLanguages rows ys (n + 1)
languages-more rows xs ys x n is here are = record {
  all = ap length is ∙ length-append xs (x ∷ []) ∙ ap (λ k. k + 1) are.all;
  each = λ i lt. known_more (λ j l. l.now ≡ language_of rows j) xs ys x n i is are.all here are.each lt;
}
