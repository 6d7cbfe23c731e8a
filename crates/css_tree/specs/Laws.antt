-- Pages satisfy the laws of `Element`. They are proved here since the trait requires them: the
-- impl names them, so they belong to what is stated.
use Rattle.std.proofs.Common.{◌≡◌, ℕ, zero, suc, ◌+◌, Bool, true, false, Option, None, Some, IfSome, MatchOption, refl, ap, sym, ◌∙◌, arith}
use Rattle.std.specs.Prelude.{◌==◌, if◌then◌else◌}
use Rattle.std.specs.Option.{option_map}
use Rattle.std.proofs.lemmas.Bool.Decides.{nat_tests}
use Rattle.css_matching.specs.Trees.{Counts, SiblingsShareParent}
use Rattle.css_matching.specs.ListTrees.{ListOf, list_counts_ancestors, spot}
use Rattle.css_selectors.specs.Documents.{shape}
use Rattle.css_elements.specs.TreeNodes.{named_parent}
use Rattle.css_tree.specs.Counts.{count_below, last_below}
use Rattle.css_tree.specs.Pages.{Page, parent_index, family, family_under, is_sibling, page_document}

-- the last index with a number, below an index: it has the number, and one fewer are below it
abbrev WithNumber : (ℕ → ℕ) → ℕ → Option ℕ → ℕ → Type 0
WithNumber of f last count =
    MatchOption last (count ≡ 0)
    (λ p. (of p ≡ f) × (count ≡ count_below (λ j. f == of j) p + 1))

counted_step : (of : ℕ → ℕ) (f n : ℕ) (b : Bool) (last : Option ℕ) (count : ℕ) → (f == of n) ≡ b
    → count ≡ count_below (λ j. f == of j) n → WithNumber of f last count
    → WithNumber of f (if b then Some n else last) (count + (if b then 1 else 0))
counted_step of f n true last count is same h = (grind (arith, nat_tests, is), ap (λ c. c + 1) same)
counted_step of f n false None count is same h = omega (arith, h)
counted_step of f n false (Some p) count is same h = (h.0, (let e = h.1 in omega (arith, e)))

counted_below : (of : ℕ → ℕ) (f n : ℕ)
    → WithNumber of f (last_below (λ j. f == of j) n) (count_below (λ j. f == of j) n)
counted_below of f zero = refl
counted_below of f (suc n) =
    counted_step of f n (f == of n) (last_below (λ j. f == of j) n)
    (count_below (λ j. f == of j) n) refl refl (counted_below of f n)

-- pages as lists, of which only the parents are used
abbrev parents : ListOf Page
parents = record {
  parent = λ page i. named_parent page.rows i;
  previous_sibling = λ page i. None;
}

pub depths_count : Counts page_document.parent page_document.depth
depths_count n = list_counts_ancestors parents n

counted : (page : Page) (i : ℕ) (last : Option ℕ)
    → WithNumber (family page.rows) (family page.rows i) last
    (count_below (is_sibling page.rows i) i)
    → MatchOption (option_map (spot page) last) (count_below (is_sibling page.rows i) i ≡ 0)
    (λ s. count_below (is_sibling page.rows i) i ≡ page_document.earlier s + 1)
counted page i None h = h
counted page i (Some p) h =
    h.1 ∙ ap (λ f. count_below (λ j. f == family page.rows j) p + 1) (sym h.0)

pub earlier_count : Counts page_document.previous_sibling page_document.earlier
earlier_count n =
    counted n.0 n.1 (last_below (is_sibling n.0.rows n.1) n.1)
    (counted_below (family n.0.rows) (family n.0.rows n.1) n.1)

abbrev parent_in : Page → ℕ → Option (Page × ℕ)
parent_in page zero = None
parent_in page (suc p) = Some (page, p)

parent_by_family : (page : Page) (r : Option ℕ)
    → option_map (spot page) r ≡ parent_in page (family_under r)
parent_by_family page None = refl
parent_by_family page (Some p) = refl

shared : (page : Page) (i : ℕ) (last : Option ℕ)
    → WithNumber (family page.rows) (family page.rows i) last
    (count_below (is_sibling page.rows i) i)
    → IfSome (option_map (spot page) last) (λ s. page_document.parent s ≡ page_document.parent (page, i))
shared page i None h = tt
shared page i (Some p) h =
    parent_by_family page (parent_index page.rows p) ∙ ap (parent_in page) h.0
    ∙ sym (parent_by_family page (parent_index page.rows i))

pub parents_shared : SiblingsShareParent (shape page_document)
parents_shared n =
    shared n.0 n.1 (last_below (is_sibling n.0.rows n.1) n.1)
    (counted_below (family n.0.rows) (family n.0.rows n.1) n.1)
