-- Elements of a page, and those to which they are related.
-- Serves `has_marks`, `nth_marks` and `marking_laws`.
use Rattle.std.proofs.Common.{◌≡◌, ℕ, ◌<◌, length, Option, None, Some, IfSome, subst, ◌∙◌, arith}
use Rattle.std.specs.Option.{option_map}
use Rattle.css_matching.specs.declared.Combinator.{Combinator}
use Rattle.css_matching.specs.declared.Combinator.TheVariants.{Descendant, Child, Adjacent, Sibling}
use Rattle.css_matching.specs.ListTrees.{spot, lesser_before}
use Rattle.css_matching.specs.Placements.{IsBeyond, is_next, is_further, Relates}
use Rattle.css_selectors.specs.Documents.{shape}
use Rattle.css_elements.specs.TreeNodes.{named_parent}
use Rattle.css_tree.specs.Counts.{last_below}
use Rattle.css_tree.specs.Pages.{Page, page_document, parent_index, is_sibling}
use Rattle.css_tree.proofs.PageSteps.{related_stays}
use Rattle.css_tree.proofs.Counting.{last_below-earlier}

-- an element of the page
pub record IsElement (page : Page) (n : Page × ℕ) : Type 0 where
  pub there : n.0 ≡ page
  pub within : n.1 < length page.rows

step_back : (p : Page) (r : Option ℕ) (i : ℕ) (a : Page × ℕ) → IfSome r (λ j. j < i)
    → option_map (spot p) r ≡ Some a → a.1 < i
step_back p None i a less e = absurd (cc)
step_back p (Some j) i a less e =
    let is : spot p j ≡ a = cc in subst (λ n. n.1 < i) is less

beyond_back : (next : Page × ℕ → Option (Page × ℕ))
    → ((a b : Page × ℕ) → next b ≡ Some a → a.1 < b.1) → (a b : Page × ℕ)
    → IsBeyond next a b → a.1 < b.1
beyond_back next back a b (is_next e) = back a b e
beyond_back next back a b (is_further {p = p} e rest) =
    let one = beyond_back next back a p rest in let more = back p b e in omega arith

parent_back : (a b : Page × ℕ) → page_document.parent b ≡ Some a → a.1 < b.1
parent_back a b e =
    step_back b.0 (parent_index b.0.rows b.1) b.1 a
    (lesser_before b.1 (named_parent b.0.rows b.1)) e

sibling_back : (a b : Page × ℕ) → page_document.previous_sibling b ≡ Some a → a.1 < b.1
sibling_back a b e =
    step_back b.0 (last_below (is_sibling b.0.rows b.1) b.1) b.1 a
    (last_below-earlier (is_sibling b.0.rows b.1) b.1) e

related_back : (c : Combinator) (a b : Page × ℕ) → Relates (shape page_document) c a b → a.1 < b.1
related_back Descendant a b h = beyond_back page_document.parent parent_back a b h
related_back Child a b h = parent_back a b h
related_back Adjacent a b h = sibling_back a b h
related_back Sibling a b h = beyond_back page_document.previous_sibling sibling_back a b h

pub related_element : (page : Page) (c : Combinator) (a b : Page × ℕ)
    → Relates (shape page_document) c a b → IsElement page b → IsElement page a
related_element page c a b h is = record {
  there = related_stays c a b h ∙ is.there;
  within = let one = related_back c a b h in let more = is.within in omega arith;
}
