-- Walks over the elements of a page.
-- Serves `tree_walk`.
use Rattle.std.proofs.Common.{◌≡◌, ℕ, ◌<◌, List, [], ◌∷◌, Option, None, Some, IfSome, sym, subst}
use Rattle.std.specs.Option.{option_map}
use Rattle.css_matching.specs.ListTrees.{spot}
use Rattle.css_open_elements.specs.Opened.{all_but_last}
use Rattle.css_index.specs.Walks.{Walk, AreOpened, IsOpenTo}
use Rattle.css_elements.proofs.Walking.{inside}
use Rattle.css_tree.specs.Pages.{Page, page_document, parent_index}
use Rattle.css_tree.specs.Reports.{reported_of}
use Rattle.css_tree.specs.Walks.{IsOpenAt}

pub none_open : (page : Page) (walk : Walk) → walk.opened ≡ [] → IsOpenAt page walk None
none_open page walk none = record {
  within = tt;
  opened = subst (λ opened. AreOpened {Node = Page × ℕ} {Self = Page × ℕ} page_document (λ n. n)
      reported_of walk.needed None opened) (sym none) tt;
}

-- the element that was opened last is closed
pub closed_one : (page : Page) (old new : Walk) (place next : Option ℕ) (i : ℕ)
    → IsOpenAt page old place → place ≡ Some i → new.needed ≡ old.needed
    → new.opened ≡ all_but_last old.opened → next ≡ parent_index page.rows i
    → IfSome next (λ parent. parent < i) → IsOpenAt page new next
closed_one page old new place next i at is needed opened up before = record {
  within = inside page.rows i next here.within before;
  opened = subst (λ p. AreOpened {Node = Page × ℕ} {Self = Page × ℕ} page_document (λ n. n)
      reported_of new.needed (option_map (spot page) p) new.opened) (sym up)
      (subst (λ es. AreOpened {Node = Page × ℕ} {Self = Page × ℕ} page_document (λ n. n)
      reported_of es (option_map (spot page) (parent_index page.rows i)) new.opened) (sym needed)
      (subst (λ os. AreOpened {Node = Page × ℕ} {Self = Page × ℕ} page_document (λ n. n)
      reported_of old.needed (option_map (spot page) (parent_index page.rows i)) os) (sym opened)
      (rest old.opened here.opened)));
}
  where
    here : IsOpenAt page old (Some i)
    here = subst (IsOpenAt page old) is at

    rest : (os : List (List ℕ))
        → AreOpened {Node = Page × ℕ} {Self = Page × ℕ} page_document (λ n. n) reported_of old.needed
        (Some (spot page i)) os
        → AreOpened {Node = Page × ℕ} {Self = Page × ℕ} page_document (λ n. n) reported_of old.needed
        (option_map (spot page) (parent_index page.rows i)) (all_but_last os)
    rest [] h = absurd h
    rest (numbers ∷ os) h = h.1

-- the walk is open to the parent of an element
pub open_above : (page : Page) (walk : Walk) (place : Option ℕ) (i : ℕ) (node : Page × ℕ)
    → IsOpenAt page walk place → place ≡ parent_index page.rows i → node ≡ spot page i
    → IsOpenTo {Node = Page × ℕ} {Self = Page × ℕ} page_document (λ n. n) reported_of walk
    (page_document.parent node)
open_above page walk place i node at up is =
    subst (λ n. IsOpenTo {Node = Page × ℕ} {Self = Page × ℕ} page_document (λ n. n) reported_of walk
    (page_document.parent n)) (sym is) (subst (λ p. IsOpenTo {Node = Page × ℕ} {Self = Page × ℕ}
    page_document (λ n. n) reported_of walk (option_map (spot page) p)) up at.opened)
