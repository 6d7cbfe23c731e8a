-- What a walk keeps.
use Rattle.std.specs.Prelude.{◌≡◌, ℕ, List, [], length, map}
use Rattle.css_selector_text.specs.Components.{Selector}
use Rattle.css_index.specs.Walks.{Numbered, Walk, AreNumbered, AreNeeds}
use Rattle.css_index.specs.declared.above.Above.{Above}
use Rattle.css_index.specs.declared.need.Need.{Need}

-- what contracts see of a need: the numbers of ancestors and of the parent
abbrev pub need_of : Need → List ℕ × List ℕ
need_of need = (need.ancestors.items, need.parent.items)

-- what is above an element, as a walk without selectors
abbrev pub walk_above : Above → Walk
walk_above above = record {
  selectors = [];
  needed = [];
  needs = map need_of above.needs.now;
  opened = above.path.now.opened;
}

-- the numbers are those of what the selectors need, and the path is for so many
pub record IsWalk (selectors : List Selector) (needed : Numbered) (needs : List (List ℕ × List ℕ))
    (size : ℕ) : Type 0 where
  pub size_is : size ≡ length needed
  pub numbered : AreNumbered needed
  pub are : AreNeeds needed selectors needs
