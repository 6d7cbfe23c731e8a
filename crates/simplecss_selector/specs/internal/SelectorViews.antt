-- What contracts see of a selector that is kept in flat lists.
use Rattle.std.specs.Prelude.{◌≡◌, ℕ, ◌≤◌, List, [], ◌∷◌, map}
use Rattle.std.specs.List.{slice_range}
use Rattle.std.specs.Option.{option_map}
use Rattle.simplecss_selector.specs.OperatorViews.{operator_of, pseudo_class_of}
use Rattle.simplecss_selector.specs.internal.CombinatorViews.{combinator_of}
use Rattle.simplecss_grammar.specs.Components.{Subselector, Component}
use Rattle.simplecss_grammar.specs.Components.Subselector.{attribute, pseudo_class}
use Rattle.simplecss_selector.specs.internal.SelectorDrafts.{Drafted}
use Rattle.simplecss_selector.specs.Shapes.{IsSelector}
use Rattle.simplecss_selector.specs.internal.Stretches.{AreStretchEnds, all_stretch_ends}
use Rattle.simplecss_selector.specs.declared.selector.FlatComponent.{FlatComponent}
use Rattle.simplecss_selector.specs.declared.selector.SubSelector.{SubSelector}
use Rattle.simplecss_selector.specs.declared.selector.SubSelector.TheVariants.{Attribute, PseudoClass}

abbrev pub subselector_of : SubSelector → Subselector
subselector_of (Attribute name operator) = attribute name.now (operator_of operator)
subselector_of (PseudoClass class) = pseudo_class (pseudo_class_of class)

abbrev pub component_of_flat : FlatComponent → List SubSelector → Component
component_of_flat p subselectors =
    record {
      combinator = combinator_of p.combinator;
      compound =
          record {
            name = option_map (λ n. n.now) p.name;
            subselectors = map subselector_of subselectors;
          };
    }

-- the components, whose subselectors follow one another in the one list from index `start` on
abbrev pub components_from : ℕ → List FlatComponent → List SubSelector → List Component
components_from start [] subselectors = []
components_from start (p ∷ ps) subselectors =
    component_of_flat p (slice_range subselectors start p.end)
    ∷ components_from p.end ps subselectors

-- the ends never fall from `start` on, and the last of them is `n`
abbrev pub Tile : ℕ → List FlatComponent → ℕ → Type 0
Tile start [] n = start ≡ n
Tile start (p ∷ ps) n = (start ≤ p.end) × Tile p.end ps n

-- the end of the subselectors of the last of these components
abbrev pub last_end : ℕ → List FlatComponent → ℕ
last_end start [] = start
last_end start (p ∷ ps) = last_end p.end ps

-- a draft of finished components, and of one that has the subselectors after theirs
abbrev pub drafted : List FlatComponent → List SubSelector → FlatComponent → Drafted
drafted ps ss unfinished = record {
  done = components_from 0 ps ss;
  last = component_of_flat unfinished (slice_range ss (last_end 0 ps) unfinished.end);
}

-- The flat lists of a selector: its components, whose subselectors tile the `n` of the one list,
-- and the ends of its stretches but the last.
pub record IsFlat (ps : List FlatComponent) (ss : List SubSelector) (n : ℕ)
    (kept : List ℕ) : Type 0 where
  pub selector : IsSelector (components_from 0 ps ss)
  pub tiled : Tile 0 ps n
  pub stretches : AreStretchEnds (components_from 0 ps ss)
      (all_stretch_ends (components_from 0 ps ss) kept)
