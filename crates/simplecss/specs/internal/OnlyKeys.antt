-- Nodes that have only a key, and what a search that knows of such selectors tests.
use Rattle.std.specs.Prelude.{ℕ, ◌&&◌, List, None, Bool, false, refl, if◌then◌else◌}
use Rattle.simplecss_grammar.specs.Components.{Component}
use Rattle.simplecss_selector.specs.Keys.{Key}
use Rattle.simplecss_selector.specs.Trees.{Tree, DepthCountsAncestors, SiblingsShareParent}
use Rattle.simplecss.specs.OnlyKeys.{only_named, only_has, requires_only_key}

-- nodes each of which has one key, and nothing else
abbrev pub only_tree : Tree Key
only_tree = record {
  parent = λ key. None;
  previous_sibling = λ key. None;
  depth = λ key. 0;
  is_named = only_named;
  has_attribute = only_has;
  is_in_pseudo_class = λ key class. false;
}

pub only_depths : DepthCountsAncestors only_tree
only_depths key = refl

pub only_siblings : SiblingsShareParent only_tree
only_siblings key = tt

-- whether the selector needs no test: the search is exact, and it requires nothing but its key
abbrev pub needs_no_test : Bool → List Component → Bool
needs_no_test is_exact selector = is_exact && requires_only_key selector

-- what the selector costs: nothing if it needs no test
abbrev pub unless_needless : Bool → (List Component → ℕ) → List Component → ℕ
unless_needless is_exact cost selector = if needs_no_test is_exact selector then 0 else cost selector
