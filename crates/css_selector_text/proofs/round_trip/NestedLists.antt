-- The complex selectors of a list within a condition, as lists.
-- Serves `printing_laws::printing_law`.
use Rattle.std.proofs.Common.{◌≡◌, ℕ, true, List, [], ◌∷◌, All, flat_map, refl, ap, ◌∙◌}
use Rattle.std.proofs.lemmas.List.Elements.{All-nil, All-cons, All-head, All-tail}
use Rattle.css_selector_text.specs.declared.components.ListKind.{ListKind}
use Rattle.css_selector_text.specs.reading.Rooms.{Room}
use Rattle.css_selector_text.specs.reading.Grammar.{is_forgiving, room_in}
use Rattle.css_selector_text.specs.Components.{Condition, Conditions, Parts, Selectors, Part, conditions_from, parts_from, selectors_from}
use Rattle.css_selector_text.specs.Components.Conditions.{end_of_compound, with_condition}
use Rattle.css_selector_text.specs.Components.Parts.{end_of_selector, with_part}
use Rattle.css_selector_text.specs.Components.Selectors.{end_of_list, with_selector}
use Rattle.css_selector_text.specs.printing.Printing.{condition_text, listed_text, selectors_text, list_text}
use Rattle.css_selector_text.specs.printing.WellFormed.{IsFurtherCondition, IsFirstCondition, IsList, AreComplex, IsComplex, AreJoined, IsCompound, AreFurther, IsLeading, MayOpen}
use Rattle.css_selector_text.proofs.round_trip.ListTexts.{complex_text_parts, further_text_selectors}

abbrev pub conditions_in : Conditions → List Condition
conditions_in end_of_compound = []
conditions_in (with_condition c cs) = c ∷ conditions_in cs

abbrev pub parts_in : Parts → List Part
parts_in end_of_selector = []
parts_in (with_part k c ps) = record { combinator = k; conditions = conditions_in c } ∷ parts_in ps

abbrev pub selectors_in : Selectors → List (List Part)
selectors_in end_of_list = []
selectors_in (with_selector s ss) = parts_in s ∷ selectors_in ss

conditions_from-in : (cs : Conditions) → conditions_from (conditions_in cs) ≡ cs
conditions_from-in end_of_compound = refl
conditions_from-in (with_condition c cs) = ap (with_condition c) (conditions_from-in cs)

parts_from-in : (ps : Parts) → parts_from (parts_in ps) ≡ ps
parts_from-in end_of_selector = refl
parts_from-in (with_part k c ps) =
    ap (λ d. with_part k d (parts_from (parts_in ps))) (conditions_from-in c)
    ∙ ap (with_part k c) (parts_from-in ps)

pub selectors_from-in : (ss : Selectors) → selectors_from (selectors_in ss) ≡ ss
selectors_from-in end_of_list = refl
selectors_from-in (with_selector s ss) =
    ap (λ t. with_selector t (selectors_from (selectors_in ss))) (parts_from-in s)
    ∙ ap (with_selector s) (selectors_from-in ss)

-- the text of a compound selector
abbrev pub row_text : List Condition → List ℕ
row_text cs = flat_map condition_text cs

pub rows_text : (ss : List (List Part)) → selectors_text (selectors_from ss) ≡ list_text listed_text ss
rows_text [] = refl
rows_text (s ∷ ss) = rw (complex_text_parts s, further_text_selectors ss) refl

-- ---- well-formed lists

-- a compound selector in a list has a condition at least
abbrev pub IsRow : Room → List Condition → Type 0
IsRow n [] = ⊥
IsRow n (c ∷ cs) = IsFirstCondition n c × All (IsFurtherCondition n) cs

-- one after a combinator
abbrev pub IsLink : Room → Part → Type 0
IsLink n p = IsRow n p.conditions

-- a complex selector in a list has a first compound selector
abbrev pub IsChain : ListKind → Room → List Part → Type 0
IsChain kind n [] = ⊥
IsChain kind n (p ∷ ps) = IsLeading kind p.combinator × IsRow n p.conditions × All (IsLink n) ps

-- only a forgiving list may be empty
abbrev pub AreChains : ListKind → Room → List (List Part) → Type 0
AreChains kind n [] = is_forgiving kind ≡ true
AreChains kind n (s ∷ ss) = IsChain kind n s × All (IsChain kind n) ss

module _ (n : Room) where
  further_out : (cs : List Condition) → AreFurther n (conditions_from cs)
      → All (IsFurtherCondition n) cs
  further_out [] w = All-nil (IsFurtherCondition n)
  further_out (c ∷ cs) w = All-cons (IsFurtherCondition n) c cs w.0 (further_out cs w.1)

  further_in : (cs : List Condition) → All (IsFurtherCondition n) cs
      → AreFurther n (conditions_from cs)
  further_in [] w = tt
  further_in (c ∷ cs) w = (
    All-head (IsFurtherCondition n) c cs w,
    further_in cs (All-tail (IsFurtherCondition n) c cs w),
  )

  row_out : (cs : List Condition) → IsCompound n (conditions_from cs) → IsRow n cs
  row_out [] w = w
  row_out (c ∷ cs) w = (w.0, further_out cs w.1)

  row_in : (cs : List Condition) → IsRow n cs → IsCompound n (conditions_from cs)
  row_in [] w = w
  row_in (c ∷ cs) w = (w.0, further_in cs w.1)

  links_out : (ps : List Part) → AreJoined n (parts_from ps) → All (IsLink n) ps
  links_out [] w = All-nil (IsLink n)
  links_out (p ∷ ps) w =
      All-cons (IsLink n) p ps (row_out p.conditions w.0) (links_out ps w.1)

  links_in : (ps : List Part) → All (IsLink n) ps → AreJoined n (parts_from ps)
  links_in [] w = tt
  links_in (p ∷ ps) w = (
    row_in p.conditions (All-head (IsLink n) p ps w),
    links_in ps (All-tail (IsLink n) p ps w),
  )

module _ (kind : ListKind) (n : Room) where
  chain_out : (ps : List Part) → IsComplex kind n (parts_from ps) → IsChain kind n ps
  chain_out [] w = w
  chain_out (p ∷ ps) w = (w.0, row_out n p.conditions w.1, links_out n ps w.2)

  chain_in : (ps : List Part) → IsChain kind n ps → IsComplex kind n (parts_from ps)
  chain_in [] w = w
  chain_in (p ∷ ps) w = (w.0, row_in n p.conditions w.1, links_in n ps w.2)

  each_out : (ss : List (List Part)) → AreComplex kind n (selectors_from ss)
      → All (IsChain kind n) ss
  each_out [] w = All-nil (IsChain kind n)
  each_out (s ∷ ss) w = All-cons (IsChain kind n) s ss (chain_out s w.0) (each_out ss w.1)

  each_in : (ss : List (List Part)) → All (IsChain kind n) ss
      → AreComplex kind n (selectors_from ss)
  each_in [] w = tt
  each_in (s ∷ ss) w =
      (chain_in s (All-head (IsChain kind n) s ss w), each_in ss (All-tail (IsChain kind n) s ss w))

-- a list may be open, and its selectors are well-formed where it is
pub chains_out : (kind : ListKind) (n : Room) (ss : List (List Part))
    → IsList kind n (selectors_from ss) → MayOpen kind n × AreChains kind (room_in kind n) ss
chains_out kind n [] w = w
chains_out kind n (s ∷ ss) w =
    (w.0, (chain_out kind (room_in kind n) s w.1, each_out kind (room_in kind n) ss w.2))

pub chains_in : (kind : ListKind) (n : Room) (ss : List (List Part)) → MayOpen kind n
    → AreChains kind (room_in kind n) ss → IsList kind n (selectors_from ss)
chains_in kind n [] may w = (may, w)
chains_in kind n (s ∷ ss) may w =
    (may, chain_in kind (room_in kind n) s w.0, each_in kind (room_in kind n) ss w.1)
