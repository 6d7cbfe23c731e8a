-- The keys that a selector requires of an element's ancestors.
-- Serves `Selector::{step_key, push_ancestor_keys}`, and the index of the crate `simplecss`.
use Rattle.std.proofs.Common.{◌≡◌, ℕ, zero, suc, ◌+◌, ◌-◌, ◌<◌, ◌⊎◌, ◌↔◌, inl, inr, List, [], ◌∷◌, ◌++◌, Option, Some, None, length, refl, sym, ap, ◌∙◌, arith, append_assoc}
use Rattle.std.specs.List.{All, cons_option}
use Rattle.std.proofs.lemmas.List.Elements.{All-append}
use Rattle.simplecss_grammar.specs.Components.{Component, Combinator}
use Rattle.simplecss_grammar.specs.Components.Combinator.{none, descendant, child, adjacent}
use Rattle.simplecss_selector.specs.Trees.{Tree, SiblingsShareParent}
use Rattle.simplecss_selector.specs.Keys.{Key, compound_key}
use Rattle.simplecss_selector.specs.Shapes.{component_at, first_of}
use Rattle.simplecss_selector.specs.Placements.{HasPlacement, Relates}
use Rattle.simplecss_selector.specs.Placements.IsAncestor.{is_parent}
use Rattle.simplecss_selector.specs.internal.PlacementSearch.{Reaches, IsWithin}
use Rattle.simplecss_selector.specs.AncestorKeys.{step_key, keys_among, ancestor_keys, SomeAncestorHas}
use Rattle.simplecss_selector.proofs.Ancestors.{ancestor_trans, ancestor_shared, sibling_parent}
use Rattle.simplecss_selector.proofs.KeyLemmas.{met_has_key}
use Rattle.simplecss_selector.proofs.Reaching.{first_of-suc}
use Rattle.simplecss_selector.proofs.Greedy.{placement_of}

-- ---- what a placement needs

within_related : {Node : Type 0} (tree : Tree Node) → SiblingsShareParent tree
    → (c : Combinator) (m n : Node) → Relates tree c m n → IsWithin tree m n
within_related tree shared none m n r a h = absurd r
within_related tree shared descendant m n r a h = ancestor_trans tree h r
within_related tree shared child m n r a h = ancestor_trans tree h (is_parent r)
within_related tree shared adjacent m n r a h =
    ancestor_shared tree (sibling_parent tree shared r) h

none_needed : {Node : Type 0} (tree : Tree Node) (n : Node) → All (SomeAncestorHas tree n) []
none_needed tree n k d lt = absurd (omega (arith, lt))

one_needed : {Node : Type 0} (tree : Tree Node) (n : Node) (key : Key)
    → SomeAncestorHas tree n key → All (SomeAncestorHas tree n) (key ∷ [])
one_needed tree n key h zero d lt = h
one_needed tree n key h (suc k) d lt = absurd (omega (arith, lt))

step_needed : {Node : Type 0} (tree : Tree Node) (c : Combinator) (cs : List Component)
    (m n : Node) → Relates tree c m n → Reaches tree cs m
    → All (SomeAncestorHas tree n) (cons_option (step_key c cs) [])
step_needed tree c [] m n r h = none_needed tree n
step_needed tree none (b ∷ cs) m n r h = none_needed tree n
step_needed tree adjacent (b ∷ cs) m n r h = none_needed tree n
step_needed tree descendant (b ∷ cs) m n r h = one_needed tree n (compound_key b.compound)
    (m, r, met_has_key tree m b.compound h.0)
step_needed tree child (b ∷ cs) m n r h = one_needed tree n (compound_key b.compound)
    (m, is_parent r, met_has_key tree m b.compound h.0)

among_needed : {Node : Type 0} (tree : Tree Node) → SiblingsShareParent tree
    → (cs : List Component) (n : Node) → Reaches tree cs n
    → All (SomeAncestorHas tree n) (keys_among cs)
among_needed tree shared [] n h = absurd h
among_needed tree shared (c ∷ []) n h = none_needed tree n
among_needed tree shared (c ∷ b ∷ cs) n (met, (m, r, reached)) =
    All-append (SomeAncestorHas tree n) (keys_among (b ∷ cs))
    (cons_option (step_key c.combinator (b ∷ cs)) [])
    (λ k d lt. let found = among_needed tree shared (b ∷ cs) m reached k d lt in
    (found.0, within_related tree shared c.combinator m n r found.0 found.1, found.2))
    (step_needed tree c.combinator (b ∷ cs) m n r reached)

-- a selector that matches needs keys that ancestors have
pub keys_needed : {Node : Type 0} (tree : Tree Node) → SiblingsShareParent tree
    → (cs : List Component) (n : Node) → HasPlacement tree cs n
    → All (SomeAncestorHas tree n) (ancestor_keys cs)
keys_needed tree shared cs n h = among_needed tree shared (first_of cs (length cs)) n
    ((placement_of tree cs (length cs) n refl).0 h)

-- ---- the keys of a selector, one component after the other

keys_more : (cs : List Component) (index : ℕ) → index < length cs
    → keys_among (first_of cs (index + 1)) ≡ keys_among (first_of cs index)
    ++ cons_option (step_key (component_at cs index).combinator (first_of cs index)) []
keys_more cs index within =
    let next : index + 1 ≡ suc index = omega arith in
    ap (λ k. keys_among (first_of cs k)) next ∙ ap keys_among (first_of-suc cs index within)

-- the keys so far, and the next one
pub keys_pushed : (cs : List Component) (index : ℕ) (base old new : List Key) (step : Option Key)
    → index < length cs → old ≡ base ++ keys_among (first_of cs index)
    → step ≡ step_key (component_at cs index).combinator (first_of cs index)
    → new ≡ old ++ cons_option step []
    → new ≡ base ++ keys_among (first_of cs (index + 1))
keys_pushed cs index base old new step within before is more =
    more ∙ ap (λ xs. xs ++ cons_option step []) before
    ∙ append_assoc base (keys_among (first_of cs index)) (cons_option step [])
    ∙ ap (λ s. base ++ (keys_among (first_of cs index) ++ cons_option s [])) is
    ∙ ap (λ xs. base ++ xs) (sym (keys_more cs index within))

-- the key to which a child or a descendant step leads
of_step : (b : Component) (bs : List Component) (d : Combinator) → (d ≡ child) ⊎ (d ≡ descendant)
    → Some (compound_key b.compound) ≡ step_key d (b ∷ bs)
of_step b bs none (inl e) = absurd (cc)
of_step b bs none (inr e) = absurd (cc)
of_step b bs adjacent (inl e) = absurd (cc)
of_step b bs adjacent (inr e) = absurd (cc)
of_step b bs descendant h = refl
of_step b bs child h = refl

some_step : (d : Combinator) (index : ℕ) → ((d ≡ none) ↔ (index ≡ 0))
    → (d ≡ child) ⊎ (d ≡ descendant) → 0 < index
some_step d zero first (inl e) =
    absurd (let n = first.1 refl in let x : none ≡ child = sym n ∙ e in cc)
some_step d zero first (inr e) =
    absurd (let n = first.1 refl in let x : none ≡ descendant = sym n ∙ e in cc)
some_step d (suc index) first h = omega arith

pub step_key_is : (cs : List Component) (index : ℕ) (d : Combinator) (key : Key)
    → index < length cs
    → ((d ≡ none) ↔ (index ≡ 0)) → d ≡ (component_at cs index).combinator
    → (d ≡ child) ⊎ (d ≡ descendant) → key ≡ compound_key (component_at cs (index - 1)).compound
    → Some key ≡ step_key (component_at cs index).combinator (first_of cs index)
step_key_is cs index d key within first value h is =
    let some : 0 < index = some_step d index first h in
    let before : index - 1 < length cs = omega (arith, some, within) in
    let next : suc (index - 1) ≡ index = omega (arith, some) in
    let front : first_of cs index ≡ component_at cs (index - 1) ∷ first_of cs (index - 1) =
    ap (first_of cs) (sym next) ∙ first_of-suc cs (index - 1) before in
    ap Some is ∙ of_step (component_at cs (index - 1)) (first_of cs (index - 1)) d h
    ∙ ap (step_key d) (sym front) ∙ ap (λ x. step_key x (first_of cs index)) value

no_step_among : (d : Combinator) (bs : List Component) → (d ≡ none) ⊎ (d ≡ adjacent)
    → None ≡ step_key d bs
no_step_among d [] h = refl
no_step_among none (b ∷ bs) h = refl
no_step_among adjacent (b ∷ bs) h = refl
no_step_among descendant (b ∷ bs) (inl e) = absurd (cc)
no_step_among descendant (b ∷ bs) (inr e) = absurd (cc)
no_step_among child (b ∷ bs) (inl e) = absurd (cc)
no_step_among child (b ∷ bs) (inr e) = absurd (cc)

pub no_step_key : (cs : List Component) (index : ℕ) (d : Combinator)
    → d ≡ (component_at cs index).combinator → (d ≡ none) ⊎ (d ≡ adjacent)
    → None ≡ step_key (component_at cs index).combinator (first_of cs index)
no_step_key cs index d value h =
    no_step_among d (first_of cs index) h ∙ ap (λ x. step_key x (first_of cs index)) value
