-- A printed selector reads back.
-- Serves `Selector::{parse, parse_front}` and `StyleSheet::parse` (a selector printed and read
-- again).
use Rattle.std.proofs.Common.{◌≡◌, ℕ, List, [], ◌∷◌, ◌++◌, Bool, true, false, map, refl, sym, ap, ◌∙◌, subst, append_assoc, append-nil, arith, Option, Some, None}
use Rattle.std.proofs.lemmas.Bool.{and_parts}
use Rattle.std.specs.List.{list_all, flat_map}
use Rattle.css_text.specs.AsciiBytes.{colon, greater_than_sign, open_brace, open_bracket, plus_sign, space}
use Rattle.css_text.specs.Reading.{no_selector, got, fails}
use Rattle.simplecss_grammar.specs.declared.next_kind.NextKind.TheVariants.{Stop}
use Rattle.css_text.specs.Characters.{Edition}
use Rattle.css_text.specs.Comments.{blank_part, gap}
use Rattle.simplecss_grammar.specs.Components.{Subselector, Combinator, Compound, Component}
use Rattle.simplecss_grammar.specs.Components.Subselector.{attribute, pseudo_class}
use Rattle.simplecss_grammar.specs.Components.Combinator.{none, descendant, child, adjacent}
use Rattle.simplecss_grammar.specs.Tokens.{Token}
use Rattle.simplecss_grammar.specs.Tokens.Token.{child_combinator, adjacent_combinator}
use Rattle.simplecss_grammar.specs.Pieces.{IsSimplePiece, next_kind, solid}
use Rattle.simplecss_grammar.specs.Neighbours.{Side, between, side_after}
use Rattle.simplecss_grammar.specs.Neighbours.Side.{open_side, closed_side}
use Rattle.simplecss_grammar.specs.TokenSequences.{TokenSequence, sequence_from, sequence_of, answered, token_then}
use Rattle.simplecss_grammar.specs.Selectors.{Part, Role, with_role, after_role, outcome, cut, type_among, subselectors_among, component_of, components_of, selector_of, reads}
use Rattle.simplecss_grammar.specs.Selectors.Part.{with}
use Rattle.simplecss_grammar.specs.Selectors.Role.{part, joined_by}
use Rattle.simplecss_grammar.specs.Selectors.Outcome.{accepted}
use Rattle.simplecss_grammar.specs.Printing.{subselector_text, type_text, component_text, selector_text, is_clean_subselector, is_clean}
use Rattle.css_text.proofs.reading.EachLemmas.{each-none}
use Rattle.simplecss_grammar.proofs.reading.SequenceSteps.{solid_sequence, sequence_from-solid, sequence_from-kind}
use Rattle.simplecss_grammar.proofs.round_trip.TokenKinds.{kind_of, sequence_from-token, descends-token}
use Rattle.simplecss_grammar.proofs.reading.PrintedNames.{ends_names, ends_names-byte, ends_names-nil}
use Rattle.simplecss_grammar.proofs.reading.PrintedPieces.{IsSubselector, printed_token, printed_token-role, subselector-reads}
use Rattle.css_text.proofs.bytes.GapLemmas.{NoGap, no_gap-byte, gap-none, gap-space}
use Rattle.simplecss_grammar.proofs.round_trip.PrintedHeads.{IsTypeName, head_token, head_part, head-reads, head-no_gap}

-- After a simple piece the text continues with these roles, and then this is left. No name
-- continues there.
pub record Goes (edition : Edition) (text : List ℕ) (roles : List Role) (left : List ℕ) : Type 0
  where
    pub ends : ends_names edition text ≡ false
    pub runs : outcome (sequence_from edition closed_side text) ≡ accepted roles left

-- no gap is before a subselector
pub subselector-no_gap : (s : Subselector) (tail : List ℕ) → NoGap (subselector_text s ++ tail)
subselector-no_gap (attribute n o) tail = no_gap-byte open_bracket _ refl refl
subselector-no_gap (pseudo_class class) tail = no_gap-byte colon _ refl refl

-- subselectors that were read
abbrev pub EachIs : Edition → List Subselector → Type 0
EachIs edition [] = Unit {0}
EachIs edition (s ∷ ss) = IsSubselector edition s × EachIs edition ss

-- after an open left side nothing is before a head
head-outcome : (o : Option (List ℕ)) (spaced : Bool) (start after : List ℕ)
    (rest : Side → TokenSequence)
    → outcome (answered (between open_side spaced (kind_of (head_token o)) start after) start
    (token_then (head_token o) after (rest (side_after (kind_of (head_token o))))))
    ≡ with_role (part (head_part o)) (outcome (rest closed_side))
head-outcome None spaced start after rest = refl
head-outcome (Some n) spaced start after rest = refl

-- a head is a simple piece
head-simple : (o : Option (List ℕ)) → IsSimplePiece (kind_of (head_token o))
head-simple None = tt
head-simple (Some n) = tt

-- what a compound satisfies that was read, where this text follows it, and its roles
pub record IsCompound (edition : Edition) (c : Compound) (following : List ℕ) : Type 0 where
  pub head : IsTypeName edition c.name (flat_map subselector_text c.subselectors ++ following)
  pub others : EachIs edition c.subselectors

-- what a compound says, and the roles of that
abbrev compound_parts : Compound → List Part
compound_parts c = head_part c.name ∷ map with c.subselectors

abbrev compound_roles : Compound → List Role
compound_roles c = map part (compound_parts c)

-- the roles of a component
abbrev component_roles : Component → List Role
component_roles c = joined_by c.combinator ∷ compound_roles c.compound

-- the printed text of a compound
abbrev pub compound_text : Compound → List ℕ
compound_text c = type_text c.name ++ flat_map subselector_text c.subselectors

-- the compound is clean
abbrev pub is_clean_compound : Compound → Bool
is_clean_compound c = list_all is_clean_subselector c.subselectors

-- a combinator between two components
abbrev pub Joins : Combinator → Type 0
Joins none = ⊥
Joins descendant = Unit {0}
Joins child = Unit {0}
Joins adjacent = Unit {0}

-- what a component satisfies that was read after another
pub record IsJoined (edition : Edition) (c : Component) (following : List ℕ) : Type 0 where
  pub joins : Joins c.combinator
  pub compound : IsCompound edition c.compound following

-- a printed compound, part by part
compound-assoc : (c : Compound) (tail : List ℕ)
    → compound_text c ++ tail ≡ type_text c.name ++
    (flat_map subselector_text c.subselectors ++ tail)
compound-assoc c tail = append_assoc (type_text c.name) (flat_map subselector_text c.subselectors)
    tail

-- the text of a component, by its combinator and its compound
abbrev pub joined_text : Combinator → List ℕ → List ℕ
joined_text none text = text
joined_text descendant text = space ∷ text
joined_text child text = space ∷ greater_than_sign ∷ space ∷ text
joined_text adjacent text = space ∷ plus_sign ∷ space ∷ text

-- a printed component, part by part
pub component-assoc : (c : Component) (tail : List ℕ)
    → component_text c ++ tail ≡ joined_text c.combinator (compound_text c.compound ++ tail)
component-assoc c tail = by c.combinator c.compound
  where
    by : (j : Combinator) (k : Compound) → component_text (record { combinator = j; compound = k })
        ++ tail ≡ joined_text j (compound_text k ++ tail)
    by none k = refl
    by descendant k = refl
    by child k = refl
    by adjacent k = refl

-- components after another, where this text follows the last
abbrev pub EachJoined : Edition → List Component → List ℕ → Type 0
EachJoined edition [] following = Unit {0}
EachJoined edition (c ∷ cs) following = IsJoined edition c (selector_text cs ++ following)
    × EachJoined edition cs following

-- the components of the roles

cut-parts : (parts : List Part) (roles : List Role)
    → cut (map part parts ++ roles) ≡ (parts ++ (cut roles).0, (cut roles).1)
cut-parts [] roles = refl
cut-parts (x ∷ parts) roles = ap (λ (r : List Part × List (Combinator × List Part)). (x ∷ r.0, r.1))
    (cut-parts parts roles)

-- a component as it is cut out of the roles
abbrev cut_component : Component → Combinator × List Part
cut_component c = (c.combinator, compound_parts c.compound)

cut-components : (cs : List Component) → cut (flat_map component_roles cs)
    ≡ ([], map cut_component cs)
cut-components [] = refl
cut-components (c ∷ cs) =
    let more = cut-components cs in
    let here : cut (compound_roles c.compound ++ flat_map component_roles cs)
    ≡ (compound_parts c.compound, map cut_component cs) =
    cut-parts (compound_parts c.compound) (flat_map component_roles cs)
    ∙ ap (λ (r : List Part × List (Combinator × List Part)). (
      compound_parts c.compound ++ r.0,
      r.1,
    )) more
    ∙ ap (λ (l : List Part). (l, map cut_component cs)) (append-nil (compound_parts c.compound)) in
    ap (λ (r : List Part × List (Combinator × List Part)). ([], (c.combinator, r.0) ∷ r.1)) here

type-subselectors : (known : Option (List ℕ)) (ss : List Subselector)
    → type_among known (map with ss) ≡ known
type-subselectors known [] = refl
type-subselectors known (s ∷ ss) = type-subselectors known ss

among-subselectors : (ss : List Subselector) → subselectors_among (map with ss) ≡ ss
among-subselectors [] = refl
among-subselectors (s ∷ ss) = ap (λ l. s ∷ l) (among-subselectors ss)

component_of-cut : (j : Combinator) (c : Compound)
    → component_of (j, compound_parts c) ≡ record { combinator = j; compound = c }
component_of-cut j c = by c.name c.subselectors
  where
    by : (o : Option (List ℕ)) (ss : List Subselector)
        → component_of (j, head_part o ∷ map with ss)
        ≡ record { combinator = j; compound = record { name = o; subselectors = ss } }
    by None ss = let t = type-subselectors None ss in let s = among-subselectors ss in rw (t, s)
        refl
    by (Some n) ss = let t = type-subselectors (Some n) ss in let s = among-subselectors ss in
        rw (t, s) refl

components_of-cut : (cs : List Component) → map component_of (map cut_component cs) ≡ cs
components_of-cut [] = refl
components_of-cut (c ∷ cs) = ap (λ k. k ∷ map component_of (map cut_component cs))
    (component_of-cut c.combinator c.compound) ∙ ap (λ l. c ∷ l) (components_of-cut cs)

-- the components of a selector's roles are the selector
components_of-roles : (c : Compound) (cs : List Component)
    → components_of (compound_roles c ++ flat_map component_roles cs)
    ≡ record { combinator = none; compound = c } ∷ cs
components_of-roles c cs =
    let parts : cut (compound_roles c ++ flat_map component_roles cs)
    ≡ (compound_parts c, map cut_component cs) =
    cut-parts (compound_parts c) (flat_map component_roles cs)
    ∙ ap (λ (r : List Part × List (Combinator × List Part)). (compound_parts c ++ r.0, r.1))
    (cut-components cs)
    ∙ ap (λ (l : List Part). (l, map cut_component cs)) (append-nil (compound_parts c)) in
    ap (λ (r : List Part × List (Combinator × List Part)). component_of (none, r.0) ∷ map
    component_of r.1) parts
    ∙ ap (λ k. k ∷ map component_of (map cut_component cs)) (component_of-cut none c)
    ∙ ap (λ l. record { combinator = none; compound = c } ∷ l) (components_of-cut cs)

-- what a selector satisfies that was read, where this text follows it
abbrev pub IsSelector : Edition → List Component → List ℕ → Type 0
IsSelector edition [] following = ⊥
IsSelector edition (c ∷ cs) following = (c.combinator ≡ none)
    × IsCompound edition c.compound (selector_text cs ++ following)
    × EachJoined edition cs following

nil-no_gap : NoGap []
nil-no_gap = record { none = each-none blank_part [] refl; closed = refl }

module _ (edition : Edition) where
  -- no name continues with a subselector
  pub subselector-ends : (s : Subselector) (tail : List ℕ)
      → ends_names edition (subselector_text s ++ tail) ≡ false
  subselector-ends (attribute n o) tail =
      ends_names-byte edition open_bracket _ (omega arith) refl refl
  subselector-ends (pseudo_class class) tail =
      ends_names-byte edition colon _ (omega arith) refl refl

  subselector-goes_on : (s : Subselector) (token : Token) (tail : List ℕ)
      → solid_sequence edition closed_side false (next_kind (subselector_text s ++ tail))
      (subselector_text s ++ tail) (got token tail)
      ≡ token_then token tail (sequence_from edition closed_side tail)
  unfolding next_kind
  subselector-goes_on (attribute n o) token tail = refl
  subselector-goes_on (pseudo_class class) token tail = refl

  -- after a simple piece a printed subselector is its token
  pub subselector-sequence : (s : Subselector) (tail : List ℕ) → IsSubselector edition s
      → is_clean_subselector s ≡ true → ends_names edition tail ≡ false
      → sequence_from edition closed_side (subselector_text s ++ tail)
      ≡ token_then (printed_token s) tail (sequence_from edition closed_side tail)
  subselector-sequence s tail w c e =
      let text = subselector_text s ++ tail in
      sequence_from-solid edition closed_side text text false (got (printed_token s) tail)
      (gap-none text (subselector-no_gap s tail)) (subselector-reads edition s tail w c e)
      ∙ subselector-goes_on s (printed_token s) tail

  -- and continues as what follows it
  subselector-goes : (s : Subselector) (tail left : List ℕ) (roles : List Role)
      → IsSubselector edition s → is_clean_subselector s ≡ true → Goes edition tail roles left
      → Goes edition (subselector_text s ++ tail) (part (with s) ∷ roles) left
  subselector-goes s tail left roles w c g = record {
    ends = subselector-ends s tail;
    runs = ap outcome (subselector-sequence s tail w c g.ends)
        ∙ ap (λ r. after_role r tail (outcome (sequence_from edition closed_side tail)))
        (printed_token-role s)
        ∙ ap (with_role (part (with s))) g.runs;
  }

  -- printed subselectors, one after another
  subselectors-go : (ss : List Subselector) (tail left : List ℕ) (roles : List Role)
      → EachIs edition ss → list_all is_clean_subselector ss ≡ true → Goes edition tail roles left
      → Goes edition (flat_map subselector_text ss ++ tail) (map part (map with ss) ++ roles) left
  subselectors-go [] tail left roles w c g = g
  subselectors-go (s ∷ ss) tail left roles w c g =
      let h = and_parts (is_clean_subselector s) (list_all is_clean_subselector ss) c in
      let more = subselectors-go ss tail left roles w.1 h.1 g in
      subst (λ (t : List ℕ). Goes edition t (part (with s) ∷ (map part
      (map with ss) ++ roles)) left) (sym (append_assoc (subselector_text s)
      (flat_map subselector_text ss) tail))
      (subselector-goes s (flat_map subselector_text ss ++ tail) left (map part
      (map with ss) ++ roles) w.0 h.0 more)

  -- no name continues with subselectors
  pub subselectors-end : (ss : List Subselector) (tail : List ℕ) → ends_names edition tail ≡ false
      → ends_names edition (flat_map subselector_text ss ++ tail) ≡ false
  subselectors-end [] tail e = e
  subselectors-end (s ∷ ss) tail e =
      ap (ends_names edition) (append_assoc (subselector_text s) (flat_map subselector_text ss)
      tail)
      ∙ subselector-ends s (flat_map subselector_text ss ++ tail)

  -- no gap is before a printed compound
  pub compound-no_gap : (c : Compound) (tail : List ℕ) → IsCompound edition c tail
      → NoGap (compound_text c ++ tail)
  compound-no_gap c tail w = subst NoGap (sym (compound-assoc c tail)) (head-no_gap edition c.name
      (flat_map subselector_text c.subselectors ++ tail) w.head)

  -- after an open left side and a gap: the head of a compound, and then its subselectors
  pub compound-outcome : (c : Compound) (text tail : List ℕ) (spaced : Bool)
      → IsCompound edition c tail → gap text ≡ got spaced (compound_text c ++ tail)
      → ends_names edition tail ≡ false → outcome (sequence_from edition open_side text)
      ≡ with_role (part (head_part c.name))
      (outcome (sequence_from edition closed_side
      (flat_map subselector_text c.subselectors ++ tail)))
  compound-outcome c text tail spaced w gapped e =
      let following = flat_map subselector_text c.subselectors ++ tail in
      let start = type_text c.name ++ following in
      ap outcome (sequence_from-token edition open_side text start following spaced
      (head_token c.name)
      (gapped ∙ ap (got spaced) (compound-assoc c tail))
      (head-reads edition c.name following w.head (subselectors-end c.subselectors tail e)))
      ∙ head-outcome c.name spaced start following (λ l. sequence_from edition l following)

  solid-child : (text : List ℕ)
      → solid edition (greater_than_sign ∷ text) ≡ got child_combinator text
  unfolding solid next_kind
  solid-child text = refl

  solid-adjacent : (text : List ℕ) → solid edition (plus_sign ∷ text) ≡ got adjacent_combinator text
  unfolding solid next_kind
  solid-adjacent text = refl

  -- a child combinator between spaces
  child-sequence : (text : List ℕ)
      → sequence_from edition closed_side (space ∷ greater_than_sign ∷ text)
      ≡ token_then child_combinator text (sequence_from edition open_side text)
  child-sequence text = sequence_from-token edition closed_side (space ∷ greater_than_sign ∷ text)
      (greater_than_sign ∷ text) text true child_combinator
      (gap-space (greater_than_sign ∷ text) (no_gap-byte greater_than_sign text refl refl))
      (solid-child text)

  -- an adjacent combinator between spaces
  adjacent-sequence : (text : List ℕ) → sequence_from edition closed_side (space ∷ plus_sign ∷ text)
      ≡ token_then adjacent_combinator text (sequence_from edition open_side text)
  adjacent-sequence text = sequence_from-token edition closed_side (space ∷ plus_sign ∷ text)
      (plus_sign ∷ text) text true adjacent_combinator (gap-space (plus_sign ∷ text)
      (no_gap-byte plus_sign text refl refl)) (solid-adjacent text)

  -- after a simple piece: a combinator, and then a compound
  pub joined-outcome : (j : Combinator) (c : Compound) (tail : List ℕ) → Joins j
      → IsCompound edition c tail → ends_names edition tail ≡ false
      → outcome (sequence_from edition closed_side (joined_text j (compound_text c ++ tail)))
      ≡ with_role (joined_by j) (with_role (part (head_part c.name))
      (outcome (sequence_from edition closed_side
      (flat_map subselector_text c.subselectors ++ tail))))
  joined-outcome none c tail n w e = absurd n
  joined-outcome descendant c tail n w e =
      let text = compound_text c ++ tail in
      let following = flat_map subselector_text c.subselectors ++ tail in
      let calm = compound-no_gap c tail w in
      ap outcome (descends-token edition (space ∷ text) text following (head_token c.name)
      (gap-space text calm) (ap (solid edition) (compound-assoc c tail)
      ∙ head-reads edition c.name following w.head (subselectors-end c.subselectors tail e))
      (head-simple c.name))
      ∙ ap (with_role (joined_by descendant))
      (compound-outcome c text tail false w (gap-none text calm) e)
  joined-outcome child c tail n w e =
      let text = compound_text c ++ tail in
      ap outcome (child-sequence (space ∷ text)) ∙ ap (with_role (joined_by child))
      (compound-outcome c (space ∷ text) tail true w (gap-space text (compound-no_gap c tail w)) e)
  joined-outcome adjacent c tail n w e =
      let text = compound_text c ++ tail in
      ap outcome (adjacent-sequence (space ∷ text)) ∙ ap (with_role (joined_by adjacent))
      (compound-outcome c (space ∷ text) tail true w (gap-space text (compound-no_gap c tail w)) e)

  -- no name continues with a combinator
  pub joined-ends : (j : Combinator) (text : List ℕ) → Joins j
      → ends_names edition (joined_text j text) ≡ false
  joined-ends none text n = absurd n
  joined-ends descendant text n = ends_names-byte edition space _ (omega arith) refl refl
  joined-ends child text n = ends_names-byte edition space _ (omega arith) refl refl
  joined-ends adjacent text n = ends_names-byte edition space _ (omega arith) refl refl

  -- a printed component after a simple piece
  component-goes : (c : Component) (tail left : List ℕ) (roles : List Role)
      → IsJoined edition c tail → is_clean_compound c.compound ≡ true → Goes edition tail roles left
      → Goes edition (component_text c ++ tail) (component_roles c ++ roles) left
  component-goes c tail left roles w clean g =
      let ss = subselectors-go c.compound.subselectors tail left roles w.compound.others clean g in
      subst (λ (t : List ℕ). Goes edition t (component_roles c ++ roles) left)
      (sym (component-assoc c tail))
      (record {
        ends = joined-ends c.combinator (compound_text c.compound ++ tail) w.joins;
        runs = joined-outcome c.combinator c.compound tail w.joins w.compound g.ends
            ∙ ap (λ o. with_role (joined_by c.combinator) (with_role
            (part (head_part c.compound.name)) o)) ss.runs;
      })

  -- printed components, one after another
  components-go : (cs : List Component) (tail left : List ℕ) (roles : List Role)
      → EachJoined edition cs tail → is_clean cs ≡ true → Goes edition tail roles left
      → Goes edition (selector_text cs ++ tail) (flat_map component_roles cs ++ roles) left
  components-go [] tail left roles w clean g = g
  components-go (c ∷ cs) tail left roles w clean g =
      let h = and_parts (is_clean_compound c.compound) (is_clean cs) clean in
      let more = components-go cs tail left roles w.1 h.1 g in
      let here = component-goes c (selector_text cs ++ tail) left
      (flat_map component_roles cs ++ roles) w.0 h.0 more in
      let text = append_assoc (component_text c) (selector_text cs) tail in
      let roles_are = append_assoc (component_roles c) (flat_map component_roles cs) roles in
      subst (λ (t : List ℕ). Goes edition t ((component_roles c ++ flat_map component_roles cs) ++
      roles) left) (sym text)
      (subst (λ (r : List Role). Goes edition (component_text c ++
      (selector_text cs ++ tail)) r left) (sym roles_are) here)

  -- a printed selector from its compound on
  selector-reads : (c : Compound) (cs : List Component) (tail left : List ℕ)
      → IsCompound edition c (selector_text cs ++ tail) → EachJoined edition cs tail
      → is_clean (record { combinator = none; compound = c } ∷ cs) ≡ true
      → Goes edition tail [] left → reads edition
      (selector_text (record { combinator = none; compound = c } ∷ cs) ++ tail)
      ≡ (Some (record { combinator = none; compound = c } ∷ cs), left)
  unfolding reads
  selector-reads c cs tail left w ws clean g =
      let h = and_parts (is_clean_compound c) (is_clean cs) clean in
      let more = components-go cs tail left [] ws h.1 g in
      let none_more : Goes edition (selector_text cs ++ tail)
      (flat_map component_roles cs) left = subst (λ (r : List Role). Goes edition
      (selector_text cs ++ tail) r left) (append-nil (flat_map component_roles cs)) more in
      let text = append_assoc (compound_text c) (selector_text cs) tail in
      let following = selector_text cs ++ tail in
      let all = compound_text c ++ following in
      let ss = subselectors-go c.subselectors following left (flat_map component_roles cs) w.others
      h.0
      none_more in
      ap (λ t. selector_of (outcome (sequence_of edition t))) text
      ∙ ap selector_of (compound-outcome c all following false w
      (gap-none all (compound-no_gap c following w)) more.ends
      ∙ ap (with_role (part (head_part c.name))) ss.runs)
      ∙ ap (λ l. (Some l, left)) (components_of-roles c cs)

  -- A clean selector prints as a text that reads back as it, and leaves what does not continue it.
  pub printed-reads : (s : List Component) (tail left : List ℕ) → IsSelector edition s tail
      → is_clean s ≡ true → Goes edition tail [] left
      → reads edition (selector_text s ++ tail) ≡ (Some s, left)
  printed-reads [] tail left w clean g = absurd w
  printed-reads (c ∷ cs) tail left w clean g =
      subst (λ (k : Component). is_clean (k ∷ cs) ≡ true → reads edition (selector_text
      (k ∷ cs) ++ tail) ≡ (Some (k ∷ cs), left)) (ap (λ (j : Combinator). record {
        combinator =
            j;
        compound = c.compound;
      }) (sym w.0))
      (λ h. selector-reads c.compound cs tail left w.1 w.2 h g) clean

  -- what does not continue a selector: the end, and a space before a brace

  stop-outcome : (text start : List ℕ) (spaced : Bool) → gap text ≡ got spaced start
      → next_kind start ≡ Stop → outcome (sequence_from edition closed_side text)
      ≡ accepted [] start
  stop-outcome text start spaced g e = ap outcome (sequence_from-kind edition closed_side text start
      spaced Stop (fails no_selector start) g e refl)

  -- the end of the text
  pub goes-end : Goes edition [] [] []
  unfolding next_kind
  goes-end = record {
    ends = ends_names-nil edition;
    runs = stop-outcome [] [] false
        (gap-none [] nil-no_gap) refl;
  }

  -- a space and an opening brace
  pub goes-space_brace : (text : List ℕ)
      → Goes edition (space ∷ open_brace ∷ text) [] (open_brace ∷ text)
  unfolding next_kind
  goes-space_brace text = record {
    ends = ends_names-byte edition space (open_brace ∷ text) (omega arith) refl refl;
    runs = stop-outcome (space ∷ open_brace ∷ text) (open_brace ∷ text) true
        (gap-space (open_brace ∷ text)
        (no_gap-byte open_brace text refl refl)) refl;
  }
