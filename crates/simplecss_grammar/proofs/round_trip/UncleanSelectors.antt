-- A selector that is not clean does not read back.
-- Serves `Selector::{parse, parse_front}` and `StyleSheet::parse` (a selector printed and read
-- again).
use Rattle.std.proofs.Common.{◌≡◌, ℕ, ◌⊎◌, inl, inr, List, [], ◌∷◌, ◌++◌, Bool, true, false, ◌&&◌, map, length, length-append, refl, sym, ap, ◌∙◌, subst, append_assoc, arith, Option, Some, None}
use Rattle.std.proofs.lemmas.Bool.{and_cases}
use Rattle.std.specs.List.{list_all, flat_map}
use Rattle.css_text.specs.AsciiBytes.{close_bracket, equals_sign, open_bracket, single_quote}
use Rattle.css_text.specs.Reading.{Reading, got, fails, follow}
use Rattle.css_text.specs.Bytes.{byte}
use Rattle.simplecss_grammar.specs.declared.next_kind.NextKind.TheVariants.{Attribute}
use Rattle.css_text.specs.Characters.{Edition}
use Rattle.css_text.specs.Comments.{gap}
use Rattle.css_text.specs.Strings.{string_or_name}
use Rattle.simplecss_grammar.specs.Components.{Operator, Subselector, Combinator, Component}
use Rattle.simplecss_grammar.specs.Components.Operator.{exists, equals, has_word, begins_with}
use Rattle.simplecss_grammar.specs.Components.Subselector.{attribute, pseudo_class}
use Rattle.simplecss_grammar.specs.Tokens.{Token}
use Rattle.simplecss_grammar.specs.Tokens.Token.{attribute_selector}
use Rattle.simplecss_grammar.specs.Pieces.{attribute_operator, equated, attribute_after, next_kind, solid}
use Rattle.simplecss_grammar.specs.Neighbours.Side.{closed_side}
use Rattle.simplecss_grammar.specs.TokenSequences.{sequence_from, sequence_of}
use Rattle.simplecss_grammar.specs.Selectors.{Outcome, with_role, after_role, outcome, cut, subselectors_among, component_of, selector_of, reads}
use Rattle.simplecss_grammar.specs.Selectors.Part.{with}
use Rattle.simplecss_grammar.specs.Selectors.Role.{part, joined_by}
use Rattle.simplecss_grammar.specs.Selectors.Outcome.{refused, accepted}
use Rattle.simplecss_grammar.specs.Printing.{operator_text, subselector_text, component_text, selector_text, is_clean_operator, is_clean_subselector, is_clean}
use Rattle.simplecss_grammar.proofs.reading.SequenceSteps.{solid_sequence, sequence_from-solid}
use Rattle.simplecss_grammar.proofs.reading.PrintedNames.{IsName, name-reads, ends_names}
use Rattle.simplecss_grammar.proofs.reading.PrintedPieces.{string-cut, quoted, operator-ends, bracketed, solid-attribute, IsSubselector, printed_token-role}
use Rattle.css_text.proofs.bytes.GapLemmas.{gap-none}
use Rattle.simplecss_grammar.proofs.round_trip.PrintedHeads.{head_part}
use Rattle.simplecss_grammar.proofs.round_trip.PrintedSelectors.{subselector-no_gap, subselector-sequence, EachIs, compound-no_gap, compound-outcome, joined-ends, joined-outcome, subselectors-end, compound_text, is_clean_compound, joined_text, component-assoc, EachJoined, IsSelector}

longer : (v front more : List ℕ) → v ≡ front ++ (single_quote ∷ more) → front ≡ v → ⊥
longer v front more e same = omega (
  arith,
  ap length e,
  ap length same,
  length-append front
      (single_quote ∷ more),
)

value_of : Operator → List ℕ
value_of exists = []
value_of (equals v) = v
value_of (has_word v) = v
value_of (begins_with v) = v

-- an operator that is not clean reads as another one
record OtherOperator (edition : Edition) (o : Operator) (tail : List ℕ) : Type 0 where
  pub other : Operator
  pub rest : List ℕ
  pub differs : other ≡ o → ⊥
  pub reads : attribute_operator edition (operator_text o ++ (close_bracket ∷ tail))
      ≡ got other rest

-- The outcome after a simple piece has other subselectors or other components than these, or
-- none.
abbrev Differs : Outcome → List Subselector → List Component → Type 0
Differs (refused left) ss cs = Unit {0}
Differs (accepted roles left) ss cs = subselectors_among (cut roles).0 ≡ ss
    → map component_of (cut roles).1 ≡ cs → ⊥

head_of : Subselector → List Subselector → Subselector
head_of s [] = s
head_of s (t ∷ ts) = t

tail_of : {A : Type 0} → List A → List A
tail_of [] = []
tail_of (t ∷ ts) = ts

differs-other : (o : Outcome) (s t : Subselector) (ss : List Subselector) (cs : List Component)
    → (s ≡ t → ⊥) → Differs (with_role (part (with s)) o) (t ∷ ss) cs
unfolding head_of
differs-other (refused left) s t ss cs h = tt
differs-other (accepted roles left) s t ss cs h = λ e f. h (ap (head_of s) e)

differs-with : (o : Outcome) (s : Subselector) (ss : List Subselector) (cs : List Component)
    → Differs o ss cs → Differs (with_role (part (with s)) o) (s ∷ ss) cs
unfolding tail_of
differs-with (refused left) s ss cs h = tt
differs-with (accepted roles left) s ss cs h = λ e f. h (ap tail_of e) f

first_subselectors : List Subselector → List Component → List Subselector
first_subselectors none_there [] = none_there
first_subselectors none_there (c ∷ cs) = c.compound.subselectors

differs-joined_by : (o : Outcome) (j : Combinator) (name : Option (List ℕ)) (ss : List Subselector)
    (c : Component) (cs : List Component) → Differs o c.compound.subselectors cs
    → Differs (with_role (joined_by j) (with_role (part (head_part name)) o)) ss (c ∷ cs)
unfolding tail_of first_subselectors
differs-joined_by (refused left) j None ss c cs h = tt
differs-joined_by (refused left) j (Some n) ss c cs h = tt
differs-joined_by (accepted roles left) j None ss c cs h = λ e f. h (ap (first_subselectors []) f)
    (ap tail_of f)
differs-joined_by (accepted roles left) j (Some n) ss c cs h =
    λ e f. h (ap (first_subselectors []) f)
    (ap tail_of f)

attribute-kind : (text more : List ℕ) → text ≡ open_bracket ∷ more → next_kind text ≡ Attribute
unfolding next_kind
attribute-kind text more is = ap next_kind is

components-assoc : (c : Component) (cs : List Component) (tail : List ℕ)
    → selector_text (c ∷ cs) ++ tail ≡ joined_text c.combinator
    (compound_text c.compound ++ (selector_text cs ++ tail))
components-assoc c cs tail = append_assoc (component_text c) (selector_text cs) tail
    ∙ component-assoc c (selector_text cs ++ tail)

or_later : {A B C : Type 0} → (B → C) → A ⊎ B → A ⊎ C
or_later f (inl a) = inl a
or_later f (inr b) = inr (f b)

-- the list of a selector that was found
found_list : Option (List Component) → List Component
found_list None = []
found_list (Some cs) = cs

differs-selector : (o : Outcome) (name : Option (List ℕ)) (c : Component) (cs : List Component)
    → Differs o c.compound.subselectors cs
    → (selector_of (with_role (part (head_part name)) o)).0 ≡ Some (c ∷ cs) → ⊥
unfolding found_list first_subselectors tail_of
differs-selector (refused left) None c cs d e = absurd (cc)
differs-selector (refused left) (Some n) c cs d e = absurd (cc)
differs-selector (accepted roles left) None c cs d e = d
    (ap (λ o. first_subselectors [] (found_list o)) e) (ap (λ o. tail_of (found_list o)) e)
differs-selector (accepted roles left) (Some n) c cs d e = d
    (ap (λ o. first_subselectors [] (found_list o)) e) (ap (λ o. tail_of (found_list o)) e)

module _ (edition : Edition) where
  equated-cut : (operator : List ℕ → Operator) (v front more tail : List ℕ)
      → string_or_name edition (single_quote ∷ (v ++ (single_quote ∷ close_bracket ∷ tail)))
      ≡ got front (more ++ (single_quote ∷ close_bracket ∷ tail))
      → equated edition operator
      (equals_sign ∷ (single_quote ∷ ((v ++ (single_quote ∷ [])) ++ (close_bracket ∷ tail))))
      ≡ got (operator front) (more ++ (single_quote ∷ close_bracket ∷ tail))
  equated-cut operator v front more tail e = rw (quoted v tail, e) refl

  -- one that is not clean is cut short
  operator-cut : (o : Operator) (tail : List ℕ) → is_clean_operator o ≡ false
      → OtherOperator edition o tail
  unfolding attribute_operator value_of
  operator-cut exists tail c = absurd (cc)
  operator-cut (equals v) tail c =
      let s = string-cut edition v (single_quote ∷ close_bracket ∷ tail) c in
      record {
        other = equals s.0;
        rest = s.1 ++ (single_quote ∷ close_bracket ∷ tail);
        differs = λ e. longer v s.0 s.1
            s.2 (ap value_of e);
        reads = equated-cut equals v s.0 s.1 tail s.3;
      }
  operator-cut (has_word v) tail c =
      let s = string-cut edition v (single_quote ∷ close_bracket ∷ tail) c in
      record {
        other = has_word s.0;
        rest = s.1 ++ (single_quote ∷ close_bracket ∷ tail);
        differs = λ e. longer v s.0 s.1
            s.2 (ap value_of e);
        reads = equated-cut has_word v s.0 s.1 tail s.3;
      }
  operator-cut (begins_with v) tail c =
      let s = string-cut edition v (single_quote ∷ close_bracket ∷ tail) c in
      record {
        other = begins_with s.0;
        rest = s.1 ++ (single_quote ∷ close_bracket ∷ tail);
        differs = λ e. longer v s.0
            s.1 s.2 (ap value_of e);
        reads = equated-cut begins_with v s.0 s.1 tail s.3;
      }

  attribute-cut : (n : List ℕ) (o : Operator) (tail : List ℕ) → IsName edition n
      → (x : OtherOperator edition o tail)
      → attribute_after edition (n ++ (operator_text o ++ (close_bracket ∷ tail)))
      ≡ follow (byte close_bracket x.rest) (λ u. got (attribute_selector n x.other))
  unfolding attribute_after
  attribute-cut n o tail w x =
      let first = name-reads edition n (operator_text o ++ (close_bracket ∷ tail)) w
      (operator-ends edition o tail) in
      let second = x.reads in
      rw (first, second) refl

  -- an attribute that is not clean
  other-sequence : (n : List ℕ) (p o : Operator) (rest text more : List ℕ) (ss : List Subselector)
      (cs : List Component) → (p ≡ o → ⊥) → text ≡ open_bracket ∷ more → gap text ≡ got false text
      → solid edition text ≡ follow (byte close_bracket rest) (λ u. got (attribute_selector n p))
      → Differs (outcome (sequence_from edition closed_side text)) (attribute n o ∷ ss) cs
  other-sequence n p o rest text more ss cs differs is g s = by (byte close_bracket rest) s
    where
      operator_in : Subselector → Operator
      operator_in (attribute m q) = q
      operator_in (pseudo_class class) = o

      runs : (r : Reading Token) → solid edition text ≡ r → outcome
          (sequence_from edition closed_side text) ≡ outcome (solid_sequence edition closed_side
          false Attribute text r)
      runs r e = ap outcome (sequence_from-solid edition closed_side text text false r g e ∙ ap
          (λ k. solid_sequence edition closed_side false k text r) (attribute-kind text more is))

      by : (r : Reading (Unit {0})) → solid edition text ≡ follow r (λ u. got
          (attribute_selector n p)) → Differs (outcome (sequence_from edition closed_side text))
          (attribute n o ∷ ss) cs
      by (got u after) e =
          subst (λ (k : Outcome). Differs k (attribute n o ∷ ss) cs) (sym (runs (got
          (attribute_selector n p) after) e))
          (differs-other (outcome (sequence_from edition closed_side after)) (attribute n p)
          (attribute n o) ss cs (λ same. differs (ap operator_in same)))
      by (fails fault after) e = subst (λ (k : Outcome). Differs k (attribute n o ∷ ss) cs) (sym
          (runs (fails fault after) e)) tt

  unclean-differs : (s : Subselector) (ss : List Subselector) (tail : List ℕ) (cs : List Component)
      → IsSubselector edition s → is_clean_subselector s ≡ false
      → Differs (outcome (sequence_from edition closed_side (subselector_text s ++ tail))) (s ∷ ss)
      cs
  unclean-differs (attribute n o) ss tail cs w c =
      let x = operator-cut o tail c in
      let more = ((n ++ operator_text o) ++ (close_bracket ∷ [])) ++ tail in
      other-sequence n x.other o x.rest (subselector_text (attribute n o) ++ tail) more ss cs
      x.differs refl (gap-none (subselector_text (attribute n o) ++ tail) (subselector-no_gap
      (attribute n o) tail))
      (solid-attribute edition more ∙ ap (attribute_after edition) (bracketed n
      (operator_text o) tail) ∙ attribute-cut n o tail w.0 x)
  unclean-differs (pseudo_class class) ss tail cs w c = absurd (cc)

  clean-differs : (s : Subselector) (ss : List Subselector) (tail : List ℕ) (cs : List Component)
      → IsSubselector edition s → is_clean_subselector s ≡ true → ends_names edition tail ≡ false
      → Differs (outcome (sequence_from edition closed_side tail)) ss cs
      → Differs (outcome (sequence_from edition closed_side (subselector_text s ++ tail))) (s ∷ ss)
      cs
  clean-differs s ss tail cs w c e d =
      let o = outcome (sequence_from edition closed_side tail) in
      let is = ap outcome (subselector-sequence edition s tail w c e) ∙ ap (λ r. after_role r tail
      (outcome (sequence_from edition closed_side tail))) (printed_token-role s) in
      subst (λ (k : Outcome). Differs k (s ∷ ss) cs) (sym is) (differs-with o s ss cs d)

  subselectors-differ : (ss : List Subselector) (tail : List ℕ) (cs : List Component)
      → EachIs edition ss → ends_names edition tail ≡ false
      → (list_all is_clean_subselector ss ≡ false)
      ⊎ Differs (outcome (sequence_from edition closed_side tail)) [] cs
      → Differs (outcome (sequence_from edition closed_side (flat_map subselector_text ss ++ tail)))
      ss cs
  subselectors-differ [] tail cs w e (inl h) = absurd (cc)
  subselectors-differ [] tail cs w e (inr d) = d
  subselectors-differ (s ∷ ss) tail cs w e h =
      subst (λ (t : List ℕ). Differs (outcome (sequence_from edition closed_side t)) (s ∷ ss) cs)
      (sym (append_assoc (subselector_text s) (flat_map subselector_text ss) tail))
      (by (is_clean_subselector s) refl h (λ k. subselectors-differ ss tail cs w.1 e k))
    where
      by : (t : Bool) → is_clean_subselector s ≡ t → (t && list_all is_clean_subselector ss ≡ false)
          ⊎ Differs (outcome (sequence_from edition closed_side tail)) [] cs
          → ((list_all is_clean_subselector ss ≡ false) ⊎ Differs (outcome
          (sequence_from edition closed_side tail)) [] cs → Differs (outcome
          (sequence_from edition closed_side (flat_map subselector_text ss ++ tail))) ss cs)
          → Differs (outcome (sequence_from edition closed_side (subselector_text s ++
          (flat_map subselector_text ss ++ tail)))) (s ∷ ss) cs
      by false c k more = unclean-differs s ss (flat_map subselector_text ss ++ tail) cs w.0 c
      by true c k more = clean-differs s ss (flat_map subselector_text ss ++ tail) cs w.0 c
          (subselectors-end edition ss tail e) (more k)

  components-end : (cs : List Component) (tail : List ℕ) → EachJoined edition cs tail
      → ends_names edition tail ≡ false → ends_names edition (selector_text cs ++ tail) ≡ false
  components-end [] tail w e = e
  components-end (c ∷ cs) tail w e = ap (ends_names edition) (components-assoc c cs tail)
      ∙ joined-ends edition c.combinator (compound_text c.compound ++ (selector_text cs ++ tail))
      w.0.joins

  components-differ : (cs : List Component) (tail : List ℕ) → EachJoined edition cs tail
      → ends_names edition tail ≡ false → is_clean cs ≡ false
      → Differs (outcome (sequence_from edition closed_side (selector_text cs ++ tail))) [] cs
  components-differ [] tail w e h = absurd (cc)
  components-differ (c ∷ cs) tail w e h =
      let following = selector_text cs ++ tail in
      let ends = components-end cs tail w.1 e in
      let o = outcome (sequence_from edition closed_side (flat_map subselector_text
      c.compound.subselectors ++ following)) in
      let inner = subselectors-differ c.compound.subselectors following cs w.0.compound.others ends
      (or_later (components-differ cs tail w.1 e) (and_cases (is_clean_compound c.compound)
      (is_clean cs) h)) in
      let is = ap (λ t. outcome (sequence_from edition closed_side t)) (components-assoc c cs tail)
      ∙ joined-outcome edition c.combinator c.compound following w.0.joins w.0.compound ends in
      subst (λ (k : Outcome). Differs k [] (c ∷ cs)) (sym is)
      (differs-joined_by o c.combinator c.compound.name [] c cs inner)

  -- A selector that is not clean prints as a text that does not read back as it.
  pub printed-differs : (s : List Component) (tail : List ℕ) → IsSelector edition s tail
      → is_clean s ≡ false → ends_names edition tail ≡ false
      → (reads edition (selector_text s ++ tail)).0 ≡ Some s → ⊥
  unfolding reads
  printed-differs [] tail w h e = absurd w
  printed-differs (c ∷ cs) tail w h e =
      let following = selector_text cs ++ tail in
      let ends = components-end cs tail w.2 e in
      let o = outcome (sequence_from edition closed_side (flat_map subselector_text
      c.compound.subselectors ++ following)) in
      let inner = subselectors-differ c.compound.subselectors following cs w.1.others ends (or_later
      (components-differ cs tail w.2 e) (and_cases (is_clean_compound c.compound)
      (is_clean cs) h)) in
      let first : selector_text (c ∷ cs) ++ tail ≡ compound_text c.compound ++ following =
      components-assoc c cs tail ∙ ap (λ j. joined_text j
      (compound_text c.compound ++ following)) w.0 in
      let text = compound_text c.compound ++ following in
      let is : outcome (sequence_of edition (selector_text (c ∷ cs) ++ tail)) ≡ with_role (part
      (head_part c.compound.name)) o =
      ap (λ t. outcome (sequence_of edition t)) first
      ∙ compound-outcome edition c.compound text following false w.1
      (gap-none text (compound-no_gap edition c.compound following w.1)) ends in
      λ found. differs-selector o c.compound.name c cs inner (ap (λ k. (selector_of k).0) (sym is)
      ∙ found)
