-- What selector a sequence yields that is accepted.
-- Serves `Selector::{parse, parse_front}` and `StyleSheet::parse` (a selector printed and read
-- again).
use Rattle.std.proofs.Common.{◌≡◌, ℕ, zero, suc, ◌<◌, inl, inr, List, [], ◌∷◌, ◌++◌, Bool, true, false, if◌then◌else◌, map, length, codes, bytes_eq, arith, refl, sym, ap, ◌∙◌, subst, Option, Some, None, IsUtf8}
use Rattle.std.specs.Option.{option_map}
use lib.Utf8.{encode}
use Rattle.css_text.specs.AsciiBytes.{hyphen}
use Rattle.css_text.specs.Reading.{left_after, Reading, got, fails}
use Rattle.css_text.specs.Characters.{Edition}
use Rattle.css_text.specs.Comments.{gap}
use Rattle.simplecss_grammar.specs.Components.{KnownPseudoClass, Subselector, Combinator, Component}
use Rattle.simplecss_grammar.specs.Components.Operator.{equals, has_word}
use Rattle.simplecss_grammar.specs.Components.KnownPseudoClass.{first_child, link, visited, hover, active, focus, lang}
use Rattle.simplecss_grammar.specs.Components.Subselector.{attribute, pseudo_class}
use Rattle.simplecss_grammar.specs.Components.Combinator.{none, descendant, child, adjacent}
use Rattle.simplecss_grammar.specs.Tokens.{Token}
use Rattle.simplecss_grammar.specs.Tokens.Token.{universal_selector, type_selector, id_selector, class_selector, attribute_selector, named_pseudo_class, lang_pseudo_class, descendant_combinator, child_combinator, adjacent_combinator}
use Rattle.simplecss_grammar.specs.Pieces.{next_kind, solid, Ending, fault_ending}
use Rattle.simplecss_grammar.specs.Pieces.Ending.{at_stop, at_slash, without_head, within_piece, within_gap}
use Rattle.simplecss_grammar.specs.Neighbours.{Side, between, side_after}
use Rattle.simplecss_grammar.specs.Neighbours.Side.{open_side, closed_side}
use Rattle.simplecss_grammar.specs.TokenSequences.{TokenSequence, ending_sequence, sequence_from, answered, token_then}
use Rattle.simplecss_grammar.specs.Selectors.{Role, Outcome, known_pseudo_class, with_role, after_role, outcome, cut, type_among, subselectors_among, component_of}
use Rattle.simplecss_grammar.specs.Selectors.Part.{any_type, of_type, with}
use Rattle.simplecss_grammar.specs.Selectors.Role.{part, joined_by}
use Rattle.simplecss_grammar.specs.Selectors.Outcome.{refused, accepted}
use Rattle.simplecss_grammar.specs.Printing.{selector_text}
use Rattle.simplecss_grammar.proofs.reading.PiecesLawful.{solid-cuts, solid-lawful}
use Rattle.css_text.proofs.reading.TakesLemmas.{Keeps, Cuts}
use Rattle.simplecss_grammar.proofs.reading.SequenceSteps.{sequence_from-solid, sequence_from-open_gap}
use Rattle.simplecss_grammar.proofs.round_trip.TokenKinds.{kind_of, sequence_from-token}
use Rattle.simplecss_grammar.proofs.reading.PrintedNames.{IsName}
use Rattle.simplecss_grammar.proofs.reading.PrintedPieces.{IsClass, IsSubselector, word_name}
use Rattle.simplecss_grammar.proofs.round_trip.PrintedHeads.{IsTypeName}
use Rattle.simplecss_grammar.proofs.round_trip.PrintedSelectors.{EachIs, IsCompound, Joins, EachJoined, goes-end}
use Rattle.css_text.proofs.reading.GotLemmas.{got-holds}
use Rattle.simplecss_grammar.proofs.reading.Lawful.{lawful-text}
use Rattle.css_text.proofs.reading.EndsLemmas.{length-ends}
use Rattle.css_text.proofs.reading.WellLemmas.{well-gap}
use Rattle.simplecss_grammar.proofs.round_trip.ReadPieces.{GoodToken, solid-gives}

-- the components that follow the one that roles begin with
abbrev pub others_of : List Role → List Component
others_of roles = map component_of (cut roles).1

-- After a simple piece: further subselectors and no type, and then components after combinators.
pub record ContinuesCompound (edition : Edition) (roles : List Role) (left : List ℕ) : Type 0 where
  pub subselectors : EachIs edition (subselectors_among (cut roles).0)
  pub no_type : (known : Option (List ℕ)) → type_among known (cut roles).0 ≡ known
  pub others : EachJoined edition (others_of roles) left

-- At the start of a text, or after a combinator: a compound, and then components after
-- combinators.
pub record Begins (edition : Edition) (roles : List Role) (left : List ℕ) : Type 0 where
  pub compound : IsCompound edition (component_of (none, (cut roles).0)).compound
      (selector_text (others_of roles) ++ left)
  pub others : EachJoined edition (others_of roles) left

-- where an outcome is accepted, its roles are such
abbrev pub IfContinuesCompound : Edition → Outcome → Type 0
IfContinuesCompound edition (refused left) = Unit {0}
IfContinuesCompound edition (accepted roles left) = ContinuesCompound edition roles left

-- the same of what begins a selector
abbrev pub IfBegins : Edition → Outcome → Type 0
IfBegins edition (refused left) = Unit {0}
IfBegins edition (accepted roles left) = Begins edition roles left

-- a pseudo-class of a known name
abbrev IfClass : Option KnownPseudoClass → Type 0
IfClass None = Unit {0}
IfClass (Some class) = IsClass class

if_class-if : (t : Bool) (x y : Option KnownPseudoClass) → IfClass x → IfClass y
    → IfClass (if t then x else y)
if_class-if true x y a b = a
if_class-if false x y a b = b

known_pseudo_class-is : (n : List ℕ) → IfClass (known_pseudo_class n)
known_pseudo_class-is n =
    if_class-if (bytes_eq n (codes "first-child")) (Some first_child) _ tt
    (if_class-if (bytes_eq n (codes "link")) (Some link) _ tt
    (if_class-if (bytes_eq n (codes "visited")) (Some visited) _ tt
    (if_class-if (bytes_eq n (codes "hover")) (Some hover) _ tt
    (if_class-if (bytes_eq n (codes "active")) (Some active) _ tt
    (if_class-if (bytes_eq n (codes "focus")) (Some focus) None tt tt)))))

id_name : (edition : Edition) → IsName edition (codes "id")
unfolding encode
id_name = word_name refl refl refl refl refl refl

class_name : (edition : Edition) → IsName edition (codes "class")
unfolding encode
class_name = word_name refl refl refl refl refl refl

-- the role of a pseudo-class whose name may be known
abbrev class_role : Option KnownPseudoClass → Option Role
class_role known = option_map (λ class. part (with (pseudo_class class))) known

-- what the sequence is after a token, by the left side
abbrev Following : Edition → List ℕ → (Side → TokenSequence) → Type 0
Following edition after rest =
    IfContinuesCompound edition (outcome (rest closed_side))
    × IfBegins edition (outcome (rest open_side))
    × (after ≡ [] → outcome (rest closed_side) ≡ accepted [] [])

-- the outcome of a piece, and of the sequence after it
abbrev piece_outcome : Side → (spaced : Bool) → (start : List ℕ) → Token → (after : List ℕ)
    → (Side → TokenSequence) → Outcome
piece_outcome side spaced start token after rest =
    outcome (answered (between side spaced (kind_of token) start after) start
    (token_then token after (rest (side_after (kind_of token)))))

-- what the outcome is of a text after either left side
abbrev pub SequenceIs : Edition → List ℕ → Type 0
SequenceIs edition text =
    IfContinuesCompound edition (outcome (sequence_from edition closed_side text))
    × IfBegins edition
    (outcome (sequence_from edition open_side text))

module _ (edition : Edition) where
  -- a subselector more
  goes_on-with : (s : Subselector) (o : Outcome) → IsSubselector edition s
      → IfContinuesCompound edition o
      → IfContinuesCompound edition (with_role (part (with s)) o)
  goes_on-with s (refused left) w h = tt
  goes_on-with s (accepted roles left) w h =
      record { subselectors = (w, h.subselectors); no_type = h.no_type; others = h.others }

  -- a combinator and a compound more
  goes_on-joined_by : (j : Combinator) (o : Outcome) → Joins j → IfBegins edition o
      → IfContinuesCompound edition (with_role (joined_by j) o)
  goes_on-joined_by j (refused left) n h = tt
  goes_on-joined_by j (accepted roles left) n h =
      record {
        subselectors = tt;
        no_type = λ known. refl;
        others = (record { joins = n; compound = h.compound }, h.others);
      }

  headed : (known : Option (List ℕ)) (roles : List Role) (left following : List ℕ)
      → ContinuesCompound edition roles left → IsTypeName edition known following
      → IsTypeName edition (type_among known (cut roles).0) following
  headed known roles left following h w =
      subst (λ (o : Option (List ℕ)). IsTypeName edition o following) (sym (h.no_type known)) w

  -- a compound that begins with a subselector
  begins-with : (s : Subselector) (o : Outcome) → IsSubselector edition s
      → IfContinuesCompound edition o
      → IfBegins edition (with_role (part (with s)) o)
  begins-with s (refused left) w h = tt
  begins-with s (accepted roles left) w h = record {
    compound = record { head = headed None roles left _ h tt; others = (w, h.subselectors) };
    others = h.others;
  }

  -- a compound that begins with a head
  begins-any : (o : Outcome) → IfContinuesCompound edition o
      → IfBegins edition (with_role (part any_type) o)
  begins-any (refused left) h = tt
  begins-any (accepted roles left) h = record {
    compound = record { head = headed None roles left _ h tt; others = h.subselectors };
    others = h.others;
  }

  begins-type : (n : List ℕ) (o : Outcome) → IsName edition n → IfContinuesCompound edition o
      → IfBegins edition (with_role (part (of_type n)) o)
  begins-type n (refused left) w h = tt
  begins-type n (accepted roles left) w h = record {
    compound = record { head = headed (Some n) roles left _ h (inl w); others = h.subselectors };
    others = h.others;
  }

  -- a lone hyphen, and the end of the text
  begins-hyphen : (n : List ℕ) (o : Outcome) → n ≡ hyphen ∷ [] → o ≡ accepted [] []
      → IfBegins edition (with_role (part (of_type n)) o)
  begins-hyphen n o h e =
      let P : Outcome → Type 0 = λ o. IfBegins edition (with_role (part (of_type n)) o) in
      subst P (sym e)
      (record { compound = record { head = inr (h, refl); others = tt }; others = tt })

  begins-class : (known : Option KnownPseudoClass) (after : List ℕ) (o : Outcome) → IfClass known
      → IfContinuesCompound edition o → IfBegins edition (after_role (class_role known) after o)
  begins-class None after o w h = tt
  begins-class (Some class) after o w h = begins-with (pseudo_class class) o w h

  goes_on-class : (known : Option KnownPseudoClass) (after : List ℕ) (o : Outcome) → IfClass known
      → IfContinuesCompound edition o
      → IfContinuesCompound edition (after_role (class_role known) after o)
  goes_on-class None after o w h = tt
  goes_on-class (Some class) after o w h = goes_on-with (pseudo_class class) o w h

  -- a token that begins a compound
  open_piece : (spaced : Bool) (start : List ℕ) (token : Token) (after : List ℕ)
      (rest : Side → TokenSequence) → GoodToken edition token after → Following edition after rest
      → IfBegins edition (piece_outcome open_side spaced start token after rest)
  open_piece spaced start universal_selector after rest w h = begins-any _ h.0
  open_piece spaced start (type_selector n) after rest (inl w) h = begins-type n _ w h.0
  open_piece spaced start (type_selector n) after rest (inr w) h =
      begins-hyphen n _ w.0 (h.2 w.1)
  open_piece spaced start (id_selector n) after rest w h =
      begins-with (attribute (codes "id") (equals n)) _ (id_name edition, w) h.0
  open_piece spaced start (class_selector n) after rest w h =
      begins-with (attribute (codes "class") (has_word n)) _ (class_name edition, w) h.0
  open_piece spaced start (attribute_selector n p) after rest w h =
      begins-with (attribute n p) _ w h.0
  open_piece spaced start (named_pseudo_class n) after rest w h =
      begins-class (known_pseudo_class n) after _ (known_pseudo_class-is n) h.0
  open_piece spaced start (lang_pseudo_class v) after rest w h =
      begins-with (pseudo_class (lang v)) _ w h.0
  open_piece spaced start descendant_combinator after rest w h = tt
  open_piece spaced start child_combinator after rest w h = tt
  open_piece spaced start adjacent_combinator after rest w h = tt

  -- After a simple piece: a combinator. After a space byte, where none is there, a descendant
  -- combinator; without one a subselector.
  closed_piece : (spaced : Bool) (start : List ℕ) (token : Token) (after : List ℕ)
      (rest : Side → TokenSequence) → GoodToken edition token after → Following edition after rest
      → IfContinuesCompound edition (piece_outcome closed_side spaced start token after rest)
  closed_piece true start universal_selector after rest w h =
      goes_on-joined_by descendant _ tt (open_piece false start universal_selector after rest w h)
  closed_piece true start (type_selector n) after rest w h =
      goes_on-joined_by descendant _ tt (open_piece false start (type_selector n) after rest w h)
  closed_piece true start (id_selector n) after rest w h =
      goes_on-joined_by descendant _ tt (open_piece false start (id_selector n) after rest w h)
  closed_piece true start (class_selector n) after rest w h =
      goes_on-joined_by descendant _ tt (open_piece false start (class_selector n) after rest w h)
  closed_piece true start (attribute_selector n p) after rest w h =
      goes_on-joined_by descendant _ tt
      (open_piece false start (attribute_selector n p) after rest w h)
  closed_piece true start (named_pseudo_class n) after rest w h =
      goes_on-joined_by descendant _ tt
      (open_piece false start (named_pseudo_class n) after rest w h)
  closed_piece true start (lang_pseudo_class v) after rest w h =
      goes_on-joined_by descendant _ tt
      (open_piece false start (lang_pseudo_class v) after rest w h)
  closed_piece spaced start descendant_combinator after rest w h = absurd w
  closed_piece spaced start child_combinator after rest w h = goes_on-joined_by child _ tt h.1
  closed_piece spaced start adjacent_combinator after rest w h = goes_on-joined_by adjacent _ tt h.1
  closed_piece false start universal_selector after rest w h = tt
  closed_piece false start (type_selector n) after rest w h = tt
  closed_piece false start (id_selector n) after rest w h =
      goes_on-with (attribute (codes "id") (equals n)) _ (id_name edition, w) h.0
  closed_piece false start (class_selector n) after rest w h =
      goes_on-with (attribute (codes "class") (has_word n)) _ (class_name edition, w) h.0
  closed_piece false start (attribute_selector n p) after rest w h =
      goes_on-with (attribute n p) _ w h.0
  closed_piece false start (named_pseudo_class n) after rest w h =
      goes_on-class (known_pseudo_class n) after _ (known_pseudo_class-is n) h.0
  closed_piece false start (lang_pseudo_class v) after rest w h =
      goes_on-with (pseudo_class (lang v)) _ w h.0

  no_more : (left : List ℕ) → ContinuesCompound edition [] left
  no_more left = record { subselectors = tt; no_type = λ known. refl; others = tt }

  -- where there is no further piece
  closed_ending : (end : Ending)
      → IfContinuesCompound edition (outcome (ending_sequence closed_side end))
  closed_ending (at_stop true start) = no_more start
  closed_ending (at_stop false start) = no_more start
  closed_ending (at_slash true start) = tt
  closed_ending (at_slash false start) = no_more start
  closed_ending (without_head true start fault after) = tt
  closed_ending (without_head false start fault after) = tt
  closed_ending (within_piece true start fault after) = tt
  closed_ending (within_piece false start fault after) = tt
  closed_ending (within_gap fault after) = tt

  open_ending : (end : Ending) → IfBegins edition (outcome (ending_sequence open_side end))
  open_ending (at_stop spaced start) = tt
  open_ending (at_slash spaced start) = tt
  open_ending (without_head spaced start fault after) = tt
  open_ending (within_piece spaced start fault after) = tt
  open_ending (within_gap fault after) = tt

  sequence-ending : (text : List ℕ) (end : Ending)
      → ((side : Side) → sequence_from edition side text ≡ ending_sequence side end)
      → SequenceIs edition text
  sequence-ending text end e = (
    subst (λ (r : TokenSequence). IfContinuesCompound edition (outcome r)) (sym (e closed_side))
        (closed_ending end),
    subst (λ (r : TokenSequence). IfBegins edition (outcome r)) (sym (e open_side))
        (open_ending end),
  )

  sequence-end : (after : List ℕ) → after ≡ []
      → outcome (sequence_from edition closed_side after) ≡ accepted [] []
  sequence-end after e =
      ap (λ t. outcome (sequence_from edition closed_side t)) e ∙ (goes-end edition).runs

  sequence-piece : (text start after : List ℕ) (spaced : Bool) (token : Token)
      → gap text ≡ got spaced start → solid edition start ≡ got token after
      → GoodToken edition token after → SequenceIs edition after → SequenceIs edition text
  sequence-piece text start after spaced token g s w more =
      let following : Following edition after (λ l. sequence_from edition l after) =
      (more.0, more.1, sequence-end after) in (
        subst (λ (r : TokenSequence). IfContinuesCompound edition (outcome r))
            (sym (sequence_from-token edition closed_side text start after spaced token g s))
            (closed_piece spaced start token after (λ l. sequence_from edition l after) w
            following),
        subst (λ (r : TokenSequence). IfBegins edition (outcome r))
            (sym (sequence_from-token edition open_side text start after spaced token g s))
            (open_piece spaced start token after (λ l. sequence_from edition l after) w following),
      )

  shorter : (text start after : List ℕ) (spaced : Bool) (token : Token)
      → gap text ≡ got spaced start → solid edition start ≡ got token after
      → length after < length text
  shorter text start after spaced token g s =
      let a =
      subst (λ (r : Reading Bool). Keeps text r) g
      (length-ends text (left_after (gap text)) (well-gap text).0) in
      let b = subst (λ (r : Reading Token). Cuts start r) s (solid-cuts edition start) in
      omega (arith, a, b)

  sequence-within : (n : ℕ) (text : List ℕ) → length text < n → IsUtf8 text
      → SequenceIs edition text
  sequence-within zero text less u = absurd (omega arith)
  sequence-within (suc n) text less u =
      by (gap text) refl (λ after k v. sequence-within n after k v)
    where
      inside : (spaced : Bool) (start : List ℕ) → gap text ≡ got spaced start → IsUtf8 start
          → (r : Reading Token) → solid edition start ≡ r
          → ((after : List ℕ) → length after < n → IsUtf8 after → SequenceIs edition after)
          → SequenceIs edition text
      inside spaced start g v (got token after) s more =
          let w =
          got-holds (GoodToken edition) _ _ _
          (solid-gives edition start v) s in
          let cuts : length after < length text = shorter text start after spaced token g s in
          let left : IsUtf8 after =
          subst (λ (r : Reading Token). IsUtf8 (left_after r)) s
          (lawful-text solid solid solid-lawful edition start v) in
          sequence-piece text start after spaced token g s w (more after (omega arith) left)
      inside spaced start g v (fails fault after) s more =
          sequence-ending text (fault_ending (next_kind start) spaced start fault after)
          (λ side. sequence_from-solid edition side text start spaced (fails fault after) g s)

      by : (r : Reading Bool) → gap text ≡ r
          → ((after : List ℕ) → length after < n → IsUtf8 after → SequenceIs edition after)
          → SequenceIs edition text
      by (got spaced start) g more =
          inside spaced start g
          (subst (λ (r : Reading Bool). IsUtf8 (left_after r)) g ((well-gap text).1 u))
          (solid edition start) refl more
      by (fails fault after) g more =
          sequence-ending text (within_gap fault after)
          (λ side. sequence_from-open_gap edition side text after fault g)

  -- the outcome of a text, after either left side
  pub sequence-is : (text : List ℕ) → IsUtf8 text → SequenceIs edition text
  sequence-is text u = sequence-within (suc (length text)) text (omega arith) u
