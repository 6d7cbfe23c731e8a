-- A selector that was read, printed and read again.
-- Serves `laws::printing_law`, `Selector::{parse, parse_front}` and `StyleSheet::parse` (a selector
-- printed and read again).
use Rattle.std.proofs.Common.{◌≡◌, ℕ, inl, inr, ◌↔◌, List, [], ◌∷◌, ◌++◌, Bool, true, false, ◌&&◌, ◌==◌, length, codes, bytes_eq, refl, sym, ap, ◌∙◌, subst, append-nil, Option, Some, None, IfSome, encode_utf8_all, IsUtf8}
use Rattle.std.specs.List.{flat_map}
use Rattle.std.proofs.lemmas.Str.{encodes_same}
use Rattle.std.proofs.lemmas.Slice.Eq.{bytes_eq-Decides}
use lib.Utf8.{encode}
use Rattle.css_text.specs.AsciiBytes.{hyphen, open_brace, space}
use Rattle.css_text.specs.Characters.{Edition, first_edition, second_edition}
use Rattle.simplecss_grammar.specs.Components.{Subselector, Combinator, Compound, Component}
use Rattle.simplecss_grammar.specs.Components.Subselector.{attribute, pseudo_class}
use Rattle.simplecss_grammar.specs.Components.Combinator.{none, descendant, child, adjacent}
use Rattle.simplecss_grammar.specs.TokenSequences.{sequence_of}
use Rattle.simplecss_grammar.specs.Selectors.{Outcome, outcome, components_of, selector_of, reads}
use Rattle.simplecss_grammar.specs.Selectors.Outcome.{refused, accepted}
use Rattle.simplecss_grammar.specs.Printing.{subselector_text, component_text, selector_text, is_clean}
use Rattle.simplecss_grammar.specs.PrintingLaws.{SelectorReadsBack, ReadsBack, ReadsBackBeforeBlock, PrintAlikeIfEqual, is_hyphen_name, ends_in_hyphen}
use Rattle.simplecss_grammar.proofs.reading.PrintedNames.{IsName, begins_any_name}
use Rattle.simplecss_grammar.proofs.round_trip.PrintedHeads.{IsTypeName}
use Rattle.simplecss_grammar.proofs.round_trip.PrintedSelectors.{IsCompound, Joins, EachJoined, IsSelector, goes-end, goes-space_brace}
use Rattle.simplecss_grammar.proofs.round_trip.PrintingLaw.{printing-law}
use Rattle.simplecss_grammar.proofs.round_trip.ReadSequences.{IfBegins, sequence-is}

-- what follows a selector that was read may change, but for the end of the text

front_nil : (front a : List ℕ) → front ++ a ≡ [] → (front ≡ []) × (a ≡ [])
front_nil [] a e = (refl, e)
front_nil (b ∷ front) a e = absurd (cc)

nil-after : (front a b : List ℕ) → (a ≡ [] → b ≡ []) → front ++ a ≡ [] → front ++ b ≡ []
nil-after front a b h e = let parts = front_nil front a e in ap (λ l. l ++ b) parts.0 ∙ h parts.1

-- nothing follows a lone hyphen

some_subselector : (s : Subselector) (text : List ℕ) → subselector_text s ++ text ≡ [] → ⊥
some_subselector (attribute n o) text e = cc
some_subselector (pseudo_class class) text e = cc

some_component : (j : Combinator) (c : Compound) (text : List ℕ) → Joins j
    → component_text (record { combinator = j; compound = c }) ++ text ≡ [] → ⊥
some_component none c text n e = absurd n
some_component descendant c text n e = cc
some_component child c text n e = cc
some_component adjacent c text n e = cc

no_subselectors : (ss : List Subselector) → flat_map subselector_text ss ≡ [] → ss ≡ []
no_subselectors [] e = refl
no_subselectors (s ∷ ss) e = absurd (some_subselector s (flat_map subselector_text ss) e)

later_hyphen : (c : Component) (cs : List Component) → ends_in_hyphen (c ∷ cs) ≡ false
    → ends_in_hyphen cs ≡ false
later_hyphen c [] h = refl
later_hyphen c (d ∷ cs) h = h

-- before more text a selector ends in no lone hyphen

hyphen_begins : (edition : Edition) → begins_any_name edition (hyphen ∷ []) ≡ true → ⊥
hyphen_begins first_edition e = cc
hyphen_begins second_edition e = cc

hyphen_encodes : encode_utf8_all (hyphen ∷ []) ≡ hyphen ∷ []
unfolding encode
hyphen_encodes = refl

module _ (edition : Edition) where
  selector_of-is : (o : Outcome) (s : List Component) (left : List ℕ) → IfBegins edition o
      → selector_of o ≡ (Some s, left) → IsSelector edition s left
  selector_of-is (refused rest) s left h e = absurd (let none : Path (Option (List Component)) None
      (Some s) = ap (λ (r : Option (List Component) × List ℕ). r.0) e in cc)
  selector_of-is (accepted roles rest) s left h e =
      let found : Path (Option (List Component)) (Some (components_of roles)) (Some s) = ap (λ
      (r : Option (List Component) × List ℕ). r.0) e in
      let same : components_of roles ≡ s = cc in
      let read : IsSelector edition (components_of roles) rest = (refl, h.compound, h.others) in
      let moved : IsSelector edition (components_of roles) left = subst (λ
      (t : List ℕ). IsSelector edition (components_of roles) t) (ap (λ (r : Option
      (List Component) × List ℕ). r.1) e) read in
      subst (λ (t : List Component). IsSelector edition t left) same moved

  -- a selector that was read, by what was left after it
  pub reads-is : (text left : List ℕ) (s : List Component) → IsUtf8 text
      → reads edition text ≡ (Some s, left) → IsSelector edition s left
  unfolding reads
  reads-is text left s u e = selector_of-is (outcome (sequence_of edition text)) s left
      ((sequence-is edition text u).1) e

  type-after : (o : Option (List ℕ)) (a b : List ℕ) → (a ≡ [] → b ≡ []) → IsTypeName edition o a
      → IsTypeName edition o b
  type-after None a b h w = tt
  type-after (Some n) a b h (inl w) = inl w
  type-after (Some n) a b h (inr w) = inr (w.0, h w.1)

  compound-after : (c : Compound) (a b : List ℕ) → (a ≡ [] → b ≡ []) → IsCompound edition c a
      → IsCompound edition c b
  compound-after c a b h w =
      let text = flat_map subselector_text c.subselectors in
      record {
        head = type-after c.name (text ++ a) (text ++ b)
            (nil-after text a b h) w.head;
        others = w.others;
      }

  joined-after : (cs : List Component) (a b : List ℕ) → (a ≡ [] → b ≡ []) → EachJoined edition cs a
      → EachJoined edition cs b
  joined-after [] a b h w = tt
  joined-after (c ∷ cs) a b h w = (
    record {
      joins = w.0.joins;
      compound = compound-after c.compound (selector_text cs ++ a)
          (selector_text cs ++ b) (nil-after (selector_text cs) a b h) w.0.compound;
    },
    joined-after cs a b h w.1,
  )

  -- what follows a selector, as long as a text that has ended stays so
  pub selector-after : (s : List Component) (a b : List ℕ) → (a ≡ [] → b ≡ [])
      → IsSelector edition s a → IsSelector edition s b
  selector-after [] a b h w = absurd w
  selector-after (c ∷ cs) a b h w = (
    w.0,
    compound-after c.compound (selector_text cs ++ a) (selector_text cs ++ b) (nil-after
        (selector_text cs) a b h) w.1,
    joined-after cs a b h w.2,
  )

  no_components : (cs : List Component) (following : List ℕ) → EachJoined edition cs following
      → selector_text cs ≡ [] → cs ≡ []
  no_components [] following w e = refl
  no_components (c ∷ cs) following w e = absurd (some_component c.combinator c.compound
      (selector_text cs) w.0.joins e)

  -- where what follows a component is empty, it is the last one, and only a type
  hyphen_last : (c : Component) (cs : List Component) (following : List ℕ) (n : List ℕ)
      → c.compound.name ≡ Some n → n ≡ hyphen ∷ [] → EachJoined edition cs following
      → flat_map subselector_text c.compound.subselectors ++ (selector_text cs ++ following) ≡ []
      → ends_in_hyphen (c ∷ cs) ≡ true
  hyphen_last c cs following n named h w e =
      let first = front_nil (flat_map subselector_text c.compound.subselectors)
      (selector_text cs ++ following) e in
      let second = front_nil (selector_text cs) following first.1 in
      let none_after = no_components cs following w second.0 in
      let alone = no_subselectors c.compound.subselectors first.0 in
      let name : c.compound.name ≡ Some (hyphen ∷ []) = named ∙ ap (λ (m : List ℕ). Some m) h in
      ap (λ (l : List Component). ends_in_hyphen (c ∷ l)) none_after
      ∙ ap (λ (l : List Subselector). is_hyphen_name c.compound.name && length l == 0) alone
      ∙ ap (λ (o : Option (List ℕ)). is_hyphen_name o && true) name

  compound-anywhere : (c : Component) (cs : List Component) (a b : List ℕ)
      → ends_in_hyphen (c ∷ cs) ≡ false → EachJoined edition cs a
      → IsCompound edition c.compound (selector_text cs ++ a)
      → IsCompound edition c.compound (selector_text cs ++ b)
  compound-anywhere c cs a b h js w =
      let text = flat_map subselector_text c.compound.subselectors in
      record { head = by c.compound.name refl w.head; others = w.others }
    where
      by : (o : Option (List ℕ)) → c.compound.name ≡ o → IsTypeName edition o
          (flat_map subselector_text c.compound.subselectors ++ (selector_text cs ++ a))
          → IsTypeName edition o (flat_map subselector_text c.compound.subselectors ++
          (selector_text cs ++ b))
      by None e t = tt
      by (Some n) e (inl t) = inl t
      by (Some n) e (inr t) = absurd (let last = hyphen_last c cs a n e t.0 js t.1 in cc)

  joined-anywhere : (cs : List Component) (a b : List ℕ) → ends_in_hyphen cs ≡ false
      → EachJoined edition cs a → EachJoined edition cs b
  joined-anywhere [] a b h w = tt
  joined-anywhere (c ∷ cs) a b h w = (
    record { joins = w.0.joins; compound = compound-anywhere c cs a b h w.1 w.0.compound },
    joined-anywhere cs a b (later_hyphen c cs h) w.1,
  )

  -- a selector that ends in no lone hyphen may be before any text
  selector-anywhere : (s : List Component) (a b : List ℕ) → ends_in_hyphen s ≡ false
      → IsSelector edition s a → IsSelector edition s b
  selector-anywhere [] a b h w = absurd w
  selector-anywhere (c ∷ cs) a b h w = (
    w.0,
    compound-anywhere c cs a b h w.2 w.1,
    joined-anywhere
        cs a b (later_hyphen c cs h) w.2,
  )

  pub hyphen_no_name : (n : List ℕ) → IsName edition n → n ≡ hyphen ∷ [] → ⊥
  hyphen_no_name n w e =
      let letters : w.letters ≡ hyphen ∷ [] = encodes_same w.letters (hyphen ∷ []) (w.spell ∙ e
      ∙ sym hyphen_encodes) in
      hyphen_begins edition (ap (begins_any_name edition) (sym letters) ∙ w.begins)

  last_no_hyphen : (o : Option (List ℕ)) (front : List ℕ) (b : ℕ) (text : List ℕ) (alone : Bool)
      → IsTypeName edition o (front ++ (b ∷ text)) → (is_hyphen_name o && alone) ≡ false
  last_no_hyphen None front b text alone w = refl
  last_no_hyphen (Some n) front b text alone (inr w) = absurd (let none_after = (front_nil front
      (b ∷ text) w.1).1 in cc)
  last_no_hyphen (Some n) front b text alone (inl w) = by (bytes_eq n (codes "-")) refl
    where
      by : (t : Bool) → bytes_eq n (codes "-") ≡ t → (t && alone) ≡ false
      by true e = absurd (hyphen_no_name n w ((bytes_eq-Decides n (codes "-")).0 e))
      by false e = refl

  joined-no_hyphen : (cs : List Component) (b : ℕ) (text : List ℕ)
      → EachJoined edition cs (b ∷ text) → ends_in_hyphen cs ≡ false
  joined-no_hyphen [] b text w = refl
  joined-no_hyphen (c ∷ []) b text w = last_no_hyphen c.compound.name
      (flat_map subselector_text c.compound.subselectors) b text
      (length c.compound.subselectors == 0) w.0.compound.head
  joined-no_hyphen (c ∷ d ∷ cs) b text w = joined-no_hyphen (d ∷ cs) b text w.1

  -- a selector before more text ends in no lone hyphen
  pub selector-no_hyphen : (s : List Component) (b : ℕ) (text : List ℕ)
      → IsSelector edition s (b ∷ text) → ends_in_hyphen s ≡ false
  selector-no_hyphen [] b text w = absurd w
  selector-no_hyphen (c ∷ []) b text w = last_no_hyphen c.compound.name
      (flat_map subselector_text c.compound.subselectors) b text
      (length c.compound.subselectors == 0) w.1.head
  selector-no_hyphen (c ∷ d ∷ cs) b text w = joined-no_hyphen (d ∷ cs) b text w.2

  -- the laws

  -- Each selector that was read reads back.
  selector-reads_back : (s : List Component) (left : List ℕ) → IsSelector edition s left
      → ReadsBack edition s
  selector-reads_back s left w =
      subst (λ (t : List ℕ). (reads edition t ≡ (Some s, [])) ↔ (is_clean s ≡ true)) (append-nil
      (selector_text s)) (printing-law edition s [] [] (selector-after s left [] (λ h. refl) w)
      (goes-end edition))

  -- the same, by the text that it was read from
  reads-back : (text left : List ℕ) (s : List Component) → IsUtf8 text
      → reads edition text ≡ (Some s, left) → ReadsBack edition s
  reads-back text left s u e = selector-reads_back s left (reads-is text left s u e)

  -- Each that was read and ends in no lone hyphen reads back before a block.
  reads-back_before : (text left : List ℕ) (s : List Component) → IsUtf8 text
      → reads edition text ≡ (Some s, left) → ends_in_hyphen s ≡ false
      → ReadsBackBeforeBlock edition s
  reads-back_before text left s u e h tail =
      printing-law edition s (space ∷ open_brace ∷ tail) (open_brace ∷ tail)
      (selector-anywhere s left
      (space ∷ open_brace ∷ tail) h (reads-is text left s u e)) (goes-space_brace edition tail)

  -- Each that was read with more text after it reads back, also before a block.
  pub selector-reads_back_before : (s : List Component) (b : ℕ) (left : List ℕ)
      → IsSelector edition s (b ∷ left) → ReadsBackBeforeBlock edition s
  selector-reads_back_before s b left w tail =
      printing-law edition s (space ∷ open_brace ∷ tail) (open_brace ∷ tail)
      (selector-after s (b ∷ left)
      (space ∷ open_brace ∷ tail) (λ none_there. absurd (cc)) w) (goes-space_brace edition tail)

  -- both at once
  pub selector-reads_back_both : (s : List Component) (b : ℕ) (left : List ℕ)
      → IsSelector edition s (b ∷ left) → SelectorReadsBack edition s
  selector-reads_back_both s b left w = record {
    alone = selector-reads_back s
        (b ∷ left) w;
    before_block = λ h. selector-reads_back_before s b left w;
  }

  -- The selector of a text, where it has one, reads back, and before a block where it ends in no
  -- lone hyphen.
  pub found-reads_back : (text : List ℕ) → IsUtf8 text
      → IfSome (reads edition text).0 (SelectorReadsBack edition)
  found-reads_back text u = by (reads edition text).0 refl
    where
      by : (o : Option (List Component)) → (reads edition text).0 ≡ o → IfSome o
          (SelectorReadsBack edition)
      by None e = tt
      by (Some s) e =
          let left = (reads edition text).1 in
          let read : reads edition text ≡ (Some s, left) = ap (λ (o : Option (List Component)).
          (o, left)) e in
          record {
            alone = reads-back text left s u read;
            before_block = reads-back_before text left
                s u read;
          }

  -- Two clean selectors that read back print alike exactly if they are equal.
  pub prints-alike : (s t : List Component) → PrintAlikeIfEqual edition s t
  prints-alike s t back other clean also = (
    λ e.
        let both : Path (Option (List Component) × List ℕ) (Some s, []) (Some t, []) = sym
        (back.1 clean) ∙ ap (reads edition) e ∙ other.1 also in
        let found : Path (Option (List Component)) (Some s) (Some t) = ap (λ (r : Option
        (List Component) × List ℕ). r.0) both in cc,
    λ e. ap selector_text e,
  )
