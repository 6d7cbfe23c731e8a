-- What a text reads as is well-formed.
-- Serves `printing_laws::printing_law`.
use Rattle.std.proofs.Common.{◌≡◌, ℕ, zero, suc, ◌⊎◌, inl, inr, ◌&&◌, ◌||◌, arith, eqb-true, Bool, true, false, List, [], ◌∷◌, All, Option, None, Some, length, refl, sym, ap, ◌∙◌, subst, not}
use Rattle.std.specs.Prelude.{codes, if◌then◌else◌}
use Rattle.std.specs.Option.{is_some, ForSome}
use Rattle.std.proofs.lemmas.List.Elements.{All-nil, All-cons, All-head, All-tail}
use Rattle.css_text.specs.AsciiBytes.{comma, close_parenthesis, colon, open_parenthesis}
use Rattle.css_text.specs.Bytes.{starts_by, starts, past_one}
use Rattle.css_text.specs.Comments.{opens_comment}
use Rattle.css_matching.specs.declared.Combinator.{Combinator}
use Rattle.css_matching.specs.declared.Combinator.TheVariants.{Descendant}
use Rattle.css_selector_text.specs.declared.refusal.Why.{Why}
use Rattle.css_selector_text.specs.declared.refusal.Why.TheVariants.{UnknownName, Unexpected}
use Rattle.css_selector_text.specs.declared.components.ListKind.{ListKind}
use Rattle.css_selector_text.specs.declared.components.ListKind.TheVariants.{Not, Is, Where, Has}
use Rattle.css_selector_text.specs.reading.Rooms.{Room}
use Rattle.css_selector_text.specs.declared.components.Function.{Function}
use Rattle.css_selector_text.specs.declared.components.Numbering.{Numbering}
use Rattle.css_selector_text.specs.declared.reading.Start.{Start}
use Rattle.css_selector_text.specs.declared.reading.Start.TheVariants.{Plain, Relative}
use Rattle.css_selector_text.specs.declared.components.Function.TheVariants.{Numbered, Language}
use Rattle.css_selector_text.specs.Components.{Progression, Structure, Simple, ListTest, outermost, Condition, selectors_from, Part, PseudoElement, Placed, Selector}
use Rattle.css_selector_text.specs.Components.Simple.{universal, type_name, id, class, has_attribute, attribute, structure, language, state, function, named_element, nesting, namespaced}
use Rattle.css_selector_text.specs.Components.Condition.{simple, negation, any_of, where_any, tested}
use Rattle.css_selector_text.specs.reading.Readings.{Reading, got, refused, follow, give, ◌>>=◌, ◌>>◌, Step, item, none, stop, step_after, as_item, go_on, items, items_up_to, with_first}
use Rattle.css_selector_text.specs.reading.Grammar.{gap, past_comments, past_colon, condition_here, name, begins_compound, closing, one_more, numbered_by, language_ranges, plain_structure, plain_pseudo, is_old_element, list_kind, function_named, argument_of, is_word, begins_name, of_list, after_word, without_list, list_test, after_progression, functional, named_pseudo, type_selector, next_simple, some_of, Finder, compound, listed, ListReader, begins_pseudo_class, simple_item, with_argument, pseudo_condition, condition_by, too_deep, condition_at, next_condition, outside, is_relative, may_open, leading_sign, after_leading, complex_by, some_or_element, conditions, first_sign, joined_by, signed_part, by_sign, part_after, next_part, element_argument, element_name, element_named, named_condition, class_or_element, after_element, with_after, pseudo_element, at_end, parts, nesting_part, after_sign, relative_parts, start_parts, placed_as, selector_with, placed_by, placed, next_placed, list_by, placed_selector, selector, CompoundReader, next_part_in, complex, complex_list, ends_part, past_part, is_lasting, no_selector, part_end, judged, listed_part, next_listed, kept, keep, selectors_after, is_forgiving, placed_list_by}
use Rattle.css_selector_text.specs.reading.KnownNames.{is_one_of, states, functions, is_element, element_functions}
use Rattle.css_selector_text.specs.printing.WellFormed.{IsName, IsElementArgument, IsElementName, is_pseudo_class, IsAfterElement, IsPseudoElement, IsFurther, IsFurtherCondition, IsFirstCondition, IsLeading, IsList, AreConditions, is_last, AreParts, BeginsPlain, IsWellFormed}
use Rattle.css_text.proofs.bytes.GapLemmas.{no_gap-byte}
use Rattle.css_selector_text.proofs.round_trip.NestedLists.{IsRow, IsLink, IsChain, AreChains, chains_in}
use Rattle.css_selector_text.proofs.round_trip.CompoundsAgain.{room_of, Accept, row_after, some_after, some_or_element_after, no_part_at}
use Rattle.css_syntax.proofs.CommentLemmas.{no_comments}
use Rattle.css_selector_text.proofs.round_trip.ReadingLemmas.{followed}
use Rattle.css_selector_text.proofs.round_trip.ReadSimples.{numbered_read, found_after, made, all_items, nothing_read, first_of_all, name_well, argument_of_well, functional_well, named_pseudo_well, next_simple_well, type_well, first_of_further}
use Rattle.css_selector_text.specs.reading.Defaults.{in_default}
use Rattle.css_selector_text.specs.Names.{Names}

-- ---- compound selectors, at a depth

first_of_condition : (n : Room) (c : Condition) → IsFurtherCondition n c → IsFirstCondition n c
first_of_condition n (simple s) w = first_of_further n.names s w
first_of_condition n (negation _) w = w
first_of_condition n (any_of _) w = w
first_of_condition n (where_any _) w = w
first_of_condition n (tested _ _) w = w

some_keeps : (text : List ℕ) (r : Reading (List Condition)) (cs : List Condition) (rest : List ℕ)
    → some_of text r ≡ got cs rest → r ≡ got cs rest
some_keeps text (got [] u) cs rest h = absurd (cc)
some_keeps text (got (c ∷ ds) u) cs rest h = h
some_keeps text (refused why u) cs rest h = h

element_keeps : (text : List ℕ) (r : Reading (List Condition)) (cs : List Condition)
    (rest : List ℕ) → some_or_element text r ≡ got cs rest → r ≡ got cs rest
element_keeps text r cs rest h = by (starts colon text) h
  where
    by : (t : Bool) → (if t then r else some_of text r) ≡ got cs rest → r ≡ got cs rest
    by true k = k
    by false k = some_keeps text r cs rest k

-- each condition that is read may follow others
abbrev FurtherWell : Room → Type 0
FurtherWell n = (text : List ℕ) (c : Condition) (rest : List ℕ)
    → next_condition n text ≡ item c rest → IsFurtherCondition n c

-- there is a condition, or there is none and that is accepted
abbrev Row : Room → Accept → List ℕ → List Condition → List ℕ → Type 0
Row n accept text cs rest =
    IsRow n cs ⊎ ((cs ≡ []) × (rest ≡ text) × (accept text (got [] rest) ≡ got [] rest))

module _ (n : Room) (well : FurtherWell n) where
  row_well : (accept : Accept) → ((text : List ℕ) (r : Reading (List Condition))
      (cs : List Condition) (rest : List ℕ) → accept text r ≡ got cs rest → r ≡ got cs rest)
      → (text : List ℕ) (cs : List Condition) (rest : List ℕ)
      → row_after accept (next_condition n) text (type_selector n.names text) ≡ got cs rest
      → Row n accept text cs rest
  row_well accept keeps text cs rest h = by (type_selector n.names text) refl h
    where
      untyped : (ds : List Condition) → items (next_condition n) text ≡ got ds rest
          → accept text (got ds rest) ≡ got ds rest → Row n accept text ds rest
      untyped [] e k = inr (refl, nothing_read (next_condition n) (length text) text rest e, k)
      untyped (d ∷ ds) e k =
          let all = all_items (next_condition n) (IsFurtherCondition n) well text (d ∷ ds) rest e in
          inl (
            first_of_condition n d (All-head (IsFurtherCondition n) d ds all),
            All-tail (IsFurtherCondition n) d ds all,
          )

      by : (step : Step Simple) → type_selector n.names text ≡ step
          → row_after accept (next_condition n) text step ≡ got cs rest
          → Row n accept text cs rest
      by (item s t) e k =
          let f = first_of_all (simple s) (items (next_condition n) t) cs rest k in
          let all =
          all_items (next_condition n) (IsFurtherCondition n) well t f.others rest f.reads in
          inl (subst (IsRow n) f.is (type_well n.names text s t e, all))
      by none e k =
          let kept = keeps text (items (next_condition n) text) cs rest k in
          untyped cs kept (ap (accept text) (sym kept) ∙ k)
      by (stop why t) e k = absurd (cc)

  compound_well : (text : List ℕ) (cs : List Condition) (rest : List ℕ)
      → compound n.names (next_condition n) text ≡ got cs rest → IsRow n cs
  unfolding compound
  compound_well text cs rest h =
      by (row_well some_of some_keeps text cs rest
      (sym (some_after (next_condition n) text (type_selector n.names text)) ∙ h))
    where
      by : Row n some_of text cs rest → IsRow n cs
      by (inl w) = w
      by (inr w) = absurd (let k = w.2 in cc)

-- a compound selector after another, by what reads it
module _ (one : CompoundReader) (P : List Condition → List ℕ → Type 0)
    (each : (text : List ℕ) (cs : List Condition) (rest : List ℕ) → one text ≡ got cs rest
    → P cs rest) where
  pub part_after_well : (text : List ℕ) (p : Part) (rest : List ℕ)
      → part_after one (gap text) ≡ item p rest → P p.conditions rest
  part_after_well text p rest h = by (gap text) h
    where
      read : (c : Combinator) (t : List ℕ) → as_item (joined_by c) (one t) ≡ item p rest
          → P p.conditions rest
      read c t k =
          let m = made (joined_by c) (one t) p rest k in
          subst (λ (q : Part). P q.conditions rest) m.is (each t m.value rest m.first)

      signed_well : (c : Combinator) (t : List ℕ)
          → as_item (joined_by c) (signed_part one t) ≡ item p rest → P p.conditions rest
      signed_well c t k =
          let m = made (joined_by c) (signed_part one t) p rest k in
          let f = followed (gap t) (λ x. one) m.value rest m.first in
          subst (λ (q : Part). P q.conditions rest) m.is (each f.middle m.value rest f.second)

      sign_well : (spaced : Bool) (t : List ℕ) (o : Option Combinator)
          → by_sign one spaced t o ≡ item p rest → P p.conditions rest
      sign_well spaced t (Some c) k = signed_well c (past_one t) k
      sign_well spaced t None k = plain (spaced && starts_by begins_compound t) k
        where
          plain : (b : Bool)
              → (if b then as_item (joined_by Descendant) (one t) else none) ≡ item p rest
              → P p.conditions rest
          plain true k = read Descendant t k
          plain false k = absurd (cc)

      by : (r : Reading Bool) → part_after one r ≡ item p rest → P p.conditions rest
      by (refused why t) k = absurd (cc)
      by (got spaced t) k = sign_well spaced t (first_sign t) k

-- ---- complex selectors in a list

module _ (n : Room) (well : FurtherWell n) where
  link_well : (text : List ℕ) (p : Part) (rest : List ℕ)
      → next_part_in n.names (next_condition n) text ≡ item p rest → IsLink n p
  unfolding next_part_in
  link_well text p rest h =
      part_after_well (compound n.names (next_condition n)) (λ cs rest. IsRow n cs) (compound_well n well)
      text p rest h

  joined_well : (k : Combinator) (text : List ℕ) (ps : List Part) (rest : List ℕ)
      → (kind : ListKind) → IsLeading kind k → complex_by n.names k (next_condition n) text ≡ got ps rest
      → IsChain kind n ps
  unfolding complex_by
  joined_well k text ps rest kind leads h =
      let next : List ℕ → Step Part = next_part_in n.names (next_condition n) in
      let f = followed (compound n.names (next_condition n) text)
      (λ first. one_more (joined_by k first) (items next)) ps rest h in
      let g = first_of_all (joined_by k f.value) (items next f.middle) ps rest f.second in
      subst (IsChain kind n) g.is (
        leads,
        compound_well n well text f.value f.middle f.first,
        all_items next (IsLink n) link_well f.middle g.others rest g.reads,
      )

  complex_well : (kind : ListKind) (text : List ℕ) (ps : List Part) (rest : List ℕ)
      → complex n.names kind (next_condition n) text ≡ got ps rest → IsChain kind n ps
  unfolding complex
  complex_well kind text ps rest h = by kind h
    where
      led : (o : Option Combinator) → after_leading n.names (next_condition n) text o ≡ got ps rest
          → IsChain Has n ps
      led None k = joined_well Descendant text ps rest Has tt k
      led (Some c) k =
          let f = followed (gap (past_one text)) (λ x. complex_by n.names c (next_condition n)) ps rest k in
          joined_well c f.middle ps rest Has tt f.second

      by : (o : ListKind) → after_leading n.names (next_condition n) text (leading_sign o text) ≡ got ps rest
          → IsChain o n ps
      by Not k = joined_well Descendant text ps rest Not refl k
      by Is k = joined_well Descendant text ps rest Is refl k
      by Where k = joined_well Descendant text ps rest Where refl k
      by Has k = led (first_sign text) k

  -- a part of a list is a selector, or is left out
  abbrev IsPart : ListKind → Option (List Part) → Type 0
  IsPart f None = is_forgiving f ≡ true
  IsPart f (Some s) = IsChain f n s

  left_out : (f : ListKind) (text : List ℕ) (why : Why) (t : List ℕ) (o : Option (List Part))
      (rest : List ℕ) → no_selector (is_forgiving f) text why t ≡ got o rest → IsPart f o
  left_out f text why t o rest h = forgives (is_forgiving f) refl h
    where
      by : is_forgiving f ≡ true → (l : Bool)
          → (if not l then got None (past_part text) else refused why t) ≡ got o rest → IsPart f o
      by is true k = absurd (cc)
      by is false k = let same : None ≡ o = cc in subst (IsPart f) same is

      forgives : (b : Bool) → is_forgiving f ≡ b → no_selector b text why t ≡ got o rest → IsPart f o
      forgives false is k = absurd (cc)
      forgives true is k = by is (is_lasting why) k

  listed_well : (f : ListKind) (text : List ℕ) (o : Option (List Part)) (rest : List ℕ)
      → listed_part n.names f (next_condition n) text ≡ got o rest → IsPart f o
  unfolding listed_part
  listed_well f text o rest h = by ((gap >> complex n.names f (next_condition n)) text) refl h
    where
      ended : (s : List Part) → IsChain f n s → (r : Reading Bool)
          → part_end (is_forgiving f) text s r ≡ got o rest → IsPart f o
      ended s w (refused why t) k = absurd (cc)
      ended s w (got spaced t) k = at (ends_part t) k
        where
          at : (e : Bool) → (if e then got (Some s) t else no_selector (is_forgiving f) text Unexpected t)
              ≡ got o rest → IsPart f o
          at true k = let is : Some s ≡ o = cc in subst (IsPart f) is w
          at false k = left_out f text Unexpected t o rest k

      by : (r : Reading (List Part)) → (gap >> complex n.names f (next_condition n)) text ≡ r
          → judged (is_forgiving f) text r ≡ got o rest → IsPart f o
      by (refused why t) e k = left_out f text why t o rest k
      by (got s t) e k =
          let m = followed (gap text) (λ x. complex n.names f (next_condition n)) s t e in
          ended s (complex_well f m.middle s t m.second) (gap t) k

  next_well : (f : ListKind) (text : List ℕ) (o : Option (List Part)) (rest : List ℕ)
      → next_listed n.names f (next_condition n) text ≡ item o rest → IsPart f o
  unfolding next_listed
  next_well f text o rest h = by (starts comma text) h
    where
      by : (c : Bool) → (if c
          then as_item (λ s. s) (listed_part n.names f (next_condition n) (past_one text)) else none)
          ≡ item o rest → IsPart f o
      by false k = absurd (cc)
      by true k =
          let m = made (λ s. s) (listed_part n.names f (next_condition n) (past_one text)) o rest k in
          subst (IsPart f) m.is (listed_well f (past_one text) m.value rest m.first)

  kept_well : (f : ListKind) (os : List (Option (List Part))) → All (IsPart f) os
      → All (IsChain f n) (kept os)
  kept_well f [] all = All-nil (IsChain f n)
  kept_well f (None ∷ os) all = kept_well f os (All-tail (IsPart f) None os all)
  kept_well f (Some s ∷ os) all =
      All-cons (IsChain f n) s (kept os) (All-head (IsPart f) (Some s) os all)
      (kept_well f os (All-tail (IsPart f) (Some s) os all))

  chains_all : (f : ListKind) (ss : List (List Part)) → is_forgiving f ≡ true → All (IsChain f n) ss
      → AreChains f n ss
  chains_all f [] is all = is
  chains_all f (s ∷ ss) is all = (All-head (IsChain f n) s ss all, All-tail (IsChain f n) s ss all)

  chains_well : (f : ListKind) (o : Option (List Part)) (os : List (Option (List Part)))
      → IsPart f o → All (IsPart f) os → AreChains f n (kept (o ∷ os))
  chains_well f None os w all = chains_all f (kept os) w (kept_well f os all)
  chains_well f (Some s) os w all = (w, kept_well f os all)

  selectors_well : (f : ListKind) (o : Option (List Part)) (text : List ℕ) (ss : List (List Part))
      (rest : List ℕ) → IsPart f o → selectors_after n.names f (next_condition n) o text ≡ got ss rest
      → AreChains f n ss
  selectors_well f o text ss rest w h = by (with_first o (items next text)) refl h
    where
      next : List ℕ → Step (Option (List Part))
      next = next_listed n.names f (next_condition n)

      by : (r : Reading (List (Option (List Part)))) → with_first o (items next text) ≡ r
          → keep r ≡ got ss rest → AreChains f n ss
      by (refused why t) e k = absurd (cc)
      by (got os t) e k =
          let g = first_of_all o (items next text) os t e in
          let is : kept os ≡ ss = cc in
          subst (AreChains f n) (ap kept g.is ∙ is)
          (chains_well f o g.others w (all_items next (IsPart f) (next_well f) text g.others t g.reads))

  complexes_well : (f : ListKind) (text : List ℕ) (ss : List (List Part)) (rest : List ℕ)
      → complex_list n.names f (next_condition n) text ≡ got ss rest → AreChains f n ss
  unfolding complex_list
  complexes_well f text ss rest h =
      let next : Finder = next_condition n in
      let i = followed (listed_part n.names f next text) (λ first. selectors_after n.names f next first >>= λ all.
      closing close_parenthesis >> give all) ss rest h in
      let g = followed (selectors_after n.names f next i.value i.middle) (λ all.
      closing close_parenthesis >> give all) ss rest i.second in
      let c = followed (closing close_parenthesis g.middle) (λ x. give g.value) ss rest g.second in
      let is : g.value ≡ ss = (let e = c.second in cc) in
      subst (AreChains f n) is
      (selectors_well f i.value i.middle g.value g.middle (listed_well f text i.value i.middle i.first)
      g.first)

-- ---- conditions

module _ (n : Room) (list : ListReader) (well : (kind : ListKind) (opened text : List ℕ)
    (ss : List (List Part)) (rest : List ℕ) → list kind opened text ≡ got ss rest
    → IsList kind n (selectors_from ss)) where
  argument_well : (opened name text : List ℕ) (kind : Option ListKind) (c : Condition)
      (rest : List ℕ) → IsName name → list_kind name ≡ kind
      → with_argument n.names list opened name kind (function_named name) text ≡ got c rest
      → IsFurtherCondition n c
  argument_well opened name text None c rest some no_list h =
      functional_well n list opened (well Not opened) name text (function_named name) c rest some
      no_list refl h
  argument_well opened name text (Some kind) c rest some is_list h =
      let f = followed (list kind opened text) (λ all. give (listed kind all)) c rest h in
      let is : listed kind f.value ≡ c = (let e = f.second in cc) in
      subst (IsFurtherCondition n) is
      (by kind f.value (well kind opened text f.value f.middle f.first))
    where
      by : (k : ListKind) (ss : List (List Part)) → IsList k n (selectors_from ss)
          → IsFurtherCondition n (listed k ss)
      by Not ss w = w
      by Is ss w = w
      by Where ss w = w
      by Has ss w = (tt, w)

  condition_here_well : (text : List ℕ) (c : Condition) (rest : List ℕ)
      → condition_here n.names list text ≡ item c rest → IsFurtherCondition n c
  condition_here_well text c rest h = by (begins_pseudo_class text) h
    where
      further : (step : Step Simple) → ((s : Simple) (t : List ℕ) → step ≡ item s t → IsFurther n.names s)
          → simple_item step ≡ item c rest → IsFurtherCondition n c
      further (item s t) well k =
          let is : simple s ≡ c = cc in
          subst (IsFurtherCondition n) is (well s t refl)
      further none well k = absurd (cc)
      further (stop why t) well k = absurd (cc)

      after : (m t : List ℕ) → IsName m → (o : Bool) → (if o
          then as_item (λ c. c)
          (with_argument n.names list text m (list_kind m) (function_named m) (past_one t))
          else simple_item (named_pseudo n.names text m t)) ≡ item c rest → IsFurtherCondition n c
      after m t some true k =
          let f = made (λ x. x)
          (with_argument n.names list text m (list_kind m) (function_named m) (past_one t)) c rest k in
          subst (IsFurtherCondition n) f.is
          (argument_well text m (past_one t) (list_kind m) f.value rest some refl f.first)
      after m t some false k =
          further (named_pseudo n.names text m t) (λ s u e. named_pseudo_well n.names text m t s u some e) k

      named : List ℕ
      named = past_comments (past_one text)

      by : (t : Bool) → (if t then step_after (name named) (pseudo_condition n.names list text)
          else simple_item (next_simple n.names text)) ≡ item c rest → IsFurtherCondition n c
      by false k = further (next_simple n.names text) (next_simple_well n.names text) k
      by true k =
          let f = found_after (name named) (pseudo_condition n.names list text) c rest k in
          after f.value f.middle (name_well named f.value f.middle f.first)
          (starts open_parenthesis f.middle) f.second

  condition_by_well : (text : List ℕ) (c : Condition) (rest : List ℕ)
      → condition_by n.names list text ≡ item c rest → IsFurtherCondition n c
  condition_by_well text c rest h = condition_here_well (past_comments text) c rest h

-- a list may be open where it is read
list_well_by : (names : Names) (d : ℕ) (in_has : Bool) → ((h : Bool) → FurtherWell (room_of names d h))
    → (kind : ListKind) (opened text : List ℕ) (ss : List (List Part)) (rest : List ℕ)
    → list_by names in_has (condition_at names d) kind opened text ≡ got ss rest
    → IsList kind (room_of names (suc d) in_has) (selectors_from ss)
list_well_by names d in_has well kind opened text ss rest h = by (may_open kind in_has) refl h
  where
    by : (t : Bool) → may_open kind in_has ≡ t
        → (if t then complex_list names kind (condition_at names d (is_relative kind || in_has)) text
        else refused Unexpected opened) ≡ got ss rest
        → IsList kind (room_of names (suc d) in_has) (selectors_from ss)
    by false e k = absurd (cc)
    by true e k =
        chains_in kind (room_of names (suc d) in_has) ss (omega arith, e)
        (complexes_well (room_of names d (is_relative kind || in_has)) (well (is_relative kind || in_has))
        kind text ss rest k)

condition_at_well : (names : Names) (d : ℕ) (in_has : Bool) → FurtherWell (room_of names d in_has)
unfolding condition_at
condition_at_well names zero in_has text c rest h =
    condition_by_well (room_of names zero in_has) too_deep (λ kind opened t ss u e. absurd (cc)) text c rest h
condition_at_well names (suc d) in_has text c rest h =
    condition_by_well (room_of names (suc d) in_has) (list_by names in_has (condition_at names d))
    (list_well_by names d in_has (condition_at_well names d)) text c rest h

next_condition_well : (n : Room) → FurtherWell n
next_condition_well n = condition_at_well n.names n.depth n.in_has

-- the conditions of a compound selector, of which there may be none before a pseudo-element
abbrev Conditions : (names : Names) → List Condition → List ℕ → Type 0
Conditions names cs rest =
    AreConditions names false cs ⊎ ((cs ≡ []) × (starts colon rest ≡ true))

conditions_well : (names : Names) (text : List ℕ) (cs : List Condition) (rest : List ℕ)
    → conditions names text ≡ got cs rest → Conditions names cs rest
unfolding conditions
conditions_well names text cs rest h =
    by (row_well (outside names) (next_condition_well (outside names)) some_or_element element_keeps text cs rest
    (sym (some_or_element_after names text (type_selector names text)) ∙ h))
  where
    some : (ds : List Condition) → IsRow (outside names) ds → AreConditions names false ds
    some [] w = absurd w
    some (d ∷ ds) w = w

    element : (t : Bool) → starts colon text ≡ t
        → (if t then got [] rest else some_of {A = Condition} text (got [] rest)) ≡ got [] rest
        → starts colon text ≡ true
    element true e k = e
    element false e k = absurd (cc)

    by : Row (outside names) some_or_element text cs rest → Conditions names cs rest
    by (inl w) = inl (some cs w)
    by (inr w) = inr (w.0, ap (starts colon) w.1 ∙ element (starts colon text) refl w.2)

-- ---- selectors

-- a compound selector after another
part_well : (names : Names) (text : List ℕ) (p : Part) (rest : List ℕ) → next_part names text ≡ item p rest
    → Conditions names p.conditions rest
unfolding next_part
part_well names text p rest h = part_after_well (conditions names) (Conditions names) (conditions_well names) text p rest h

-- no compound selector follows where a pseudo-element begins
no_part_there : (names : Names) (text : List ℕ) → starts colon text ≡ true → next_part names text ≡ none
unfolding next_part
no_part_there names [] h = absurd (cc)
no_part_there names (b ∷ text) h =
    subst (λ (d : ℕ). next_part names (d ∷ text) ≡ none) (sym (eqb-true b colon h))
    (no_part_at (conditions names) colon text (no_gap-byte colon text refl refl) refl)

-- conditions of which there are some stay so before a pseudo-element
any_conditions : (names : Names) (e : Bool) (cs : List Condition) → AreConditions names false cs → AreConditions names e cs
any_conditions names e [] w = absurd (cc)
any_conditions names e (c ∷ cs) w = w

last_well : (names : Names) (p : Part) (text : List ℕ) → Conditions names p.conditions text
    → AreConditions names (starts colon text && true) p.conditions
last_well names p text (inl w) = any_conditions names (starts colon text && true) p.conditions w
last_well names p text (inr w) =
    subst (AreConditions names (starts colon text && true)) (sym w.0) (ap (λ t. t && true) w.1)

-- no further part is read
none_further : (names : Names) (p : Part) (text : List ℕ) (ps : List Part) (end : List ℕ)
    → Conditions names p.conditions text → [] ≡ ps → text ≡ end → AreParts names (starts colon end) (p ∷ ps)
none_further names p text ps end w nothing same =
    subst (λ (qs : List Part). AreParts names (starts colon end) (p ∷ qs)) nothing (
      subst (λ (t : List ℕ). AreConditions names (starts colon t && true) p.conditions) same
          (last_well names p text w),
      tt,
    )

parts_up_to : (names : Names) (n : ℕ) (p : Part) (text : List ℕ) (ps : List Part) (end : List ℕ)
    → Conditions names p.conditions text → items_up_to n (next_part names) text ≡ got ps end
    → AreParts names (starts colon end) (p ∷ ps)
parts_up_to names zero p text ps end w h = none_further names p text ps end w (cc) (cc)
parts_up_to names (suc n) p text ps end w h = by (next_part names text) refl h (parts_up_to names n)
  where
    front : (s : Part) (t : List ℕ) → next_part names text ≡ item s t → Conditions names p.conditions text
        → AreConditions names false p.conditions
    front s t e (inl v) = v
    front s t e (inr v) = absurd (let k = no_part_there names text v.1 in cc)

    by : (s : Step Part) → next_part names text ≡ s → go_on text s (items_up_to n (next_part names)) ≡ got ps end
        → ((q : Part) (t : List ℕ) (qs : List Part) (u : List ℕ) → Conditions names q.conditions t
        → items_up_to n (next_part names) t ≡ got qs u → AreParts names (starts colon u) (q ∷ qs))
        → AreParts names (starts colon end) (p ∷ ps)
    by none e k more = none_further names p text ps end w (cc) (cc)
    by (stop why t) e k more = absurd (cc)
    by (item s t) e k more =
        let f = first_of_all s (items_up_to n (next_part names) t) ps end k in
        subst (λ (l : List Part). AreParts names (starts colon end) (p ∷ l)) f.is (
          any_conditions names (starts colon end && false) p.conditions (front s t e w),
          more s t f.others end (part_well names text s t e) f.reads,
        )

-- the compound selectors of a selector
record PartsWell (names : Names) (ps : List Part) (end : List ℕ) : Type 0 where
  pub plain : BeginsPlain ps
  pub are : AreParts names (starts colon end) ps

first_parts : (names : Names) (p : Part) (text : List ℕ) (ps : List Part) (end : List ℕ)
    → p.combinator ≡ Descendant → Conditions names p.conditions text
    → with_first p (items (next_part names) text) ≡ got ps end → PartsWell names ps end
first_parts names p text ps end plain w h =
    let f = first_of_all p (items (next_part names) text) ps end h in
    subst (λ (l : List Part). PartsWell names l end) f.is
    (record { plain = plain; are = parts_up_to names (length text) p text f.others end w f.reads })

parts_well : (names : Names) (text : List ℕ) (ps : List Part) (end : List ℕ) → parts names text ≡ got ps end
    → PartsWell names ps end
unfolding parts
parts_well names text ps end h =
    let f = followed (gap text) (λ x. conditions names >>= λ first.
    one_more (joined_by Descendant first) (items (next_part names))) ps end h in
    let g = followed (conditions names f.middle) (λ first.
    one_more (joined_by Descendant first) (items (next_part names))) ps end f.second in
    first_parts names (joined_by Descendant g.value) g.middle ps end refl
    (conditions_well names f.middle g.value g.middle g.first) g.second

-- ---- pseudo-elements

element_argument_well : (names : Names) (opened n text : List ℕ) (a : Option (List ℕ)) (rest : List ℕ)
    → element_argument names opened n text ≡ got a rest → IsElementArgument names n a
unfolding element_argument
element_argument_well names opened n text a rest h = by (starts open_parenthesis text) h
  where
    plain : (t : Bool) → is_element names n ≡ t
        → (if t then got None text else refused UnknownName opened) ≡ got a rest
        → IsElementArgument names n a
    plain true e k = let is : None ≡ a = cc in subst (IsElementArgument names n) is e
    plain false e k = absurd (cc)

    by : (t : Bool) → (if t
        then follow (argument_of (element_functions names) opened n (past_one text)) (λ b. give (Some b))
        else (if is_element names n then got None text else refused UnknownName opened)) ≡ got a rest
        → IsElementArgument names n a
    by false k = plain (is_element names n) refl k
    by true k =
        let f = followed (argument_of (element_functions names) opened n (past_one text)) (λ b. give (Some b))
        a rest k in
        let is : Some f.value ≡ a = (let e = f.second in cc) in
        subst (IsElementArgument names n) is
        (argument_of_well (element_functions names) opened n (past_one text) f.value f.middle f.first)

abbrev NamedElement : Type 0
NamedElement = List ℕ × Option (List ℕ)

element_name_well : (names : Names) (opened text : List ℕ) (e : NamedElement) (rest : List ℕ)
    → element_name names opened text ≡ got e rest → IsElementName names e.0 e.1
unfolding element_name
element_name_well names opened text e rest h =
    let named : List ℕ = past_colon (past_comments text) in
    let f = followed (name named) (λ n. element_argument names opened n >>= λ a. give (n, a)) e rest h in
    let g = followed (element_argument names opened f.value f.middle) (λ a. give (f.value, a)) e rest
    f.second in
    let is : (f.value, g.value) ≡ e = (let k = g.second in cc) in
    subst (λ (x : NamedElement). IsElementName names x.0 x.1) is (
      name_well named f.value f.middle f.first,
      element_argument_well names opened f.value f.middle g.value g.middle g.first,
    )

-- what is read from a colon on is no other simple selector
abbrev IsClass : Condition → Type 0
IsClass (simple s) = is_pseudo_class s ≡ true
IsClass c = Unit {0}

class_of_numbered : (list : ListReader) (opened : List ℕ) (kind : Numbering) (p : Progression)
    (o : Option ListTest) (text : List ℕ) (c : Condition) (rest : List ℕ)
    → after_progression list opened kind p o text ≡ got c rest → IsClass c
class_of_numbered list opened kind p o text c rest h = by o h
  where
    without : without_list kind p text ≡ got c rest → IsClass c
    without k =
        let f = followed (closing close_parenthesis text)
        (λ x. give (simple (structure (numbered_by kind p)))) c rest k in
        let is : simple (structure (numbered_by kind p)) ≡ c = (let e = f.second in cc) in
        subst IsClass is refl

    word : (test : ListTest) (mid : List ℕ) (t : Bool) → (if t then of_list list test opened mid
        else refused Unexpected text) ≡ got c rest → IsClass c
    word test mid true k =
        let f = followed (list Not opened mid) (λ ss. give (tested test (selectors_from ss))) c rest k
        in
        let is : tested test (selectors_from f.value) ≡ c = (let e = f.second in cc) in
        subst IsClass is tt
    word test mid false k = absurd (cc)

    named : (test : ListTest) (t : Bool)
        → (if t then follow (name text) (after_word list opened test text)
        else without_list kind p text) ≡ got c rest → IsClass c
    named test true k =
        let f = followed (name text) (after_word list opened test text) c rest k in
        word test f.middle (is_word (codes "of") f.value) f.second
    named test false k = without k

    by : (o : Option ListTest) → after_progression list opened kind p o text ≡ got c rest → IsClass c
    by None k = without k
    by (Some test) k = named test (begins_name text) k

class_of_functional : (names : Names) (list : ListReader) (opened n text : List ℕ) (kind : Option Function)
    (c : Condition) (rest : List ℕ) → functional names list opened n kind text ≡ got c rest → IsClass c
class_of_functional names list opened n text None c rest h =
    let f = followed (argument_of (functions names) opened n text) (λ a. give (simple (function n a))) c rest h
    in
    let is : simple (function n f.value) ≡ c = (let e = f.second in cc) in
    subst IsClass is refl
class_of_functional names list opened n text (Some Language) c rest h =
    let f = followed (language_ranges text) (λ ranges. give (simple (language ranges))) c rest h in
    let is : simple (language f.value) ≡ c = (let e = f.second in cc) in
    subst IsClass is refl
class_of_functional names list opened n text (Some (Numbered kind)) c rest h =
    let r = numbered_read list opened kind text c rest h in
    class_of_numbered list opened kind r.value (list_test kind r.value) r.after c rest r.last

class_of_name : (names : Names) (opened n text : List ℕ) (c : Condition) (rest : List ℕ)
    → simple_item (named_pseudo names opened n text) ≡ item c rest → IsClass c
class_of_name names opened n text c rest h = by (is_old_element n) (plain_structure n) h
  where
    known : (t : Bool) → simple_item (as_item (λ s. s)
        (if t then got (state n) text else refused UnknownName opened)) ≡ item c rest → IsClass c
    known true k = let is : simple (state n) ≡ c = cc in subst IsClass is refl
    known false k = absurd (cc)

    by : (t : Bool) (o : Option Structure)
        → simple_item (if t then none else as_item (λ s. s) (plain_pseudo names opened n o text))
        ≡ item c rest → IsClass c
    by true o k = absurd (cc)
    by false None k = known (is_one_of (states names) n) k
    by false (Some s) k = let is : simple (structure s) ≡ c = cc in subst IsClass is refl

class_of_argument : (names : Names) (list : ListReader) (opened n text : List ℕ) (kind : Option ListKind)
    (c : Condition) (rest : List ℕ)
    → with_argument names list opened n kind (function_named n) text ≡ got c rest → IsClass c
class_of_argument names list opened n text None c rest h =
    class_of_functional names list opened n text (function_named n) c rest h
class_of_argument names list opened n text (Some kind) c rest h =
    let f = followed (list kind opened text) (λ all. give (listed kind all)) c rest h in
    let is : listed kind f.value ≡ c = (let e = f.second in cc) in
    subst IsClass is (by kind f.value)
  where
    by : (k : ListKind) (ss : List (List Part)) → IsClass (listed k ss)
    by Not ss = tt
    by Is ss = tt
    by Where ss = tt
    by Has ss = tt

class_here : (names : Names) (list : ListReader) (text : List ℕ) (c : Condition) (rest : List ℕ)
    → condition_here names list (colon ∷ text) ≡ item c rest → IsClass c
unfolding next_simple
class_here names list text c rest h = by (begins_pseudo_class (colon ∷ text)) h
  where
    named : List ℕ
    named = past_comments text

    after : (m t : List ℕ) (o : Bool) → (if o
        then as_item (λ c. c)
        (with_argument names list (colon ∷ text) m (list_kind m) (function_named m) (past_one t))
        else simple_item (named_pseudo names (colon ∷ text) m t)) ≡ item c rest → IsClass c
    after m t true k =
        let f = made (λ x. x)
        (with_argument names list (colon ∷ text) m (list_kind m) (function_named m) (past_one t)) c rest
        k in
        subst IsClass f.is
        (class_of_argument names list (colon ∷ text) m (past_one t) (list_kind m) f.value rest f.first)
    after m t false k = class_of_name names (colon ∷ text) m t c rest k

    by : (t : Bool) → (if t then step_after (name named) (pseudo_condition names list (colon ∷ text))
        else simple_item (next_simple names (colon ∷ text))) ≡ item c rest → IsClass c
    by false k = absurd (cc)
    by true k =
        let f = found_after (name named) (pseudo_condition names list (colon ∷ text)) c rest k in
        after f.value f.middle (starts open_parenthesis f.middle) f.second

next_class : (names : Names) (text : List ℕ) (c : Condition) (rest : List ℕ) → starts colon text ≡ true
    → next_condition (outside names) text ≡ item c rest → IsClass c
unfolding condition_at
next_class names [] c rest h k = absurd (cc)
next_class names (b ∷ text) c rest h k =
    let is : b ≡ colon = eqb-true b colon h in
    let list : ListReader = list_by names false (condition_at names 31) in
    let here : condition_by names list (colon ∷ text) ≡ item c rest =
    subst (λ (d : ℕ). condition_by names list (d ∷ text) ≡ item c rest) is k in
    class_here names list text c rest
    (sym (ap (condition_here names list) (no_comments (colon ∷ text) refl)) ∙ here)

class_after : (names : Names) (c : Condition) → IsClass c → IsFurtherCondition (outside names) c → IsAfterElement names c
class_after names (simple universal) k w = absurd w
class_after names (simple (type_name n)) k w = absurd w
class_after names (simple (id n)) k w = (k, w)
class_after names (simple (class n)) k w = (k, w)
class_after names (simple (has_attribute n)) k w = (k, w)
class_after names (simple (attribute n c v ignores)) k w = (k, w)
class_after names (simple (structure s)) k w = (k, w)
class_after names (simple (language ranges)) k w = (k, w)
class_after names (simple (state n)) k w = (k, w)
class_after names (simple (function n a)) k w = (k, w)
class_after names (simple (named_element n a)) k w = absurd w
class_after names (simple (nesting list)) k w = (k, w)
class_after names (simple (namespaced namespace local)) k w = (k, w)
class_after names (negation selectors) k w = w
class_after names (any_of selectors) k w = w
class_after names (where_any selectors) k w = w
class_after names (tested test selectors) k w = w

-- what follows a pseudo-element
after_element_well : (names : Names) (text : List ℕ) (c : Condition) (rest : List ℕ)
    → after_element names text ≡ item c rest → IsAfterElement names c
unfolding after_element
after_element_well names text c rest h = by (starts colon here) refl h
  where
    here : List ℕ
    here = past_comments text

    kind : starts colon here ≡ true → (step : Step Condition) → next_condition (outside names) here ≡ step
        → class_or_element names here step ≡ item c rest → IsAfterElement names c
    kind s (item d t) e k =
        let is : d ≡ c = cc in
        subst (IsAfterElement names) is
        (class_after names d (next_class names here d t s e) (next_condition_well (outside names) here d t e))
    kind s none e k =
        let f = made named_condition (element_name names here (past_one here)) c rest k in
        subst (IsAfterElement names) f.is (element_name_well names here (past_one here) f.value rest f.first)
    kind s (stop why t) e k = absurd (cc)

    by : (t : Bool) → starts colon here ≡ t
        → (if t then class_or_element names here (next_condition (outside names) here) else none) ≡ item c rest
        → IsAfterElement names c
    by false s k = absurd (cc)
    by true s k = kind s (next_condition (outside names) here) refl k

-- the pseudo-element, if there is one
record ElementWell (names : Names) (text : List ℕ) (element : Option PseudoElement) : Type 0 where
  pub there : starts colon text ≡ is_some element
  pub well : ForSome element (IsPseudoElement names)

element_well : (names : Names) (text : List ℕ) (element : Option PseudoElement) (rest : List ℕ)
    → pseudo_element names text ≡ got element rest → ElementWell names text element
unfolding pseudo_element
element_well names text element rest h = by (starts colon text) refl h
  where
    by : (t : Bool) → starts colon text ≡ t
        → (if t then follow (element_name names text (past_one text)) (with_after names) else got None text)
        ≡ got element rest → ElementWell names text element
    by false e k =
        let is : None ≡ element = cc in
        subst (ElementWell names text) is (record { there = e; well = λ n same. absurd (cc) })
    by true e k =
        let f = followed (element_name names text (past_one text)) (with_after names) element rest k in
        let g = followed (items (after_element names) f.middle)
        (λ cs. give (Some (element_named f.value.0 f.value.1 cs))) element rest f.second in
        let is : Some (element_named f.value.0 f.value.1 g.value) ≡ element =
        (let l = g.second in cc) in
        let named = element_name_well names text (past_one text) f.value f.middle f.first in
        let all = all_items (after_element names) (IsAfterElement names) (after_element_well names) f.middle g.value
        g.middle g.first in
        subst (ElementWell names text) is (record {
          there = e;
          well = λ n same.
              let own : element_named f.value.0 f.value.1 g.value ≡ n = cc in
              subst (IsPseudoElement names) own (named, all);
        })

-- what is before a pseudo-element may be before comments and one
parts_stay : (names : Names) (e : Bool) (ps : List Part) → AreParts names false ps → AreParts names e ps
parts_stay names e [] w = tt
parts_stay names e (p ∷ ps) w =
    (any_conditions names (e && is_last ps) p.conditions w.0, parts_stay names e ps w.1)

before_comments : (names : Names) (text : List ℕ) (ps : List Part) (t : Bool) → starts colon text ≡ t
    → AreParts names (starts colon text) ps → AreParts names (starts colon (past_comments text)) ps
before_comments names text ps true e w = by text e w
  where
    by : (l : List ℕ) → starts colon l ≡ true → AreParts names (starts colon l) ps
        → AreParts names (starts colon (past_comments l)) ps
    by [] h v = absurd (cc)
    by (b ∷ l) h v =
        let is : b ≡ colon = eqb-true b colon h in
        let none : opens_comment (b ∷ l) ≡ false =
        subst (λ d. opens_comment (d ∷ l) ≡ false) (sym is) refl in
        subst (λ (m : List ℕ). AreParts names (starts colon m) ps) (sym (no_comments (b ∷ l) none)) v
before_comments names text ps false e w =
    parts_stay names (starts colon (past_comments text)) ps
    (subst (λ (t : Bool). AreParts names t ps) e w)

-- of a relative selector, too
relative_well : (names : Names) (text : List ℕ) (ps : List Part) (end : List ℕ) → relative_parts names text ≡ got ps end
    → PartsWell names ps end
unfolding relative_parts
relative_well names text ps end h = by (first_sign text) h
  where
    by : (k : Option Combinator) → after_sign names text k ≡ got ps end → PartsWell names ps end
    by None k = parts_well names text ps end k
    by (Some c) k =
        first_parts names (nesting_part outermost) text ps end refl
        (inl (refl, All-nil (IsFurtherCondition (outside names)))) k

start_well : (names : Names) (start : Start) (text : List ℕ) (ps : List Part) (end : List ℕ)
    → start_parts names start text ≡ got ps end → PartsWell names ps end
start_well names Plain text ps end h = parts_well names text ps end h
start_well names Relative text ps end h = relative_well names text ps end h

placed_well : (names : Names) (start : Start) (text : List ℕ) (p : Placed) (rest : List ℕ)
    → placed_by names start text ≡ got p rest → IsWellFormed names p.selector
unfolding placed_by
placed_well names start text p rest h =
    let a = followed (gap text) _ p rest h in
    let b = followed (start_parts names start a.middle) _ p rest a.second in
    let c = followed (pseudo_element names (past_comments b.middle)) _ p rest b.second in
    let d = followed (gap c.middle) _ p rest c.second in
    let is : placed_as (in_default names.default_namespace b.value) c.value a.middle b.middle (past_comments b.middle) c.middle ≡ p =
    (let e = d.second in cc) in
    let w = start_well names start a.middle b.value b.middle b.first in
    let e = element_well names (past_comments b.middle) c.value c.middle c.first in
    subst (λ (q : Placed). IsWellFormed names q.selector) is (
      selector_with b.value c.value,
      (
        w.plain,
        subst (λ (t : Bool). AreParts names t b.value) e.there
            (before_comments names b.middle b.value (starts colon b.middle) refl w.are),
        e.well,
      ),
      refl,
    )

pub selector-well : (names : Names) (text : List ℕ) (s : Selector) (rest : List ℕ) → selector names text ≡ got s rest
    → IsWellFormed names s
unfolding selector placed_selector
selector-well names text s rest h =
    let f = followed (placed_selector names text) (λ p. give p.selector) s rest h in
    let g = followed (placed names text) (λ p. at_end >> give p) f.value f.middle f.first in
    let k = followed (at_end g.middle) (λ x. give g.value) f.value f.middle g.second in
    let same : g.value ≡ f.value = (let e = k.second in cc) in
    let is : f.value.selector ≡ s = (let e = f.second in cc) in
    subst (IsWellFormed names) is
    (subst (λ (q : Placed). IsWellFormed names q.selector) same
    (placed_well names Plain text g.value g.middle g.first))

next_placed_well : (names : Names) (start : Start) (text : List ℕ) (p : Placed) (rest : List ℕ)
    → next_placed names start text ≡ item p rest → IsWellFormed names p.selector
unfolding next_placed
next_placed_well names start text p rest h = by (starts comma text) h
  where
    by : (t : Bool) → (if t then as_item (λ q. q) (placed_by names start (past_one text)) else none)
        ≡ item p rest → IsWellFormed names p.selector
    by false k = absurd (cc)
    by true k =
        let m = made (λ q. q) (placed_by names start (past_one text)) p rest k in
        subst (λ (q : Placed). IsWellFormed names q.selector) m.is
        (placed_well names start (past_one text) m.value rest m.first)

pub list_well : (names : Names) (start : Start) (text : List ℕ) (all : List Placed) (rest : List ℕ)
    → placed_list_by names start text ≡ got all rest → All (λ p. IsWellFormed names p.selector) all
unfolding placed_list_by
list_well names start text all rest h =
    let f = followed (placed_by names start text) (λ first. one_more first (items (next_placed names start))
    >>= λ ps. at_end >> give ps) all rest h in
    let g = followed (one_more f.value (items (next_placed names start)) f.middle)
    (λ ps. at_end >> give ps) all rest f.second in
    let k = followed (at_end g.middle) (λ x. give g.value) all rest g.second in
    let is : g.value ≡ all = (let e = k.second in cc) in
    let m = first_of_all f.value (items (next_placed names start) f.middle) g.value g.middle g.first in
    let others = all_items (next_placed names start) (λ p. IsWellFormed names p.selector) (next_placed_well names start)
    f.middle m.others g.middle m.reads in
    subst (All (λ p. IsWellFormed names p.selector)) is
    (subst (All (λ p. IsWellFormed names p.selector)) m.is
    (All-cons (λ p. IsWellFormed names p.selector) f.value m.others
    (placed_well names start text f.value f.middle f.first) others))
