-- A printed selector reads back.
-- Serves `printing_laws::printing_law`.
use Rattle.std.proofs.Common.{◌≡◌, ℕ, ◌≤◌, ◌&&◌, Bool, true, false, List, [], ◌∷◌, ◌++◌, Option, None, Some, All, length, flat_map, append_assoc, append-nil, arith, refl, sym, ap, ◌∙◌, subst, eqb-true}
use Rattle.std.specs.Option.{is_some, ForSome}
use Rattle.std.proofs.lemmas.List.Elements.{All-head, All-tail}
use Rattle.css_text.specs.AsciiBytes.{close_parenthesis, colon, open_parenthesis, slash}
use Rattle.css_text.specs.Bytes.{starts}
use Rattle.css_text.specs.Comments.{blank_part, opens_comment}
use Rattle.css_text.proofs.bytes.GapLemmas.{NoGap, no_gap-byte}
use Rattle.css_text.proofs.reading.EachLemmas.{each-none}
use Rattle.css_matching.specs.declared.Combinator.{Combinator}
use Rattle.css_matching.specs.declared.Combinator.TheVariants.{Descendant, Child, Adjacent, Sibling}
use Rattle.css_selector_text.specs.Components.{Structure, ListTest, Condition, Part, PseudoElement, Selector, Selectors}
use Rattle.css_selector_text.specs.Components.ListTest.{has, nth_child as nth_child_list, nth_last_child as nth_last_child_list}
use Rattle.css_selector_text.specs.Components.Structure.{root, scope, empty, first_child, last_child, only_child, first_of_type, last_of_type, only_of_type, nth_child, nth_last_child, nth_of_type, nth_last_of_type}
use Rattle.css_selector_text.specs.Components.Simple.{universal, type_name, id, class, has_attribute, attribute, structure, language, state, function, named_element, nesting, namespaced}
use Rattle.css_selector_text.specs.Components.Condition.{simple, negation, any_of, where_any, tested}
use Rattle.css_selector_text.specs.reading.Readings.{got, follow, give, ◌>>=◌, item, none, as_item, with_first, items}
use Rattle.css_selector_text.specs.reading.Grammar.{gap, past_comments, past_colon, name, begins_pseudo_class, next_condition, next_simple, outside, conditions, joined_by, part_after, next_part, one_more, element_argument, element_name, element_named, named_condition, class_or_element, after_element_here, after_element, with_after, pseudo_element, selector_with, parts, placed_by, placed_selector, selector}
use Rattle.css_selector_text.specs.printing.Printing.{identifier_text, argument_text, structure_text, simple_text, condition_text, combinator_text, part_text, parts_text, pseudo_element_text, selector_text}
use Rattle.css_selector_text.specs.reading.KnownNames.{element_functions}
use Rattle.css_selector_text.specs.printing.WellFormed.{IsElementArgument, IsElementName, IsAfterElement, IsPseudoElement, IsFurtherCondition, AreConditions, is_last, AreParts, BeginsPlain, IsWritten, IsWellFormed}
use Rattle.css_syntax.proofs.CommentLemmas.{no_comments}
use Rattle.css_selector_text.proofs.round_trip.SpelledAgain.{EndsName, name-again, begins-again}
use Rattle.css_selector_text.proofs.round_trip.NumbersAgain.{no_gap}
use Rattle.css_selector_text.proofs.round_trip.SimplesAgain.{EachReads, items-again, ends, ends_name, opens_none, begins_solid, name_other, no_comment_here, call_end, argument_of-again}
use Rattle.css_selector_text.proofs.round_trip.CompoundsAgain.{none_read, condition-again, Follows, conditions-again, conditions_begin, part-again, part_some, no_part_at}
use Rattle.css_selector_text.specs.reading.Defaults.{in_default, selector_in}
use Rattle.css_selector_text.proofs.round_trip.DefaultTexts.{selector_in-prints}
use Rattle.css_selector_text.specs.Names.{Names}

-- a compound selector after another
part_joined : (names : Names) (e : Bool) (c : Combinator) (cs : List Condition) (rest : List ℕ)
    → AreConditions names e cs → Follows names e rest
    → next_part names ((combinator_text c ++ flat_map condition_text cs) ++ rest)
    ≡ item (joined_by c cs) rest
unfolding next_part
part_joined names e c cs rest w f =
    part-again (conditions names) c cs rest (conditions_begin names e cs rest w f) (conditions-again names e cs rest w f)

-- ---- the end of a selector

-- nothing more is read there
last_read : (names : Names) (text : List ℕ) → opens_comment text ≡ false → begins_pseudo_class text ≡ false
    → next_simple names text ≡ none → next_condition (outside names) text ≡ none
last_read names = none_read (outside names)

nothing_follows : (names : Names) → Follows names false []
unfolding next_simple
nothing_follows names =
    record { ended = refl; last = last_read names [] refl refl refl; element = λ e. absurd (cc) }

element_follows : (names : Names) (e : Bool) (text : List ℕ) → Follows names e (colon ∷ colon ∷ text)
unfolding next_simple
element_follows names e text =
    let none = no_comments (colon ∷ text) refl in
    let other : begins_pseudo_class (colon ∷ colon ∷ text) ≡ false = rw none refl in
    record {
      ended = refl;
      last = last_read names (colon ∷ colon ∷ text) refl other refl;
      element = λ h. refl;
    }

part_follows : (names : Names) (c : Combinator) (text : List ℕ) → Follows names false (combinator_text c ++ text)
unfolding next_simple
part_follows names c text = record {
  ended = by c;
  last = last_by c;
  element = λ e. absurd (cc);
}
  where
    by : (c : Combinator) → ends (combinator_text c ++ text) ≡ true
    by Descendant = refl
    by Child = refl
    by Adjacent = refl
    by Sibling = refl

    last_by : (c : Combinator) → next_condition (outside names) (combinator_text c ++ text) ≡ none
    last_by Descendant = last_read names _ refl refl refl
    last_by Child = last_read names _ refl refl refl
    last_by Adjacent = last_read names _ refl refl refl
    last_by Sibling = last_read names _ refl refl refl

end_follows : (names : Names) (element : Option PseudoElement) → Follows names (is_some element) (pseudo_element_text element)
end_follows names None = nothing_follows names
end_follows names (Some e) = element_follows names true _

nil_solid : NoGap []
nil_solid = record { none = each-none blank_part [] refl; closed = refl }

no_part : (names : Names) (element : Option PseudoElement) → next_part names (pseudo_element_text element) ≡ none
unfolding next_part
no_part names None = ap (part_after (conditions names)) (no_gap [] nil_solid)
no_part names (Some e) = no_part_at (conditions names) colon _ (no_gap-byte colon _ refl refl) refl

module _ (names : Names) (element : Option PseudoElement) where
  end : List ℕ
  end = pseudo_element_text element

  parts_follow : (ps : List Part) → Follows names (is_some element && is_last ps) (flat_map part_text ps
      ++ end)
  unfolding end
  parts_follow [] = by element
    where
      by : (o : Option PseudoElement) → Follows names (is_some o && true) (pseudo_element_text o)
      by None = end_follows names None
      by (Some e) = end_follows names (Some e)
  parts_follow (p ∷ ps) = by (is_some element)
    where
      others : List ℕ
      others = flat_map part_text ps ++ pseudo_element_text element

      joined : ((combinator_text p.combinator ++ flat_map condition_text p.conditions)
          ++ flat_map part_text ps) ++ pseudo_element_text element
          ≡ combinator_text p.combinator ++ (flat_map condition_text p.conditions ++ others)
      joined =
          append_assoc (combinator_text p.combinator ++ flat_map condition_text p.conditions)
          (flat_map part_text ps) (pseudo_element_text element)
          ∙ append_assoc (combinator_text p.combinator) (flat_map condition_text p.conditions)
          others

      by : (t : Bool) → Follows names (t && false) (((combinator_text p.combinator
          ++ flat_map condition_text p.conditions) ++ flat_map part_text ps)
          ++ pseudo_element_text element)
      by true = subst (Follows names false) (sym joined) (part_follows names p.combinator _)
      by false = subst (Follows names false) (sym joined) (part_follows names p.combinator _)

  each_part : (ps : List Part) → AreParts names (is_some element) ps
      → EachReads (next_part names) part_text ps end
  unfolding end
  each_part [] w = no_part names element
  each_part (p ∷ ps) w = (
    part_some p,
    part_joined names (is_some element && is_last ps) p.combinator p.conditions _ w.0 (parts_follow ps),
    each_part ps w.1,
  )

  parts-again : (p : Part) (ps : List Part) → p.combinator ≡ Descendant
      → AreParts names (is_some element) (p ∷ ps) → parts names (parts_text (p ∷ ps) ++ end) ≡ got (p ∷ ps) end
  unfolding parts end
  parts-again p ps plain w =
      let others : List ℕ = flat_map part_text ps ++ end in
      let e : Bool = is_some element && is_last ps in
      let text : List ℕ = flat_map condition_text p.conditions ++ others in
      ap (parts names) (append_assoc (flat_map condition_text p.conditions) (flat_map part_text ps) end)
      ∙ ap (λ r. follow r (λ x. conditions names >>= λ first.
      one_more (joined_by Descendant first) (items (next_part names))))
      (no_gap text (begins_solid text (conditions_begin names e p.conditions others w.0
      (parts_follow ps))))
      ∙ ap (λ r. follow r (λ first. one_more (joined_by Descendant first) (items (next_part names))))
      (conditions-again names e p.conditions others w.0 (parts_follow ps))
      ∙ ap (with_first (joined_by Descendant p.conditions))
      (items-again (next_part names) part_text ps end (each_part ps w.1))
      ∙ ap (λ c. got (joined_by c p.conditions ∷ ps) end) (sym plain)

-- no comment is before it
no_element_comments : (element : Option PseudoElement)
    → past_comments (pseudo_element_text element) ≡ pseudo_element_text element
no_element_comments None = no_comments [] refl
no_element_comments (Some e) = no_comments (colon ∷ colon ∷ _) refl

-- ---- pseudo-elements

-- its argument
element_argument-again : (names : Names) (opened n : List ℕ) (a : Option (List ℕ)) (rest : List ℕ)
    → IsElementArgument names n a → ends rest ≡ true
    → element_argument names opened n (argument_text a ++ rest) ≡ got a rest
unfolding element_argument
element_argument-again names opened n None rest w h =
    let stops = opens_none rest h in
    rw (stops, w) refl
element_argument-again names opened n (Some a) rest w h =
    ap (λ l. element_argument names opened n (open_parenthesis ∷ l))
    (append_assoc a (close_parenthesis ∷ []) rest)
    ∙ ap (λ r. follow r (λ b. give (Some b)))
    (argument_of-again (element_functions names) opened n a rest w)

argument_follows : (a : Option (List ℕ)) (rest : List ℕ) → ends rest ≡ true
    → EndsName (argument_text a ++ rest)
argument_follows None rest h = ends_name rest h
argument_follows (Some a) rest h = call_end _

-- its name, and its argument
element_name-again : (names : Names) (opened n : List ℕ) (a : Option (List ℕ)) (rest : List ℕ) → IsElementName names n a
    → ends rest ≡ true
    → element_name names opened (colon ∷ ((identifier_text n ++ argument_text a) ++ rest)) ≡ got (n, a) rest
unfolding element_name
element_name-again names opened n a rest w h =
    let q : List ℕ = argument_text a ++ rest in
    let e = argument_follows a rest h in
    let text : List ℕ = identifier_text n ++ q in
    let begins = begins-again n q w.0 e in
    ap (λ l. element_name names opened (colon ∷ l))
    (append_assoc (identifier_text n) (argument_text a) rest)
    ∙ ap (λ l. follow (name (past_colon l)) (λ m. element_argument names opened m >>= λ b. give (m, b)))
    (no_comments (colon ∷ text) refl)
    ∙ ap (λ l. follow (name l) (λ m. element_argument names opened m >>= λ b. give (m, b)))
    (no_comments text (no_comment_here text (name_other slash text begins refl)))
    ∙ ap (λ r. follow r (λ m. element_argument names opened m >>= λ b. give (m, b)))
    (name-again n q w.0 e)
    ∙ ap (λ r. follow r (λ b. give (n, b))) (element_argument-again names opened n a rest w.1 h)

-- ---- what follows a pseudo-element

structure_colon : (s : Structure) → starts colon (structure_text s) ≡ true
structure_colon root = refl
structure_colon scope = refl
structure_colon empty = refl
structure_colon first_child = refl
structure_colon last_child = refl
structure_colon only_child = refl
structure_colon first_of_type = refl
structure_colon last_of_type = refl
structure_colon only_of_type = refl
structure_colon (nth_child p) = refl
structure_colon (nth_last_child p) = refl
structure_colon (nth_of_type p) = refl
structure_colon (nth_last_of_type p) = refl

test_colon : (test : ListTest) (selectors : Selectors)
    → starts colon (condition_text (tested test selectors)) ≡ true
test_colon has selectors = refl
test_colon (nth_child_list p) selectors = refl
test_colon (nth_last_child_list p) selectors = refl

after_colon : (names : Names) (c : Condition) → IsAfterElement names c → starts colon (condition_text c) ≡ true
after_colon names (simple universal) w = absurd (let k = w.0 in cc)
after_colon names (simple (type_name n)) w = absurd (let k = w.0 in cc)
after_colon names (simple (id n)) w = absurd (let k = w.0 in cc)
after_colon names (simple (class n)) w = absurd (let k = w.0 in cc)
after_colon names (simple (has_attribute n)) w = absurd (let k = w.0 in cc)
after_colon names (simple (attribute n c v ignores)) w = absurd (let k = w.0 in cc)
after_colon names (simple (structure s)) w = structure_colon s
after_colon names (simple (language ranges)) w = refl
after_colon names (simple (state n)) w = refl
after_colon names (simple (function n a)) w = refl
after_colon names (simple (named_element n a)) w = refl
after_colon names (simple (nesting list)) w = absurd (let k = w.0 in cc)
after_colon names (simple (namespaced namespace local)) w = absurd (let k = w.0 in cc)
after_colon names (negation selectors) w = refl
after_colon names (any_of selectors) w = refl
after_colon names (where_any selectors) w = refl
after_colon names (tested test selectors) w = test_colon test selectors

colon_front : (text rest : List ℕ) → starts colon text ≡ true → starts colon (text ++ rest) ≡ true
colon_front [] rest h = absurd (cc)
colon_front (b ∷ text) rest h = h

colon_ends : (text : List ℕ) → starts colon text ≡ true → ends text ≡ true
colon_ends [] h = refl
colon_ends (b ∷ text) h =
    subst (λ (d : ℕ). ends (d ∷ text) ≡ true) (sym (eqb-true b colon h)) refl

colon_comments : (text : List ℕ) → starts colon text ≡ true → past_comments text ≡ text
colon_comments [] h = no_comments [] refl
colon_comments (b ∷ text) h =
    no_comments (b ∷ text)
    (subst (λ (d : ℕ). opens_comment (d ∷ text) ≡ false) (sym (eqb-true b colon h)) refl)

colon_some : (text : List ℕ) → starts colon text ≡ true → 1 ≤ length text
colon_some [] h = absurd (cc)
colon_some (b ∷ text) h = omega arith

after_ends : (names : Names) (cs : List Condition) → All (IsAfterElement names) cs
    → ends (flat_map condition_text cs ++ []) ≡ true
after_ends names [] w = refl
after_ends names (c ∷ cs) w =
    let is = after_colon names c (All-head (IsAfterElement names) c cs w) in
    colon_ends ((condition_text c ++ flat_map condition_text cs) ++ [])
    (colon_front (condition_text c ++ flat_map condition_text cs) []
    (colon_front (condition_text c) (flat_map condition_text cs) is))

-- a pseudo-class
class-again : (names : Names) (c : Condition) (rest : List ℕ) → IsFurtherCondition (outside names) c
    → starts colon (condition_text c) ≡ true → ends rest ≡ true
    → after_element names (condition_text c ++ rest) ≡ item c rest
unfolding after_element
class-again names c rest w is h =
    let text : List ℕ = condition_text c ++ rest in
    let here : starts colon text ≡ true = colon_front (condition_text c) rest is in
    ap (after_element_here names) (colon_comments text here)
    ∙ rw (here, condition-again (outside names) c rest w h) refl

-- a further pseudo-element
further_element-again : (names : Names) (n : List ℕ) (a : Option (List ℕ)) (rest : List ℕ) → IsElementName names n a
    → ends rest ≡ true
    → after_element names (simple_text (named_element n a) ++ rest)
    ≡ item (simple (named_element n a)) rest
unfolding after_element
further_element-again names n a rest w h =
    let more : List ℕ = (identifier_text n ++ argument_text a) ++ rest in
    ap (after_element_here names) (no_comments (colon ∷ colon ∷ more) refl)
    ∙ ap (class_or_element names (colon ∷ colon ∷ more)) (element_follows names false more).last
    ∙ ap (as_item named_condition) (element_name-again names (colon ∷ colon ∷ more) n a rest w h)

after-again : (names : Names) (c : Condition) (rest : List ℕ) → IsAfterElement names c → ends rest ≡ true
    → after_element names (condition_text c ++ rest) ≡ item c rest
after-again names (simple universal) rest w h = absurd (let k = w.0 in cc)
after-again names (simple (type_name n)) rest w h = absurd (let k = w.0 in cc)
after-again names (simple (id n)) rest w h = absurd (let k = w.0 in cc)
after-again names (simple (class n)) rest w h = absurd (let k = w.0 in cc)
after-again names (simple (has_attribute n)) rest w h = absurd (let k = w.0 in cc)
after-again names (simple (attribute n c v ignores)) rest w h = absurd (let k = w.0 in cc)
after-again names (simple (structure s)) rest w h =
    class-again names (simple (structure s)) rest w.1 (structure_colon s) h
after-again names (simple (language ranges)) rest w h =
    class-again names (simple (language ranges)) rest w.1 refl h
after-again names (simple (state n)) rest w h = class-again names (simple (state n)) rest w.1 refl h
after-again names (simple (function n a)) rest w h = class-again names (simple (function n a)) rest w.1 refl h
after-again names (simple (named_element n a)) rest w h = further_element-again names n a rest w h
after-again names (simple (nesting list)) rest w h = absurd (let k = w.0 in cc)
after-again names (simple (namespaced namespace local)) rest w h = absurd (let k = w.0 in cc)
after-again names (negation selectors) rest w h = class-again names (negation selectors) rest w refl h
after-again names (any_of selectors) rest w h = class-again names (any_of selectors) rest w refl h
after-again names (where_any selectors) rest w h = class-again names (where_any selectors) rest w refl h
after-again names (tested test selectors) rest w h =
    class-again names (tested test selectors) rest w (test_colon test selectors) h

nothing_after : (names : Names) → after_element names [] ≡ none
unfolding after_element
nothing_after names = ap (after_element_here names) (no_comments [] refl)

each_after : (names : Names) (cs : List Condition) → All (IsAfterElement names) cs
    → EachReads (after_element names) condition_text cs []
each_after names [] w = nothing_after names
each_after names (c ∷ cs) w =
    let one = All-head (IsAfterElement names) c cs w in
    let others = All-tail (IsAfterElement names) c cs w in (
      colon_some (condition_text c) (after_colon names c one),
      after-again names c (flat_map condition_text cs ++ []) one (after_ends names cs others),
      each_after names cs others,
    )

-- the pseudo-element at the end of a text
element-again : (names : Names) (element : Option PseudoElement) → ForSome element (IsPseudoElement names)
    → pseudo_element names (pseudo_element_text element) ≡ got element []
unfolding pseudo_element
element-again names None w = refl
element-again names (Some e) w =
    let well = w e refl in
    let after : List ℕ = flat_map condition_text e.after in
    let more : List ℕ = (identifier_text e.name ++ argument_text e.argument) ++ after in
    let stops : ends after ≡ true =
    subst (λ (l : List ℕ). ends l ≡ true) (append-nil after) (after_ends names e.after well.1) in
    ap (λ r. follow r (with_after names)) (element_name-again names (colon ∷ colon ∷ more) e.name e.argument after well.0 stops)
    ∙ ap (λ l. follow (items (after_element names) l) (λ cs. give (Some (element_named e.name e.argument cs))))
    (sym (append-nil after))
    ∙ ap (λ r. follow r (λ cs. give (Some (element_named e.name e.argument cs))))
    (items-again (after_element names) condition_text e.after [] (each_after names e.after well.1))

-- no gap is at the start of a printed selector
starts_solid : (names : Names) (element : Option PseudoElement) (p : Part) (ps : List Part)
    → AreParts names (is_some element) (p ∷ ps)
    → gap (parts_text (p ∷ ps) ++ pseudo_element_text element)
    ≡ got false (parts_text (p ∷ ps) ++ pseudo_element_text element)
unfolding end
starts_solid names element p ps w =
    let others : List ℕ = flat_map part_text ps ++ pseudo_element_text element in
    let e : Bool = is_some element && is_last ps in
    let text : List ℕ = flat_map condition_text p.conditions ++ others in
    let joined = append_assoc (flat_map condition_text p.conditions) (flat_map part_text ps)
    (pseudo_element_text element) in
    subst (λ (l : List ℕ). gap l ≡ got false l) (sym joined)
    (no_gap text (begins_solid text (conditions_begin names e p.conditions others w.0
    (parts_follow names element ps))))

written-again : (names : Names) (s : Selector) → IsWritten names s
    → selector names (selector_text s) ≡ got (selector_in names s) []
unfolding selector placed_selector placed_by end
written-again names s w = by s.parts w.0 w.1
  where
    by : (ps : List Part) → BeginsPlain ps → AreParts names (is_some s.pseudo_element) ps
        → selector names (parts_text ps ++ pseudo_element_text s.pseudo_element)
        ≡ got (selector_with (in_default names.default_namespace ps) s.pseudo_element) []
    by [] plain all = absurd plain
    by (p ∷ ps) plain all =
        let solid = starts_solid names s.pseudo_element p ps all in
        let reads = parts-again names s.pseudo_element p ps plain all in
        let plain_end = no_element_comments s.pseudo_element in
        let element = element-again names s.pseudo_element w.2 in
        let nothing = no_gap [] nil_solid in
        rw (solid, reads, plain_end, element, nothing) refl

pub selector-again : (names : Names) (s : Selector) → IsWellFormed names s
    → selector names (selector_text s) ≡ got s []
selector-again names s w =
    ap (λ t. selector names (selector_text t)) (sym w.2)
    ∙ ap (selector names) (selector_in-prints names w.0)
    ∙ written-again names w.0 w.1
    ∙ ap (λ t. got t []) w.2
