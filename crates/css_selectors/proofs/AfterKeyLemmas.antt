-- A selector that begins with its key matches an element that has this key exactly if the element
-- satisfies the rest.
-- Serves `after_key` and the index over selectors.
use Rattle.std.proofs.Common.{◌≡◌, ℕ, zero, suc, ◌+◌, ◌-◌, ◌*◌, ◌≤◌, ◌&&◌, ◌||◌, Bool, true, false, IsTrue, List, [], ◌∷◌, length, refl, sym, ap, ◌∙◌, subst, arith}
use Rattle.std.specs.Prelude.{not, nat_lt, if◌then◌else◌}
use Rattle.std.specs.List.{list_any, list_all}
use Rattle.css_matching.specs.Bounds.{longest_fixed}
use Rattle.css_matching.specs.declared.Combinator.{Combinator}
use Rattle.css_selectors.specs.AfterKeys.{have_no_greater, begin_with_key, is_led_by_key, begins_with_key, after_first, conditions_after_key, MatchesAfterKey, MatchesFoundBy}
use Rattle.css_selectors.specs.AncestorKeys.{is_exact_condition, is_exact_key, keys_among}
use Rattle.css_selector_text.specs.Components.{Condition, Conditions, Part, Selector, conditions_from, parts_from}
use Rattle.css_selector_text.specs.Components.Simple.{universal, type_name, id, class, has_attribute, attribute, structure, language, state, function, named_element, nesting, namespaced}
use Rattle.css_selector_text.specs.Components.Condition.{simple, negation, any_of, where_any, tested}
use Rattle.css_selector_text.specs.Components.Parts.{end_of_selector, with_part}
use Rattle.css_selectors.specs.Costs.{compound_cost, dearest_part, most_questions, most_tests}
use Rattle.css_selectors.specs.Documents.{Document}
use Rattle.css_selectors.specs.Keys.{Key, has_key, keys_of, best_keys, better_keys, condition_keys, conditions_at, least_rank}
use Rattle.css_selectors.specs.Keys.Key.{by_id, by_class, by_nothing}
use Rattle.css_selectors.specs.Meanings.{combinator_at, IsMet, AreMet, IsPlaced, Matches}
use Rattle.css_selectors.proofs.AncestorKeyLemmas.{lone_placed}

-- ---- the key

and_first : (a b : Bool) → (a && b) ≡ true → a ≡ true
and_first true b h = refl
and_first false b h = absurd (cc)

and_second : (a b : Bool) → (a && b) ≡ true → b ≡ true
and_second true b h = h
and_second false b h = absurd (cc)

not_true : (b : Bool) → not b ≡ true → b ≡ false
not_true true h = absurd (cc)
not_true false h = refl

or_none : (b : Bool) → IsTrue (b || false) → IsTrue b
or_none true h = refl
or_none false h = absurd (cc)

-- keys of the greatest rank stay the best
best_kept : (best : List Key) (cs : List Condition) → have_no_greater (least_rank best) cs ≡ true
    → best_keys best cs ≡ best
best_kept best [] h = refl
best_kept best (c ∷ cs) h =
    let less = not_true (nat_lt (least_rank best) (least_rank (condition_keys c)))
    (and_first (not (nat_lt (least_rank best) (least_rank (condition_keys c))))
    (have_no_greater (least_rank best) cs) h) in
    let same : better_keys best (condition_keys c) ≡ best =
    ap (λ b. if b then condition_keys c else best) less in
    ap (λ keys. best_keys keys cs) same
    ∙ best_kept best cs (and_second (not (nat_lt (least_rank best) (least_rank (condition_keys c))))
    (have_no_greater (least_rank best) cs) h)

-- the first of conditions, of which it is the best
first_better : (c : Condition) → is_exact_condition c ≡ true
    → better_keys (by_nothing ∷ []) (condition_keys c) ≡ condition_keys c
first_better (simple universal) h = absurd (cc)
first_better (simple (type_name name)) h = absurd (cc)
first_better (simple (id text)) h = refl
first_better (simple (class word)) h = refl
first_better (simple (has_attribute name)) h = absurd (cc)
first_better (simple (attribute name comparison text ignores)) h = absurd (cc)
first_better (simple (structure s)) h = absurd (cc)
first_better (simple (language ranges)) h = absurd (cc)
first_better (simple (state name)) h = absurd (cc)
first_better (simple (function name argument)) h = absurd (cc)
first_better (simple (named_element name argument)) h = absurd (cc)
first_better (simple (nesting list)) h = absurd (cc)
first_better (simple (namespaced namespace local)) h = absurd (cc)
first_better (negation selectors) h = absurd (cc)
first_better (any_of selectors) h = absurd (cc)
first_better (where_any selectors) h = absurd (cc)
first_better (tested test selectors) h = absurd (cc)

first_exact : (c : Condition) → is_exact_condition c ≡ true
    → IsTrue (list_all is_exact_key (condition_keys c))
first_exact (simple universal) h = absurd (cc)
first_exact (simple (type_name name)) h = absurd (cc)
first_exact (simple (id text)) h = refl
first_exact (simple (class word)) h = refl
first_exact (simple (has_attribute name)) h = absurd (cc)
first_exact (simple (attribute name comparison text ignores)) h = absurd (cc)
first_exact (simple (structure s)) h = absurd (cc)
first_exact (simple (language ranges)) h = absurd (cc)
first_exact (simple (state name)) h = absurd (cc)
first_exact (simple (function name argument)) h = absurd (cc)
first_exact (simple (named_element name argument)) h = absurd (cc)
first_exact (simple (nesting list)) h = absurd (cc)
first_exact (simple (namespaced namespace local)) h = absurd (cc)
first_exact (negation selectors) h = absurd (cc)
first_exact (any_of selectors) h = absurd (cc)
first_exact (where_any selectors) h = absurd (cc)
first_exact (tested test selectors) h = absurd (cc)

first_keys : (c : Condition) (cs : List Condition) → begin_with_key (c ∷ cs) ≡ true
    → keys_among (c ∷ cs) ≡ condition_keys c
first_keys c cs h =
    ap (λ keys. best_keys keys cs) (first_better c (and_first (is_exact_condition c)
    (have_no_greater (least_rank (condition_keys c)) cs) h))
    ∙ best_kept (condition_keys c) cs (and_second (is_exact_condition c)
    (have_no_greater (least_rank (condition_keys c)) cs) h)

exact_among : (cs : List Condition) → begin_with_key cs ≡ true
    → IsTrue (list_all is_exact_key (keys_among cs))
exact_among [] h = absurd (cc)
exact_among (c ∷ cs) h =
    subst (λ keys. IsTrue (list_all is_exact_key keys)) (sym (first_keys c cs h))
    (first_exact c (and_first (is_exact_condition c)
    (have_no_greater (least_rank (condition_keys c)) cs) h))

exact_led : (ps : List Part) → is_led_by_key ps ≡ true
    → IsTrue (list_all is_exact_key (keys_among (conditions_at ps (length ps - 1))))
exact_led [] h = absurd (cc)
exact_led (p ∷ []) h = exact_among p.conditions h
exact_led (p ∷ q ∷ ps) h = absurd (cc)

-- the key is an id or a class
pub after_key_exact : (s : Selector) → begins_with_key s ≡ true
    → IsTrue (list_all is_exact_key (keys_of s))
after_key_exact s h = exact_led s.parts h

pub led_lone : (ps : List Part) → is_led_by_key ps ≡ true → length ps ≡ 1
led_lone [] h = absurd (cc)
led_lone (p ∷ []) h = refl
led_lone (p ∷ q ∷ ps) h = absurd (cc)

times_some : (questions dearest cost : ℕ) → 1 ≤ questions → cost ≤ dearest
    → cost + 1 ≤ questions * (dearest + 1)
times_some zero dearest cost some le = absurd (omega (arith, some))
times_some (suc q) dearest cost some le = omega (arith, le)

sum_some : (a b r : ℕ) → a ≡ 1 → 1 ≤ a * (b + 1) + r
sum_some a b r one = subst (λ x. 1 ≤ x * (b + 1) + r) (sym one) (omega arith)

module _ {Node : Type 0} (d : Document Node) (n : Node) where
  -- ---- what matches

  first_met : (c : Condition) → is_exact_condition c ≡ true
      → IsTrue (list_any (has_key d n) (condition_keys c)) → IsMet d c n
  first_met (simple universal) h k = absurd (cc)
  first_met (simple (type_name name)) h k = absurd (cc)
  first_met (simple (id text)) h k = or_none (has_key d n (by_id text)) k
  first_met (simple (class word)) h k = or_none (has_key d n (by_class word)) k
  first_met (simple (has_attribute name)) h k = absurd (cc)
  first_met (simple (attribute name comparison text ignores)) h k = absurd (cc)
  first_met (simple (structure s)) h k = absurd (cc)
  first_met (simple (language ranges)) h k = absurd (cc)
  first_met (simple (state name)) h k = absurd (cc)
  first_met (simple (function name argument)) h k = absurd (cc)
  first_met (simple (named_element name argument)) h k = absurd (cc)
  first_met (simple (nesting list)) h k = absurd (cc)
  first_met (simple (namespaced namespace local)) h k = absurd (cc)
  first_met (negation selectors) h k = absurd (cc)
  first_met (any_of selectors) h k = absurd (cc)
  first_met (where_any selectors) h k = absurd (cc)
  first_met (tested test selectors) h k = absurd (cc)

  all_met : (cs : List Condition) → begin_with_key cs ≡ true
      → IsTrue (list_any (has_key d n) (keys_among cs))
      → AreMet d (conditions_from (after_first cs)) n → AreMet d (conditions_from cs) n
  all_met [] h k rest = absurd (cc)
  all_met (c ∷ cs) h k rest = (
    first_met c (and_first (is_exact_condition c)
        (have_no_greater (least_rank (condition_keys c)) cs) h)
        (subst (λ keys. IsTrue (list_any (has_key d n) keys)) (first_keys c cs h) k),
    rest,
  )

  rest_met : (cs : List Condition) → AreMet d (conditions_from cs) n
      → AreMet d (conditions_from (after_first cs)) n
  rest_met [] h = h
  rest_met (c ∷ cs) h = h.1

  lone_met : (k : Combinator) (c : Conditions) → IsPlaced d (with_part k c end_of_selector) n
      → AreMet d c n
  lone_met k c p = subst (AreMet d c) p.1.ends (p.1.meets 0 (omega arith))

  placed_led : (ps : List Part) → is_led_by_key ps ≡ true
      → IsTrue (list_any (has_key d n) (keys_among (conditions_at ps (length ps - 1))))
      → AreMet d (conditions_from (after_first (conditions_at ps (length ps - 1)))) n
      → IsPlaced d (parts_from ps) n
  placed_led [] h k rest = absurd (cc)
  placed_led (p ∷ []) h k rest =
      lone_placed d n p.combinator (conditions_from p.conditions) (all_met p.conditions h k rest)
  placed_led (p ∷ q ∷ ps) h k rest = absurd (cc)

  led_placed : (ps : List Part) → is_led_by_key ps ≡ true → IsPlaced d (parts_from ps) n
      → AreMet d (conditions_from (after_first (conditions_at ps (length ps - 1)))) n
  led_placed [] h m = absurd (cc)
  led_placed (p ∷ []) h m =
      rest_met p.conditions (lone_met p.combinator (conditions_from p.conditions) m)
  led_placed (p ∷ q ∷ ps) h m = absurd (cc)

  -- a node that has the key and satisfies the rest matches
  pub after_key_matches : (s : Selector) → begins_with_key s ≡ true
      → IsTrue (list_any (has_key d n) (keys_of s)) → MatchesAfterKey d s n → Matches d s n
  after_key_matches s h k m = (m.0, placed_led s.parts h k m.1)

  -- a node that matches satisfies the rest
  pub matches_after_key : (s : Selector) → begins_with_key s ≡ true → Matches d s n
      → MatchesAfterKey d s n
  matches_after_key s h m = (m.0, led_placed s.parts h m.1)

  -- so it is where only what begins with its key is cut
  pub found_matches : (s : Selector) (b : Bool) → b ≡ begins_with_key s
      → (b ≡ true → IsTrue (list_any (has_key d n) (keys_of s))) → MatchesFoundBy b d s n
      → Matches d s n
  found_matches s true is k m = after_key_matches s (sym is) (k refl) m
  found_matches s false is k m = m

  pub matches_found : (s : Selector) (b : Bool) → b ≡ begins_with_key s → Matches d s n
      → MatchesFoundBy b d s n
  matches_found s true is m = matches_after_key s (sym is) m
  matches_found s false is m = m

  -- ---- how many tests

  rest_cheaper : (cs : List Condition)
      → compound_cost d (conditions_from (after_first cs)) n ≤ compound_cost d (conditions_from cs) n
  rest_cheaper [] = omega arith
  rest_cheaper (c ∷ cs) = omega arith

  lone_most : (k : Combinator) (c : Conditions) (cost : ℕ) → cost ≤ compound_cost d c n
      → cost + 1 ≤ most_tests d (with_part k c end_of_selector) n
  lone_most k c cost le =
      times_some (most_questions d (with_part k c end_of_selector) n)
      (dearest_part d (with_part k c end_of_selector) n) cost
      (sum_some (longest_fixed (combinator_at (with_part k c end_of_selector)) 0) (d.depth n) _ refl)
      (omega (arith, le))

  led_most : (ps : List Part) → is_led_by_key ps ≡ true
      → compound_cost d (conditions_from (after_first (conditions_at ps (length ps - 1)))) n + 1
      ≤ most_tests d (parts_from ps) n
  led_most [] h = absurd (cc)
  led_most (p ∷ []) h =
      lone_most p.combinator (conditions_from p.conditions) _ (rest_cheaper p.conditions)
  led_most (p ∷ q ∷ ps) h = absurd (cc)

  -- a test of the rest is one
  pub after_key_most : (s : Selector) → begins_with_key s ≡ true
      → compound_cost d (conditions_from (conditions_after_key s)) n + 1
      ≤ most_tests d (parts_from s.parts) n
  after_key_most s h = led_most s.parts h
