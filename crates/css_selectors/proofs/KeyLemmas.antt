-- A node that satisfies a condition has one of its keys.
-- Serves `key_laws::key_law`.
use Rattle.std.proofs.Common.{◌≡◌, ℕ, zero, suc, ◌+◌, ◌-◌, ◌≤◌, ◌⊎◌, Bool, true, false, not, ◌||◌, ◌&&◌, List, [], ◌∷◌, length, get_or, map, Option, None, Some, Vec, Global, IsTrue, refl, sym, ap, ◌∙◌, subst, inl, inr, arith, add-one}
use Rattle.std.specs.Prelude.{is_none, nat_lt, min, if◌then◌else◌}
use Rattle.std.specs.List.{list_any}
use Rattle.std.specs.Option.{option_map_or}
use Rattle.css_selectors.specs.Documents.{Document}
use Rattle.css_selector_text.specs.Components.Namespace.{absent, any_namespace, of_prefix, default}
use Rattle.css_selector_text.specs.Components.Local.{any_type, a_type, some_attribute, an_attribute, implied}
use Rattle.css_selector_text.specs.Components.{Namespace, Local, is_absent, Simple, Condition, Conditions, Parts, Selectors, Part, Selector, conditions_from, parts_from, selectors_from}
use Rattle.css_selector_text.specs.Components.Simple.{universal, type_name, id, class, has_attribute, attribute, structure, language, state, function, named_element, nesting, namespaced}
use Rattle.css_selector_text.specs.Components.Condition.{simple, negation, any_of, where_any, tested}
use Rattle.css_selector_text.specs.Components.Conditions.{end_of_compound, with_condition}
use Rattle.css_selector_text.specs.Components.Parts.{end_of_selector, with_part}
use Rattle.css_selector_text.specs.Components.Selectors.{end_of_list, with_selector}
use Rattle.css_matching.specs.declared.Combinator.{Combinator}
use Rattle.css_selector_text.specs.declared.components.Condition.{Condition as ConditionOf, Is, Where}
use Rattle.css_selector_text.specs.declared.components.Complex.{Complex, out-Complex}
use Rattle.css_selector_text.specs.declared.components.Part.{Part as PartOf}
use Rattle.css_selector_text.specs.Views.{condition_of, part_of, complex_of}
use Rattle.css_selector_text.specs.AttributeTests.{is_satisfied}
use Rattle.css_selectors.specs.Meanings.{accepts, has_attribute_in, is_in, holds_in, holds, part_count, IsMet, AreMet, MeetsPart, MatchesAny, IsPlaced, Matches}
use Rattle.css_selectors.specs.Keys.{Key, has_key, local_key, simple_key, lone_key, rank, better_key, best_key, compound_key, subject_from, parts_key, selector_keys, condition_keys, least_rank, better_keys, best_keys, conditions_at, keys_of}
use Rattle.css_selectors.specs.Keys.Key.{by_attribute, by_nothing}
use Rattle.css_selector_text.proofs.ConditionViews.{condition_is, condition_where}
use Rattle.css_selectors.proofs.PlacementListLemmas.{count_from}

or_first : (a b : Bool) → IsTrue a → IsTrue (a || b)
or_first true b h = refl
or_first false b h = absurd (cc)

or_second : (a b : Bool) → IsTrue b → IsTrue (a || b)
or_second true b h = refl
or_second false b h = h

value_there : (accept : List ℕ → Bool) (r : Option (List ℕ)) → IsTrue (option_map_or accept r false)
    → IsTrue (not (is_none r))
value_there accept None h = absurd (cc)
value_there accept (Some value) h = refl

both_second : (a b : Bool) → IsTrue (a && b) → IsTrue b
both_second true b h = h
both_second false b h = absurd (cc)

module _ {Node : Type 0} (d : Document Node) (n : Node) where
  attribute_has : (m : Namespace) (name : List ℕ) (accept : List ℕ → Bool)
      → IsTrue (has_attribute_in d n m name accept)
      → IsTrue (has_key d n (if is_absent m then by_attribute name else by_nothing))
  attribute_has absent name accept h = value_there accept (d.attribute n name) h
  attribute_has any_namespace name accept h = refl
  attribute_has (of_prefix prefix number) name accept h = refl
  attribute_has (default number) name accept h = refl

  local_has : (m : Namespace) (l : Local) → IsTrue (holds_in d n m l)
      → IsTrue (has_key d n (local_key m l))
  local_has m any_type h = refl
  local_has m (a_type name) h = both_second (is_in d n m) (d.is_named n name) h
  local_has m (some_attribute name) h = attribute_has m name (accepts (some_attribute name)) h
  local_has m (an_attribute name c text ignores) h =
      attribute_has m name (accepts (an_attribute name c text ignores)) h
  local_has m implied h = refl

  simple_has : (s : Simple) → IsTrue (holds d n s) → IsTrue (has_key d n (simple_key s))
  simple_has universal h = refl
  simple_has (type_name name) h = h
  simple_has (id text) h = h
  simple_has (class word) h = h
  simple_has (has_attribute name) h = h
  simple_has (attribute name c text ignores) h =
      value_there (is_satisfied c ignores text) (d.attribute n name) h
  simple_has (structure s) h = refl
  simple_has (language ranges) h = refl
  simple_has (state name) h = refl
  simple_has (function name argument) h = refl
  simple_has (named_element name argument) h = refl
  simple_has (nesting list) h = refl
  simple_has (namespaced namespace local) h = local_has namespace local h

  chosen : (b : Bool) (one other : Key) → IsTrue (has_key d n one) → IsTrue (has_key d n other)
      → IsTrue (has_key d n (if b then other else one))
  chosen true one other h g = g
  chosen false one other h g = h

  lone_has : (c : Condition) → IsMet d c n → IsTrue (has_key d n (lone_key c))
  lone_has (simple s) h = simple_has s h
  lone_has (negation selectors) h = refl
  lone_has (any_of selectors) h = refl
  lone_has (where_any selectors) h = refl
  lone_has (tested test selectors) h = refl

  best_has : (best : Key) (conditions : Conditions) → IsTrue (has_key d n best)
      → AreMet d conditions n → IsTrue (has_key d n (best_key best conditions))
  best_has best end_of_compound h all = h
  best_has best (with_condition c cs) h all =
      best_has (better_key best (lone_key c)) cs
      (chosen (nat_lt (rank best) (rank (lone_key c))) best (lone_key c) h (lone_has c all.0)) all.1

  -- what meets the last part meets its conditions
  subject_met : (k : Combinator) (c : Conditions) (parts : Parts)
      → MeetsPart d (with_part k c parts) (part_count parts) n → AreMet d (subject_from c parts) n
  subject_met k c end_of_selector h = h
  subject_met k c (with_part l e parts) h = subject_met l e parts (rw add-one at h)

  one_less : (m : ℕ) → m + 1 - 1 ≡ m
  one_less m = omega arith

  selector_has : (parts : Parts) → IsPlaced d parts n → IsTrue (has_key d n (parts_key parts))
  selector_has end_of_selector h = absurd (h.1.meets 0 (omega arith))
  selector_has (with_part k c parts) h =
      best_has by_nothing (subject_from c parts) refl
      (subject_met k c parts
      (subst (λ i. MeetsPart d (with_part k c parts) i n) (one_less (part_count parts))
      (subst (MeetsPart d (with_part k c parts) (part_count parts + 1 - 1)) h.1.ends
      (h.1.meets (part_count parts + 1 - 1) (omega arith)))))

  selectors_have : (selectors : Selectors) → MatchesAny d selectors n
      → IsTrue (list_any (has_key d n) (selector_keys selectors))
  selectors_have end_of_list h = absurd h
  selectors_have (with_selector s selectors) (inl h) =
      or_first (has_key d n (parts_key s)) (list_any (has_key d n) (selector_keys selectors))
      (selector_has s h)
  selectors_have (with_selector s selectors) (inr h) =
      or_second (has_key d n (parts_key s)) (list_any (has_key d n) (selector_keys selectors))
      (selectors_have selectors h)

  -- a node that satisfies a condition has one of its keys
  pub condition_has : (c : Condition) → IsMet d c n
      → IsTrue (list_any (has_key d n) (condition_keys c))
  condition_has (simple s) h = or_first _ _ (simple_has s h)
  condition_has (negation selectors) h = refl
  condition_has (any_of selectors) h = selectors_have selectors h
  condition_has (where_any selectors) h = selectors_have selectors h
  condition_has (tested test selectors) h = absurd h

  chosen_keys : (b : Bool) (one other : List Key) → IsTrue (list_any (has_key d n) one)
      → IsTrue (list_any (has_key d n) other)
      → IsTrue (list_any (has_key d n) (if b then other else one))
  chosen_keys true one other h g = g
  chosen_keys false one other h g = h

  pub conditions_have : (best : List Key) (conditions : List Condition)
      → IsTrue (list_any (has_key d n) best) → AreMet d (conditions_from conditions) n
      → IsTrue (list_any (has_key d n) (best_keys best conditions))
  conditions_have best [] h all = h
  conditions_have best (c ∷ cs) h all =
      conditions_have (better_keys best (condition_keys c)) cs
      (chosen_keys (nat_lt (least_rank best) (least_rank (condition_keys c))) best
      (condition_keys c) h (condition_has c all.0))
      all.1

  pub met_at : (ps : List Part) (i : ℕ) → MeetsPart d (parts_from ps) i n
      → AreMet d (conditions_from (conditions_at ps i)) n
  met_at [] i h = absurd h
  met_at (p ∷ ps) zero h = h
  met_at (p ∷ ps) (suc i) h = met_at ps i h

  pub matched_has : (s : Selector) → Matches d s n → IsTrue (list_any (has_key d n) (keys_of s))
  matched_has s h =
      let p = h.1 in
      let last = part_count (parts_from s.parts) - 1 in
      conditions_have (by_nothing ∷ []) (conditions_at s.parts (length s.parts - 1)) refl
      (met_at s.parts (length s.parts - 1)
      (subst (λ k. MeetsPart d (parts_from s.parts) (k - 1) n) (count_from d s.parts)
      (subst (MeetsPart d (parts_from s.parts) last) p.1.ends (p.1.meets last (omega arith)))))

pub min_right : (m n : ℕ) → n ≤ m → min m n ≡ n
min_right m n h = grind arith

pub least_rank-at_most : (keys : List Key) → least_rank keys ≤ 4
least_rank-at_most [] = omega arith
least_rank-at_most (key ∷ keys) = let h = least_rank-at_most keys in omega (arith, h)

-- ---- as the code goes through it

pub subject_last : (last : Conditions) (ps : List PartOf) (i : ℕ) (x : PartOf) → i + 1 ≡ length ps
    → conditions_from (map condition_of (get_or ps i x).conditions.items)
    ≡ subject_from last (parts_from (map part_of ps))
subject_last last [] i x e = absurd (omega (arith, e))
subject_last last (p ∷ []) zero x e = refl
subject_last last (p ∷ []) (suc i) x e = absurd (omega (arith, e))
subject_last last (p ∷ q ∷ ps) zero x e = absurd (omega (arith, e))
subject_last last (p ∷ q ∷ ps) (suc i) x e =
    subject_last (conditions_from (map condition_of p.conditions.items)) (q ∷ ps) i x (omega (arith, e))

pub keys_selectors : (cs : List Complex)
    → selector_keys (selectors_from (map complex_of cs))
    ≡ map (λ c. parts_key (parts_from (complex_of c))) cs
keys_selectors [] = refl
keys_selectors (c ∷ cs) = ap (λ ks. parts_key (parts_from (complex_of c)) ∷ ks) (keys_selectors cs)

module _ (c : ConditionOf) (v : Vec Complex Global) (xs : List Complex) where
  pub keys_listed : (c ≡ Is v) ⊎ (c ≡ Where v) → xs ≡ v.items
      → map (λ x. parts_key (parts_from (complex_of x))) xs ≡ condition_keys (condition_of c)
  keys_listed (inl is) same =
      sym (ap (λ x. condition_keys (condition_of x)) is ∙ ap condition_keys (condition_is v)
      ∙ ap (λ ys. selector_keys (selectors_from (map complex_of ys))) (sym same)
      ∙ keys_selectors xs)
  keys_listed (inr is) same =
      sym (ap (λ x. condition_keys (condition_of x)) is ∙ ap condition_keys (condition_where v)
      ∙ ap (λ ys. selector_keys (selectors_from (map complex_of ys))) (sym same)
      ∙ keys_selectors xs)

pub last_key : (s : Complex) (ps : List PartOf) (xs : List ConditionOf) (i : ℕ) (x : PartOf)
    (k : Key) → ps ≡ (out-Complex s).parts.items → i + 1 ≡ length ps
    → xs ≡ (get_or ps i x).conditions.items
    → k ≡ compound_key (conditions_from (map condition_of xs))
    → k ≡ parts_key (parts_from (complex_of s))
last_key s ps xs i x k all last same is =
    is ∙ ap (λ ys. compound_key (conditions_from (map condition_of ys))) same
    ∙ ap compound_key (subject_last end_of_compound ps i x last)
    ∙ ap (λ qs. parts_key (parts_from (map part_of qs))) all
