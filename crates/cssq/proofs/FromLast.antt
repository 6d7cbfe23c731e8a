-- What wins as the rules are looked at from the last to the first.
-- Serves `cascade::winning` (later rules are looked at first).
use Rattle.std.proofs.Common.{◌≡◌, ℕ, zero, suc, ◌+◌, ◌<◌, ◌≤◌, ◌⊎◌, inl, inr, ◌↔◌, Bool, true, false, List, length, get_or, Option, None, Some, IfSome, IsNone, refl, sym, ap, ◌∙◌, subst, arith}
use Rattle.std.specs.Option.{option_map, is_some}
use Rattle.std.specs.List.{slice_get}
use Rattle.std.proofs.lemmas.Option.{slice_get_within, slice_get-map, slice_get_read, same_Some}
use Rattle.simplecss.specs.Declarations.{StyleDeclaration}
use Rattle.simplecss.specs.Statements.{StyleRule}
use Rattle.simplecss.specs.RuleViews.{rule_of, rules_of}
use Rattle.simplecss.specs.declared.sheet.rules.Rule.{Rule}
use Rattle.simplecss.specs.Trees.{Tree}
use Rattle.simplecss.specs.Placements.{HasPlacement}
use Rattle.cssq.specs.Winners.{DeclarationSet, weight, Beats, WinsAt, HasNone, Wins, IsStated, IsEarlier}
use Rattle.cssq.specs.internal.RuleWinners.{InRule, IsCandidate, IsPassedOver}
use Rattle.cssq.specs.Winners.Beats.{by_importance}
use Rattle.cssq.proofs.Cascading.{weight_small, beats_weight, beats_earlier, not_two}

-- ---- what wins within a rule

heavier_at : (ps : List StyleDeclaration) (name : List ℕ) (b : StyleDeclaration)
    (won : Wins (InRule 0 ps) name (Some b)) → b.important ≡ false
    → (j : ℕ) (p : StyleDeclaration) (a : Bool) → p.important ≡ a → slice_get ps j ≡ Some p
    → p.name ≡ name → a ≡ false
heavier_at ps name b won light j p false e at named = refl
heavier_at ps name b won light j p true e at named =
    absurd (won.2.unbeaten 0 j p (refl, at) named
    (by_importance (omega (arith, ap weight e, ap weight light))))

-- where what wins is not important, none of the name is
pub none_important : (ps : List StyleDeclaration) (name : List ℕ) (b : StyleDeclaration)
    → Wins (InRule 0 ps) name (Some b) → b.important ≡ false → (j : ℕ) (p : StyleDeclaration)
    → slice_get ps j ≡ Some p → p.name ≡ name → p.important ≡ false
none_important ps name b won light j p = heavier_at ps name b won light j p p.important refl

-- ---- the rules from an index on

-- what the rules from an index on state
abbrev pub From : DeclarationSet → ℕ → DeclarationSet
From has index k l q = (index ≤ k) × has k l q

-- what wins in the rules from an index on is known, and is not important
pub record KnownFrom (has : DeclarationSet) (name : List ℕ) (index : ℕ)
    (w : Option StyleDeclaration) : Type 0 where
  pub wins : Wins (From has index) name w
  pub light : IfSome w (λ p. p.important ≡ false)

pub here_or_later : (index k : ℕ) → index ≤ k → (k ≡ index) ⊎ (index + 1 ≤ k)
here_or_later zero zero h = inl refl
here_or_later zero (suc k) h = inr (omega arith)
here_or_later (suc index) zero h = absurd (omega arith)
here_or_later (suc index) (suc k) h = elim (here_or_later index k (omega arith))
    [ inl e ↦ inl (ap suc e) | inr lt ↦ inr (omega (arith, lt)) ]

pub before_or_from : (index k : ℕ) → (k < index) ⊎ (index ≤ k)
before_or_from zero k = inr (omega arith)
before_or_from (suc index) zero = inl (omega arith)
before_or_from (suc index) (suc k) = elim (before_or_from index k)
    [ inl lt ↦ inl (omega (arith, lt)) | inr le ↦ inr (omega (arith, le)) ]

-- the rule at an index
module _ {Node : Type 0} (tree : Tree Node) (n : Node) (rules : List StyleRule) (index : ℕ)
    (rule : StyleRule) (at : slice_get rules index ≡ Some rule) where
  stated_rule : (k l : ℕ) (q : StyleDeclaration) → k ≡ index
      → (stated : IsStated tree n rules k l q) → stated.rule ≡ rule
  stated_rule k l q e stated =
      same_Some stated.rule rule (sym stated.rule_at ∙ ap (slice_get rules) e ∙ at)

  pub stated_takes : (k l : ℕ) (q : StyleDeclaration) → k ≡ index → IsStated tree n rules k l q
      → HasPlacement tree rule.components n
  stated_takes k l q e stated =
      subst (λ r. HasPlacement tree r.components n) (stated_rule k l q e stated) stated.takes

  pub stated_here : (k l : ℕ) (q : StyleDeclaration) → k ≡ index → IsStated tree n rules k l q
      → slice_get rule.declarations l ≡ Some q
  stated_here k l q e stated =
      ap (λ r. slice_get r.declarations l) (sym (stated_rule k l q e stated)) ∙ stated.declared

module _ {Node : Type 0} (tree : Tree Node) (n : Node) (rules : List StyleRule)
    (name : List ℕ) where
  -- after the last rule there is nothing
  pub known_none : KnownFrom (IsStated tree n rules) name (length rules) None
  known_none = record {
    wins = λ k l q has named. let within = slice_get_within rules k has.1.rule has.1.rule_at in
        omega (arith, within, has.0);
    light = tt;
  }

  -- the rules from an index up to another state nothing if none of them matches the node
  pub known_skipped : (index later : ℕ) → index ≤ later
      → ((k : ℕ) (rule : StyleRule) → index ≤ k → k < later → slice_get rules k ≡ Some rule
      → HasPlacement tree rule.components n → ⊥)
      → (w : Option StyleDeclaration) → KnownFrom (IsStated tree n rules) name later w
      → KnownFrom (IsStated tree n rules) name index w
  known_skipped index later le none None known = record {
    wins = λ k l q has named. elim (before_or_from later k) [
      | inl less ↦ none k has.1.rule has.0 less has.1.rule_at has.1.takes
      | inr late ↦ known.wins k l q (late, has.1) named
    ];
    light = tt;
  }
  known_skipped index later le none (Some v) known =
      let won = known.wins in
      record {
        wins = (
          won.0,
          won.1,
          record {
            stated = (let late = won.2.stated.0 in omega (arith, late, le), won.2.stated.1);
            named = won.2.named;
            unbeaten = λ k l q has named beats. elim (before_or_from later k) [
              | inl less ↦ none k has.1.rule has.0 less has.1.rule_at has.1.takes
              | inr late ↦ won.2.unbeaten k l q (late, has.1) named beats
            ];
          },
        );
        light = known.light;
      }

  pub known_all : (w : Option StyleDeclaration) → KnownFrom (IsStated tree n rules) name 0 w
      → Wins (IsStated tree n rules) name w
  known_all None known = λ k l q has named. known.wins k l q (omega arith, has) named
  known_all (Some v) known =
      let won = known.wins in (
        won.0,
        won.1,
        record {
          stated = won.2.stated.1;
          named = won.2.named;
          unbeaten = λ k l q has. won.2.unbeaten k l q (omega arith, has);
        },
      )

  important_unbeaten : (index : ℕ) (b : StyleDeclaration)
      (won : Wins (From (IsStated tree n rules) index) name (Some b)) → b.important ≡ true
      → (k l : ℕ) (q : StyleDeclaration) → IsStated tree n rules k l q → q.name ≡ name
      → Beats q k l b won.0 won.1 → (k < index) ⊎ (index ≤ k) → ⊥
  important_unbeaten index b won heavy k l q stated named beats (inr late) =
      won.2.unbeaten k l q (late, stated) named beats
  important_unbeaten index b won heavy k l q stated named beats (inl early) =
      let after = won.2.stated.0 in
      omega (
        arith,
        ap weight heavy,
        weight_small q.important,
        beats_earlier beats (omega (arith, early, after)),
      )

  -- an important one of a later rule wins over all of earlier rules
  pub important_wins : (index : ℕ) (b : StyleDeclaration)
      → Wins (From (IsStated tree n rules) index) name (Some b) → b.important ≡ true
      → Wins (IsStated tree n rules) name (Some b)
  important_wins index b won heavy = (
    won.0,
    won.1,
    record {
      stated = won.2.stated.1;
      named = won.2.named;
      unbeaten = λ k l q has named beats.
          important_unbeaten index b won heavy k l q has named beats (before_or_from index k);
    },
  )

  module _ (index : ℕ) (rule : StyleRule) (at : slice_get rules index ≡ Some rule) where
    module _ {A : Type 0} (f : A → StyleDeclaration) (known : Bool) where
      -- the rule at the index was skipped
      passed_unbeaten : (v : StyleDeclaration) (m j : ℕ) → index + 1 ≤ m → v.important ≡ false
          → IsPassedOver tree n rule name known → (k l : ℕ) (q : StyleDeclaration)
          → IsStated tree n rules k l q → q.name ≡ name → Beats q k l v m j → k ≡ index → ⊥
      passed_unbeaten v m j after light passed k l q stated named beats e =
          let q_light = (passed (stated_takes tree n rules index rule at k l q e stated) l q
          (stated_here tree n rules index rule at k l q e stated) named).1 in
          omega (arith, ap weight q_light, beats_earlier beats (omega (arith, after, e)))

      pub known_passed : (w : Option A) → known ≡ is_some w → IsPassedOver tree n rule name known
          → KnownFrom (IsStated tree n rules) name (index + 1) (option_map f w)
          → KnownFrom (IsStated tree n rules) name index (option_map f w)
      known_passed None is passed so_far = record {
        wins = λ k l q has named. elim (here_or_later index k has.0) [
          | inl e ↦ (let yes = (passed (stated_takes tree n rules index rule at k l q e has.1) l q
              (stated_here tree n rules index rule at k l q e has.1) named).0 in
              absurd (cc))
          | inr late ↦ so_far.wins k l q (late, has.1) named
        ];
        light = tt;
      }
      known_passed (Some x) is passed so_far =
          let won = so_far.wins in
          record {
            wins = (
              won.0,
              won.1,
              record {
                stated = (let late = won.2.stated.0 in omega (arith, late), won.2.stated.1);
                named = won.2.named;
                unbeaten = λ k l q has named beats. elim (here_or_later index k has.0) [
                  | inl e ↦ passed_unbeaten (f x) won.0 won.1 won.2.stated.0 so_far.light passed k l
                      q has.1 named beats e
                  | inr late ↦ won.2.unbeaten k l q (late, has.1) named beats
                ];
              },
            );
            light = so_far.light;
          }

      -- the rule at the index has a candidate, which is important if one of a later rule is known
      over_later : (b : StyleDeclaration) (j : ℕ) (w : Option A) → known ≡ is_some w
          → (known ≡ true → b.important ≡ true)
          → KnownFrom (IsStated tree n rules) name (index + 1) (option_map f w)
          → (k l : ℕ) (q : StyleDeclaration) → From (IsStated tree n rules) (index + 1) k l q
          → q.name ≡ name → Beats q k l b index j → ⊥
      over_later b j None is heavy so_far k l q has named beats = so_far.wins k l q has named
      over_later b j (Some x) is heavy so_far k l q has named beats =
          so_far.wins.2.unbeaten k l q has named
          (by_importance
          (omega (arith, ap weight so_far.light, ap weight (heavy is), beats_weight beats)))

      pub known_here : (b : StyleDeclaration) (w : Option A) → known ≡ is_some w
          → (known ≡ true → b.important ≡ true) → IsCandidate tree n rule name b
          → KnownFrom (IsStated tree n rules) name (index + 1) (option_map f w)
          → Wins (From (IsStated tree n rules) index) name (Some b)
      known_here b w is heavy candidate so_far =
          let won = candidate.best index in
          let here = won.2.stated in (
            index,
            won.1,
            record {
              stated = (
                omega arith,
                record { rule = rule; rule_at = at; takes = candidate.takes; declared = here.1 },
              );
              named = won.2.named;
              unbeaten = λ k l q has named beats. elim (here_or_later index k has.0) [
                | inl e ↦
                    won.2.unbeaten k l q (e, stated_here tree n rules index rule at k l q e has.1)
                    named (subst (λ i. Beats q k l b i won.1) (sym here.0) beats)
                | inr late ↦ over_later b won.1 w is heavy so_far k l q (late, has.1) named beats
              ];
            },
          )

pub known_on : (has : DeclarationSet) (name : List ℕ) (index : ℕ) (b : StyleDeclaration)
    → Wins (From has index) name (Some b) → b.important ≡ false → KnownFrom has name index (Some b)
known_on has name index b won light = record { wins = won; light = light }

-- ---- there is one winner

later_indices : (i k j l : ℕ) → (i ≡ j) ⊎ (j + 1 ≤ i) → (k < l) ⊎ (l ≤ k)
    → IsEarlier i k j l ⊎ (((i ≡ j) × (k ≡ l)) ⊎ IsEarlier j l i k)
later_indices i k j l (inr lt) c = inr (inr (inl (omega (arith, lt))))
later_indices i k j l (inl e) (inl lt) = inl (inr (e, lt))
later_indices i k j l (inl e) (inr le) = elim (here_or_later l k le)
    [ inl f ↦ inr (inl (e, f)) | inr lt ↦ inr (inr (inr (sym e, (omega (arith, lt))))) ]

any_indices : (i k j l : ℕ) → (i < j) ⊎ (j ≤ i) → (k < l) ⊎ (l ≤ k)
    → IsEarlier i k j l ⊎ (((i ≡ j) × (k ≡ l)) ⊎ IsEarlier j l i k)
any_indices i k j l (inl lt) c = inl (inl lt)
any_indices i k j l (inr le) c = later_indices i k j l (here_or_later j i le) c

module _ {Node : Type 0} (tree : Tree Node) (n : Node) (rules : List StyleRule)
    (name : List ℕ) where
  stated_once : (i k j l : ℕ) (p q : StyleDeclaration) → IsStated tree n rules i k p
      → IsStated tree n rules j l q → i ≡ j → k ≡ l → p ≡ q
  stated_once i k j l p q stated other e f =
      same_Some p q (sym (stated_here tree n rules j other.rule other.rule_at i k p e stated)
      ∙ ap (slice_get other.rule.declarations) f ∙ other.declared)

  one_at : (i k j l : ℕ) (p q : StyleDeclaration) → WinsAt (IsStated tree n rules) name i k p
      → WinsAt (IsStated tree n rules) name j l q
      → IsEarlier i k j l ⊎ (((i ≡ j) × (k ≡ l)) ⊎ IsEarlier j l i k) → p ≡ q
  one_at i k j l p q won other (inl lt) = absurd (not_two _ name i k j l p q lt won other)
  one_at i k j l p q won other (inr (inl e)) =
      stated_once i k j l p q won.stated other.stated e.0 e.1
  one_at i k j l p q won other (inr (inr lt)) = absurd (not_two _ name j l i k q p lt other won)

  one_winner : (p q : StyleDeclaration) → Wins (IsStated tree n rules) name (Some p)
      → Wins (IsStated tree n rules) name (Some q) → p ≡ q
  one_winner p q won other = one_at won.0 won.1 other.0 other.1 p q won.2 other.2 (any_indices won.0
      won.1 other.0 other.1 (before_or_from other.0 won.0) (before_or_from other.1 won.1))

  -- what is answered is the winner, and there is no other
  pub winner_only : {A : Type 0} (f : A → StyleDeclaration) (r : Option A)
      → Wins (IsStated tree n rules) name (option_map f r) → (p : StyleDeclaration)
      → Wins (IsStated tree n rules) name (Some p) ↔ (option_map f r ≡ Some p)
  winner_only f None none p =
      (λ won. absurd (none won.0 won.1 p won.2.stated won.2.named), λ e. absurd (cc))
  winner_only f (Some d) won p = (
    λ other. ap Some (one_winner (f d) p won other),
    λ e. subst (λ q. Wins (IsStated tree n rules) name (Some q)) (same_Some (f d) p e) won,
  )

-- ---- what the walk answers

module _ {A : Type 0} (f : A → StyleDeclaration) (has : DeclarationSet) (name : List ℕ) where
  pub winner_found : (r : Option A) → Wins has name (option_map f r)
      → IfSome r (λ d. Wins has name (Some (f d)))
  winner_found None wins = tt
  winner_found (Some d) wins = wins

  pub winner_none : (r : Option A) → Wins has name (option_map f r) → IsNone r ↔ HasNone has name
  winner_none None wins = (λ _. wins, λ _. refl)
  winner_none (Some d) wins =
      (λ e. absurd (cc), λ none. absurd (none wins.0 wins.1 (f d) wins.2.stated wins.2.named))

-- a rule that was read from its index
pub rule_read : (rules : List Rule) (k : ℕ) (r : Rule) → k < length rules → r ≡ get_or rules k r
    → slice_get (rules_of rules) k ≡ Some (rule_of r)
rule_read rules k r within is = slice_get-map rule_of rules k
    ∙ ap (option_map rule_of) (slice_get_read rules (length rules) k r refl within is)
