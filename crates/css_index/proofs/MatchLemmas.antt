-- Selectors that match are found, and those that are found and need no test match.
-- Serves `SelectorIndex::matching`.
use Rattle.std.proofs.Common.{◌≡◌, ℕ, inl, inr, Bool, true, false, IsTrue, List, [], ◌∷◌, None, refl, sym, ap, ◌∙◌, subst}
use Rattle.std.specs.Prelude.{is_none, if◌then◌else◌}
use Rattle.std.specs.List.{list_any, list_all}
use Rattle.css_selectors.specs.AncestorKeys.{is_exact_key}
use Rattle.css_selector_text.specs.Components.{Selector}
use Rattle.css_selectors.specs.Documents.{Document}
use Rattle.css_selectors.specs.Keys.{Key, has_key, keys_of}
use Rattle.css_selectors.specs.Keys.Key.{by_id, by_class, by_name, by_attribute, by_nothing}
use Rattle.css_selectors.proofs.AfterKeyLemmas.{after_key_exact, found_matches, matches_found}
use Rattle.css_selectors.proofs.AncestorKeyLemmas.{only_matches, only_exact}
use Rattle.css_selectors.specs.AfterKeys.{begins_with_key}
use Rattle.css_selectors.proofs.KeyLemmas.{matched_has}
use Rattle.css_index.specs.Found.{MatchesAt}
use Rattle.css_index.specs.Reported.{Reported, reports_key, ReportsKeys}
use Rattle.css_index.specs.Tested.{IsKeyedAt, filed_keys}
use Rattle.css_index.specs.internal.Candidates.{PassesAt}
use Rattle.css_index.proofs.FoundLemmas.{some_same}
use Rattle.css_index.proofs.KeyedLemmas.{any_from, any_to}
use Rattle.css_index.proofs.TruthLemmas.{and_first, and_second, or_cases, or_first, or_second}

filed_all : (s : Selector) → s.pseudo_element ≡ None → filed_keys s ≡ keys_of s
filed_all s e = ap (λ o. if is_none o then keys_of s else []) e

-- each of these keys that is filed is one of the selector
filed_any : (s : Selector) (p : Key → Bool) → IsTrue (list_any p (filed_keys s))
    → IsTrue (list_any p (keys_of s))
filed_any s p h = by (is_none s.pseudo_element) h
  where
    by : (t : Bool) → IsTrue (list_any p (if t then keys_of s else [])) → IsTrue (list_any p (keys_of s))
    by true k = k
    by false k = absurd (cc)

module _ {Node : Type 0} (document : Document Node) (n : Node) (reported : Reported) where
  -- ids and classes that are reported are had
  exact_had : (key : Key) → IsTrue (is_exact_key key) → IsTrue (reports_key document n reported key)
      → IsTrue (has_key document n key)
  exact_had (by_id text) e h = h
  exact_had (by_class word) e h = h
  exact_had (by_name name) e h = absurd (cc)
  exact_had (by_attribute name) e h = absurd (cc)
  exact_had by_nothing e h = refl

  exacts_had : (keys : List Key) → IsTrue (list_all is_exact_key keys)
      → IsTrue (list_any (reports_key document n reported) keys)
      → IsTrue (list_any (has_key document n) keys)
  exacts_had [] e h = absurd (cc)
  exacts_had (key ∷ keys) e h =
      elim (or_cases (reports_key document n reported key)
      (list_any (reports_key document n reported) keys) h) [
        | inl k ↦ or_first (has_key document n key) (list_any (has_key document n) keys)
            (exact_had key (and_first (is_exact_key key) (list_all is_exact_key keys) e) k)
        | inr k ↦ or_second (has_key document n key) (list_any (has_key document n) keys)
            (exacts_had keys (and_second (is_exact_key key) (list_all is_exact_key keys) e) k)
      ]

  module _ (selectors : List Selector) (index : ℕ) where
    -- one that is found and passes matches
    pub passed_matches : IsKeyedAt document n reported selectors index
        → PassesAt document n selectors index → MatchesAt document n selectors index
    passed_matches keyed passes = (
      passes.0,
      passes.1,
      (let same : keyed.0 ≡ passes.0 = some_same (sym keyed.1 ∙ passes.1) in
          let reports = subst (λ s. IsTrue (list_any (reports_key document n reported) (keys_of s)))
          same (filed_any keyed.0 (reports_key document n reported) keyed.2) in
          elim passes.2 [
            | inl only ↦ only_matches document n passes.0 only (exacts_had (keys_of passes.0)
                (only_exact passes.0 only) reports)
            | inr m ↦ found_matches document n passes.0 (begins_with_key passes.0) refl
                (λ begins. exacts_had (keys_of passes.0) (after_key_exact passes.0 begins) reports) m
          ]),
    )

    pub matched_passes : MatchesAt document n selectors index → PassesAt document n selectors index
    matched_passes m =
        (m.0, m.1, inr (matches_found document n m.0 (begins_with_key m.0) refl m.2))

    -- a selector that matches is found
    pub match_keyed : ReportsKeys document n reported → MatchesAt document n selectors index
        → IsKeyedAt document n reported selectors index
    match_keyed law (s, is, m) =
        let r = any_from (has_key document n) (keys_of s) (matched_has document n s m) in (
          s,
          is,
          subst (λ keys. IsTrue (list_any (reports_key document n reported) keys))
              (sym (filed_all s m.0))
              (any_to (reports_key document n reported) (keys_of s) r.0 r.1 (law r.0 r.2)),
        )
