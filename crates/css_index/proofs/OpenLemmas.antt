-- Selectors that match are kept by a walk.
-- Serves `SelectorWalk::matching`.
use Rattle.std.proofs.Common.{ℕ, IsTrue, List, [], ◌∷◌, map, Some, get_or, inl, inr, refl, sym, ◌∙◌, subst}
use Rattle.std.specs.Char.{to_ascii_lowercase}
use Rattle.std.specs.Str.{str_eq_ignore_ascii_case}
use Rattle.std.proofs.lemmas.List.Elements.{Contains-get_or}
use Rattle.std.proofs.lemmas.Slice.Eq.{bytes_eq-Decides}
use Rattle.css_matching.specs.Placements.{IsBeyond}
use Rattle.css_matching.specs.Placements.IsBeyond.{is_next, is_further}
use Rattle.css_matching.specs.Trees.{SiblingsShareParent}
use Rattle.css_open_elements.specs.Opened.{IsOpen, IsOfLast}
use Rattle.css_selectors.specs.Documents.{Document, shape}
use Rattle.css_selectors.specs.Keys.{Key, has_key}
use Rattle.css_selectors.specs.Keys.Key.{by_id, by_class, by_name, by_attribute, by_nothing}
use Rattle.css_selectors.proofs.AncestorKeyLemmas.{matched_above, matched_parent}
use Rattle.css_index.specs.Found.{MatchesAt}
use Rattle.css_index.specs.Reported.{Reported, reports_key, ReportsKeys}
use Rattle.css_index.specs.Walks.{Numbered, HasNumber, Walk, AreNeeds, AreOpened, IsKeptAt}
use Rattle.css_index.specs.KeyNumbers.{is_same}
use Rattle.css_index.proofs.KeyedLemmas.{any_from, any_to}
use Rattle.css_index.proofs.WalkLemmas.{needs_at}

same_lowered : (a b c : List ℕ) → IsTrue (str_eq_ignore_ascii_case a b)
    → IsTrue (str_eq_ignore_ascii_case b c) → IsTrue (str_eq_ignore_ascii_case a c)
same_lowered a b c h k =
    (bytes_eq-Decides (map to_ascii_lowercase a) (map to_ascii_lowercase c)).1
    ((bytes_eq-Decides (map to_ascii_lowercase a) (map to_ascii_lowercase b)).0 h
    ∙ (bytes_eq-Decides (map to_ascii_lowercase b) (map to_ascii_lowercase c)).0 k)

-- a key that is the same as one that is reported is reported
reports_same : {Node : Type 0} (document : Document Node) (n : Node) (reported : Reported)
    (own key : Key) → IsTrue (is_same own key) → IsTrue (reports_key document n reported key)
    → IsTrue (reports_key document n reported own)
reports_same document n reported (by_id a) (by_id b) same h =
    subst (λ t. IsTrue (has_key document n (by_id t))) (sym ((bytes_eq-Decides a b).0 same)) h
reports_same document n reported (by_class a) (by_class b) same h =
    subst (λ t. IsTrue (has_key document n (by_class t))) (sym ((bytes_eq-Decides a b).0 same)) h
reports_same document n reported (by_name a) (by_name b) same h =
    same_lowered a b reported.name same h
reports_same document n reported (by_attribute a) (by_attribute b) same h =
    let r = any_from (str_eq_ignore_ascii_case b) reported.attributes h in
    any_to (str_eq_ignore_ascii_case a) reported.attributes r.0 r.1 (same_lowered a b r.0 same r.2)
reports_same document n reported by_nothing by_nothing same h = refl
reports_same document n reported (by_id a) (by_class b) same h = absurd (cc)
reports_same document n reported (by_id a) (by_name b) same h = absurd (cc)
reports_same document n reported (by_id a) (by_attribute b) same h = absurd (cc)
reports_same document n reported (by_id a) by_nothing same h = absurd (cc)
reports_same document n reported (by_class a) (by_id b) same h = absurd (cc)
reports_same document n reported (by_class a) (by_name b) same h = absurd (cc)
reports_same document n reported (by_class a) (by_attribute b) same h = absurd (cc)
reports_same document n reported (by_class a) by_nothing same h = absurd (cc)
reports_same document n reported (by_name a) (by_id b) same h = absurd (cc)
reports_same document n reported (by_name a) (by_class b) same h = absurd (cc)
reports_same document n reported (by_name a) (by_attribute b) same h = absurd (cc)
reports_same document n reported (by_name a) by_nothing same h = absurd (cc)
reports_same document n reported (by_attribute a) (by_id b) same h = absurd (cc)
reports_same document n reported (by_attribute a) (by_class b) same h = absurd (cc)
reports_same document n reported (by_attribute a) (by_name b) same h = absurd (cc)
reports_same document n reported (by_attribute a) by_nothing same h = absurd (cc)
reports_same document n reported by_nothing (by_id b) same h = absurd (cc)
reports_same document n reported by_nothing (by_class b) same h = absurd (cc)
reports_same document n reported by_nothing (by_name b) same h = absurd (cc)
reports_same document n reported by_nothing (by_attribute b) same h = absurd (cc)

module _ {Node Self : Type 0} (document : Document Node) (node : Self → Node)
    (reported : Self → Reported)
    (law : (e : Self) → ReportsKeys document (node e) (reported e)) (es : Numbered) where
  -- the element that was opened last has the number of each key that its node has
  last_has : (opened : List (List ℕ)) (m : Node) (key : Key) (number : ℕ)
      → AreOpened document node reported es (Some m) opened → IsTrue (has_key document m key)
      → HasNumber es key number → IsOfLast opened number
  last_has [] m key number are h has = absurd are
  last_has (numbers ∷ opened) m key number ((e, is, own), rest) h has =
      (own number).1 (
        has.0,
        has.1,
        reports_same document m (reported e) has.0 key has.2
            (subst (λ x. ReportsKeys document x (reported e)) is (law e) key h),
      )

  last_open : (opened : List (List ℕ)) (number : ℕ) → IsOfLast opened number → IsOpen opened number
  last_open [] number o = o
  last_open (numbers ∷ opened) number o = inl o

  -- open elements have the number of each key that an ancestor has
  above_has : (a n : Node) → IsBeyond document.parent a n → (opened : List (List ℕ)) (key : Key)
      (number : ℕ) → AreOpened document node reported es (document.parent n) opened
      → IsTrue (has_key document a key) → HasNumber es key number → IsOpen opened number
  above_has a n (is_next e) opened key number are h has =
      last_open opened number (last_has opened a key number
      (subst (λ p. AreOpened document node reported es p opened) e are) h has)
  above_has a n (is_further {p = p} e b) opened key number are h has =
      at opened (subst (λ p. AreOpened document node reported es p opened) e are)
      (λ os o. above_has a p b os key number o h has)
    where
      at : (os : List (List ℕ)) → AreOpened document node reported es (Some p) os
          → ((rest : List (List ℕ)) → AreOpened document node reported es (document.parent p) rest
          → IsOpen rest number) → IsOpen os number
      at [] o further = absurd o
      at (numbers ∷ os) o further = inr (further os o.1)

-- a selector that matches is kept
pub match_kept : {Node Self : Type 0} (document : Document Node) (node : Self → Node)
    (reported : Self → Reported) → ((e : Self) → ReportsKeys document (node e) (reported e))
    → SiblingsShareParent (shape document) → (walk : Walk) (n : Node) (index : ℕ)
    → AreOpened document node reported walk.needed (document.parent n) walk.opened
    → AreNeeds walk.needed walk.selectors walk.needs → MatchesAt document n walk.selectors index
    → IsKeptAt walk index
match_kept document node reported law shared walk n index are needs (s, is, m) =
    let r = needs_at walk.needed walk.selectors walk.needs index s needs is in (
      r.0,
      r.1,
      λ k d lt. (let o = r.2.only (get_or r.0.0 k d) (Contains-get_or r.0.0 k d lt) in
          let a = matched_above document shared s n m o.0 o.1 in
          above_has document node reported law walk.needed a.0 n a.1 walk.opened o.0
          (get_or r.0.0 k d) are a.2 o.2),
      λ k d lt. (let o = r.3.only (get_or r.0.1 k d) (Contains-get_or r.0.1 k d lt) in
          let a = matched_parent document s n m o.0 o.1 in
          last_has document node reported law walk.needed walk.opened a.0 o.0 (get_or r.0.1 k d)
          (subst (λ p. AreOpened document node reported walk.needed p walk.opened) a.1 are) a.2 o.2),
    )
