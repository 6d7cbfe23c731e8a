-- The last indices of keys, and of those that an element reports.
-- Serves `index::last_by_key::LastByKey` (a key gets an index) and `RuleIndex::matching_counted`
-- (the keys that an element reports).
use Rattle.std.proofs.Common.{◌≡◌, ℕ, ◌↔◌, ◌⊎◌, inl, inr, List, [], ◌∷◌, ◌++◌, Bool, true, false, cond, IsTrue, Option, None, Some, eqb, refl, sym, ap, ◌∙◌, subst, Bor}
use Rattle.std.specs.Prelude.{bytes_eq, ◌||◌}
use Rattle.std.specs.BTreeMap.{BTreeMap, UpdatesBy}
use Rattle.std.specs.Cmp.Lexicographic.{slice_cmp}
use Rattle.std.specs.List.{Contains, list_any, slice_split}
use Rattle.std.specs.Ordering.{nat_cmp}
use Rattle.std.proofs.Math.Bool.{or-true}
use Rattle.std.proofs.lemmas.Bool.{false≢true}
use Rattle.std.proofs.lemmas.List.Elements.{Contains-append_left, Contains-append_right, Contains-append_cases, Contains-push, Contains-push_cases}
use Rattle.std.proofs.lemmas.Map.Text.{btree_map_updates_str}
use Rattle.std.proofs.lemmas.Slice.Eq.{bytes_eq-Decides}
use Rattle.css_text.specs.AsciiBytes.{space}
use Rattle.simplecss_grammar.specs.Components.Operator.{equals, has_word}
use Rattle.simplecss_selector.specs.Keys.{Key, Reported, reports_key, has_satisfying_value}
use Rattle.simplecss_selector.specs.Keys.Key.{by_id, by_class, by_name, by_attribute, by_nothing}
use Rattle.simplecss.specs.internal.TextIndices.{index_for_text}
use Rattle.simplecss.specs.internal.LastByKey.{last_for, TakesIndex, IdLeads, ClassLeads, AttributeLeads, KeyLeads}
use Rattle.simplecss.specs.SelectorIndices.{Adds}
use Rattle.simplecss.specs.declared.index.last_by_key.LastByKey.{LastByKey}
use Rattle.simplecss.specs.declared.index.texts.Texts.{Texts}
use Rattle.simplecss.proofs.Adding.{contains_none, contains_one, adds_none, adds_then, adds_as}

-- a change at one text is seen at that text, and leaves the others
pub changed_text : (m n : BTreeMap (Bor (List ℕ)) ℕ) (index : ℕ) (text other : List ℕ)
    → UpdatesBy (λ x y. slice_cmp nat_cmp x.now y.now) (λ k. slice_cmp nat_cmp text k.now) m n
    (Some index)
    → ((text ≡ other) × (index_for_text n other ≡ Some index))
    ⊎ ((text ≡ other → ⊥) × (index_for_text n other ≡ index_for_text m other))
changed_text m n index text other updates = at (bytes_eq text other) refl
  where
    after : index_for_text n other
        ≡ cond (bytes_eq text other) (Some index) (index_for_text m other)
    after = btree_map_updates_str text m n (Some index) updates other

    at : (b : Bool) → bytes_eq text other ≡ b
        → ((text ≡ other) × (index_for_text n other ≡ Some index))
        ⊎ ((text ≡ other → ⊥) × (index_for_text n other ≡ index_for_text m other))
    at true e = inl (
      (bytes_eq-Decides text other).0 e,
      after ∙ ap (λ b. cond b (Some index) (index_for_text m other)) e,
    )
    at false e = inr (
      λ same. false≢true (sym e ∙ (bytes_eq-Decides text other).1 same),
      after ∙ ap (λ b. cond b (Some index) (index_for_text m other)) e,
    )

-- the same, of a kind of keys
kind_of : {A B : Type 0} {text other : List ℕ} (kind : List ℕ → Key)
    → (kind text ≡ kind other → text ≡ other) → ((text ≡ other) × A) ⊎ ((text ≡ other → ⊥) × B)
    → ((kind text ≡ kind other) × A) ⊎ ((kind text ≡ kind other → ⊥) × B)
kind_of kind back (inl h) = inl (ap kind h.0, h.1)
kind_of kind back (inr h) = inr (λ e. h.0 (back e), h.1)

-- an index is put under an id, a class, a name or none of them
module _ (old : LastByKey) (index : ℕ) where
  pub takes_id : (m : Texts) (text : List ℕ)
      → UpdatesBy (λ x y. slice_cmp nat_cmp x.now y.now) (λ k. slice_cmp nat_cmp text k.now)
      old.ids.indices m.indices (Some index) → TakesIndex old (record {
        ids = m;
        classes = old.classes;
        names = old.names;
        attributes = old.attributes;
        any = old.any;
      }) (by_id text) index
  takes_id m text updates (by_id t) =
      kind_of by_id (λ e. cc) (changed_text old.ids.indices m.indices index text t updates)
  takes_id m text updates (by_class t) = inr (λ e. cc, refl)
  takes_id m text updates (by_name t) = inr (λ e. cc, refl)
  takes_id m text updates (by_attribute t) = inr (λ e. cc, refl)
  takes_id m text updates by_nothing = inr (λ e. cc, refl)

  pub takes_class : (m : Texts) (text : List ℕ)
      → UpdatesBy (λ x y. slice_cmp nat_cmp x.now y.now) (λ k. slice_cmp nat_cmp text k.now)
      old.classes.indices m.indices (Some index) → TakesIndex old (record {
        ids = old.ids;
        classes = m;
        names = old.names;
        attributes = old.attributes;
        any = old.any;
      }) (by_class text) index
  takes_class m text updates (by_id t) = inr (λ e. cc, refl)
  takes_class m text updates (by_class t) =
      kind_of by_class (λ e. cc) (changed_text old.classes.indices m.indices index text t updates)
  takes_class m text updates (by_name t) = inr (λ e. cc, refl)
  takes_class m text updates (by_attribute t) = inr (λ e. cc, refl)
  takes_class m text updates by_nothing = inr (λ e. cc, refl)

  pub takes_name : (m : Texts) (text : List ℕ)
      → UpdatesBy (λ x y. slice_cmp nat_cmp x.now y.now) (λ k. slice_cmp nat_cmp text k.now)
      old.names.indices m.indices (Some index) → TakesIndex old (record {
        ids = old.ids;
        classes = old.classes;
        names = m;
        attributes = old.attributes;
        any = old.any;
      }) (by_name text) index
  takes_name m text updates (by_id t) = inr (λ e. cc, refl)
  takes_name m text updates (by_class t) = inr (λ e. cc, refl)
  takes_name m text updates (by_name t) =
      kind_of by_name (λ e. cc) (changed_text old.names.indices m.indices index text t updates)
  takes_name m text updates (by_attribute t) = inr (λ e. cc, refl)
  takes_name m text updates by_nothing = inr (λ e. cc, refl)

  pub takes_attribute : (m : Texts) (text : List ℕ)
      → UpdatesBy (λ x y. slice_cmp nat_cmp x.now y.now) (λ k. slice_cmp nat_cmp text k.now)
      old.attributes.indices m.indices (Some index) → TakesIndex old (record {
        ids = old.ids;
        classes = old.classes;
        names = old.names;
        attributes = m;
        any = old.any;
      }) (by_attribute text) index
  takes_attribute m text updates (by_id t) = inr (λ e. cc, refl)
  takes_attribute m text updates (by_class t) = inr (λ e. cc, refl)
  takes_attribute m text updates (by_name t) = inr (λ e. cc, refl)
  takes_attribute m text updates (by_attribute t) = kind_of by_attribute (λ e. cc)
      (changed_text old.attributes.indices m.indices index text t updates)
  takes_attribute m text updates by_nothing = inr (λ e. cc, refl)

  pub takes_any : TakesIndex old (record {
    ids = old.ids;
    classes = old.classes;
    names = old.names;
    attributes = old.attributes;
    any = Some index;
  }) by_nothing index
  takes_any (by_id t) = inr (λ e. cc, refl)
  takes_any (by_class t) = inr (λ e. cc, refl)
  takes_any (by_name t) = inr (λ e. cc, refl)
  takes_any (by_attribute t) = inr (λ e. cc, refl)
  takes_any by_nothing = inl (refl, refl)

-- ---- the words of a class

word_test : (ws : List (List ℕ)) (word : List ℕ)
    → Contains ws word ↔ (list_any (λ entry. bytes_eq entry word) ws ≡ true)
word_test [] word = (λ c. absurd (contains_none word c), λ e. absurd (false≢true e))
word_test (w ∷ ws) word =
    (there (word_test ws word).0, back (word_test ws word).1 (bytes_eq w word) refl)
  where
    there : (Contains ws word → list_any (λ entry. bytes_eq entry word) ws ≡ true)
        → Contains (w ∷ ws) word
        → (bytes_eq w word || list_any (λ entry. bytes_eq entry word) ws) ≡ true
    there later h =
        elim (Contains-append_cases (w ∷ []) ws word h) [
          | inl x ↦ ap (λ b. b || list_any (λ entry. bytes_eq entry word) ws)
              ((bytes_eq-Decides w word).1 ((contains_one w word).0 x))
          | inr y ↦ ap (λ b. bytes_eq w word || b) (later y) ∙ or-true (bytes_eq w word)
        ]

    back : (list_any (λ entry. bytes_eq entry word) ws ≡ true → Contains ws word) → (b : Bool)
        → bytes_eq w word ≡ b → (b || list_any (λ entry. bytes_eq entry word) ws) ≡ true
        → Contains (w ∷ ws) word
    back later true e h = Contains-append_left (w ∷ []) ws word
        ((contains_one w word).1 ((bytes_eq-Decides w word).0 e))
    back later false e h = Contains-append_right (w ∷ []) ws word (later h)

-- the indices to which the classes among these lead
abbrev pub OfClasses : LastByKey → List (List ℕ) → ℕ → Type 0
OfClasses lasts words index =
    (word : List ℕ) × Contains words word × (last_for lasts (by_class word) ≡ Some index)

pub no_classes : (lasts : LastByKey) (indices : List ℕ) → Adds indices indices (OfClasses lasts [])
no_classes lasts indices = adds_none indices (OfClasses lasts []) (λ index h. contains_none h.0 h.1)

pub class_more : (lasts : LastByKey) (words : List (List ℕ)) (word : List ℕ) (a b c : List ℕ)
    → Adds a b (OfClasses lasts words)
    → Adds b c (λ index. last_for lasts (by_class word) ≡ Some index)
    → Adds a c (OfClasses lasts (words ++ word ∷ []))
class_more lasts words word a b c before more =
    adds_as a c (λ index. (there index, back index)) (adds_then a b c before more)
  where
    there : (index : ℕ)
        → OfClasses lasts words index ⊎ (last_for lasts (by_class word) ≡ Some index)
        → OfClasses lasts (words ++ word ∷ []) index
    there index (inl h) = (h.0, Contains-append_left words (word ∷ []) h.0 h.1, h.2)
    there index (inr h) = (word, Contains-push words word, h)

    at : (index : ℕ) (w : List ℕ) → last_for lasts (by_class w) ≡ Some index
        → Contains words w ⊎ (word ≡ w)
        → OfClasses lasts words index ⊎ (last_for lasts (by_class word) ≡ Some index)
    at index w is (inl h) = inl (w, h, is)
    at index w is (inr e) = inr (ap (λ x. last_for lasts (by_class x)) e ∙ is)

    back : (index : ℕ) → OfClasses lasts (words ++ word ∷ []) index
        → OfClasses lasts words index ⊎ (last_for lasts (by_class word) ≡ Some index)
    back index h = at index h.0 h.2 (Contains-push_cases words word h.0 h.1)

pub all_classes : (lasts : LastByKey) (words : List (List ℕ)) (value : List ℕ) (a b : List ℕ)
    → words ≡ slice_split (λ byte. eqb byte space) value → Adds a b (OfClasses lasts words)
    → Adds a b (ClassLeads lasts (Some value))
all_classes lasts words value a b e = adds_as a b (λ index. (
  λ h. (
    h.0,
    subst (λ ws. list_any (λ entry. bytes_eq entry h.0) ws ≡ true) e ((word_test words h.0).0 h.1),
    h.2,
  ),
  λ h. (
    h.0,
    (word_test words h.0).1
        (subst (λ ws. list_any (λ entry. bytes_eq entry h.0) ws ≡ true) (sym e) h.1),
    h.2,
  ),
))

-- ---- all keys that are reported

module _ (reported : Reported) (lasts : LastByKey) where
  module _ (index : ℕ) where
    id_key : (id : Option (List ℕ)) → reported.id ≡ id → IdLeads lasts id index
        → KeyLeads reported lasts index
    id_key None e h = absurd h
    id_key (Some text) e h = (
      by_id text,
      ap (has_satisfying_value (equals text)) e ∙ (bytes_eq-Decides text text).1 refl,
      h,
    )

    pseudo_class_key : (class : Option (List ℕ)) → reported.class ≡ class
        → ClassLeads lasts class index → KeyLeads reported lasts index
    pseudo_class_key None e h = absurd h
    pseudo_class_key (Some value) e h =
        (by_class h.0, ap (has_satisfying_value (has_word h.0)) e ∙ h.1, h.2)

    key_id : (id : Option (List ℕ)) (text : List ℕ) → has_satisfying_value (equals text) id ≡ true
        → last_for lasts (by_id text) ≡ Some index → IdLeads lasts id index
    key_id None text has is = absurd (false≢true has)
    key_id (Some own) text has is =
        ap (λ x. last_for lasts (by_id x)) ((bytes_eq-Decides own text).0 has) ∙ is

    key_class : (class : Option (List ℕ)) (word : List ℕ)
        → has_satisfying_value (has_word word) class ≡ true
        → last_for lasts (by_class word) ≡ Some index → ClassLeads lasts class index
    key_class None word has is = absurd (false≢true has)
    key_class (Some value) word has is = (word, has, is)

    abbrev FiveLead : Type 0
    FiveLead = ((((last_for lasts by_nothing ≡ Some index)
        ⊎ (last_for lasts (by_name reported.name) ≡ Some index)) ⊎ IdLeads lasts reported.id index)
        ⊎ ClassLeads lasts reported.class index) ⊎ AttributeLeads lasts reported.has_attribute index

    keys_reported : FiveLead ↔ KeyLeads reported lasts index
    keys_reported = (there, λ h. back h.0 h.1 h.2)
      where
        there : FiveLead → KeyLeads reported lasts index
        there (inl (inl (inl (inl h)))) = (by_nothing, refl, h)
        there (inl (inl (inl (inr h)))) =
            (by_name reported.name, (bytes_eq-Decides reported.name reported.name).1 refl, h)
        there (inl (inl (inr h))) = id_key reported.id refl h
        there (inl (inr h)) = pseudo_class_key reported.class refl h
        there (inr h) = (by_attribute h.0, h.1, h.2)

        back : (key : Key) → IsTrue (reports_key reported key) → last_for lasts key ≡ Some index
            → FiveLead
        back (by_id text) has is = inl (inl (inr (key_id reported.id text has is)))
        back (by_class word) has is = inl (inr (key_class reported.class word has is))
        back (by_attribute name) has is = inr (name, has, is)
        back (by_name other) has is = inl (inl (inl (inr (ap (λ x. last_for lasts (by_name x))
            ((bytes_eq-Decides reported.name other).0 has) ∙ is))))
        back by_nothing has is = inl (inl (inl (inl is)))

  -- where no key has an index, none is added
  pub none_lead : (indices : List ℕ) → ((key : Key) → last_for lasts key ≡ None)
      → Adds indices indices (KeyLeads reported lasts)
  none_lead indices none = adds_none indices (KeyLeads reported lasts)
      (λ index h. no_index (last_for lasts h.0) index (none h.0) h.2)
    where
      no_index : (r : Option ℕ) (index : ℕ) → r ≡ None → r ≡ Some index → ⊥
      no_index None index e h = cc
      no_index (Some p) index e h = cc

  -- the indices of the five kinds of keys were added
  pub keys_added : (a b c d e f : List ℕ)
      → Adds a b (λ index. last_for lasts by_nothing ≡ Some index)
      → Adds b c (λ index. last_for lasts (by_name reported.name) ≡ Some index)
      → Adds c d (IdLeads lasts reported.id) → Adds d e (ClassLeads lasts reported.class)
      → Adds e f (AttributeLeads lasts reported.has_attribute) → Adds a f (KeyLeads reported lasts)
  keys_added a b c d e f any named by_ids by_classes by_attributes =
      adds_as a f keys_reported (adds_then a e f (adds_then a d e
      (adds_then a c d (adds_then a b c any named) by_ids) by_classes) by_attributes)
