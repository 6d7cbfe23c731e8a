-- What is kept of the elements of an HTML document.
-- Serves `html_states` and `NumberedTree::is_in_html_state`.
use Rattle.std.proofs.Common.{◌≡◌, ℕ, zero, suc, ◌+◌, ◌<◌, ◌≤◌, Bool, true, false, ◌||◌, ◌&&◌, cond, List, length, get_or, set, Option, None, Some, IfSome, refl, sym, ap, subst, ◌∙◌, add-one, arith, Bor}
use Rattle.std.specs.Prelude.{◌==◌, bytes_eq, codes, is_some, if◌then◌else◌}
use Rattle.std.specs.BTreeMap.{BTreeMap, get}
use Rattle.std.specs.Option.{option_map_or}
use Rattle.std.specs.Ordering.{is_eq}
use Rattle.std.proofs.lemmas.Bool.Decides.{Decides-eqb, nat_tests}
use Rattle.std.proofs.lemmas.List.{get_or-set_same, get_or-set_other, length-set}
use Rattle.std.proofs.lemmas.Option.{get_or_from_slice_get, slice_get-get_or}
use Rattle.css_matching.specs.ListTrees.{lesser_before}
use Rattle.css_elements.specs.Rows.{Row}
use Rattle.css_elements.specs.TreeNodes.{named_parent}
use Rattle.css_tree.specs.Counts.{any_below}
use Rattle.css_tree.specs.HtmlElements.{has_attribute, is_named, is_radio, is_submit}
use Rattle.css_tree.specs.HtmlStates.{form_of, group_name, is_checked, is_checked_in, is_in_html_state, is_in_state_named, is_submit_of, state_named}
use Rattle.css_tree.specs.HtmlViews.{AreStates, AreChecked, HaveSubmits, group_cmp, html_states, is_in, is_in_named}
use Rattle.css_tree.specs.Pages.{parent_index}
use Rattle.css_tree.specs.Surroundings.{surroundings}
use Rattle.css_tree.specs.declared.html_states.HtmlState.{HtmlState}
use Rattle.css_tree.specs.declared.html_states.HtmlState.TheVariants.{Checked, Disabled, Enabled, Required, Optional, ReadWrite, ReadOnly, PlaceholderShown, Default, Indeterminate, Open, Defined, InLeftToRight, InRightToLeft}
use Rattle.css_tree.specs.declared.html_states.HtmlStates.{HtmlStates}
use Rattle.css_tree.proofs.KindLemmas.{equal_keys, flipped}
use Rattle.css_tree.proofs.SurroundingLemmas.{surroundings-root, surroundings-child}

-- ---- what an element is in

module _ (rows : List Row) (has_text : Bool) (i : ℕ) where
  in_each : (state : HtmlState)
      → is_in (html_states rows i) has_text state ≡ is_in_html_state rows has_text i state
  in_each Checked = refl
  in_each Disabled = refl
  in_each Enabled = refl
  in_each Required = refl
  in_each Optional = refl
  in_each ReadWrite = refl
  in_each ReadOnly = refl
  in_each PlaceholderShown = refl
  in_each Default = refl
  in_each Indeterminate = refl
  in_each Open = refl
  in_each Defined = refl
  in_each InLeftToRight = refl
  in_each InRightToLeft = refl

  in_any : (state : Option HtmlState)
      → option_map_or (is_in (html_states rows i) has_text) state false
      ≡ option_map_or (is_in_html_state rows has_text i) state false
  in_any None = refl
  in_any (Some state) = in_each state

  pub in_named : (name : List ℕ)
      → is_in_named (html_states rows i) has_text name ≡ is_in_state_named rows has_text i name
  in_named name = in_any (state_named name)

pub read_within : {X : Type 0} (xs : List X) (i : ℕ) (x d : X) → i < length xs → x ≡ get_or xs i x
    → x ≡ get_or xs i d
read_within xs i x d lt read =
    read ∙ sym (get_or_from_slice_get xs i (get_or xs i x) d (slice_get-get_or xs i x lt))

-- what is read at an index
pub in_known : (rows : List Row) (has_text : Bool) (states : List HtmlStates) (own : HtmlStates) (i : ℕ)
    (name : List ℕ) → AreStates rows states (length rows) → i < length rows → own ≡ get_or states i own
    → is_in_named own has_text name ≡ is_in_state_named rows has_text i name
in_known rows has_text states own i name are lt read =
    ap (λ s. is_in_named s has_text name)
    (read ∙ get_or_from_slice_get states i (html_states rows i) own (are.each i lt))
    ∙ in_named rows has_text i name

-- ---- forms

-- the number of a form is at most the index of an element in it
form_within : (rows : List Row) (n i : ℕ) → i < n → (surroundings rows i).form ≤ i
form_within rows zero i lt = absurd (omega (arith, lt))
form_within rows (suc n) i lt = of (form_within rows n) (parent_index rows i) refl
  where
    under : (p : ℕ) (b : Bool) → p < i → (surroundings rows p).form ≤ p
        → (if b then suc p else (surroundings rows p).form) ≤ i
    under p true less most = omega (arith, less)
    under p false less most = omega (arith, less, most)

    of : ((p : ℕ) → p < n → (surroundings rows p).form ≤ p) → (r : Option ℕ)
        → parent_index rows i ≡ r → (surroundings rows i).form ≤ i
    of before None is = subst (λ s. s.form ≤ i) (surroundings-root rows i is) (omega arith)
    of before (Some p) is =
        let less : p < i =
        subst (λ r. IfSome r (λ q. q < i)) is (lesser_before i (named_parent rows i)) in
        subst (λ s. s.form ≤ i) (surroundings-child rows i p is)
        (under p (is_named rows p (codes "form")) less (before p (omega (arith, lt, less))))

pub form_of-within : (rows : List Row) (i : ℕ) → i < length rows → form_of rows i ≤ length rows
form_of-within rows i lt = of (has_attribute rows i (codes "form"))
  where
    of : (b : Bool) → (if b then 0 else (surroundings rows i).form) ≤ length rows
    of true = omega arith
    of false = let most = form_within rows (suc i) i (omega arith) in omega (arith, lt, most)

or_true : (b : Bool) → (b || true) ≡ true
or_true true = refl
or_true false = refl

or_false : (b : Bool) → (b || false) ≡ b
or_false true = refl
or_false false = refl

-- an element that is no submit button
pub submits-same : (rows : List Row) (have : List Bool) (n : ℕ) → is_submit rows n ≡ false
    → HaveSubmits rows have n → HaveSubmits rows have (n + 1)
submits-same rows have n none are = record {
  all = are.all;
  each = λ form le. rw add-one (are.each form le
      ∙ sym (ap (λ b. any_below (is_submit_of rows form) n || (b && form_of rows n == form)) none
      ∙ or_false (any_below (is_submit_of rows form) n)));
}

-- the form of a submit button
pub submits-more : (rows : List Row) (have : List Bool) (n own : ℕ) → is_submit rows n ≡ true
    → own ≡ form_of rows n → n < length rows → HaveSubmits rows have n
    → HaveSubmits rows (set have own true) (n + 1)
submits-more rows have n own is of lt are = record {
  all = length-set have own true ∙ are.all;
  each = λ form le. rw add-one (by form le (own == form) refl
      ∙ sym (ap (λ b. any_below (is_submit_of rows form) n || (b && form_of rows n == form)) is
      ∙ ap (λ f. any_below (is_submit_of rows form) n || f == form) (sym of)));
}
  where
    by : (form : ℕ) → form ≤ length rows → (b : Bool) → (own == form) ≡ b
        → get_or (set have own true) form false
        ≡ (any_below (is_submit_of rows form) n || own == form)
    by form le true same =
        let e = (Decides-eqb own form).0 same in
        let count = are.all in
        ap (λ j. get_or (set have own true) j false) (sym e)
        ∙ get_or-set_same have own true false (omega (arith, e, le, count))
        ∙ sym (ap (λ b. any_below (is_submit_of rows form) n || b) same
        ∙ or_true (any_below (is_submit_of rows form) n))
    by form le false other =
        get_or-set_other have own form true false (λ e. absurd (grind (arith, nat_tests, other, e)))
        ∙ are.each form le
        ∙ sym (ap (λ b. any_below (is_submit_of rows form) n || b) other
        ∙ or_false (any_below (is_submit_of rows form) n))

-- ---- groups of radio buttons

some_or : (b : Bool) (n : ℕ) (r : Option ℕ) → is_some (cond b (Some n) r) ≡ (is_some r || b)
some_or true n r = sym (or_true (is_some r))
some_or false n r = sym (or_false (is_some r))

-- an element that is no checked radio button
pub groups-same : (rows : List Row) (groups : BTreeMap (ℕ × Bor (List ℕ)) ℕ) (n : ℕ)
    → (is_radio rows n && is_checked rows n) ≡ false → AreChecked rows groups n
    → AreChecked rows groups (n + 1)
groups-same rows groups n none are q =
    rw add-one (are q
    ∙ sym (ap (λ b. any_below (is_checked_in rows q.0 q.1.now) n
    || (b && (q.0 == form_of rows n && bytes_eq q.1.now (group_name rows n)))) none
    ∙ or_false (any_below (is_checked_in rows q.0 q.1.now) n)))

-- the group of one that is
pub groups-more : (rows : List Row) (old new : BTreeMap (ℕ × Bor (List ℕ)) ℕ) (n : ℕ)
    (key : ℕ × Bor (List ℕ)) → (is_radio rows n && is_checked rows n) ≡ true
    → key.0 ≡ form_of rows n → key.1.now ≡ group_name rows n
    → ((q : ℕ × Bor (List ℕ)) → get group_cmp new q
    ≡ cond (is_eq (group_cmp key q)) (Some n) (get group_cmp old q))
    → AreChecked rows old n → AreChecked rows new (n + 1)
groups-more rows old new n key is form name updates are q =
    rw add-one (ap is_some (updates q) ∙ some_or (is_eq (group_cmp key q)) n (get group_cmp old q)
    ∙ ap (λ b. b || is_eq (group_cmp key q)) (are q)
    ∙ ap (λ b. any_below (is_checked_in rows q.0 q.1.now) n || b) same)
  where
    same : is_eq (group_cmp key q)
        ≡ ((is_radio rows n && is_checked rows n)
        && (q.0 == form_of rows n && bytes_eq q.1.now (group_name rows n)))
    same =
        equal_keys key q ∙ flipped key.0 q.0 key.1.now q.1.now
        ∙ ap (λ f. q.0 == f && bytes_eq q.1.now key.1.now) form
        ∙ ap (λ m. q.0 == form_of rows n && bytes_eq q.1.now m) name
        ∙ ap (λ b. b && (q.0 == form_of rows n && bytes_eq q.1.now (group_name rows n))) (sym is)
