-- Cutting a text where a statement of it ends.
-- Serves `StyleSheet::parse_more` and `laws::cutting_law` (a text read in pieces).
use Rattle.std.proofs.Common.{Bool, IsUtf8, List, None, Option, Some, [], ap, append_assoc, arith, false, filter, get_or, if◌then◌else◌, length, refl, subst, sym, true, ℕ, ◌++◌, ◌<◌, ◌∙◌, ◌∷◌, ◌≡◌, drop, inl, inr, suc, take, zero}
use Rattle.std.proofs.lemmas.Grind.{flat_map-append}
use Rattle.std.proofs.lemmas.List.{append_cancel_left, get_or-map, length-map, append-nil, take-append-drop}
use Rattle.std.specs.List.{flat_map}
use Rattle.std.specs.Option.{option_map}
use Rattle.std.specs.Prelude.{Result, Ok, Err}
use Rattle.std.specs.Result.{OnOk}
use Rattle.css_text.specs.Reading.{before, each, Ends, found, rest_offset}
use Rattle.css_text.specs.Characters.{Edition}
use Rattle.simplecss_grammar.specs.Statements.{StyleRule, has_declaration, kept, next_statement, statements}
use Rattle.simplecss_grammar.specs.Sheets.{ordered, sheet}
use Rattle.simplecss_grammar.specs.Cutting.{after_statement, rests_after, ContinuesReading, KeepsAcross, StatementEndsAt}
use Rattle.css_text.proofs.reading.EachLemmas.{Shrinks, Takes, each-none, each-some, option_cases}
use Rattle.css_text.proofs.reading.EndsLemmas.{ends-same}
use Rattle.simplecss_grammar.proofs.reading.StatementTextLemmas.{next_statement-takes}
use Rattle.simplecss_grammar.proofs.cutting.AtRuleCuts.{nothing_in_front}
use Rattle.simplecss_grammar.proofs.cutting.StatementCuts.{next_statement-cut, next_statement-well}
use Rattle.css_text.proofs.reading.WellLemmas.{EndsWell, well-then}

-- a piece of the text ends where rest is left, or the text begins there
pub data Reaches {X : Type 0} (read : List ℕ → Option (X × List ℕ)) (rest : List ℕ) : List ℕ
    → Type 0 where
  at_rest : Reaches read rest rest
  following : (text next : List ℕ) (x : X) → read text ≡ Some (x, next) → Reaches read rest next
      → Reaches read rest text

-- What follows the end of what is read makes no difference.
abbrev Local : {X : Type 0} → (List ℕ → Option (X × List ℕ)) → Type 0
Local {X = X} read =
    (u v w : List ℕ) (x : X) → IsUtf8 (u ++ v) → IsUtf8 v → read (u ++ v) ≡ Some (x, w ++ v)
    → read u ≡ Some (x, w)

-- each reading leaves an end of the text that is UTF-8 if the text is
abbrev pub LeavesWell : {X : Type 0} → (List ℕ → Option (X × List ℕ)) → Type 0
LeavesWell {X = X} read =
    (text rest : List ℕ) (x : X) → read text ≡ Some (x, rest) → EndsWell text rest

pub reaches-well : {X : Type 0} (read : List ℕ → Option (X × List ℕ)) → LeavesWell read
    → (rest text : List ℕ) → Reaches read rest text → EndsWell text rest
reaches-well read well rest text at_rest = (ends-same rest, λ u. u)
reaches-well read well rest text (following _ next x e r) =
    well-then text next rest (well text next x e) (reaches-well read well rest next r)

-- Cut where a piece ends, the text has the pieces of its front and then those of its rest.
each-cut : {X : Type 0} (read : List ℕ → Option (X × List ℕ)) → Takes read → LeavesWell read
    → Local read → read [] ≡ None → (v text : List ℕ) → Reaches read v text → IsUtf8 text
    → (u : List ℕ) → text ≡ u ++ v → (each read text).0 ≡ (each read u).0 ++ (each read v).0
each-cut {X = X} read takes well local nil v text at_rest i u e =
    let none : (each read u).0 ≡ [] =
    ap (λ t. (each read t).0) (nothing_in_front u v (omega (arith, ap length e)))
    ∙ ap (λ r. r.0) (each-none read [] nil) in
    ap (λ (l : List X). l ++ (each read v).0) (sym none)
each-cut {X = X} read takes well local nil v text (following _ next x f r) i u e =
    let w : List ℕ = before next v in
    let parts : next ≡ w ++ v = sym (reaches-well read well v next r).0 in
    let whole : read (u ++ v) ≡ Some (x, w ++ v) =
    ap read (sym e) ∙ f ∙ ap (λ (t : List ℕ). Some (x, t)) parts in
    let on : IsUtf8 next = (well text next x f).1 i in
    let cut : IsUtf8 v = (reaches-well read well v next r).1 on in
    let first : (each read text).0 ≡ x ∷ (each read next).0 =
    ap (λ r. r.0) (each-some read takes text next x f) in
    let front : (each read u).0 ≡ x ∷ (each read w).0 =
    ap (λ r. r.0) (each-some read takes u w x (local u v w x (subst IsUtf8 e i) cut whole)) in
    first ∙ ap (λ (l : List X). x ∷ l) (each-cut read takes well local nil v next r on w parts)
    ∙ ap (λ (l : List X). l ++ (each read v).0) (sym front)

filter-append : (xs ys : List StyleRule)
    → filter has_declaration (xs ++ ys) ≡ filter has_declaration xs ++ filter has_declaration ys
filter-append [] ys = refl
filter-append (x ∷ xs) ys = by (has_declaration x) (filter-append xs ys)
  where
    by : (k : Bool) → filter has_declaration (xs ++ ys) ≡ filter has_declaration xs ++ filter
        has_declaration ys
        → (if k then x ∷ filter has_declaration (xs ++ ys) else filter has_declaration (xs ++ ys))
        ≡ (if k then x ∷ filter has_declaration xs else filter has_declaration xs) ++ filter
        has_declaration ys
    by true ih = ap (λ (l : List StyleRule). x ∷ l) ih
    by false ih = ih

kept-append : (a b : List (List StyleRule))
    → filter has_declaration (flat_map (λ rules. rules) (a ++ b)) ≡ filter has_declaration
    (flat_map (λ rules. rules) a) ++ filter has_declaration (flat_map (λ rules. rules) b)
kept-append [] b = refl
kept-append (x ∷ a) b =
    filter-append x (flat_map (λ rules. rules) (a ++ b))
    ∙ ap (λ (l : List StyleRule). filter has_declaration x ++ l) (kept-append a b)
    ∙ sym (append_assoc (filter has_declaration x)
    (filter has_declaration (flat_map (λ rules. rules) a))
    (filter has_declaration (flat_map (λ rules. rules) b)))
    ∙ ap (λ (l : List StyleRule). l ++ filter has_declaration (flat_map (λ rules. rules) b))
    (sym (filter-append x (flat_map (λ rules. rules) a)))

-- a rest and the offset where it begins
pub drop_rest_offset : (text rest : List ℕ) → Ends text rest
    → drop (rest_offset text rest) text ≡ rest
drop_rest_offset text rest e =
    append_cancel_left (before text rest) (drop (rest_offset text rest) text) rest
    (take-append-drop (rest_offset text rest) text ∙ sym e)

module _ (edition : Edition) where
  -- the kept rules of a text that is cut where a statement ends
  kept-cut : (v text : List ℕ) → Reaches (next_statement edition) v text → IsUtf8 text
      → (u : List ℕ) → text ≡ u ++ v → kept edition text ≡ kept edition u ++ kept edition v
  unfolding statements each
  kept-cut v text r i u e =
      let parts : (each (next_statement edition) text).0 ≡ (each (next_statement edition) u).0 ++
      (each (next_statement edition) v).0
      = each-cut (next_statement edition) (next_statement-takes edition)
      (next_statement-well edition)
      (next_statement-cut edition) refl v text r i u e in
      rw parts (kept-append (each (next_statement edition) u).0 (each (next_statement edition) v).0)

  -- ---- the offsets at which statements end

  after_statement-takes : Takes (after_statement edition)
  after_statement-takes text =
      by (next_statement edition text) (next_statement-takes edition text)
    where
      by : (o : Option (List StyleRule × List ℕ)) → Shrinks text o
          → Shrinks text (option_map (λ (s : List StyleRule × List ℕ). (s.1, s.1)) o)
      by None h = tt
      by (Some x) h = h

  rests-none : (text : List ℕ) → next_statement edition text ≡ None → rests_after edition text ≡ []
  unfolding rests_after
  rests-none text e =
      ap (λ r. r.0) (each-none (after_statement edition) text
      (ap (option_map (λ (s : List StyleRule × List ℕ). (s.1, s.1))) e))

  rests-some : (text rest : List ℕ) (rules : List StyleRule)
      → next_statement edition text ≡ Some (rules, rest)
      → rests_after edition text ≡ rest ∷ rests_after edition rest
  unfolding rests_after
  rests-some text rest rules e =
      ap (λ r. r.0) (each-some (after_statement edition) after_statement-takes text rest rest
      (ap (option_map (λ (s : List StyleRule × List ℕ). (s.1, s.1))) e))

  -- each of these rests is reached by statements
  pub rests-reached : (k : ℕ) (text d : List ℕ) → k < length (rests_after edition text)
      → Reaches (next_statement edition) (get_or (rests_after edition text) k d) text
  rests-reached zero text d l =
      elim (option_cases (next_statement edition text)) [
        | inl e ↦ absurd (omega (arith, l, ap length (rests-none text e)))
        | inr found ↦
            let rests : rests_after edition text ≡ found.0.1 ∷ rests_after edition found.0.1 =
            rests-some text found.0.1 found.0.0 found.1 in
            rw rests (following text found.0.1 found.0.0 found.1 at_rest)
      ]
  rests-reached (suc k) text d l =
      elim (option_cases (next_statement edition text)) [
        | inl e ↦ absurd (omega (arith, l, ap length (rests-none text e)))
        | inr found ↦
            let rests : rests_after edition text ≡ found.0.1 ∷ rests_after edition found.0.1 =
            rests-some text found.0.1 found.0.0 found.1 in
            let less : k < length (rests_after edition found.0.1) =
            omega (arith, l, ap length rests) in
            rw rests (following text found.0.1 found.0.0 found.1 (rests-reached k found.0.1 d less))
      ]

  -- The rules of a text that is cut where one of its statements ends are those of the front and
  -- then those of the rest.
  pub keeps_across : (text : List ℕ) (offset : ℕ) → IsUtf8 text
      → StatementEndsAt edition text offset
      → KeepsAcross edition text offset
  keeps_across text offset i (k, l, is) =
      let within : k < length (rests_after edition text) =
      omega (arith, l, length-map (rests_after edition text) (rest_offset text)) in
      let rest : List ℕ = get_or (rests_after edition text) k [] in
      let reached : Reaches (next_statement edition) rest text =
      rests-reached k text [] within in
      let ends : Ends text rest =
      (reaches-well (next_statement edition) (next_statement-well edition) rest text reached).0 in
      let here : rest_offset text rest ≡ offset =
      sym (get_or-map (rest_offset text) (rests_after edition text) k [] offset within) ∙ is in
      let there : KeepsAcross edition text (rest_offset text rest) =
      kept-cut rest text reached i (before text rest) (sym ends)
      ∙ ap (λ (t : List ℕ). kept edition (before text rest) ++ kept edition t)
      (sym (drop_rest_offset text rest ends)) in
      subst (KeepsAcross edition text) here there

  -- ---- sheets

  -- one more text
  kept-more : (texts : List (List ℕ)) (text : List ℕ)
      → flat_map (kept edition) (texts ++ text ∷ [])
      ≡ flat_map (kept edition) texts ++ kept edition text
  kept-more texts text =
      flat_map-append (kept edition) texts (text ∷ [])
      ∙ ap (λ (rules : List StyleRule). flat_map (kept edition) texts ++ rules)
      (append-nil (kept edition text))

  -- a text read in two pieces yields the sheet that it yields as a whole, where its rules are those
  -- of the pieces
  sheet-across : (texts : List (List ℕ)) (text : List ℕ) (offset : ℕ)
      → KeepsAcross edition text offset → sheet edition
      ((texts ++ take offset text ∷ []) ++ drop offset text ∷ [])
      ≡ sheet edition (texts ++ text ∷ [])
  sheet-across texts text offset e =
      let front : List ℕ = take offset text in
      let rest : List ℕ = drop offset text in
      ap ordered (kept-more (texts ++ front ∷ []) rest
      ∙ ap (λ (rules : List StyleRule). rules ++ kept edition rest) (kept-more texts front)
      ∙ append_assoc (flat_map (kept edition) texts) (kept edition front) (kept edition rest)
      ∙ ap (λ (rules : List StyleRule). flat_map (kept edition) texts ++ rules) (sym e)
      ∙ sym (kept-more texts text))

  -- A sheet that adds to the texts it was read from the one that it reads continues where a
  -- statement of a text has ended.
  pub goes_on : (old : List StyleRule) (text : List ℕ) (new : List StyleRule)
      → ((texts : List (List ℕ)) → old ≡ sheet edition texts
      → new ≡ sheet edition (texts ++ text ∷ [])) → ContinuesReading edition old text new
  goes_on old text new adds texts whole offset i ends is before =
      adds (texts ++ take offset whole ∷ []) before
      ∙ ap (λ (t : List ℕ). sheet edition ((texts ++ take offset whole ∷ []) ++ t ∷ [])) is
      ∙ sheet-across texts whole offset (keeps_across whole offset i ends)

-- the same of a call that may find no memory
pub goes_on-ok : {T E : Type 0} (result : Result T E) (edition : Edition) (old : List StyleRule)
    (text : List ℕ) (new : List StyleRule)
    → ((texts : List (List ℕ)) → old ≡ sheet edition texts
    → OnOk result (new ≡ sheet edition (texts ++ text ∷ [])))
    → OnOk result (ContinuesReading edition old text new)
goes_on-ok (Ok x) edition old text new adds = goes_on edition old text new adds
goes_on-ok (Err e) edition old text new adds = tt
