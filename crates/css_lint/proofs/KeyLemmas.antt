-- A key more among those that were met.
use Rattle.std.proofs.Common.{◌≡◌, ℕ, Bool, true, false, ◌||◌, cond, Option, Some, List, [], ◌∷◌, ◌++◌, refl, ap, ◌∙◌, sym, append_assoc}
use Rattle.std.specs.Option.{is_some}
use Rattle.std.specs.Prelude.{bytes_eq}
use Rattle.std.proofs.lemmas.List.Folds.{list_any-append}
use Rattle.css_lint.specs.Places.{PlaceText}
use Rattle.css_lint.specs.Keys.{KeyedText, is_among, if_repeated, repeated_after}

-- a value that is there, or else another one
pub is_some-cond : (b : Bool) (other : Option ℕ) → is_some (cond b (Some 0) other) ≡ (b || is_some other)
is_some-cond true other = refl
is_some-cond false other = refl

or-swap : (b c : Bool) → (b || c) ≡ (c || (b || false))
or-swap true true = refl
or-swap true false = refl
or-swap false true = refl
or-swap false false = refl

-- a key more
pub is_among-more : (before : List (List ℕ)) (said key q : List ℕ) (old new : Bool)
    → said ≡ key → new ≡ (bytes_eq said q || old) → old ≡ is_among before q
    → new ≡ is_among (before ++ key ∷ []) q
is_among-more before said key q old new same is was =
    is ∙ ap (λ k. bytes_eq k q || old) same ∙ ap (λ b. bytes_eq key q || b) was ∙ or-swap (bytes_eq key q) (is_among before q)
    ∙ sym (list_any-append (λ one. bytes_eq one q) before (key ∷ []))

if-same : (before : List (List ℕ)) (one : KeyedText) → is_among before one.key ≡ true
    → if_repeated before one ≡ one.place ∷ []
if-same before one same = rw same

-- what is found of one that says the same
pub repeated-more : (found : List PlaceText) (before : List (List ℕ)) (one : KeyedText)
    (more : List KeyedText) (all : List PlaceText)
    → is_among before one.key ≡ true
    → found ++ repeated_after before (one ∷ more) ≡ all
    → (found ++ one.place ∷ []) ++ repeated_after (before ++ one.key ∷ []) more ≡ all
repeated-more found before one more all same due =
    append_assoc found (one.place ∷ []) (repeated_after (before ++ one.key ∷ []) more)
    ∙ ap (λ front. found ++ (front ++ repeated_after (before ++ one.key ∷ []) more))
    (sym (if-same before one same)) ∙ due

if-other : (before : List (List ℕ)) (one : KeyedText) → is_among before one.key ≡ false
    → if_repeated before one ≡ []
if-other before one other = rw other

-- what is found of one that says something else: nothing
pub repeated-same : (found : List PlaceText) (before : List (List ℕ)) (one : KeyedText)
    (more : List KeyedText) (all : List PlaceText)
    → is_among before one.key ≡ false
    → found ++ repeated_after before (one ∷ more) ≡ all
    → found ++ repeated_after (before ++ one.key ∷ []) more ≡ all
repeated-same found before one more all other due =
    ap (λ front. found ++ (front ++ repeated_after (before ++ one.key ∷ []) more))
    (sym (if-other before one other)) ∙ due
