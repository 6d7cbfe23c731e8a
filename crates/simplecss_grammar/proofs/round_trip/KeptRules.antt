-- What the rules of a text are.
-- Serves `selectors` and `prints_back` of `StyleSheet::{parse, parse_more, read}` (a sheet
-- printed and read again).
use Rattle.std.proofs.Common.{◌≡◌, ℕ, ◌+◌, List, [], ◌∷◌, ◌++◌, Bool, true, false, cond, if◌then◌else◌, not, ◌==◌, length, map, filter, Option, Some, None, IfSome, arith, refl, sym, ap, ◌∙◌, IsUtf8}
use Rattle.std.specs.List.{flat_map, filter_map, find, cons_option, enumerate_from, range_with_len, AllByRecursion}
use Rattle.std.specs.Option.{option_map}
use Rattle.css_text.specs.AsciiBytes.{at_sign, comma, open_brace}
use Rattle.css_text.specs.Reading.{Reading, got, fails, each, found, left_after, Ends}
use Rattle.css_text.specs.Bytes.{past, past_one, past_byte, starts}
use Rattle.css_text.specs.Characters.{Edition, is_space}
use Rattle.css_text.specs.Comments.{past_blank}
use Rattle.simplecss_grammar.specs.Components.{Component}
use Rattle.simplecss_grammar.specs.Selectors.{reads}
use Rattle.simplecss_grammar.specs.Declarations.{StyleDeclaration, declaration}
use Rattle.simplecss_grammar.specs.Blocks.{ends_list, declaration_in_block, block}
use Rattle.simplecss_grammar.specs.Statements.{StyleRule, part, part_and_comma, parts, next_block, rule_set, at_rule_rest, statement, ends_statements, next_statement, statements, has_declaration, kept}
use Rattle.css_text.specs.Ranks.{rank_by, of_rank, ordered_by}
use Rattle.simplecss_grammar.specs.Sheets.{is_smaller, sheet}
use Rattle.css_text.proofs.reading.EndsLemmas.{ends-ends, ends-past, ends-past_one, ends-past_byte, Occurs, no_texts}
use Rattle.simplecss_grammar.proofs.reading.OccurrenceLemmas.{ends-past_blank}
use Rattle.simplecss_grammar.proofs.reading.DeclarationsLawful.{declaration-lawful, declaration-occurs}
use Rattle.simplecss_grammar.proofs.round_trip.PrintedSelectors.{IsSelector}
use Rattle.css_text.proofs.reading.GotLemmas.{utf8-past_one, IfGot, IfTaken, each-all}
use Rattle.css_text.proofs.bytes.Utf8Lemmas.{utf8-past_byte_if}
use Rattle.css_text.proofs.reading.WellLemmas.{well-past_blank, EndsWell}
use Rattle.simplecss_grammar.proofs.round_trip.ReadSelectors.{reads-is, selector-after}
use Rattle.simplecss_grammar.proofs.cutting.StatementEnds.{part-ends, parts-ends}
use Rattle.simplecss_grammar.proofs.reading.Lawful.{lawful-text}
use Rattle.simplecss_grammar.proofs.cutting.StatementCuts.{next_statement-well}

-- What is known of the texts, and of the declarations that are read from them. It is known of each
-- end that is a text.
pub record Known (edition : Edition) (Q : List ℕ → Type 0) (R : StyleDeclaration → Type 0) : Type 0
  where
    pub is_text : (text : List ℕ) → Q text → IsUtf8 text
    pub of_end : (text rest : List ℕ) → Q text → Ends text rest → IsUtf8 rest → Q rest
    pub declares : (text : List ℕ) → Q text → IfGot (λ p rest. R p) (declaration edition text)

-- a selector before a block, and its declarations
pub record IsRule (edition : Edition) (R : StyleDeclaration → Type 0) (rule : StyleRule) : Type 0
  where
    pub selector : IsSelector edition rule.components (open_brace ∷ [])
    pub declarations : AllByRecursion R rule.declarations

-- a rule that has a declaration
abbrev IfKept : Edition → (StyleDeclaration → Type 0) → StyleRule → Type 0
IfKept edition R rule = has_declaration rule ≡ true → IsRule edition R rule

-- selectors

-- a selector that a block can follow
abbrev IsBeforeBlock : Edition → List Component → Type 0
IsBeforeBlock edition s = IsSelector edition s (open_brace ∷ [])

some_starts : (c : ℕ) (text : List ℕ) → starts c text ≡ true → text ≡ [] → ⊥
some_starts c [] s e = cc
some_starts c (b ∷ text) s e = cc

each_found : {A : Type 0} (P : A → Type 0) (os : List (Option A))
    → AllByRecursion (λ o. IfSome o P) os → AllByRecursion P (filter_map (λ x. x) os)
each_found P [] h = tt
each_found P (None ∷ os) h = each_found P os h.1
each_found P (Some x ∷ os) h = (h.0, each_found P os h.1)

-- of two lists
all-append : {A : Type 0} (P : A → Type 0) (xs ys : List A) → AllByRecursion P xs
    → AllByRecursion P ys → AllByRecursion P (xs ++ ys)
all-append P [] ys h k = k
all-append P (x ∷ xs) ys h k = (h.0, all-append P xs ys h.1 k)

all-flat_map : {A : Type 0} (P : A → Type 0) (xss : List (List A))
    → AllByRecursion (AllByRecursion P) xss → AllByRecursion P (flat_map (λ xs. xs) xss)
all-flat_map P [] h = tt
all-flat_map P (xs ∷ xss) h = all-append P xs (flat_map (λ xs. xs) xss) h.0 (all-flat_map P xss h.1)

-- a rule with a declaration
abbrev pub IsKept : Edition → (StyleDeclaration → Type 0) → StyleRule → Type 0
IsKept edition R rule = IsRule edition R rule × (has_declaration rule ≡ true)

-- in their order

all-find : {A : Type 0} (P : A → Type 0) (test : A → Bool) (xs : List A) → AllByRecursion P xs
    → IfSome (find test xs) P
all-find P test [] h = tt
all-find {A = A} P test (x ∷ xs) h = by (test x) (all-find P test xs h.1)
  where
    by : (t : Bool) → IfSome (find test xs) P → IfSome (cond t (Some x) (find test xs)) P
    by true more = h.0
    by false more = more

all-enumerate : {A : Type 0} (P : A → Type 0) (n : ℕ) (xs : List A) → AllByRecursion P xs
    → AllByRecursion (λ (p : ℕ × A). P p.1) (enumerate_from n xs)
all-enumerate P n [] h = tt
all-enumerate P n (x ∷ xs) h = (h.0, all-enumerate P (n + 1) xs h.1)

if_some-map : {A B : Type 0} (P : B → Type 0) (f : A → B) (o : Option A) → IfSome o (λ x. P (f x))
    → IfSome (option_map f o) P
if_some-map P f None h = tt
if_some-map P f (Some x) h = h

all-filter_map : {A B : Type 0} (P : B → Type 0) (f : A → Option B) (xs : List A)
    → ((x : A) → IfSome (f x) P) → AllByRecursion P (filter_map f xs)
all-filter_map P f [] h = tt
all-filter_map {B = B} P f (x ∷ xs) h = by (f x) (h x) (all-filter_map P f xs h)
  where
    by : (o : Option B) → IfSome o P → AllByRecursion P (filter_map f xs)
        → AllByRecursion P (cons_option o (filter_map f xs))
    by None k more = more
    by (Some y) k more = (k, more)

-- what holds of each element holds in any order
pub all-ordered_by : {A : Type 0} (P : A → Type 0) (less : A → A → Bool) (xs : List A)
    → AllByRecursion P xs → AllByRecursion P (ordered_by less xs)
all-ordered_by {A = A} P less xs h =
    all-filter_map P (of_rank less xs) (range_with_len 0 (length xs)) (λ k.
    if_some-map P (λ (p : ℕ × A). p.1)
    (find (λ (p : ℕ × A). rank_by less xs p.0 p.1 == k) (enumerate_from 0 xs))
    (all-find (λ (p : ℕ × A). P p.1) (λ (p : ℕ × A). rank_by less xs p.0 p.1 == k)
    (enumerate_from 0 xs) (all-enumerate P 0 xs h)))

module _ (edition : Edition) where
  -- a part before more text
  part-is : (text : List ℕ) → IsUtf8 text → ((part edition text).1 ≡ [] → ⊥)
      → IfSome (part edition text).0 (IsBeforeBlock edition)
  unfolding part
  part-is text u some = by (reads edition text).0 (reads edition text).1 refl refl
    where
      by : (o : Option (List Component)) (rest : List ℕ) → (reads edition text).0 ≡ o
          → (reads edition text).1 ≡ rest → IfSome o (IsBeforeBlock edition)
      by None rest e f = tt
      by (Some s) [] e f = absurd (some (ap (past is_space) f))
      by (Some s) (b ∷ rest) e f =
          let read : reads edition text ≡ (Some s, b ∷ rest) = rw (← e, ← f) refl in
          selector-after edition s (b ∷ rest) (open_brace ∷ []) (λ none_there. absurd (cc))
          (reads-is edition text (b ∷ rest) s u read)

  part_and_comma-is : (text : List ℕ) → IsUtf8 text
      → IfTaken (λ o. IfSome o (IsBeforeBlock edition)) IsUtf8 (part_and_comma edition text)
  part_and_comma-is text u = by (starts comma (part edition text).1) refl
    where
      by : (t : Bool) → starts comma (part edition text).1 ≡ t
          → IfTaken (λ o. IfSome o (IsBeforeBlock edition)) IsUtf8
          (if t then Some ((part edition text).0, past_one (part edition text).1) else None)
      by true s = (
        part-is text u (some_starts comma (part edition text).1 s),
        utf8-past_one text
            (part edition text).1 comma (omega arith) u (part-ends edition text) s,
      )
      by false s = tt

  -- the parts before a block
  parts-are : (text : List ℕ) → IsUtf8 text → ((parts edition text).1 ≡ [] → ⊥)
      → AllByRecursion (IsBeforeBlock edition) (parts edition text).0
  unfolding parts
  parts-are text u some =
      let P : Option (List Component) → Type 0 = λ o. IfSome o (IsBeforeBlock edition) in
      let listed = each-all P IsUtf8 (part_and_comma edition) part_and_comma-is text u in
      let rest = (each (part_and_comma edition) text).1 in
      let final = part-is rest listed.1 some in
      each_found (IsBeforeBlock edition)
      ((each (part_and_comma edition) text).0 ++ (part edition rest).0 ∷ [])
      (all-append P (each (part_and_comma edition) text).0 ((part edition rest).0 ∷ []) listed.0
      (final, tt))

  rules-are : (R : StyleDeclaration → Type 0) (declarations : List StyleDeclaration)
      (selectors : List (List Component)) → AllByRecursion R declarations
      → AllByRecursion (IsBeforeBlock edition) selectors
      → AllByRecursion (IfKept edition R)
      (map (λ selector. record { components = selector; declarations = declarations }) selectors)
  rules-are R declarations [] ps h = tt
  rules-are R declarations (s ∷ selectors) ps h = (
    (λ kept. record { selector = h.0; declarations = ps }),
    rules-are R declarations
        selectors ps h.1,
  )

  rules-dropped : (R : StyleDeclaration → Type 0) (declarations : List StyleDeclaration)
      (selectors : List (List Component)) → declarations ≡ []
      → AllByRecursion (IfKept edition R)
      (map (λ selector. record { components = selector; declarations = declarations }) selectors)
  rules-dropped R declarations [] e = tt
  rules-dropped R declarations (s ∷ selectors) e = (
    (λ kept. absurd (let none_there : not (length declarations == 0) ≡ false = rw e refl in cc)),
    rules-dropped R declarations selectors e,
  )

  next_block-nil : (next_block edition []).0 ≡ []
  unfolding next_block
  next_block-nil = refl

  all-kept : (R : StyleDeclaration → Type 0) (rules : List StyleRule)
      → AllByRecursion (IfKept edition R) rules
      → AllByRecursion (IsKept edition R) (filter has_declaration rules)
  all-kept R [] h = tt
  all-kept R (rule ∷ rules) h = by (has_declaration rule) refl (all-kept R rules h.1)
    where
      by : (t : Bool) → has_declaration rule ≡ t
          → AllByRecursion (IsKept edition R) (filter has_declaration rules)
          → AllByRecursion (IsKept edition R)
          (cond t (rule ∷ filter has_declaration rules) (filter has_declaration rules))
      by true e more = ((h.0 e, e), more)
      by false e more = more

  module _ (Q : List ℕ → Type 0) (R : StyleDeclaration → Type 0) (known : Known edition Q R) where
    declared : (text : List ℕ) → Q text → (r : Reading StyleDeclaration) → IfGot (λ p rest. R p) r
        → Occurs text no_texts r → IsUtf8 (left_after r) → IfTaken R Q (found r)
    declared text q (got p rest) h k l = (h, known.of_end text rest q k.at l)
    declared text q (fails fault rest) h k l = tt

    in_block : (text : List ℕ) → Q text → IfTaken R Q (declaration_in_block edition text)
    in_block text q = by (ends_list text)
      where
        by : (t : Bool) → IfTaken R Q (if t then None else found (declaration edition text))
        by true = tt
        by false =
            declared text q (declaration edition text) (known.declares text q)
            (declaration-occurs edition text)
            (lawful-text declaration declaration declaration-lawful edition text
            (known.is_text text q))

    block-declares : (text : List ℕ) → Q text → AllByRecursion R (block edition text).0
    unfolding block
    block-declares text q =
        (each-all R Q (declaration_in_block edition) in_block text q).0

    next_block-declares : (whole text : List ℕ) → Q whole → Ends whole text
        → AllByRecursion R (next_block edition text).0
    unfolding next_block
    next_block-declares whole text q e = by (starts open_brace opened) refl
      where
        opened : List ℕ
        opened = past (λ b. not (b == open_brace)) text

        end : Ends whole opened
        end = ends-ends whole text opened e (ends-past (λ b. not (b == open_brace)) text)

        by : (t : Bool) → starts open_brace opened ≡ t
            → AllByRecursion R (if t then block edition (past_one opened) else ([], [])).0
        by true s =
            let u =
            utf8-past_one whole opened open_brace (omega arith) (known.is_text whole q) end s in
            block-declares (past_one opened) (known.of_end whole (past_one opened) q
            (ends-ends whole opened (past_one opened) end (ends-past_one opened)) u)
        by false s = tt

    rule_set-are : (text : List ℕ) → Q text
        → AllByRecursion (IfKept edition R) (rule_set edition text).0
    unfolding rule_set
    rule_set-are text q = by (parts edition start).1 refl
      where
        start : List ℕ
        start = past_byte comma text

        declarations : List StyleDeclaration
        declarations = (next_block edition (parts edition start).1).0

        u : IsUtf8 start
        u = utf8-past_byte_if comma text (omega arith) (known.is_text text q)

        by : (rest : List ℕ) → (parts edition start).1 ≡ rest
            → AllByRecursion (IfKept edition R)
            (map (λ selector. record { components = selector; declarations = declarations })
            (parts edition start).0)
        by [] e =
            rules-dropped R declarations (parts edition start).0
            (ap (λ t. (next_block edition t).0) e ∙ next_block-nil)
        by (b ∷ rest) e =
            rules-are R declarations (parts edition start).0
            (next_block-declares text (parts edition start).1 q
            (ends-ends text start (parts edition start).1 (ends-past_byte comma text)
            (parts-ends edition start)))
            (parts-are start u (λ none_left. let both = sym e ∙ none_left in cc))

    statement-are : (text : List ℕ) → Q text
        → AllByRecursion (IfKept edition R) (statement edition text).0
    unfolding statement
    statement-are text q = by (starts at_sign text)
      where
        by : (t : Bool)
            → AllByRecursion (IfKept edition R)
            (if t then ([], at_rule_rest edition (past_one text)) else rule_set edition text).0
        by true = tt
        by false = rule_set-are text q

    next_statement-are : (text : List ℕ) → Q text
        → IfTaken (AllByRecursion (IfKept edition R)) Q (next_statement edition text)
    next_statement-are text q = by (ends_statements (past_blank text)) refl
      where
        start : List ℕ
        start = past_blank text

        left : List ℕ
        left = (statement edition start).1

        by : (t : Bool) → ends_statements start ≡ t
            → IfTaken (AllByRecursion (IfKept edition R)) Q
            (if t then None else Some (statement edition start))
        by true e = tt
        by false e =
            let u = known.is_text text q in
            let there : next_statement edition text ≡ Some (statement edition start) = rw e refl in
            let well : EndsWell text left =
            next_statement-well edition text left (statement edition start).0 there in (
              statement-are start
                  (known.of_end text start q (ends-past_blank text) ((well-past_blank text).1 u)),
              known.of_end text left q well.0 (well.1 u),
            )

    -- the kept rules of a text
    pub kept-are : (text : List ℕ) → Q text → AllByRecursion (IsKept edition R) (kept edition text)
    unfolding statements
    kept-are text q =
        all-kept R (flat_map (λ rules. rules) (statements edition text))
        (all-flat_map (IfKept edition R) (statements edition text)
        (each-all (AllByRecursion (IfKept edition R)) Q (next_statement edition)
        next_statement-are text q).0)

    each-kept : (texts : List (List ℕ)) → AllByRecursion Q texts
        → AllByRecursion (IsKept edition R) (flat_map (kept edition) texts)
    each-kept [] q = tt
    each-kept (text ∷ texts) q =
        all-append (IsKept edition R) (kept edition text) (flat_map (kept edition) texts)
        (kept-are text q.0) (each-kept texts q.1)

    -- the rules of a sheet
    pub sheet-are : (texts : List (List ℕ)) → AllByRecursion Q texts
        → AllByRecursion (IsKept edition R) (sheet edition texts)
    sheet-are texts q =
        all-ordered_by (IsKept edition R) is_smaller (flat_map (kept edition) texts)
        (each-kept texts q)
