-- The pieces of parts, of blocks and of rule sets.
-- Serves `laws::nothing_is_lost`.
use Rattle.std.proofs.Common.{◌≡◌, ◌⊎◌, ◌≤◌, ◌<◌, ℕ, zero, suc, Bool, true, false, not, if◌then◌else◌, ◌==◌, List, [], ◌∷◌, ◌++◌, ap, append-nil, arith, drop, eqb-true, inl, inr, length, refl, subst, sym, ◌∙◌, Option, Some, None}
use Rattle.std.specs.List.{filter_map}
use Rattle.std.specs.Str.{chars}
use Rattle.css_text.specs.AsciiBytes.{close_brace, comma, open_brace}
use Rattle.css_text.specs.Reading.{Ends, Fault, Reading, before, got, fails, each, found, left_after, no_name}
use Rattle.css_text.specs.Bytes.{past, past_byte, past_one, starts, from_brace}
use Rattle.css_text.specs.Characters.{Edition, is_space}
use Rattle.css_text.specs.Comments.{blank, opens_comment, past_blank}
use Rattle.css_text.specs.Names.{name}
use Rattle.simplecss_grammar.specs.Components.{Component}
use Rattle.simplecss_grammar.specs.Selectors.{reads}
use Rattle.simplecss_grammar.specs.Declarations.{StyleDeclaration, declaration, stated_name}
use Rattle.simplecss_grammar.specs.Blocks.{block, block_end, closes_block, declaration_in_block, ends_list, from_block_end, past_broken, past_list}
use Rattle.simplecss_grammar.specs.Statements.{next_block, part, part_and_comma, parts, rule_set}
use Rattle.simplecss_grammar.specs.Skipped.{Skip, broken_declaration, open_value, leading_comma, open_comment, declaration_skips, block_skips, brace_skips, comma_skips, if_broken, list_end_skips, list_skips, next_block_skips, part_skips, parts_skips, rule_set_skips, Refusal, refusal, refused_part, selector_skips, skips_after_read}
use Rattle.simplecss_grammar.specs.NothingLost.{IsCutUp, IsExplained, cut_ends, mark_then, open_declaration_then, skip_then}
use Rattle.css_text.proofs.reading.GotLemmas.{starts-cons}
use Rattle.simplecss_grammar.proofs.reading.ReadNames.{name-none_begins}
use Rattle.simplecss_grammar.proofs.reading.DeclarationLemmas.{declaration_in_block-takes}
use Rattle.simplecss_grammar.proofs.reading.DeclarationsLawful.{declaration-occurs, ends-from_block_end}
use Rattle.css_text.proofs.reading.EachLemmas.{each-none, each-some, not_empty, option_cases, took}
use Rattle.css_text.proofs.reading.EndsLemmas.{ends-ends, no_texts, occurs-ends}
use Rattle.simplecss_grammar.proofs.reading.LeastLemmas.{least-is}
use Rattle.simplecss_grammar.proofs.reading.LocalLemmas.{quiet-brace}
use Rattle.simplecss_grammar.proofs.reading.NameLocal.{name-quiet}
use Rattle.simplecss_grammar.proofs.reading.SkipLemmas.{parts_skips-last, parts_skips-some}
use Rattle.simplecss_grammar.proofs.reading.OpenValues.{block_skips-none, block_skips-some, declaration_in_block-got, declaration_skips-at, declaration_skips-ended}
use Rattle.simplecss_grammar.proofs.reading.OccurrenceLemmas.{ends-past_blank}
use Rattle.simplecss_grammar.proofs.reading.StatementTextLemmas.{part_and_comma-takes}
use Rattle.simplecss_grammar.proofs.cutting.BlockCuts.{none_broken}
use Rattle.css_text.proofs.bytes.RunLemmas.{past-stops}
use Rattle.simplecss_grammar.proofs.skipped.RuleSetSkipCuts.{parts-last, parts-some}
use Rattle.simplecss_grammar.proofs.skipped.BlockSkipCuts.{declaration-after_blank}
use Rattle.simplecss_grammar.proofs.skipped.CutUps.{IsDecided, selector-decided, closing, declaration_to, ends-shorter, further, joined, listed, part-cut, past_blank_to, skip_to}

-- ---- parts

chosen-cons : (o : Option (List Component)) (l : List (Option (List Component)))
    → filter_map (λ selector. selector) (o ∷ l) ≡ listed o ++ filter_map (λ selector. selector) l
chosen-cons None l = refl
chosen-cons (Some s) l = refl

parts-chosen : (edition : Edition) (text : List ℕ) → starts comma (part edition text).1 ≡ true
    → (parts edition text).0
    ≡ listed (part edition text).0 ++ (parts edition (past_one (part edition text).1)).0
unfolding parts
parts-chosen edition text e =
    let rest = past_one (part edition text).1 in
    let read : part_and_comma edition text ≡ Some ((part edition text).0, rest) = rw e refl in
    let more = each (part_and_comma edition) rest in
    ap (λ (found : List (Option (List Component)) × List ℕ).
    filter_map (λ selector. selector) (found.0 ++ (part edition found.1).0 ∷ []))
    (each-some (part_and_comma edition) (part_and_comma-takes edition) text rest
    (part edition text).0 read)
    ∙ chosen-cons (part edition text).0 (more.0 ++ (part edition more.1).0 ∷ [])

parts-chosen_last : (edition : Edition) (text : List ℕ) → starts comma (part edition text).1 ≡ false
    → (parts edition text).0 ≡ listed (part edition text).0
unfolding parts
parts-chosen_last edition text e =
    let read : part_and_comma edition text ≡ None = rw e refl in
    ap (λ (found : List (Option (List Component)) × List ℕ).
    filter_map (λ selector. selector) (found.0 ++ (part edition found.1).0 ∷ []))
    (each-none (part_and_comma edition) text read)
    ∙ chosen-cons (part edition text).0 [] ∙ append-nil (listed (part edition text).0)

-- the pieces of a text's parts
abbrev PartsCut : Edition → List ℕ → Type 0
PartsCut edition text =
    IsCutUp edition (from_brace (parts edition text).1) text (parts edition text).0 []
    (parts_skips edition text)

parts-step : (edition : Edition) (text : List ℕ)
    → (starts comma (part edition text).1 ≡ true
    → PartsCut edition (past_one (part edition text).1))
    → PartsCut edition text
parts-step edition text more = by (starts comma x) refl
  where
    x : List ℕ
    x = (part edition text).1

    rest : List ℕ
    rest = past_one x

    first : (k : Bool) → starts comma x ≡ k
        → IsCutUp edition (if k then x else from_brace x) text (listed (part edition text).0) []
        (part_skips edition text)
    first k e =
        subst (λ (k : Bool). IsCutUp edition (if k then x else from_brace x) text
        (listed (part edition text).0) [] (part_skips edition text)) e (part-cut edition text)

    by : (k : Bool) → starts comma x ≡ k → PartsCut edition text
    by true e =
        let marked : IsCutUp edition (from_brace (parts edition rest).1) x (parts edition rest).0
        [] (parts_skips edition rest) =
        subst (λ (t : List ℕ). IsCutUp edition (from_brace (parts edition rest).1) t
        (parts edition rest).0 [] (parts_skips edition rest)) (sym (starts-cons comma x e))
        (mark_then comma rest (parts edition rest).0 [] (parts_skips edition rest) refl (more e)) in
        rw (
          parts-some edition text e,
          parts-chosen edition text e,
          parts_skips-some edition text x refl e,
        )
        (joined edition x (from_brace (parts edition rest).1) (parts edition rest).0 []
        (parts_skips edition rest) (first true e) marked)
    by false e =
        rw (
          parts-last edition text e,
          parts-chosen_last edition text e,
          parts_skips-last edition text x refl e,
        ) (first false e)

comma-less : (edition : Edition) (text : List ℕ) → starts comma (part edition text).1 ≡ true
    → length (past_one (part edition text).1) < length text
comma-less edition text e =
    took (part_and_comma edition) (part_and_comma-takes edition) text
    (past_one (part edition text).1) (part edition text).0 (rw e refl)

parts-cut : (edition : Edition) (n : ℕ) (text : List ℕ) → length text ≤ n → PartsCut edition text
parts-cut edition zero text l =
    parts-step edition text (λ e. absurd (omega (arith, l, comma-less edition text e)))
parts-cut edition (suc n) text l =
    parts-step edition text
    (λ e. parts-cut edition n (past_one (part edition text).1)
    (omega (arith, l, comma-less edition text e)))

-- ---- blocks

-- the text ends, or its first byte is a closing brace: so does the block
block_end-here : (t : List ℕ) → from_block_end (close_brace ∷ t) ≡ close_brace ∷ t
unfolding block_end
block_end-here t =
    ap (λ (n : ℕ). drop n (close_brace ∷ t))
    (least-is (closes_block (close_brace ∷ t)) (length (close_brace ∷ t)) 0 (omega arith) refl
    (λ j l. absurd (omega arith)))

block_end-nil : from_block_end [] ≡ []
unfolding block_end
block_end-nil = refl

-- and it ends there
at_end : (start : List ℕ) → ends_list start ≡ true → from_block_end start ≡ start
at_end [] e = block_end-nil
at_end (b ∷ t) e = by b (rw (not_empty b t) at e)
  where
    by : (b : ℕ) → (b == close_brace) ≡ true → from_block_end (b ∷ t) ≡ b ∷ t
    by b f =
        let is : b ≡ close_brace = eqb-true b close_brace f in
        subst (λ (c : ℕ). from_block_end (c ∷ t) ≡ c ∷ t) (sym is) (block_end-here t)

-- where the list of declarations ends after a blank, none is read
declaration-ended : (edition : Edition) (text start : List ℕ) → past_blank text ≡ start
    → ends_list start ≡ true → left_after (declaration edition text) ≡ start
unfolding declaration stated_name blank chars
declaration-ended edition text [] e ends =
    let none : name edition [] ≡ fails (no_name []) [] = name-none_begins edition [] refl in
    rw (e, none) refl
declaration-ended edition text (b ∷ t) e ends = by b (rw (not_empty b t) at ends) e
  where
    by : (b : ℕ) → (b == close_brace) ≡ true → past_blank text ≡ b ∷ t
        → left_after (declaration edition text) ≡ b ∷ t
    by b f e =
        let is : b ≡ close_brace = eqb-true b close_brace f in
        let start : past_blank text ≡ close_brace ∷ t = e ∙ ap (λ (c : ℕ). c ∷ t) is in
        let none : name edition (close_brace ∷ t)
        ≡ fails (no_name (close_brace ∷ t)) (close_brace ∷ t) =
        name-quiet edition close_brace t (quiet-brace edition) in
        rw (start, none) (ap (λ (c : ℕ). c ∷ t) (sym is))

-- what is in place of a declaration, up to the end of the block
list_end-cut : (edition : Edition) (a rest : List ℕ) (fault : Fault)
    → declaration edition a ≡ fails fault rest
    → IsCutUp edition (from_block_end rest) a [] [] (list_end_skips a (from_block_end rest))
list_end-cut edition a rest fault e =
    past_blank_to edition after a [] [] (list_end_skips a after) (by (ends_list start) refl)
  where
    start : List ℕ
    start = past_blank a

    after : List ℕ
    after = from_block_end rest

    ends : Ends a rest
    ends =
        subst (λ (r : Reading StyleDeclaration). Ends a (left_after r)) e
        (occurs-ends a no_texts (declaration edition a) (declaration-occurs edition a))

    less : length rest ≤ length start
    less =
        subst (λ (r : Reading StyleDeclaration). length (left_after r) ≤ length start) e
        (declaration-after_blank edition a)

    inside : Ends start after
    inside =
        ends-ends start rest after (ends-shorter a start rest (ends-past_blank a) ends less)
        (ends-from_block_end rest)

    ended : ends_list start ≡ true → from_block_end rest ≡ start
    ended f =
        let same : rest ≡ start =
        sym (ap (λ (r : Reading StyleDeclaration). left_after r) e)
        ∙ declaration-ended edition a start refl f in
        ap from_block_end same ∙ at_end start f

    by : (k : Bool) → ends_list start ≡ k
        → IsCutUp edition after start [] [] (if k then [] else record {
          from = start;
          after = after;
          why = if opens_comment start then open_comment else broken_declaration;
        } ∷ [])
    by true f =
        subst (λ (t : List ℕ). IsCutUp edition t start [] [] []) (sym (ended f)) cut_ends
    by false f =
        skip_to edition after start after
        (if opens_comment start then open_comment else broken_declaration) [] [] [] inside cut_ends

-- after the declarations of a block
list-cut : (edition : Edition) (a : List ℕ) → declaration_in_block edition a ≡ None
    → IsCutUp edition (past_byte close_brace (past_list edition a)) a [] [] (list_skips edition a)
list-cut edition a none = by (ends_list a) (declaration edition a) refl refl
  where
    broken : (fault : Fault) (rest : List ℕ) → declaration edition a ≡ fails fault rest
        → IsCutUp edition
        (past_byte close_brace (past_byte close_brace (from_block_end rest))) a [] []
        (list_end_skips a (from_block_end rest)
        ++ brace_skips (past_byte close_brace (from_block_end rest)))
    broken fault rest e =
        let after : List ℕ = from_block_end rest in
        joined edition after (past_byte close_brace (past_byte close_brace after)) [] []
        (brace_skips (past_byte close_brace after)) (list_end-cut edition a rest fault e)
        (joined edition (past_byte close_brace after)
        (past_byte close_brace (past_byte close_brace after)) [] []
        (brace_skips (past_byte close_brace after)) (closing edition after)
        (further edition (past_byte close_brace after)))

    by : (k : Bool) (r : Reading StyleDeclaration) → ends_list a ≡ k → declaration edition a ≡ r
        → IsCutUp edition (past_byte close_brace (if k then a else past_broken r)) a [] []
        (if k then [] else if_broken a r)
    by true r e f = closing edition a
    by false (fails fault rest) e f = broken fault rest f
    by false (got p rest) e f =
        let missing : found (declaration edition a) ≡ None = none_broken edition a e none in
        absurd (cc (ap (λ (r : Reading StyleDeclaration). found r) f))

-- the pieces of a block
abbrev BlockCut : Edition → List ℕ → Type 0
BlockCut edition text =
    IsCutUp edition
    (past_byte close_brace (past_list edition (each (declaration_in_block edition) text).1)) text []
    (each (declaration_in_block edition) text).0 (block_skips edition text)

block-step : (edition : Edition) (text : List ℕ)
    → ((rest : List ℕ) → length rest < length text → BlockCut edition rest)
    → BlockCut edition text
block-step edition text more =
    elim (option_cases (declaration_in_block edition text)) [
      | inl e ↦
          rw (each-none (declaration_in_block edition) text e, block_skips-none edition text e)
          (list-cut edition text e)
      | inr one ↦ next one.0.1 one.0.0 one.1
    ]
  where
    next : (rest : List ℕ) (p : StyleDeclaration)
        → declaration_in_block edition text ≡ Some (p, rest) → BlockCut edition text
    next rest p e =
        let less = took (declaration_in_block edition) (declaration_in_block-takes edition) text
        rest p e in
        rw (
          each-some (declaration_in_block edition) (declaration_in_block-takes edition) text rest
              p e,
          block_skips-some edition text rest p e,
        )
        (by (declaration_skips-ended edition text rest p read) (declaration_skips-at edition text)
        (more rest less))
      where
        read : declaration edition text ≡ got p rest
        read = declaration_in_block-got edition text rest p e

        ends : Ends text rest
        ends =
            subst (λ (r : Reading StyleDeclaration). Ends text (left_after r)) read
            (occurs-ends text no_texts (declaration edition text) (declaration-occurs edition text))

        end : List ℕ
        end = past_byte close_brace (past_list edition (each (declaration_in_block edition) rest).1)

        ds : List StyleDeclaration
        ds = (each (declaration_in_block edition) rest).0

        closed : declaration_skips edition text ≡ [] → BlockCut edition rest
            → IsCutUp edition end text [] (p ∷ ds)
            (declaration_skips edition text ++ block_skips edition rest)
        closed none h =
            subst (λ (xs : List Skip). IsCutUp edition end text [] (p ∷ ds)
            (xs ++ block_skips edition rest)) (sym none)
            (declaration_to edition end text rest p [] ds (block_skips edition rest) ends read h)

        open_at : (from : List ℕ) → Ends text from
            → declaration_skips edition text
            ≡ record { from = from; after = []; why = open_value } ∷ [] → rest ≡ []
            → BlockCut edition rest → IsCutUp edition end text [] (p ∷ ds)
            (declaration_skips edition text ++ block_skips edition rest)
        open_at from inside one ended h =
            subst (λ (xs : List Skip). IsCutUp edition end text [] (p ∷ ds)
            (xs ++ block_skips edition rest)) (sym one)
            (subst (λ (t : List ℕ). IsCutUp edition end t [] (p ∷ ds)
            (record { from = from; after = []; why = open_value } ∷ block_skips edition rest))
            inside
            (open_declaration_then (before text from) from p [] ds (block_skips edition rest)
            (ap (declaration edition) inside ∙ read ∙ ap (got p) ended)
            (subst (λ (t : List ℕ). IsCutUp edition end t [] ds (block_skips edition rest)) ended
            h)))

        by : (declaration_skips edition text ≡ []) ⊎ (rest ≡ [])
            → (declaration_skips edition text ≡ [])
            ⊎ ((from : List ℕ) × Ends text from
            × (declaration_skips edition text
            ≡ record { from = from; after = []; why = open_value } ∷ []))
            → BlockCut edition rest → IsCutUp edition end text [] (p ∷ ds)
            (declaration_skips edition text ++ block_skips edition rest)
        by (inl none) other h = closed none h
        by (inr ended) (inl none) h = closed none h
        by (inr ended) (inr one) h = open_at one.0 one.1 one.2 ended h

block-cut_up_to : (edition : Edition) (n : ℕ) (text : List ℕ) → length text ≤ n
    → BlockCut edition text
block-cut_up_to edition zero text l =
    block-step edition text (λ rest less. absurd (omega (arith, l, less)))
block-cut_up_to edition (suc n) text l =
    block-step edition text
    (λ rest less. block-cut_up_to edition n rest (omega (arith, l, less)))

block-cut : (edition : Edition) (text : List ℕ)
    → IsCutUp edition (block edition text).1 text [] (block edition text).0
    (block_skips edition text)
unfolding block
block-cut edition text = block-cut_up_to edition (length text) text (omega arith)

-- without an opening brace nothing is left
no_brace-left : (text : List ℕ) → starts open_brace (from_brace text) ≡ false → from_brace text ≡ []
no_brace-left text e = by (from_brace text) refl e
  where
    by : (x : List ℕ) → from_brace text ≡ x → starts open_brace x ≡ false → x ≡ []
    by [] f g = refl
    by (b ∷ x) f g =
        let stops = past-stops (λ b. not (b == open_brace)) text b x f in
        absurd (cc (rw g at stops))

next_block-cut : (edition : Edition) (text : List ℕ)
    → IsCutUp edition (next_block edition text).1 (from_brace text) []
    (next_block edition text).0 (next_block_skips edition text)
unfolding next_block next_block_skips
next_block-cut edition text = by (starts open_brace opened) refl
  where
    opened : List ℕ
    opened = from_brace text

    inner : List ℕ
    inner = past_one opened

    by : (k : Bool) → starts open_brace opened ≡ k
        → IsCutUp edition (if k then block edition inner else ([], [])).1 opened []
        (if k then block edition inner else ([], [])).0
        (if k then block_skips edition inner else [])
    by true e =
        subst (λ (t : List ℕ). IsCutUp edition (block edition inner).1 t []
        (block edition inner).0 (block_skips edition inner)) (sym (starts-cons open_brace opened e))
        (mark_then open_brace inner [] (block edition inner).0 (block_skips edition inner) refl
        (block-cut edition inner))
    by false e =
        subst (λ (t : List ℕ). IsCutUp edition [] t [] [] []) (sym (no_brace-left text e)) cut_ends

-- ---- rule sets

comma-cut : (edition : Edition) (text : List ℕ)
    → IsCutUp edition (past_byte comma text) text [] [] (comma_skips text)
comma-cut edition [] = cut_ends
comma-cut edition (b ∷ text) = by (b == comma)
  where
    by : (k : Bool)
        → IsCutUp edition (if k then text else b ∷ text) (b ∷ text) [] []
        (if k then record { from = b ∷ text; after = text; why = leading_comma } ∷ [] else [])
    by true = skip_then (b ∷ []) text leading_comma [] [] [] cut_ends
    by false = cut_ends

pub rule_set-cut : (edition : Edition) (text : List ℕ)
    → IsCutUp edition (rule_set edition text).1 text (parts edition (past_byte comma text)).0
    (next_block edition (parts edition (past_byte comma text)).1).0 (rule_set_skips edition text)
unfolding rule_set rule_set_skips
rule_set-cut edition text =
    let x : List ℕ = past_byte comma text in
    let head = parts edition x in
    let body = next_block edition head.1 in
    subst (λ (ss : List (List Component)). IsCutUp edition body.1 text ss body.0
    (comma_skips text ++ (parts_skips edition x ++ next_block_skips edition head.1)))
    (append-nil head.0)
    (joined edition x body.1 (head.0 ++ []) body.0
    (parts_skips edition x ++ next_block_skips edition head.1) (comma-cut edition text)
    (joined edition (from_brace head.1) body.1 [] body.0 (next_block_skips edition head.1)
    (parts-cut edition (length x) x (omega arith)) (next_block-cut edition head.1)))

-- ---- what has no selector has something skipped

explained-more : (ss ts : List (List Component)) (xs ys : List Skip) → IsExplained ss xs
    → IsExplained (ss ++ ts) (xs ++ ys)
explained-more [] [] [] ys h = absurd h
explained-more [] (t ∷ ts) [] ys h = absurd h
explained-more [] [] (x ∷ xs) ys h = tt
explained-more [] (t ∷ ts) (x ∷ xs) ys h = tt
explained-more (s ∷ ss) ts xs ys h = tt

explained-before : (ss : List (List Component)) (xs ys : List Skip) → IsExplained ss ys
    → IsExplained ss (xs ++ ys)
explained-before ss [] ys h = h
explained-before [] (x ∷ xs) ys h = tt
explained-before (s ∷ ss) (x ∷ xs) ys h = tt

part-explained : (edition : Edition) (text : List ℕ)
    → IsExplained (listed (part edition text).0) (part_skips edition text)
unfolding part part_skips selector_skips
part-explained edition text =
    by (reads edition text).0 (refusal edition text) (selector-decided edition text)
  where
    x : List ℕ
    x = past is_space (reads edition text).1

    by : (o : Option (List Component)) (r : Option Refusal) → IsDecided o r
        → IsExplained (listed o) (refused_part text x r ++ skips_after_read o x)
    by (Some s) None h = tt
    by (Some s) (Some r) h = absurd h
    by None None h = absurd h
    by None (Some r) h = tt

parts-explained : (edition : Edition) (text : List ℕ)
    → IsExplained (parts edition text).0 (parts_skips edition text)
parts-explained edition text = by (starts comma x) refl
  where
    x : List ℕ
    x = (part edition text).1

    by : (k : Bool) → starts comma x ≡ k
        → IsExplained (parts edition text).0 (parts_skips edition text)
    by true e =
        rw (parts-chosen edition text e, parts_skips-some edition text x refl e)
        (explained-more (listed (part edition text).0) (parts edition (past_one x)).0
        (part_skips edition text) (parts_skips edition (past_one x)) (part-explained edition text))
    by false e =
        rw (parts-chosen_last edition text e, parts_skips-last edition text x refl e)
        (part-explained edition text)

pub rule_set-explained : (edition : Edition) (text : List ℕ)
    → IsExplained (parts edition (past_byte comma text)).0 (rule_set_skips edition text)
unfolding rule_set_skips
rule_set-explained edition text =
    let x : List ℕ = past_byte comma text in
    let ss = (parts edition x).0 in
    let later = next_block_skips edition (parts edition x).1 in
    explained-before ss (comma_skips text) (parts_skips edition x ++ later)
    (subst (λ (ts : List (List Component)). IsExplained ts (parts_skips edition x ++ later))
    (append-nil ss)
    (explained-more ss [] (parts_skips edition x) later (parts-explained edition x)))
