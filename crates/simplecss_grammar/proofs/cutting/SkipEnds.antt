-- What is skipped begins and ends in the text.
-- Serves the positions of what is skipped, which simplecss counts.
use Rattle.std.proofs.Common.{◌≡◌, ℕ, zero, suc, List, [], ◌∷◌, ◌++◌, Bool, true, false, if◌then◌else◌, ◌==◌, ◌||◌, ◌<◌, not, length, get_or, Option, Some, None, Ok, Err, refl, sym, subst, append_assoc, arith, inl, inr}
use Rattle.std.specs.List.{flat_map}
use Rattle.std.specs.Option.{option_map}
use Rattle.css_text.specs.AsciiBytes.{at_sign, close_brace, comma as comma_byte, open_brace, semicolon}
use Rattle.css_text.specs.Reading.{Reading, got, fails, left_after, each, up_to, and_then, Ends}
use Rattle.css_text.specs.Bytes.{past, past_one, past_byte, starts, is_neither, from_brace}
use Rattle.css_text.specs.Errors.{error_of}
use Rattle.css_text.specs.Names.{name}
use Rattle.css_text.specs.Characters.{Edition, is_space}
use Rattle.css_text.specs.Comments.{past_blank, opens_comment}
use Rattle.simplecss_grammar.specs.Components.{Component}
use Rattle.simplecss_grammar.specs.TokenSequences.{TokenSequence, sequence_of}
use Rattle.simplecss_grammar.specs.TokenSequences.TokenSequence.{item, sequence_end}
use Rattle.simplecss_grammar.specs.Selectors.{Role, role_of, reads}
use Rattle.simplecss_grammar.specs.Declarations.{StyleDeclaration, declaration}
use Rattle.simplecss_grammar.specs.Blocks.{from_block_end, ends_list, declaration_in_block}
use Rattle.simplecss_grammar.specs.Statements.{StyleRule, part, part_and_comma, parts, past_semicolon_or_block, at_rule_rest_by_name, at_rule_rest, next_statement}
use Rattle.simplecss_grammar.specs.Skipped.{Refusal, faulty, unknown_class, Why, Skip, unless_unknown, class_name, refusal_in, refusal, past_refused, refused_part, selector_skips, why_after, skips_after, skips_after_read, part_skips, skips_with, skips_of_each, parts_skips, brace_skips, list_end_skips, if_broken, list_skips, declaration_skips, block_skips, next_block_skips, comma_skips, rule_set_skips, at_rule_skip, statement_skips, end_skips, skipped}
use Rattle.simplecss_grammar.specs.SkipOffsets.{IsRefusalWithin, IsWhyWithin, IsWithin}
use Rattle.css_text.proofs.reading.EndsLemmas.{ends-same, ends-nil, ends-ends, ends-past_one, ends-past_byte, ends-past, EndsFound, occurs-ends, no_texts, itself}
use Rattle.simplecss_grammar.proofs.reading.OccurrenceLemmas.{ends-past_blank, name-occurs}
use Rattle.simplecss_grammar.proofs.reading.DeclarationsLawful.{declaration-occurs, declaration_in_block-ends, ends-from_block_end}
use Rattle.simplecss_grammar.proofs.reading.OpenValues.{declaration_skips-at}
use Rattle.simplecss_grammar.proofs.cutting.StatementEnds.{part-ends, part_and_comma-ends, parts-ends}
use Rattle.simplecss_grammar.proofs.cutting.StatementCuts.{next_statement-well}

-- each of the skips begins and ends in the text
abbrev pub AllWithin : List ℕ → List Skip → Type 0
AllWithin text [] = Unit {0}
AllWithin text (x ∷ xs) = IsWithin text x × AllWithin text xs

within-append : (text : List ℕ) (xs ys : List Skip) → AllWithin text xs → AllWithin text ys
    → AllWithin text (xs ++ ys)
within-append text [] ys a b = b
within-append text (x ∷ xs) ys a b = (a.0, within-append text xs ys a.1 b)

-- more text in front

refusal_within : (text middle : List ℕ) → Ends text middle → (r : Refusal)
    → IsRefusalWithin middle r → IsRefusalWithin text r
refusal_within text middle e (faulty within error) h = ends-ends text middle within e h
refusal_within text middle e (unknown_class name) h = tt

why_within : (text middle : List ℕ) → Ends text middle → (w : Why) → IsWhyWithin middle w
    → IsWhyWithin text w
why_within text middle e (Why.refused_selector r) h = refusal_within text middle e r h
why_within text middle e Why.leading_comma h = tt
why_within text middle e Why.after_selector h = tt
why_within text middle e Why.missing_block h = tt
why_within text middle e Why.broken_declaration h = tt
why_within text middle e Why.open_value h = tt
why_within text middle e Why.extra_brace h = tt
why_within text middle e Why.open_comment h = tt
why_within text middle e (Why.at_rule name) h = tt

within-ends : (text middle : List ℕ) (xs : List Skip) → Ends text middle → AllWithin middle xs
    → AllWithin text xs
within-ends text middle [] e h = tt
within-ends text middle (x ∷ xs) e h = (
  (
    ends-ends text middle x.from e h.0.0,
    ends-ends text middle x.after e h.0.1,
    why_within text
        middle e x.why h.0.2,
  ),
  within-ends text middle xs e h.1,
)

within-if : (text : List ℕ) (k : Bool) (xs ys : List Skip) → AllWithin text xs → AllWithin text ys
    → AllWithin text (if k then xs else ys)
within-if text true xs ys a b = a
within-if text false xs ys a b = b

-- ---- one thing after another

up_to-within : {A : Type 0} (skips last : List ℕ → List Skip) (read : List ℕ → Option (A × List ℕ))
    → ((t : List ℕ) → EndsFound t (read t)) → ((t : List ℕ) → AllWithin t (skips t))
    → ((t : List ℕ) → AllWithin t (last t)) → (n : ℕ) (text : List ℕ)
    → AllWithin text
    (flat_map (λ (xs : List Skip). xs) (up_to n (skips_with skips read) text).0 ++ last
    (up_to n (skips_with skips read) text).1)
up_to-within skips last read ends each last_in zero text = last_in text
up_to-within {A = A} skips last read ends each last_in (suc n) text =
    by (up_to-within skips last read ends each last_in n) (read text) (ends text)
  where
    more : List ℕ → List (List Skip) × List ℕ
    more = up_to n (skips_with skips read)

    found : Option (A × List ℕ) → List (List Skip) × List ℕ
    found o = and_then text (option_map (λ (x : A × List ℕ). (skips text, x.1)) o) more

    by : ((t : List ℕ)
        → AllWithin t (flat_map (λ (xs : List Skip). xs) (more t).0 ++ last (more t).1))
        → (o : Option (A × List ℕ)) → EndsFound text o
        → AllWithin text (flat_map (λ (xs : List Skip). xs) (found o).0 ++ last (found o).1)
    by rest None h = last_in text
    by rest (Some x) h =
        subst (AllWithin text)
        (sym (append_assoc (skips text) (flat_map (λ (xs : List Skip). xs) (more x.1).0)
        (last (more x.1).1)))
        (within-append text (skips text)
        (flat_map (λ (xs : List Skip). xs) (more x.1).0 ++ last (more x.1).1) (each text)
        (within-ends text x.1
        (flat_map (λ (xs : List Skip). xs) (more x.1).0 ++ last (more x.1).1) h (rest x.1)))

skips_of_each-within : {A : Type 0} (skips last : List ℕ → List Skip)
    (read : List ℕ → Option (A × List ℕ)) → ((t : List ℕ) → EndsFound t (read t))
    → ((t : List ℕ) → AllWithin t (skips t)) → ((t : List ℕ) → AllWithin t (last t))
    → (text : List ℕ) → AllWithin text (skips_of_each skips last read text)
unfolding skips_of_each each
skips_of_each-within skips last read ends each_in last_in text =
    up_to-within skips last read ends each_in last_in (length text) text

-- ---- selectors

refusal_in-within : (text : List ℕ) (all : TokenSequence) (r : Refusal)
    → refusal_in text all ≡ Some r → IsRefusalWithin text r
refusal_in-within text (sequence_end left) r e = absurd (cc)
refusal_in-within text (item (Err fault) after rest) r e = by r (cc)
  where
    by : (r : Refusal) → faulty text (error_of text fault) ≡ r → IsRefusalWithin text r
    by (faulty within error) h =
        let same : text ≡ within = cc in subst (Ends text) same (ends-same text)
    by (unknown_class name) h = tt
refusal_in-within text (item (Ok token) after rest) r e =
    by (role_of token) e (λ h. refusal_in-within text rest r h)
  where
    by : (role : Option Role) → unless_unknown role token (refusal_in text rest) ≡ Some r
        → (refusal_in text rest ≡ Some r → IsRefusalWithin text r) → IsRefusalWithin text r
    by (Some role) h more = more h
    by None h more = unknown r (cc)
      where
        unknown : (r : Refusal) → unknown_class (class_name token) ≡ r → IsRefusalWithin text r
        unknown (faulty within error) h = absurd (cc)
        unknown (unknown_class name) h = tt

past_refused-ends : (text rest : List ℕ) → Ends text rest → Ends text (past_refused rest)
past_refused-ends text rest e = by (starts comma_byte rest)
  where
    by : (k : Bool) → Ends text (if k then rest else from_brace rest)
    by true = e
    by false = ends-ends text rest (from_brace rest) e (ends-past (λ b. not (b == open_brace)) rest)

selector_skips-within : (edition : Edition) (text : List ℕ)
    → AllWithin text (selector_skips edition text)
unfolding selector_skips refusal part
selector_skips-within edition text = by (refusal_in text (sequence_of edition text)) refl
  where
    rest : List ℕ
    rest = past is_space (reads edition text).1

    by : (o : Option Refusal) → refusal_in text (sequence_of edition text) ≡ o
        → AllWithin text (refused_part text rest o)
    by None e = tt
    by (Some r) e = (
      (
        ends-past_blank text,
        past_refused-ends text rest (part-ends edition text),
        refusal_in-within text (sequence_of edition text) r e,
      ),
      tt,
    )

skips_after-within : (text : List ℕ) → AllWithin text (skips_after text)
skips_after-within text =
    within-if text (starts comma_byte text || starts open_brace text) []
    (record { from = text; after = from_brace text; why = why_after (from_brace text) } ∷ []) tt (
      (
        ends-same text,
        ends-past (λ b. not (b == open_brace)) text,
        by (length (from_brace text) == 0),
      ),
      tt,
    )
  where
    by : (k : Bool) → IsWhyWithin text (if k then Why.missing_block else Why.after_selector)
    by true = tt
    by false = tt

part_skips-within : (edition : Edition) (text : List ℕ) → AllWithin text (part_skips edition text)
unfolding part_skips
part_skips-within edition text =
    within-append text (selector_skips edition text)
    (skips_after_read (part edition text).0 (part edition text).1)
    (selector_skips-within edition text) (by (part edition text).0)
  where
    by : (o : Option (List Component)) → AllWithin text (skips_after_read o (part edition text).1)
    by None = tt
    by (Some selector) =
        within-ends text (part edition text).1 (skips_after (part edition text).1)
        (part-ends edition text) (skips_after-within (part edition text).1)

parts_skips-within : (edition : Edition) (text : List ℕ) → AllWithin text (parts_skips edition text)
unfolding parts_skips
parts_skips-within edition text =
    skips_of_each-within (part_skips edition) (part_skips edition) (part_and_comma edition)
    (part_and_comma-ends edition) (part_skips-within edition) (part_skips-within edition) text

-- ---- blocks

brace_skips-within : (text : List ℕ) → AllWithin text (brace_skips text)
brace_skips-within text =
    within-if text (starts close_brace text)
    (record { from = text; after = past_one text; why = Why.extra_brace } ∷ []) []
    ((ends-same text, ends-past_one text, tt), tt) tt

list_end_skips-within : (text after : List ℕ) → Ends text after
    → AllWithin text (list_end_skips text after)
list_end_skips-within text after e =
    within-if text (ends_list (past_blank text)) []
    (record {
      from = past_blank text;
      after = after;
      why = if opens_comment (past_blank text) then
          Why.open_comment else Why.broken_declaration;
    } ∷ []) tt
    ((ends-past_blank text, e, by (opens_comment (past_blank text))), tt)
  where
    by : (k : Bool) → IsWhyWithin text (if k then Why.open_comment else Why.broken_declaration)
    by true = tt
    by false = tt

list_skips-within : (edition : Edition) (text : List ℕ) → AllWithin text (list_skips edition text)
list_skips-within edition text =
    within-if text (ends_list text) [] (if_broken text (declaration edition text)) tt
    (by (declaration edition text)
    (occurs-ends _ no_texts _ (declaration-occurs edition text)))
  where
    by : (r : Reading StyleDeclaration) → Ends text (left_after r)
        → AllWithin text (if_broken text r)
    by (got declared rest) h = tt
    by (fails fault rest) h =
        let end = from_block_end rest in
        let ends : Ends text end = ends-ends text rest end h (ends-from_block_end rest) in
        within-append text (list_end_skips text end) (brace_skips (past_byte close_brace end))
        (list_end_skips-within text end ends)
        (within-ends text (past_byte close_brace end) (brace_skips (past_byte close_brace end))
        (ends-ends text end (past_byte close_brace end) ends (ends-past_byte close_brace end))
        (brace_skips-within (past_byte close_brace end)))

declaration_skips-within : (edition : Edition) (text : List ℕ)
    → AllWithin text (declaration_skips edition text)
declaration_skips-within edition text =
    elim (declaration_skips-at edition text) [
      | inl none ↦ subst (AllWithin text) (sym none) tt
      | inr one ↦ subst (AllWithin text) (sym one.2) ((one.1, ends-nil text, tt), tt)
    ]

block_skips-within : (edition : Edition) (text : List ℕ) → AllWithin text (block_skips edition text)
unfolding block_skips
block_skips-within edition text =
    skips_of_each-within (declaration_skips edition) (list_skips edition)
    (declaration_in_block edition) (declaration_in_block-ends edition)
    (declaration_skips-within edition) (list_skips-within edition) text

next_block_skips-within : (edition : Edition) (text : List ℕ)
    → AllWithin text (next_block_skips edition text)
unfolding next_block_skips
next_block_skips-within edition text =
    let opened = from_brace text in
    within-if text (starts open_brace opened) (block_skips edition (past_one opened)) []
    (within-ends text (past_one opened) (block_skips edition (past_one opened))
    (ends-ends text opened (past_one opened) (ends-past (λ b. not (b == open_brace)) text)
    (ends-past_one opened)) (block_skips-within edition (past_one opened))) tt

-- ---- statements

rule_set_skips-within : (edition : Edition) (text : List ℕ)
    → AllWithin text (rule_set_skips edition text)
unfolding rule_set_skips
rule_set_skips-within edition text =
    let head = past_byte comma_byte text in
    let left = (parts edition head).1 in
    let comma : AllWithin text (comma_skips text) =
    within-if text (starts comma_byte text)
    (record { from = text; after = past_one text; why = Why.leading_comma } ∷ []) []
    ((ends-same text, ends-past_one text, tt), tt) tt in
    within-append text (comma_skips text)
    (parts_skips edition head ++ next_block_skips edition left) comma
    (within-ends text head (parts_skips edition head ++ next_block_skips edition left)
    (ends-past_byte comma_byte text)
    (within-append head (parts_skips edition head) (next_block_skips edition left)
    (parts_skips-within edition head)
    (within-ends head left (next_block_skips edition left) (parts-ends edition head)
    (next_block_skips-within edition left))))

ends-past_semicolon_or_block : (text : List ℕ) → Ends text (past_semicolon_or_block text)
ends-past_semicolon_or_block text = by (starts open_brace text)
  where
    inner : List ℕ
    inner = past_one text

    by : (k : Bool)
        → Ends text
        (if k then past_byte close_brace (from_block_end inner) else past_byte semicolon text)
    by true =
        ends-ends text inner (past_byte close_brace (from_block_end inner)) (ends-past_one text)
        (ends-ends inner (from_block_end inner) (past_byte close_brace (from_block_end inner))
        (ends-from_block_end inner) (ends-past_byte close_brace (from_block_end inner)))
    by false = ends-past_byte semicolon text

pub ends-at_rule_rest : (edition : Edition) (text : List ℕ) → Ends text (at_rule_rest edition text)
unfolding at_rule_rest
ends-at_rule_rest edition text =
    by (name edition text) (occurs-ends _ itself _ (name-occurs edition text))
  where
    by : (r : Reading (List ℕ)) → Ends text (left_after r) → Ends text (at_rule_rest_by_name r)
    by (got n rest) h =
        ends-ends text rest
        (past_semicolon_or_block (past (is_neither semicolon open_brace) rest)) h
        (ends-ends rest (past (is_neither semicolon open_brace) rest)
        (past_semicolon_or_block (past (is_neither semicolon open_brace) rest))
        (ends-past (is_neither semicolon open_brace) rest)
        (ends-past_semicolon_or_block (past (is_neither semicolon open_brace) rest)))
    by (fails fault rest) h = h

statement_skips-within : (edition : Edition) (text : List ℕ)
    → AllWithin text (statement_skips edition text)
unfolding statement_skips
statement_skips-within edition text =
    within-if text (starts at_sign text) (at_rule_skip edition text ∷ [])
    (rule_set_skips edition text) (
      (
        ends-same text,
        ends-ends text (past_one text) (at_rule_rest edition (past_one text))
            (ends-past_one text) (ends-at_rule_rest edition (past_one text)),
        tt,
      ),
      tt,
    )
    (rule_set_skips-within edition text)

end_skips-within : (text : List ℕ) → AllWithin text (end_skips text)
end_skips-within text =
    within-if text (opens_comment (past_blank text))
    (record { from = past_blank text; after = []; why = Why.open_comment } ∷ []) []
    ((ends-past_blank text, ends-nil text, tt), tt) tt

pub next_statement-found : (edition : Edition) (text : List ℕ)
    → EndsFound text (next_statement edition text)
next_statement-found edition text = by (next_statement edition text) refl
  where
    by : (o : Option (List StyleRule × List ℕ)) → next_statement edition text ≡ o → EndsFound text o
    by None e = tt
    by (Some x) e = (next_statement-well edition text x.1 x.0 e).0

-- what is skipped of a text begins and ends in it
pub skipped-within : (edition : Edition) (text : List ℕ) → AllWithin text (skipped edition text)
unfolding skipped
skipped-within edition text =
    skips_of_each-within (λ t. statement_skips edition (past_blank t)) end_skips
    (next_statement edition) (next_statement-found edition)
    (λ t. within-ends t (past_blank t) (statement_skips edition (past_blank t)) (ends-past_blank t)
    (statement_skips-within edition (past_blank t))) end_skips-within text

-- one of them
pub within-at : (text : List ℕ) (xs : List Skip) (k : ℕ) (d : Skip) → AllWithin text xs
    → k < length xs → IsWithin text (get_or xs k d)
within-at text [] k d h less = absurd (omega arith)
within-at text (x ∷ xs) zero d h less = h.0
within-at text (x ∷ xs) (suc k) d h less = within-at text xs k d h.1 (omega arith)
