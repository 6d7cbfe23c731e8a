-- Hints, a statement, a part of a head or a declaration at a time.
-- Serves `hints::find_hints`, `heads::read_head` and `values::push_values` (the hints of each).
use Rattle.std.proofs.Common.{◌≡◌, ◌||◌, ◌==◌, not, ℕ, Bool, List, [], ◌∷◌, ◌++◌, true, false, length, Option, Some, None, is_some, option_to_list, ap, refl}
use Rattle.std.specs.List.{flat_map, list_any}
use Rattle.std.specs.Option.{option_map}
use Rattle.css_text.specs.AsciiBytes.{comma}
use Rattle.css_text.specs.Reading.{each, got, found}
use Rattle.css_text.specs.Bytes.{past_one, starts}
use Rattle.css_text.specs.Characters.{Edition}
use Rattle.css_text.specs.Comments.{past_blank}
use Rattle.css_text.proofs.reading.EachLemmas.{Shrinks, Takes, each-none, each-some}
use Rattle.simplecss_grammar.specs.Components.{Component}
use Rattle.simplecss_grammar.specs.Declarations.{StyleDeclaration, declaration}
use Rattle.simplecss_grammar.specs.Blocks.{declaration_in_block, ends_list}
use Rattle.simplecss_grammar.specs.Statements.{StyleRule, part, part_and_comma, next_statement}
use Rattle.simplecss_grammar.specs.Skipped.{skips_with}
use Rattle.simplecss_grammar.proofs.reading.DeclarationLemmas.{declaration_in_block-takes}
use Rattle.simplecss_grammar.proofs.reading.StatementTextLemmas.{part_and_comma-takes, next_statement-takes}
use Rattle.simplecss.specs.declared.hints.heads.Part.{Part}
use Rattle.simplecss.specs.internal.HeadViews.{head_part_of, head_parts_of}
use Rattle.simplecss.specs.Hints.{Hint, HeadPart, hints_of_each, head_part, head_parts, declaration_hints, block_hints, statement_hints}

-- what `read` finds, with something that its start tells

with-takes : {A B : Type 0} (tell : List ℕ → B) (read : List ℕ → Option (A × List ℕ))
    → Takes read → Takes (skips_with tell read)
with-takes {A = A} {B = B} tell read takes text = by (read text) (takes text)
  where
    by : (o : Option (A × List ℕ)) → Shrinks text o
        → Shrinks text (option_map (λ (x : A × List ℕ). (tell text, x.1)) o)
    by None h = tt
    by (Some x) h = h

with-some : {A B : Type 0} (tell : List ℕ → B) (read : List ℕ → Option (A × List ℕ))
    → Takes read → (text rest : List ℕ) (x : A) → read text ≡ Some (x, rest)
    → each (skips_with tell read) text
    ≡ (tell text ∷ (each (skips_with tell read) rest).0, (each (skips_with tell read) rest).1)
with-some {A = A} tell read takes text rest x e =
    each-some (skips_with tell read) (with-takes tell read takes) text rest (tell text)
    (ap (option_map (λ (y : A × List ℕ). (tell text, y.1))) e)

with-none : {A B : Type 0} (tell : List ℕ → B) (read : List ℕ → Option (A × List ℕ))
    (text : List ℕ) → read text ≡ None → each (skips_with tell read) text ≡ ([], text)
with-none {A = A} tell read text e =
    each-none (skips_with tell read) text (ap (option_map (λ (y : A × List ℕ). (tell text, y.1))) e)

-- ---- hints

each_hints-some : {A : Type 0} (hints : List ℕ → List Hint)
    (read : List ℕ → Option (A × List ℕ)) → Takes read → (text rest : List ℕ) (x : A)
    → read text ≡ Some (x, rest)
    → hints_of_each hints read text ≡ hints text ++ hints_of_each hints read rest
unfolding hints_of_each
each_hints-some hints read takes text rest x e =
    ap (λ (found : List (List Hint) × List ℕ). flat_map (λ hints. hints) found.0)
    (with-some hints read takes text rest x e)

each_hints-none : {A : Type 0} (hints : List ℕ → List Hint)
    (read : List ℕ → Option (A × List ℕ)) (text : List ℕ) → read text ≡ None
    → hints_of_each hints read text ≡ []
unfolding hints_of_each
each_hints-none hints read text e =
    ap (λ (found : List (List Hint) × List ℕ). flat_map (λ hints. hints) found.0)
    (with-none hints read text e)

-- ---- statements

-- the hints on the statements from here on
abbrev pub hints_from : Edition → List ℕ → List Hint
hints_from edition text =
    hints_of_each (λ t. statement_hints edition (past_blank t)) (next_statement edition) text

pub hints_from-some : (edition : Edition) (text rest : List ℕ) (rules : List StyleRule)
    → next_statement edition text ≡ Some (rules, rest)
    → hints_from edition text
    ≡ statement_hints edition (past_blank text) ++ hints_from edition rest
hints_from-some edition text rest rules e =
    each_hints-some (λ t. statement_hints edition (past_blank t)) (next_statement edition)
    (next_statement-takes edition) text rest rules e

pub hints_from-none : (edition : Edition) (text : List ℕ) → next_statement edition text ≡ None
    → hints_from edition text ≡ []
hints_from-none edition text e =
    each_hints-none (λ t. statement_hints edition (past_blank t)) (next_statement edition) text e

-- ---- blocks

pub block_hints-some : (edition : Edition) (text rest : List ℕ) (declared : StyleDeclaration)
    → ends_list text ≡ false → declaration edition text ≡ got declared rest
    → block_hints edition text ≡ declaration_hints edition text ++ block_hints edition rest
block_hints-some edition text rest declared e f =
    let read : declaration_in_block edition text ≡ Some (declared, rest) = rw e (ap found f) in
    each_hints-some (declaration_hints edition) (declaration_in_block edition)
    (declaration_in_block-takes edition) text rest declared read

pub block_hints-none : (edition : Edition) (text : List ℕ)
    → declaration_in_block edition text ≡ None → block_hints edition text ≡ []
block_hints-none edition text e =
    each_hints-none (declaration_hints edition) (declaration_in_block edition) text e

-- ---- heads

-- a part with a comma after it
pub head_parts-some : (edition : Edition) (here rest : List ℕ) → (part edition here).1 ≡ rest
    → starts comma rest ≡ true
    → head_parts edition here ≡ head_part edition here ∷ head_parts edition (past_one rest)
unfolding head_parts
head_parts-some edition here rest p e =
    let read : part_and_comma edition here ≡ Some ((part edition here).0, past_one rest) =
    rw (p, e) refl in
    ap (λ (listed : List HeadPart × List ℕ). listed.0 ++ head_part edition listed.1 ∷ [])
    (with-some (head_part edition) (part_and_comma edition) (part_and_comma-takes edition) here
    (past_one rest) (part edition here).0 read)

-- the last part
pub head_parts-last : (edition : Edition) (here rest : List ℕ) → (part edition here).1 ≡ rest
    → starts comma rest ≡ false → head_parts edition here ≡ head_part edition here ∷ []
unfolding head_parts
head_parts-last edition here rest p e =
    let read : part_and_comma edition here ≡ None = rw (p, e) refl in
    ap (λ (listed : List HeadPart × List ℕ). listed.0 ++ head_part edition listed.1 ∷ [])
    (with-none (head_part edition) (part_and_comma edition) here read)

-- a part passes a test exactly if what contracts see of it does
pub any-seen : (test : HeadPart → Bool) (parts : List Part)
    → list_any (λ part. test (head_part_of part)) parts ≡ list_any test (head_parts_of parts)
any-seen test [] = refl
any-seen test (part ∷ parts) =
    ap (λ rest. test (head_part_of part) || rest) (any-seen test parts)

-- the part is kept exactly if the list of its selectors is not empty
pub kept-part : (o : Option (List Component)) (items : List (List Component)) (n : ℕ)
    → n ≡ length items → items ≡ option_to_list o → not (n == 0) ≡ is_some o
kept-part None items n len e = rw (len, e) refl
kept-part (Some selector) items n len e = rw (len, e) refl

-- where the next statement ends, there is one
pub next-there : (read : Option (List StyleRule × List ℕ)) (rest : List ℕ)
    → option_map (λ (x : List StyleRule × List ℕ). x.1) read ≡ Some rest
    → (rules : List StyleRule) × (read ≡ Some (rules, rest))
next-there None rest e = absurd (cc)
next-there (Some x) rest e =
    let same : x.1 ≡ rest = cc in (x.0, ap (λ (t : List ℕ). Some (x.0, t)) same)
