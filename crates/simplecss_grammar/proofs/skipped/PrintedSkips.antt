-- Nothing of a printed sheet is skipped.
-- Serves `laws::printed_skips_nothing`.
use Rattle.std.proofs.Common.{◌≡◌, ◌==◌, ℕ, true, false, not, List, [], ◌∷◌, ◌++◌, ap, append-nil, append_assoc, arith, length, refl, subst, sym, ◌∙◌, Option, Some, None}
use Rattle.std.specs.List.{AllByRecursion, All, flat_map}
use Rattle.std.proofs.lemmas.List.Elements.{recursion_from_All}
use Rattle.css_text.specs.AsciiBytes.{at_sign, close_brace, comma, newline, open_brace, space}
use Rattle.css_text.specs.Reading.{each}
use Rattle.css_text.specs.Bytes.{past, past_byte, starts}
use Rattle.css_text.specs.Characters.{Edition, is_space}
use Rattle.css_text.specs.Comments.{past_blank}
use Rattle.simplecss_grammar.specs.Components.{Component}
use Rattle.simplecss_grammar.specs.Selectors.{reads}
use Rattle.simplecss_grammar.specs.Declarations.{StyleDeclaration}
use Rattle.simplecss_grammar.specs.Blocks.{declaration_in_block}
use Rattle.simplecss_grammar.specs.Statements.{StyleRule, part, parts}
use Rattle.simplecss_grammar.specs.Sheets.{sheet}
use Rattle.simplecss_grammar.specs.Printing.{declaration_text, is_clean, rule_text, selector_text, sheet_text}
use Rattle.simplecss_grammar.specs.PrintingLaws.{IsNarrow}
use Rattle.simplecss_grammar.specs.Skipped.{Refusal, Skip, block_skips, comma_skips, list_skips, next_block_skips, part_skips, parts_skips, refusal, rule_set_skips, selector_skips, skipped, skips_after_read, statement_skips}
use Rattle.simplecss_grammar.specs.SkippedLaws.{PrintsWhole}
use Rattle.simplecss_grammar.proofs.round_trip.PrintedSelectors.{IsSelector}
use Rattle.simplecss_grammar.proofs.round_trip.ReadSelectors.{selector-reads_back_before}
use Rattle.css_text.proofs.reading.EachLemmas.{not_empty}
use Rattle.simplecss_grammar.proofs.reading.SkipLemmas.{parts_skips-last, skipped-blank, skipped-none}
use Rattle.simplecss_grammar.proofs.reading.OpenValues.{block_skips-left}
use Rattle.simplecss_grammar.proofs.round_trip.BlankTails.{past_blank-space}
use Rattle.simplecss_grammar.proofs.round_trip.DeclarationsAgain.{IsDeclaration}
use Rattle.simplecss_grammar.proofs.round_trip.KeptRules.{sheet-are}
use Rattle.simplecss_grammar.proofs.round_trip.RulesAgain.{begins-append, calm-blank, declaration-begins, declarations-again, first-found, list_goes_on, part-again, part_byte, part_calm, part_starts, parts-again, rule-assoc, rule-begins, selector-begins, spaced-list}
use Rattle.simplecss_grammar.proofs.round_trip.SheetsAgain.{Printable, all-printable, narrow-known, nothing_left, rule-there, sheet-prints_back}
use Rattle.simplecss_grammar.proofs.skipped.CutUps.{IsDecided, selector-decided}
use Rattle.simplecss_grammar.proofs.skipped.SkipsAcross.{skipped-next}

-- a selector that is read is not refused
read-refusal : (edition : Edition) (text : List ℕ) (s : List Component)
    → (reads edition text).0 ≡ Some s → refusal edition text ≡ None
read-refusal edition text s e =
    by (refusal edition text)
    (subst (λ (o : Option (List Component)). IsDecided o (refusal edition text)) e
    (selector-decided edition text))
  where
    by : (r : Option Refusal) → IsDecided (Some s) r → r ≡ None
    by None h = refl
    by (Some r) h = absurd h

-- a part that reads before a block skips nothing
part_skips-none : (edition : Edition) (text inside : List ℕ) (s : List Component)
    → reads edition text ≡ (Some s, open_brace ∷ inside) → part_skips edition text ≡ []
unfolding part_skips selector_skips part
part_skips-none edition text inside s e =
    let fine : refusal edition text ≡ None =
    read-refusal edition text s (ap (λ (r : Option (List Component) × List ℕ). r.0) e) in
    rw fine (ap (λ (r : Option (List Component) × List ℕ).
    skips_after_read r.0 (past is_space r.1)) e)

-- after the brace and the space, nothing of a printed block is skipped
block_skips-none : (edition : Edition) (p : StyleDeclaration) (ps : List StyleDeclaration)
    (text : List ℕ) → IsDeclaration edition p → AllByRecursion (IsDeclaration edition) ps
    → block_skips edition
    (space ∷ (flat_map declaration_text (p ∷ ps) ++ (space ∷ close_brace ∷ text))) ≡ []
block_skips-none edition p ps text w ws =
    let inside =
    declaration_text p ++ (flat_map declaration_text ps ++ (space ∷ close_brace ∷ text)) in
    let same : flat_map declaration_text (p ∷ ps) ++ (space ∷ close_brace ∷ text) ≡ inside =
    append_assoc (declaration_text p) (flat_map declaration_text ps) (space ∷ close_brace ∷ text) in
    let listed = declarations-again edition p ps text w ws in
    let there =
    first-found edition inside p ps (close_brace ∷ text) listed
    (declaration_in_block edition inside)
    refl in
    let spaced =
    spaced-list edition inside there.1 there.0 there.2
    (list_goes_on edition inside
    (declaration-begins edition p
    (flat_map declaration_text ps ++ (space ∷ close_brace ∷ text)) w)) in
    let all : each (declaration_in_block edition)
    (space ∷ (flat_map declaration_text (p ∷ ps) ++ (space ∷ close_brace ∷ text)))
    ≡ (p ∷ ps, close_brace ∷ text) = ap
    (λ t. each (declaration_in_block edition) (space ∷ t)) same ∙ spaced ∙ listed in
    let some = not_empty close_brace text in
    block_skips-left edition
    (space ∷ (flat_map declaration_text (p ∷ ps) ++ (space ∷ close_brace ∷ text)))
    (omega (arith, ap (λ (r : List StyleDeclaration × List ℕ). length r.1) all))
    ∙ ap (λ (r : List StyleDeclaration × List ℕ). list_skips edition r.1) all ∙ rw some refl

next_block_skips-again : (edition : Edition) (inside : List ℕ)
    → next_block_skips edition (open_brace ∷ inside) ≡ block_skips edition inside
unfolding next_block_skips
next_block_skips-again edition inside = refl

comma_skips-none : (text : List ℕ) → starts comma text ≡ false → comma_skips text ≡ []
comma_skips-none text e = rw e refl

rule_set_skips-none : (edition : Edition) (s : List Component) (text inside : List ℕ)
    → starts comma text ≡ false → past_byte comma text ≡ text
    → reads edition text ≡ (Some s, open_brace ∷ inside) → block_skips edition inside ≡ []
    → rule_set_skips edition text ≡ []
unfolding rule_set_skips
rule_set_skips-none edition s text inside other start e b =
    let one : part edition text ≡ (Some s, open_brace ∷ inside) =
    part-again edition s text inside e in
    let left : (parts edition text).1 ≡ open_brace ∷ inside =
    ap (λ (r : List (List Component) × List ℕ). r.1) (parts-again edition s text inside one) in
    let after : (part edition text).1 ≡ open_brace ∷ inside =
    ap (λ (r : Option (List Component) × List ℕ). r.1) one in
    let commas : comma_skips text ≡ [] = comma_skips-none text other in
    let selectors : parts_skips edition text ≡ [] =
    parts_skips-last edition text (open_brace ∷ inside) after refl
    ∙ part_skips-none edition text inside s e in
    let body : next_block_skips edition (open_brace ∷ inside) ≡ [] =
    next_block_skips-again edition inside ∙ b in
    ap (λ (t : List ℕ). comma_skips text
    ++ (parts_skips edition t ++ next_block_skips edition (parts edition t).1)) start
    ∙ rw (commas, selectors, left, body) refl

statement_skips-again : (edition : Edition) (text : List ℕ) → starts at_sign text ≡ false
    → statement_skips edition text ≡ rule_set_skips edition text
unfolding statement_skips
statement_skips-again edition text e = rw e refl

printed_rule-skips : (edition : Edition) (s : List Component) (p : StyleDeclaration)
    (ps : List StyleDeclaration) (text : List ℕ) → IsSelector edition s (open_brace ∷ [])
    → is_clean s ≡ true → IsDeclaration edition p → AllByRecursion (IsDeclaration edition) ps
    → statement_skips edition
    (rule_text (record { components = s; declarations = p ∷ ps }) ++ text) ≡ []
printed_rule-skips edition s p ps text w clean wp ws =
    let rule : StyleRule = record { components = s; declarations = p ∷ ps } in
    let inside = space ∷ (flat_map declaration_text (p ∷ ps) ++ (space ∷ close_brace ∷ text)) in
    let whole = selector_text s ++ (space ∷ open_brace ∷ inside) in
    let begins =
    begins-append edition (selector_text s) (space ∷ open_brace ∷ inside)
    (selector-begins edition s open_brace [] w) in
    let read : reads edition whole ≡ (Some s, open_brace ∷ inside) =
    (selector-reads_back_before edition s open_brace [] w inside).1 clean in
    ap (statement_skips edition) (rule-assoc rule text)
    ∙ statement_skips-again edition whole
    (part_starts edition at_sign whole (omega arith) refl refl refl begins)
    ∙ rule_set_skips-none edition s whole inside
    (part_starts edition comma whole (omega arith) refl refl refl begins)
    (part_byte edition comma whole (omega arith) refl refl refl begins) read
    (block_skips-none edition p ps text wp ws)

-- a rule that reads back, printed before any text, skips nothing
rule-skips : (edition : Edition) (rule : StyleRule) (text : List ℕ) → Printable edition rule
    → statement_skips edition (past_blank (rule_text rule ++ text)) ≡ []
rule-skips edition rule text (w, clean) =
    ap (statement_skips edition)
    (calm-blank (rule_text rule ++ text)
    (part_calm edition (rule_text rule ++ text) (rule-begins edition rule text w.0.selector)))
    ∙ by rule.declarations w.1 w.0.declarations
  where
    by : (ps : List StyleDeclaration) → not (length ps == 0) ≡ true
        → AllByRecursion (IsDeclaration edition) ps
        → statement_skips edition
        (rule_text (record { components = rule.components; declarations = ps }) ++ text) ≡ []
    by [] some h = absurd (cc)
    by (p ∷ ps) some h =
        printed_rule-skips edition rule.components p ps text w.0.selector clean h.0 h.1

rule-skipped : (edition : Edition) (rule : StyleRule) (text : List ℕ) → Printable edition rule
    → skipped edition (rule_text rule ++ text) ≡ skipped edition text
rule-skipped edition rule text w =
    skipped-next edition (rule_text rule ++ text) text (rule ∷ []) (rule-there edition rule text w)
    ∙ ap (λ (xs : List Skip). xs ++ skipped edition text) (rule-skips edition rule text w)

-- a newline before statements is a blank
newline-skipped : (edition : Edition) (text : List ℕ)
    → skipped edition (newline ∷ text) ≡ skipped edition text
newline-skipped edition text =
    sym (skipped-blank edition (newline ∷ text))
    ∙ ap (skipped edition) (past_blank-space newline text refl) ∙ skipped-blank edition text

nothing-skipped : (edition : Edition) → skipped edition [] ≡ []
unfolding each
nothing-skipped edition = skipped-none edition [] (nothing_left edition)

printed-skipped : (edition : Edition) (rules : List StyleRule)
    → AllByRecursion (Printable edition) rules → skipped edition (sheet_text rules) ≡ []
printed-skipped edition [] w = nothing-skipped edition
printed-skipped edition (rule ∷ []) w =
    ap (skipped edition) (sym (append-nil (rule_text rule)))
    ∙ rule-skipped edition rule [] w.0 ∙ nothing-skipped edition
printed-skipped edition (rule ∷ next ∷ rules) w =
    rule-skipped edition rule (newline ∷ sheet_text (next ∷ rules)) w.0
    ∙ newline-skipped edition (sheet_text (next ∷ rules))
    ∙ printed-skipped edition (next ∷ rules) w.1

pub prints_whole : (edition : Edition) (texts : List (List ℕ)) → All IsNarrow texts
    → PrintsWhole edition (sheet edition texts)
prints_whole edition texts narrow =
    let rules = sheet edition texts in
    let are =
    sheet-are edition IsNarrow (IsDeclaration edition) (narrow-known edition) texts
    (recursion_from_All IsNarrow texts narrow) in
    record {
      same = (sheet-prints_back edition texts narrow).whole;
      nothing = λ clean. printed-skipped edition rules (all-printable edition rules are clean);
    }
