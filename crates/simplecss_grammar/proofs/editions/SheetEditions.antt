-- Of ASCII bytes without a slash, both editions read the same selectors and rules.
-- Serves `StyleSheet::parse` and `laws::edition_law` (both editions on ASCII texts without a
-- slash).
use Rattle.std.proofs.Common.{Bool, List, None, Option, Some, [], ap, filter, if◌then◌else◌, map, not, refl, sym, ℕ, ◌++◌, ◌==◌, ◌∙◌, ◌∷◌, ◌≡◌}
use Rattle.std.specs.List.{filter_map, flat_map}
use Rattle.css_text.specs.AsciiBytes.{at_sign, close_brace, comma, open_brace}
use Rattle.css_text.specs.Reading.{Ends, Reader, Reading, each, fails, follow, found, got}
use Rattle.css_text.specs.Bytes.{past, past_byte, past_one, starts}
use Rattle.css_text.specs.Characters.{Edition, first_edition, is_space, second_edition}
use Rattle.css_text.specs.Comments.{gap, past_blank}
use Rattle.simplecss_grammar.specs.Components.{Component}
use Rattle.simplecss_grammar.specs.Declarations.{StyleDeclaration}
use Rattle.simplecss_grammar.specs.Blocks.{block, declaration_in_block, ends_list, past_broken, past_list}
use Rattle.simplecss_grammar.specs.Statements.{StyleRule, ends_statements, has_declaration, next_block, next_statement, part, part_and_comma, parts, at_rule_rest_by_name, at_rule_rest, rule_set, statement, statements}
use Rattle.simplecss_grammar.specs.Sheets.{ordered, sheet}
use Rattle.simplecss_grammar.specs.Editions.{IsCommon, KeepsInBoth}
use Rattle.css_text.proofs.reading.EndsLemmas.{EndsFound, Occurs, each-ends, ends-ends, ends-past, ends-past_byte, ends-past_one, ends-same, no_texts}
use Rattle.simplecss_grammar.proofs.reading.OccurrenceLemmas.{ends-past_blank, gap-occurs, sees_nothing}
use Rattle.simplecss_grammar.proofs.reading.DeclarationsLawful.{declaration-lawful, declaration_in_block-ends}
use Rattle.simplecss_grammar.proofs.cutting.StatementEnds.{part_and_comma-ends, parts-ends}
use Rattle.simplecss_grammar.proofs.cutting.SkipEnds.{next_statement-found}
use Rattle.simplecss_grammar.proofs.reading.EditionLaws.{Shared, each-editions, if-editions, name-editions, shared-ends, shared-from}
use Rattle.simplecss_grammar.specs.Pieces.{Piece, ending, solid_ending, gap_ending, next_piece, piece, pieces, solid}
use Rattle.simplecss_grammar.specs.Neighbours.{Side}
use Rattle.simplecss_grammar.specs.Neighbours.Side.{open_side}
use Rattle.simplecss_grammar.specs.TokenSequences.{TokenSequence, sequence, sequence_from}
use Rattle.simplecss_grammar.specs.Selectors.{outcome, reads, selector_of}
use Rattle.simplecss_grammar.proofs.reading.SequenceEndLemmas.{PieceOccurs, piece-occurs, piece_with}
use Rattle.simplecss_grammar.proofs.reading.PiecesLawful.{solid-lawful}

-- ---- selectors

piece-editions : (text : List ℕ) → Shared text
    → piece first_edition text ≡ piece second_edition text
unfolding piece
piece-editions text h = by (gap text) (gap-occurs text)
  where
    solid_then : Edition → Bool → Reader Piece
    solid_then edition spaced start = follow (solid edition start)
        (piece_with spaced start)

    by : (r : Reading Bool) → Occurs text no_texts r
        → follow r (solid_then first_edition) ≡ follow r (solid_then second_edition)
    by (got spaced start) s = ap (λ r. follow r
        (piece_with spaced start))
        ((solid-lawful start start).same (shared-ends text start s.at h))
    by (fails fault after) s = refl

next_piece-ends : (edition : Edition) (text : List ℕ) → EndsFound text (next_piece edition text)
next_piece-ends edition text = by (piece edition text)
    (piece-occurs sees_nothing edition text text tt (ends-same text))
  where
    by : (r : Reading Piece) → PieceOccurs no_texts text r → EndsFound text (found r)
    by (got p rest) h = ends-ends text p.start rest h.0 (ends-ends p.start p.after rest h.1 h.2)
    by (fails fault rest) h = tt

pieces-editions : (text : List ℕ) → Shared text
    → pieces first_edition text ≡ pieces second_edition text
pieces-editions text h = each-editions (next_piece first_edition) (next_piece second_edition)
    (λ t k. ap found (piece-editions t k)) (next_piece-ends first_edition) text h

ending-editions : (text : List ℕ) → Shared text
    → ending first_edition text ≡ ending second_edition text
unfolding ending
ending-editions text h = by (gap text) (gap-occurs text)
  where
    by : (r : Reading Bool) → Occurs text no_texts r
        → gap_ending first_edition r ≡ gap_ending second_edition r
    by (fails fault after) s = refl
    by (got spaced start) s = ap (solid_ending spaced start)
        ((solid-lawful start start).same (shared-ends text start s.at h))

sequence_from-editions : (side : Side) (text : List ℕ) → Shared text
    → sequence_from first_edition side text ≡ sequence_from second_edition side text
unfolding sequence_from
sequence_from-editions side text h =
    let rest : List ℕ = (pieces first_edition text).1 in
    let shared : Shared rest = shared-ends text rest
    (each-ends (next_piece first_edition) (next_piece-ends first_edition) text) h in
    ap (sequence side (pieces first_edition text).0) (ending-editions rest shared)
    ∙ ap (λ (r : List Piece × List ℕ). sequence side r.0 (ending second_edition r.1))
    (pieces-editions text h)

reads-editions : (text : List ℕ) → Shared text
    → reads first_edition text ≡ reads second_edition text
unfolding reads
reads-editions text h = ap (λ (r : TokenSequence). selector_of (outcome r))
    (sequence_from-editions open_side text h)

-- ---- blocks, rule sets, sheets

declaration_in_block-editions : (text : List ℕ) → Shared text
    → declaration_in_block first_edition text ≡ declaration_in_block second_edition text
declaration_in_block-editions text h = if-editions (ends_list text) _ _ _ _ refl
    (ap found ((declaration-lawful text text).same h))

block-editions : (text : List ℕ) → Shared text
    → block first_edition text ≡ block second_edition text
unfolding block
block-editions text h =
    let listed : List StyleDeclaration × List ℕ = each (declaration_in_block first_edition) text in
    let shared : Shared listed.1 = shared-ends text listed.1
    (each-ends (declaration_in_block first_edition) (declaration_in_block-ends first_edition)
    text) h in
    let last : past_list first_edition listed.1
    ≡ past_list second_edition listed.1 = if-editions (ends_list listed.1) _ _ _ _ refl
    (ap past_broken ((declaration-lawful listed.1 listed.1).same shared)) in
    ap (λ (t : List ℕ). (listed.0, past_byte close_brace t)) last
    ∙ ap (λ (r : List StyleDeclaration × List ℕ). (
      r.0,
      past_byte close_brace
          (past_list second_edition r.1),
    )) (each-editions (declaration_in_block first_edition)
    (declaration_in_block second_edition) declaration_in_block-editions
    (declaration_in_block-ends first_edition) text h)

next_block-editions : (text : List ℕ) → Shared text
    → next_block first_edition text ≡ next_block second_edition text
unfolding next_block
next_block-editions text h =
    let opened : List ℕ = past (λ b. not (b == open_brace)) text in
    let inner : Ends text (past_one opened) = ends-ends text opened (past_one opened)
    (ends-past (λ b. not (b == open_brace)) text) (ends-past_one opened) in
    if-editions (starts open_brace opened) _ _ _ _ (block-editions (past_one opened)
    (shared-ends text (past_one opened) inner h)) refl

part-editions : (text : List ℕ) → Shared text → part first_edition text ≡ part second_edition text
unfolding part
part-editions text h = ap (λ (r : Option (List Component) × List ℕ). (r.0, past is_space r.1))
    (reads-editions text h)

part_and_comma-editions : (text : List ℕ) → Shared text
    → part_and_comma first_edition text ≡ part_and_comma second_edition text
part_and_comma-editions text h =
    ap (λ (r : Option (List Component) × List ℕ). if starts comma r.1 then
    Some (r.0, past_one r.1) else None) (part-editions text h)

parts-editions : (text : List ℕ) → Shared text
    → parts first_edition text ≡ parts second_edition text
unfolding parts
parts-editions text h =
    let listed : List (Option (List Component))
    × List ℕ = each (part_and_comma first_edition) text in
    let shared : Shared listed.1 = shared-ends text listed.1
    (each-ends (part_and_comma first_edition) (part_and_comma-ends first_edition) text) h in
    ap (λ (last : Option (List Component) × List ℕ). (
      filter_map (λ selector. selector)
          (listed.0 ++ last.0 ∷ []),
      last.1,
    )) (part-editions listed.1 shared)
    ∙ ap (λ (r : List (Option (List Component))
    × List ℕ). (
      filter_map (λ selector. selector) (r.0 ++ (part second_edition r.1).0 ∷ []),
      (part second_edition r.1).1,
    )) (each-editions (part_and_comma first_edition)
    (part_and_comma second_edition) part_and_comma-editions
    (part_and_comma-ends first_edition) text h)

rule_set-editions : (text : List ℕ) → Shared text
    → rule_set first_edition text ≡ rule_set second_edition text
unfolding rule_set
rule_set-editions text h =
    let start : List ℕ = past_byte comma text in
    let shared : Shared start = shared-ends text start (ends-past_byte comma text) h in
    let head : List (List Component) × List ℕ = parts first_edition start in
    ap (λ (body : List StyleDeclaration × List ℕ). (
      map
          (λ selector. record { components = selector; declarations = body.0 }) head.0,
      body.1,
    ))
    (next_block-editions head.1 (shared-ends start head.1 (parts-ends first_edition start)
    shared))
    ∙ ap (λ (r : List (List Component) × List ℕ). (
      map
          (λ selector. record {
            components = selector;
            declarations =
                (next_block second_edition r.1).0;
          }) r.0,
      (next_block second_edition r.1).1,
    ))
    (parts-editions start shared)

at_rule_rest-editions : (text : List ℕ) → Shared text
    → at_rule_rest first_edition text ≡ at_rule_rest second_edition text
unfolding at_rule_rest
at_rule_rest-editions text h = ap at_rule_rest_by_name (name-editions text h)

statement-editions : (text : List ℕ) → Shared text
    → statement first_edition text ≡ statement second_edition text
unfolding statement
statement-editions text h =
    if-editions (starts at_sign text) _ _ _ _
    (ap (λ (t : List ℕ). ([], t)) (at_rule_rest-editions (past_one text)
    (shared-ends text (past_one text) (ends-past_one text) h)))
    (rule_set-editions text h)

next_statement-editions : (text : List ℕ) → Shared text
    → next_statement first_edition text ≡ next_statement second_edition text
next_statement-editions text h = if-editions (ends_statements (past_blank text)) _ _ _ _ refl
    (ap (λ (r : List StyleRule × List ℕ). Some r)
    (statement-editions (past_blank text) (shared-ends text (past_blank text)
    (ends-past_blank text) h)))

-- both editions read the same rules from a text of ASCII bytes without a slash
pub keeps_in_both : (text : List ℕ) → IsCommon text → KeepsInBoth text
unfolding statements
keeps_in_both text h =
    ap (λ (r : List (List StyleRule) × List ℕ). filter has_declaration
    (flat_map (λ rules. rules) r.0))
    (each-editions (next_statement first_edition) (next_statement second_edition)
    next_statement-editions (next_statement-found first_edition) text (shared-from text h))

-- any two editions read the same sheet from such a text
pub sheet-editions : (one other : Edition) (text : List ℕ) → IsCommon text
    → sheet one (text ∷ []) ≡ sheet other (text ∷ [])
sheet-editions one other text h = by one other
  where
    both : sheet first_edition (text ∷ []) ≡ sheet second_edition (text ∷ [])
    both = ap (λ (rules : List StyleRule). ordered (rules ++ [])) (keeps_in_both text h)

    by : (a b : Edition) → sheet a (text ∷ []) ≡ sheet b (text ∷ [])
    by first_edition first_edition = refl
    by first_edition second_edition = both
    by second_edition first_edition = sym both
    by second_edition second_edition = refl
