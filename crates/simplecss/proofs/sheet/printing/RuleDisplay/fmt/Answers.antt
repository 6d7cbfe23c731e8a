use Rattle.std.proofs.Common.{◌≡◌, ℕ, List, [], ◌∷◌, ◌++◌, refl, rules}
use Rattle.std.specs.Fmt.{HasWrittenStyled, IsFlush}
use Rattle.std.specs.List.{flat_map}
use Rattle.std.specs.Result.{IsOk}
use Rattle.css_text.specs.AsciiBytes.{close_brace, open_brace, space}
use Rattle.simplecss_grammar.specs.Printing.{declaration_text, rule_text, selector_text}
use Rattle.css_text.proofs.round_trip.StyledWrites.{plain_of_styled, styled_four}
use Rattle.simplecss_declaration.specs.DeclarationViews.{declarations_of}
use Rattle.simplecss.specs.RuleViews.{rule_of}
use Rattle.simplecss.proofs.sheet.printing.RuleDisplay.fmt.Goals as goal

-- the selector, and the declarations between braces
written : (g : _) (c : goal.After-write_str-2 g) → IsFlush c.args.f.now → IsOk c.write_str-2.result
    → HasWrittenStyled g.W.Write.write_str_gives c.args.f.now
    (rule_text (rule_of c.args.self.now)) c.write_str-2.new.self
written g c flush ok =
    let selector = c.in_ok-fmt.ensures.styled flush refl in
    let brace = c.in_ok-write_str.ensures.styled selector.flush refl in
    let block =
    (rw c.as_slice.ensures.value at c.in_ok-write_declarations.ensures) brace.flush refl in
    let close = c.write_str-2.ensures.styled block.flush ok in
    let front : List ℕ = selector_text c.args.self.now.selector in
    let inner : List ℕ =
    flat_map declaration_text (declarations_of c.args.self.now.declarations.items) in
    let whole : ((front ++ space ∷ open_brace ∷ space ∷ []) ++ inner) ++ space ∷ close_brace ∷ []
    ≡ rule_text (rule_of c.args.self.now) = search rules in
    styled_four _ _ _ _ _ _ _ _ _ _ _ selector brace block close whole

pub returns-clause-writes : goal.returns-clause-writes
returns-clause-writes g c = λ plain ok. plain_of_styled _ _ _ _ plain (written g c plain.flush ok)

pub returns-clause-styled : goal.returns-clause-styled
returns-clause-styled g c = written g c
