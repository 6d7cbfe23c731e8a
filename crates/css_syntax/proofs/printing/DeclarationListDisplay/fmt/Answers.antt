use Rattle.std.proofs.Common.{◌≡◌, ◌<◌, ◌∷◌, ◌++◌, [], ◌∙◌, ap, sym, length, map, refl, arith, rules}
use Rattle.std.specs.Fmt.{HasWrittenStyled, IsFlush}
use Rattle.std.specs.List.{flat_map}
use Rattle.std.proofs.Output.{has_written_styled_of_eq, has_written_styled_append}
use Rattle.std.proofs.lemmas.List.{take_all}
use Rattle.std.proofs.lemmas.List.Folds.{flat_map-map}
use Rattle.css_text.specs.AsciiBytes.{space as space_byte}
use Rattle.css_syntax.specs.Printing.{declaration_text, list_text}
use Rattle.css_text.proofs.round_trip.StyledWrites.{plain_of_styled, styled_step_at, styled_two}
use Rattle.css_syntax.specs.Views.{declaration_of, declarations_in}
use Rattle.css_syntax.proofs.PrintedLists.{join_first}
use Rattle.css_syntax.proofs.printing.DeclarationListDisplay.fmt.Goals as goal

pub loop-declaration-preserved : goal.loop-declaration-preserved
loop-declaration-preserved g c = λ plain.
    let so_far = c.loop-declaration.invariant plain in
    let within : c.loop-declaration.declaration-index < length c.in-Some.rest.now = omega arith in
    let space : HasWrittenStyled g.W.Write.write_str_gives c.loop-declaration.f (space_byte ∷ [])
    c.write_str.new.self = c.write_str.ensures.styled so_far.flush (search rules) in
    styled_step_at _
    (λ d. space_byte ∷ declaration_text (declaration_of d)) _ _ _ _ _ _ within so_far
    (styled_two _ _ _ _ (space_byte ∷ []) _ _ space
    (c.fmt-in-loop-declaration.ensures.styled space.flush (search rules)) refl)

-- the first declaration, and then the others
written : (g : _) (c : goal.After-loop-declaration g) → IsFlush c.args.f.now
    → HasWrittenStyled g.W.Write.write_str_gives c.args.f.now
    (list_text (declarations_in c.args.self.now)) c.loop-declaration.f
written g c flush =
    let split : c.args.self.now.declarations.now
    ≡ c.in-Some.first.now ∷ c.in-Some.rest.now = search rules in
    let first : HasWrittenStyled g.W.Write.write_str_gives c.args.f.now
    (declaration_text (declaration_of c.in-Some.first.now)) c.fmt.new.f =
    c.in_ok-fmt.ensures.styled flush refl in
    let others : HasWrittenStyled g.W.Write.write_str_gives c.fmt.new.f
    (flat_map (λ d. space_byte ∷ declaration_text (declaration_of d)) c.in-Some.rest.now)
    c.loop-declaration.f =
    has_written_styled_of_eq _ _ _ _ _
    (ap (flat_map (λ d. space_byte ∷ declaration_text (declaration_of d)))
    (take_all c.loop-declaration.declaration-index c.in-Some.rest.now (omega arith)))
    (c.loop-declaration.invariant first.flush) in
    has_written_styled_of_eq _ _ _ _ _
    (sym (join_first space_byte declaration_text (declaration_of c.in-Some.first.now)
    (map declaration_of c.in-Some.rest.now)
    ∙ ap (λ l. declaration_text (declaration_of c.in-Some.first.now) ++ l)
    (flat_map-map (λ d. space_byte ∷ declaration_text d) declaration_of c.in-Some.rest.now))
    ∙ ap (λ l. list_text (map declaration_of l)) (sym split))
    (has_written_styled_append _ _ _ _ _ _ first others)

pub returns-clause-writes : goal.returns-clause-writes
returns-clause-writes g c = λ plain ok. plain_of_styled _ _ _ _ plain (written g c plain.flush)

pub returns-clause-styled : goal.returns-clause-styled
returns-clause-styled g c = λ flush ok. written g c flush
