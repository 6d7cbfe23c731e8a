use Rattle.std.proofs.Common.{◌+◌, ◌<◌, length, arith, rules, sym, take}
use Rattle.std.proofs.Output.{has_written_styled_of_eq}
use Rattle.std.proofs.lemmas.List.Folds.{flat_map-map}
use Rattle.simplecss_grammar.specs.Printing.{declaration_text}
use Rattle.simplecss_declaration.specs.DeclarationViews.{declaration_of}
use Rattle.css_text.proofs.round_trip.StyledWrites.{styled_step_at}
use Rattle.simplecss.proofs.sheet.printing.write_declarations.Goals as goal

pub loop-declaration-preserved : goal.loop-declaration-preserved
loop-declaration-preserved g c = λ plain.
    let so_far = c.loop-declaration.invariant plain in
    let all = c.args.declarations.now in
    let i = c.loop-declaration.declaration-index in
    let within : i < length all = omega arith in
    has_written_styled_of_eq _ _ _ _ _
    (sym (flat_map-map declaration_text declaration_of (take (i + 1) all)))
    (styled_step_at _ (λ d. declaration_text (declaration_of d)) _ _ _ _ _ _ within
    (has_written_styled_of_eq _ _ _ _ _
    (flat_map-map declaration_text declaration_of (take i all)) so_far)
    (c.fmt.ensures.styled so_far.flush (search rules)))
