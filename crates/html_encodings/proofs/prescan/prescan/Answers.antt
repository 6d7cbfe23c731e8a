use Rattle.std.proofs.Common.{◌∙◌, sym, ap, Option, Some}
use Rattle.css_text.proofs.reading.EachLemmas.{took}
use Rattle.html_encodings.specs.declared.encoding.Encoding.{Encoding}
use Rattle.html_encodings.specs.Prescan.{next_piece}
use Rattle.html_encodings.proofs.Takes.{next_piece-takes}
use Rattle.html_encodings.proofs.Named.{named-found, named-passed, named-none}
use Rattle.html_encodings.proofs.prescan.prescan.Goals as goal

pub pieces-smaller : goal.pieces-smaller
pieces-smaller c =
    took next_piece next_piece-takes c.pieces.rest.now c.in-Some.piece.rest.now
    c.in-Some.piece.encoding c.in-Some.ensures

pub pieces-preserved : goal.pieces-preserved
pieces-preserved c =
    sym (named-passed c.pieces.rest.now c.in-Some.piece.rest.now
    (c.in-Some.ensures
    ∙ ap (λ (o : Option Encoding). Some (o, c.in-Some.piece.rest.now)) c.in_default-encoding.is))
    ∙ c.pieces.invariant

pub returns-in-Some-encoding : goal.returns-in-Some-encoding
returns-in-Some-encoding c =
    sym (named-found c.pieces.rest.now c.in-Some.piece.rest.now c.in-Some-encoding.encoding
    (c.in-Some.ensures
    ∙ ap (λ (o : Option Encoding). Some (o, c.in-Some.piece.rest.now)) c.in-Some-encoding.is))
    ∙ c.pieces.invariant

pub returns : goal.returns
returns c = sym (named-none c.pieces.rest.now c.in_default.ensures) ∙ c.pieces.invariant
