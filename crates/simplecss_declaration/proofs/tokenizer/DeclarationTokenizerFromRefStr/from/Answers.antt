use Rattle.std.proofs.Common.{◌≡◌, ◌≤◌, List, length, refl, ap, subst, sym}
use Rattle.css_text.specs.Cursor.{rest_of}
use Rattle.simplecss_grammar.specs.Declarations.{StyleDeclaration, declarations}
use Rattle.css_text.specs.ThisEdition.{this_edition}
use Rattle.simplecss_grammar.proofs.reading.CountLemmas.{length-declarations}
use Rattle.std.proofs.iter.runs.Sources.{from_front}
use Rattle.simplecss_declaration.specs.DeclarationViews.{declaration_of}
use Rattle.simplecss_declaration.specs.DeclarationTokenizers.{still_to_come, GivesDeclaration}
use Rattle.simplecss_declaration.proofs.tokenizer.DeclarationTokenizerFromRefStr.from.Goals as goal

pub returns : goal.returns
returns c =
    let text = c.args.text.now in
    let all : rest_of c.new.result ≡ text = rw (c.new.ensures.text, c.new.ensures.offset) refl in
    let read : declarations this_edition (rest_of c.new.result) ≡ declarations this_edition text =
    ap (declarations this_edition) all in
    record {
      whole_text_is = c.new.ensures.text;
      at_start = c.new.ensures.offset;
      to_come = read;
      few = subst (λ (ps : List StyleDeclaration). length ps ≤ length text) (sym read)
          (length-declarations this_edition text);
      in_turn = from_front GivesDeclaration declaration_of still_to_come
          (λ s t g. ap length g.items.0) (λ s x t g. g.items);
    }
