use Rattle.std.proofs.Common.{◌∙◌, Some, sym, subst, ap, length, List, ℕ, arith}
use Rattle.css_text.specs.Reading.{Ends, found}
use Rattle.css_text.specs.Cursor.{rest_of}
use Rattle.simplecss_grammar.specs.Declarations.{StyleDeclaration, declaration, declarations}
use Rattle.css_text.specs.ThisEdition.{this_edition}
use Rattle.css_text.proofs.reading.EndsLemmas.{ends-nil, occur-ends}
use Rattle.simplecss_grammar.proofs.reading.OffsetLemmas.{offset-ends}
use Rattle.simplecss_declaration.specs.DeclarationViews.{declaration_of}
use Rattle.simplecss_declaration.specs.DeclarationTokenizers.{given_texts}
use Rattle.simplecss_declaration.proofs.DeclarationLists.{declarations-some, declarations-none, declarations-nil, found-none}
use Rattle.simplecss_declaration.proofs.tokenizer.DeclarationTokenizerIterator.next.Goals as goal

pub returns-in-Some-clause-steps : goal.returns-in-Some-clause-steps
returns-in-Some-clause-steps c =
    let old = c.args.self.now.stream in
    let new = c.take_declaration.new.s in
    let d = c.in-Some.declaration in
    record {
      items = declarations-some this_edition (rest_of old) (rest_of new)
          (declaration_of d) c.in-Some.ensures.reads;
      text = c.take_declaration.ensures.text;
      reads = ap found c.in-Some.ensures.reads;
      slices = c.in-Some.ensures.occurs;
      forward = offset-ends old new c.take_declaration.ensures.text
          (occur-ends (rest_of old) (rest_of new) (given_texts (Some d)) c.in-Some.ensures.occurs);
    }

pub returns-in-Some-clause-goes : goal.returns-in-Some-clause-goes
returns-in-Some-clause-goes c =
    let step = declarations-some this_edition (rest_of c.args.self.now.stream) (rest_of
    c.take_declaration.new.s) (declaration_of c.in-Some.declaration) c.in-Some.ensures.reads in
    record {
      on = λ _. (tt, tt, omega (arith, ap (λ (l : List StyleDeclaration). length l) step));
      keeps = tt;
      rests = λ _. tt;
    }

pub returns-in-None-clause-steps : goal.returns-in-None-clause-steps
returns-in-None-clause-steps c =
    let old = c.args.self.now.stream in
    let new = c.jump_to_end.new.self in
    let failed = c.in-None.ensures.reads in
    let same = c.jump_to_end.ensures.text ∙ c.take_declaration.ensures.text in
    let passed : Ends (rest_of old) (rest_of new) = subst (λ (left : List ℕ).
    Ends (rest_of old) left) (sym c.jump_to_end.ensures.rest) (ends-nil (rest_of old)) in
    record {
      items = (
        declarations-none this_edition (rest_of old) (rest_of c.take_declaration.new.s) failed,
        ap (declarations this_edition) c.jump_to_end.ensures.rest ∙ declarations-nil this_edition,
      );
      text = same;
      reads = (
        found-none (declaration this_edition (rest_of old))
            (rest_of c.take_declaration.new.s) failed,
        c.jump_to_end.ensures.rest,
      );
      slices = passed;
      forward = offset-ends old new same passed;
    }
