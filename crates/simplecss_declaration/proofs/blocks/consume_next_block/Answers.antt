use Rattle.std.proofs.Common.{◌≡◌, ◌+◌, drop, Some, None, sym, ap, ◌∙◌, refl}
use Rattle.css_text.specs.AsciiBytes.{open_brace}
use Rattle.css_text.specs.Bytes.{after_byte}
use Rattle.css_text.specs.ThisEdition.{this_edition}
use Rattle.css_text.specs.Cursor.{rest_of}
use Rattle.simplecss_declaration.proofs.BlockLemmas.{next_block-some, next_block-none, next_block_skips-some, next_block_skips-none}
use Rattle.simplecss_declaration.proofs.blocks.consume_next_block.Goals as goal

pub returns-in-Some-clause-reads : goal.returns-in-Some-clause-reads
returns-in-Some-clause-reads g c =
    let after : after_byte open_brace (rest_of c.args.s.now) ≡ Some (rest_of c.advance.new.self) =
    ap (after_byte open_brace) (sym c.slice_tail.ensures) ∙ c.in-Some.ensures.found
    ∙ ap (λ t. Some (drop (c.in-Some.at + 1) t)) c.slice_tail.ensures
    ∙ ap Some (sym c.advance.ensures.rest) in
    rw (next_block-some this_edition (rest_of c.args.s.now) (rest_of c.advance.new.self) after)
    c.consume_block.ensures.reads

pub returns-in-None-clause-reads : goal.returns-in-None-clause-reads
returns-in-None-clause-reads g c =
    let none : after_byte open_brace (rest_of c.args.s.now) ≡ None =
    ap (after_byte open_brace) (sym c.slice_tail.ensures) ∙ c.in-None.ensures.found in
    rw (
      next_block-none this_edition (rest_of c.args.s.now) none,
      c.jump_to_end.ensures.rest,
      c.clear.ensures.items,
    ) refl

pub returns-in-Some-clause-reported : goal.returns-in-Some-clause-reported
returns-in-Some-clause-reported g c =
    let after : after_byte open_brace (rest_of c.args.s.now) ≡ Some (rest_of c.advance.new.self) =
    ap (after_byte open_brace) (sym c.slice_tail.ensures) ∙ c.in-Some.ensures.found
    ∙ ap (λ t. Some (drop (c.in-Some.at + 1) t)) c.slice_tail.ensures
    ∙ ap Some (sym c.advance.ensures.rest) in
    rw (next_block_skips-some this_edition (rest_of c.args.s.now)
    (rest_of c.advance.new.self) after) c.consume_block.ensures.reported

pub returns-in-None-clause-reported : goal.returns-in-None-clause-reported
returns-in-None-clause-reported g c =
    let none : after_byte open_brace (rest_of c.args.s.now) ≡ None =
    ap (after_byte open_brace) (sym c.slice_tail.ensures) ∙ c.in-None.ensures.found in
    rw (next_block_skips-none this_edition (rest_of c.args.s.now) none) refl
