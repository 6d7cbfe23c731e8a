use Rattle.std.proofs.Common.{ℕ, List, ◌∙◌, subst}
use Rattle.css_text.specs.Errors.{FailsBy}
use Rattle.simplecss_grammar.specs.Pieces.{solid_as}
use Rattle.css_text.specs.ThisEdition.{this_edition}
use Rattle.css_text.specs.Cursor.{rest_of}
use Rattle.simplecss_selector.specs.SelectorTokenizers.{whole_text, left_of}
use Rattle.simplecss_selector.proofs.Firsts.{simple_unless, open_gap-first, open_none-first, open_joint-first, open_token-first, open_fault-first}
use Rattle.simplecss_selector.proofs.tokenizer.SelectorTokenizer.next_open.Goals as goal

pub returns-in-Err-clause-first : goal.returns-in-Err-clause-first
returns-in-Err-clause-first c = open_gap-first (whole_text c.args.self.now)
    (left_of c.args.self.now) (rest_of c.consume_gap.new.s) c.in-Err.error c.in-Err.ensures.reads

pub returns-in-Stop-clause-first : goal.returns-in-Stop-clause-first
returns-in-Stop-clause-first c = open_none-first (whole_text c.args.self.now)
    (left_of c.args.self.now) (rest_of c.consume_gap.new.s) _ c.next_kind-follows.result
    c.in_default.ensures.reads c.next_kind-follows.ensures c.in-Stop.is

pub returns-in-Child-clause-first : goal.returns-in-Child-clause-first
returns-in-Child-clause-first c = open_joint-first (whole_text c.args.self.now)
    (left_of c.args.self.now) (rest_of c.consume_gap.new.s) _ c.next_kind-follows.result
    c.in_default.ensures.reads c.next_kind-follows.ensures c.in-Child.is

pub returns-in-Ok : goal.returns-in-Ok
returns-in-Ok c =
    let f = c.in_default-follows in
    record {
      whole_text = c.simple_piece.ensures.text ∙ c.consume_gap.ensures.text;
      first = open_token-first (whole_text c.args.self.now) (left_of c.args.self.now)
          (rest_of c.consume_gap.new.s)
          (rest_of c.simple_piece.new.stream) _ c.next_kind-follows.result c.in-Ok.token
          c.in_default.ensures.reads c.next_kind-follows.ensures
          (simple_unless c.next_kind-follows.result f.not-Stop f.not-Slash f.not-Child
          f.not-Adjacent) c.in-Ok.ensures.reads;
    }

pub returns-in-Err-simple_piece : goal.returns-in-Err-simple_piece
returns-in-Err-simple_piece c =
    let f = c.in_default-follows in
    let start = rest_of c.consume_gap.new.s in
    let after = rest_of c.simple_piece.new.stream in
    let reported : FailsBy (whole_text c.args.self.now)
    (solid_as this_edition c.next_kind-follows.result start) c.in-Err-simple_piece.error after =
    subst (λ (text : List ℕ). FailsBy text
    (solid_as this_edition c.next_kind-follows.result start) c.in-Err-simple_piece.error after)
    c.consume_gap.ensures.text c.in-Err-simple_piece.ensures.reads in
    record {
      whole_text = c.simple_piece.ensures.text ∙ c.consume_gap.ensures.text;
      first = rw c.after_fault-self.ensures (open_fault-first (whole_text c.args.self.now)
          (left_of c.args.self.now) start after _ c.next_kind-follows.result
          c.in-Err-simple_piece.error c.in_default.ensures.reads c.next_kind-follows.ensures
          (simple_unless c.next_kind-follows.result f.not-Stop f.not-Slash f.not-Child
          f.not-Adjacent) reported);
    }
