use Rattle.std.proofs.Common.{ℕ, List, ap, sym, ◌∙◌, inl, inr}
use Rattle.css_text.specs.Errors.{position_of}
use Rattle.css_text.specs.declared.error.Error.TheVariants.{InvalidComment}
use Rattle.css_text.specs.Cursor.{rest_of}
use Rattle.simplecss_grammar.proofs.reading.KindLemmas.{slash-starts}
use Rattle.simplecss_selector.specs.SelectorTokenizers.{whole_text, left_of}
use Rattle.simplecss_selector.proofs.Firsts.{simple_unless, closed_gap-first, closed_stop-first, closed_slash-first, closed_end-first, closed_joint-first, closed_spaced-first}
use Rattle.simplecss_selector.proofs.tokenizer.SelectorTokenizer.next_closed.Goals as goal

pub returns-in-Err-clause-first : goal.returns-in-Err-clause-first
returns-in-Err-clause-first c = closed_gap-first (whole_text c.args.self.now)
    (left_of c.args.self.now) (rest_of c.consume_gap.new.s) c.in-Err.error c.in-Err.ensures.reads

pub slash_error-requires : goal.slash_error-requires
slash_error-requires c =
    slash-starts (rest_of c.consume_gap.new.s) (sym c.next_kind-follows.ensures ∙ c.in-Slash.is)

pub returns-in-Stop-clause-first : goal.returns-in-Stop-clause-first
returns-in-Stop-clause-first c = closed_stop-first (whole_text c.args.self.now)
    (left_of c.args.self.now) (rest_of c.consume_gap.new.s) c.in-Ok.spaced
    c.next_kind-follows.result c.in-Ok.ensures.reads c.next_kind-follows.ensures c.in-Stop.is

pub returns-in-Slash-clause-first : goal.returns-in-Slash-clause-first
returns-in-Slash-clause-first c =
    let start = rest_of c.consume_gap.new.s in
    closed_slash-first (whole_text c.args.self.now) (left_of c.args.self.now) start
    (rest_of c.slash_error.new.stream) c.in-Ok.spaced c.next_kind-follows.result
    c.slash_error.result c.in-Ok.ensures.reads c.if-spaced.true c.next_kind-follows.ensures
    c.in-Slash.is c.slash_error.ensures.rest
    (c.slash_error.ensures.error
    ∙ ap (λ (text : List ℕ). InvalidComment (position_of text start)) c.consume_gap.ensures.text)

pub returns-in-Slash-2-clause-first : goal.returns-in-Slash-2-clause-first
returns-in-Slash-2-clause-first c =
    closed_end-first (whole_text c.args.self.now) (left_of c.args.self.now)
    (rest_of c.consume_gap.new.s) c.in-Ok.spaced c.next_kind-follows.result c.in-Ok.ensures.reads
    c.if-spaced.false c.next_kind-follows.ensures c.in-Slash-2.is

pub returns-in-Child-clause-first : goal.returns-in-Child-clause-first
returns-in-Child-clause-first c = closed_joint-first (whole_text c.args.self.now)
    (left_of c.args.self.now) (rest_of c.consume_gap.new.s) (rest_of c.child.new.stream)
    c.in-Ok.spaced c.next_kind-follows.result c.child.result c.in-Ok.ensures.reads
    c.next_kind-follows.ensures (inl c.in-Child.is) (rw c.in-Child.is c.child.ensures.reads)

pub returns-in-Adjacent-clause-first : goal.returns-in-Adjacent-clause-first
returns-in-Adjacent-clause-first c =
    closed_joint-first (whole_text c.args.self.now) (left_of c.args.self.now)
    (rest_of c.consume_gap.new.s) (rest_of c.adjacent.new.stream) c.in-Ok.spaced
    c.next_kind-follows.result c.adjacent.result c.in-Ok.ensures.reads c.next_kind-follows.ensures
    (inr c.in-Adjacent.is) (rw c.in-Adjacent.is c.adjacent.ensures.reads)

pub returns-in_default : goal.returns-in_default
returns-in_default c =
    let f = c.in_default in
    record {
      whole_text = c.consume_gap.ensures.text;
      first = closed_spaced-first (whole_text c.args.self.now) (left_of c.args.self.now)
          (rest_of c.consume_gap.new.s) c.in-Ok.spaced c.next_kind-follows.result
          c.in-Ok.ensures.reads c.if-spaced-2.true c.next_kind-follows.ensures
          (simple_unless c.next_kind-follows.result f.not-Stop f.not-Slash f.not-Child
          f.not-Adjacent);
    }
