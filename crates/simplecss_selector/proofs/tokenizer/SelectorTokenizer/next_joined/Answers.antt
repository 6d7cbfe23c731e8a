use Rattle.css_text.specs.Cursor.{rest_of}
use Rattle.simplecss_selector.specs.SelectorTokenizers.{whole_text, left_of}
use Rattle.simplecss_selector.proofs.Firsts.{joined_universal-first, joined_type-first, joined_sub-first, joined_fault-first}
use Rattle.simplecss_selector.proofs.tokenizer.SelectorTokenizer.next_joined.Goals as goal

pub returns-in-Universal-clause-first : goal.returns-in-Universal-clause-first
returns-in-Universal-clause-first c = λ text g. joined_universal-first (whole_text c.args.self.now)
    text (left_of c.args.self.now) c.args.follows g c.requires.here c.in-Universal.is

pub returns-in-Other : goal.returns-in-Other
returns-in-Other c = record {
  whole_text = c.simple_piece.ensures.text;
  first = λ text g. joined_type-first (whole_text c.args.self.now) text (left_of c.args.self.now)
      (rest_of c.simple_piece.new.stream) c.args.follows c.in-Ok.token g c.requires.here
      c.in-Other.is c.in-Ok.ensures.reads;
}

pub returns-in_default-follows : goal.returns-in_default-follows
returns-in_default-follows c = record {
  whole_text = c.simple_piece.ensures.text;
  first = rw c.requires.stage (λ text g. joined_sub-first (whole_text c.args.self.now) text
      (left_of c.args.self.now) (rest_of c.simple_piece.new.stream) c.args.follows c.in-Ok.token g
      c.requires.here c.requires.simple c.in_default.not-Universal c.in_default-follows.not-Other
      c.in-Ok.ensures.reads);
}

pub returns-in-Err : goal.returns-in-Err
returns-in-Err c = record {
  whole_text = c.simple_piece.ensures.text;
  first = λ text g. joined_fault-first (whole_text c.args.self.now) text (left_of c.args.self.now)
      (rest_of c.simple_piece.new.stream) c.args.follows c.in-Err.error g c.requires.here
      c.requires.simple c.in-Err.ensures.reads;
}
