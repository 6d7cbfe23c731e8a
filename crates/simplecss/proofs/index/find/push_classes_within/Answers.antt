use Rattle.std.proofs.Common.{sym, ◌∙◌}
use Rattle.std.specs.Map.Iter.{deref_pair}
use Rattle.std.proofs.lemmas.Map.Iter.{iter_end}
use Rattle.simplecss_selector.specs.Operators.{is_word_of}
use Rattle.simplecss.proofs.ReadIndices.{none_read, read_yes, read_no, all_read}
use Rattle.simplecss.proofs.index.find.push_classes_within.Goals as goal

pub loop-word-init : goal.loop-word-init
loop-word-init c = none_read (λ word. is_word_of word c.args.value.now) c.args.indices.now.items

pub loop-word-preserved-in-Continue-1 : goal.loop-word-preserved-in-Continue-1
loop-word-preserved-in-Continue-1 c =
    read_yes (λ word. is_word_of word c.args.value.now) c.loop-word.yielded
    (c.in-Some.word, c.in-Some.index) c.args.indices.now.items c.loop-word.indices.items
    c.push.new.self.items
    (sym c.matches.ensures.answer ∙ c.if-matches.true) c.loop-word.invariant
    c.in_ok-push.ensures.items

pub loop-word-preserved : goal.loop-word-preserved
loop-word-preserved c =
    read_no (λ word. is_word_of word c.args.value.now) c.loop-word.yielded
    (c.in-Some.word, c.in-Some.index) c.args.indices.now.items c.loop-word.indices.items
    (sym c.matches.ensures.answer ∙ c.if-matches.false) c.loop-word.invariant

pub returns : goal.returns
returns c =
    let given = c.into_iter-word-iterator.ensures.into_iter_gives in
    let whole = iter_end deref_pair c.args.lasts.now.classes.indices.entries c.loop-word.yielded _ _
    _ _ given.0 c.loop-word.yielded_by c.in-None.is c.next.ensures.steps in
    all_read (λ word. is_word_of word c.args.value.now) c.args.lasts.now.classes.indices
    c.loop-word.yielded c.args.indices.now.items c.loop-word.indices.items whole.0 given.6
    c.loop-word.invariant
