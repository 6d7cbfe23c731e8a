use Rattle.std.proofs.Common.{◌≡◌, take, sym, ap, ◌∙◌, arith, subst, false}
use Rattle.std.specs.Prelude.{codes}
use Rattle.cssq_tree.specs.TreeText.{fields_in, fields_of, has_key, key_of}
use Rattle.cssq_tree.proofs.Fields.{counted_none, counted_more, front_more, left, left_less, new_if_sound}
use Rattle.cssq_tree.proofs.FirstValues.{span_none, span_next, OthersAre, others_none, others_more}
use Rattle.cssq_tree.proofs.ValueSpans.{end_all, end_more, value_here}
use Rattle.cssq_tree.specs.internal.Spans.{IsEnd}
use Rattle.cssq_tree.proofs.Marking.{marked_none, marked_next}
use Rattle.cssq_tree.proofs.tree.read_each.Goals as goal
use Rattle.cssq_tree.proofs.tree.read_each.Goals.{else-not-are_sound-via-then-not-are_sound+else-is_repeated, else-not-are_sound-via-else-not-are_sound}

pub loop-rest-init : goal.loop-rest-init
loop-rest-init c = record {
  passed = counted_none c.args.number (fields_of c.args.all.now);
  few = omega arith;
  end = end_all c.args.all.now;
  class = span_none c.args.all.now (codes "class")
      (fields_of c.args.all.now) c.none-values.result.class c.none-values.ensures.class;
  id = span_none c.args.all.now (codes "id")
      (fields_of c.args.all.now) c.none-values.result.id c.none-values.ensures.id;
  others = subst (OthersAre (fields_of c.args.all.now) (fields_of c.args.all.now))
      (sym c.none-values.ensures.others) (others_none (fields_of c.args.all.now));
  marked = marked_none 0;
}

pub loop-rest-preserved : goal.loop-rest-preserved
loop-rest-preserved c =
    let text = c.in-Some.text in
    let field = c.cut_field.result.0.now in
    let later = fields_in c.cut_field.result.1 in
    let is = ap fields_in c.in-Some.is ∙ c.cut_field.ensures.fields in
    let some = sym c.in-Some-cut_attribute.ensures.found in
    let key_is = c.in-Some-cut_attribute.ensures.key in
    let value_is = c.in-Some-cut_attribute.ensures.value in
    let end = subst (IsEnd c.args.all.now) c.in-Some.is c.loop-rest.invariant.end in
    let here =
    value_here c.args.all.now text.now field end.0 end.1 c.cut_field.ensures.cut.front some
    c.in-Some-cut_attribute.key.now c.in-Some-cut_attribute.value.now key_is value_is c.utf8.all in
    let new : has_key (take c.loop-rest.count (fields_of c.args.all.now)) (key_of field) ≡ false =
    elim c.else-not-are_sound.branch [
      | else-not-are_sound-via-then-not-are_sound+else-is_repeated w ↦
          ap (has_key (take c.loop-rest.count (fields_of c.args.all.now))) (sym key_is)
          ∙ sym w.is_repeated.ensures ∙ w.if-is_repeated.false
      | else-not-are_sound-via-else-not-are_sound w ↦ new_if_sound c.loop-rest.invariant.passed
          field later is some (c.requires w.if-not-are_sound.false)
    ] in
    record {
      passed = counted_more c.loop-rest.invariant.passed field later is some new;
      few = omega (
        arith,
        c.loop-rest.invariant.few,
        ap left c.in-Some.is,
        left_less text c.cut_field.result.1 c.cut_field.ensures.shorter,
      );
      end = end_more c.args.all.now text c.cut_field.result.1 field end.0 end.1
          c.cut_field.ensures.cut;
      class = span_next c.loop-rest.invariant.class field later is c.in-Some-cut_attribute.key.now
          c.in-Some-cut_attribute.value.now key_is value_is _ _ _ c.with-values.ensures.class here;
      id = span_next c.loop-rest.invariant.id field later is c.in-Some-cut_attribute.key.now
          c.in-Some-cut_attribute.value.now key_is value_is _ _ _ c.with-values.ensures.id here;
      others = others_more c.loop-rest.invariant.others field later is
          c.in-Some-cut_attribute.key.now key_is _ c.with-values.ensures.others;
      marked = marked_next (take c.loop-rest.count (fields_of c.args.all.now)) _ c.loop-rest.seen
          c.mark_of-seen.result field c.in-Some-cut_attribute.key.now c.loop-rest.invariant.marked
          (front_more c.loop-rest.invariant.passed field later is) c.mark_of-seen.ensures key_is;
    }
