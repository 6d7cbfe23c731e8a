use Rattle.std.proofs.Common.{◌≡◌, ◌≤◌, ◌+◌, length, map, refl, ap, arith}
use Rattle.std.proofs.lemmas.List.{length-map}
use Rattle.std.proofs.iter.runs.Sources.{from_front}
use Rattle.css_text.specs.Cursor.{rest_of}
use Rattle.css_text.specs.ThisEdition.{this_edition}
use Rattle.simplecss_grammar.specs.Neighbours.Side.{open_side}
use Rattle.simplecss_grammar.specs.TokenSequences.{sequence_of, tokens_of, items, reported_in}
use Rattle.simplecss_grammar.proofs.reading.CountLemmas.{length-sequence_from}
use Rattle.simplecss_selector.specs.TokenViews.{item_view}
use Rattle.simplecss_selector.specs.SelectorTokenizers.{items_left, GivesItem}
use Rattle.simplecss_selector.proofs.tokenizer.SelectorTokenizerFromRefStr.from.Goals as goal

pub returns : goal.returns
unfolding items_left
returns c =
    let text = c.args.text.now in
    let all : rest_of c.from.result ≡ text = rw (c.from.ensures.0, c.from.ensures.1) refl in
    let given : map (reported_in c.from.result.text.now)
    (items (sequence_of this_edition (rest_of c.from.result))) ≡ tokens_of this_edition text =
    rw (all, c.from.ensures.0) refl in
    let few : length (items (sequence_of this_edition text)) ≤ length text + 2 =
    length-sequence_from this_edition open_side text in
    record {
      whole_text_is = c.from.ensures.0;
      at_start = c.from.ensures.1;
      left = all;
      sequence = ap (sequence_of this_edition) all;
      to_come = given;
      few = rw given (omega
          (arith, few, length-map (items (sequence_of this_edition text)) (reported_in text)));
      in_turn = from_front GivesItem item_view items_left (λ s t g. ap length g.items.0)
          (λ s x t g. g.items);
    }
