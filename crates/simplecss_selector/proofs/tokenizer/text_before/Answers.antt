use Rattle.std.proofs.Common.{◌≡◌, ℕ, List, take, drop, sym, ap, ◌∙◌, ◌-◌, arith}
use Rattle.css_text.specs.Reading.{got}
use Rattle.css_text.specs.Bytes.{all_before}
use Rattle.css_text.specs.Cursor.{rest_of}
use Rattle.simplecss_grammar.proofs.reading.BeforeLemmas.{all_before-found, all_before-none}
use Rattle.simplecss_selector.proofs.tokenizer.text_before.Goals as goal
use Rattle.simplecss_selector.proofs.tokenizer.text_before.Goals.{in-Some, in-None}

pub returns-clause-reads : goal.returns-clause-reads
returns-clause-reads c =
    let n = c.match-find_byte.len in
    let text = c.slice_tail-text.result.now in
    let read : all_before c.args.byte text ≡ got (take n text) (drop n text) =
    elim c.match-find_byte.branch [
      | in-Some w ↦ rw w.len-is (all_before-found c.args.byte text w.in-Some.len
          w.in-Some.ensures.found w.in-Some.ensures.after.0)
      | in-None w ↦ rw w.len-is (all_before-none c.args.byte text w.in-None.ensures.found)
    ] in
    let all : n - 0 ≡ n = omega arith in
    let value : c.range.result.now ≡ take n text =
    c.range.ensures.value ∙ ap (λ k. take k text) all in
    let left : rest_of c.advance.new.self ≡ drop n text =
    c.advance.ensures.rest ∙ ap (drop n) (sym c.slice_tail-text.ensures) in
    ap (all_before c.args.byte) (sym c.slice_tail-text.ensures) ∙ read
    ∙ ap (λ (v : List ℕ). got v (drop n text)) (sym value) ∙ ap (got c.range.result.now) (sym left)
