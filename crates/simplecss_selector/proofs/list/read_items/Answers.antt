use Rattle.std.proofs.Common.{◌≡◌, ◌<◌, ◌∷◌, [], ◌++◌, ◌∙◌, ℕ, List, Some, None, length, drop, refl, sym, ap, subst, append-nil}
use Rattle.std.specs.Option.{option_map}
use Rattle.std.specs.Str.{IsCharBoundary}
use Rattle.std.proofs.lemmas.Bool.{false≢true}
use Rattle.css_text.specs.AsciiBytes.{comma}
use Rattle.css_text.specs.Bytes.{starts}
use Rattle.simplecss_grammar.specs.Components.{Component}
use Rattle.css_text.specs.Cursor.{text_of, offset_of, rest_of}
use Rattle.simplecss_grammar.specs.Selectors.{reads}
use Rattle.simplecss_grammar.specs.Skipped.{add_each, after_selector, selector_skips}
use Rattle.css_text.specs.ThisEdition.{this_edition}
use Rattle.css_text.proofs.bytes.ByteLemmas.{past_byte_there}
use Rattle.css_text.proofs.reading.EachLemmas.{Done}
use Rattle.simplecss_selector.specs.SelectorLists.{item_and_comma, at_end, left_over}
use Rattle.simplecss_selector.proofs.SelectorListLemmas.{not_ended, left, no_comma, selector_skips-none, item-less, item-more, last-is, left-is, list-ends, skips-end}
use Rattle.simplecss_selector.proofs.list.read_items.Given.{Over}
use Rattle.simplecss_selector.proofs.list.read_items.Goals.{After-pos-stop, In-Some}
use Rattle.simplecss_selector.proofs.list.read_items.Goals as goal

-- where a cursor is in the text
located : (text own : List ℕ) (offset at : ℕ) → own ≡ text → at ≡ offset → IsCharBoundary own offset
    → {rest : List ℕ} → drop offset own ≡ rest → IsCharBoundary text at × (drop at text ≡ rest)
located text own offset at same is boundary {rest} left = (
  subst (λ t. IsCharBoundary t at) same (subst (IsCharBoundary own) (sym is) boundary),
  subst (λ t. drop at t ≡ rest) same (subst (λ n. drop n own ≡ rest) (sym is) left),
)

-- what follows the selector that was read
rest_here : (g : Over) (c : After-pos-stop g)
    → rest_of c.advance.new.self ≡ (reads this_edition (rest_of c.items.s)).1
rest_here g c =
    c.advance.ensures.rest
    ∙ subst (λ (t : List ℕ). drop c.in_ok-selector.len t ≡ (reads this_edition t).1)
    c.slice_tail.ensures c.in_ok-selector.ensures.rest

-- the selector that was read
read_here : (g : Over) (c : After-pos-stop g)
    → (reads this_edition (rest_of c.items.s)).0 ≡ c.in_ok-selector.selector
read_here g c =
    sym (c.in_ok-selector.ensures.selector
    ∙ ap (λ (t : List ℕ). (reads this_edition t).0) c.slice_tail.ensures)

-- where the last selector starts
started : (g : Over) (c : After-pos-stop g) (last : List ℕ) → rest_of c.items.s ≡ last
    → IsCharBoundary c.args.text.now c.pos-start.result
    × (drop c.pos-start.result c.args.text.now ≡ last)
started g c last is =
    located c.args.text.now (text_of c.items.s) (offset_of c.items.s) c.pos-start.result
    c.items.invariant.same c.pos-start.ensures c.items.s.boundary is

-- where the last selector stops
stopped : (g : Over) (c : After-pos-stop g) (last : List ℕ) → rest_of c.advance.new.self ≡ last
    → IsCharBoundary c.args.text.now c.pos-stop.result
    × (drop c.pos-stop.result c.args.text.now ≡ last)
stopped g c last is =
    located c.args.text.now (text_of c.advance.new.self) (offset_of c.advance.new.self)
    c.pos-stop.result (c.advance.ensures.text ∙ c.items.invariant.same) c.pos-stop.ensures
    c.advance.new.self.boundary is

-- a selector that is read adds no report
same_here : (g : Over) (c : In-Some g)
    → g.P.Report.state c.read_front.new.report ≡ g.P.Report.state c.args.report.now
same_here g c =
    let here = rest_of c.items.s in
    let is : (reads this_edition here).0 ≡ c.in_ok-selector.selector =
    sym (c.in_ok-selector.ensures.selector
    ∙ ap (λ (t : List ℕ). (reads this_edition t).0) c.slice_tail.ensures) in
    c.in_ok-selector.ensures.reported
    ∙ ap (add_each g.P.Report.add (g.P.Report.state c.items.report))
    (ap (selector_skips this_edition) c.slice_tail.ensures
    ∙ selector_skips-none this_edition here c.in-Some.selector (is ∙ c.in-Some.is))
    ∙ c.items.invariant.reported

pub returns-in_default-clause-list : goal.returns-in_default-clause-list
returns-in_default-clause-list g c =
    let here = rest_of c.items.s in
    let rest = rest_of c.advance.new.self in
    let at = goal.at.returns-in_default-clause-list g c in
    let rest_is = rest_here g at.After-pos-stop in
    let is = read_here g at.After-pos-stop in
    sym (list-ends this_edition c.args.text.now here rest c.items.selectors.items
    c.items.invariant.done rest_is
    None (is ∙ c.in_default.is) refl)

pub returns-in_default-clause-reported : goal.returns-in_default-clause-reported
returns-in_default-clause-reported g c =
    let here = rest_of c.items.s in
    let rest = rest_of c.advance.new.self in
    let at = goal.at.returns-in_default-clause-reported g c in
    let rest_is = rest_here g at.After-pos-stop in
    let is = read_here g at.After-pos-stop in
    let before = g.P.Report.state c.args.report.now in
    c.in_ok-selector.ensures.reported
    ∙ ap (λ s. add_each g.P.Report.add s (selector_skips this_edition c.slice_tail.result.now))
    c.items.invariant.reported
    ∙ ap (add_each g.P.Report.add before)
    (ap (selector_skips this_edition) c.slice_tail.ensures
    ∙ sym (append-nil (selector_skips this_edition here))
    ∙ sym (skips-end this_edition c.args.text.now here rest c.items.selectors.items
    c.items.invariant.done rest_is
    None (is ∙ c.in_default.is) refl))

pub returns-then-at_end-clause-list : goal.returns-then-at_end-clause-list
returns-then-at_end-clause-list g c =
    let here = rest_of c.items.s in
    let rest = rest_of c.advance.new.self in
    let at = goal.at.returns-then-at_end-clause-list g c in
    let rest_is = rest_here g at.After-pos-stop in
    let is = read_here g at.After-pos-stop in
    let end : rest ≡ [] = c.at_end.ensures.0 c.if-at_end.true in
    let s = c.in-Some.selector in
    ap Some c.in_ok-push.ensures.items
    ∙ ap (λ (t : List ℕ). option_map (λ last. c.items.selectors.items ++ last ∷ [])
    (at_end (Some s) t)) (sym end)
    ∙ sym (list-ends this_edition c.args.text.now here rest c.items.selectors.items
    c.items.invariant.done rest_is
    (Some s) (is ∙ c.in-Some.is) (no_comma this_edition s rest (ap (starts comma) end)))

pub returns-then-at_end-clause-reported : goal.returns-then-at_end-clause-reported
returns-then-at_end-clause-reported g c =
    let here = rest_of c.items.s in
    let rest = rest_of c.advance.new.self in
    let at = goal.at.returns-then-at_end-clause-reported g c in
    let rest_is = rest_here g at.After-pos-stop in
    let is = read_here g at.After-pos-stop in
    let same = same_here g at.In-Some in
    let end : rest ≡ [] = c.at_end.ensures.0 c.if-at_end.true in
    let s = c.in-Some.selector in
    same
    ∙ ap (add_each g.P.Report.add (g.P.Report.state c.args.report.now))
    (ap (λ (t : List ℕ). left_over (Some s) t) (sym end)
    ∙ ap (λ l. l ++ left_over (Some s) rest)
    (sym (selector_skips-none this_edition here s (is ∙ c.in-Some.is)))
    ∙ sym (skips-end this_edition c.args.text.now here rest c.items.selectors.items
    c.items.invariant.done rest_is
    (Some s) (is ∙ c.in-Some.is) (no_comma this_edition s rest (ap (starts comma) end))))

pub returns-then-not-skip_byte-clause-list : goal.returns-then-not-skip_byte-clause-list
returns-then-not-skip_byte-clause-list g c =
    let here = rest_of c.items.s in
    let rest = rest_of c.advance.new.self in
    let at = goal.at.returns-then-not-skip_byte-clause-list g c in
    let rest_is = rest_here g at.After-pos-stop in
    let is = read_here g at.After-pos-stop in
    let s = c.in-Some.selector in
    let other = sym c.skip_byte.ensures.occurs ∙ c.if-not-skip_byte.true in
    let more : rest ≡ [] → ⊥ = λ e. false≢true (sym c.if-at_end.false ∙ c.at_end.ensures.1 e) in
    sym (list-ends this_edition c.args.text.now here rest c.items.selectors.items
    c.items.invariant.done rest_is
    (Some s) (is ∙ c.in-Some.is) (no_comma this_edition s rest other)
    ∙ ap (option_map (λ last. c.items.selectors.items ++ last ∷ []))
    (not_ended this_edition s rest more))

pub returns-then-not-skip_byte-clause-reported : goal.returns-then-not-skip_byte-clause-reported
returns-then-not-skip_byte-clause-reported g c =
    let here = rest_of c.items.s in
    let rest = rest_of c.advance.new.self in
    let at = goal.at.returns-then-not-skip_byte-clause-reported g c in
    let rest_is = rest_here g at.After-pos-stop in
    let is = read_here g at.After-pos-stop in
    let same = same_here g at.In-Some in
    let s = c.in-Some.selector in
    let other = sym c.skip_byte.ensures.occurs ∙ c.if-not-skip_byte.true in
    let more : rest ≡ [] → ⊥ = λ e. false≢true (sym c.if-at_end.false ∙ c.at_end.ensures.1 e) in
    let before = g.P.Report.state c.args.report.now in
    c.in_ok-report.ensures
    ∙ ap (λ state. g.P.Report.add state (record {
      from = c.slice_tail-from.result.now;
      after = [];
      why = after_selector;
    })) same
    ∙ ap (λ (t : List ℕ). g.P.Report.add before (record {
      from = t;
      after = [];
      why = after_selector;
    })) c.slice_tail-from.ensures
    ∙ ap (add_each g.P.Report.add before)
    (sym (left this_edition s rest more)
    ∙ ap (λ l. l ++ left_over (Some s) rest)
    (sym (selector_skips-none this_edition here s (is ∙ c.in-Some.is)))
    ∙ sym (skips-end this_edition c.args.text.now here rest c.items.selectors.items
    c.items.invariant.done rest_is
    (Some s) (is ∙ c.in-Some.is) (no_comma this_edition s rest other)))

pub returns-in_default-clause-start : goal.returns-in_default-clause-start
returns-in_default-clause-start g c =
    let here = rest_of c.items.s in
    let rest = rest_of c.advance.new.self in
    let at = goal.at.returns-in_default-clause-start g c in
    let rest_is = rest_here g at.After-pos-stop in
    let is = read_here g at.After-pos-stop in
    started g at.After-pos-stop _ (sym (last-is this_edition c.args.text.now here rest c.items.selectors.items
    c.items.invariant.done rest_is None (is ∙ c.in_default.is) refl))

pub returns-in_default-clause-stop : goal.returns-in_default-clause-stop
returns-in_default-clause-stop g c =
    let here = rest_of c.items.s in
    let rest = rest_of c.advance.new.self in
    let at = goal.at.returns-in_default-clause-stop g c in
    let rest_is = rest_here g at.After-pos-stop in
    let is = read_here g at.After-pos-stop in
    stopped g at.After-pos-stop _ (sym (left-is this_edition c.args.text.now here rest
    c.items.selectors.items
    c.items.invariant.done rest_is None (is ∙ c.in_default.is) refl))

pub returns-then-at_end-clause-start : goal.returns-then-at_end-clause-start
returns-then-at_end-clause-start g c =
    let here = rest_of c.items.s in
    let rest = rest_of c.advance.new.self in
    let at = goal.at.returns-then-at_end-clause-start g c in
    let rest_is = rest_here g at.After-pos-stop in
    let is = read_here g at.After-pos-stop in
    let end : rest ≡ [] = c.at_end.ensures.0 c.if-at_end.true in
    let s = c.in-Some.selector in
    started g at.After-pos-stop _ (sym (last-is this_edition c.args.text.now here rest c.items.selectors.items
    c.items.invariant.done rest_is (Some s) (is ∙ c.in-Some.is)
    (no_comma this_edition s rest (ap (starts comma) end))))

pub returns-then-at_end-clause-stop : goal.returns-then-at_end-clause-stop
returns-then-at_end-clause-stop g c =
    let here = rest_of c.items.s in
    let rest = rest_of c.advance.new.self in
    let at = goal.at.returns-then-at_end-clause-stop g c in
    let rest_is = rest_here g at.After-pos-stop in
    let is = read_here g at.After-pos-stop in
    let end : rest ≡ [] = c.at_end.ensures.0 c.if-at_end.true in
    let s = c.in-Some.selector in
    stopped g at.After-pos-stop _ (sym (left-is this_edition c.args.text.now here rest
    c.items.selectors.items
    c.items.invariant.done rest_is (Some s) (is ∙ c.in-Some.is)
    (no_comma this_edition s rest (ap (starts comma) end))))

pub returns-then-not-skip_byte-clause-start : goal.returns-then-not-skip_byte-clause-start
returns-then-not-skip_byte-clause-start g c =
    let here = rest_of c.items.s in
    let rest = rest_of c.advance.new.self in
    let at = goal.at.returns-then-not-skip_byte-clause-start g c in
    let rest_is = rest_here g at.After-pos-stop in
    let is = read_here g at.After-pos-stop in
    let s = c.in-Some.selector in
    let other = sym c.skip_byte.ensures.occurs ∙ c.if-not-skip_byte.true in
    started g at.After-pos-stop _ (sym (last-is this_edition c.args.text.now here rest c.items.selectors.items
    c.items.invariant.done rest_is (Some s) (is ∙ c.in-Some.is)
    (no_comma this_edition s rest other)))

pub returns-then-not-skip_byte-clause-stop : goal.returns-then-not-skip_byte-clause-stop
returns-then-not-skip_byte-clause-stop g c =
    let here = rest_of c.items.s in
    let rest = rest_of c.advance.new.self in
    let at = goal.at.returns-then-not-skip_byte-clause-stop g c in
    let rest_is = rest_here g at.After-pos-stop in
    let is = read_here g at.After-pos-stop in
    let s = c.in-Some.selector in
    let other = sym c.skip_byte.ensures.occurs ∙ c.if-not-skip_byte.true in
    stopped g at.After-pos-stop _ (sym (left-is this_edition c.args.text.now here rest
    c.items.selectors.items
    c.items.invariant.done rest_is (Some s) (is ∙ c.in-Some.is)
    (no_comma this_edition s rest other)))

pub items-smaller : goal.items-smaller
items-smaller g c =
    let here = rest_of c.items.s in
    let rest = rest_of c.advance.new.self in
    let at = goal.at.items-smaller g c in
    let rest_is = rest_here g at.After-pos-stop in
    let is = read_here g at.After-pos-stop in
    let occurs = sym c.skip_byte.ensures.occurs ∙ c.if-not-skip_byte.false in
    subst (λ (t : List ℕ). length t < length here)
    (sym (c.skip_byte.ensures.rest ∙ past_byte_there comma rest occurs))
    (item-less this_edition c.args.text.now here rest c.items.selectors.items
    c.items.invariant.done rest_is
    c.in-Some.selector (is ∙ c.in-Some.is) occurs)

pub items-preserved : goal.items-preserved
items-preserved g c =
    let here = rest_of c.items.s in
    let rest = rest_of c.advance.new.self in
    let at = goal.at.items-preserved g c in
    let rest_is = rest_here g at.After-pos-stop in
    let is = read_here g at.After-pos-stop in
    let same = same_here g at.In-Some in
    let occurs = sym c.skip_byte.ensures.occurs ∙ c.if-not-skip_byte.false in
    record {
      same = c.skip_byte.ensures.text ∙ c.advance.ensures.text ∙ c.items.invariant.same;
      done = subst (λ (l : List (List Component)).
          Done (item_and_comma this_edition) l (rest_of c.skip_byte.new.s) c.args.text.now)
          (sym c.in_ok-push.ensures.items) (subst (λ (t : List ℕ).
          Done (item_and_comma this_edition) (c.items.selectors.items ++ c.in-Some.selector ∷ []) t
          c.args.text.now)
          (sym (c.skip_byte.ensures.rest ∙ past_byte_there comma rest occurs))
          (item-more this_edition c.args.text.now here rest c.items.selectors.items
          c.items.invariant.done rest_is
          c.in-Some.selector (is ∙ c.in-Some.is) occurs));
      reported = same;
    }
