use Rattle.std.proofs.Common.{◌≡◌, ◌++◌, ℕ, List, Option, sym, subst, option_map}
use Rattle.std.specs.Borrow.{Bor}
use Rattle.std.specs.Prelude.{OnOk}
use Rattle.css_styles.specs.Contenders.{OwnText}
use Rattle.css_styles.specs.StyleViews.{names_of, own_of}
use Rattle.simplecss_calls.specs.WinnerNumbers.{IsWon}
use Rattle.simplecss_calls.specs.internal.Contents.{asked_by}
use Rattle.simplecss_calls.proofs.winners.push_element.Goals as goal

abbrev asked_of : Option (Bor (List (Bor (List (Bor (List ℕ)))))) → Option (List (List (List ℕ)))
asked_of asked = option_map (λ all. names_of all.now) asked

pub returns-in-None-clause-written : goal.returns-in-None-clause-written
returns-in-None-clause-written c = λ read is_read.
    let page = c.args.styles.now.page in
    let rules = c.args.styles.now.rules in
    subst (λ (own : OwnText). OnOk c.push_all.result ((line : List ℕ)
    × IsWon (asked_by c.args.wanted) own read rules page c.args.element line
    × (c.push_all.new.out.items ≡ c.args.out.now.items ++ line))) c.own_at-own.ensures
    (subst (λ asked. OnOk c.push_all.result ((line : List ℕ)
    × IsWon (asked_of asked) (own_of c.own_at-own.result) read rules page c.args.element line
    × (c.push_all.new.out.items ≡ c.args.out.now.items ++ line))) (sym c.in-None.is)
    (c.push_all.ensures.written read is_read))

pub returns-in-Some-clause-written : goal.returns-in-Some-clause-written
returns-in-Some-clause-written c = λ read is_read.
    let page = c.args.styles.now.page in
    let rules = c.args.styles.now.rules in
    subst (λ (own : OwnText). OnOk c.push_asked.result ((line : List ℕ)
    × IsWon (asked_by c.args.wanted) own read rules page c.args.element line
    × (c.push_asked.new.out.items ≡ c.args.out.now.items ++ line))) c.own_at-own.ensures
    (subst (λ asked. OnOk c.push_asked.result ((line : List ℕ)
    × IsWon (asked_of asked) (own_of c.own_at-own.result) read rules page c.args.element line
    × (c.push_asked.new.out.items ≡ c.args.out.now.items ++ line))) (sym c.in-Some.is)
    (c.push_asked.ensures.written read is_read))
