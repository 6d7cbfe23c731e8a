use Rattle.std.proofs.Common.{rules, of_calls, map}
use Rattle.simplecss_calls.specs.WinnerNumbers.{is_held}
use Rattle.simplecss_calls.proofs.winners.read_styles.Goals as goal

pub returns-clause-rules : goal.returns-clause-rules
returns-clause-rules c =
    c.read.ensures.rules (is_held (map (λ text. text.now) c.args.groups.now))
    (λ n p a w. search (rules, of_calls))

pub returns-clause-within : goal.returns-clause-within
returns-clause-within c =
    c.read.ensures.within (is_held (map (λ text. text.now) c.args.groups.now))
    (λ n p a w. search (rules, of_calls))

pub returns-clause-refused : goal.returns-clause-refused
returns-clause-refused c =
    c.read.ensures.refused (is_held (map (λ text. text.now) c.args.groups.now))
    (λ n p a w. search (rules, of_calls))

pub returns-clause-lists : goal.returns-clause-lists
returns-clause-lists c =
    c.read.ensures.lists (is_held (map (λ text. text.now) c.args.groups.now))
    (λ n p a w. search (rules, of_calls))

pub returns-clause-layers_within : goal.returns-clause-layers_within
returns-clause-layers_within c =
    c.read.ensures.few_layers (is_held (map (λ text. text.now) c.args.groups.now))
    (λ n p a w. search (rules, of_calls))

pub returns-clause-layers_refused : goal.returns-clause-layers_refused
returns-clause-layers_refused c =
    c.read.ensures.many_layers (is_held (map (λ text. text.now) c.args.groups.now))
    (λ n p a w. search (rules, of_calls))
