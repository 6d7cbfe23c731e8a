use Rattle.std.proofs.Common.{◌∙◌, ◌&&◌, false, Bool, List, ap, codes, if◌then◌else◌, sym, ℕ}
use Rattle.css_syntax.specs.Tokens.{past_gap, spells}
use Rattle.sheet_calls.specs.Functions.{font_formats, font_technologies, is_at_rule, is_word_of}
use Rattle.sheet_calls.proofs.functions.is_known_word.Goals as goal

-- what is known of words, by which of three functions asks
abbrev known : (technology format rule : Bool) → List ℕ → Bool
known technology format rule word =
    if technology then is_word_of font_technologies word
    else (if format then is_word_of font_formats word else rule && is_at_rule word)

pub returns-then-spells : goal.returns-then-spells
returns-then-spells c =
    let word = past_gap c.args.arguments.now in
    let format = spells (codes "font-format") c.args.name.now in
    let rule = spells (codes "at-rule") c.args.name.now in
    c.is_word_of.ensures ∙ ap (λ text. is_word_of font_technologies text) c.past_gap-word.ensures
    ∙ sym (ap (λ asked. known asked format rule word) (sym c.spells.ensures ∙ c.if-spells.true))

pub returns-then-spells-2 : goal.returns-then-spells-2
returns-then-spells-2 c =
    let word = past_gap c.args.arguments.now in
    let format = spells (codes "font-format") c.args.name.now in
    let rule = spells (codes "at-rule") c.args.name.now in
    c.is_word_of-then-spells-2.ensures ∙ ap (λ text. is_word_of font_formats text) c.past_gap-word.ensures
    ∙ sym (ap (λ asked. known asked format rule word) (sym c.spells.ensures ∙ c.if-spells.false)
    ∙ ap (λ asked. known false asked rule word) (sym c.spells-2.ensures ∙ c.if-spells-2.true))

pub returns-then-spells-3 : goal.returns-then-spells-3
returns-then-spells-3 c =
    let word = past_gap c.args.arguments.now in
    let format = spells (codes "font-format") c.args.name.now in
    let rule = spells (codes "at-rule") c.args.name.now in
    c.is_at_rule.ensures ∙ ap (λ text. is_at_rule text) c.past_gap-word.ensures
    ∙ sym (ap (λ asked. known asked format rule word) (sym c.spells.ensures ∙ c.if-spells.false)
    ∙ ap (λ asked. known false asked rule word) (sym c.spells-2.ensures ∙ c.if-spells-2.false)
    ∙ ap (λ asked. known false false asked word) (sym c.spells-3.ensures ∙ c.if-spells-3.true))

pub returns-else-spells-3 : goal.returns-else-spells-3
returns-else-spells-3 c =
    let word = past_gap c.args.arguments.now in
    let format = spells (codes "font-format") c.args.name.now in
    let rule = spells (codes "at-rule") c.args.name.now in
    c.if-spells-3.false
    ∙ sym (ap (λ asked. known asked format rule word) (sym c.spells.ensures ∙ c.if-spells.false)
    ∙ ap (λ asked. known false asked rule word) (sym c.spells-2.ensures ∙ c.if-spells-2.false)
    ∙ ap (λ asked. known false false asked word) (sym c.spells-3.ensures ∙ c.if-spells-3.false))
