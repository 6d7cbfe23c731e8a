use Rattle.std.proofs.Common.{◌≡◌, ◌++◌, ◌∙◌, ap, length, map, arith, rules}
use Rattle.std.proofs.lemmas.List.{append_assoc, length-append}
use Rattle.css_styles.specs.Contenders.{in_presentation, in_style, in_turn, own_declarations}
use Rattle.css_styles.specs.internal.Numbered.{numbered_of}
use Rattle.css_styles.proofs.StatedLemmas.{numbered-more}
use Rattle.css_styles.proofs.gathering.push_own.Goals as goal

pub returns-clause-contenders : goal.returns-clause-contenders
returns-clause-contenders c =
    let own = c.args.own in
    let presented = in_turn in_presentation 0 (own_declarations own.presentation.now) in
    let styled = in_turn in_style 0 (own_declarations own.style.now) in
    c.in_ok-push_text-2.ensures.contenders
    ∙ ap (λ cs. cs ++ styled) c.in_ok-push_text.ensures.contenders
    ∙ append_assoc (map numbered_of c.args.contenders.now.items) presented styled

pub push_text-requires : goal.push_text-requires
push_text-requires c =
    let others = c.new-others.result in
    numbered-more c.args.rules.now.properties _ c.args.contenders.now.items
    (others, ap (λ ps. ps ++ others) c.properties-known.ensures) c.requires

pub returns-clause-numbered : goal.returns-clause-numbered
returns-clause-numbered c =
    let known = c.properties-known.result.now in
    let others = c.push_text-2.new.others in
    let more = length-append known others in
    let first : c.len.result ≡ length known = search rules in
    let second : c.len-2.result ≡ length others = search rules in
    (known ++ others, omega (arith, more, first, second), c.in_ok-push_text-2.ensures.numbered)
