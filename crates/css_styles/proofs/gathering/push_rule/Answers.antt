use Rattle.std.proofs.Common.{◌++◌, ◌∙◌, sym, ap, append-nil, map}
use Rattle.css_styles.specs.internal.Numbered.{IsNumbered, numbered_of}
use Rattle.css_styles.proofs.GatherLemmas.{at-plain, at-pseudo, extended-are, extended-all, rule-at, stated-of}
use Rattle.css_styles.proofs.gathering.push_rule.Goals as goal

pub returns-then-is_some-clause-contenders : goal.returns-then-is_some-clause-contenders
returns-then-is_some-clause-contenders c =
    let all = c.args.rules.now.rules in
    let rule = c.index-as_slice-index.result in
    let at = rule-at c.as_slice.result.now all c.args.index _ rule c.as_slice.ensures
    c.requires.within c.index-as_slice-index.is in
    let old = map numbered_of c.args.contenders.now.items in
    sym (append-nil old)
    ∙ sym (ap (λ cs. old ++ cs) (at-pseudo all c.args.index rule at
    (sym c.is_some.ensures ∙ c.if-is_some.true)))

pub returns : goal.returns
returns c =
    let all = c.args.rules.now.rules in
    let properties = c.args.rules.now.properties in
    let rule = c.index-as_slice-index.result in
    let stated = c.stated.result.now in
    let old = c.args.contenders.now.items in
    let now = c.extend_from_slice.new.self.items in
    let at = rule-at c.as_slice.result.now all c.args.index _ rule c.as_slice.ensures
    c.requires.within c.index-as_slice-index.is in
    let are = stated-of properties all c.args.index rule stated at c.stated.ensures in
    record {
      contenders =
          extended-are old stated now _ c.extend_from_slice.result c.extend_from_slice.ensures.items
          (at-plain properties all c.args.index rule stated at
          (sym c.is_some.ensures ∙ c.if-is_some.false) are);
      numbered =
          extended-all (IsNumbered properties) old stated now c.extend_from_slice.result
          c.extend_from_slice.ensures.items c.requires.numbered are.numbered;
    }
