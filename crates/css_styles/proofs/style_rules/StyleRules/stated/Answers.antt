use Rattle.std.proofs.Common.{◌<◌, length, sym, subst, arith}
use Rattle.std.specs.Prelude.{IfSome}
use Rattle.std.specs.List.{slice_get}
use Rattle.css_styles.specs.internal.Numbered.{AreStated}
use Rattle.css_styles.proofs.ReadLemmas.{stated-read, stated-within}
use Rattle.css_styles.proofs.style_rules.StyleRules.stated.Goals as goal

pub index-requires : goal.index-requires
index-requires c =
    let fits = subst (λ v. c.args.index < length v.rules) (sym c.self.view_is) c.requires in
    let within =
    stated-within _ _ c.self.inside.stated.items c.args.index c.self.invariant.0 fits in
    omega (arith, within, c.self.inside.stated.ok.0)

pub returns : goal.returns
returns c =
    subst (λ v. IfSome (slice_get v.rules c.args.index)
    (λ rule. AreStated v.properties c.args.index rule c.deref.result.now)) c.self.view_is
    (stated-read _ _ c.self.inside.stated.items c.args.index c.index.result.now c.deref.result.now
    c.self.invariant.0 c.index.ensures c.deref.ensures.value)
