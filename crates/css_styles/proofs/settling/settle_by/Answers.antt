use Rattle.std.proofs.Common.{◌∙◌, ap, refl, arith, get_or, map, option_map}
use Rattle.css_cascade.specs.WeightViews.{weighed}
use Rattle.css_sheet.proofs.WrittenItems.{written-more, written-others}
use Rattle.css_styles.specs.Winners.{settled_in, with_weight}
use Rattle.css_styles.specs.internal.Numbered.{named_of, numbered_of, weight_of}
use Rattle.css_styles.proofs.SettledLemmas.{settled-by}
use Rattle.css_styles.proofs.settling.settle_by.Goals as goal

pub contenders-preserved : goal.contenders-preserved
contenders-preserved c =
    let items = c.contenders.one-items in
    let index = c.contenders.one-index in
    let all = c.args.contenders.now.items in
    let same = c.contenders.invariant.others in
    let item = get_or items index _ in
    record {
      done = written-more index items _ same numbered_of (settled_in (map numbered_of all)) _ _
          (omega (arith, c.contenders-test.true, c.contenders.auto.one-items)) c.contenders.invariant.done
          (ap (λ weight. with_weight weight (numbered_of item))
          (c.settled_weight-one.ensures
          ∙ settled-by all (option_map weighed c.args.first.now) (weight_of item) (c.requires (weight_of item))));
      named = written-more index items _ same named_of (λ p. p) _ _
          (omega (arith, c.contenders-test.true, c.contenders.auto.one-items)) c.contenders.invariant.named refl;
      others = written-others index items _ same _;
    }
