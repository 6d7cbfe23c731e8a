-- The order of the cascade is a total one.
-- Serves `weights::cascade_cmp`.
use Rattle.std.specs.Cmp.{IsTotalOrder, bool_cmp_total}
use Rattle.std.proofs.lemmas.Cmp.{then_total, on_total, back_total, nat_cmp_total, nat_list_cmp_total}
use Rattle.css_cascade.specs.Cascade.{Weighed, cascade_cmp, origin_cmp, attached_cmp, layered_cmp, rule_cmp, normal_layer, important_layer, normal_origin, important_origin}

rule_total : IsTotalOrder rule_cmp
rule_total =
    then_total (on_total (λ (d : Weighed). d.specificity) nat_list_cmp_total)
    (on_total (λ (d : Weighed). d.place) nat_list_cmp_total)

layered_total : IsTotalOrder layered_cmp
layered_total =
    then_total (on_total normal_layer nat_cmp_total)
    (then_total (back_total (on_total important_layer nat_cmp_total)) rule_total)

attached_total : IsTotalOrder attached_cmp
attached_total = then_total (on_total (λ (d : Weighed). d.attached) bool_cmp_total) layered_total

origin_total : IsTotalOrder origin_cmp
origin_total =
    then_total (on_total normal_origin nat_cmp_total)
    (then_total (back_total (on_total important_origin nat_cmp_total)) attached_total)

pub cascade_total : IsTotalOrder cascade_cmp
cascade_total = then_total (on_total (λ (d : Weighed). d.important) bool_cmp_total) origin_total
