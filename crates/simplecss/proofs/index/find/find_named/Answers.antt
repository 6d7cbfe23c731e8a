use Rattle.std.proofs.Common.{subst, sym}
use Rattle.std.specs.Option.{option_map}
use Rattle.simplecss.specs.internal.Kept.{is_kept}
use Rattle.simplecss.specs.internal.Recents.{Leads, adds_bucket, names_bucket}
use Rattle.simplecss.specs.SelectorIndices.{Adds}
use Rattle.simplecss_selector.specs.Buckets.{reports_bucket}
use Rattle.simplecss.proofs.Candidates.{led_within, starts_more, are_kept}
use Rattle.simplecss.proofs.BucketIndices.{key_cases, added_key, named_key}
use Rattle.simplecss.proofs.index.find.find_named.Goals as goal

pub push_all_earlier-requires : goal.push_all_earlier-requires
push_all_earlier-requires c =
    led_within _ c.rule_index.inside.lasts c.rule_index.inside.links.items c.args.rule_index.now
    c.rule_index.invariant.chained c.rule_index.view_is
    c.args.indices.now.items c.push_named.new.indices.items c.sort_once.new.indices.items c.requires
    c.in_ok-push_named.ensures c.sort_once.ensures.same

pub returns : goal.returns
returns c = λ near name_is class_is starts.
    let leads = subst (λ n. Adds c.args.indices.now.items c.push_named.new.indices.items
    (Leads (names_bucket n near.own.class) c.rule_index.inside.lasts)) (sym name_is)
    (subst (λ v. Adds c.args.indices.now.items c.push_named.new.indices.items
    (Leads (names_bucket c.args.name.now v) c.rule_index.inside.lasts))
    (sym class_is) c.in_ok-push_named.ensures) in
    are_kept near
    (is_kept c.args.rule_index.now (option_map (λ p. p.now) c.args.path)) c.args.rule_index.now
    c.push_named.new.indices.items c.sort_once.new.indices.items
    c.push_all_earlier.new.indices.items c.keep_open.new.indices.items
    c.sort_once-2.new.indices.items
    (starts_more (names_bucket near.own.name near.own.class) c.rule_index.inside.lasts
    c.rule_index.inside.links.items c.args.rule_index.now c.rule_index.invariant.chained
    c.rule_index.view_is
    (adds_bucket near) (reports_bucket near) c.args.indices.now.items c.push_named.new.indices.items
    (key_cases near) (added_key near) (named_key near) starts leads)
    c.sort_once.ensures.same c.in_ok-push_all_earlier.ensures c.keep_open.ensures
    c.sort_once-2.ensures.ascending c.sort_once-2.ensures.same
