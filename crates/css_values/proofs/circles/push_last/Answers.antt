use Rattle.std.proofs.Common.{◌∙◌, [], ap}
use Rattle.css_values.specs.internal.Paths.{circles_of}
use Rattle.css_values.proofs.CircleLemmas.{piled-append}
use Rattle.css_values.proofs.circles.push_last.Goals as goal

pub returns : goal.returns
returns c =
    ap circles_of c.in_ok-push.ensures.items ∙ piled-append c.args.path.now.items c.args.last []
