use Rattle.std.proofs.Common.{◌≡◌, ◌+◌, drop}
use Rattle.css_text.proofs.bytes.ScanLemmas.{after_close-none, after_close-at}
use Rattle.css_text.proofs.scan.close_len.Goals as goal

pub returns-in-Some-clause-found : goal.returns-in-Some-clause-found
returns-in-Some-clause-found c =
    let found = c.in-Some.ensures.cases in
    let after : found.0 ≡ c.in-Some.at + 2 = found.1.1.ends in
    after_close-at c.args.text.now (drop (c.in-Some.at + 2) c.args.text.now) c.in-Some.at found.1.0
    (rw after at found.1.1.split)

pub returns-in-None-clause-found : goal.returns-in-None-clause-found
returns-in-None-clause-found c = after_close-none c.args.text.now c.in-None.ensures.cases
