use Rattle.std.proofs.lemmas.Str.Pattern.{find_char}
use Rattle.css_text.proofs.bytes.ScanLemmas.{after_byte-found}
use Rattle.css_text.proofs.scan.find_byte.Goals as goal

pub returns-clause-found : goal.returns-clause-found
returns-clause-found c =
    after_byte-found c.args.byte c.args.text.now c.find.result
    (rw c.from.ensures at
    (find_char c.from.result c.args.text.now _ c.find.ensures.cases (rw c.from.ensures c.requires)))
