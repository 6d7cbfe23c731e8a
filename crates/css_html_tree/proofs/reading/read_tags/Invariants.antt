use Rattle.std.proofs.Common.{map}
use Rattle.css_html.specs.Views.{token_of}
use Rattle.css_html_tree.specs.Reads.{Reads}
use Rattle.css_html_tree.proofs.reading.read_tags.Given as goal

abbrev pub invariant-tokens : goal.invariant-tokens
invariant-tokens l = Reads l.text (map token_of l.tags.items) l.rest
