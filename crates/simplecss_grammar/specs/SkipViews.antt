-- What contracts see of reports: the bytes of their texts, wherever these are stored.
use Rattle.std.specs.Option.{option_map}
use Rattle.simplecss_grammar.specs.declared.report.Refusal.{Refusal as ReportedRefusal}
use Rattle.simplecss_grammar.specs.declared.report.Refusal.TheVariants.{Faulty, UnknownClass}
use Rattle.simplecss_grammar.specs.declared.report.Why.{Why as ReportedWhy}
use Rattle.simplecss_grammar.specs.declared.report.Why.TheVariants.{LeadingComma, Selector, AfterSelector, MissingBlock, Declaration, OpenValue, ExtraBrace, Comment, AtRule}
use Rattle.simplecss_grammar.specs.declared.report.Skipped.{Skipped}
use Rattle.simplecss_grammar.specs.Skipped.{Refusal, faulty, unknown_class, Why, leading_comma, refused_selector, after_selector, missing_block, broken_declaration, open_value, extra_brace, open_comment, at_rule, Skip}

abbrev pub refusal_of : ReportedRefusal → Refusal
refusal_of (Faulty within error) = faulty within.now error
refusal_of (UnknownClass n) = unknown_class n.now

abbrev pub why_of : ReportedWhy → Why
why_of LeadingComma = leading_comma
why_of (Selector r) = refused_selector (refusal_of r)
why_of AfterSelector = after_selector
why_of MissingBlock = missing_block
why_of Declaration = broken_declaration
why_of OpenValue = open_value
why_of ExtraBrace = extra_brace
why_of Comment = open_comment
why_of (AtRule n) = at_rule (option_map (λ name. name.now) n)

abbrev pub skip_of : Skipped → Skip
skip_of s = record { from = s.from.now; after = s.after.now; why = why_of s.why }
