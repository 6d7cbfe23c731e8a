-- What the vectors unfold to compute the definitions of `specs/` on a text, in one name.
use Rattle.std.specs.Prelude.{⊤}
use Rattle.std.specs.Fmt.{digits}
use Rattle.std.specs.Str.{chars, trim_end, trim_start}
use lib.Utf8.{encode}
use Rattle.css_text.specs.Reading.{each}
use Rattle.css_text.specs.Positions.{position}
use Rattle.css_text.specs.Comments.{blank, comment, gap}
use Rattle.css_text.specs.Names.{name, past_name_chars}
use Rattle.css_text.specs.Strings.{string_or_name}
use Rattle.simplecss_grammar.specs.Pieces.{attribute_after, attribute_operator, ending, lang_after, named_token, next_kind, piece, pseudo_class_after, solid}
use Rattle.simplecss_grammar.specs.TokenSequences.{sequence_from}
use Rattle.simplecss_grammar.specs.Selectors.{reads}
use Rattle.simplecss_grammar.specs.Terms.{past_number, term, word}
use Rattle.simplecss_grammar.specs.Declarations.{declaration, declarations, importance, stated_name, trailing, value}
use Rattle.simplecss_grammar.specs.Blocks.{block, block_end}
use Rattle.simplecss_grammar.specs.Statements.{at_rule_rest, next_block, part, parts, rule_set, statement, statements}
use Rattle.simplecss_grammar.specs.Cutting.{rests_after}
use Rattle.simplecss_grammar.specs.Skipped.{block_skips, declaration_skips, next_block_skips, part_skips, parts_skips, refusal, rule_set_skips, selector_skips, skipped, skips_of_each, statement_skips}

unfoldable pub simplecss_on_literals : ⊤
unfolding each position comment blank gap past_name_chars name string_or_name attribute_operator
    attribute_after lang_after pseudo_class_after named_token next_kind solid piece ending
    sequence_from chars digits encode trim_start trim_end reads past_number term word value
    importance trailing stated_name declaration declarations block block_end part parts next_block
    rule_set at_rule_rest statement statements rests_after refusal selector_skips part_skips
    skips_of_each parts_skips declaration_skips block_skips next_block_skips rule_set_skips
    statement_skips skipped
simplecss_on_literals = tt
