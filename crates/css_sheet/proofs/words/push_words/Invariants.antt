use Rattle.std.proofs.Common.{◌≡◌, ◌++◌, length, map}
use Rattle.css_syntax.specs.TokenViews.{tokens_to_come}
use Rattle.css_sheet.specs.Pieces.{piece_of}
use Rattle.css_sheet.specs.Words.{words, words_from}
use Rattle.css_sheet.specs.internal.WordViews.{seen_text}
use Rattle.css_sheet.proofs.words.push_words.Given as goal

-- the words so far, and those of the tokens that are to come
abbrev pub invariant-tokens : goal.invariant-tokens
invariant-tokens l =
    map piece_of l.out.items ++ words_from l.way (seen_text l.seen) (tokens_to_come l.tokens)
    ≡ map piece_of l.initial.out.items ++ words l.way l.text

abbrev pub decreases-tokens : goal.decreases-tokens
decreases-tokens l = length (tokens_to_come l.tokens)
