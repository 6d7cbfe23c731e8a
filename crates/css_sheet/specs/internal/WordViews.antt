-- What contracts of private functions see of words.
use Rattle.std.specs.Prelude.{List}
use Rattle.std.specs.Option.{option_map}
use Rattle.css_sheet.specs.declared.words.Word.{Word}
use Rattle.css_sheet.specs.declared.words.Seen.{Seen}
use Rattle.css_sheet.specs.Words.{WordText, SeenText}

abbrev pub word_text : Word → WordText
word_text one = record { class = one.class; text = one.text.now }

abbrev pub seen_text : Seen → SeenText
seen_text seen = record {
  word = option_map word_text seen.word;
  feature = seen.feature;
  gap = seen.gap;
}
