-- What contracts see of changes and of what is written of tokens.
use Rattle.std.specs.Prelude.{map}
use Rattle.clean_values.specs.declared.changes.Changes.{Changes}
use Rattle.clean_values.specs.declared.limits.Limits.{Limits}
use Rattle.clean_values.specs.declared.pieces.Piece.{Piece}
use Rattle.clean_values.specs.Limits.{LimitsText}
use Rattle.clean_values.specs.Values.{ChangesText, PieceText}

abbrev pub changes_of : Changes → ChangesText
changes_of c = record {
  urls = map (λ text. text.now) c.urls.now;
  answers = map (λ text. text.now) c.answers.now;
  prefix = c.prefix.now;
  named = map (λ text. text.now) c.named.now;
  words = map (λ text. text.now) c.words.now;
}

abbrev pub piece_of : Piece → PieceText
piece_of p = record {
  opened = p.opened.now;
  prefix = p.prefix.now;
  text = p.text.now;
  closed = p.closed.now;
}

abbrev pub limits_of : Limits → LimitsText
limits_of l = record {
  properties = map (λ text. text.now) l.properties.now;
  limits = map (λ text. text.now) l.limits.now;
}
