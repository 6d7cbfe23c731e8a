-- The edition of the rules that this crate implements.
use Rattle.css_text.specs.Characters.{Edition, second_edition}

-- the second edition
abbrev pub this_edition : Edition
this_edition = second_edition
