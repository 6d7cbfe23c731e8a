-- Worked pages, computed with the definitions. A browser gives the same answers to these pages.
use Rattle.std.specs.Prelude.{◌≡◌, refl, codes, Some, None}
use Rattle.css_text.specs.Reading.{each}
use Rattle.css_html.specs.Marks.{past_letters}
use Rattle.css_html.specs.Attributes.{next_attribute, past_attributes}
use Rattle.html_encodings.specs.declared.encoding.Encoding.TheVariants.{Utf8, Koi8R, ShiftJis, Windows1252}
use Rattle.html_encodings.specs.Labels.{labels}
use Rattle.html_encodings.specs.Finding.{is_listed_from, encoding_of_label, past_charset, value_in}
use Rattle.html_encodings.specs.Prescan.{after_comment, marked_piece, next_piece, first_named, prescan}
use Rattle.html_encodings.specs.Declaration.{past_encoding, declared_encoding}

-- labels have any case, and any spaces at their ends
pub labels_read :
    (encoding_of_label (codes " KOI8-r\n") ≡ Some Koi8R)
    × (encoding_of_label (codes "koi8 -r") ≡ None)
    × (encoding_of_label (codes "") ≡ None)
unfolding past_letters labels is_listed_from
labels_read = (refl, refl, refl)

-- of what is in comments and in other tags no `meta` is read, and a front that ends in the midst names nothing
pub metas_read :
    (prescan (codes "<meta charset=utf-16>") ≡ Some Utf8)
    × (prescan (codes "<!--><META/charset='koi'>") ≡ Some Koi8R)
    × (prescan (codes "<p a='<meta charset=koi>'>") ≡ None)
    × (prescan (codes "<meta charset=koi") ≡ None)
    × (prescan (codes "<meta charset=x-user-defined>") ≡ Some Windows1252)
unfolding each past_letters next_attribute past_attributes labels is_listed_from past_charset value_in
    after_comment marked_piece next_piece first_named
metas_read = (refl, refl, refl, refl, refl)

-- an XML declaration
pub declarations_read :
    (declared_encoding (codes "<?xml encoding = \"sjis\"?>") ≡ Some ShiftJis)
    × (declared_encoding (codes "<?xml encoding=\"sjis \"?>") ≡ None)
    × (declared_encoding (codes "<?xml?> encoding=\"sjis\">") ≡ None)
unfolding past_letters labels is_listed_from past_encoding
declarations_read = (refl, refl, refl)
