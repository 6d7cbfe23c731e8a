-- The names of elements whose text is not markup (HTML Standard, section 13.2.6.2).
use Rattle.std.specs.Prelude.{ℕ, List, codes}
use Rattle.css_html.specs.declared.modes.RawName.{RawName}
use Rattle.css_html.specs.declared.modes.RawName.TheVariants.{Title, Textarea, Style, Xmp, Iframe, Noembed, Noframes, Noscript}

-- the name of the element, in lower case
abbrev pub letters_of : RawName → List ℕ
letters_of Title = codes "title"
letters_of Textarea = codes "textarea"
letters_of Style = codes "style"
letters_of Xmp = codes "xmp"
letters_of Iframe = codes "iframe"
letters_of Noembed = codes "noembed"
letters_of Noframes = codes "noframes"
letters_of Noscript = codes "noscript"
