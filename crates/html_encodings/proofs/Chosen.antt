-- Which encoding of a page is chosen, where neither a mark nor a label names one.
-- Serves `encoding_of_page`.
use Rattle.std.proofs.Common.{◌≡◌, ℕ, List, take, Some, None, refl, sym}
use Rattle.html_encodings.specs.declared.encoding.Encoding.TheVariants.{Windows1252}
use Rattle.html_encodings.specs.declared.page.Found.{Found}
use Rattle.html_encodings.specs.declared.page.Source.TheVariants.{Default}
use Rattle.html_encodings.specs.Finding.{encoding_of_label}
use Rattle.html_encodings.specs.Page.{encoding_of_mark, front_length, said_in, found_of}

pub found_said : (label page : List ℕ) (found : Found) → None ≡ encoding_of_mark page
    → None ≡ encoding_of_label label → Some found ≡ said_in (take front_length page)
    → found ≡ found_of label page
found_said label page found m l s = rw (sym m, sym l, sym s) refl

pub found_nowhere : (label page : List ℕ) → None ≡ encoding_of_mark page
    → None ≡ encoding_of_label label → None ≡ said_in (take front_length page)
    → record { source = Default; encoding = Windows1252 } ≡ found_of label page
found_nowhere label page m l s = rw (sym m, sym l, sym s) refl
