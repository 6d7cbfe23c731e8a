-- What `escape` and `quote` write reads back.
-- Serves `escaping::escaping_law`.
use Rattle.std.proofs.Common.{◌∙◌, List, ℕ, [], refl, sym, ap, append-nil}
use Rattle.css_selector_text.specs.printing.Escaping.{EscapedReadsBack, QuotedReadsBack}
use Rattle.css_selector_text.specs.reading.Grammar.{ident_sequence, value}
use Rattle.css_selector_text.specs.printing.Printing.{identifier_text, string_text}
use Rattle.css_selector_text.proofs.round_trip.SpelledAgain.{EndsName, ident-denotes, value-denotes}

nothing_ends : EndsName []
nothing_ends = record { bare = refl; calm = refl; apart = refl }

pub escaped-again : (name : List ℕ) → EscapedReadsBack name
escaped-again name some =
    ap ident_sequence (sym (append-nil (identifier_text name)))
    ∙ ident-denotes name [] some nothing_ends

pub quoted-again : (text : List ℕ) → QuotedReadsBack text
quoted-again text =
    ap value (sym (append-nil (string_text text))) ∙ value-denotes text []
