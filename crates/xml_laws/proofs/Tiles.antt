-- Tokens are the text, one after another.
use Rattle.std.proofs.Common.{◌≡◌, ℕ, zero, suc, ◌≤◌, ◌==◌, ◌&&◌, nat_eq, Bool, true, false, if◌then◌else◌, List, [], ◌∷◌, ◌++◌, length, drop, Option, None, arith, refl, ap, ◌∙◌, codes}
use Rattle.std.specs.List.{starts_with}
use Rattle.css_text.specs.AsciiBytes.{exclamation_mark, slash, greater_than_sign}
use Rattle.css_text.specs.Reading.{before, Ends}
use Rattle.css_text.specs.Bytes.{past, starts}
use Rattle.css_text.proofs.reading.EndsLemmas.{ends-same, ends-nil, ends-drop, ends-ends, ends-cons, ends-tail, length-ends, ends-past}
use Rattle.css_html.specs.declared.tokenizer.TokenKind.{TokenKind}
use Rattle.css_html.specs.declared.tokenizer.TokenKind.TheVariants as kinds
use Rattle.css_html.specs.Marks.{less_than_sign, question_mark, is_in_name}
use Rattle.css_html.specs.Tokens.{PlacedToken, tag_end, text_of, texts_of}
use Rattle.css_html.proofs.Tiles.{IsPlaced}
use Rattle.css_xml.specs.Doctypes.{part_after, may_end, from_end}
use Rattle.xml_laws.specs.Locality.{tokens_within, tokens}
use Rattle.css_xml.specs.Tokens.{is_in_text, from_mark, quote_after, ends_tag, from_tag_end, tag_from, closed, comment_end, declared_from, markup_from, token_from, next_token}
use Rattle.css_xml.specs.declared.doctypes.Part.{Part}
use Rattle.css_xml.specs.declared.doctypes.Part.TheVariants as parts

either-ends : (b : ℕ) (text rest : List ℕ) (k : Bool) → Ends text rest
    → Ends (b ∷ text) (if k then b ∷ text else rest)
either-ends b text rest true e = ends-same (b ∷ text)
either-ends b text rest false e = ends-cons b text rest e

-- one of two tokens
either : (from text : List ℕ) (k : Bool) {x y : PlacedToken} → IsPlaced from text x → IsPlaced from text y
    → IsPlaced from text (if k then x else y)
either from text true a b = a
either from text false a b = b

-- a token that begins here, and leaves what is left after another end
placed-by : (from text end : List ℕ) (t : PlacedToken) → t.from ≡ from → Ends text end → Ends end t.rest
    → IsPlaced from text t
placed-by from text end t f e r = record { begins = f; ends = ends-ends text end t.rest e r }

pub mark-ends : (mark text : List ℕ) → Ends text (from_mark mark text)
unfolding from_mark
mark-ends mark [] = ends-same []
mark-ends mark (b ∷ text) =
    either-ends b text (from_mark mark text) (starts_with nat_eq (b ∷ text) mark) (mark-ends mark text)

pub tag_end-ends : (quote : Option ℕ) (text : List ℕ) → Ends text (from_tag_end quote text)
unfolding from_tag_end
tag_end-ends quote [] = ends-same []
tag_end-ends quote (b ∷ text) =
    either-ends b text (from_tag_end (quote_after quote b) text) (ends_tag quote b)
    (tag_end-ends (quote_after quote b) text)

pub doctype_end-ends : (part : Part) (text : List ℕ) → Ends text (from_end part text)
unfolding from_end
doctype_end-ends part [] = ends-same []
doctype_end-ends part (b ∷ text) =
    either-ends b text (from_end (part_after part b) text) (may_end part && b == greater_than_sign)
    (doctype_end-ends (part_after part b) text)

tag-placed : (kind : TokenKind) (from text name : List ℕ) → Ends text name
    → IsPlaced from text (tag_from kind from name)
tag-placed kind from text name e =
    by (from_tag_end None name) (ends-ends text name (from_tag_end None name) e (tag_end-ends None name))
  where
    by : (end : List ℕ) → Ends text end → IsPlaced from text (tag_end kind from name (past is_in_name name) end)
    by [] f = record { begins = refl; ends = f }
    by (b ∷ rest) f =
        placed-by from text (b ∷ rest) (tag_end kind from name (past is_in_name name) (b ∷ rest)) refl f
        (ends-tail b rest)

closed-placed : (kind : TokenKind) (from text inside end : List ℕ) (n : ℕ) → Ends text end
    → IsPlaced from text (closed kind from inside end n)
closed-placed kind from text inside [] n e =
    placed-by from text [] (closed kind from inside [] n) refl e (ends-drop n [])
closed-placed kind from text inside (b ∷ end) n e =
    placed-by from text (b ∷ end) (closed kind from inside (b ∷ end) n) refl e (ends-drop n (b ∷ end))

comment_end-ends : (text end : List ℕ) → Ends text end → Ends text (comment_end end)
comment_end-ends text end e = by (starts_with nat_eq end (codes "-->"))
  where
    by : (k : Bool) → Ends text (if k then end else [])
    by true = e
    by false = ends-nil text

declared-placed : (from text more : List ℕ) → Ends more text → IsPlaced from more (declared_from from text)
declared-placed from text more e =
    either from more (starts_with nat_eq text (codes "--"))
    (closed-placed kinds.Comment from more (drop 2 text) (comment_end (from_mark (codes "--") (drop 2 text))) 3
    (comment_end-ends more (from_mark (codes "--") (drop 2 text))
    (after 2 (from_mark (codes "--") (drop 2 text)) (mark-ends (codes "--") (drop 2 text)))))
    (either from more (starts_with nat_eq text (codes "[CDATA["))
    (closed-placed kinds.Cdata from more (drop 7 text) (from_mark (codes "]]>") (drop 7 text)) 3
    (after 7 (from_mark (codes "]]>") (drop 7 text)) (mark-ends (codes "]]>") (drop 7 text))))
    (either from more (starts_with nat_eq text (codes "DOCTYPE"))
    (closed-placed kinds.Doctype from more text (from_end parts.Front (drop 7 text)) 1
    (after 7 (from_end parts.Front (drop 7 text)) (doctype_end-ends parts.Front (drop 7 text))))
    (closed-placed kinds.Cut from more text [] 0 (ends-nil more))))
  where
    after : (n : ℕ) (end : List ℕ) → Ends (drop n text) end → Ends more end
    after n end f =
        ends-ends more text end e (ends-ends text (drop n text) end (ends-drop n text) f)

markup-placed : (from text : List ℕ) → IsPlaced from text (markup_from from text)
markup-placed from text =
    either from text (starts slash text)
    (tag-placed kinds.EndTag from text (drop 1 text) (ends-drop 1 text))
    (either from text (starts exclamation_mark text)
    (declared-placed from (drop 1 text) text (ends-drop 1 text))
    (either from text (starts question_mark text)
    (closed-placed kinds.Comment from text (drop 1 text) (from_mark (codes "?>") (drop 1 text)) 2
    (ends-ends text (drop 1 text) (from_mark (codes "?>") (drop 1 text)) (ends-drop 1 text)
    (mark-ends (codes "?>") (drop 1 text))))
    (tag-placed kinds.StartTag from text text (ends-same text))))

pub token-placed : (b : ℕ) (text : List ℕ) → IsPlaced (b ∷ text) text (token_from b text)
unfolding token_from
token-placed b text =
    either (b ∷ text) text (b == less_than_sign) (markup-placed (b ∷ text) text)
    (record { begins = refl; ends = ends-past is_in_text text })

tiles : (n : ℕ) (text : List ℕ) → length text ≤ n → texts_of (tokens_within n text) ≡ text
unfolding next_token
tiles zero [] h = refl
tiles zero (b ∷ text) h = absurd (omega arith)
tiles (suc n) [] h = refl
tiles (suc n) (b ∷ text) h =
    let t : PlacedToken = token_from b text in
    let placed : IsPlaced (b ∷ text) text t = token-placed b text in
    let less : length t.rest ≤ n = omega (arith, length-ends text t.rest placed.ends) in
    let more : texts_of (tokens_within n t.rest) ≡ t.rest = tiles n t.rest less in
    let whole_text : before (b ∷ text) t.rest ++ t.rest ≡ b ∷ text =
    ends-cons b text t.rest placed.ends in
    ap (λ (r : List ℕ). text_of t ++ r) more
    ∙ ap (λ (f : List ℕ). before f t.rest ++ t.rest) placed.begins ∙ whole_text

-- the tokens of a text are the text
pub tokens-tile : (text : List ℕ) → texts_of (tokens text) ≡ text
unfolding tokens
tokens-tile text = tiles (length text) text (omega arith)
