-- The token of a solid piece determines its kind.
-- Serves `Selector::{parse, parse_front}` and `StyleSheet::parse` (a selector printed and read
-- again).
use Rattle.std.proofs.Common.{◌≡◌, ℕ, List, Bool, true, codes, bytes_eq, ◌==◌, length, ap, ◌∙◌, refl}
use Rattle.std.specs.Str.{trim}
use Rattle.css_text.specs.AsciiBytes.{close_bracket, close_parenthesis, open_parenthesis}
use Rattle.css_text.specs.Reading.{Reading, Reader, got, follow}
use Rattle.css_text.specs.Bytes.{byte, all_before, past_one}
use Rattle.css_text.specs.Characters.{Edition}
use Rattle.css_text.specs.Comments.{gap}
use Rattle.css_text.specs.Names.{name}
use Rattle.simplecss_grammar.specs.declared.next_kind.NextKind.{NextKind}
use Rattle.simplecss_grammar.specs.declared.next_kind.NextKind.TheVariants.{Stop, Slash, Child, Adjacent, Universal, Id, Class, Attribute, Colon, Other}
use Rattle.simplecss_grammar.specs.Tokens.{Token}
use Rattle.simplecss_grammar.specs.Tokens.Token.{universal_selector, type_selector, id_selector, class_selector, attribute_selector, named_pseudo_class, lang_pseudo_class, descendant_combinator, child_combinator, adjacent_combinator}
use Rattle.simplecss_grammar.specs.Pieces.{attribute_operator, attribute_after, lang_of, lang_after, pseudo_class_named, pseudo_class_after, named_token, IsSimplePiece, next_kind, solid_as, solid}
use Rattle.simplecss_grammar.specs.Neighbours.{Side, between, side_after}
use Rattle.simplecss_grammar.specs.Neighbours.Side.{open_side, closed_side}
use Rattle.simplecss_grammar.specs.TokenSequences.{sequence_from, answered, token_then}
use Rattle.simplecss_grammar.proofs.reading.SequenceSteps.{solid_sequence, sequence_from-solid, sequence_from-descends}
use Rattle.css_text.proofs.reading.GotLemmas.{IfGot, if_got, if_got-follow, if_got-if, got-holds}

-- the kind of a solid piece with this token (a descendant combinator is none)
abbrev pub kind_of : Token → NextKind
kind_of universal_selector = Universal
kind_of (type_selector n) = Other
kind_of (id_selector n) = Id
kind_of (class_selector n) = Class
kind_of (attribute_selector n operator) = Attribute
kind_of (named_pseudo_class n) = Colon
kind_of (lang_pseudo_class value) = Colon
kind_of descendant_combinator = Stop
kind_of child_combinator = Child
kind_of adjacent_combinator = Adjacent

abbrev OfKind : NextKind → Token → List ℕ → Type 0
OfKind kind token rest = kind ≡ kind_of token

following : {A : Type 0} (kind : NextKind) (r : Reading A) (next : A → Reader Token)
    → ((x : A) (rest : List ℕ) → IfGot (OfKind kind) (next x rest))
    → IfGot (OfKind kind) (follow r next)
following kind r next h = if_got-follow (λ x rest. Unit {0}) (OfKind kind) _ _
    (if_got (λ x rest. Unit {0}) r (λ x rest e. tt)) (λ x rest u. h x rest)

lang_after-kind : (text : List ℕ) → IfGot (OfKind Colon) (lang_after text)
unfolding lang_after
lang_after-kind text =
    following Colon (byte open_parenthesis text) _ (λ u rest.
    following Colon (all_before close_parenthesis rest) _ (λ value next.
    following Colon (byte close_parenthesis next) (λ u. lang_of (trim value)) (λ u last.
    if_got-if (OfKind Colon) (length (trim value) == 0) _ _ (λ e. tt) (λ e. refl))))

module _ (edition : Edition) where
  named_token-kind : (kind : NextKind) (token : List ℕ → Token)
      → ((n : List ℕ) → kind ≡ kind_of (token n)) → (text : List ℕ)
      → IfGot (OfKind kind) (named_token edition token text)
  unfolding named_token
  named_token-kind kind token is text = following kind (name edition text) (λ n. got (token n))
      (λ n rest. is n)

  attribute_after-kind : (text : List ℕ) → IfGot (OfKind Attribute) (attribute_after edition text)
  unfolding attribute_after
  attribute_after-kind text =
      following Attribute (name edition text) _ (λ n rest.
      following Attribute (attribute_operator edition rest) _ (λ operator next.
      following Attribute (byte close_bracket next) (λ u. got (attribute_selector n operator))
      (λ u last. refl)))

  pseudo_class_after-kind : (text : List ℕ) → IfGot (OfKind Colon) (pseudo_class_after edition text)
  unfolding pseudo_class_after
  pseudo_class_after-kind text =
      following Colon (name edition text) pseudo_class_named (λ n rest.
      if_got-if (OfKind Colon) (bytes_eq n (codes "lang")) _ _ (λ e. lang_after-kind rest)
      (λ e. refl))

  solid_as-kind : (kind : NextKind) (text : List ℕ)
      → IfGot (OfKind kind) (solid_as edition kind text)
  solid_as-kind Stop text = tt
  solid_as-kind Slash text = tt
  solid_as-kind Child text = refl
  solid_as-kind Adjacent text = refl
  solid_as-kind Universal text = refl
  solid_as-kind Id text = named_token-kind Id id_selector (λ n. refl) (past_one text)
  solid_as-kind Class text = named_token-kind Class class_selector (λ n. refl) (past_one text)
  solid_as-kind Attribute text = attribute_after-kind (past_one text)
  solid_as-kind Colon text = pseudo_class_after-kind (past_one text)
  solid_as-kind Other text = named_token-kind Other type_selector (λ n. refl) text

  -- where a token was read, its kind is next
  pub solid-kind : (text after : List ℕ) (token : Token) → solid edition text ≡ got token after
      → next_kind text ≡ kind_of token
  unfolding solid
  solid-kind text after token s = got-holds (OfKind (next_kind text))
      _ _ _ (solid_as-kind (next_kind text) text) s

  -- a solid piece after a gap: what is before it, its token, and the sequence after it
  pub sequence_from-token : (side : Side) (text start after : List ℕ) (spaced : Bool)
      (token : Token) → gap text ≡ got spaced start → solid edition start ≡ got token after
      → sequence_from edition side text ≡ answered (between side spaced (kind_of token) start after)
      start (token_then token after (sequence_from edition (side_after (kind_of token)) after))
  sequence_from-token side text start after spaced token g s =
      sequence_from-solid edition side text start spaced (got token after) g s
      ∙ ap (λ k. solid_sequence edition side spaced k start (got token after))
      (solid-kind start after token s)

  -- after a simple piece and a space byte: a descendant combinator
  pub descends-token : (text start after : List ℕ) (token : Token) → gap text ≡ got true start
      → solid edition start ≡ got token after → IsSimplePiece (kind_of token)
      → sequence_from edition closed_side text
      ≡ token_then descendant_combinator start (sequence_from edition open_side start)
  descends-token text start after token g s simple = sequence_from-descends edition text start
      (kind_of token) g (solid-kind start after token s) simple
