-- What a well-formed document is (XML 1.0, Fifth Edition, section 2.1): its tokens, one after another, each of which may be where
-- it is.
use Rattle.std.specs.Prelude.{◌≡◌, ℕ, Bool, true, false, if◌then◌else◌, List, [], ◌∷◌, ◌++◌, map, Some}
use Rattle.css_html.specs.Tokens.{PlacedToken}
use Rattle.css_html.specs.Views.{token_of}
use Rattle.css_html.specs.declared.tokenizer.TokenKind.{TokenKind}
use Rattle.css_html.specs.declared.tokenizer.TokenKind.TheVariants.{Text, StartTag, EndTag, Comment, Doctype, Cdata, Nothing, Cut}
use Rattle.css_xml.specs.Characters.{are_blank, are_characters}
use Rattle.css_xml.specs.Tags.{is_said, is_start_tag, is_end_tag}
use Rattle.css_xml.specs.Tokens.{next_token, tag_name, text_of, is_empty_tag}
use Rattle.css_xml.specs.declared.nesting.Nesting.{Nesting}
use Rattle.css_xml.specs.declared.nesting.Stage.{Stage}
use Rattle.css_xml.specs.declared.nesting.Stage.TheVariants.{Start, Front, Typed, Inside, After}

-- What was read so far: the tags of the elements that are open, the innermost last, all start tags, and how far it is.
pub record State : Type 0 where
  pub unclosed : List PlacedToken
  pub tags : List PlacedToken
  pub stage : Stage

-- what a reader has read
abbrev pub state_of : Nesting → State
state_of n = record {
  unclosed = map token_of n.unclosed.items;
  tags = map token_of n.tags.items;
  stage = n.stage;
}

-- an element may begin: there is no root yet, or it is open
abbrev pub may_begin : Stage → Bool
may_begin Start = true
may_begin Front = true
may_begin Typed = true
may_begin Inside = true
may_begin After = false

-- a document type may be there: before the root, and no second one
abbrev pub may_have_type : Stage → Bool
may_have_type Start = true
may_have_type Front = true
may_have_type Typed = false
may_have_type Inside = false
may_have_type After = false

-- the root is open
abbrev pub is_inside : Stage → Bool
is_inside Start = false
is_inside Front = false
is_inside Typed = false
is_inside Inside = true
is_inside After = false

-- how far a document is when these elements are open, of which one was
abbrev pub stage_of : (unclosed : List PlacedToken) → Stage
stage_of [] = After
stage_of (t ∷ unclosed) = Inside

-- how far it is after what is no document type, and no tag
abbrev pub stage_after : Stage → Stage
stage_after Start = Front
stage_after Front = Front
stage_after Typed = Typed
stage_after Inside = Inside
stage_after After = After

-- the elements that are open after a start tag
abbrev pub opened : (unclosed : List PlacedToken) → PlacedToken → List PlacedToken
opened unclosed t = if is_empty_tag t then unclosed else unclosed ++ t ∷ []

-- a start tag is read
abbrev pub after_start : State → PlacedToken → State
after_start s t = record {
  unclosed = opened s.unclosed t;
  tags = s.tags ++ t ∷ [];
  stage = stage_of (opened s.unclosed t);
}

-- an end tag is read, which has the name of the innermost element that is unclosed
pub record IsEnd (s : State) (t : PlacedToken) (after : State) : Type 0 where
  pub top : PlacedToken
  pub unclosed : s.unclosed ≡ after.unclosed ++ top ∷ []
  pub name : tag_name top ≡ tag_name t
  pub tag : is_end_tag t ≡ true
  pub tags : after.tags ≡ s.tags
  pub stage : after.stage ≡ stage_of after.unclosed

-- a text may be where it is: outside of the root only white space may
abbrev pub is_text : Stage → PlacedToken → Bool
is_text stage t = if is_inside stage then is_said false (text_of t) else are_blank (text_of t)

-- another token is read
abbrev pub after_other : State → Stage → State
after_other s stage = record {
  unclosed = s.unclosed;
  tags = s.tags;
  stage = stage;
}

-- A token is read after what was read before it. Nothing that is cut off is.
abbrev pub StepOf : TokenKind → State → PlacedToken → (after : State) → Type 0
StepOf StartTag s t after =
    (is_start_tag t ≡ true) × (may_begin s.stage ≡ true) × (after ≡ after_start s t)
StepOf EndTag s t after = IsEnd s t after
StepOf Text s t after = (is_text s.stage t ≡ true) × (after ≡ after_other s (stage_after s.stage))
StepOf Comment s t after = after ≡ after_other s (stage_after s.stage)
StepOf Cdata s t after = (is_inside s.stage ≡ true) × (after ≡ after_other s (stage_after s.stage))
StepOf Doctype s t after = (may_have_type s.stage ≡ true) × (after ≡ after_other s Typed)
StepOf Nothing s t after = true ≡ false
StepOf Cut s t after = true ≡ false

-- before anything is read
abbrev pub begun : State
begun = record {
  unclosed = [];
  tags = [];
  stage = Start;
}

-- From the beginning of a document tokens were read, one after another, and this is left.
pub data Reads (page : List ℕ) : State → (rest : List ℕ) → Type 0 where
  reads_none : Reads page begun page
  reads_one : (s after : State) (text : List ℕ) (t : PlacedToken) → Reads page s text
      → next_token text ≡ Some (t, t.rest) → StepOf t.kind s t after → Reads page after t.rest

-- A document: all of it is read as tokens, whose start tags are these, until its root is closed, and it has only characters that a
-- document may have.
pub record IsDocument (page : List ℕ) (tags : List PlacedToken) : Type 0 where
  pub last : State
  pub read : Reads page last []
  pub ended : last.stage ≡ After
  pub same : last.tags ≡ tags
  pub characters : are_characters page ≡ true
