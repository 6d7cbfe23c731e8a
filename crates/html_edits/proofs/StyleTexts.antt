-- A text that is read as the text of a `style` to its end does not end the element.
use Rattle.std.proofs.Common.{◌≡◌, ℕ, Bool, true, false, ◌==◌, if◌then◌else◌, List, [], ◌∷◌, length, drop, Some, refl, subst}
use Rattle.css_html.specs.Tokens.{PlacedToken, whole, tag_end, tag_from, token_from, next_token, with_rest}
use Rattle.css_html.specs.Attributes.{past_attributes}
use Rattle.css_text.specs.Bytes.{past}
use Rattle.css_html.specs.Marks.{is_in_name, from_end_tag}
use Rattle.css_html.specs.Modes.{letters_of}
use Rattle.css_html.specs.Written.{HasNoEnd}
use Rattle.css_html.specs.declared.modes.RawName.TheVariants.{Style}
use Rattle.css_html.specs.declared.tokenizer.TokenKind.TheVariants.{Text, EndTag}
use Rattle.html_edits.specs.Placing.{is_text, after_text, from_style_end}

end-no_text : (from name name_end end : List ℕ) → is_text (tag_end EndTag from name name_end end).kind ≡ false
end-no_text from name name_end [] = refl
end-no_text from name name_end (b ∷ rest) = refl

tag-no_text : (from name : List ℕ) → is_text (tag_from EndTag from name).kind ≡ false
unfolding tag_from
tag-no_text from name =
    end-no_text from name (past is_in_name name) (past_attributes (past is_in_name name))

-- a text with a byte, of which a raw token is read
raw-left : (b : ℕ) (text end : List ℕ) (same : Bool)
    → after_text (b ∷ text) (Some (with_rest
    (if same then tag_from EndTag (b ∷ text) (drop 2 (b ∷ text)) else whole Text (b ∷ text) end))) ≡ []
    → end ≡ []
raw-left b text end true e =
    let t : PlacedToken = tag_from EndTag (b ∷ text) (drop 2 (b ∷ text)) in
    let P : Bool → Type 0 = λ k. (if k then t.rest else b ∷ text) ≡ [] in
    let h : (b ∷ text) ≡ [] = subst P (tag-no_text (b ∷ text) (drop 2 (b ∷ text))) e in
    cc
raw-left b text end false e = e

pub no_end : (text : List ℕ) → from_style_end text ≡ [] → HasNoEnd (letters_of Style) text
unfolding next_token token_from from_end_tag
no_end [] e = refl
no_end (b ∷ text) e =
    raw-left b text (from_end_tag (letters_of Style) (b ∷ text))
    (length (from_end_tag (letters_of Style) (b ∷ text)) == length (b ∷ text)) e
