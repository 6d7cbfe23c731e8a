use Rattle.std.proofs.Common.{◌≡◌, ◌∙◌, ◌++◌, sym, ap, rules, string_bytes, subst, OnOk, false}
use Rattle.css_syntax.specs.TokenViews.{token_of}
use Rattle.css_syntax.specs.declared.tokenizer.TokenKind.TheVariants as kinds
use Rattle.clean_values.specs.Values.{inside_of}
use Rattle.clean_values.specs.Urls.{urls_text, url_by, url_spelled, string_url}
use Rattle.clean_values.proofs.ValueLemmas.{by-url, by-string, by-other, urls-none}
use Rattle.clean_values.proofs.urls.push_url.Goals as goal

pub returns-in-Url : goal.returns-in-Url
returns-in-Url c =
    let kind = c.args.token.now.kind in
    let inside = inside_of (token_of c.args.token.now) in
    let e : kind ≡ kinds.Url = search rules in
    let same : c.inside.result.now ≡ inside = search rules in
    subst (λ one. OnOk c.push_spelled.result
    (string_bytes c.push_spelled.new.out ≡ string_bytes c.args.out.now ++ urls_text one))
    (ap (url_spelled false) same ∙ sym (by-url c.args.strings kind inside e)) c.push_spelled.ensures

pub returns-in-String : goal.returns-in-String
returns-in-String c =
    let kind = c.args.token.now.kind in
    let inside = inside_of (token_of c.args.token.now) in
    let e : kind ≡ kinds.String = search rules in
    let same : c.inside-in-String.result.now ≡ inside = search rules in
    subst (λ one. OnOk c.push_string.result
    (string_bytes c.push_string.new.out ≡ string_bytes c.args.out.now ++ urls_text one))
    (ap (string_url c.args.strings) same ∙ sym (by-string c.args.strings kind inside e)) c.push_string.ensures

pub returns-in_default : goal.returns-in_default
returns-in_default c =
    let kind = c.args.token.now.kind in
    let inside = inside_of (token_of c.args.token.now) in
    urls-none (string_bytes c.args.out.now) (url_by c.args.strings kind inside)
    (by-other c.args.strings kind inside c.in_default.not-Url c.in_default.not-String)
