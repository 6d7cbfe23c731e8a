use Rattle.std.proofs.Common.{◌≡◌, ◌++◌, [], List, map, append_assoc, append-nil, length, sym, ap, ◌∙◌, arith, rules}
use Rattle.css_text.proofs.reading.EachLemmas.{took}
use Rattle.css_syntax.specs.TokenLists.{tokens, next_token}
use Rattle.css_syntax.specs.NameLists.{PlacedName, names_from, after_token}
use Rattle.css_syntax.specs.NameViews.{name_of, scan_of}
use Rattle.css_syntax.specs.TokenViews.{token_of}
use Rattle.css_syntax.proofs.TokenSteps.{next_token-takes}
use Rattle.css_syntax.proofs.NameSteps.{depth-after, found-then, names-none}
use Rattle.css_syntax.proofs.names.read_names.Goals as goal

pub tokens-smaller : goal.tokens-smaller
tokens-smaller c =
    took next_token next_token-takes c.tokens.rest.now c.in-Some.token.rest.now
    (token_of c.in-Some.token) c.in-Some.ensures

pub tokens-preserved : goal.tokens-preserved
tokens-preserved c =
    let s = scan_of c.tokens.scanned in
    let t = token_of c.in-Some.token in
    record {
      so_far = found-then _ _ _ s _ c.tokens.rest.now c.in-Some.token.rest.now t _
          c.tokens.invariant.so_far c.in-Some.ensures c.name_in.ensures c.after_token-scanned.ensures
          c.in_ok-push_found.ensures;
      shallow = omega (
        arith,
        c.tokens.invariant.shallow,
        depth-after s t,
        ap (λ x. x.depth) c.after_token-scanned.ensures,
        took next_token next_token-takes c.tokens.rest.now c.in-Some.token.rest.now t c.in-Some.ensures,
      );
    }

pub returns : goal.returns
returns c =
    sym (append-nil (map name_of c.tokens.found.items))
    ∙ ap (λ (l : List PlacedName). map name_of c.tokens.found.items ++ l)
    (sym (names-none (scan_of c.tokens.scanned) c.tokens.rest.now c.in_default.ensures))
    ∙ c.tokens.invariant.so_far
