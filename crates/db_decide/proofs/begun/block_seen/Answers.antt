use Rattle.std.proofs.Common.{length, slice_get, refl, sym, ap, ◌∙◌, subst}
use Rattle.token_store.specs.Tokens.{TokenPast, tokens_now, token_names}
use Rattle.db_posting.specs.Origins.{content_now, origin_context, IsOriginBelow}
use Rattle.db_opening.proofs.Opening.{named_at}
use Rattle.db_decide.proofs.Seeing.{seen_below, seen_there, seen_context, seen_block}
use Rattle.db_decide.proofs.begun.block_seen.Goals as goal

pub seen-requires-clause-there : goal.seen-requires-clause-there
seen-requires-clause-there c =
    let store = c.args.store.now in
    let found = c.in-Some.found.now in
    let of = named_at (token_names (tokens_now store.past)) found.token c.in-Some-name.token.now
    (c.in-Some-name.ensures ∙ ap (λ (past : TokenPast). slice_get (token_names (tokens_now past)) found.token) c.tokens.ensures) in
    seen_there c.args.model.now store c.requires.content c.args.number found (sym c.in-Some.ensures) c.in-Some-name.token.now found.path of refl

pub returns-clause-below : goal.returns-clause-below
returns-clause-below c =
    let store = c.args.store.now in
    subst (IsOriginBelow (length (tokens_now store.past))) (sym c.seen.ensures.origin)
    (seen_below store c.is_sound.ensures c.args.number c.in-Some.found.now (sym c.in-Some.ensures))

pub returns-clause-context : goal.returns-clause-context
returns-clause-context c = λ block here.
    let store = c.args.store.now in
    ap (origin_context (content_now store).tokens) c.seen.ensures.origin
    ∙ seen_context c.args.model.now store c.requires.content c.args.number c.in-Some.found.now (sym c.in-Some.ensures) block here

pub returns-clause-entries : goal.returns-clause-entries
returns-clause-entries c = λ block entries here has.
    let store = c.args.store.now in
    let found = c.in-Some.found.now in
    let of = named_at (token_names (tokens_now store.past)) found.token c.in-Some-name.token.now
    (c.in-Some-name.ensures ∙ ap (λ (past : TokenPast). slice_get (token_names (tokens_now past)) found.token) c.tokens.ensures) in
    c.seen.ensures.block entries
    (seen_block c.args.model.now store c.requires.content c.args.number found (sym c.in-Some.ensures) c.in-Some-name.token.now found.path of refl block entries here has)
