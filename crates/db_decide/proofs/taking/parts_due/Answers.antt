use Rattle.std.proofs.Common.{List, slice_get, sym, ap, ◌∙◌, subst}
use Rattle.std.specs.Prelude.{Contains}
use Rattle.std.proofs.lemmas.Result.{IfOk-weaker}
use Rattle.eu_name.specs.declared.name.Part.{Part}
use Rattle.token_store.specs.Tokens.{TokenPast, tokens_now, token_names, token_preds, IsNamedAt}
use Rattle.db_decide.proofs.Numbering.{numbered}
use Rattle.db_decide.proofs.taking.parts_due.Goals as goal

pub place_of-place-requires : goal.place_of-place-requires
place_of-place-requires c = subst (λ (past : TokenPast). Contains (token_names (tokens_now past)) c.args.token.now) (sym c.tokens.ensures) c.requires.there

pub returns : goal.returns
returns c =
    let store = c.args.store.now in
    let named = subst (λ (past : TokenPast). IsNamedAt (tokens_now past) c.place_of-place.result c.args.token.now) c.tokens.ensures c.place_of-place.ensures in
    let at = c.in-Some.ensures ∙ ap (λ (past : TokenPast). slice_get (token_preds (tokens_now past)) c.place_of-place.result) c.tokens-2.ensures in
    IfOk-weaker c.numbers_of.result _ _
    (λ numbers all. numbered c.args.model.now store c.is_sound.ensures c.requires.content c.requires.preds c.args.token.now c.place_of-place.result c.in-Some.pred named at
    c.in_ok-parts.parts.items c.in_ok-parts.ensures numbers.items
    (λ part number there. all part number (subst (λ (list : List Part). Contains list part) (sym c.as_slice.ensures.value) there))) c.numbers_of.ensures
