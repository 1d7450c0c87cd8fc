use Rattle.std.proofs.Common.{slice_get, sym, ap, ◌∙◌, subst}
use Rattle.std.specs.Prelude.{List}
use Rattle.std.proofs.lemmas.Result.{on_ok_weaker}
use Rattle.eu_name.specs.declared.name.Part.{Part}
use Rattle.token_store.specs.Tokens.{TokenPast, tokens_now, token_preds}
use Rattle.db_posting.specs.Origins.{content_now}
use Rattle.db_posting.specs.Posted.{PostsClaims}
use Rattle.db_decide.specs.Merging.{HasPartsAt, ClaimsSamePart}
use Rattle.db_decide.proofs.Sharing.{one_has, other_has, shares_all}
use Rattle.db_decide.proofs.merge.post_merged.Goals as goal

pub post_same_parts-requires-clause-one : goal.post_same_parts-requires-clause-one
post_same_parts-requires-clause-one c =
    let store = c.args.store.now in
    let at = c.in-Some.ensures ∙ ap (λ (past : TokenPast). slice_get (token_preds (tokens_now past)) c.args.one) c.tokens.ensures in
    subst (HasPartsAt store c.args.one) (sym c.as_slice.ensures.value)
    (one_has c.args.model.now store c.requires.content c.requires.preds c.args.one c.args.other c.in-Some.pred c.requires.one c.requires.other at c.requires.alike c.in_ok-parts.parts.items c.in_ok-parts.ensures)

pub post_same_parts-requires-clause-other : goal.post_same_parts-requires-clause-other
post_same_parts-requires-clause-other c =
    let store = c.args.store.now in
    let at = c.in-Some.ensures ∙ ap (λ (past : TokenPast). slice_get (token_preds (tokens_now past)) c.args.one) c.tokens.ensures in
    subst (HasPartsAt store c.args.other) (sym c.as_slice.ensures.value)
    (other_has c.args.model.now store c.requires.content c.requires.preds c.args.one c.args.other c.in-Some.pred c.requires.one c.requires.other at c.requires.alike c.in_ok-parts.parts.items c.in_ok-parts.ensures)

pub returns-clause-posted : goal.returns-clause-posted
returns-clause-posted c =
    let store = c.args.store.now in
    let content = content_now store in
    let at = c.in-Some.ensures ∙ ap (λ (past : TokenPast). slice_get (token_preds (tokens_now past)) c.args.one) c.tokens.ensures in
    on_ok_weaker c.post_same_parts.result
    (λ posted. shares_all c.args.model.now store c.requires.content c.requires.preds c.args.one c.args.other c.in-Some.pred c.requires.one c.requires.other at c.requires.alike
    c.in_ok-parts.parts.items c.in_ok-parts.ensures c.post_same_parts.new.store.net.constraints
    (subst (λ (parts : List Part). PostsClaims content.names (ClaimsSamePart content.tokens c.args.one c.args.other parts) store.net.constraints c.post_same_parts.new.store.net.constraints)
    c.as_slice.ensures.value posted)) c.post_same_parts.ensures.posted
