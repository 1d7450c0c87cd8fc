use Rattle.std.proofs.Common.{◌+◌, sym, subst, ap, ◌∙◌, arith}
use Rattle.std.specs.Prelude.{All}
use Rattle.std.proofs.lemmas.Result.{on_ok_weaker}
use Rattle.model_core.specs.Block.{plain_entries}
use Rattle.plan_defs.specs.Terms.{Context}
use Rattle.db_posting.specs.Origins.{content_now}
use Rattle.db_decide.specs.RootItems.{EntriesSay, PostsSaid, CanPostEntry}
use Rattle.db_decide.proofs.Saying.{entries_can, said_in_block}
use Rattle.db_decide.proofs.Seeing.{open_at}
use Rattle.db_decide.proofs.begun.post_in_block.Goals as goal

pub post_entries-requires-clause-can : goal.post_entries-requires-clause-can
post_entries-requires-clause-can c =
    let model = c.args.model.now in
    let store = c.args.store.now in
    let content = content_now store in
    let at = open_at model store c.requires.can.is_content c.args.number c.requires.number in
    let plain = (ap plain_entries c.as_slice.ensures.value ∙ c.block.view_is) ∙ c.block_seen-origin.ensures.entries at.0 at.2.0 at.1 at.2.1 in
    subst (λ (context : Context). All (CanPostEntry store.net.tables content context) c.as_slice.result.now) (sym (c.block_seen-origin.ensures.context at.0 at.1))
    (entries_can model store.net.tables content (c.args.number + 1) c.requires.lawful c.requires.can at.0 at.2.0 (c.args.number, at.1, omega arith) at.2.1 c.as_slice.result.now plain)

pub returns-clause-posted : goal.returns-clause-posted
returns-clause-posted c =
    let model = c.args.model.now in
    let store = c.args.store.now in
    let content = content_now store in
    let at = open_at model store c.requires.can.is_content c.args.number c.requires.number in
    let plain = (ap plain_entries c.as_slice.ensures.value ∙ c.block.view_is) ∙ c.block_seen-origin.ensures.entries at.0 at.2.0 at.1 at.2.1 in
    on_ok_weaker c.post_entries.result
    (λ posted. said_in_block model c.args.root content c.args.number at.0 at.1 at.2.0 at.2.1 c.as_slice.result.now plain store c.post_entries.new.store
    (subst (λ (context : Context). PostsSaid model (λ decisions. EntriesSay model decisions c.args.root context c.as_slice.result.now) store c.post_entries.new.store)
    (c.block_seen-origin.ensures.context at.0 at.1) posted)) c.post_entries.ensures.posted
