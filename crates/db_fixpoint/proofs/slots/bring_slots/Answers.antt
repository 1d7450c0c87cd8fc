-- The tokens of the slots are what the block asks for.
use Rattle.std.proofs.Common.{List, sym, ◌∙◌, subst}
use Rattle.std.specs.Prelude.{All}
use Rattle.eu_name.specs.declared.name.TokenName.{TokenName}
use Rattle.model_core.specs.declared.rule.Slot.{Slot}
use Rattle.model_core.specs.Tokens.{HasToken}
use Rattle.db_posting.specs.Origins.{content_now}
use Rattle.db_fixpoint.specs.Reading.{block_named}
use Rattle.db_fixpoint.specs.Unfolding.{AskForTokens, AreAllKnown}
use Rattle.db_fixpoint.proofs.Asking.{slots_are_tokens, slots_asked, slots_there, asked_through}
use Rattle.db_fixpoint.proofs.slots.bring_slots.Goals as goal

pub bring_tokens-requires-clause-there : goal.bring_tokens-requires-clause-there
bring_tokens-requires-clause-there c =
    let there = c.requires.there in
    subst (All (λ (token : TokenName). (slot : Slot) × HasToken c.args.model.now token slot)) (sym (c.as_slice.ensures.value ∙ c.in_ok-names.ensures there.0 there.1))
    (slots_are_tokens c.args.model.now (block_named c.args.store.now c.args.block.now) there.0 c.requires.lawful there.1.is_block)

pub returns-clause-underway : goal.returns-clause-underway
returns-clause-underway c =
    let there = c.requires.there in
    let model = c.args.model.now in
    let old = c.args.store.now in
    let content = content_now old in
    asked_through model (AreAllKnown content) (AskForTokens model content c.as_slice.result.now) old old c.bring_tokens.new.store
    (λ followed decisions unfolded due under known. under)
    (λ followed decisions unfolded due under known. subst (λ (list : List TokenName). AskForTokens model content list decisions)
    (sym (c.as_slice.ensures.value ∙ c.in_ok-names.ensures there.0 there.1))
    (slots_asked model followed decisions old unfolded due c.args.block.now there.0 under there.1 known))
    c.bring_tokens.result c.bring_tokens.ensures.underway

pub returns-clause-there : goal.returns-clause-there
returns-clause-there c =
    slots_there c.args.model.now c.args.store.now c.bring_tokens.new.store c.args.block.now c.as_slice.result.now
    (λ entries stand. c.as_slice.ensures.value ∙ c.in_ok-names.ensures entries stand) c.bring_tokens.result c.bring_tokens.ensures.there
