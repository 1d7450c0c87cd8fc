-- The rule that was found is the block's, and the way leads to one block in it.
use Rattle.std.proofs.Common.{◌≡◌, ℕ, ◌<◌, List, length, All, sym, ap, subst, ◌∙◌, arith}
use Rattle.std.proofs.lemmas.Result.{IfOk-weaker}
use Rattle.eu_name.specs.declared.name.TokenName.{TokenName}
use Rattle.model_core.specs.declared.rule.Rule.{Rule}
use Rattle.model_core.specs.declared.rule.Turn.{Turn}
use Rattle.model_core.specs.Block.{plain_entries}
use Rattle.model_core.specs.Blocks.{direct}
use Rattle.model_core.specs.Entries.{Entries}
use Rattle.model_core.specs.Lawful.{item_count}
use Rattle.model_core.specs.Numbers.{items_from, rule_items}
use Rattle.rule_engine.specs.declared.block.Additions.{Additions}
use Rattle.rule_engine.specs.Contents.{IsIn, AreOfBlock, AreAdditions}
use Rattle.rule_engine.specs.Lists.{slots_in, locals_in}
use Rattle.rule_engine.specs.Places.{StandFrom, IsNumberIn}
use Rattle.rule_engine.proofs.Limits.{as_many, block_short, block_slots, block_locals}
use Rattle.rule_engine.proofs.Finding.{found_by}
use Rattle.rule_engine.proofs.Turning.{few_inside}
use Rattle.rule_engine.proofs.block.open_block.Goals as goal

-- what is in the block that was found is what the model's block adds
of_block : (token : TokenName) (number first : ℕ) (found rule : Rule) (path : List Turn) (block plain entries : Entries) (additions : Additions) → plain ≡ block → block ≡ entries → found ≡ rule
    → StandFrom (rule_items found) first (items_from path 0 block) → IsIn token number first plain additions
    → AreOfBlock (record { token = token; rule = number; path = path }) rule entries additions
of_block token number first found rule path block plain entries additions view same rules stands inside =
    let whole : IsIn token number first entries additions = subst (λ e. IsIn token number first e additions) (view ∙ same) inside in
    let here : StandFrom (rule_items found) first (items_from path 0 entries) = subst (λ e. StandFrom (rule_items found) first (items_from path 0 e)) same stands in
    record {
      slots = whole.slots;
      locals = whole.locals;
      items = whole.items.places;
      numbers = subst (λ r. All (IsNumberIn (rule_items r) path) additions.items.items) rules (whole.items.numbers (rule_items found) path here);
      branches = whole.branches;
    }

pub block_at-at-requires-clause-few : goal.block_at-at-requires-clause-few
block_at-at-requires-clause-few c =
    let there = c.requires.there in
    let same = c.rule_of-found.ensures there.1.slot there.1.rule there.1.has_token there.1.has_rule in
    let found = found_by c.args.model.now c.args.token.now c.args.rule c.args.path.now there.0 c.rule_of-found.result.now c.requires.lawful there.1 same in
    omega (arith, found.few.items)

pub block_at-at-requires-clause-there : goal.block_at-at-requires-clause-there
block_at-at-requires-clause-there c =
    let there = c.requires.there in
    let same = c.rule_of-found.ensures there.1.slot there.1.rule there.1.has_token there.1.has_rule in
    let found = found_by c.args.model.now c.args.token.now c.args.rule c.args.path.now there.0 c.rule_of-found.result.now c.requires.lawful there.1 same in
    (there.0, found.way)

pub standing_among-requires-clause-few : goal.standing_among-requires-clause-few
standing_among-requires-clause-few c =
    let there = c.requires.there in
    let same = c.rule_of-found.ensures there.1.slot there.1.rule there.1.has_token there.1.has_rule in
    let found = found_by c.args.model.now c.args.token.now c.args.rule c.args.path.now there.0 c.rule_of-found.result.now c.requires.lawful there.1 same in
    omega (
      arith,
      found.few.items,
      ap item_count (ap plain_entries c.as_slice.ensures.value ∙ c.block.view_is),
      few_inside c.rule_of-found.result.now.top c.block_at-at.result.first c.args.path.now c.block_at-at.result.block.now c.block_at-at.ensures.first,
    )

pub standing_among-requires-clause-short : goal.standing_among-requires-clause-short
standing_among-requires-clause-short c =
    let there = c.requires.there in
    let same = c.rule_of-found.ensures there.1.slot there.1.rule there.1.has_token there.1.has_rule in
    let found = found_by c.args.model.now c.args.token.now c.args.rule c.args.path.now there.0 c.rule_of-found.result.now c.requires.lawful there.1 same in
    let is : plain_entries c.as_slice.result.now ≡ there.0 = (ap plain_entries c.as_slice.ensures.value ∙ c.block.view_is) ∙ c.block_at-at.ensures.block there.0 found.way in
    omega (
      arith,
      as_many c.as_slice.result.now,
      ap (λ e. length (direct e)) is,
      block_short c.args.model.now found.pred c.rule_of-found.result.now found.few c.args.path.now there.0 found.way,
    )

pub standing_among-requires-clause-slots : goal.standing_among-requires-clause-slots
standing_among-requires-clause-slots c =
    let there = c.requires.there in
    let same = c.rule_of-found.ensures there.1.slot there.1.rule there.1.has_token there.1.has_rule in
    let found = found_by c.args.model.now c.args.token.now c.args.rule c.args.path.now there.0 c.rule_of-found.result.now c.requires.lawful there.1 same in
    let is : plain_entries c.as_slice.result.now ≡ there.0 = (ap plain_entries c.as_slice.ensures.value ∙ c.block.view_is) ∙ c.block_at-at.ensures.block there.0 found.way in
    subst (λ e. All (λ slot. slot < 65536) (slots_in (direct e))) (sym is)
    (block_slots c.args.model.now found.pred c.rule_of-found.result.now found.few c.args.path.now there.0 found.way)

pub standing_among-requires-clause-locals : goal.standing_among-requires-clause-locals
standing_among-requires-clause-locals c =
    let there = c.requires.there in
    let same = c.rule_of-found.ensures there.1.slot there.1.rule there.1.has_token there.1.has_rule in
    let found = found_by c.args.model.now c.args.token.now c.args.rule c.args.path.now there.0 c.rule_of-found.result.now c.requires.lawful there.1 same in
    let is : plain_entries c.as_slice.result.now ≡ there.0 = (ap plain_entries c.as_slice.ensures.value ∙ c.block.view_is) ∙ c.block_at-at.ensures.block there.0 found.way in
    subst (λ e. All (λ local. local < 65536) (locals_in (direct e))) (sym is)
    (block_locals c.args.model.now found.pred c.rule_of-found.result.now found.few c.args.path.now there.0 found.way)

pub returns : goal.returns
returns c =
    IfOk-weaker c.standing_among.result (IsIn c.args.token.now c.args.rule c.block_at-at.result.first (plain_entries c.as_slice.result.now))
    (AreAdditions c.args.model.now (record { token = c.args.token.now; rule = c.args.rule; path = c.args.path.now }))
    (λ additions inside entries is.
    let same = c.rule_of-found.ensures is.slot is.rule is.has_token is.has_rule in
    let found = found_by c.args.model.now c.args.token.now c.args.rule c.args.path.now entries c.rule_of-found.result.now c.requires.lawful is same in
    of_block c.args.token.now c.args.rule c.block_at-at.result.first c.rule_of-found.result.now is.rule c.args.path.now c.block_at-at.result.block.now (plain_entries c.as_slice.result.now) entries additions
    (ap plain_entries c.as_slice.ensures.value ∙ c.block.view_is) (c.block_at-at.ensures.block entries found.way) same c.block_at-at.ensures.first inside)
    c.standing_among.ensures
