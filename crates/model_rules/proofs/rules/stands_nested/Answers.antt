use Rattle.std.proofs.Common.{ℕ, [], sym, subst}
use Rattle.model_core.specs.Entries.{Entries}
use Rattle.model_typing.proofs.Telling.{ok_as, told_false, told_not}
use Rattle.model_rules.specs.declared.numbers.Sort.TheVariants.{Slots, Locals}
use Rattle.model_rules.specs.Nested.{IsLawfulBlock}
use Rattle.model_rules.specs.Numbered.{AreOnce, numbers_of}
use Rattle.model_rules.specs.Rules.{StandsNested}
use Rattle.model_rules.proofs.rules.stands_nested.Goals as goal

pub returns-then-not-slots : goal.returns-then-not-slots
returns-then-not-slots c = told_not _ (λ nested.
    let once : ℕ → Type 0 = λ n. AreOnce n (numbers_of Slots c.args.judge.rule.now.top) in
    told_false c.in_ok-slots.slots _ c.if-not-slots.true c.in_ok-slots.ensures (subst once (sym c.len.ensures) nested.slots))

pub returns-then-not-locals : goal.returns-then-not-locals
returns-then-not-locals c = told_not _ (λ nested.
    let once : ℕ → Type 0 = λ n. AreOnce n (numbers_of Locals c.args.judge.rule.now.top) in
    told_false c.in_ok-locals.locals _ c.if-not-locals.true c.in_ok-locals.ensures (subst once (sym c.len-2.ensures) nested.locals))

pub returns : goal.returns
returns c =
    let block : Entries → Type 0 = λ b. IsLawfulBlock c.args.judge.model.now c.args.judge.pred c.args.judge.rule.now 0 [] b in
    let slots_once : ℕ → Type 0 = λ n. AreOnce n (numbers_of Slots c.args.judge.rule.now.top) in
    let locals_once : ℕ → Type 0 = λ n. AreOnce n (numbers_of Locals c.args.judge.rule.now.top) in
    ok_as c.is_lawful_block.result (block _) (StandsNested c.args.judge.model.now c.args.judge.pred c.args.judge.rule.now)
    (λ lawful. record {
      slots = subst slots_once c.len.ensures (c.in_ok-slots.ensures.0 c.if-not-slots.false);
      locals = subst locals_once c.len-2.ensures (c.in_ok-locals.ensures.0 c.if-not-locals.false);
      blocks = subst block c.contents.ensures lawful;
    })
    (λ nested. subst block (sym c.contents.ensures) nested.blocks) c.is_lawful_block.ensures
