-- A turn more.
use Rattle.std.proofs.Common.{◌≡◌, ℕ, ◌+◌, ◌<◌, List, [], ◌∷◌, length, drop, take, get_or, sym, subst, add-one, drop-cons, arith}
use Rattle.std.proofs.lemmas.List.{take_more}
use Rattle.model_core.specs.declared.rule.Side.TheVariants.{Then}
use Rattle.model_core.specs.declared.rule.Turn.{Turn}
use Rattle.model_core.specs.Entries.{Entries}
use Rattle.model_core.specs.Numbers.{items_from}
use Rattle.model_core.specs.Standing.{LeadsToBlock}
use Rattle.rule_engine.specs.Places.{StandFrom}
use Rattle.rule_engine.proofs.Turning.{few_inside, stand_all}
use Rattle.rule_engine.proofs.block.block_at.Goals as goal

-- what is left of the way begins with the next turn
next_turn : (path : List Turn) (i : ℕ) (d : Turn) (from block : Entries) → i < length path → LeadsToBlock from (drop i path) block → LeadsToBlock from (get_or path i d ∷ drop (i + 1) path) block
next_turn path i d from block within way =
    let same : drop i path ≡ get_or path i d ∷ drop (i + 1) path = rw add-one (drop-cons path i d within) in
    subst (λ p. LeadsToBlock from p block) same way

pub loop-turn-init : goal.loop-turn-init
loop-turn-init c = (λ block way. way, stand_all (items_from [] 0 c.args.top.now))

pub turn_into-at-requires-clause-few : goal.turn_into-at-requires-clause-few
turn_into-at-requires-clause-few c =
    omega (arith, c.requires.few, few_inside c.args.top.now c.loop-turn.at.first (take c.loop-turn.turn-index c.args.path.now) c.loop-turn.at.block.now c.loop-turn.invariant.1)

pub turn_into-at-requires-clause-branch : goal.turn_into-at-requires-clause-branch
turn_into-at-requires-clause-branch c =
    let there = c.requires.there in
    let way = next_turn c.args.path.now c.loop-turn.turn-index (record { entry = 0; side = Then }) c.loop-turn.at.block.now there.0 (omega arith) (c.loop-turn.invariant.0 there.0 there.1) in
    (way.0, (way.1.0, way.1.1, way.1.2.0))

pub loop-turn-preserved : goal.loop-turn-preserved
loop-turn-preserved c =
    let d : Turn = record { entry = 0; side = Then } in
    let path = c.args.path.now in
    let i = c.loop-turn.turn-index in (
      λ block leads.
          let way = next_turn path i d c.loop-turn.at.block.now block (omega arith) (c.loop-turn.invariant.0 block leads) in
          subst (λ b. LeadsToBlock b (drop (i + 1) path) block) (sym (c.turn_into-at.ensures.block way.0 way.1.0 way.1.1 way.1.2.0)) way.1.2.1.1,
      subst (λ p. StandFrom (items_from [] 0 c.args.top.now) c.turn_into-at.result.first (items_from p 0 c.turn_into-at.result.block.now)) (sym (take_more path i d (omega arith)))
          (c.turn_into-at.ensures.first (items_from [] 0 c.args.top.now) (take i path) c.loop-turn.invariant.1),
    )
