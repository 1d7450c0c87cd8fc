use Rattle.std.proofs.Common.{Some, sym, ap, ◌∙◌}
use Rattle.db_fixpoint.proofs.Claimed.{ok_then}
use Rattle.db_fixpoint.proofs.Heeding.{way_times, owner_below, turns_keep}
use Rattle.db_fixpoint.proofs.looking.look_at_owner.Goals as goal

pub look_at_turns-requires-clause-times : goal.look_at_turns-requires-clause-times
look_at_turns-requires-clause-times c = λ other below. way_times c.args.model.now c.args.store.now c.args.unfolded c.requires.way other below

pub look_at_turns-requires-clause-place : goal.look_at_turns-requires-clause-place
look_at_turns-requires-clause-place c =
    owner_below c.args.store.now c.is_sound.ensures c.args.variable c.in-Some-Part.place c.in-Some-Part.part
    (sym c.key_at.ensures ∙ c.in-Some-Part.is ∙ ap Some c.in-Some-Part.field-0-is)

pub returns-then-tells_turns-clause-way : goal.returns-then-tells_turns-clause-way
returns-then-tells_turns-clause-way c =
    ok_then c.look_at_turns.result (λ turns. turns_keep c.args.model.now c.in-Some-Part.place c.args.store.now c.look_at_turns.new.store c.look_at_turns.ensures.only turns) c.look_at_turns.ensures.turns
