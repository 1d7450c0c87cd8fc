use Rattle.std.proofs.Common.{[], inr, refl, sym}
use Rattle.std.proofs.lemmas.List.{append-nil}
use Rattle.db_refusals.proofs.Told.{isnt}
use Rattle.db_edges.proofs.lasting.lasting.Goals as goal

pub returns-then-not-is_active : goal.returns-then-not-is_active
returns-then-not-is_active g c = ([], inr (isnt c.if-not-is_active.ensures, refl), sym (append-nil c.args.edges.now.items))
