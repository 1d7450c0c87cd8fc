use Rattle.std.proofs.Common.{List, Option, ℕ, sym, subst}
use Rattle.std.specs.Prelude.{Contains}
use Rattle.db_store.specs.declared.store.Mark.{Mark}
use Rattle.db_fixpoint.specs.Seating.{SeatsSince}
use Rattle.db_fixpoint.proofs.Claimed.{ok_then}
use Rattle.db_fixpoint.proofs.seating.seat_since.Goals as goal

pub returns-in_ok-touched-in-Some-clause-ok : goal.returns-in_ok-touched-in-Some-clause-ok
returns-in_ok-touched-in-Some-clause-ok c =
    ok_then c.seat_these.result (λ these.
    subst (λ (mark : Option Mark). SeatsSince c.args.store.now mark c.seat_these.new.seats) (sym c.in-Some.is) (
      c.in_ok-touched-in-Some.touched.items,
      c.in_ok-touched-in-Some.ensures,
      λ number there. these number (subst (λ (list : List ℕ). Contains list number) (sym c.as_slice.ensures.value) there),
    )) c.seat_these.ensures.ok
