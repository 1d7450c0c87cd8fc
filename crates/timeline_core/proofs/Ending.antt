-- What the ends of two tokens say of the test of closure.
use Rattle.std.proofs.Common.{◌≡◌, sym, subst}
use Rattle.std.specs.Prelude.{◌<ℤ◌}
use Rattle.domain_core.specs.Domain.{least, greatest}
use Rattle.eu_name.specs.declared.name.Part.TheVariants.{Start, End}
use Rattle.eu_name.specs.declared.name.TokenName.{TokenName}
use Rattle.eu_name.specs.declared.name.VarName.TheVariants.{Token}
use Rattle.model_core.specs.State.{State, AreInOrder}
use Rattle.plan_defs.specs.Timelines.{EndsTooLate}
use Rattle.plan_defs.proofs.States.{gives_same}
use Rattle.timeline_core.specs.declared.order.Ends.{Ends}
use Rattle.timeline_core.specs.declared.order.ForcedOrder.{ForcedOrder}
use Rattle.timeline_core.specs.declared.order.ForcedOrder.TheVariants.{Open, First, Second, Neither}
use Rattle.timeline_core.specs.Orders.{Leaves, AreEndsOf, LeavesInStates}

too_late : (state : State) (one other : TokenName) (a b : Ends) → AreEndsOf state one a → AreEndsOf state other b
    → b.start_hi <ℤ a.end_lo → EndsTooLate state one other
too_late state one other a b ones others late = record {
  end = ones.end;
  start = others.start;
  gives_end = ones.gives_end;
  gives_start = others.gives_start;
  late = subst (λ n. n <ℤ least ones.end) others.start_hi (subst (λ n. b.start_hi <ℤ n) ones.end_lo late);
}

not_late : (state : State) (one other : TokenName) (a b : Ends) → AreInOrder state → AreEndsOf state one a → AreEndsOf state other b
    → EndsTooLate state one other → b.start_hi <ℤ a.end_lo
not_late state one other a b order ones others late =
    let end : late.end ≡ ones.end = gives_same state order (Token one End) late.end ones.end late.gives_end ones.gives_end in
    let start : late.start ≡ others.start = gives_same state order (Token other Start) late.start others.start late.gives_start others.gives_start in
    subst (λ n. n <ℤ a.end_lo) (sym others.start_hi) (subst (λ n. greatest others.start <ℤ n) (sym ones.end_lo)
    (subst (λ d. greatest others.start <ℤ least d) end (subst (λ d. greatest d <ℤ least late.end) start late.late)))

pub in_states : (order : ForcedOrder) (a b : Ends) → Leaves order (b.start_hi <ℤ a.end_lo) (a.start_hi <ℤ b.end_lo) → LeavesInStates order a b
in_states Open a b p state one other order ones others =
    (λ late. p.0 (not_late state one other a b order ones others late), λ late. p.1 (not_late state other one b a order others ones late))
in_states First a b p state one other order ones others =
    (λ late. p.0 (not_late state one other a b order ones others late), too_late state other one b a others ones p.1)
in_states Second a b p state one other order ones others =
    (too_late state one other a b ones others p.0, λ late. p.1 (not_late state other one b a order others ones late))
in_states Neither a b p state one other order ones others =
    (too_late state one other a b ones others p.0, too_late state other one b a others ones p.1)
