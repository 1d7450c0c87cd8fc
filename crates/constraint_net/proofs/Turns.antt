-- Narrowing one constraint that waits is a step for all of them, and such steps together are propagation.
use Rattle.std.proofs.Common.{◌≡◌, ℕ, zero, suc, ◌+◌, ◌*◌, ◌<◌, ◌≤◌, List, [], ◌∷◌, length, get_or, Some, slice_get, ◌⊎◌, inl, inr, sym, ap, ◌∙◌, subst, arith}
use Rattle.std.specs.declared.alloc.AllocError.{AllocError}
use Rattle.std.specs.Prelude.{Contains, sum_by, Option, None, MatchOption, Result, Ok, Err, IsErr, IsErrAnd}
use Rattle.std.proofs.lemmas.Option.{slice_get_within, slice_get-get_or, get_or_from_slice_get}
use Rattle.std.proofs.lemmas.Nat.{mul-add-lt}
use Rattle.domain_core.specs.Domain.{Domain, slack}
use Rattle.domain_core.specs.declared.Change.{Change}
use Rattle.domain_core.specs.declared.Change.TheVariants.{Same, Smaller, Empty}
use Rattle.narrow_core.specs.Laws.{LieWithin}
use Rattle.narrow_core.specs.declared.field.Field.{Field}
use Rattle.constraint_net.specs.Agendas.{Waits}
use Rattle.constraint_net.specs.Networks.{IsConsistent, AllConsistent}
use Rattle.constraint_net.specs.Queues.{Queued, IsForemost}
use Rattle.constraint_net.specs.Waiting.{IsConsistentAt, WerePosted, NameWithin, IsKeptAgenda}
use Rattle.constraint_net.specs.Steps.{FitWithin, Advances, AdvancesTo, StepsTo, PropagatesTo}
use Rattle.constraint_net.specs.declared.agenda.Agenda.{Agenda}
use Rattle.constraint_net.specs.declared.constraint.Constraint.{Constraint}
use Rattle.constraint_net.specs.declared.NetFault.{NetFault}
use Rattle.constraint_net.specs.declared.NetFault.TheVariants.{Collapsed, Memory}
use Rattle.constraint_net.proofs.Within.{within_length}
use Rattle.constraint_net.proofs.Advancing.{advances_trans, advances_same, advances_weaker, fit_weaker}

-- ---- all constraints, and the one of a number

module _ (tables : List Field) (constraints : List Constraint) where
  abbrev all : List Domain → Type 0
  all = AllConsistent tables constraints

  pub all_at : (number : ℕ) (domains : List Domain) → all domains → IsConsistentAt tables constraints number domains
  all_at number domains each constraint found =
      subst (λ x. IsConsistent tables x domains) (get_or_from_slice_get constraints number constraint constraint found) (each number constraint (slice_get_within constraints number constraint found))

  pub all_from_each : (domains : List Domain) → ((number : ℕ) → IsConsistentAt tables constraints number domains) → all domains
  all_from_each domains each number d below = each number (get_or constraints number d) (slice_get-get_or constraints number d below)

  -- a step for one is a step for all, but that not all are consistent where it is
  pub advances_all : (number : ℕ) (old new : List Domain) → Advances (IsConsistentAt tables constraints number) old new → Advances all old new
  advances_all number old new p = advances_weaker (IsConsistentAt tables constraints number) all old new (all_at number) p

  pub none_at : (number : ℕ) (old : List Domain) → ((below : List Domain) → FitWithin (IsConsistentAt tables constraints number) old below → ⊥) → (below : List Domain) → FitWithin all old below → ⊥
  none_at number old none below fit = none below (fit_weaker (IsConsistentAt tables constraints number) all old below (all_at number) fit)

  -- where none waits all are consistent
  pub all_propagated : (domains : List Domain) (agenda : Agenda) → IsKeptAgenda tables constraints domains agenda → agenda.waiting.items ≡ [] → all domains
  all_propagated domains agenda kept empty = all_from_each domains (λ number. elim (kept.covered number) [
    | inl waits ↦ absurd (omega (arith, waits.1, ap length empty))
    | inr is ↦ is
  ])

-- ---- passes, one after another

-- constraints that could be posted still can where there are as many variables
pub still_posted : (tables : List Field) (constraints : List Constraint) (old new : List Domain) → LieWithin new old → WerePosted tables (length old) constraints → WerePosted tables (length new) constraints
still_posted tables constraints old new within posted = subst (λ count. WerePosted tables count constraints) (sym (within_length new old within)) posted

-- the variables that they name exist
pub named : (tables : List Field) (count : ℕ) (constraints : List Constraint) → WerePosted tables count constraints → NameWithin count constraints
named tables count constraints posted = λ k d below. (posted k d below).arguments

module _ (fits : List Domain → Type 0) (old middle new : List Domain) (so_far : Advances fits old middle) where
  pub goes_down : Advances fits middle new → Advances fits old new
  goes_down p = advances_trans fits fits fits old middle new (λ domains fit. (fit, fit)) so_far p

  -- domains that fit in the old ones are in those that are reached
  pub reached : (below : List Domain) → FitWithin fits old below → FitWithin fits middle below
  reached below fit = record { are = fit.are; within = so_far.keeps below fit; fit = fit.fit }

  pub goes_on : (change : Change) → change ≡ Smaller → AdvancesTo fits middle change new → Advances fits old new
  goes_on Same is p = absurd (cc)
  goes_on Smaller is p = goes_down p.0
  goes_on Empty is p = absurd (cc)

  pub falls : (change : Change) → change ≡ Smaller → AdvancesTo fits middle change new → sum_by slack new < sum_by slack middle
  falls Same is p = absurd (cc)
  falls Smaller is p = p.1
  falls Empty is p = absurd (cc)

  pub propagated : (change : Change) → change ≡ Same → AdvancesTo fits middle change new → Advances fits old new × fits new
  propagated Same is p = (subst (Advances fits old) (sym p.0) so_far, subst fits (sym p.0) p.1)
  propagated Smaller is p = absurd (cc)
  propagated Empty is p = absurd (cc)

  pub collapsed : (change : Change) → change ≡ Empty → AdvancesTo fits middle change new → Advances fits old new × ((below : List Domain) → FitWithin fits old below → ⊥)
  collapsed Same is p = absurd (cc)
  collapsed Smaller is p = absurd (cc)
  collapsed Empty is p = (goes_down p.0, λ below fit. p.1 below (reached below fit))

  -- where memory has run out
  pub ran_out : (result : Result (Unit {0}) NetFault) → IsErr result → IsErrAnd result (λ fault. fault ≡ Memory) → Advances fits middle new → PropagatesTo fits old result new
  ran_out (Ok done) failed is p = absurd (cc failed)
  ran_out (Err Collapsed) failed is p = absurd (cc is)
  ran_out (Err Memory) failed is p = goes_down p

-- ---- one turn of the loop

module _ (tables : List Field) (constraints : List Constraint) (number : ℕ) (start old new : List Domain) (so_far : Advances (AllConsistent tables constraints) start old) where
  abbrev fits : List Domain → Type 0
  fits = AllConsistent tables constraints

  -- the constraint took something
  pub turned : (change : Change) → change ≡ Smaller → AdvancesTo (IsConsistentAt tables constraints number) old change new → Advances fits start new × (sum_by slack new < sum_by slack old)
  turned Same is p = absurd (cc)
  turned Smaller is p = (goes_down fits start old new so_far (advances_all tables constraints number old new p.0), p.1)
  turned Empty is p = absurd (cc)

  -- the constraint was consistent
  pub was_consistent : (change : Change) → change ≡ Same → AdvancesTo (IsConsistentAt tables constraints number) old change new → (new ≡ old) × IsConsistentAt tables constraints number old
  was_consistent Same is p = p
  was_consistent Smaller is p = absurd (cc)
  was_consistent Empty is p = absurd (cc)

  pub turned_empty : (change : Change) → change ≡ Empty → AdvancesTo (IsConsistentAt tables constraints number) old change new → Advances fits start new × ((below : List Domain) → FitWithin fits start below → ⊥)
  turned_empty Same is p = absurd (cc)
  turned_empty Smaller is p = absurd (cc)
  turned_empty Empty is p = (
    goes_down fits start old new so_far (advances_all tables constraints number old new p.0),
    λ below fit. none_at tables constraints number old p.1 below (reached fits start old new so_far below fit),
  )

  pub turned_out : (result : Result (Unit {0}) NetFault) → IsErr result → IsErrAnd result (λ fault. fault ≡ Memory) → Advances (IsConsistentAt tables constraints number) old new → PropagatesTo fits start result new
  turned_out result failed is p = ran_out fits start old new so_far result failed is (advances_all tables constraints number old new p)

-- the first number was taken off, and the others are there
pub taken_off : (number : ℕ) (old middle new : Queued) (result : Option ℕ) → IsForemost number old → middle ≡ old → MatchOption result ((middle.items ≡ []) × (new ≡ middle)) (λ first. middle.items ≡ first ∷ new.items)
    → (length new.items < length old.items) × ((other : ℕ) → Contains middle.items other → (other ≡ number) ⊎ Contains new.items other)
taken_off number old middle new None first same took =
    absurd (let bad : [] ≡ number ∷ first.0 = sym took.0 ∙ ap (λ (q : Queued). q.items) same ∙ first.1 in omega (arith, ap length bad))
taken_off number old middle new (Some one) first same took = (
  omega (arith, ap length took, ap (λ (q : Queued). length q.items) same),
  λ other member. cases other (subst (λ list. Contains list other) took member),
)
  where
    head : one ≡ number
    head = ap (λ list. get_or list 0 number) (sym took ∙ ap (λ (q : Queued). q.items) same ∙ first.1)

    cases : (other : ℕ) → Contains (one ∷ new.items) other → (other ≡ number) ⊎ Contains new.items other
    cases other (zero, below, at) = inl (sym at ∙ head)
    cases other (suc k, below, at) = inr (k, omega (arith, below), at)

-- the constraint that is consistent needn't wait
pub kept_taken : (tables : List Field) (constraints : List Constraint) (domains : List Domain) (number : ℕ) (old new : Agenda) → IsKeptAgenda tables constraints domains old → IsConsistentAt tables constraints number domains
    → new.watchers ≡ old.watchers → new.changed ≡ old.changed → new.waiting.room ≡ old.waiting.room → ((other : ℕ) → Waits old other → (other ≡ number) ⊎ Waits new other)
    → IsKeptAgenda tables constraints domains new
kept_taken tables constraints domains number old new kept is watchers changed room others = record {
  variables = record { watchers = omega (arith, kept.variables.watchers, ap length watchers); changed = omega (arith, kept.variables.changed, ap (λ (q : Queued). q.room) changed) };
  room = omega (arith, kept.room, room);
  watched = λ at constraint found variable member. subst (λ lists. Contains (get_or lists variable []) at) (sym watchers) (kept.watched at constraint found variable member);
  covered = λ at. elim (kept.covered at) [
    | inr consistent ↦ inr consistent
    | inl waits ↦ elim (others at waits) [
      | inl same ↦ inr (subst (λ n. IsConsistentAt tables constraints n domains) (sym same) is)
      | inr waits_on ↦ inl waits_on
    ]
  ];
}

-- the measure of the loop: the slack counts as many times as constraints can wait, and one time more
pub less_slack : (room before after slack_before slack_after : ℕ) → slack_after < slack_before → after ≤ room → slack_after * (room + 1) + after < slack_before * (room + 1) + before
less_slack room before after slack_before slack_after less low =
    let below : slack_after * (room + 1) + after < (room + 1) * slack_before = mul-add-lt slack_after (room + 1) after slack_before less (omega (arith, low)) in
    omega (arith, below)

pub fewer_wait : (room slack_after slack_before before after : ℕ) → slack_after ≡ slack_before → after < before → slack_after * (room + 1) + after < slack_before * (room + 1) + before
fewer_wait room slack_after slack_before before after same less = subst (λ slack. slack_after * (room + 1) + after < slack * (room + 1) + before) same (omega (arith, less))

-- a step for a constraint is one for its number
pub number_steps : (tables : List Field) (constraints : List Constraint) (number : ℕ) (constraint : Constraint) (old new : List Domain) (result : Result Change AllocError) → Some constraint ≡ slice_get constraints number
    → StepsTo (IsConsistent tables constraint) old result new → StepsTo (IsConsistentAt tables constraints number) old result new
number_steps tables constraints number constraint old new (Ok change) found step =
    advances_same (IsConsistent tables constraint) (IsConsistentAt tables constraints number) old new change (λ domains fit. fit constraint (sym found))
    (λ domains fit other also. subst (λ x. IsConsistent tables x domains) (let e : Some constraint ≡ Some other = found ∙ also in cc e) fit) step
number_steps tables constraints number constraint old new (Err none) found step =
    advances_weaker (IsConsistent tables constraint) (IsConsistentAt tables constraints number) old new (λ domains fit. fit constraint (sym found)) step
