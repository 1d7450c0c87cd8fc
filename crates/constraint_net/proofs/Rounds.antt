-- What each turn of propagation carries on, whatever it answers.
use Rattle.std.proofs.Common.{ℕ, List, length}
use Rattle.std.specs.Prelude.{Result}
use Rattle.std.specs.declared.alloc.AllocError.{AllocError}
use Rattle.domain_core.specs.declared.Change.{Change}
use Rattle.narrow_core.specs.declared.field.Field.{Field}
use Rattle.cell_store.specs.Cells.{Celled, present}
use Rattle.constraint_net.specs.Agendas.{Alerts}
use Rattle.constraint_net.specs.Calls.{Notes}
use Rattle.constraint_net.specs.Moves.{Sinks}
use Rattle.constraint_net.specs.Networks.{AllConsistent}
use Rattle.constraint_net.specs.Steps.{Advances, StepsTo}
use Rattle.constraint_net.specs.Waiting.{IsConsistentAt, WerePosted, IsKeptAgenda}
use Rattle.constraint_net.specs.declared.agenda.Agenda.{Agenda}
use Rattle.constraint_net.specs.declared.constraint.Constraint.{Constraint}
use Rattle.constraint_net.proofs.Advancing.{steps_length}
use Rattle.constraint_net.proofs.Alerting.{kept_step, notes_step}
use Rattle.constraint_net.proofs.Moving.{sinks_trans}
use Rattle.constraint_net.proofs.Turns.{still_posted}

pub record Carried (tables : List Field) (constraints : List Constraint) (since : ℕ) (start : Celled) (noted : List ℕ) (cells : Celled) (agenda : Agenda) : Type 0 where
  pub sinks : Sinks since start cells
  pub kept : IsKeptAgenda tables constraints (present cells) agenda
  pub notes : Notes (present start) (present cells) noted agenda.changed.items

pub carried_on : (tables : List Field) (constraints : List Constraint) (number since : ℕ) (start old new : Celled) (noted : List ℕ) (before after : Agenda) (result : Result Change AllocError)
    → WerePosted tables (length (present start)) constraints → Advances (AllConsistent tables constraints) (present start) (present old)
    → Carried tables constraints since start noted old before
    → StepsTo (IsConsistentAt tables constraints number) (present old) result (present new) → Sinks since old new → Alerts (present old) (present new) before after
    → Carried tables constraints since start noted new after
carried_on tables constraints number since start old new noted before after result posted so_far carried step sinks alerts =
    let same = steps_length (IsConsistentAt tables constraints number) (present old) (present new) result so_far.are step in
    record {
      sinks = sinks_trans since start old new carried.sinks sinks;
      kept = kept_step tables constraints (present old) (present new) before after (still_posted tables constraints (present start) (present old) so_far.within posted) same alerts carried.kept;
      notes = notes_step (present start) (present old) (present new) noted before after same carried.kept.variables alerts carried.notes;
    }
