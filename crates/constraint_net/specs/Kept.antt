-- How a network is kept.
use Rattle.std.specs.Prelude.{ℕ, List, [], ◌∷◌, Vec, length}
use Rattle.std.specs.declared.alloc.Global.{Global}
use Rattle.domain_core.specs.Domain.{Domain}
use Rattle.cell_store.specs.Cells.{present}
use Rattle.narrow_core.specs.declared.field.Field.{Field}
use Rattle.constraint_net.specs.Agendas.{quiet_of}
use Rattle.constraint_net.specs.Moves.{IsSound}
use Rattle.constraint_net.specs.Networks.{Network}
use Rattle.constraint_net.specs.Waiting.{WerePosted, IsKeptAgenda}
use Rattle.constraint_net.specs.declared.constraint.Constraint.{Constraint}
use Rattle.constraint_net.specs.declared.domains.Domains.{Domains}

-- all lists but the first
abbrev pub older_of : List (List Domain) → List (List Domain)
older_of [] = []
older_of (domains ∷ past) = past

-- the network that is kept so
abbrev pub network_of : Domains → Vec Field Global → List Constraint → ℕ → Network
network_of domains tables constraints marked =
    record {
      domains = present domains.cells;
      tables = tables.items;
      constraints = constraints;
      work = domains.work;
      stamps = domains.cells.stamps;
      older = older_of domains.cells.past;
      marked = marked;
      changed = domains.agenda.changed.items;
      quiet = quiet_of domains.agenda.waiting.items (length constraints);
    }

-- each constraint could be posted, each variable has a domain and a stamp, the latest mark can be gone back to, and who
-- has to be looked at waits
pub record IsKeptNet (domains : Domains) (tables : Vec Field Global) (constraints : List Constraint) (marked : ℕ) : Type 0 where
  pub posted : WerePosted tables.items (length (present domains.cells)) constraints
  pub sound : IsSound marked domains.cells
  pub agenda : IsKeptAgenda tables.items constraints (present domains.cells) domains.agenda
