-- What sources and sinks in memory hold, and which calls of an object in memory fail.
use Rattle.std.specs.Prelude.{ℕ, ◌-◌, min, Bool, ◌&&◌, List, length, nat_eq, nat_lt, nat_le}
use Rattle.std.specs.List.{list_any}
use Rattle.eu_io.specs.Faults.{FaultState, after, raised}

-- the numbers of the calls that fail, how many calls there were, and which of them failed
pub record CallState : Type 0 where
  pub fails : List ℕ
  pub made : ℕ
  pub faults : FaultState

-- the bytes that a source has left, and the most that one call gives
pub record SourceState : Type 0 where
  pub left : List ℕ
  pub most : ℕ

-- a source of which some calls fail
pub record MemSourceState : Type 0 where
  pub left : List ℕ
  pub most : ℕ
  pub calls : CallState

-- the bytes that were written, for how many there is room in all, and the most that one call takes
pub record StoreState : Type 0 where
  pub written : List ℕ
  pub room : ℕ
  pub most : ℕ

-- a sink that fails only where it is full, and which calls have failed
pub record CalmSinkState : Type 0 where
  pub store : StoreState
  pub faults : FaultState

-- a sink of which some calls fail
pub record MemSinkState : Type 0 where
  pub store : StoreState
  pub calls : CallState

-- whether the next call is one of those that fail
abbrev pub fails_next : CallState → Bool
fails_next calls = list_any (λ call. nat_eq call (raised calls.made)) calls.fails

-- the calls after one more, which failed or not
abbrev pub after_call : CallState → Bool → CallState
after_call calls failed =
    record { fails = calls.fails; made = raised calls.made; faults = after failed calls.faults }

-- how many bytes of a piece of this length a call takes
abbrev pub taken_count : StoreState → ℕ → ℕ
taken_count store count = min store.most (min count (store.room - length store.written))

-- whether there is a byte to write and no room for it
abbrev pub overflows : StoreState → ℕ → Bool
overflows store count = nat_lt 0 count && nat_le store.room (length store.written)
