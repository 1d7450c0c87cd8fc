-- What an adapter shows of the reader or the writer that it stands on.
use Rattle.std.specs.Prelude.{ℕ, Bool, refl}
use Rattle.std.specs.Coded.{Coded, code_by, coded×, coded_ℕ, coded_bool}
use Rattle.eu_io.specs.Faults.{FaultState}

-- a reader or a writer, and which of its calls have failed
pub record Counted (Inner : Type 0) : Type 0 where
  pub inner : Inner
  pub faults : FaultState

-- the faults are stored as the pair of their fields
abbrev pub faults_code : Coded FaultState
faults_code =
    code_by (ℕ × Bool) (coded× coded_ℕ coded_bool) (λ s. (s.count, s.last)) (λ p. record { count = p.0; last = p.1 })
    (λ _. refl)

-- it is stored as the pair of its fields
abbrev pub counted_code : {Inner : Type 0} → Coded Inner → Coded (Counted Inner)
counted_code {Inner} code =
    code_by (Inner × FaultState) (coded× code faults_code) (λ s. (s.inner, s.faults))
    (λ p. record { inner = p.0; faults = p.1 }) (λ _. refl)
