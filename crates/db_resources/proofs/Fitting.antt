-- Resources fit, object by object.
use Rattle.std.proofs.Common.{◌≡◌, ◌↔◌, ℕ, ◌+◌, ◌<◌, ◌≤◌, ◌≤ℤ◌, ℤ, pos, List, length, Bool, Some, IsTrue, refl, sym, subst, inl, inr, arith}
use Rattle.std.specs.Prelude.{slice_get, All, Result, Ok, Err, IfOk}
use Rattle.std.proofs.lemmas.Bool.{cases_lt}
use Rattle.std.proofs.lemmas.Option.{slice_get_within}
use Rattle.domain_core.specs.Domain.{IsValue}
use Rattle.eu_name.proofs.Members.{get_all}
use Rattle.model_core.specs.declared.class.Object.{Object}
use Rattle.model_core.specs.declared.class.ObjectKind.{ObjectKind}
use Rattle.model_core.specs.declared.class.ObjectKind.TheVariants.{Reusable, Reservoir}
use Rattle.model_core.specs.declared.decision.Decision.{Decision}
use Rattle.model_core.specs.declared.model.Model.{Model}
use Rattle.model_core.specs.Kinds.{IsObject}
use Rattle.model_core.specs.Lawful.{IsLawful, IsLawfulObject, IsLawfulKind}
use Rattle.model_core.specs.State.{State}
use Rattle.plan_defs.specs.Resources.{IsInstant, KeepsCapacity, StaysWithin}
use Rattle.db_resources.specs.Fits.{IsReusable, IsReservoir, FitsReusable, FitsReservoir}

-- what an answer tells, where there is one
pub ok_told : {E : Type 0} {P Q : Bool → Type 0} (answer : Result Bool E) → ((told : Bool) → P told → Q told) → IfOk answer P → IfOk answer Q
ok_told (Ok told) then is = then told is
ok_told (Err fault) then is = tt

-- what holds of the kind of an object holds of the kind of any with its number
same_kind : (model : Model) (number : ℕ) (object other : Object) (kind like : ObjectKind) → slice_get model.objects number ≡ Some object → object.kind ≡ kind
    → IsObject model (pos number) other → other.kind ≡ like → kind ≡ like
same_kind model number object other kind like is is_kind (n, same, there) other_kind =
    let numbers : n ≡ number = cc in
    let options : Some object ≡ Some other = cc in
    let objects : object ≡ other = cc in
    cc

-- what holds of all below a number and of it holds of all below the next
pub one_more : (P : ℤ → Type 0) (number : ℕ) → ((n : ℕ) → n < number → P (pos n)) → P (pos number) → (n : ℕ) → n < number + 1 → P (pos n)
one_more P number below here n less = elim (cases_lt n number) [
  | inl before ↦ below n before
  | inr rest ↦ (let same : number ≡ n = omega arith in subst (λ k. P (pos k)) same here)
]

-- an object with a number has one of those below the count
pub all_objects : (P : ℤ → Type 0) (model : Model) (count : ℕ) → length model.objects ≤ count → ((n : ℕ) → n < count → P (pos n)) → (value : ℤ) (object : Object) → IsObject model value object → P value
all_objects P model count whole below value object (n, same, is) =
    subst P (sym same) (below n (omega (arith, whole, slice_get_within model.objects n object is)))

-- the numbers of a reservoir are values
pub reservoir_values : (model : Model) (number : ℕ) (object : Object) (initial low high : ℤ) → IsLawful model → slice_get model.objects number ≡ Some object → object.kind ≡ Reservoir initial low high
    → IsValue low × IsValue high × (low ≤ℤ initial) × (initial ≤ℤ high)
reservoir_values model number object initial low high lawful is kind =
    subst IsLawfulKind kind (get_all (IsLawfulObject model) model.objects number object lawful.objects is).kind

module _ (model : Model) (decisions : List Decision) (state : State) where
  -- ---- reusables

  pub no_reusable : (number : ℕ) → ((object : Object) (capacity : ℤ) → slice_get model.objects number ≡ Some object → object.kind ≡ Reusable capacity → ⊥) → FitsReusable model decisions state (pos number)
  no_reusable number none object capacity instant (n, same, is) kind within =
      let numbers : n ≡ number = cc in
      absurd (none object capacity (subst (λ k. slice_get model.objects k ≡ Some object) numbers is) kind)

  pub reusable_told : (number : ℕ) (value capacity : ℤ) (told : Bool) → value ≡ pos number
      → ((object : Object) × (slice_get model.objects number ≡ Some object) × (object.kind ≡ Reusable capacity))
      → IsTrue told ↔ ((instant : ℤ) → IsInstant model instant → KeepsCapacity model decisions state value instant capacity)
      → IsTrue told ↔ FitsReusable model decisions state (pos number)
  reusable_told number value capacity told values (object, is, kind) keeps = (
    λ yes_told other more instant there like within.
        let kinds = same_kind model number object other (Reusable capacity) (Reusable more) is kind there like in
        let capacities : capacity ≡ more = cc in
        subst (λ n. KeepsCapacity model decisions state (pos number) instant n) capacities
        (subst (λ v. KeepsCapacity model decisions state v instant capacity) values (keeps.0 yes_told instant within)),
    λ fits. keeps.1 (λ instant within.
        subst (λ v. KeepsCapacity model decisions state v instant capacity) (sym values) (fits object capacity instant (number, refl, is) kind within)),
  )

  pub none_reusable : All (λ object. IsReusable object → ⊥) model.objects → (value : ℤ) → FitsReusable model decisions state value
  none_reusable none value object capacity instant (n, same, is) kind within = absurd (get_all (λ object. IsReusable object → ⊥) model.objects n object none is (capacity, kind))

  -- ---- reservoirs

  pub none_reservoir : All (λ object. IsReservoir object → ⊥) model.objects → (value : ℤ) → FitsReservoir model decisions state value
  none_reservoir none value object initial low high instant (n, same, is) kind within = absurd (get_all (λ object. IsReservoir object → ⊥) model.objects n object none is (initial, low, high, kind))

  pub no_reservoir : (number : ℕ) → ((object : Object) (initial low high : ℤ) → slice_get model.objects number ≡ Some object → object.kind ≡ Reservoir initial low high → ⊥) → FitsReservoir model decisions state (pos number)
  no_reservoir number none object initial low high instant (n, same, is) kind within =
      let numbers : n ≡ number = cc in
      absurd (none object initial low high (subst (λ k. slice_get model.objects k ≡ Some object) numbers is) kind)

  pub reservoir_told : (number : ℕ) (value initial low high : ℤ) (told : Bool) → value ≡ pos number
      → ((object : Object) × (slice_get model.objects number ≡ Some object) × (object.kind ≡ Reservoir initial low high))
      → IsTrue told ↔ ((instant : ℤ) → IsInstant model instant → StaysWithin model decisions state value instant initial low high)
      → IsTrue told ↔ FitsReservoir model decisions state (pos number)
  reservoir_told number value initial low high told values (object, is, kind) stays = (
    λ yes_told other initial' low' high' instant there like within.
        let kinds = same_kind model number object other (Reservoir initial low high) (Reservoir initial' low' high') is kind there like in
        let initials : initial ≡ initial' = cc in
        let lows : low ≡ low' = cc in
        let highs : high ≡ high' = cc in
        subst (λ n. StaysWithin model decisions state (pos number) instant n low' high') initials
        (subst (λ n. StaysWithin model decisions state (pos number) instant initial n high') lows
        (subst (λ n. StaysWithin model decisions state (pos number) instant initial low n) highs
        (subst (λ v. StaysWithin model decisions state v instant initial low high) values (stays.0 yes_told instant within)))),
    λ fits. stays.1 (λ instant within.
        subst (λ v. StaysWithin model decisions state v instant initial low high) (sym values) (fits object initial low high instant (number, refl, is) kind within)),
  )
