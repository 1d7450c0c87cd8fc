-- What a store at rest leaves, as resources decide, and the last decision of a list.
use Rattle.std.proofs.Common.{◌≡◌, ℕ, zero, suc, ◌+◌, ◌<◌, ◌-◌, List, [], ◌∷◌, ◌++◌, Bool, true, false, length, take, Some, Ok, Err, refl, sym, ◌∙◌, ap, subst, arith}
use Rattle.std.specs.Prelude.{slice_get, MatchBool, MatchResult, IfOk, Result}
use Rattle.std.specs.declared.alloc.AllocError.{AllocError}
use Rattle.std.proofs.lemmas.List.{length_push}
use Rattle.model_core.specs.declared.decision.Decision.{Decision}
use Rattle.model_core.specs.declared.model.Model.{Model}
use Rattle.model_core.specs.Lawful.{IsLawful}
use Rattle.plan_defs.specs.Closure.{IsLeast, IsCollapsed}
use Rattle.eu_name.proofs.Members.{get_same}
use Rattle.db_refine.specs.Growth.{LeaveNothing}
use Rattle.db_posting.specs.Tables.{HaveTables}
use Rattle.db_store.specs.Stores.{Stored, snapshot_of, IsSnapshot}
use Rattle.constraint_net.specs.Networks.{IsIdle}
use Rattle.constraint_net.specs.declared.NetFault.TheVariants.{Collapsed}
use Rattle.db_refusals.specs.Seeing.{seen_state}
use Rattle.plan_defs.specs.Settling.{IsSettled}
use Rattle.plan_defs.specs.Unordered.{AreDecidedOnce}
use Rattle.timeline_core.proofs.Deciding.{settled_once}
use Rattle.db_history.specs.Advancing.{IsRestOf, IsLeastOf, CanFollow, AdvancesBy, LeavesLeast, but_last, EndsAdmissibly}
use Rattle.db_history.proofs.Following.{can_follow}

last_at : {X : Type 0} (xs : List X) (x : X) (n : ℕ) → n ≡ length xs → slice_get (xs ++ x ∷ []) n ≡ Some x
last_at [] x zero long = refl
last_at [] x (suc n) long = absurd (omega (arith, long))
last_at (y ∷ xs) x zero long = absurd (omega (arith, long))
last_at (y ∷ xs) x (suc n) long = last_at xs x n (omega (arith, long))

module _ (model : Model) (decisions : List Decision) where
  pub nothing_collapsed : LeaveNothing model decisions → IsCollapsed model decisions
  nothing_collapsed nothing state closed = nothing state closed.consistent

  pub fit_least : (stored : Stored) (fit : Bool) → IsRestOf model decisions (snapshot_of stored) → HaveTables model stored.net.tables → IsIdle stored.net
      → MatchBool fit (IsLeast model decisions (seen_state stored)) (IsCollapsed model decisions) → LeavesLeast model decisions fit stored
  fit_least stored true rest tables idle least = (record { rest = rest; least = least; tables = tables }, idle)
  fit_least stored false rest tables idle collapsed = collapsed

  module _ (ends : EndsAdmissibly model decisions) where
    pub one_less : length decisions ≡ length (but_last decisions) + 1
    one_less = ap (λ (list : List Decision). length list) ends.1 ∙ length_push (but_last decisions) ends.0

    pub last_within : length decisions - 1 < length decisions
    last_within = let less = one_less in omega (arith, less)

    pub last_there : slice_get decisions (length decisions - 1) ≡ Some ends.0
    last_there =
        let less = one_less in
        subst (λ (list : List Decision). slice_get list (length decisions - 1) ≡ Some ends.0) (sym ends.1) (last_at (but_last decisions) ends.0 (length decisions - 1) (omega (arith, less)))

    -- what comes before it is a front
    pub before_again : take (length (but_last decisions)) decisions ≡ but_last decisions
    before_again = let less = one_less in ap (λ k. take k decisions) (omega (arith, less))

    module _ (decision : Decision) (at : slice_get decisions (length decisions - 1) ≡ Some decision) where
      -- what is read there is the last, and the list is what comes before, and that
      last_is : decision ≡ ends.0
      last_is = get_same decisions (length decisions - 1) decision ends.0 at last_there

      pub ends_with : but_last decisions ++ decision ∷ [] ≡ decisions
      ends_with = ap (λ last. but_last decisions ++ last ∷ []) last_is ∙ sym ends.1

      module _ (old : Stored) (is : IsSnapshot (snapshot_of old)) (least : IsLeastOf model (but_last decisions) (snapshot_of old)) (settled : IsSettled model decisions)
          (lawful : IsLawful model) where
        -- so it may follow where those before it have their least state
        pub follows : CanFollow model (but_last decisions) old decision
        follows = subst (CanFollow model (but_last decisions) old) (sym last_is) (can_follow model (but_last decisions) old ends.0 is least ends.2
            (subst (AreDecidedOnce model) ends.1 (settled_once model decisions settled)) lawful)

        pub rests_for_all : (new : Stored) → AdvancesBy model decision old (Ok tt) new → IsRestOf model decisions (snapshot_of new) × HaveTables model new.net.tables × IsIdle new.net
        rests_for_all new advances =
            let on = advances (but_last decisions) follows in
            (subst (λ (list : List Decision). IsRestOf model list (snapshot_of new)) ends_with on.0, subst (HaveTables model) (sym on.1) least.tables, on.2)

        pub nothing_for_all : (new : Stored) → AdvancesBy model decision old (Err Collapsed) new → IsCollapsed model decisions
        nothing_for_all new advances = nothing_collapsed (subst (LeaveNothing model) ends_with (advances (but_last decisions) follows))

-- what is told of a store at rest before any decision is told with it
pub begun_told : (model : Model) (stored : Stored) (fit : Result Bool AllocError) (begun : Result (Stored × Bool) AllocError)
    → IsRestOf model [] (snapshot_of stored) → HaveTables model stored.net.tables → IsIdle stored.net
    → MatchResult fit (λ told. begun ≡ Ok (stored, told)) (λ none. begun ≡ Err none)
    → IfOk fit (λ told. MatchBool told (IsLeast model [] (seen_state stored)) (IsCollapsed model []))
    → IfOk begun (λ both. LeavesLeast model [] both.1 both.0)
begun_told model stored (Ok told) begun rest tables idle same is =
    subst (λ (answer : Result (Stored × Bool) AllocError). IfOk answer (λ both. LeavesLeast model [] both.1 both.0)) (sym same) (fit_least model [] stored told rest tables idle is)
begun_told model stored (Err none) begun rest tables idle same is =
    subst (λ (answer : Result (Stored × Bool) AllocError). IfOk answer (λ both. LeavesLeast model [] both.1 both.0)) (sym same) tt
