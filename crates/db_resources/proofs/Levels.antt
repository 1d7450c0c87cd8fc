-- Where no token is decided, no block opens and what changes levels is as it was, reservoirs fit as they did.
use Rattle.std.proofs.Common.{◌≡◌, ℕ, ℤ, pos, List, [], ◌∷◌, ◌++◌, inl, inr, length, Some, sym, ap, ◌∙◌, subst, arith}
use Rattle.std.specs.Prelude.{slice_get, Contains}
use Rattle.std.proofs.lemmas.Int.{ints}
use Rattle.std.proofs.lemmas.List.{take_all, length-take-le}
use Rattle.domain_core.specs.Domain.{Domain}
use Rattle.eu_name.specs.declared.name.Part.{Part}
use Rattle.eu_name.specs.declared.name.Part.TheVariants.{Start, Object, Param}
use Rattle.eu_name.specs.declared.name.TokenName.{TokenName}
use Rattle.eu_name.specs.declared.name.VarName.TheVariants.{Token}
use Rattle.model_core.specs.declared.class.PredKind.{PredKind}
use Rattle.model_core.specs.declared.class.PredKind.TheVariants.{Produce, Consume}
use Rattle.model_core.specs.declared.decision.Decision.{Decision}
use Rattle.model_core.specs.declared.decision.Decision.TheVariants.{Merge, Reject, Activate}
use Rattle.model_core.specs.declared.item.Term.{Term}
use Rattle.model_core.specs.declared.item.Term.TheVariants as term
use Rattle.model_core.specs.declared.model.Model.{Model}
use Rattle.model_core.specs.declared.rule.Guard.{Guard}
use Rattle.model_core.specs.declared.rule.Side.TheVariants.{Then, Otherwise}
use Rattle.model_core.specs.Blocks.{TokenBlock, IsBlock}
use Rattle.model_core.specs.Decided.{IsDecided}
use Rattle.model_core.specs.State.{Gives}
use Rattle.model_core.specs.Tokens.{root_token}
use Rattle.plan_defs.specs.Resources.{IsActor, SurelyChanges, MayChange, IsHighChange, IsLowChange, StaysWithin, IsOfRejected, IsTokenComplete, FitReservoirs}
use Rattle.eu_name.proofs.Members.{contains_from_get}
use Rattle.plan_defs.proofs.Chosen.{filled}
use Rattle.db_posting.specs.Underway.{IsAtRest}
use Rattle.db_store.specs.declared.key.OpenBlock.{OpenBlock}
use Rattle.db_store.specs.Keys.{named_block}
use Rattle.db_store.specs.Stamps.{StampsGoOn}
use Rattle.db_store.specs.StoreMarks.{AreFirst}
use Rattle.db_store.specs.Stores.{Stored, snapshot_of, IsSnapshot}
use Rattle.db_refusals.specs.Seeing.{seen_state}
use Rattle.plan_defs.specs.Unordered.{AreDecidedOnce}
use Rattle.token_store.specs.Tokens.{tokens_now}
use Rattle.db_resources.specs.declared.touched.Resources.TheVariants.{Reservoirs}
use Rattle.db_resources.specs.Completeness.{IsRootOut, block_behind, IsCertainBranch, AreAllCertain}
use Rattle.db_resources.specs.Touching.{ActsOn, AreActorsAsBefore, DecidesNoToken}
use Rattle.db_resources.proofs.Completing.{token_here, here_supported, out_rejected, rejected_out, token_below, all_certain, complete_certain}
use Rattle.db_resources.proofs.Remaining.{names, ordered, token_there, names_still, tokens_still, name_still, taken_still, taken_before, active_still}
use Rattle.db_resources.proofs.Remaining as remaining

-- the first items of a list are all of it where they are as many
pub all_first : {X : Type 0} (count : ℕ) (list first : List X) → AreFirst count list first → length list ≡ length first → list ≡ first
all_first count list first are long =
    let short : length first ≡ count = ap length are.1 ∙ length-take-le count list are.0 in
    sym (take_all count list (omega (arith, long, short))) ∙ sym are.1

module _ (model : Model) (decisions earlier : List Decision) (last : Decision) (longer : decisions ≡ earlier ++ last ∷ []) (none : DecidesNoToken last) where
  -- ---- what is decided of tokens

  decided_before : (token : TokenName) → IsDecided model decisions token → IsDecided model earlier token
  decided_before token (inl fact) = inl fact
  decided_before token (inr (inl (inl activated))) =
      inr (inl (inl (taken_before decisions earlier last longer (Activate token) (λ this. subst DecidesNoToken this none) activated)))
  decided_before token (inr (inl (inr merged))) =
      inr (inl (inr (merged.0, taken_before decisions earlier last longer (Merge token merged.0) (λ this. subst DecidesNoToken this none) merged.1)))
  decided_before token (inr (inr rejected)) =
      inr (inr (taken_before decisions earlier last longer (Reject token) (λ this. subst DecidesNoToken this none) rejected))

  once_before : AreDecidedOnce model decisions → AreDecidedOnce model earlier
  once_before once token active =
      let both = once token (active_still decisions earlier last longer model token active) in (
        λ merged. both.0 (merged.0, taken_still decisions earlier last longer (Merge token merged.0) merged.1),
        λ rejected. both.1 (taken_still decisions earlier last longer (Reject token) rejected),
      )

  rejected_before : (named : Term) → IsOfRejected model decisions named → IsOfRejected model earlier named
  rejected_before (term.Root number part) of =
      (of.0, taken_before decisions earlier last longer (Reject (root_token number)) (λ this. subst DecidesNoToken this none) of.1)
  rejected_before (term.Lit value) of = absurd of
  rejected_before (term.Here part) of = absurd of
  rejected_before (term.Slot number part) of = absurd of
  rejected_before (term.Local number) of = absurd of
  rejected_before (term.Global number) of = absurd of

module _ (model : Model) (decisions earlier : List Decision) (last : Decision) (former stored : Stored) (longer : decisions ≡ earlier ++ last ∷ [])
    (was : IsSnapshot (snapshot_of former)) (is : IsSnapshot (snapshot_of stored)) (once : AreDecidedOnce model decisions)
    (before : IsAtRest model earlier former.net.tables (snapshot_of former)) (rest : IsAtRest model decisions stored.net.tables (snapshot_of stored))
    (on : StampsGoOn former stored) (none : DecidesNoToken last) (opened : stored.blocks ≡ former.blocks)
    (same : AreActorsAsBefore Reservoirs model stored last (snapshot_of former)) where
  once_then : AreDecidedOnce model earlier
  once_then = once_before model decisions earlier last longer none once

  -- ---- no further token could come before, where none can now

  out_before : (named : Term) → IsRootOut model (tokens_now stored.past) named → IsRootOut model (tokens_now former.past) named
  out_before named out =
      rejected_out model earlier former was once_then before named
      (rejected_before model decisions earlier last longer none named (out_rejected model decisions stored is once rest named out))

  branch_before : (block : OpenBlock) (place : ℕ) (guard : Guard) → IsCertainBranch model stored block place guard → IsCertainBranch model former block place guard
  branch_before block place guard (inl (inl there)) = inl (inl (subst (λ (blocks : List OpenBlock). Contains blocks (block_behind block place Then)) opened there))
  branch_before block place guard (inl (inr there)) = inl (inr (subst (λ (blocks : List OpenBlock). Contains blocks (block_behind block place Otherwise)) opened there))
  branch_before block place guard (inr (inl out)) = inr (inl (out_before _ out))
  branch_before block place guard (inr (inr out)) = inr (inr (out_before _ out))

  named_still : (block : OpenBlock) → Contains former.blocks block → named_block (names former was) block ≡ named_block (names stored is) block
  named_still block there =
      let name = name_still former stored was is on block.token (token_below model earlier former was once_then before block there) in
      λ i. record { token = sym name i; rule = block.rule; path = block.path }

  certain_before : AreAllCertain model stored → AreAllCertain model former
  certain_before branches number block entries at has place guard then otherwise stands =
      let here : slice_get stored.blocks number ≡ Some block = ap (λ (blocks : List OpenBlock). slice_get blocks number) opened ∙ at in
      let named = named_still block (contains_from_get former.blocks number block at) in
      branch_before block place guard
      (branches number block entries here (subst (λ (b : TokenBlock). IsBlock model b entries) named has) place guard then otherwise stands)

  complete_before : IsTokenComplete model decisions (seen_state stored) → IsTokenComplete model earlier (seen_state former)
  complete_before complete = record {
    tokens = λ token supported. decided_before model decisions earlier last longer none token
        (complete.tokens token (here_supported model decisions stored is once rest token
        (names_still former stored was is on token (token_here model earlier former was once_then before token supported))));
    guards = all_certain model earlier former was once_then before (certain_before (complete_certain model decisions stored is once rest complete));
  }

  -- ---- levels

  module _ (kind : PredKind) (acts : ActsOn Reservoirs kind) where
    actor_before : (token : TokenName) → IsActor model decisions kind token → IsActor model earlier kind token
    actor_before = remaining.actor_before Reservoirs model decisions earlier last former stored longer was is once rest on same kind acts

    actor_still : (token : TokenName) → IsActor model earlier kind token → IsActor model decisions kind token
    actor_still = remaining.actor_still Reservoirs model decisions earlier last former stored longer was is once rest on same kind acts

    part_before : (token : TokenName) (part : Part) (domain : Domain) → IsActor model decisions kind token → Gives (seen_state stored) (Token token part) domain
        → Gives (seen_state former) (Token token part) domain
    part_before = remaining.part_before Reservoirs model decisions earlier last former stored longer was is once rest on same kind acts

    part_still : (token : TokenName) (part : Part) (domain : Domain) → IsActor model decisions kind token → Gives (seen_state former) (Token token part) domain
        → Gives (seen_state stored) (Token token part) domain
    part_still = remaining.part_still Reservoirs model decisions earlier last former stored longer was is once rest on same kind acts

    module _ (object instant : ℤ) (token : TokenName) (quantity : ℤ) where
      changes_before : SurelyChanges model decisions (seen_state stored) object instant kind token quantity
          → SurelyChanges model earlier (seen_state former) object instant kind token quantity
      changes_before changes = record {
        actor = actor_before token changes.actor;
        on = (changes.on.0, part_before token Object changes.on.0 changes.actor changes.on.1, changes.on.2);
        started = (changes.started.0, part_before token Start changes.started.0 changes.actor changes.started.1, changes.started.2);
        least = (changes.least.0, part_before token (Param 0) changes.least.0 changes.actor changes.least.1, changes.least.2);
      }

      may_still : MayChange model earlier (seen_state former) object instant kind token quantity
          → MayChange model decisions (seen_state stored) object instant kind token quantity
      may_still may =
          let actor = actor_still token may.actor in
          record {
            actor = actor;
            on = (may.on.0, part_still token Object may.on.0 actor may.on.1, may.on.2);
            started = (may.started.0, part_still token Start may.started.0 actor may.started.1, may.started.2);
            greatest = (may.greatest.0, part_still token (Param 0) may.greatest.0 actor may.greatest.1, may.greatest.2);
          }

      there_before : SurelyChanges model decisions (seen_state stored) object instant kind token quantity → Contains (seen_state former).tokens token
      there_before changes = let started = (changes_before changes).started in token_there former was token Start started.0 started.1

  module _ (object instant : ℤ) where
    abbrev IsHigh : TokenName → ℤ → Type 0
    IsHigh = IsHighChange model earlier (seen_state former) object instant

    abbrev IsLow : TokenName → ℤ → Type 0
    IsLow = IsLowChange model earlier (seen_state former) object instant

    abbrev IsHighNow : TokenName → ℤ → Type 0
    IsHighNow = IsHighChange model decisions (seen_state stored) object instant

    abbrev IsLowNow : TokenName → ℤ → Type 0
    IsLowNow = IsLowChange model decisions (seen_state stored) object instant

    high_still : (token : TokenName) (change : ℤ) → IsHigh token change → IsHighNow token change
    high_still token change high = record {
      adds = elim high.adds [
        | inl small ↦ inl small
        | inr some ↦ inr (some.0, may_still Produce tt object instant token some.0 some.1, some.2)
      ];
      takes = λ quantity surely. high.takes quantity (changes_before Consume tt object instant token quantity surely);
    }

    low_still : (token : TokenName) (change : ℤ) → IsLow token change → IsLowNow token change
    low_still token change low = record {
      takes = elim low.takes [
        | inl small ↦ inl small
        | inr some ↦ inr (some.0, may_still Consume tt object instant token some.0 some.1, some.2)
      ];
      adds = λ quantity surely. low.adds quantity (changes_before Produce tt object instant token quantity surely);
    }

    -- a token that wasn't there changes nothing
    high_none : (token : TokenName) → (Contains (seen_state former).tokens token → ⊥) → IsHighNow token (pos 0)
    high_none token absent = record {
      adds = inl (omega (arith, ints));
      takes = λ quantity surely. absurd (absent (there_before Consume tt object instant token quantity surely));
    }

    low_none : (token : TokenName) → (Contains (seen_state former).tokens token → ⊥) → IsLowNow token (pos 0)
    low_none token absent = record {
      takes = inl (omega (arith, ints));
      adds = λ quantity surely. absurd (absent (there_before Produce tt object instant token quantity surely));
    }

    within_still : (initial low high : ℤ) → StaysWithin model earlier (seen_state former) object instant initial low high
        → StaysWithin model decisions (seen_state stored) object instant initial low high
    within_still initial low high stays =
        let rises = filled IsHigh IsHighNow (seen_state stored).tokens (seen_state former).tokens (ordered stored is) (ordered former was) (tokens_still former stored was is on)
        (record { shared = λ token number there is_high. high_still token number is_high; idle = λ token there absent. high_none token absent })
        stays.rises stays.are_rises in
        let falls = filled IsLow IsLowNow (seen_state stored).tokens (seen_state former).tokens (ordered stored is) (ordered former was) (tokens_still former stored was is on)
        (record { shared = λ token number there is_low. low_still token number is_low; idle = λ token there absent. low_none token absent })
        stays.falls stays.are_falls in
        let high_sums = rises.same in
        let low_sums = falls.same in
        let high_enough = stays.high_enough in
        let low_enough = stays.low_enough in
        record {
          rises = rises.numbers;
          are_rises = rises.are;
          high_enough = omega (arith, ints, high_sums, high_enough);
          falls = falls.numbers;
          are_falls = falls.are;
          low_enough = omega (arith, ints, low_sums, low_enough);
        }

  pub levels_still : FitReservoirs model earlier (seen_state former) → FitReservoirs model decisions (seen_state stored)
  levels_still fits complete value object initial low high instant object_is kind at =
      within_still value instant initial low high (fits (complete_before complete) value object initial low high instant object_is kind at)
