-- What tokens do to resources where two of them have changed places, and how many take place.
use Rattle.std.proofs.Common.{◌≡◌, ◌+◌, inl, inr, ℤ, pos, ◌+ℤ◌, ◌≤ℤ◌, List, [], ◌∷◌, Some, refl, sym, ap, ◌∙◌, subst}
use Rattle.std.specs.Prelude.{slice_get, map}
use Rattle.std.specs.List.{AllZip, sum_by}
use Rattle.std.proofs.lemmas.List.Sums.{sum_by-cons}
use Rattle.std.proofs.lemmas.List.Sorted.{sum_by-IsPermutation}
use Rattle.eu_name.specs.declared.name.TokenName.{TokenName}
use Rattle.model_core.specs.declared.class.PredKind.{PredKind}
use Rattle.model_core.specs.declared.model.Model.{Model}
use Rattle.plan_defs.specs.declared.plan.Clause.TheVariants.{V9, V10}
use Rattle.plan_defs.specs.declared.plan.Line as the_line
use Rattle.plan_defs.specs.declared.plan.Line.TheVariants as lines
use Rattle.plan_defs.specs.declared.plan.Place.{Place}
use Rattle.plan_defs.specs.declared.plan.Place.TheVariants as places
use Rattle.plan_defs.specs.declared.plan.Plan.{Plan}
use Rattle.plan_defs.specs.Sums.{sum_of}
use Rattle.plan_defs.specs.Valid.{IsValid, IsOfSort, HasActed, UsesAt, AddedBy, TookBy, IsUsed, LeavesLevel, IsRise, KeepsReusables, KeepsReservoirs}
use Rattle.law_search.specs.Swapping.{swapped_token, swapped_line}
use Rattle.law_search.specs.SwapLaws.{tokens_of_line, count_of_tokens}
use Rattle.law_search.proofs.Having.{HaveSwapped, flipped, line_twice}
use Rattle.law_search.proofs.Declaring.{slot_moved}
use Rattle.law_search.proofs.Shuffling.{Summed, summed_map, summed_shuffled}

-- ---- what one token does

module _ (model : Model) (old new : Plan) (one other : TokenName) (has : HaveSwapped model old new one other) where
  sort_moved : (kind : PredKind) (token : TokenName) → IsOfSort model kind token → IsOfSort model kind (swapped_token one other token)
  sort_moved kind token is =
      let later = slot_moved model old new one other has token is.slot is.has_token in
      record {
        slot = later.0;
        has_token = later.1.0;
        predicate = is.predicate;
        is_predicate = subst (λ p. slice_get model.preds p ≡ Some is.predicate) (sym later.1.1) is.is_predicate;
        is_kind = is.is_kind;
      }

  module _ (object instant : ℤ) where
    acted_moved : (kind : PredKind) (token : TokenName) (values : List ℤ) (quantity : ℤ) → HasActed model object instant kind token values quantity
        → HasActed model object instant kind (swapped_token one other token) values quantity
    acted_moved kind token values quantity p =
        record { sort = sort_moved kind token p.sort; on = p.on; start = p.start; starts = p.starts; started = p.started; has_quantity = p.has_quantity }

    uses_moved : (line : the_line.Line) (quantity : ℤ) → UsesAt model object instant line quantity → UsesAt model object instant (swapped_line one other line) quantity
    uses_moved (lines.Token token fact values) quantity p =
        record { acted = acted_moved _ token values quantity p.acted; end = p.end; ends = p.ends; not_ended = p.not_ended }
    uses_moved (lines.Merged token target) quantity p = absurd p
    uses_moved (lines.Rejected token) quantity p = absurd p
    uses_moved (lines.Local name value) quantity p = absurd p

    added_moved : (line : the_line.Line) (quantity : ℤ) → AddedBy model object instant line quantity → AddedBy model object instant (swapped_line one other line) quantity
    added_moved (lines.Token token fact values) quantity p = acted_moved _ token values quantity p
    added_moved (lines.Merged token target) quantity p = absurd p
    added_moved (lines.Rejected token) quantity p = absurd p
    added_moved (lines.Local name value) quantity p = absurd p

    took_moved : (line : the_line.Line) (quantity : ℤ) → TookBy model object instant line quantity → TookBy model object instant (swapped_line one other line) quantity
    took_moved (lines.Token token fact values) quantity p = acted_moved _ token values quantity p
    took_moved (lines.Merged token target) quantity p = absurd p
    took_moved (lines.Rejected token) quantity p = absurd p
    took_moved (lines.Local name value) quantity p = absurd p

module _ (model : Model) (old new : Plan) (one other : TokenName) (has : HaveSwapped model old new one other) (object instant : ℤ) where
  back_line : (line : the_line.Line) → swapped_line other one (swapped_line one other line) ≡ line
  back_line line = line_twice one other has.apart line

  used_moved : (line : the_line.Line) (amount : ℤ) → IsUsed model object instant line amount → IsUsed model object instant (swapped_line one other line) amount
  used_moved line amount (inl uses) = inl (uses_moved model old new one other has object instant line amount uses)
  used_moved line amount (inr (none, nothing)) = inr (
    λ quantity uses. none quantity (subst (λ (l : the_line.Line). UsesAt model object instant l quantity) (back_line line)
        (uses_moved model new old other one (flipped model old new one other has) object instant (swapped_line one other line) quantity uses)),
    nothing,
  )

  leaves_moved : (line : the_line.Line) → LeavesLevel model object instant line → LeavesLevel model object instant (swapped_line one other line)
  leaves_moved line leaves = record {
    adds_none = λ quantity adds. leaves.adds_none quantity (subst (λ (l : the_line.Line). AddedBy model object instant l quantity) (back_line line)
        (added_moved model new old other one (flipped model old new one other has) object instant (swapped_line one other line) quantity adds));
    takes_none = λ quantity takes. leaves.takes_none quantity (subst (λ (l : the_line.Line). TookBy model object instant l quantity) (back_line line)
        (took_moved model new old other one (flipped model old new one other has) object instant (swapped_line one other line) quantity takes));
  }

  rise_moved : (line : the_line.Line) (rise : ℤ) → IsRise model object instant line rise → IsRise model object instant (swapped_line one other line) rise
  rise_moved line rise (inl adds) = inl (added_moved model old new one other has object instant line rise adds)
  rise_moved line rise (inr (inl takes)) = inr (inl (takes.0, took_moved model old new one other has object instant line takes.0 takes.1, takes.2))
  rise_moved line rise (inr (inr leaves)) = inr (inr (leaves_moved line leaves.0, leaves.1))

  pub uses_summed : (amounts : List ℤ) → AllZip (IsUsed model object instant) old.lines amounts → Summed (IsUsed model object instant) new.lines (sum_of amounts)
  uses_summed amounts are =
      summed_shuffled (IsUsed model object instant) (map (swapped_line one other) old.lines) new.lines (sum_of amounts) has.swap.lines
      (summed_map (IsUsed model object instant) (swapped_line one other) used_moved old.lines amounts are)

  pub rises_summed : (rises : List ℤ) → AllZip (IsRise model object instant) old.lines rises → Summed (IsRise model object instant) new.lines (sum_of rises)
  rises_summed rises are =
      summed_shuffled (IsRise model object instant) (map (swapped_line one other) old.lines) new.lines (sum_of rises) has.swap.lines
      (summed_map (IsRise model object instant) (swapped_line one other) rise_moved old.lines rises are)

module _ (model : Model) (old new : Plan) (one other : TokenName) (has : HaveSwapped model old new one other) (valid : IsValid model old) where
  pub reusables_kept : (place : Place) → KeepsReusables model new place
  reusables_kept (places.Instant number instant) = λ object capacity found kind within.
      let enough = valid V9 (places.Instant number instant) object capacity found kind within in
      let summed = uses_summed model old new one other has (pos number) instant enough.amounts enough.are_used in
      record { amounts = summed.amounts; are_used = summed.are; enough = subst (λ (sum : ℤ). sum ≤ℤ capacity) (sym summed.sum) enough.enough }
  reusables_kept (places.Global number) = tt
  reusables_kept (places.Root number) = tt
  reusables_kept (places.Line number) = tt
  reusables_kept (places.Slot line rule slot) = tt
  reusables_kept (places.Local line rule number) = tt
  reusables_kept (places.Problem number) = tt
  reusables_kept (places.Item line rule number) = tt
  reusables_kept (places.Pair first second) = tt

  pub reservoirs_kept : (place : Place) → KeepsReservoirs model new place
  reservoirs_kept (places.Instant number instant) = λ object initial low high found kind within.
      let level = valid V10 (places.Instant number instant) object initial low high found kind within in
      let summed = rises_summed model old new one other has (pos number) instant level.rises level.are_rises in
      record {
        rises = summed.amounts;
        are_rises = summed.are;
        high_enough = subst (λ (sum : ℤ). low ≤ℤ (initial +ℤ sum)) (sym summed.sum) level.high_enough;
        low_enough = subst (λ (sum : ℤ). (initial +ℤ sum) ≤ℤ high) (sym summed.sum) level.low_enough;
      }
  reservoirs_kept (places.Global number) = tt
  reservoirs_kept (places.Root number) = tt
  reservoirs_kept (places.Line number) = tt
  reservoirs_kept (places.Slot line rule slot) = tt
  reservoirs_kept (places.Local line rule number) = tt
  reservoirs_kept (places.Problem number) = tt
  reservoirs_kept (places.Item line rule number) = tt
  reservoirs_kept (places.Pair first second) = tt

-- ---- how many tokens take place

takes_moved : (one other : TokenName) (line : the_line.Line) → tokens_of_line (swapped_line one other line) ≡ tokens_of_line line
takes_moved one other (lines.Token token fact values) = refl
takes_moved one other (lines.Merged token target) = refl
takes_moved one other (lines.Rejected token) = refl
takes_moved one other (lines.Local name value) = refl

count_mapped : (one other : TokenName) (some : List the_line.Line) → sum_by tokens_of_line (map (swapped_line one other) some) ≡ sum_by tokens_of_line some
count_mapped one other [] = refl
count_mapped one other (line ∷ some) =
    sum_by-cons tokens_of_line (swapped_line one other line) (map (swapped_line one other) some)
    ∙ ap (λ n. n + sum_by tokens_of_line (map (swapped_line one other) some)) (takes_moved one other line)
    ∙ ap (λ n. tokens_of_line line + n) (count_mapped one other some)
    ∙ sym (sum_by-cons tokens_of_line line some)

pub count_kept : (model : Model) (old new : Plan) (one other : TokenName) → HaveSwapped model old new one other → count_of_tokens new ≡ count_of_tokens old
count_kept model old new one other has =
    sum_by-IsPermutation tokens_of_line (map (swapped_line one other) old.lines) new.lines has.swap.lines ∙ count_mapped one other old.lines
