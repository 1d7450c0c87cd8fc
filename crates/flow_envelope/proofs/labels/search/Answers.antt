use Rattle.std.proofs.Common.{◌≡◌, ℕ, ℤ, List, length, sym, ap, ◌∙◌, subst, arith}
use Rattle.temporal_core.specs.Satisfied.{value_at}
use Rattle.flow_envelope.specs.Labels.{label_at, IsSeed, AreLabels}
use Rattle.flow_envelope.proofs.Leading.{first_labels, first_seeds, unlabelled_most, closed_from}
use Rattle.flow_envelope.proofs.labels.search.Goals as goal

pub sweeps-init : goal.sweeps-init
sweeps-init c =
    let pairs = c.args.flow.now.pairs.items in
    let more = c.args.flow.now.more.items in
    let room = c.args.flow.now.room.items in
    let labels = c.restart.new.labels in
    let slice = c.as_slice.ensures.value in
    let seeds = subst (λ (list : List ℤ). (place : ℕ) → IsSeed (value_at list place) (label_at labels.takers.items place)) slice c.restart.ensures.takers in
    let adders_count : length labels.adders.items ≡ length more = c.restart.ensures.adders_count ∙ (ap (λ (list : List ℤ). length list) slice ∙ c.requires.flow.count) in
    let takers_count : length labels.takers.items ≡ length more = c.restart.ensures.takers_count ∙ (ap (λ (list : List ℤ). length list) slice ∙ c.requires.flow.count) in
    record {
      adders = adders_count;
      takers = takers_count;
      labels = subst (AreLabels pairs room labels.adders.items labels.takers.items) (sym c.restart.ensures.next) (first_labels pairs more room labels.adders.items labels.takers.items c.restart.ensures.adders seeds);
      seeds = first_seeds pairs more room labels.adders.items labels.takers.items c.restart.ensures.adders seeds;
      few = omega (arith, c.restart.ensures.next, unlabelled_most labels.adders.items, unlabelled_most labels.takers.items, adders_count, takers_count, c.requires.flow.few);
    }

pub returns-then-labels-before-clause-found : goal.returns-then-labels-before-clause-found
returns-then-labels-before-clause-found c =
    let flow = c.args.flow.now in
    let labels = c.sweep.new.labels in
    let found = rw c.in_default.is at c.sweep.ensures.found in
    closed_from flow.pairs.items flow.more.items flow.room.items labels.adders.items labels.takers.items labels.next c.sweep.ensures.labels
    (λ place has_room. c.sweep.ensures.grown.kept place (c.sweeps.invariant.seeds place has_room)) (found c.if-labels-before.true)
