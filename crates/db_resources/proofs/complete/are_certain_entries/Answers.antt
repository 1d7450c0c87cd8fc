use Rattle.std.proofs.Common.{◌≡◌, Some, true, false, subst, arith}
use Rattle.std.specs.Prelude.{slice_get, MatchBool}
use Rattle.model_core.specs.declared.rule.Entry.{Entry}
use Rattle.eu_name.proofs.Members.{get_below, get_same}
use Rattle.plan_values.proofs.Matching.{read_item}
use Rattle.db_resources.specs.Completeness.{IsCertainEntry}
use Rattle.db_resources.proofs.Branching.{entries_certain, certain_entry}
use Rattle.eu_name.proofs.Places.{up_to}
use Rattle.db_resources.proofs.complete.are_certain_entries.Goals as goal

pub returns-then-not-branch : goal.returns-then-not-branch
returns-then-not-branch c = λ all.
    let entries = c.args.entries.now in
    let place = c.loop-place.place in
    let entry = c.index-entries-place.result in
    let such = IsCertainEntry c.args.model.now c.args.store.now c.args.block.now place entry in
    let at = read_item entries place entry c.loop-place-test.true c.index-entries-place.is in
    let uncertain : c.in_ok-is_certain_entry.field-0 ≡ false = let is = c.if-not-branch.true in cc in
    (subst (λ answer. MatchBool answer such (such → ⊥)) uncertain c.in_ok-is_certain_entry.ensures)
    (certain_entry c.args.model.now c.args.store.now c.args.block.now entries all place entry at)

pub loop-place-preserved : goal.loop-place-preserved
loop-place-preserved c =
    let entries = c.args.entries.now in
    let place = c.loop-place.place in
    let entry = c.index-entries-place.result in
    let such = IsCertainEntry c.args.model.now c.args.store.now c.args.block.now place in
    let at = read_item entries place entry c.loop-place-test.true c.index-entries-place.is in
    let certain : c.in_ok-is_certain_entry.field-0 ≡ true = let is = c.if-not-branch.false in cc in
    up_to (λ n. (other : Entry) → slice_get entries n ≡ Some other → IsCertainEntry c.args.model.now c.args.store.now c.args.block.now n other) place c.loop-place.invariant
    (λ other here. subst such (get_same entries place entry other at here) (subst (λ answer. MatchBool answer (such entry) (such entry → ⊥)) certain c.in_ok-is_certain_entry.ensures))

pub returns : goal.returns
returns c =
    let entries = c.args.entries.now in
    entries_certain c.args.model.now c.args.store.now c.args.block.now entries
    (λ place entry at. let below = get_below entries place entry at in c.loop-place.invariant place (omega (arith, below, c.loop-place-test.false)) entry at)
