-- One more item, or none; in the end nothing is left.
use Rattle.std.proofs.Common.{◌≡◌, ◌≤◌, [], ◌++◌, length, drop, map, sym, ap, ◌∙◌, arith}
use Rattle.std.proofs.lemmas.List.{append-nil}
use Rattle.std.proofs.Math.ListN.{drop_of_length-le}
use Rattle.model_core.specs.Block.{plain_entries}
use Rattle.model_core.specs.Lawful.{item_count}
use Rattle.rule_engine.specs.declared.items.ItemAt.{ItemAt}
use Rattle.rule_engine.specs.Lists.{item_places}
use Rattle.rule_engine.proofs.Counting.{item_kept, none_kept}
use Rattle.rule_engine.proofs.Listing.{standing}
use Rattle.rule_engine.proofs.items.items_at.Goals as goal
use Rattle.rule_engine.proofs.items.items_at.Goals.{in-Item+in_ok-push, in_default}

pub loop-place-preserved : goal.loop-place-preserved
loop-place-preserved c =
    elim c.match-entry.branch [
      | in-Item+in_ok-push w ↦
          item_kept c.args.entries.now c.loop-place.place c.index-entries-place.result (omega arith) c.index-entries-place.is c.args.first (item_count (plain_entries c.args.entries.now))
          c.loop-place.number c.count_inside-number.result c.loop-place.items.items c.match-entry.items.items w.in-Item.field-0 w.in-Item.is c.count_inside-number.ensures
          (ap (λ v. v.items) w.items-is ∙ w.in_ok-push.ensures.items) c.loop-place.invariant
      | in_default w ↦
          none_kept c.args.entries.now c.loop-place.place c.index-entries-place.result (omega arith) c.index-entries-place.is c.args.first (item_count (plain_entries c.args.entries.now))
          c.loop-place.number c.count_inside-number.result c.loop-place.items.items c.match-entry.items.items w.in_default.not-Item c.count_inside-number.ensures
          (ap (λ v. v.items) w.items-is) c.loop-place.invariant
    ]

pub returns : goal.returns
returns c =
    let past : length c.args.entries.now ≤ c.loop-place.place = omega arith in
    let nothing : drop c.loop-place.place c.args.entries.now ≡ [] = drop_of_length-le c.args.entries.now past in
    record {
      places = sym (append-nil (map (λ (each : ItemAt). each.entry) c.loop-place.items.items))
          ∙ (ap (λ xs. map (λ (each : ItemAt). each.entry) c.loop-place.items.items ++ item_places c.loop-place.place (standing xs)) (sym nothing) ∙ c.loop-place.invariant.1);
      numbers = λ items path stands. (c.loop-place.invariant.2 items path stands).1;
    }
