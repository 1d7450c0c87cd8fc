use Rattle.std.proofs.Common.{◌≡◌, ◌<◌, ◌≤◌, ◌+◌, ◌∙◌, ℤ, length, get_or, slice_get, Vec, Global, Some, sym, ap, subst}
use Rattle.std.proofs.lemmas.Option.{slice_get-get_or}
use Rattle.db_posting.proofs.Filling.{AreFilled, filled_on, step_more, all_filled, get_past}
use Rattle.db_posting.proofs.tables.field_pairs.Goals.{in-Some+in_ok-push, in_default}
use Rattle.db_posting.proofs.tables.field_pairs.Goals as goal

pub loop-place-preserved : goal.loop-place-preserved
loop-place-preserved c =
    let model = c.args.model.now in
    let number = c.args.number in
    let loop = c.loop-place in
    let object = c.object-item.result in
    let items = c.as_slice-object-items.ensures in
    let below : loop.place < length model.objects = subst (λ list. loop.place < length list) items c.loop-place-test.true in
    let read : object ≡ get_or model.objects loop.place object = subst (λ list. object ≡ get_or list loop.place object) items c.object-item.is in
    let is : slice_get model.objects loop.place ≡ Some object = slice_get-get_or model.objects loop.place object below ∙ ap Some (sym read) in
    let fields = c.as_slice.ensures in
    elim c.match-get.branch [
      | in-Some+in_ok-push w ↦
          let look = w.in-Some.ensures.lookup in
          let value = w.in-Some.value.now in
          let within : number < length object.fields = subst (λ list. number < length list) fields look.3.0 in
          let same : value ≡ get_or object.fields number value = subst (λ list. value ≡ get_or list number value) fields look.1 in
          let has : slice_get object.fields number ≡ Some value = slice_get-get_or object.fields number value within ∙ ap Some (sym same) in
          subst (λ (pairs : Vec (ℤ × ℤ) Global). AreFilled model number (loop.place + 1) pairs.items) (sym w.pairs-is)
          (step_more model number c.requires loop.place loop.pairs.items w.push.new.self.items object value is has w.in_ok-push.ensures.items loop.invariant)
      | in_default w ↦
          let look = w.in_default.ensures.lookup in
          let past : length object.fields ≤ number = subst (λ list. length list ≤ number) fields look.3 in
          subst (λ (pairs : Vec (ℤ × ℤ) Global). AreFilled model number (loop.place + 1) pairs.items) (sym w.pairs-is)
          (filled_on model number loop.place loop.pairs.items object is (get_past object.fields number past) loop.invariant)
    ]

pub returns : goal.returns
returns c =
    let items = c.as_slice-object-items.ensures in
    let all = subst (λ list. length list ≤ c.loop-place.place) items c.loop-place-test.false in
    all_filled c.args.model.now c.args.number c.loop-place.place c.loop-place.pairs.items all c.loop-place.invariant
