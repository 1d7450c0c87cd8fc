use Rattle.std.proofs.Common.{◌≡◌, ℕ, List, Some, slice_get, sym, subst}
use Rattle.std.specs.Prelude.{Contains}
use Rattle.std.proofs.lemmas.List.{take_all}
use Rattle.eu_name.specs.declared.name.Part.{Part}
use Rattle.eu_name.specs.declared.name.Part.TheVariants.{Start}
use Rattle.eu_name.proofs.Ordered.{contains_none}
use Rattle.db_store.specs.declared.key.VarKey.TheVariants as key
use Rattle.db_decide.proofs.Numbering.{numbers_pushed, found_pushed, part_numbered}
use Rattle.db_decide.proofs.taking.numbers_of.Goals as goal

pub loop-part-init : goal.loop-part-init
loop-part-init c = λ part there. absurd (contains_none part there)

pub loop-part-preserved : goal.loop-part-preserved
loop-part-preserved c =
    let store = c.args.store.now in
    let loop = c.loop-part in
    let new = c.push_found.new.numbers.items in
    part_numbered c.args.parts.now loop.part-index Start c.loop-part-test.true
    (λ (part : Part). (number : ℕ) → slice_get store.keys number ≡ Some (key.Part c.args.place part) → Contains new number)
    (λ part there number at. numbers_pushed loop.numbers.items new c.find_variable.result c.in_ok-push_found.ensures number (loop.invariant part there number at))
    (λ number at. found_pushed store.keys c.is_sound.ensures.keys_once _ c.find_variable.result c.find_variable.ensures loop.numbers.items new c.in_ok-push_found.ensures number at)

pub returns : goal.returns
returns c = λ part number there at.
    c.loop-part.invariant part (subst (λ (list : List Part). Contains list part) (sym (take_all c.loop-part.part-index c.args.parts.now c.loop-part-test.false)) there) number at
