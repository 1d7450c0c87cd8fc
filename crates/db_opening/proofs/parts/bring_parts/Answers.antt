use Rattle.std.proofs.Common.{◌<◌, List, length, take, get_or, sym, subst}
use Rattle.std.proofs.lemmas.List.{take_more, take_all}
use Rattle.std.proofs.lemmas.List.Elements.{Contains-get_or}
use Rattle.std.proofs.lemmas.Result.{err_from_is_err_and}
use Rattle.eu_name.specs.declared.name.Part.{Part}
use Rattle.eu_name.specs.declared.name.Part.TheVariants.{Start}
use Rattle.token_store.specs.Tokens.{TokenPast, tokens_now}
use Rattle.db_opening.specs.Bringing.{BringsKeys}
use Rattle.db_opening.specs.Parts.{slot_asked, WantsParts}
use Rattle.db_opening.proofs.Parting.{no_parts, parts_more, part_fails}
use Rattle.db_posting.proofs.Storing.{marks_same, marks_both}
use Rattle.db_opening.proofs.parts.bring_parts.Goals as goal

pub loop-part-init : goal.loop-part-init
loop-part-init c = record {
  brings = no_parts c.args.model.now (slot_asked c.args.asked.now) c.args.place c.args.store.now;
  marks = marks_same _;
}

pub bring_part-requires-clause-token : goal.bring_part-requires-clause-token
bring_part-requires-clause-token c =
    subst (λ (past : TokenPast). c.args.place < length (tokens_now past)) (sym c.loop-part.invariant.brings.rest.past) c.requires.token

pub bring_part-requires-clause-there : goal.bring_part-requires-clause-there
bring_part-requires-clause-there c = c.requires.are c.loop-part.part-index _ c.loop-part-test.true

pub loop-part-preserved : goal.loop-part-preserved
loop-part-preserved c =
    let parts = c.args.parts.now in
    let index = c.loop-part.part-index in
    let slot = slot_asked c.args.asked.now in
    record {
      brings = subst (λ (list : List Part). BringsKeys (WantsParts c.args.model.now slot c.args.place list) c.args.store.now c.bring_part.new.store)
          (sym (take_more parts index Start c.loop-part-test.true))
          (parts_more c.args.model.now slot c.args.place (take index parts) (get_or parts index Start)
          c.args.store.now c.loop-part.store c.bring_part.new.store c.loop-part.invariant.brings c.in_ok-bring_part.ensures.brings);
      marks = marks_both _ _ _ c.loop-part.invariant.marks c.in_ok-bring_part.ensures.marks;
    }

pub returns-clause-brings : goal.returns-clause-brings
returns-clause-brings c =
    subst (λ (list : List Part). BringsKeys (WantsParts c.args.model.now (slot_asked c.args.asked.now) c.args.place list) c.args.store.now c.loop-part.store)
    (take_all c.loop-part.part-index c.args.parts.now c.loop-part-test.false) c.loop-part.invariant.brings

pub returns-in_err-bring_part-clause-brings : goal.returns-in_err-bring_part-clause-brings
returns-in_err-bring_part-clause-brings c =
    let parts = c.args.parts.now in
    let index = c.loop-part.part-index in
    let slot = slot_asked c.args.asked.now in
    let p = err_from_is_err_and c.from_residual.result c.from_residual.ensures.1 in
    rw (p.1, p.2)
    (part_fails c.args.model.now slot c.args.place parts (get_or parts index Start)
    (Contains-get_or parts index Start c.loop-part-test.true) c.args.store.now c.loop-part.store c.bring_part.new.store c.in_err-bring_part.field-0.0
    c.in_err-bring_part.ensures.brings)

pub returns-in_err-bring_part-clause-marks : goal.returns-in_err-bring_part-clause-marks
returns-in_err-bring_part-clause-marks c =
    marks_both _ _ _ c.loop-part.invariant.marks c.in_err-bring_part.ensures.marks
