use Rattle.std.proofs.Common.{◌∙◌, ap}
use Rattle.std.specs.List.{filter}
use Rattle.nddl_hierarchy.specs.Facts.{facts_of}
use Rattle.nddl_construction.specs.Classes.{is_adding}
use Rattle.nddl_objects.specs.Construction.{construction_of, subject_of}
use Rattle.nddl_objects.specs.Made.{fields_of}
use Rattle.nddl_objects.proofs.Deeper.{finished_one}
use Rattle.nddl_objects.proofs.running.finish.Goals as goal

pub returns : goal.returns
returns c =
    finished_one (facts_of c.args.blueprint.now.footing.basis) (subject_of c.args.subject.now) c.args.class
    (construction_of c.args.making.now) c.note_finished.new.first c.as_slice.result.now c.fields_of.result.now
    c.note_finished.result (ap (filter (is_adding (facts_of c.args.blueprint.now.footing.basis))) c.as_slice.ensures.value ∙ c.in_ok-line.ensures)
    (c.fields_of.ensures ∙ ap (λ objects. fields_of objects c.args.subject.now.number) c.as_slice-2.ensures.value)
    c.note_finished.ensures
