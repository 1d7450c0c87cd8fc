-- What is known where a rule is unrolled.
use Rattle.std.specs.Prelude.{ℕ, List, []}
use Rattle.model_core.specs.declared.class.Object.{Object}
use Rattle.nddl_terms.specs.declared.tree.ReadName.{ReadName}
use Rattle.nddl_terms.specs.declared.lexicon.Lexicon.{Lexicon}
use Rattle.nddl_terms.specs.declared.stands.Reading as code
use Rattle.nddl_terms.specs.declared.stands.TextPlaces.{TextPlaces}

-- the text declares neither turns nor locals nor slots
abbrev pub no_places : TextPlaces
no_places = record { turns = []; locals = []; slots = [] }

-- classes, predicates and names of the files; the objects; what the names in the rule mean, and where its text declares
-- things; the predicate whose rule it is
pub record Readings : Type 0 where
  pub lexicon : Lexicon
  pub objects : List Object
  pub names : List ReadName
  pub places : TextPlaces
  pub pred : ℕ

abbrev pub readings_of : code.Reading → Readings
readings_of reading = record {
  lexicon = reading.lexicon.now;
  objects = reading.objects.now;
  names = reading.names.names.now;
  places = reading.places.now;
  pred = reading.pred;
}
