-- What the names mean that the text of a rule declares, by number.
use Rattle.std.specs.Prelude.{◌≡◌, ℕ, List, [], ◌∷◌, ◌++◌, length, take}
use Rattle.eu_index.specs.Index.{Noted}
use Rattle.nddl_rules.specs.declared.sight.SightUntil.{SightUntil}

-- what is seen in a block: the variables of `foreach`, the locals and the labels, each with its number, and of each sort the
-- innermost last
pub record Sight : Type 0 where
  pub turns : Noted
  pub locals : Noted
  pub labels : Noted

-- nothing
abbrev pub no_sight : Sight
no_sight = record { turns = []; locals = []; labels = [] }

-- a variable of `foreach` more
abbrev pub with_turn : Sight → List ℕ → ℕ → Sight
with_turn sight name number =
    record { turns = sight.turns ++ (name, number) ∷ []; locals = sight.locals; labels = sight.labels }

-- a local more
abbrev pub with_rule_local : Sight → List ℕ → ℕ → Sight
with_rule_local sight name number =
    record { turns = sight.turns; locals = sight.locals ++ (name, number) ∷ []; labels = sight.labels }

-- a label more
abbrev pub with_label : Sight → List ℕ → ℕ → Sight
with_label sight name number =
    record { turns = sight.turns; locals = sight.locals; labels = sight.labels ++ (name, number) ∷ [] }

-- how many of each sort are seen
abbrev pub sight_until : Sight → SightUntil
sight_until sight = record { turns = length sight.turns; locals = length sight.locals; labels = length sight.labels }

-- the first so many of each sort
abbrev pub cut_sight : Sight → SightUntil → Sight
cut_sight sight until = record {
  turns = take until.turns sight.turns;
  locals = take until.locals sight.locals;
  labels = take until.labels sight.labels;
}

-- the new one has what the old one has, and perhaps further names behind
pub record SeesFurther (old new : Sight) : Type 0 where
  pub turns : Noted
  pub locals : Noted
  pub labels : Noted
  pub is : new ≡ record {
    turns = old.turns ++ turns;
    locals = old.locals ++ locals;
    labels = old.labels ++ labels;
  }
