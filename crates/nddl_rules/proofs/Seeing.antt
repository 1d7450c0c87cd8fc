-- What is seen in a block, and forgotten behind it.
use Rattle.std.proofs.Common.{◌≡◌, ℕ, List, [], ◌∷◌, ◌++◌, length, take, refl, sym, ◌∙◌, ap}
use Rattle.std.proofs.lemmas.List.{append-nil, append_assoc}
use Rattle.nddl_rules.specs.declared.sight.SightUntil.{SightUntil}
use Rattle.nddl_rules.specs.Sight.{Sight, SeesFurther, cut_sight, sight_until, with_label, with_rule_local, with_turn}

-- nothing came
pub further_same : (sight : Sight) → SeesFurther sight sight
further_same sight = record {
  turns = [];
  locals = [];
  labels = [];
  is = λ i. record {
    turns = sym (append-nil sight.turns) i;
    locals = sym (append-nil sight.locals) i;
    labels = sym (append-nil sight.labels) i;
  };
}

-- a variable of `foreach` came
pub further_turn : (sight : Sight) (name : List ℕ) (number : ℕ) → SeesFurther sight (with_turn sight name number)
further_turn sight name number = record {
  turns = (name, number) ∷ [];
  locals = [];
  labels = [];
  is = λ i. record {
    turns = sight.turns ++ (name, number) ∷ [];
    locals = sym (append-nil sight.locals) i;
    labels = sym (append-nil sight.labels) i;
  };
}

-- a local came
pub further_local : (sight : Sight) (name : List ℕ) (number : ℕ) → SeesFurther sight (with_rule_local sight name number)
further_local sight name number = record {
  turns = [];
  locals = (name, number) ∷ [];
  labels = [];
  is = λ i. record {
    turns = sym (append-nil sight.turns) i;
    locals = sight.locals ++ (name, number) ∷ [];
    labels = sym (append-nil sight.labels) i;
  };
}

-- a label came
pub further_label : (sight : Sight) (name : List ℕ) (number : ℕ) → SeesFurther sight (with_label sight name number)
further_label sight name number = record {
  turns = [];
  locals = [];
  labels = (name, number) ∷ [];
  is = λ i. record {
    turns = sym (append-nil sight.turns) i;
    locals = sym (append-nil sight.locals) i;
    labels = sight.labels ++ (name, number) ∷ [];
  };
}

-- one step and then another
pub further_on : (one two three : Sight) → SeesFurther one two → SeesFurther two three → SeesFurther one three
further_on one two three first second = record {
  turns = first.turns ++ second.turns;
  locals = first.locals ++ second.locals;
  labels = first.labels ++ second.labels;
  is = second.is
      ∙ (ap (λ (sight : Sight). record {
        turns = sight.turns ++ second.turns;
        locals = sight.locals ++ second.locals;
        labels = sight.labels ++ second.labels;
      }) first.is
      ∙ (λ i. record {
        turns = append_assoc one.turns first.turns second.turns i;
        locals = append_assoc one.locals first.locals second.locals i;
        labels = append_assoc one.labels first.labels second.labels i;
      }));
}

-- ---- forgetting

taken : {X : Type 0} (some more : List X) → take (length some) (some ++ more) ≡ some
taken [] more = refl
taken (x ∷ some) more = ap (λ rest. x ∷ rest) (taken some more)

-- what came since then is forgotten
pub forgotten : (old now new : Sight) (until : SightUntil) → until ≡ sight_until old → SeesFurther old now → new ≡ cut_sight now until → new ≡ old
forgotten old now new until until_is sees new_is =
    new_is
    ∙ (ap (cut_sight now) until_is
    ∙ (ap (λ (sight : Sight). cut_sight sight (sight_until old)) sees.is
    ∙ (λ i. record {
      turns = taken old.turns sees.turns i;
      locals = taken old.locals sees.locals i;
      labels = taken old.labels sees.labels i;
    })))
