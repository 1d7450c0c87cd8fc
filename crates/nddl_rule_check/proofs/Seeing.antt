-- What is seen in a block, and forgotten behind it.
use Rattle.std.proofs.Common.{◌≡◌, List, [], ◌∷◌, ◌++◌, length, take, refl, sym, ◌∙◌, ap}
use Rattle.std.proofs.lemmas.List.{append-nil, append_assoc}
use Rattle.nddl_ast.specs.declared.name.Name.{Name}
use Rattle.nddl_resolve.specs.declared.denoted.Denoted.{Denoted}
use Rattle.nddl_resolve.specs.Paths.{Surroundings}
use Rattle.nddl_resolve.specs.Seen.{seen_as}
use Rattle.nddl_rule_check.specs.declared.visible.SeenUntil.{SeenUntil}
use Rattle.nddl_rule_check.specs.Seeing.{SeesMore, seen_until, until_of, seeing_label, seeing_local, seeing_turn}

-- nothing came
pub sees_same : (around : Surroundings) → SeesMore around around
sees_same around = record {
  turns = [];
  locals = [];
  labels = [];
  is = λ i. record {
    formals = around.formals;
    turns = sym (append-nil around.turns) i;
    locals = sym (append-nil around.locals) i;
    labels = sym (append-nil around.labels) i;
    token = around.token;
  };
}

-- a variable of `foreach` came
pub sees_turn : (around : Surroundings) (name : Name) (meant : Denoted) → SeesMore around (seeing_turn around name meant)
sees_turn around name meant = record {
  turns = seen_as name.text meant ∷ [];
  locals = [];
  labels = [];
  is = λ i. record {
    formals = around.formals;
    turns = around.turns ++ seen_as name.text meant ∷ [];
    locals = sym (append-nil around.locals) i;
    labels = sym (append-nil around.labels) i;
    token = around.token;
  };
}

-- a local came
pub sees_local : (around : Surroundings) (name : Name) (meant : Denoted) → SeesMore around (seeing_local around name meant)
sees_local around name meant = record {
  turns = [];
  locals = seen_as name.text meant ∷ [];
  labels = [];
  is = λ i. record {
    formals = around.formals;
    turns = sym (append-nil around.turns) i;
    locals = around.locals ++ seen_as name.text meant ∷ [];
    labels = sym (append-nil around.labels) i;
    token = around.token;
  };
}

-- a label came
pub sees_label : (around : Surroundings) (name : Name) (meant : Denoted) → SeesMore around (seeing_label around name meant)
sees_label around name meant = record {
  turns = [];
  locals = [];
  labels = seen_as name.text meant ∷ [];
  is = λ i. record {
    formals = around.formals;
    turns = sym (append-nil around.turns) i;
    locals = sym (append-nil around.locals) i;
    labels = around.labels ++ seen_as name.text meant ∷ [];
    token = around.token;
  };
}

-- one step and then another
pub sees_on : (one two three : Surroundings) → SeesMore one two → SeesMore two three → SeesMore one three
sees_on one two three first second = record {
  turns = first.turns ++ second.turns;
  locals = first.locals ++ second.locals;
  labels = first.labels ++ second.labels;
  is = second.is
      ∙ (ap (λ (around : Surroundings). record {
        formals = around.formals;
        turns = around.turns ++ second.turns;
        locals = around.locals ++ second.locals;
        labels = around.labels ++ second.labels;
        token = around.token;
      }) first.is
      ∙ (λ i. record {
        formals = one.formals;
        turns = append_assoc one.turns first.turns second.turns i;
        locals = append_assoc one.locals first.locals second.locals i;
        labels = append_assoc one.labels first.labels second.labels i;
        token = one.token;
      }));
}

-- ---- forgetting

taken : {X : Type 0} (some more : List X) → take (length some) (some ++ more) ≡ some
taken [] more = refl
taken (x ∷ some) more = ap (λ rest. x ∷ rest) (taken some more)

-- what came since then is forgotten
pub forgotten : (old now new : Surroundings) (until : SeenUntil) → until ≡ until_of old → SeesMore old now → new ≡ seen_until now until → new ≡ old
forgotten old now new until until_is sees new_is =
    new_is
    ∙ (ap (seen_until now) until_is
    ∙ (ap (λ (around : Surroundings). seen_until around (until_of old)) sees.is
    ∙ (λ i. record {
      formals = old.formals;
      turns = taken old.turns sees.turns i;
      locals = taken old.locals sees.locals i;
      labels = taken old.labels sees.labels i;
      token = old.token;
    })))
