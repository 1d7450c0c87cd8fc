-- What names mean in a block of a rule.
use Rattle.std.specs.Prelude.{◌≡◌, List, [], ◌∷◌, ◌++◌, Some, length, take}
use Rattle.nddl_ast.specs.declared.name.Name.{Name}
use Rattle.nddl_resolve.specs.declared.denoted.Denoted.{Denoted}
use Rattle.nddl_resolve.specs.declared.denoted.Seen.{Seen}
use Rattle.nddl_resolve.specs.declared.denoted.TokenSort.{TokenSort}
use Rattle.nddl_resolve.specs.Paths.{Surroundings}
use Rattle.nddl_resolve.specs.Seen.{seen_as}
use Rattle.nddl_rule_check.specs.declared.visible.SeenUntil.{SeenUntil}

-- the token of a rule alone
abbrev pub token_alone : TokenSort → Surroundings
token_alone token = record { formals = []; turns = []; locals = []; labels = []; token = Some token }

-- a variable of `foreach` more
abbrev pub seeing_turn : Surroundings → Name → Denoted → Surroundings
seeing_turn around name meant = record {
  formals = around.formals;
  turns = around.turns ++ seen_as name.text meant ∷ [];
  locals = around.locals;
  labels = around.labels;
  token = around.token;
}

-- a local more
abbrev pub seeing_local : Surroundings → Name → Denoted → Surroundings
seeing_local around name meant = record {
  formals = around.formals;
  turns = around.turns;
  locals = around.locals ++ seen_as name.text meant ∷ [];
  labels = around.labels;
  token = around.token;
}

-- a label more
abbrev pub seeing_label : Surroundings → Name → Denoted → Surroundings
seeing_label around name meant = record {
  formals = around.formals;
  turns = around.turns;
  locals = around.locals;
  labels = around.labels ++ seen_as name.text meant ∷ [];
  token = around.token;
}

-- how many names of each sort there are
abbrev pub until_of : Surroundings → SeenUntil
until_of around = record { turns = length around.turns; locals = length around.locals; labels = length around.labels }

-- the first so many of each sort
abbrev pub seen_until : Surroundings → SeenUntil → Surroundings
seen_until around until = record {
  formals = around.formals;
  turns = take until.turns around.turns;
  locals = take until.locals around.locals;
  labels = take until.labels around.labels;
  token = around.token;
}

-- the new one has what the old one has, and perhaps further names behind
pub record SeesMore (old new : Surroundings) : Type 0 where
  pub turns : List Seen
  pub locals : List Seen
  pub labels : List Seen
  pub is : new ≡ record {
    formals = old.formals;
    turns = old.turns ++ turns;
    locals = old.locals ++ locals;
    labels = old.labels ++ labels;
    token = old.token;
  }
