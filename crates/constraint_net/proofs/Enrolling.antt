-- The agenda while variables and constraints come and go.
use Rattle.std.proofs.Common.{◌≡◌, ℕ, zero, suc, ◌<◌, ◌≤◌, pos, List, [], ◌∷◌, ◌++◌, length, take, get_or, Some, slice_get, ◌⊎◌, inl, inr, length-append, refl, sym, ap, subst, arith}
use Rattle.std.specs.Prelude.{All, Contains, Option, IsSomeAnd, Ok}
use Rattle.std.proofs.lemmas.Bool.{cases_eq}
use Rattle.std.proofs.lemmas.List.{length_push, length-take, get_or_append_left}
use Rattle.std.proofs.lemmas.List.Elements.{All-head, All-tail}
use Rattle.std.proofs.lemmas.Option.{slice_get_within, get_or_from_slice_get}
use Rattle.domain_core.specs.Domain.{Domain, Range}
use Rattle.domain_core.specs.Consistency.{Values, AreConsistent}
use Rattle.domain_core.specs.Constraints.{AgreeOn, IsFieldOf}
use Rattle.domain_core.specs.declared.kind.Kind.TheVariants as kinds
use Rattle.narrow_core.specs.Meanings.{IsInTable}
use Rattle.domain_core.specs.declared.kind.Kind.{Kind}
use Rattle.narrow_core.specs.declared.field.Field.{Field}
use Rattle.constraint_net.specs.Agendas.{HasVariables, Grows, Enrols, Forgets, Waits}
use Rattle.constraint_net.specs.Arguments.{IsArgument, domains_of}
use Rattle.constraint_net.specs.Networks.{IsAllowed, AllConsistent, field_of}
use Rattle.constraint_net.specs.Queues.{Queued}
use Rattle.constraint_net.specs.Waiting.{NameWithin, WerePosted, IsKeptAgenda}
use Rattle.constraint_net.specs.declared.agenda.Agenda.{Agenda}
use Rattle.constraint_net.specs.declared.constraint.NetArg.{NetArg}
use Rattle.constraint_net.specs.declared.constraint.NetArg.TheVariants.{Var, Lit}
use Rattle.constraint_net.specs.declared.constraint.Constraint.{Constraint}
use Rattle.constraint_net.proofs.Within.{argument_along}

-- ---- lists

pub get_push : {X : Type 0} (xs : List X) (y found : X) (n : ℕ) → slice_get (xs ++ y ∷ []) n ≡ Some found → (slice_get xs n ≡ Some found) ⊎ ((n ≡ length xs) × (y ≡ found))
get_push [] y found zero is = inr (refl, cc is)
get_push [] y found (suc n) is = absurd (cc is)
get_push (x ∷ xs) y found zero is = inl is
get_push (x ∷ xs) y found (suc n) is = elim (get_push xs y found n is) [
  | inl before ↦ inl before
  | inr last ↦ inr (ap suc last.0, last.1)
]

get_take : {X : Type 0} (count : ℕ) (xs : List X) (found : X) (n : ℕ) → slice_get (take count xs) n ≡ Some found → (n < count) × (slice_get xs n ≡ Some found)
get_take zero xs found n is = absurd (cc is)
get_take (suc count) [] found n is = absurd (cc is)
get_take (suc count) (x ∷ xs) found zero is = (omega arith, is)
get_take (suc count) (x ∷ xs) found (suc n) is = let rest = get_take count xs found n is in (omega (arith, rest.0), rest.1)

pub named_more : (count more : ℕ) (constraints : List Constraint) → count ≤ more → NameWithin count constraints → NameWithin more constraints
named_more count more constraints le named = λ k d below. (λ at e within. argument_along count more (get_or (get_or constraints k d).args at e) le (named k d below at e within))

-- the domains of arguments that were there before a variable came
more_variables : (args : List NetArg) (domains : List Domain) (domain : Domain) → All (IsArgument (length domains)) args → domains_of (domains ++ domain ∷ []) args ≡ domains_of domains args
more_variables [] domains domain are = refl
more_variables (Lit value ∷ args) domains domain are = ap (λ list. Range value value ∷ list) (more_variables args domains domain (All-tail (IsArgument (length domains)) (Lit value) args are))
more_variables (Var variable ∷ args) domains domain are =
    let head = get_or_append_left domains (domain ∷ []) (Range (pos 0) (pos 0)) variable (All-head (IsArgument (length domains)) (Var variable) args are) in
    let tail = more_variables args domains domain (All-tail (IsArgument (length domains)) (Var variable) args are) in
    (λ i. head i ∷ tail i)

-- ---- the agenda

-- nothing is lost where there is room for more
pub kept_grown : (tables : List Field) (constraints : List Constraint) (domains : List Domain) (old new : Agenda) → Grows old new → IsKeptAgenda tables constraints domains old → IsKeptAgenda tables constraints domains new
kept_grown tables constraints domains old new grows kept = record {
  variables = record { watchers = omega (arith, kept.variables.watchers, grows.lists); changed = omega (arith, kept.variables.changed, grows.places) };
  room = omega (arith, kept.room, grows.room);
  watched = λ number constraint found variable member. grows.watching variable number (kept.watched number constraint found variable member);
  covered = λ number. elim (kept.covered number) [
    | inl waits ↦ inl (grows.waiting number waits)
    | inr is ↦ inr is
  ];
}

-- a variable more
pub kept_variable : (tables : List Field) (constraints : List Constraint) (domains : List Domain) (domain : Domain) (agenda : Agenda) → NameWithin (length domains) constraints → HasVariables (length (domains ++ domain ∷ [])) agenda
    → IsKeptAgenda tables constraints domains agenda → IsKeptAgenda tables constraints (domains ++ domain ∷ []) agenda
kept_variable tables constraints domains domain agenda named has kept = record {
  variables = has;
  room = kept.room;
  watched = kept.watched;
  covered = λ number. elim (kept.covered number) [
    | inl waits ↦ inl waits
    | inr is ↦ inr (λ constraint found.
        let below = slice_get_within constraints number constraint found in
        let one = get_or_from_slice_get constraints number constraint constraint found in
        let are = subst (λ (c : Constraint). All (IsArgument (length domains)) c.args) one (named number constraint below) in
        subst (AgreeOn (field_of tables) constraint.kind) (sym (more_variables constraint.args domains domain are)) (is constraint found))
  ];
}

-- a constraint more, which waits
pub kept_enrolled : (tables : List Field) (constraints : List Constraint) (domains : List Domain) (kind : Kind) (args : List NetArg) (old new : Agenda) → Enrols (length constraints) args old (Ok tt) new
    → IsKeptAgenda tables constraints domains old → IsKeptAgenda tables (constraints ++ record { kind = kind; args = args } ∷ []) domains new
kept_enrolled tables constraints domains kind args old new enrols kept =
    let one : Constraint = record { kind = kind; args = args } in
    let grown = kept_grown tables constraints domains old new enrols.grows kept in
    record {
      variables = grown.variables;
      room = omega (arith, enrols.room, length_push constraints one);
      watched = λ number constraint found variable member. elim (get_push constraints one constraint number found) [
        | inl before ↦ grown.watched number constraint before variable member
        | inr last ↦ subst (λ n. Contains (get_or new.watchers variable []) n) (sym last.0)
            (enrols.watches variable (subst (λ (c : Constraint). Contains c.args (Var variable)) (sym last.1) member))
      ];
      covered = λ number. elim (cases_eq number (length constraints)) [
        | inl same ↦ inl (subst (Waits new) (sym same) enrols.waits)
        | inr apart ↦ elim (grown.covered number) [
          | inl waits ↦ inl waits
          | inr is ↦ inr (λ constraint found. elim (get_push constraints one constraint number found) [
            | inl before ↦ is constraint before
            | inr last ↦ absurd (apart last.0)
          ])
        ]
      ];
    }

-- fewer constraints
pub kept_first : (tables : List Field) (constraints : List Constraint) (domains : List Domain) (count : ℕ) (agenda : Agenda) → IsKeptAgenda tables constraints domains agenda → IsKeptAgenda tables (take count constraints) domains agenda
kept_first tables constraints domains count agenda kept = record {
  variables = kept.variables;
  room = omega (arith, kept.room, length-take count constraints);
  watched = λ number constraint found variable member. kept.watched number constraint (get_take count constraints constraint number found).1 variable member;
  covered = λ number. elim (kept.covered number) [
    | inl waits ↦ inl waits
    | inr is ↦ inr (λ constraint found. is constraint (get_take count constraints constraint number found).1)
  ];
}

-- what is forgotten isn't theirs
pub kept_forgetting : (tables : List Field) (constraints : List Constraint) (domains : List Domain) (count : ℕ) (old new : Agenda) → length constraints ≤ count → Forgets count old new
    → IsKeptAgenda tables constraints domains old → IsKeptAgenda tables constraints domains new
kept_forgetting tables constraints domains count old new low forgets kept = record {
  variables = record { watchers = omega (arith, kept.variables.watchers, forgets.watchers.lists); changed = omega (arith, kept.variables.changed, ap (λ (q : Queued). q.room) forgets.changed) };
  room = omega (arith, kept.room, ap (λ (q : Queued). q.room) forgets.waiting);
  watched = λ number constraint found variable member.
      forgets.watchers.below variable number (omega (arith, low, slice_get_within constraints number constraint found)) (kept.watched number constraint found variable member);
  covered = λ number. elim (kept.covered number) [
    | inl waits ↦ inl (subst (λ (q : Queued). Contains q.items number) (sym forgets.waiting) waits)
    | inr is ↦ inr is
  ];
}

-- ---- tables

get_left : {X : Type 0} (xs ys : List X) (n : ℕ) → n < length xs → slice_get (xs ++ ys) n ≡ slice_get xs n
get_left [] ys n below = absurd (omega arith)
get_left (x ∷ xs) ys zero below = refl
get_left (x ∷ xs) ys (suc n) below = get_left xs ys n (omega arith)

allowed_more : (tables more : List Field) (kind : Kind) (args : List NetArg) → IsAllowed tables kind args → IsAllowed (tables ++ more) kind args
allowed_more tables more kinds.Eq args is = tt
allowed_more tables more kinds.Neq args is = tt
allowed_more tables more kinds.Lt args is = tt
allowed_more tables more kinds.Leq args is = tt
allowed_more tables more kinds.AddEq args is = tt
allowed_more tables more kinds.MulEq args is = is
allowed_more tables more kinds.TestEq args is = tt
allowed_more tables more kinds.TestLeq args is = tt
allowed_more tables more kinds.AllDiff args is = is
allowed_more tables more (kinds.Field number) args is = omega (arith, is, length-append tables more)

-- a field is in the table that it was in
agree_more : (tables more : List Field) (kind : Kind) (args : List NetArg) (domains : List Domain) → IsAllowed tables kind args → AgreeOn (field_of tables) kind domains → AgreeOn (field_of (tables ++ more)) kind domains
agree_more tables more kinds.Eq args domains is agree = agree
agree_more tables more kinds.Neq args domains is agree = agree
agree_more tables more kinds.Lt args domains is agree = agree
agree_more tables more kinds.Leq args domains is agree = agree
agree_more tables more kinds.AddEq args domains is agree = agree
agree_more tables more kinds.MulEq args domains is agree = agree
agree_more tables more kinds.TestEq args domains is agree = agree
agree_more tables more kinds.TestLeq args domains is agree = agree
agree_more tables more kinds.AllDiff args domains is agree = agree
agree_more tables more (kinds.Field number) args domains is agree = subst in_table (sym (get_left tables more number is)) agree
  where
    in_table : Option Field → Type 0
    in_table some = AreConsistent Values (IsFieldOf (λ object value. IsSomeAnd some (λ t. IsInTable t.entries object value))) domains

pub posted_tables : (tables more : List Field) (count : ℕ) (constraints : List Constraint) → WerePosted tables count constraints → WerePosted (tables ++ more) count constraints
posted_tables tables more count constraints posted = λ k d below. record {
  arguments = (posted k d below).arguments;
  count = (posted k d below).count;
  allowed = allowed_more tables more (get_or constraints k d).kind (get_or constraints k d).args (posted k d below).allowed;
}

-- constraints that are consistent are so with more tables
pub all_tables : (tables more : List Field) (count : ℕ) (constraints : List Constraint) (domains : List Domain) → WerePosted tables count constraints → AllConsistent tables constraints domains
    → AllConsistent (tables ++ more) constraints domains
all_tables tables more count constraints domains posted all = λ k d below.
    let one = get_or constraints k d in
    agree_more tables more one.kind one.args (domains_of domains one.args) (posted k d below).allowed (all k d below)

pub kept_tables : (tables more : List Field) (constraints : List Constraint) (domains : List Domain) (agenda : Agenda) → WerePosted tables (length domains) constraints → IsKeptAgenda tables constraints domains agenda
    → IsKeptAgenda (tables ++ more) constraints domains agenda
kept_tables tables more constraints domains agenda posted kept = record {
  variables = kept.variables;
  room = kept.room;
  watched = kept.watched;
  covered = λ number. elim (kept.covered number) [
    | inl waits ↦ inl waits
    | inr is ↦ inr (λ constraint found.
        let below = slice_get_within constraints number constraint found in
        let one = get_or_from_slice_get constraints number constraint constraint found in
        let allowed = subst (λ (c : Constraint). IsAllowed tables c.kind c.args) one (posted number constraint below).allowed in
        agree_more tables more constraint.kind constraint.args (domains_of domains constraint.args) allowed (is constraint found))
  ];
}
