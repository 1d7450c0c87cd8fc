-- What a network keeps stays so, and what its calls say of it.
use Rattle.std.proofs.Common.{◌≡◌, ℕ, ◌+◌, ◌<◌, ◌≤◌, ℤ, List, [], ◌∷◌, ◌++◌, length, take, get_or, pos, inl, inr, length-append, refl, sym, ap, ◌∙◌, subst, arith}
use Rattle.std.specs.Prelude.{◌↔◌, Bool, true, false, All, Contains, Vec, Option, Some, None, MatchOption, IsTrue, OnOk, OnErr, IsErr, Result, Ok, Err}
use Rattle.std.proofs.lemmas.List.{append-nil, length_push, length-take}
use Rattle.std.proofs.lemmas.Option.{slice_get_within}
use Rattle.std.proofs.lemmas.List.Elements.{All-append, All-cons, All-nil, All-push, All-set}
use Rattle.std.proofs.Math.Seq.{take-append_seam}
use Rattle.std.specs.declared.alloc.AllocError.{AllocError}
use Rattle.std.specs.declared.alloc.Global.{Global}
use Rattle.domain_core.specs.Domain.{Domain, Range, IsDomain, IsWithin}
use Rattle.domain_core.specs.Narrowing.{Keeps}
use Rattle.domain_core.specs.declared.Change.{Change}
use Rattle.domain_core.specs.declared.Change.TheVariants.{Same, Smaller, Empty}
use Rattle.domain_core.proofs.Words.{IsWithin-refl}
use Rattle.cell_store.specs.Cells.{Celled, present, newest_of, domain_at, AddsCell, IsPlace, GoesBack, KeepsPast}
use Rattle.domain_core.specs.declared.kind.Kind.{Kind}
use Rattle.narrow_core.specs.Laws.{LieWithin}
use Rattle.narrow_core.specs.declared.field.Field.{Field}
use Rattle.constraint_net.specs.Agendas.{quiet_of, HasVariables, Grows, WaitsAlone, Enrols, AlertsAfter, LimitAlerts, Alerts, TurnsBack, Forgets}
use Rattle.constraint_net.specs.Arguments.{IsArgument}
use Rattle.constraint_net.specs.Calls.{AddsVar, Posts, Limits, GoesDown, Notes, TakesChanged}
use Rattle.constraint_net.specs.Limits.{LimitsCell}
use Rattle.constraint_net.specs.Marks.{WereConsistent, IsMark, IsLatest, CanReturn, KeepMarks, LeavesToDo, Returns}
use Rattle.constraint_net.specs.Moves.{IsSound, Sinks}
use Rattle.constraint_net.specs.Networks.{Network, CanPost, IsIdle, cells_of}
use Rattle.constraint_net.specs.Waiting.{WerePosted, NameWithin, IsKeptAgenda}
use Rattle.constraint_net.specs.Steps.{Advances, PropagatesTo}
use Rattle.constraint_net.specs.Kept.{older_of, network_of, IsKeptNet}
use Rattle.constraint_net.specs.declared.constraint.NetArg.{NetArg}
use Rattle.constraint_net.specs.declared.constraint.Constraint.{Constraint}
use Rattle.constraint_net.specs.declared.domains.Domains.{Domains}
use Rattle.constraint_net.specs.declared.network.Mark.{Mark}
use Rattle.constraint_net.specs.declared.NetFault.{NetFault}
use Rattle.constraint_net.specs.declared.NetFault.TheVariants.{Collapsed, Memory}
use Rattle.constraint_net.proofs.Moving.{same_end, follows, sound_along, sinks_cell, limit_at}
use Rattle.constraint_net.specs.Queues.{AreFrom, Queued}
use Rattle.constraint_net.specs.declared.agenda.Agenda.{Agenda}
use Rattle.constraint_net.proofs.Turns.{still_posted, named, all_at, all_from_each}
use Rattle.constraint_net.proofs.Quiet.{same_quiet, more_quiet, quiet_all}
use Rattle.constraint_net.proofs.Alerting.{kept_on, notes_of}
use Rattle.constraint_net.proofs.Enrolling.{kept_grown, kept_variable, kept_enrolled, kept_first, kept_forgetting, posted_tables, kept_tables, named_more}
use Rattle.constraint_net.proofs.Within.{argument_along, set_within, within_length}

-- ---- the value

pub past_is : (past : List (List Domain)) → 0 < length past → newest_of past ∷ older_of past ≡ past
past_is [] some = absurd (omega arith)
past_is (domains ∷ past) some = refl

pub celled_is : (domains : Domains) (tables : Vec Field Global) (constraints : List Constraint) (marked : ℕ) → 0 < length domains.cells.past → cells_of (network_of domains tables constraints marked) ≡ domains.cells
celled_is domains tables constraints marked some = λ i. record { past = past_is domains.cells.past some i; stamps = domains.cells.stamps }

-- what can be gone back to has the present at least
pub some_past : (marked : ℕ) (cells : Celled) → IsSound marked cells → 0 < length cells.past
some_past marked cells sound = omega (arith, sound.place)

-- ---- constraints

can_more : (tables : List Field) (count more : ℕ) (constraint : Constraint) → count ≤ more → CanPost tables count constraint.kind constraint.args → CanPost tables more constraint.kind constraint.args
can_more tables count more constraint le can = record {
  arguments = λ k d below. argument_along count more (get_or constraint.args k d) le (can.arguments k d below);
  count = can.count;
  allowed = can.allowed;
}

-- there may be more variables
pub posted_more : (tables : List Field) (count more : ℕ) (constraints : List Constraint) → count ≤ more → WerePosted tables count constraints → WerePosted tables more constraints
posted_more tables count more constraints le posted = λ k d below. can_more tables count more (get_or constraints k d) le (posted k d below)

abbrev can_post : Domains → Vec Field Global → Constraint → Type 0
can_post domains tables constraint = CanPost tables.items (length (present domains.cells)) constraint.kind constraint.args

-- ---- the agenda alone

abbrev with_agenda : Domains → Agenda → Domains
with_agenda domains agenda = record domains { agenda = agenda }

module _ (net : Network) (domains : Domains) (tables : Vec Field Global) (constraints : List Constraint) (marked : ℕ) (agenda : Agenda) (view : network_of domains tables constraints marked ≡ net) (kept : IsKeptNet domains tables constraints marked) where
  pub kept_with : IsKeptAgenda tables.items constraints (present domains.cells) agenda → IsKeptNet (with_agenda domains agenda) tables constraints marked
  kept_with agenda_kept = record { posted = kept.posted; sound = kept.sound; agenda = agenda_kept }

  pub kept_enlarged : Grows domains.agenda agenda → IsKeptNet (with_agenda domains agenda) tables constraints marked
  kept_enlarged grows = kept_with (kept_grown tables.items constraints (present domains.cells) domains.agenda agenda grows kept.agenda)

  -- as many constraints stand before the first that waits
  abbrev StaysQuiet : Type 0
  StaysQuiet = quiet_of agenda.waiting.items (length constraints) ≡ quiet_of domains.agenda.waiting.items (length constraints)

  pub quiet_enrolled : Grows domains.agenda agenda → WaitsAlone (length constraints) domains.agenda agenda → StaysQuiet
  quiet_enrolled grows alone = same_quiet domains.agenda.waiting.items agenda.waiting.items (length constraints) grows.waiting alone

  -- then the list of what has changed is all that is seen of it
  pub seen_with : (changed : List ℕ) → agenda.changed.items ≡ changed → StaysQuiet → network_of (with_agenda domains agenda) tables constraints marked ≡ record net { changed = changed }
  seen_with changed is quiet = (λ i. record {
    domains = present domains.cells;
    tables = tables.items;
    constraints = constraints;
    work = domains.work;
    stamps = domains.cells.stamps;
    older = older_of domains.cells.past;
    marked = marked;
    changed = is i;
    quiet = quiet i;
  }) ∙ ap (λ (n : Network). record n { changed = changed }) view

  pub seen_same : Grows domains.agenda agenda → StaysQuiet → network_of (with_agenda domains agenda) tables constraints marked ≡ net
  seen_same grows quiet = seen_with domains.agenda.changed.items grows.changed quiet ∙ (λ i. record net { changed = (view i).changed })

  pub kept_posted : (new : List Constraint) (kind : Kind) (args : List NetArg) → CanPost net.tables (length net.domains) kind args → Enrols (length constraints) args domains.agenda (Ok tt) agenda
      → new ≡ constraints ++ record { kind = kind; args = args } ∷ [] → IsKeptNet (with_agenda domains agenda) tables new marked
  kept_posted new kind args can enrols more =
      let one : Constraint = record { kind = kind; args = args } in
      let here : can_post domains tables one = subst (λ (n : Network). CanPost n.tables (length n.domains) kind args) (sym view) can in
      subst (λ list. IsKeptNet (with_agenda domains agenda) tables list marked) (sym more) (record {
        posted = All-append (can_post domains tables) constraints (one ∷ []) kept.posted (All-cons (can_post domains tables) one [] here (All-nil (can_post domains tables)));
        sound = kept.sound;
        agenda = kept_enrolled tables.items constraints (present domains.cells) kind args domains.agenda agenda enrols kept.agenda;
      })

  pub posts_seen : (new : List Constraint) (kind : Kind) (args : List NetArg) → Enrols (length constraints) args domains.agenda (Ok tt) agenda → WaitsAlone (length constraints) domains.agenda agenda
      → new ≡ constraints ++ record { kind = kind; args = args } ∷ [] → Posts net kind args (Ok tt) (network_of (with_agenda domains agenda) tables new marked)
  posts_seen new kind args enrols alone more =
      let one : Constraint = record { kind = kind; args = args } in
      let quiet = quiet_enrolled enrols.grows alone in
      let longer : length new ≡ length constraints + 1 = ap length more ∙ length_push constraints one in
      let last : quiet_of agenda.waiting.items (length constraints + 1) ≡ quiet_of domains.agenda.waiting.items (length constraints) =
      more_quiet domains.agenda.waiting.items agenda.waiting.items (length constraints) enrols.grows.waiting alone enrols.waits in
      let still : quiet_of agenda.waiting.items (length new) ≡ quiet_of agenda.waiting.items (length constraints) =
      ap (quiet_of agenda.waiting.items) longer ∙ last ∙ sym quiet in
      (λ i. record (network_of (with_agenda domains agenda) tables constraints marked) { constraints = more i; quiet = still i })
      ∙ ap (λ (n : Network). record n { constraints = n.constraints ++ one ∷ [] }) (seen_same enrols.grows quiet)

  -- the constraint was put behind the others, or there was no memory for it
  pub posts_net : (new : List Constraint) (kind : Kind) (args : List NetArg) (result : Result (Unit {0}) AllocError) (number : ℕ) → number ≡ length constraints → CanPost net.tables (length net.domains) kind args
      → Enrols number args domains.agenda (Ok tt) agenda → WaitsAlone number domains.agenda agenda → OnOk result (new ≡ constraints ++ record { kind = kind; args = args } ∷ []) → OnErr result (new ≡ constraints)
      → IsKeptNet (with_agenda domains agenda) tables new marked × Posts net kind args result (network_of (with_agenda domains agenda) tables new marked)
  posts_net new kind args (Ok done) number at can enrols alone ok err = (
    kept_posted new kind args can (subst (λ n. Enrols n args domains.agenda (Ok tt) agenda) at enrols) ok,
    posts_seen new kind args (subst (λ n. Enrols n args domains.agenda (Ok tt) agenda) at enrols) (subst (λ n. WaitsAlone n domains.agenda agenda) at alone) ok,
  )
  posts_net new kind args (Err none) number at can enrols alone ok err = (
    subst (λ list. IsKeptNet (with_agenda domains agenda) tables list marked) (sym err) (kept_enlarged enrols.grows),
    ap (λ list. network_of (with_agenda domains agenda) tables list marked) err ∙ seen_same enrols.grows (quiet_enrolled enrols.grows (subst (λ n. WaitsAlone n domains.agenda agenda) at alone)),
  )

  quiet_by : {left : Queued} → agenda ≡ record domains.agenda { changed = left } → StaysQuiet
  quiet_by is = ap (λ (a : Agenda). quiet_of a.waiting.items (length constraints)) is

  -- the variable that had changed first was taken off
  pub asks_net : (result : Option ℕ) (left : Queued) → agenda ≡ record domains.agenda { changed = left }
      → MatchOption result ((domains.agenda.changed.items ≡ []) × (left ≡ domains.agenda.changed)) (λ variable. domains.agenda.changed.items ≡ variable ∷ left.items)
      → TakesChanged net result (network_of (with_agenda domains agenda) tables constraints marked)
  asks_net (Some variable) left is took = (
    left.items,
    (ap (λ (n : Network). n.changed) (sym view) ∙ took, seen_with left.items (ap (λ (a : Agenda). a.changed.items) is) (quiet_by is)),
  )
  asks_net None left is took = (
    ap (λ (n : Network). n.changed) (sym view) ∙ took.0,
    seen_with domains.agenda.changed.items (ap (λ (a : Agenda). a.changed.items) is ∙ ap (λ (q : Queued). q.items) took.1) (quiet_by is) ∙ (λ i. record net { changed = (view i).changed }),
  )

-- where there was no memory for it
pub not_posted : (old new : Network) (kind : Kind) (args : List NetArg) (result : Result (Unit {0}) AllocError) → IsErr result → new ≡ old → Posts old kind args result new
not_posted old new kind args (Ok done) failed same = absurd (cc failed)
not_posted old new kind args (Err none) failed same = same

-- the variables among the arguments have their lists
pub args_within : (net : Network) (domains : Domains) (tables : Vec Field Global) (constraints : List Constraint) (marked : ℕ) → network_of domains tables constraints marked ≡ net → IsKeptNet domains tables constraints marked
    → (args : List NetArg) → All (IsArgument (length net.domains)) args → All (IsArgument (length domains.agenda.watchers)) args
args_within net domains tables constraints marked view kept args are =
    let long : length (present domains.cells) ≡ length net.domains = ap (λ (n : Network). length n.domains) view in
    (λ k d below. argument_along (length net.domains) (length domains.agenda.watchers) (get_or args k d) (omega (arith, long, kept.agenda.variables.watchers)) (are k d below))

-- a table more
pub kept_with_table : (domains : Domains) (old new : Vec Field Global) (constraints : List Constraint) (marked : ℕ) (table : Field) → new.items ≡ old.items ++ table ∷ [] → IsKeptNet domains old constraints marked → IsKeptNet domains new constraints marked
kept_with_table domains old new constraints marked table more kept = record {
  posted = subst (λ list. WerePosted list (length (present domains.cells)) constraints) (sym more) (posted_tables old.items (table ∷ []) (length (present domains.cells)) constraints kept.posted);
  sound = kept.sound;
  agenda = subst (λ list. IsKeptAgenda list constraints (present domains.cells) domains.agenda) (sym more)
      (kept_tables old.items (table ∷ []) constraints (present domains.cells) domains.agenda kept.posted kept.agenda);
}

-- ---- variables

kept_added : (old new : Domains) (tables : Vec Field Global) (constraints : List Constraint) (marked : ℕ) (domain : Domain) → IsDomain domain → IsKeptNet old tables constraints marked → Grows old.agenda new.agenda → HasVariables (length (present new.cells)) new.agenda
    → new.cells.past ≡ (present old.cells ++ domain ∷ []) ∷ old.cells.past → new.cells.stamps ≡ old.cells.stamps ++ 0 ∷ [] → IsKeptNet new tables constraints marked
kept_added old new tables constraints marked domain is kept grows ready past stamps =
    let more : present new.cells ≡ present old.cells ++ domain ∷ [] = ap newest_of past in
    let long = ap length more ∙ length_push (present old.cells) domain in
    record {
      posted = posted_more tables.items (length (present old.cells)) (length (present new.cells)) constraints (omega (arith, long)) kept.posted;
      sound = record {
        place = omega (arith, ap length past, kept.sound.place);
        are = subst (All IsDomain) (sym more) (All-push IsDomain (present old.cells) domain kept.sound.are is);
        stamps = omega (arith, ap length stamps, length_push old.cells.stamps 0, long, kept.sound.stamps);
      };
      agenda = subst (λ domains. IsKeptAgenda tables.items constraints domains new.agenda) (sym more)
          (kept_variable tables.items constraints (present old.cells) domain new.agenda (named tables.items (length (present old.cells)) constraints kept.posted) (subst (λ domains. HasVariables (length domains) new.agenda) more ready)
          (kept_grown tables.items constraints (present old.cells) old.agenda new.agenda grows kept.agenda));
    }

pub added : (net : Network) (old new : Domains) (tables : Vec Field Global) (constraints : List Constraint) (marked : ℕ) (domain : Domain) (result : Result ℕ AllocError) → network_of old tables constraints marked ≡ net
    → IsDomain domain → IsKeptNet old tables constraints marked → Grows old.agenda new.agenda → new.agenda.waiting ≡ old.agenda.waiting → HasVariables (length (present new.cells)) new.agenda → new.work ≡ old.work → AddsCell domain old.cells result new.cells
    → IsKeptNet new tables constraints marked × AddsVar domain net result (network_of new tables constraints marked)
added net old new tables constraints marked domain (Ok number) view is kept grows waiting ready work adds = (
  kept_added old new tables constraints marked domain is kept grows ready adds.1.0 adds.1.1,
  subst (λ n. AddsVar domain n (Ok number) (network_of new tables constraints marked)) view (
    adds.0,
    λ i. record {
      domains = newest_of (adds.1.0 i);
      tables = tables.items;
      constraints = constraints;
      work = work i;
      stamps = adds.1.1 i;
      older = (ap older_of adds.1.0 ∙ sym (past_is old.cells.past (some_past marked old.cells kept.sound))) i;
      marked = marked;
      changed = grows.changed i;
      quiet = quiet_of (waiting i).items (length constraints);
    },
  ),
)
added net old new tables constraints marked domain (Err none) view is kept grows waiting ready work same = (
  record {
    posted = subst (λ (cells : Celled). WerePosted tables.items (length (present cells)) constraints) (sym same) kept.posted;
    sound = subst (IsSound marked) (sym same) kept.sound;
    agenda = subst (λ (cells : Celled). IsKeptAgenda tables.items constraints (present cells) new.agenda) (sym same)
        (kept_grown tables.items constraints (present old.cells) old.agenda new.agenda grows kept.agenda);
  },
  unchanged old new tables constraints marked same work grows.changed waiting ∙ view,
)
  where
    unchanged : (old new : Domains) (tables : Vec Field Global) (constraints : List Constraint) (marked : ℕ) → new.cells ≡ old.cells → new.work ≡ old.work → new.agenda.changed.items ≡ old.agenda.changed.items
        → new.agenda.waiting ≡ old.agenda.waiting → network_of new tables constraints marked ≡ network_of old tables constraints marked
    unchanged old new tables constraints marked same work changed waiting = λ i. record {
      domains = present (same i);
      tables = tables.items;
      constraints = constraints;
      work = work i;
      stamps = (same i).stamps;
      older = older_of (same i).past;
      marked = marked;
      changed = changed i;
      quiet = quiet_of (waiting i).items (length constraints);
    }

-- ---- domains that get smaller

pub goes_down : (old new : Domains) (tables : Vec Field Global) (constraints : List Constraint) (marked : ℕ) → IsSound marked old.cells → 0 < length new.cells.past → Sinks marked old.cells new.cells
    → Notes (present old.cells) (present new.cells) old.agenda.changed.items new.agenda.changed.items → GoesDown (network_of old tables constraints marked) (network_of new tables constraints marked)
goes_down old new tables constraints marked sound some sinks notes = record {
  tables = refl;
  constraints = refl;
  marked = refl;
  past = subst (λ list. KeepsPast marked list (present new.cells ∷ older_of new.cells.past)) (sym (past_is old.cells.past (some_past marked old.cells sound)))
      (subst (KeepsPast marked old.cells.past) (sym (past_is new.cells.past some)) sinks.past);
  stamps = sinks.stamps;
  follow = λ cell below. follows (domain_at (present old.cells) cell) (domain_at (present new.cells) cell) (get_or old.cells.stamps cell 0) (get_or new.cells.stamps cell 0) (sinks.follow cell);
  notes = notes;
}

kept_down : (old new : Domains) (tables : Vec Field Global) (constraints : List Constraint) (marked : ℕ) → IsKeptNet old tables constraints marked → LieWithin (present new.cells) (present old.cells) → All IsDomain (present new.cells)
    → Sinks marked old.cells new.cells → IsKeptAgenda tables.items constraints (present new.cells) new.agenda → IsKeptNet new tables constraints marked
kept_down old new tables constraints marked kept within are sinks agenda = record {
  posted = still_posted tables.items constraints (present old.cells) (present new.cells) within kept.posted;
  sound = sound_along marked old.cells new.cells kept.sound sinks within are;
  agenda = agenda;
}

-- propagation leaves domains within the old ones, whatever it answers
pub went : (fits : List Domain → Type 0) (old new : List Domain) (result : Result (Unit {0}) NetFault) → PropagatesTo fits old result new → Advances fits old new
went fits old new (Ok done) propagates = propagates.0
went fits old new (Err Collapsed) propagates = propagates.0
went fits old new (Err Memory) propagates = propagates

pub kept_propagated : (fits : List Domain → Type 0) (old new : Domains) (tables : Vec Field Global) (constraints : List Constraint) (marked : ℕ) (result : Result (Unit {0}) NetFault)
    → PropagatesTo fits (present old.cells) result (present new.cells) → Sinks marked old.cells new.cells → IsKeptAgenda tables.items constraints (present new.cells) new.agenda → IsKeptNet old tables constraints marked → IsKeptNet new tables constraints marked
kept_propagated fits old new tables constraints marked result propagates sinks agenda kept =
    let down = went fits (present old.cells) (present new.cells) result propagates in
    kept_down old new tables constraints marked kept down.within down.are sinks agenda

pub propagated_down : (net : Network) (old new : Domains) (tables : Vec Field Global) (constraints : List Constraint) (marked : ℕ) → network_of old tables constraints marked ≡ net → IsKeptNet old tables constraints marked → IsKeptNet new tables constraints marked
    → Sinks marked old.cells new.cells → Notes (present old.cells) (present new.cells) old.agenda.changed.items new.agenda.changed.items → GoesDown net (network_of new tables constraints marked)
propagated_down net old new tables constraints marked view kept after sinks notes =
    subst (λ n. GoesDown n (network_of new tables constraints marked)) view (goes_down old new tables constraints marked kept.sound (some_past marked new.cells after.sound) sinks notes)

-- ---- one variable that is limited

keeps_within : (passes : ℤ → Type 0) (old new : Domain) (change : Change) → Keeps passes old change new → IsWithin new old
keeps_within passes old new Same kept = subst (λ d. IsWithin d old) (sym kept.0) (IsWithin-refl old)
keeps_within passes old new Smaller kept = kept.0.within
keeps_within passes old new Empty kept = subst (λ d. IsWithin d old) (sym kept.0) (IsWithin-refl old)

module _ (old new : Domains) (tables : Vec Field Global) (constraints : List Constraint) (marked : ℕ) (variable : ℕ) (to : Domain) (kept : IsKeptNet old tables constraints marked) (exists : variable < length (present old.cells)) (work : new.work ≡ old.work)
    (alerts : Alerts (present old.cells) (present new.cells) old.agenda new.agenda) where
  unmoved : new.cells ≡ old.cells → new.agenda ≡ old.agenda → network_of new tables constraints marked ≡ network_of old tables constraints marked
  unmoved same agenda = λ i. record {
    domains = present (same i);
    tables = tables.items;
    constraints = constraints;
    work = work i;
    stamps = (same i).stamps;
    older = older_of (same i).past;
    marked = marked;
    changed = (agenda i).changed.items;
    quiet = quiet_of (agenda i).waiting.items (length constraints);
  }

  kept_same : new.cells ≡ old.cells → new.agenda ≡ old.agenda → IsKeptNet new tables constraints marked
  kept_same same agenda = record {
    posted = subst (λ (cells : Celled). WerePosted tables.items (length (present cells)) constraints) (sym same) kept.posted;
    sound = subst (IsSound marked) (sym same) kept.sound;
    agenda = subst (λ (cells : Celled). IsKeptAgenda tables.items constraints (present cells) new.agenda) (sym same)
        (subst (IsKeptAgenda tables.items constraints (present old.cells)) (sym agenda) kept.agenda);
  }

  stays_where : (change : Change) → change ≡ Empty → LimitsCell variable to marked old.cells (Ok change) new.cells → AlertsAfter change variable old.agenda new.agenda → network_of new tables constraints marked ≡ network_of old tables constraints marked
  stays_where Same empty limits agenda = absurd (cc)
  stays_where Smaller empty limits agenda = absurd (cc)
  stays_where Empty empty limits agenda = unmoved limits.narrows.0 agenda

  pub limits_net : (result : Result Change AllocError) → LimitsCell variable to marked old.cells result new.cells → LimitAlerts variable result old.agenda new.agenda
      → IsKeptNet new tables constraints marked × Limits (network_of old tables constraints marked) variable to result (network_of new tables constraints marked)
  limits_net (Err none) limits agenda = (kept_same limits.narrows agenda, unmoved limits.narrows agenda)
  limits_net (Ok change) limits agenda =
      let zero_alone = Range (pos 0) (pos 0) in
      let one = limit_at variable to marked old.cells new.cells change kept.sound.are exists limits in
      let sinks = (sinks_cell variable to marked old.cells new.cells (Ok change) kept.sound exists limits).sinks in
      let within = subst (λ list. LieWithin list (present old.cells)) (sym one.others)
      (set_within (present old.cells) variable one.left zero_alone exists (keeps_within _ (domain_at (present old.cells) variable) one.left change one.kept)) in
      let are = subst (All IsDomain) (sym one.others) (All-set IsDomain (present old.cells) variable one.left one.is kept.sound.are) in
      let same = within_length (present new.cells) (present old.cells) within in
      let there = subst (λ count. NameWithin count constraints) (sym same) (named tables.items (length (present old.cells)) constraints kept.posted) in
      let covered = kept_on tables.items constraints (present old.cells) (present new.cells) old.agenda new.agenda there (omega (arith, same)) alerts kept.agenda in
      let after = kept_down old new tables constraints marked kept within are sinks covered in
      let notes = notes_of (present old.cells) (present new.cells) old.agenda new.agenda (subst (λ count. HasVariables count old.agenda) (sym same) kept.agenda.variables) alerts in
      (after, (one, goes_down old new tables constraints marked kept.sound (some_past marked new.cells after.sound) sinks notes, work, λ empty. stays_where change empty limits agenda))

pub limits_as : (net : Network) (old new : Domains) (tables : Vec Field Global) (constraints : List Constraint) (marked : ℕ) (variable : ℕ) (to : Domain) (result : Result Change AllocError) → network_of old tables constraints marked ≡ net
    → IsKeptNet old tables constraints marked → variable < length net.domains → new.work ≡ old.work → LimitsCell variable to marked old.cells result new.cells
    → Alerts (present old.cells) (present new.cells) old.agenda new.agenda → LimitAlerts variable result old.agenda new.agenda
    → IsKeptNet new tables constraints marked × Limits net variable to result (network_of new tables constraints marked)
limits_as net old new tables constraints marked variable to result view kept exists work limits alerts agenda =
    let both = limits_net old new tables constraints marked variable to kept (subst (λ (n : Network). variable < length n.domains) (sym view) exists) work alerts result limits agenda in
    (both.0, subst (λ n. Limits n variable to result (network_of new tables constraints marked)) view both.1)

-- ---- marks

module _ (net : Network) (domains : Domains) (tables : Vec Field Global) (constraints : List Constraint) (marked : ℕ) (mark : Mark) (view : network_of domains tables constraints marked ≡ net) (kept : IsKeptNet domains tables constraints marked)
    (newest : length domains.cells.past ≡ mark.cells + 1) where
  some : 0 < length domains.cells.past
  some = some_past marked domains.cells kept.sound

  pub marked_kept : IsKeptNet domains tables constraints mark.cells
  marked_kept = record {
    posted = kept.posted;
    sound = record { place = omega (arith, newest); are = kept.sound.are; stamps = kept.sound.stamps };
    agenda = kept.agenda;
  }

  place_is : mark.cells ≡ length net.older
  place_is = omega (arith, newest, ap length (past_is domains.cells.past some), ap (λ (n : Network). length n.older) view)

  pub marked_seen : network_of domains tables constraints mark.cells ≡ record net { marked = length net.older }
  marked_seen = λ i. record (view i) { marked = place_is i }

  pub mark_is : IsPlace domains.cells mark.cells (present domains.cells) → mark.constraints ≡ length constraints → WereConsistent mark.idle tables.items constraints (present domains.cells)
      → IsMark (network_of domains tables constraints mark.cells) mark net.domains net.constraints
  mark_is place count idle = subst (λ (n : Network). IsMark (network_of domains tables constraints mark.cells) mark n.domains n.constraints) view (record {
    place = subst (λ cells. IsPlace cells mark.cells (present domains.cells)) (sym (celled_is domains tables constraints mark.cells some)) place;
    marked = omega arith;
    first = ([], sym (append-nil constraints));
    count = sym count;
    are = kept.sound.are;
    posted = kept.posted;
    idle = idle;
  })

  -- nothing waits exactly where that is told
  abbrev Tells : Bool → ℕ → Type 0
  Tells told count = IsTrue told ↔ (AreFrom count domains.agenda.waiting.items × (domains.agenda.changed.items ≡ []))

  -- all constraints are consistent then
  pub idle_at : (told : Bool) (count : ℕ) → count ≡ length constraints → Tells told count → WereConsistent told tables.items constraints (present domains.cells)
  unfolding WereConsistent
  idle_at told count as_many tells = λ is. all_from_each tables.items constraints (present domains.cells) (λ number. elim (kept.agenda.covered number) [
    | inl waits ↦ (λ constraint found.
        let below = slice_get_within constraints number constraint found in
        let from = (tells.0 is).0 number waits in
        absurd (omega (arith, as_many, below, from)))
    | inr consistent ↦ consistent
  ])

  pub idle_told : (told : Bool) (count : ℕ) → count ≡ length constraints → Tells told count → IsIdle net → told ≡ true
  idle_told told count as_many tells idle =
      let here = subst IsIdle (sym view) idle in
      let from = quiet_all domains.agenda.waiting.items (length constraints) here.quiet in
      tells.1 ((λ number there. let low = from number there in omega (arith, as_many, low)), here.heeded)

  pub mark_latest : mark.constraints ≡ length constraints → IsLatest (network_of domains tables constraints mark.cells) mark
  mark_latest count = λ earlier can. (can.2.marked, omega (arith, count, ap length can.2.first.1, length-append can.1 can.2.first.0, can.2.count))

  -- earlier marks stay
  pub marks_kept : KeepMarks net (network_of domains tables constraints mark.cells)
  marks_kept = subst (λ n. KeepMarks n (network_of domains tables constraints mark.cells)) view (λ earlier there posted is. record {
    place = is.place;
    marked = omega (arith, is.marked, kept.sound.place, newest);
    first = is.first;
    count = is.count;
    are = is.are;
    posted = is.posted;
    idle = is.idle;
  })

pub place_in : (net : Network) (domains : Domains) (tables : Vec Field Global) (constraints : List Constraint) (marked : ℕ) (mark : Mark) → network_of domains tables constraints marked ≡ net → IsKeptNet domains tables constraints marked
    → (there : List Domain) (posted : List Constraint) → IsMark net mark there posted → IsPlace domains.cells mark.cells there
place_in net domains tables constraints marked mark view kept there posted is =
    subst (λ cells. IsPlace cells mark.cells there) (celled_is domains tables constraints marked (some_past marked domains.cells kept.sound)) (subst (λ n. IsMark n mark there posted) (sym view) is).place

module _ (net : Network) (old new : Domains) (tables : Vec Field Global) (constraints left : List Constraint) (marked : ℕ) (mark : Mark) (view : network_of old tables constraints marked ≡ net) (kept : IsKeptNet old tables constraints marked) (can : CanReturn net mark) where
  there : IsMark (network_of old tables constraints marked) mark can.0 can.1
  there = subst (λ n. IsMark n mark can.0 can.1) (sym view) can.2

  place : IsPlace old.cells mark.cells can.0
  place = subst (λ cells. IsPlace cells mark.cells can.0) (celled_is old tables constraints marked (some_past marked old.cells kept.sound)) there.place

  pub can_go : mark.cells < length old.cells.past
  can_go = omega (arith, ap length place.2.0, length-append place.0 (can.0 ∷ place.1), place.2.1)

  lists_still : (idle : Bool) (between : Agenda) → TurnsBack idle mark.cells old.cells old.agenda between → between.watchers ≡ old.agenda.watchers
  lists_still true between rests = rests.watchers
  lists_still false between alerts = (alerts can.0 place).alerts.stays.watchers

  -- the constraints' variables have their lists still
  pub names_still : (between : Agenda) → TurnsBack mark.idle mark.cells old.cells old.agenda between → NameWithin (length between.watchers) constraints
  names_still between turns =
      let still = lists_still mark.idle between turns in
      named_more (length (present old.cells)) (length between.watchers) constraints (omega (arith, kept.agenda.variables.watchers, ap length still))
      (named tables.items (length (present old.cells)) constraints kept.posted)

  -- who isn't consistent where the network comes back to waits
  waits_back : (idle : Bool) (between : Agenda) → WereConsistent idle tables.items left can.0 → NameWithin (length can.0) left → length can.0 ≤ length (present old.cells)
      → IsKeptAgenda tables.items left (present old.cells) old.agenda → TurnsBack idle mark.cells old.cells old.agenda between → IsKeptAgenda tables.items left can.0 between
  unfolding WereConsistent
  waits_back true between all within fewer firsts rests = record {
    variables = record {
      watchers = omega (arith, fewer, firsts.variables.watchers, ap length rests.watchers);
      changed = omega (arith, fewer, firsts.variables.changed, rests.places);
    };
    room = omega (arith, firsts.room, rests.room);
    watched = λ number constraint found variable member.
        subst (λ lists. Contains (get_or lists variable []) number) (sym rests.watchers) (firsts.watched number constraint found variable member);
    covered = λ number. inr (all_at tables.items left number can.0 (all refl));
  }
  waits_back false between all within fewer firsts alerts =
      kept_on tables.items left (present old.cells) can.0 old.agenda between within fewer (alerts can.0 place).alerts firsts

  -- and where nothing waited nothing does
  to_do_back : (idle : Bool) (between : Agenda) → present new.cells ≡ can.0 → HasVariables (length can.0) old.agenda → TurnsBack idle mark.cells old.cells old.agenda between
      → Forgets mark.constraints between new.agenda → LeavesToDo idle (network_of old tables constraints marked) (network_of new tables left mark.cells)
  to_do_back true between domains has rests forgets = record {
    quiet = ap (λ (q : Queued). quiet_of q.items (length left)) forgets.waiting ∙ ap (λ items. quiet_of items (length left)) rests.waiting;
    heeded = ap (λ (q : Queued). q.items) forgets.changed ∙ rests.changed;
  }
  to_do_back false between domains has alerts forgets =
      let notes = notes_of (present old.cells) can.0 old.agenda between has (alerts can.0 place).alerts in
      subst (λ list. Notes (present old.cells) list old.agenda.changed.items new.agenda.changed.items) (sym domains)
      (subst (λ (q : Queued). Notes (present old.cells) can.0 old.agenda.changed.items q.items) (sym forgets.changed) notes)

  pub returns_to : (between : Agenda) → GoesBack mark.cells old.cells new.cells → left ≡ take mark.constraints constraints → new.work ≡ old.work
      → TurnsBack mark.idle mark.cells old.cells old.agenda between → Forgets mark.constraints between new.agenda
      → IsKeptNet new tables left mark.cells × Returns mark net (network_of new tables left mark.cells)
  returns_to between goes taken work turns forgets =
      let past : new.cells.past ≡ can.0 ∷ place.1 = same_end goes.newer place.0 new.cells.past (can.0 ∷ place.1) (sym goes.past ∙ place.2.0) (omega (arith, goes.count, place.2.1)) in
      let domains : present new.cells ≡ can.0 = ap newest_of past in
      let some : 0 < length new.cells.past = omega (arith, goes.count) in
      let first : take mark.constraints constraints ≡ can.1 =
      (λ i. take (sym there.count i) (there.first.1 i)) ∙ take-append_seam can.1 there.first.0 in
      let posted : WerePosted tables.items (length can.0) left = subst (WerePosted tables.items (length can.0)) (sym (taken ∙ first)) there.posted in
      let fewer : length can.0 ≤ length (present old.cells) = omega (arith, goes.fewer, ap length domains) in
      let all = subst (λ list. WereConsistent mark.idle tables.items list can.0) (sym (taken ∙ first)) there.idle in
      let firsts = subst (λ list. IsKeptAgenda tables.items list (present old.cells) old.agenda) (sym taken) (kept_first tables.items constraints (present old.cells) mark.constraints old.agenda kept.agenda) in
      let covered = waits_back mark.idle between all (named tables.items (length can.0) left posted) fewer firsts turns in
      let agenda = kept_forgetting tables.items left can.0 mark.constraints between new.agenda (omega (arith, ap length taken, length-take mark.constraints constraints)) forgets covered in
      let has : HasVariables (length can.0) old.agenda = record { watchers = omega (arith, fewer, kept.agenda.variables.watchers); changed = omega (arith, fewer, kept.agenda.variables.changed) } in (
        record {
          posted = subst (λ list. WerePosted tables.items (length list) left) (sym domains) posted;
          sound = record { place = omega (arith, goes.count); are = subst (All IsDomain) (sym domains) there.are; stamps = goes.stamps };
          agenda = subst (λ list. IsKeptAgenda tables.items left list new.agenda) (sym domains) agenda;
        },
        subst (λ n. Returns mark n (network_of new tables left mark.cells)) view (record {
          cells = subst (λ cells. GoesBack mark.cells cells (cells_of (network_of new tables left mark.cells))) (sym (celled_is old tables constraints marked (some_past marked old.cells kept.sound)))
              (subst (GoesBack mark.cells old.cells) (sym (celled_is new tables left mark.cells some)) goes);
          constraints = taken;
          tables = refl;
          work = work;
          marked = refl;
          to_do = to_do_back mark.idle between domains has turns forgets;
        }),
      )
