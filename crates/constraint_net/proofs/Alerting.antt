-- Who has to be told that a variable has changed.
use Rattle.std.proofs.Common.{◌≡◌, ℕ, suc, ◌+◌, ◌<◌, ◌≤◌, pos, List, [], ◌∷◌, ◌++◌, length, get_or, slice_get, ◌⊎◌, inl, inr, append_assoc, refl, sym, ap, ◌∙◌, subst, arith}
use Rattle.std.specs.Prelude.{All, Contains, sum_by, Option, Some, None, IfSome, Result, Ok, Err}
use Rattle.std.specs.declared.alloc.AllocError.{AllocError}
use Rattle.std.proofs.lemmas.Bool.{cases_eq, cases_lt}
use Rattle.std.proofs.lemmas.List.{length-set, length_push, get_or_append_left, get_or-set_other}
use Rattle.std.proofs.lemmas.List.Elements.{All-head, All-tail}
use Rattle.std.proofs.lemmas.List.Sums.{sum_by-set}
use Rattle.std.proofs.lemmas.Option.{slice_get_within, slice_get-get_or}
use Rattle.domain_core.specs.Domain.{Domain, Range, slack}
use Rattle.domain_core.specs.declared.Change.{Change}
use Rattle.domain_core.specs.declared.Change.TheVariants.{Same, Smaller, Empty}
use Rattle.cell_store.specs.Cells.{Celled, present, newest_of, domain_at, IsPlace, StepsFrom, IsStep}
use Rattle.domain_core.specs.declared.kind.Kind.TheVariants as kind
use Rattle.domain_core.specs.Constraints.{AgreeOn}
use Rattle.narrow_core.specs.declared.field.Field.{Field}
use Rattle.constraint_net.specs.Agendas.{HasVariables, Waits, Stays, IsAlerted, Wakes, AlertsAfter, LimitAlerts, Alerts, TellsOfLoss, AlertsSince, IsStepped, SteppedFrom}
use Rattle.constraint_net.specs.Arguments.{IsArgument, domains_of}
use Rattle.constraint_net.specs.Calls.{Notes}
use Rattle.constraint_net.specs.Limits.{LimitsCell}
use Rattle.constraint_net.specs.Networks.{IsConsistent, field_of}
use Rattle.constraint_net.specs.Waiting.{IsConsistentAt, NameWithin, WerePosted, IsKeptAgenda}
use Rattle.constraint_net.specs.declared.agenda.Agenda.{Agenda}
use Rattle.constraint_net.specs.declared.constraint.NetArg.{NetArg}
use Rattle.constraint_net.specs.declared.constraint.NetArg.TheVariants.{Var, Lit}
use Rattle.constraint_net.specs.declared.constraint.Constraint.{Constraint}
use Rattle.constraint_net.proofs.Moving.{same_end}
use Rattle.constraint_net.proofs.Turns.{named}
use Rattle.constraint_net.proofs.Queueing.{lengthens_refl, lengthens_trans, still}

-- ---- steps, one after another

pub stays_refl : (agenda : Agenda) → Stays agenda agenda
stays_refl agenda = record { watchers = refl; waiting = lengthens_refl agenda.waiting; changed = lengthens_refl agenda.changed }

pub stays_trans : (old middle new : Agenda) → Stays old middle → Stays middle new → Stays old new
stays_trans old middle new p q = record {
  watchers = q.watchers ∙ p.watchers;
  waiting = lengthens_trans old.waiting middle.waiting new.waiting p.waiting q.waiting;
  changed = lengthens_trans old.changed middle.changed new.changed p.changed q.changed;
}

-- there are as many lists and places
pub has_still : (count : ℕ) (old new : Agenda) → Stays old new → HasVariables count old → HasVariables count new
has_still count old new p has = record { watchers = omega (arith, has.watchers, ap length p.watchers); changed = omega (arith, has.changed, p.changed.room) }

-- who was told waits, whatever comes before or behind
pub alerted_on : (variable : ℕ) (old middle new : Agenda) → IsAlerted variable old middle → Stays middle new → IsAlerted variable old new
alerted_on variable old middle new p q = record {
  woken = λ number watches below. still middle.waiting new.waiting number q.waiting (p.woken number watches below);
  noted = λ below. still middle.changed new.changed variable q.changed (p.noted below);
}

pub alerted_after : (variable : ℕ) (old middle new : Agenda) → Stays old middle → IsAlerted variable middle new → IsAlerted variable old new
alerted_after variable old middle new p q = record {
  woken = λ number watches below. q.woken number (subst (λ lists. Contains (get_or lists variable []) number) (sym p.watchers) watches) (omega (arith, below, p.waiting.room));
  noted = λ below. q.noted (omega (arith, below, p.changed.room));
}

pub alerts_refl : (domains : List Domain) (agenda : Agenda) → Alerts domains domains agenda agenda
alerts_refl domains agenda = record { stays = stays_refl agenda; each = λ variable below. inl refl }

pub alerts_trans : (old middle new : List Domain) (before between after : Agenda) → length new ≤ length middle → Alerts old middle before between → Alerts middle new between after → Alerts old new before after
alerts_trans old middle new before between after fewer p q = record {
  stays = stays_trans before between after p.stays q.stays;
  each = λ variable below. elim (q.each variable below) [
    | inr told ↦ inr (alerted_after variable before between after p.stays told)
    | inl same ↦ elim (p.each variable (omega (arith, below, fewer))) [
      | inl before_too ↦ inl (same ∙ before_too)
      | inr told ↦ inr (alerted_on variable before between after told q.stays)
    ]
  ];
}

-- ---- one cell

module _ (variable : ℕ) (to : Domain) (since : ℕ) (old new : Celled) (before after : Agenda) where
  where_same : new ≡ old → after ≡ before → Alerts (present old) (present new) before after
  where_same same agenda = record {
    stays = subst (Stays before) (sym agenda) (stays_refl before);
    each = λ other below. inl (ap (λ (cells : Celled). domain_at (present cells) other) same);
  }

  pub alerts_cell : (change : Change) → LimitsCell variable to since old (Ok change) new → AlertsAfter change variable before after → Alerts (present old) (present new) before after
  alerts_cell Same limits agenda = where_same limits.narrows.0 agenda
  alerts_cell Smaller limits wakes = record {
    stays = wakes.stays;
    each = λ other below. elim (cases_eq other variable) [
      | inl same ↦ inr (subst (λ n. IsAlerted n before after) (sym same) wakes.alerted)
      | inr apart ↦ inl (ap (λ list. domain_at list other) limits.narrows.domains ∙ get_or-set_other (present old) variable other limits.narrows.left (Range (pos 0) (pos 0)) apart)
    ];
  }
  alerts_cell Empty limits agenda = where_same limits.narrows.0 agenda

  pub alerts_none : (none : AllocError) → LimitsCell variable to since old (Err none) new → after ≡ before → Alerts (present old) (present new) before after
  alerts_none none limits agenda = where_same limits.narrows agenda

  -- where it has less, values have gone
  pub loss_cell : (result : Result Change AllocError) → variable < length (present old) → LimitsCell variable to since old result new → LimitAlerts variable result before after → TellsOfLoss (present old) (present new) before after
  loss_cell (Ok Same) exists limits agenda = inr (ap present limits.narrows.0, agenda)
  loss_cell (Ok Smaller) exists limits wakes =
      let w = limits.narrows in
      inl (omega (arith, w.kept.1, sum_by-set slack (present old) variable w.left (Range (pos 0) (pos 0)) exists, ap (sum_by slack) w.domains))
  loss_cell (Ok Empty) exists limits agenda = inr (ap present limits.narrows.0, agenda)
  loss_cell (Err none) exists limits agenda = inr (ap present limits.narrows, agenda)

pub loss_trans : (old middle new : List Domain) (before between after : Agenda) → TellsOfLoss old middle before between → TellsOfLoss middle new between after → TellsOfLoss old new before after
loss_trans old middle new before between after (inl p) (inl q) = inl (omega (arith, p, q))
loss_trans old middle new before between after (inl p) (inr q) = inl (omega (arith, p, ap (sum_by slack) q.0))
loss_trans old middle new before between after (inr p) (inl q) = inl (omega (arith, q, ap (sum_by slack) p.0))
loss_trans old middle new before between after (inr p) (inr q) = inr (q.0 ∙ p.0, q.1 ∙ p.1)

-- where nothing went nobody was told
pub no_loss : (old new : List Domain) (before after : Agenda) → new ≡ old → TellsOfLoss old new before after → after ≡ before
no_loss old new before after same (inl p) = absurd (omega (arith, p, ap (sum_by slack) same))
no_loss old new before after same (inr p) = p.1

-- ---- what waits or is consistent

-- arguments whose variables stay have the domains that they had, or somebody was told
args_stay : (args : List NetArg) (old new : List Domain) (before after : Agenda) → All (IsArgument (length new)) args → Alerts old new before after
    → (domains_of new args ≡ domains_of old args) ⊎ ((variable : ℕ) × (Contains args (Var variable) × IsAlerted variable before after))
args_stay [] old new before after are alerts = inl refl
args_stay (Lit value ∷ args) old new before after are alerts =
    elim (args_stay args old new before after (All-tail (IsArgument (length new)) (Lit value) args are) alerts) [
      | inl same ↦ inl (ap (λ list. Range value value ∷ list) same)
      | inr told ↦ inr (told.0, ((suc told.1.0.0, omega (arith, told.1.0.1), told.1.0.2), told.1.1))
    ]
args_stay (Var variable ∷ args) old new before after are alerts =
    elim (alerts.each variable (All-head (IsArgument (length new)) (Var variable) args are)) [
      | inr told ↦ inr (variable, ((0, omega arith, refl), told))
      | inl here ↦ elim (args_stay args old new before after (All-tail (IsArgument (length new)) (Var variable) args are) alerts) [
        | inl same ↦ inl (λ i. here i ∷ same i)
        | inr told ↦ inr (told.0, ((suc told.1.0.0, omega (arith, told.1.0.1), told.1.0.2), told.1.1))
      ]
    ]

-- a constraint is as consistent as before where its arguments have the same domains
consistent_as : (tables : List Field) (constraint : Constraint) (old new : List Domain) → domains_of new constraint.args ≡ domains_of old constraint.args → IsConsistent tables constraint old → IsConsistent tables constraint new
consistent_as tables constraint old new same is = subst (λ list. AgreeOn (field_of tables) constraint.kind list) (sym same) is

some_is : {X : Type 0} (one other : X) → Some one ≡ Some other → one ≡ other
some_is one other e = cc e

module _ (tables : List Field) (constraints : List Constraint) (old new : List Domain) (before after : Agenda) (named : NameWithin (length new) constraints) (fewer : length new ≤ length old)
    (alerts : Alerts old new before after) (kept : IsKeptAgenda tables constraints old before) where
  covered_one : (number : ℕ) (constraint : Constraint) → slice_get constraints number ≡ Some constraint → IsConsistent tables constraint old → Waits after number ⊎ IsConsistentAt tables constraints number new
  covered_one number constraint found is =
      let below = slice_get_within constraints number constraint found in
      let one : get_or constraints number constraint ≡ constraint = some_is (get_or constraints number constraint) constraint (sym (slice_get-get_or constraints number constraint below) ∙ found) in
      elim (args_stay constraint.args old new before after (subst (λ (c : Constraint). All (IsArgument (length new)) c.args) one (named number constraint below)) alerts) [
        | inl same ↦ inr (λ other also.
            subst (λ c. IsConsistent tables c new) (some_is constraint other (sym found ∙ also)) (consistent_as tables constraint old new same is))
        | inr told ↦ inl (told.1.1.woken number (kept.watched number constraint found told.0 told.1.0) (omega (arith, below, kept.room)))
      ]

  covered_at : (number : ℕ) → IsConsistentAt tables constraints number old → Waits after number ⊎ IsConsistentAt tables constraints number new
  covered_at number is = elim (cases_lt number (length constraints)) [
    | inr past ↦ inr (λ constraint found. absurd (let below = slice_get_within constraints number constraint found in omega (arith, past, below)))
    | inl below ↦
        let blank : Constraint = record { kind = kind.Eq; args = [] } in
        let found = slice_get-get_or constraints number blank below in
        covered_one number (get_or constraints number blank) found (is (get_or constraints number blank) found)
  ]

  pub kept_on : IsKeptAgenda tables constraints new after
  kept_on = record {
    variables = has_still (length new) before after alerts.stays (record { watchers = omega (arith, kept.variables.watchers, fewer); changed = omega (arith, kept.variables.changed, fewer) });
    room = omega (arith, kept.room, alerts.stays.waiting.room);
    watched = λ number constraint found variable member.
        subst (λ lists. Contains (get_or lists variable []) number) (sym alerts.stays.watchers) (kept.watched number constraint found variable member);
    covered = λ number. elim (kept.covered number) [
      | inl waits ↦ inl (still before.waiting after.waiting number alerts.stays.waiting waits)
      | inr is ↦ covered_at number is
    ];
  }

-- the same where as many variables are left
pub kept_step : (tables : List Field) (constraints : List Constraint) (old new : List Domain) (before after : Agenda) → WerePosted tables (length old) constraints → length new ≡ length old → Alerts old new before after
    → IsKeptAgenda tables constraints old before → IsKeptAgenda tables constraints new after
kept_step tables constraints old new before after posted same alerts kept =
    kept_on tables constraints old new before after (subst (λ count. NameWithin count constraints) (sym same) (named tables (length old) constraints posted)) (omega (arith, same)) alerts kept

-- ---- what is noted

pub notes_refl : (domains : List Domain) (noted : List ℕ) → Notes domains domains noted noted
notes_refl domains noted = record { kept = λ variable member. member; each = λ variable below. inl refl }

pub notes_trans : (old middle new : List Domain) (noted more notes : List ℕ) → length new ≤ length middle → Notes old middle noted more → Notes middle new more notes → Notes old new noted notes
notes_trans old middle new noted more notes fewer p q = record {
  kept = λ variable member. q.kept variable (p.kept variable member);
  each = λ variable below. elim (q.each variable below) [
    | inr told ↦ inr told
    | inl same ↦ elim (p.each variable (omega (arith, below, fewer))) [
      | inl before_too ↦ inl (same ∙ before_too)
      | inr told ↦ inr (q.kept variable told)
    ]
  ];
}

pub notes_of : (old new : List Domain) (before after : Agenda) → HasVariables (length new) before → Alerts old new before after → Notes old new before.changed.items after.changed.items
notes_of old new before after has alerts = record {
  kept = λ variable member. still before.changed after.changed variable alerts.stays.changed member;
  each = λ variable below. elim (alerts.each variable below) [
    | inl same ↦ inl same
    | inr told ↦ inr (told.noted (omega (arith, below, has.changed)))
  ];
}

-- ---- going back

-- the lists that stand at one place are the same
pub one_place : (cells : Celled) (place : ℕ) (one other : List Domain) → IsPlace cells place one → IsPlace cells place other → one ≡ other
one_place cells place one other p q =
    ap newest_of (same_end p.0 q.0 (one ∷ p.1) (other ∷ q.1) (sym p.2.0 ∙ q.2.0) (omega (arith, p.2.1, q.2.1)))

pub stepped_none : (place : ℕ) (cells : Celled) (agenda : Agenda) → SteppedFrom place place cells agenda agenda
stepped_none place cells agenda = λ there now p q.
    let same = one_place cells place there now p q in
    record { fewer = omega (arith, ap length same); each = λ variable below. inl (ap (λ list. domain_at list variable) same) }

-- what stood at the place before
pub place_before : (cells : Celled) (step : ℕ) (next : List Domain) → IsPlace cells (step + 1) next → (now : List Domain) × IsPlace cells step now
place_before cells step next (newer, [], (is, long)) = absurd (omega (arith, long))
place_before cells step next (newer, now ∷ older, (is, long)) = (now, (newer ++ next ∷ [], older, (is ∙ sym (append_assoc newer (next ∷ []) (now ∷ older)), omega (arith, long))))

-- a step that wrote a cell, whose watchers were told, or none
pub woken : (written : Option ℕ) (cell : ℕ) (middle after new : Agenda) → written ≡ Some cell → after ≡ new → Wakes cell middle new → Stays middle after × IfSome written (λ c. IsAlerted c middle after)
woken None cell middle after new is same wakes = absurd (cc is)
woken (Some one) cell middle after new is same wakes = (
  subst (Stays middle) (sym same) wakes.stays,
  subst (IsAlerted one middle) (sym same) (subst (λ n. IsAlerted n middle new) (let e : cell ≡ one = cc is in e) wakes.alerted),
)

pub idle : (written : Option ℕ) (middle after : Agenda) → written ≡ None → after ≡ middle → Stays middle after × IfSome written (λ c. IsAlerted c middle after)
idle None middle after is same = (subst (Stays middle) (sym same) (stays_refl middle), tt)
idle (Some one) middle after is same = absurd (cc is)

-- one step more
stepped_by : (there now next : List Domain) (written : Option ℕ) (before middle after : Agenda) → IsStepped there now before middle → StepsFrom now written next → Stays middle after
    → IfSome written (λ cell. IsAlerted cell middle after) → Stays before middle → IsStepped there next before after
stepped_by there now next None before middle after p (added, is) stays told so_far = record {
  fewer = omega (arith, p.fewer, ap length is, length_push now added);
  each = λ variable below. elim (p.each variable below) [
    | inl same ↦ inl (same ∙ sym (ap (λ list. domain_at list variable) is ∙ get_or_append_left now (added ∷ []) (Range (pos 0) (pos 0)) variable (omega (arith, below, p.fewer))))
    | inr was_told ↦ inr (alerted_on variable before middle after was_told stays)
  ];
}
stepped_by there now next (Some cell) before middle after p (left, (within, is)) stays told so_far = record {
  fewer = omega (arith, p.fewer, ap length is, length-set now cell left);
  each = λ variable below. elim (cases_eq variable cell) [
    | inl here ↦ inr (subst (λ n. IsAlerted n before after) (sym here) (alerted_after cell before middle after so_far told))
    | inr apart ↦ elim (p.each variable below) [
      | inl same ↦ inl (same ∙ sym (ap (λ list. domain_at list variable) is ∙ get_or-set_other now cell variable left (Range (pos 0) (pos 0)) apart))
      | inr was_told ↦ inr (alerted_on variable before middle after was_told stays)
    ]
  ];
}

pub stepped_more : (place step : ℕ) (cells : Celled) (written : Option ℕ) (before middle after : Agenda) → SteppedFrom place step cells before middle → IsStep step cells written → Stays before middle → Stays middle after
    → IfSome written (λ cell. IsAlerted cell middle after) → SteppedFrom place (step + 1) cells before after
stepped_more place step cells written before middle after p step_is so_far stays told = λ there next at_there at_next.
    let now = place_before cells step next at_next in
    stepped_by there now.0 next written before middle after (p there now.0 at_there now.1) (step_is.led now.0 next now.1 at_next) stays told so_far

pub alerts_since : (place later : ℕ) (cells : Celled) (before after : Agenda) → Stays before after → SteppedFrom place later cells before after → IsPlace cells later (present cells) → AlertsSince place cells before after
alerts_since place later cells before after stays stepped at = λ there at_there.
    let is = stepped there (present cells) at_there at in
    record { fewer = is.fewer; alerts = record { stays = stays; each = is.each } }

-- the same where as many variables are left
pub notes_step : (start old new : List Domain) (noted : List ℕ) (before after : Agenda) → length new ≡ length old → HasVariables (length old) before → Alerts old new before after → Notes start old noted before.changed.items
    → Notes start new noted after.changed.items
notes_step start old new noted before after same has alerts notes =
    notes_trans start old new noted before.changed.items after.changed.items (omega (arith, same)) notes (notes_of old new before after (subst (λ count. HasVariables count before) (sym same) has) alerts)
