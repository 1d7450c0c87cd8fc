-- In a sound database each command has a reply, and leaves a sound one.
use Rattle.std.proofs.Common.{ℕ, inl, inr, List, [], ◌∷◌, ◌++◌, length, Result, Ok, Err, refl}
use Rattle.std.specs.Prelude.{Contains, codes}
use Rattle.std.specs.List.{AllZip}
use Rattle.std.proofs.lemmas.List.Elements.{All-contains}
use Rattle.domain_core.specs.Domain.{Domain}
use Rattle.eu_name.specs.declared.name.Part.TheVariants as parts
use Rattle.eu_name.specs.declared.name.TokenName.{TokenName}
use Rattle.eu_name.specs.declared.name.VarName.{VarName}
use Rattle.eu_name.specs.declared.name.VarName.TheVariants as names
use Rattle.eu_name.specs.declared.name_text.NameText.{NameText}
use Rattle.eu_name.proofs.Members.{get_from_contains}
use Rattle.eu_name.proofs.Ordered.{contains_head, contains_later}
use Rattle.model_core.specs.declared.decision.Decision.{Decision}
use Rattle.model_core.specs.declared.decision.Decision.TheVariants as decisions
use Rattle.model_core.specs.declared.model.Model.{Model}
use Rattle.model_core.specs.declared.refusal.Refusal.TheVariants as refusals
use Rattle.model_core.specs.declared.view.TokenState.{TokenState}
use Rattle.model_core.specs.declared.view.TokenState.TheVariants as standings
use Rattle.model_core.specs.Decided.{IsDecided}
use Rattle.model_core.specs.History.{History, standing, accepted}
use Rattle.model_core.specs.Lawful.{IsLawful, IsToken}
use Rattle.model_core.specs.Names.{NamesVariable}
use Rattle.model_core.specs.State.{State, Gives}
use Rattle.model_core.specs.TokenStates.{HasTokenState}
use Rattle.plan_db.specs.Database.{Database, taken_in, IsSound, HasLeast, HasCollapsed, OutcomeIs, HasDecisionOn}
use Rattle.plan_db.specs.declared.fault.Outcome.{Outcome}
use Rattle.plan_db.specs.declared.fault.Outcome.TheVariants as outcomes
use Rattle.plan_defs.specs.Flaws.{Flaw, Undecided, Undetermined, Unordered, Untimed, IsFlaw}
use Rattle.plan_defs.specs.History.{IsHistory, TakesOut}
use Rattle.plan_defs.specs.Refusals.{IsAdmissible}
use Rattle.plan_defs.specs.Settling.{IsSettled}
use Rattle.plan_defs.proofs.Histories.{accepted_is, standing_settled}
use Rattle.db_history.specs.declared.subject.Subject.{Subject}
use Rattle.law_states.specs.Undeniable.{Undeniable}
use Rattle.law_states.proofs.Denying.{is_or_not}
use Rattle.law_states.proofs.Founding.{well_founded}
use Rattle.law_states.proofs.Settled as settling
use Rattle.law_states.proofs.Topping.{collapse_or_least}
use Rattle.law_search.specs.Choices.{IsFirstFlaw}
use Rattle.law_search.proofs.Choosing.{flaws_have_choices}
use Rattle.law_search.proofs.CountingTokens.{cut_at}
use Rattle.law_search.proofs.Firsts.{first_flaw_or_none}
use Rattle.script_lang.specs.declared.command.Command.{Command}
use Rattle.script_lang.specs.declared.command.Command.TheVariants.{Empty, Specify, Activate, Merge, Reject, Order, Post, Relate}
use Rattle.script_lang.specs.declared.command.Command.TheVariants.{Reset, ResetOrder, Withdraw, Unrelate}
use Rattle.script_lang.specs.declared.command.Command.TheVariants as commands
use Rattle.script_lang.specs.Naming.{AsksDecision}
use Rattle.session_replies.specs.Lines.{with_line_feed, counted_lines, IsTokenLine, IsDecisionLine}
use Rattle.session_replies.specs.Writable.{IsWritable, IsFlawWritable}
use Rattle.session_replies.proofs.Existing as lines
use Rattle.session_replies.proofs.Settled.{standing_writable, conflict_writable}
use Rattle.session_core.specs.declared.reason.RefusalReason.{RefusalReason}
use Rattle.session_core.specs.declared.reason.RefusalReason.TheVariants as reason
use Rattle.session_core.specs.Existence.{HasReply, DatabasesCollapseOrHaveLeast, IsPlainCommand, PlainCommandsHaveReplies}
use Rattle.session_core.specs.Reasons.{refusal, outcome_text, step_text}
use Rattle.session_core.specs.Replies.{IsFull, UnlessFull, RepliesStep, TakesAsked, AsksSubject, ResetsAsked, UndoesLast, TellsState, TellsCollapse}
use Rattle.session_core.specs.Replies.{TellsDomain, TellsTokens, TellsDecisions, TellsFlaw, TellsConflict, TellsCycle, Keeping}
use Rattle.session_core.proofs.EdgeLines.{collapses_have_cycles}

-- ---- states and lists

pub collapsed_or_least : DatabasesCollapseOrHaveLeast
collapsed_or_least database sound none =
    collapse_or_least database.model (standing database.history) sound.lawful (standing_settled database.model database.history sound.history) none

pub outcome_of : (database : Database) → IsSound database → Undeniable ((outcome : Outcome) × OutcomeIs database outcome)
outcome_of database sound none = collapsed_or_least database sound (λ which. elim which [
  | inl collapsed ↦ none (outcomes.Inconsistent, collapsed)
  | inr least ↦ none (outcomes.Consistent, least)
])

-- a list of things that can't be missing of each item
each_has : {X Y : Type 0} (P : X → Y → Type 0) (xs : List X) → ((x : X) → Contains xs x → Undeniable ((y : Y) × P x y)) → Undeniable ((ys : List Y) × AllZip P xs ys)
each_has P [] has none = none ([], tt)
each_has P (x ∷ xs) has none =
    has x (contains_head x xs) (λ first. each_has P xs (λ other there. has other (contains_later x other xs there)) (λ rest.
    none (first.0 ∷ rest.0, (first.1, rest.1))))

-- with one taken out, a list is a history behind the one before
taken_out_is : (model : Model) (history : History) (list : List Decision) → IsHistory model history → TakesOut model (standing history) list → IsHistory model (list ∷ history)
taken_out_is model [] list is out = absurd is
taken_out_is model (below ∷ former) list is out = (inr out, is)

-- ---- replies

abbrev HasReplyBy : (List ℕ → Database → Type 0) → Type 0
HasReplyBy Replies = (reply : List ℕ) × ((new : Database) × (Replies reply new × IsSound new))

abbrev HasStep : (Result Outcome RefusalReason → Database → Type 0) → Type 0
HasStep Steps = (step : Result Outcome RefusalReason) × ((new : Database) × (Steps step new × IsSound new))

step_reply : (Steps : Result Outcome RefusalReason → Database → Type 0) → Undeniable (HasStep Steps) → Undeniable (HasReplyBy (RepliesStep Steps))
step_reply Steps has none = has (λ found. none (step_text found.0, (found.1.0, ((found.0, (found.1.1.0, refl)), found.1.1.1))))

-- ---- steps

undoes : (model : Model) (history : History) → IsLawful model → IsHistory model history → Undeniable (HasStep (UndoesLast (taken_in model history)))
undoes model [] lawful is none = absurd is
undoes model (list ∷ []) lawful is none =
    none (Err reason.Nothing, (taken_in model (list ∷ []), (((λ i. is i ∷ []), refl), record { lawful = lawful; history = is })))
undoes model (list ∷ below ∷ former) lawful is none =
    let new = taken_in model (below ∷ former) in
    let sound : IsSound new = record { lawful = lawful; history = is.1 } in
    outcome_of new sound (λ outcome. none (Ok outcome.0, (new, (((below, (former, refl)), (refl, refl, outcome.1)), sound))))

module _ (old : Database) (sound : IsSound old) where
  settled : IsSettled old.model (standing old.history)
  settled = standing_settled old.model old.history sound.history

  pub unless_full : (Replies : List ℕ → Database → Type 0) → Undeniable (HasReplyBy Replies) → Undeniable (HasReplyBy (UnlessFull Replies old))
  unless_full Replies has none = is_or_not (IsFull old) (λ which. elim which [
    | inl full ↦ none (refusal reason.Full, (old, (inl (full, refl, refl), sound)))
    | inr free ↦ has (λ found. none (found.0, (found.1.0, (inr (free, found.1.1.0), found.1.1.1))))
  ])

  -- one more decision
  module _ (command : Command) where
    admitted : (decision : Decision) → AsksDecision old.model command decision → IsAdmissible old.model (standing old.history) decision → Undeniable (HasStep (TakesAsked old command))
    admitted decision asks admissible none =
        let new = taken_in old.model (accepted old.history decision) in
        let new_sound : IsSound new = record { lawful = sound.lawful; history = accepted_is old.model old.history decision sound.history admissible } in
        outcome_of new new_sound (λ outcome. none (Ok outcome.0, (new, ((decision, (asks, (admissible, refl, outcome.1))), new_sound))))

    asked : (state : State) → HasLeast old state → (decision : Decision) → AsksDecision old.model command decision → Undeniable (HasStep (TakesAsked old command))
    asked state least decision asks none = settling.admissible_or_refused old.model (standing old.history) state decision least (λ which. elim which [
      | inl admissible ↦ admitted decision asks admissible none
      | inr refused ↦ none (Err (reason.Decision refused.0), (old, ((inr (decision, (asks, refused.1)), refl), sound)))
    ])

    at_least : (state : State) → HasLeast old state → Undeniable (HasStep (TakesAsked old command))
    at_least state least none = is_or_not ((decision : Decision) × AsksDecision old.model command decision) (λ which. elim which [
      | inl asks ↦ asked state least asks.0 asks.1 none
      | inr not ↦ none (Err (reason.Decision refusals.Unknown), (old, ((inl (((state, least), λ decision asks. not (decision, asks)), refl), refl), sound)))
    ])

    takes : Undeniable (HasStep (TakesAsked old command))
    takes none = collapsed_or_least old sound (λ which. elim which [
      | inl collapsed ↦ none (Err reason.Inconsistent, (old, ((collapsed, refl), sound)))
      | inr least ↦ at_least least.0 least.1 none
    ])

    -- one less
    taken_out : (subject : Subject) → AsksSubject old.model command subject → HasDecisionOn old subject → Undeniable (HasStep (ResetsAsked old command))
    taken_out subject asks on none =
        let cut = cut_at (standing old.history) on.0 on.1 in
        settling.lists_settle old.model (cut.before ++ cut.after) (λ left.
        let new = taken_in old.model (left.0 ∷ old.history) in
        let new_sound : IsSound new = record {
          lawful = sound.lawful;
          history = taken_out_is old.model old.history left.0 sound.history
              (record { front = cut.before; decision = on.0; back = cut.after; parts = cut.are; settles = left.1 });
        } in
        outcome_of new new_sound (λ outcome. none (
          Ok outcome.0,
          (
            new,
            (
              (
                subject,
                (
                  asks,
                  (
                    refl,
                    refl,
                    record { front = cut.before; decision = on.0; back = cut.after; parts = cut.are; on = on.2; settles = left.1 },
                    outcome.1,
                  ),
                ),
              ),
              new_sound,
            ),
          ),
        )))

    resets : Undeniable (HasStep (ResetsAsked old command))
    resets none = is_or_not ((subject : Subject) × (AsksSubject old.model command subject × HasDecisionOn old subject)) (λ which. elim which [
      | inl found ↦ taken_out found.0 found.1.0 found.1.1 none
      | inr not ↦ none (Err reason.NoDecision, (old, (((λ subject asks on. not (subject, (asks, on))), refl), sound)))
    ])

  -- ---- what is told

  keeping : (Tells : Database → List ℕ → Type 0) → Undeniable ((reply : List ℕ) × Tells old reply) → Undeniable (HasReplyBy (Keeping Tells old))
  keeping Tells has none = has (λ found. none (found.0, (old, ((found.1, refl), sound))))

  state_told : (Tells : State → List ℕ → Type 0) → ((state : State) → HasLeast old state → Undeniable ((reply : List ℕ) × Tells state reply))
      → Undeniable ((reply : List ℕ) × TellsState Tells old reply)
  state_told Tells has none = collapsed_or_least old sound (λ which. elim which [
    | inl collapsed ↦ none (outcome_text outcomes.Inconsistent, inl (collapsed, refl))
    | inr least ↦ has least.0 least.1 (λ found. none (found.0, inr (least.0, (least.1, found.1))))
  ])

  collapse_told : (Tells : List ℕ → Type 0) → (HasCollapsed old → Undeniable ((reply : List ℕ) × Tells reply))
      → Undeniable ((reply : List ℕ) × TellsCollapse Tells old reply)
  collapse_told Tells has none = collapsed_or_least old sound (λ which. elim which [
    | inl collapsed ↦ has collapsed (λ found. none (found.0, inr (collapsed, found.1)))
    | inr least ↦ none (refusal reason.Consistent, inl (least, refl))
  ])

  module _ (state : State) (least : HasLeast old state) where
    domain_told : (text : NameText) → Undeniable ((reply : List ℕ) × TellsDomain old.model text state reply)
    domain_told text none = is_or_not ((name : VarName) × ((domain : Domain) × (NamesVariable old.model text name × Gives state name domain))) (λ which. elim which [
      | inl found ↦ shown found.0 found.1.0 found.1.1.0 found.1.1.1
      | inr not ↦ none (refusal (reason.Decision refusals.Unknown), inr ((λ name domain says gives. not (name, (domain, (says, gives)))), refl))
    ])
      where
        shown : (name : VarName) (domain : Domain) → NamesVariable old.model text name → Gives state name domain → ⊥
        shown name domain says gives =
            let line = lines.domains_have_lines old.model state name domain sound.lawful least.closed.consistent.in_base gives in
            none (with_line_feed line.0, inl (name, domain, line.0, (says, gives, line.1, refl)))

    -- what has become of a token
    state_of : (token : TokenName) → IsDecided old.model (standing old.history) token → (found : TokenState) × HasTokenState old.model state (standing old.history) token found
    state_of token (inl fact) = (standings.Fact, fact)
    state_of token (inr (inl (inl activated))) = (standings.Active, activated)
    state_of token (inr (inl (inr merged))) =
        let known = (well_founded old.model (standing old.history) state sound.lawful settled least).known (decisions.Merge token merged.0) merged.1 in
        let place = get_from_contains state.tokens merged.0 known.1 in
        (standings.Merged place.0, (merged.0, place.1, merged.1))
    state_of token (inr (inr rejected)) = (standings.Rejected, rejected)

    token_told : (token : TokenName) → Contains state.tokens token → Undeniable ((line : List ℕ) × IsTokenLine old.model state (standing old.history) token line)
    token_told token there none = is_or_not (IsDecided old.model (standing old.history) token) (λ which. elim which [
      | inl decided ↦ (let found = state_of token decided in none (shown found.0 found.1))
      | inr not ↦ none (shown standings.Inactive not)
    ])
      where
        shown : (found : TokenState) → HasTokenState old.model state (standing old.history) token found → (line : List ℕ) × IsTokenLine old.model state (standing old.history) token line
        shown found has = lines.tokens_have_lines old.model state (standing old.history) token found sound.lawful least.closed.consistent.is_state there has

    tokens_told : Undeniable ((reply : List ℕ) × TellsTokens old.model (standing old.history) state reply)
    tokens_told none = each_has (IsTokenLine old.model state (standing old.history)) state.tokens token_told (λ found.
        none (counted_lines (codes "tokens") found.0, (found.0, (found.1, refl))))

    token_there : (token : TokenName) → Contains state.tokens token → IsToken old.model token
    token_there token there = All-contains (IsToken old.model) state.tokens token least.closed.consistent.is_state.tokens there

    on_there : (token : TokenName) (domain : Domain) → Gives state (names.Token token parts.Object) domain → Contains state.tokens token
    on_there token domain gives = ((least.closed.consistent.is_state.variables (names.Token token parts.Object)).1 (domain, gives)).0

    flaw_there : (flaw : Flaw) → IsFlaw old.model (standing old.history) state flaw → IsFlawWritable old.model flaw
    flaw_there (Undecided token) is = token_there token is.0
    flaw_there (Undetermined name) is = let base = least.closed.consistent.in_base name is.1.domain is.1.gives in (base.0, base.1)
    flaw_there (Unordered one other) is = (
      token_there one (on_there one is.1.share.one_on.0 is.1.share.one_on.1),
      token_there other (on_there other is.1.share.other_on.0 is.1.share.other_on.1),
    )
    flaw_there (Untimed name) is = let base = least.closed.consistent.in_base name is.1.domain is.1.gives in (base.0, base.1)

    flaw_told : Undeniable ((reply : List ℕ) × TellsFlaw old.model (standing old.history) state reply)
    flaw_told none = first_flaw_or_none old.model (standing old.history) state least.closed.consistent.is_state (λ which. elim which [
      | inl flawless ↦ none (with_line_feed (codes "flaw none"), inl (flawless, refl))
      | inr found ↦ first_told found.0 found.1
    ])
      where
        first_told : (flaw : Flaw) → IsFirstFlaw old.model (standing old.history) state flaw → ⊥
        first_told flaw first =
            flaws_have_choices old.model (standing old.history) state 512 flaw least.closed.consistent.is_state first.is (λ choices.
            let line = lines.flaws_have_lines old.model flaw (length choices.0) sound.lawful (flaw_there flaw first.is) in
            none (with_line_feed line.0, inr (flaw, choices.0, line.0, (first, choices.1, line.1, refl))))

  decisions_told : (word : List ℕ) (list : List Decision) → ((decision : Decision) → Contains list decision → IsWritable old.model decision)
      → Undeniable ((reply : List ℕ) × TellsDecisions old.model word list reply)
  decisions_told word list all none =
      each_has (IsDecisionLine old.model) list (λ decision there some. some (lines.decisions_have_lines old.model decision sound.lawful (all decision there)))
      (λ found. none (counted_lines word found.0, (found.0, (found.1, refl))))

  conflict_told : Undeniable ((reply : List ℕ) × TellsConflict old reply)
  conflict_told none = settling.lists_have_conflicts old.model (standing old.history) sound.lawful (λ conflict.
      decisions_told (codes "conflict") conflict.0
      (λ decision there. All-contains (IsWritable old.model) conflict.0 decision (conflict_writable old.model (standing old.history) conflict.0 conflict.1) there)
      (λ found. none (found.0, (conflict.0, (conflict.1, found.1)))))

  standing_told : Undeniable ((reply : List ℕ) × TellsDecisions old.model (codes "decisions") (standing old.history) reply)
  standing_told none =
      decisions_told (codes "decisions") (standing old.history)
      (λ decision there. All-contains (IsWritable old.model) (standing old.history) decision (standing_writable old.model old.history sound.history) there) none

  -- ---- commands

  taking : (command : Command) → Undeniable (HasReplyBy (UnlessFull (RepliesStep (TakesAsked old command)) old))
  taking command = unless_full (RepliesStep (TakesAsked old command)) (step_reply (TakesAsked old command) (takes command))

  resetting : (command : Command) → Undeniable (HasReplyBy (UnlessFull (RepliesStep (ResetsAsked old command)) old))
  resetting command = unless_full (RepliesStep (ResetsAsked old command)) (step_reply (ResetsAsked old command) (resets command))

  pub plain_reply : (command : Command) → IsPlainCommand command → Undeniable (HasReply old command)
  plain_reply Empty plain none = none ([], (old, ((refl, refl), sound)))
  plain_reply (Specify variable value) plain none = taking (Specify variable value) none
  plain_reply (Activate token) plain none = taking (Activate token) none
  plain_reply (Merge token target) plain none = taking (Merge token target) none
  plain_reply (Reject token) plain none = taking (Reject token) none
  plain_reply (Order first second) plain none = taking (Order first second) none
  plain_reply (Post kind arguments) plain none = taking (Post kind arguments) none
  plain_reply (Relate relation first second) plain none = taking (Relate relation first second) none
  plain_reply (Reset subject) plain none = resetting (Reset subject) none
  plain_reply (ResetOrder first second) plain none = resetting (ResetOrder first second) none
  plain_reply (Withdraw kind arguments) plain none = resetting (Withdraw kind arguments) none
  plain_reply (Unrelate relation first second) plain none = resetting (Unrelate relation first second) none
  plain_reply commands.Undo plain none = step_reply (UndoesLast old) (undoes old.model old.history sound.lawful sound.history) none
  plain_reply (commands.Domain variable) plain none =
      keeping (TellsState (TellsDomain old.model variable)) (state_told (TellsDomain old.model variable) (λ state least. domain_told state least variable)) none
  plain_reply commands.Tokens plain none =
      keeping (TellsState (TellsTokens old.model (standing old.history))) (state_told (TellsTokens old.model (standing old.history)) tokens_told) none
  plain_reply commands.Decisions plain none = standing_told (λ found. none (found.0, (old, ((found.1, refl), sound))))
  plain_reply commands.Flaws plain none =
      keeping (TellsState (TellsFlaw old.model (standing old.history))) (state_told (TellsFlaw old.model (standing old.history)) flaw_told) none
  plain_reply (commands.Solve steps tokens) plain none = plain
  plain_reply commands.Why plain none =
      keeping (TellsCollapse (TellsConflict old)) (collapse_told (TellsConflict old) (λ collapsed. conflict_told)) none
  plain_reply commands.Cycle plain none =
      keeping (TellsCollapse (TellsCycle old)) (collapse_told (TellsCycle old) (collapses_have_cycles old sound)) none
  plain_reply commands.Quit plain none = none ([], (old, ((refl, refl), sound)))

pub plain_commands_have_replies : PlainCommandsHaveReplies
plain_commands_have_replies old command sound plain none = plain_reply old sound command plain none
