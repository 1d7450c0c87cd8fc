-- What the calls leave is a snapshot, and marks stay.
use Rattle.std.proofs.Common.{◌≡◌, ℕ, List, [], ◌∷◌, ◌++◌, length, set, sym, ap, ◌∙◌, subst}
use Rattle.std.specs.Prelude.{Contains, Result, Ok, Err, OnOk, OnErr}
use Rattle.std.specs.declared.alloc.AllocError.{AllocError}
use Rattle.std.proofs.lemmas.List.{append-nil, length-set}
use Rattle.std.proofs.lemmas.List.Elements.{All-set}
use Rattle.domain_core.specs.Domain.{Domain, IsDomain}
use Rattle.domain_core.specs.declared.Change.{Change}
use Rattle.eu_name.specs.declared.name.TokenName.{TokenName}
use Rattle.model_core.specs.declared.view.TokenState.{TokenState}
use Rattle.narrow_core.specs.Laws.{LieWithin}
use Rattle.token_store.specs.Tokens.{TokenPast, tokens_now, token_names, with_token, with_state, AddsToken}
use Rattle.token_store.specs.declared.AddFault.{AddFault}
use Rattle.token_store.specs.declared.AddFault.TheVariants.{Twice, Memory}
use Rattle.constraint_net.specs.Calls.{AddsVar, Limits}
use Rattle.constraint_net.specs.Networks.{Network}
use Rattle.constraint_net.specs.Steps.{PropagatesTo}
use Rattle.constraint_net.specs.declared.NetFault.{NetFault}
use Rattle.constraint_net.specs.declared.NetFault.TheVariants.{Collapsed}
use Rattle.constraint_net.specs.declared.NetFault.TheVariants as fault
use Rattle.db_store.specs.declared.key.VarKey.{VarKey}
use Rattle.db_store.specs.Keys.{IsKeyBelow}
use Rattle.db_store.specs.Stores.{Stored, snapshot_of, IsSnapshot}
use Rattle.db_store.specs.StoreMarks.{KeepStoreMarks}
use Rattle.db_store.proofs.Snapshots.{names_push, names_state, with_a_token, with_a_state, with_a_variable, with_domains_posted}
use Rattle.db_store.proofs.Going.{tokens_marks, same_marks}

abbrev at_past : Stored → TokenPast → Stored
at_past view past = record view { past = past }

abbrev at_net : Stored → Network → Stored
at_net view net = record view { net = net }

-- ---- tokens

module _ (view old : Stored) (name : TokenName) (pred : ℕ) (past : TokenPast) (seen : view ≡ old) where
  pub token_kept : (result : Result ℕ AddFault) → AddsToken name pred view.past result past → IsSnapshot (snapshot_of view) → IsSnapshot (snapshot_of (at_past view past))
  token_kept (Ok place) adds is = subst (λ p. IsSnapshot (snapshot_of (at_past view p))) (sym adds.1.1) (with_a_token (snapshot_of view) name pred is adds.1.0)
  token_kept (Err Twice) adds is = subst (λ p. IsSnapshot (snapshot_of (at_past view p))) (sym adds.0) is
  token_kept (Err Memory) adds is = subst (λ p. IsSnapshot (snapshot_of (at_past view p))) (sym adds.0) is

  pub token_marks : (result : Result ℕ AddFault) → AddsToken name pred view.past result past → KeepStoreMarks old (at_past view past)
  token_marks (Ok place) adds = tokens_marks view old past (with_token (tokens_now view.past) name pred) (name ∷ [], names_push (tokens_now view.past) name pred) seen adds.1.1
  token_marks (Err Twice) adds = same_marks view old (at_past view past) seen (ap (at_past view) adds.0)
  token_marks (Err Memory) adds = same_marks view old (at_past view past) seen (ap (at_past view) adds.0)

-- ---- states

module _ (view old : Stored) (place : ℕ) (state : TokenState) (past : TokenPast) (seen : view ≡ old) where
  abbrev written : TokenPast
  written = with_state (tokens_now view.past) place state ∷ view.past

  pub state_kept : (result : Result (Unit {0}) AllocError) → OnOk result (past ≡ written) → OnErr result (past ≡ view.past)
      → IsSnapshot (snapshot_of view) → IsSnapshot (snapshot_of (at_past view past))
  state_kept (Ok done) ok err is = subst (λ p. IsSnapshot (snapshot_of (at_past view p))) (sym ok) (with_a_state (snapshot_of view) place state is)
  state_kept (Err none) ok err is = subst (λ p. IsSnapshot (snapshot_of (at_past view p))) (sym err) is

  pub state_marks : (result : Result (Unit {0}) AllocError) → OnOk result (past ≡ written) → OnErr result (past ≡ view.past)
      → KeepStoreMarks old (at_past view past)
  state_marks (Ok done) ok err =
      tokens_marks view old past (with_state (tokens_now view.past) place state)
      ([], names_state (tokens_now view.past) place state ∙ sym (append-nil (token_names (tokens_now view.past)))) seen ok
  state_marks (Err none) ok err = same_marks view old (at_past view past) seen (ap (at_past view) err)

-- ---- variables and their domains

pub variable_kept : (view old : Stored) (key : VarKey) (domain : Domain) (number : ℕ) (keys : List VarKey) (net : Network) → view ≡ old
    → IsKeyBelow (length (tokens_now old.past)) key → (Contains view.keys key → ⊥) → IsDomain domain
    → keys ≡ view.keys ++ key ∷ [] → AddsVar domain view.net (Ok number) net
    → IsSnapshot (snapshot_of view) → IsSnapshot (snapshot_of (record view { keys = keys; net = net }))
variable_kept view old key domain number keys net seen placed fresh a_domain is adds kept =
    let below = subst (λ (stored : Stored). IsKeyBelow (length (tokens_now stored.past)) key) (sym seen) placed in
    let more = with_a_variable (snapshot_of view) key domain kept below fresh a_domain in
    subst (λ list. IsSnapshot (snapshot_of (record view { keys = list; net = net }))) (sym is)
    (subst (λ n. IsSnapshot (snapshot_of (record view { keys = view.keys ++ key ∷ []; net = n }))) (sym adds.1) more)

pub limit_tables : (variable : ℕ) (to : Domain) (result : Result Change AllocError) (old new : Network) → Limits old variable to result new → new.tables ≡ old.tables
limit_tables variable to (Ok change) old new limits = limits.1.tables
limit_tables variable to (Err none) old new limits = ap (λ (net : Network). net.tables) limits

pub limit_kept : (view old : Stored) (variable : ℕ) (to : Domain) (result : Result Change AllocError) (net : Network) → view ≡ old → Limits view.net variable to result net
    → IsSnapshot (snapshot_of view) → IsSnapshot (snapshot_of (at_net view net))
limit_kept view old variable to (Ok change) net seen limits is =
    let at = limits.0 in
    let domains = set view.net.domains variable at.left in
    let kept = with_domains_posted (snapshot_of view) domains view.net.constraints net.tables is
    (length-set view.net.domains variable at.left) (All-set IsDomain view.net.domains variable at.left at.is is.are) in
    subst (λ list. IsSnapshot (record (snapshot_of view) { domains = list; posted = net.constraints; tables = net.tables })) (sym at.others)
    (subst (λ list. IsSnapshot (record (snapshot_of view) { domains = domains; posted = list; tables = net.tables })) (sym limits.1.constraints) kept)
limit_kept view old variable to (Err none) net seen limits is = subst (λ n. IsSnapshot (snapshot_of (at_net view n))) (sym limits) is

-- whatever propagation answers, it leaves domains within those that there were
pub propagated_within : (fits : List Domain → Type 0) (result : Result (Unit {0}) NetFault) (old new : List Domain) → PropagatesTo fits old result new → LieWithin new old
propagated_within fits (Ok done) old new propagates = propagates.0.within
propagated_within fits (Err Collapsed) old new propagates = propagates.0.within
propagated_within fits (Err fault.Memory) old new propagates = propagates.within
