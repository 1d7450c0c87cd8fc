-- A store that comes to rest.
use Rattle.std.proofs.Common.{◌≡◌, inl, inr, ◌⊎◌, ℕ, zero, suc, ◌+◌, ◌<◌, ◌≤◌, Bool, true, false, List, [], ◌∷◌, ◌++◌, length, drop, Ok, Err, refl, sym, ap, ◌∙◌, subst, arith}
use Rattle.std.specs.Prelude.{Contains, Result, Some, slice_index_or}
use Rattle.std.proofs.lemmas.List.Elements.{All-contains, Contains-append_left, Contains-append_right}
use Rattle.model_core.specs.declared.decision.Decision.{Decision}
use Rattle.model_core.specs.declared.model.Model.{Model}
use Rattle.constraint_net.specs.Calls.{GoesDown, TakesChanged}
use Rattle.constraint_net.specs.Networks.{Network, AllConsistent}
use Rattle.constraint_net.specs.Steps.{PropagatesTo}
use Rattle.constraint_net.specs.declared.NetFault.{NetFault}
use Rattle.constraint_net.specs.declared.NetFault.TheVariants.{Collapsed, Memory}
use Rattle.db_store.specs.Puts.{ChangesNet}
use Rattle.db_store.specs.Stores.{Stored, snapshot_of}
use Rattle.db_posting.specs.Underway.{IsUnderway, IsStoreUnderway}
use Rattle.db_fixpoint.specs.Fixpoint.{AreKnownDue, HasComeToRest, Heeds, RoundLeaves, MakesRound, MakesRounds, LooksAtAll, BringsToRest}
use Rattle.db_fixpoint.specs.Looking.{IsOnWay, HasWay, KeepsWay, LooksAt}
use Rattle.db_fixpoint.specs.declared.fixpoint.Round.{Round}
use Rattle.db_fixpoint.specs.declared.fixpoint.Round.TheVariants as rounds
use Rattle.db_fixpoint.specs.Unfolding.{UnfoldsBlock}
use Rattle.db_fixpoint.proofs.Staying.{IsPropagatedOn, propagated_underway, underway_more}

-- ---- the next variable

module _ (model : Model) (unfolded variable : ℕ) (old mid : Stored) (changes : ChangesNet old mid) (taken : TakesChanged old.net (Some variable) mid.net) where
  pub taken_way : KeepsWay model old mid
  taken_way decisions count due way =
      let is : mid ≡ record old { net = record old.net { changed = taken.0 } } = changes ∙ ap (λ (net : Network). record old { net = net }) taken.1.1 in
      subst (λ stored. IsOnWay model decisions stored count due) (sym is) (record { once = way.once; underway = way.underway })

  pub taken_tables : mid.net.tables ≡ old.net.tables
  taken_tables = ap (λ (net : Network). net.tables) taken.1.1

  taken_list : (decisions : List Decision) → IsOnWay model decisions old unfolded old.net.changed → IsOnWay model decisions mid unfolded (variable ∷ taken.0)
  taken_list decisions way = subst (IsOnWay model decisions mid unfolded) taken.1.0 (taken_way decisions unfolded old.net.changed way)

  pub heeds_some : (new : Stored) → LooksAt model unfolded variable mid (Ok tt) new → new.net.changed ≡ mid.net.changed → Heeds model unfolded old (Ok true) new
  heeds_some new looks kept = λ decisions way.
      subst (IsOnWay model decisions new unfolded) (sym (kept ∙ ap (λ (net : Network). net.changed) taken.1.1)) (looks decisions taken.0 (taken_list decisions way))

  pub heeds_fails : (new : Stored) (fault : NetFault) → LooksAt model unfolded variable mid (Err fault) new → Heeds model unfolded old (Err fault) new
  heeds_fails new Collapsed looks = λ decisions way. looks decisions taken.0 (taken_list decisions way)
  heeds_fails new Memory looks = tt

pub heeds_none : (model : Model) (unfolded : ℕ) (old new : Stored) → ChangesNet old new → (old.net.changed ≡ []) × (new.net ≡ old.net) → Heeds model unfolded old (Ok false) new
heeds_none model unfolded old new changes taken = (taken.0, changes ∙ ap (λ (net : Network). record old { net = net }) taken.1)

-- ---- propagation

module _ (model : Model) (unfolded : ℕ) (old mid : Stored) (changes : ChangesNet old mid) (down : GoesDown old.net mid.net) where
  pub propagate_fails : (fault : NetFault) → PropagatesTo (AllConsistent old.net.tables old.net.constraints) old.net.domains (Err fault) mid.net.domains
      → MakesRound model unfolded old (Err fault) mid
  propagate_fails Collapsed propagates = λ decisions way. propagated_underway model decisions decisions old mid (Err Collapsed) unfolded way.underway changes down propagates
  propagate_fails Memory propagates = tt

  module _ (propagates : PropagatesTo (AllConsistent old.net.tables old.net.constraints) old.net.domains (Ok tt) mid.net.domains) where
    propagated : (decisions : List Decision) → IsOnWay model decisions old unfolded old.net.changed → IsPropagatedOn model decisions decisions mid unfolded
    propagated decisions way = propagated_underway model decisions decisions old mid (Ok tt) unfolded way.underway changes down propagates

    pub propagated_way : (decisions : List Decision) → IsOnWay model decisions old unfolded old.net.changed → IsOnWay model decisions mid unfolded mid.net.changed
    propagated_way decisions way = record { once = way.once; underway = (propagated decisions way).underway }

    pub behind_fails : (new : Stored) (fault : NetFault) → Heeds model unfolded mid (Err fault) new → MakesRound model unfolded old (Err fault) new
    behind_fails new Collapsed heeds = λ decisions way. heeds decisions (propagated_way decisions way)
    behind_fails new Memory heeds = tt

    pub behind_on : (new : Stored) (heeded : Bool) → heeded ≡ true → Heeds model unfolded mid (Ok heeded) new → MakesRound model unfolded old (Ok (rounds.On unfolded)) new
    behind_on new heeded is heeds = λ decisions way.
        subst (λ b. Heeds model unfolded mid (Ok b) new) is heeds decisions (propagated_way decisions way)

    pub behind_rest : length old.blocks ≤ unfolded → mid.net.quiet ≡ length mid.net.constraints → (new : Stored) (heeded : Bool) → heeded ≡ false → Heeds model unfolded mid (Ok heeded) new
        → MakesRound model unfolded old (Ok rounds.AtRest) new
    behind_rest all quiet new heeded is heeds = λ decisions way.
        let none = subst (λ b. Heeds model unfolded mid (Ok b) new) is heeds in
        let under = (propagated decisions way).underway in
        let within = under.within in
        let blocks : mid.blocks ≡ old.blocks = ap (λ (stored : Stored). stored.blocks) changes in
        let whole : unfolded ≡ length mid.blocks = omega (arith, within, all, ap length blocks) in
        subst (λ (stored : Stored). HasComeToRest model decisions stored) (sym none.1) (record {
          rests = record {
            underway = subst (λ n. IsUnderway model decisions decisions mid.net.tables (snapshot_of mid) n []) whole
                (subst (λ due. IsUnderway model decisions decisions mid.net.tables (snapshot_of mid) unfolded due) none.0 under);
            consistent = (propagated decisions way).consistent;
          };
          idle = record { quiet = quiet; heeded = none.0 };
        })

-- ---- a round

module _ (model : Model) (unfolded : ℕ) (old : Stored) where
  pub unfolds_on : (new : Stored) → UnfoldsBlock model unfolded old (Ok tt) new → new.net.changed ≡ old.net.changed → MakesRound model unfolded old (Ok (rounds.On (unfolded + 1))) new
  unfolds_on new unfolds kept = λ decisions way. record {
    once = way.once;
    underway = subst (λ due. IsStoreUnderway model decisions decisions new (unfolded + 1) due) (sym kept)
        (unfolds decisions old.net.changed way.underway);
  }

  pub unfold_fails : (new : Stored) (fault : NetFault) → UnfoldsBlock model unfolded old (Err fault) new → MakesRound model unfolded old (Err fault) new
  unfold_fails new Collapsed unfolds = λ decisions way. unfolds decisions old.net.changed way.underway
  unfold_fails new Memory unfolds = tt

  pub round_fails : (new : Stored) (fault : NetFault) → Heeds model unfolded old (Err fault) new → MakesRound model unfolded old (Err fault) new
  round_fails new Collapsed heeds = heeds
  round_fails new Memory heeds = tt

  pub round_on : (new : Stored) (heeded : Bool) → heeded ≡ true → Heeds model unfolded old (Ok heeded) new → MakesRound model unfolded old (Ok (rounds.On unfolded)) new
  round_on new heeded is heeds = subst (λ b. Heeds model unfolded old (Ok b) new) is heeds

  -- nothing had changed
  pub none_heeded : (new : Stored) (heeded : Bool) → heeded ≡ false → Heeds model unfolded old (Ok heeded) new → new ≡ old
  none_heeded new heeded is heeds = (subst (λ b. Heeds model unfolded old (Ok b) new) is heeds).1

-- ---- many rounds

module _ (model : Model) (unfolded : ℕ) (old mid : Stored) (count : ℕ)
    (on : (decisions : List Decision) → IsOnWay model decisions old unfolded old.net.changed → IsOnWay model decisions mid count mid.net.changed) where
  pub run_fails : (new : Stored) (fault : NetFault) → MakesRound model count mid (Err fault) new → MakesRounds model unfolded old (Err fault) new
  run_fails new Collapsed round = λ decisions way. round decisions (on decisions way)
  run_fails new Memory round = tt

  came_to_rest : (decisions : List Decision) (new : Stored) (next : Round) → ((n : ℕ) → next ≡ rounds.On n → ⊥) → RoundLeaves model decisions next new → HasComeToRest model decisions new
  came_to_rest decisions new (rounds.On n) not goes = absurd (not n refl)
  came_to_rest decisions new rounds.AtRest not goes = goes

  pub run_ends : (new : Stored) (next : Round) → ((n : ℕ) → next ≡ rounds.On n → ⊥) → MakesRound model count mid (Ok next) new → MakesRounds model unfolded old (Ok tt) new
  run_ends new next not round = λ decisions way. came_to_rest decisions new next not (round decisions (on decisions way))

-- ---- many variables

pub drop_item : (xs : List ℕ) (k item : ℕ) → k < length xs → item ≡ slice_index_or xs k 0 → drop k xs ≡ item ∷ drop (k + 1) xs
drop_item [] k item below is = absurd (omega (arith, below))
drop_item (x ∷ xs) zero item below is = ap (λ y. y ∷ xs) (sym is)
drop_item (x ∷ xs) (suc k) item below is =
    let next : suc k + 1 ≡ suc (k + 1) = omega arith in
    drop_item xs k item (omega (arith, below)) is ∙ ap (λ n. item ∷ drop n (x ∷ xs)) (sym next)

pub way_more : (model : Model) (decisions : List Decision) (stored : Stored) (unfolded : ℕ) (due more : List ℕ) → ((number : ℕ) → Contains due number → Contains more number)
    → IsOnWay model decisions stored unfolded due → IsOnWay model decisions stored unfolded more
way_more model decisions stored unfolded due more there way =
    record { once = way.once; underway = underway_more model decisions decisions stored unfolded due more there way.underway }

-- what is so when the first so many variables have been looked at
abbrev pub AreLookedAt : Model → ℕ → List ℕ → ℕ → Stored → Stored → Type 0
AreLookedAt model unfolded due count old new =
    (decisions : List Decision) (waiting : List ℕ) → IsOnWay model decisions old unfolded (due ++ waiting) → IsOnWay model decisions new unfolded (drop count due ++ waiting)

module _ (model : Model) (unfolded : ℕ) (due : List ℕ) (count : ℕ) (old mid : Stored) (so_far : AreLookedAt model unfolded due count old mid) where
  pub looked_way : HasWay model old unfolded → HasWay model mid unfolded
  looked_way way = (
    way.0,
    drop count due ++ way.1,
    so_far way.0 way.1 (way_more model way.0 old unfolded way.1 (due ++ way.1) (λ number there. Contains-append_right due way.1 number there) way.2),
  )

  module _ (variable : ℕ) (below : count < length due) (is : variable ≡ slice_index_or due count 0) where
    next_list : (decisions : List Decision) (waiting : List ℕ) → IsOnWay model decisions old unfolded (due ++ waiting)
        → IsOnWay model decisions mid unfolded (variable ∷ (drop (count + 1) due ++ waiting))
    next_list decisions waiting way =
        subst (λ list. IsOnWay model decisions mid unfolded (list ++ waiting)) (drop_item due count variable below is) (so_far decisions waiting way)

    pub looked_more : (new : Stored) → LooksAt model unfolded variable mid (Ok tt) new → AreLookedAt model unfolded due (count + 1) old new
    looked_more new looks decisions waiting way = looks decisions (drop (count + 1) due ++ waiting) (next_list decisions waiting way)

    pub looked_fails : (new : Stored) (fault : NetFault) → LooksAt model unfolded variable mid (Err fault) new → LooksAtAll model unfolded due old (Err fault) new
    looked_fails new Collapsed looks = λ decisions waiting way. looks decisions (drop (count + 1) due ++ waiting) (next_list decisions waiting way)
    looked_fails new Memory looks = tt

  pub looked_all : drop count due ≡ [] → LooksAtAll model unfolded due old (Ok tt) mid
  looked_all none = λ decisions waiting way.
      subst (λ list. IsOnWay model decisions mid unfolded (list ++ waiting)) none (so_far decisions waiting way)

-- ---- bringing it to rest

module _ (model : Model) (unfolded : ℕ) (due : List ℕ) (old mid : Stored) where
  all_due : (decisions : List Decision) (waiting : List ℕ) → AreKnownDue due old waiting → IsOnWay model decisions old unfolded waiting
      → IsOnWay model decisions old unfolded (due ++ old.net.changed)
  all_due decisions waiting known way =
      way_more model decisions old unfolded waiting (due ++ old.net.changed)
      (λ number there. elim (All-contains (λ n. Contains due n ⊎ Contains old.net.changed n) waiting number known there) [
        | inl one ↦ Contains-append_left due old.net.changed number one
        | inr other ↦ Contains-append_right due old.net.changed number other
      ]) way

  pub bring_fails : (new : Stored) (fault : NetFault) → LooksAtAll model unfolded due old (Err fault) new → BringsToRest model unfolded due old (Err fault) new
  bring_fails new Collapsed looks = λ decisions waiting known way. looks decisions old.net.changed (all_due decisions waiting known way)
  bring_fails new Memory looks = tt

  module _ (looks : LooksAtAll model unfolded due old (Ok tt) mid) (kept : mid.net.changed ≡ old.net.changed) where
    pub bring_way : (decisions : List Decision) (waiting : List ℕ) → AreKnownDue due old waiting → IsOnWay model decisions old unfolded waiting
        → IsOnWay model decisions mid unfolded mid.net.changed
    bring_way decisions waiting known way =
        subst (IsOnWay model decisions mid unfolded) (sym kept) (looks decisions old.net.changed (all_due decisions waiting known way))

    pub brings_on : (new : Stored) (result : Result (Unit {0}) NetFault) → MakesRounds model unfolded mid result new → BringsToRest model unfolded due old result new
    brings_on new (Ok done) runs = λ decisions waiting known way. runs decisions (bring_way decisions waiting known way)
    brings_on new (Err Collapsed) runs = λ decisions waiting known way. runs decisions (bring_way decisions waiting known way)
    brings_on new (Err Memory) runs = tt
