-- Values that keep the edges, before and after a further edge.
use Rattle.std.proofs.Common.{◌≡◌, ℕ, ◌<◌, ◌≤◌, ℤ, pos, neg_ℤ, ◌+ℤ◌, ◌≤ℤ◌, ◌<ℤ◌, ⊎_elim, Bool, true, false, MatchBool, List, [], ◌∷◌, ◌++◌, length, replicate, refl, sym, ap, ◌∙◌, subst, true≢false, arith}
use Rattle.std.specs.Prelude.{Contains, All, IsTrue}
use Rattle.std.proofs.lemmas.Int.{ints}
use Rattle.std.proofs.lemmas.List.{get_or_past, get_or-replicate, length-replicate}
use Rattle.std.proofs.lemmas.Bool.{cases_lt}
use Rattle.std.proofs.lemmas.List.Elements.{All-push, All-contains, Contains-append_left, Contains-append_cases, Contains-push}
use Rattle.temporal_core.specs.declared.edges.Edge.{Edge}
use Rattle.temporal_core.specs.Network.{IsEdge}
use Rattle.temporal_core.specs.Schedule.{KeepsEdge, IsSchedule}
use Rattle.temporal_core.specs.Cycle.{gap_sum}
use Rattle.temporal_core.specs.Satisfied.{value_at, Walk, HasPositiveCycle, Raises, Exceeds, AreKept, AreSatisfied}
use Rattle.temporal_core.proofs.Members.{all_from_contains}
use Rattle.temporal_core.proofs.Raising.{gap_sum-append}
use Rattle.temporal_core.proofs.Leaving.{schedule_from_kept}
use Rattle.temporal_core.proofs.Walks.{Contains-cons_cases, LeadsFrom-append, Path, path_or_cycle, cycle_from_walk, none_keeps, IsSimple-path, simple_is_short, gap_sum_modest}

-- a path is short, so its gaps sum to no more than that, up or down
pub path_modest : (points : ℕ) (edges : List Edge) (from to : ℕ) (least : ℤ) → points ≤ 65536 → All (IsEdge points) edges → (path : Path edges from to least)
    → (neg_ℤ (pos 131072000000) ≤ℤ gap_sum path.steps) × (gap_sum path.steps ≤ℤ pos 131072000000)
path_modest points edges from to least few each path =
    let joins : All (IsEdge points) path.steps = all_from_contains (IsEdge points) path.steps (λ edge among. All-contains (IsEdge points) edges edge each (path.within edge among)) in
    let begins : All (λ (edge : Edge). edge.from < points) path.steps = all_from_contains (λ (edge : Edge). edge.from < points) path.steps (λ edge among. (All-contains (IsEdge points) edges edge each (path.within edge among)).from) in
    let short = simple_is_short points path.steps (IsSimple-path to path.steps path.path) begins in
    let modest = gap_sum_modest points path.steps joins in
    (omega (arith, ints, modest.0), omega (arith, ints, modest.1))

-- no value is far up
pub satisfied_modest : (points : ℕ) (edges : List Edge) (values : List ℤ) → points ≤ 65536 → All (IsEdge points) edges → AreSatisfied points edges values → (point : ℕ) → value_at values point ≤ℤ pos 131072000000
satisfied_modest points edges values few each satisfied point =
    ⊎_elim
    (λ within.
    let walked = satisfied.walked point within in
    let value = walked.2 in
    ⊎_elim
    (λ cycle. absurd (none_keeps (value_at values) edges satisfied.keeps cycle))
    (λ path. let modest = (path_modest points edges walked.0 point (gap_sum walked.1.steps) few each path).1 in let enough = path.sum in omega (arith, ints))
    (path_or_cycle edges walked.1.steps walked.0 point walked.1.leads walked.1.within))
    (λ past. let nothing : value_at values point ≡ pos 0 = get_or_past values point (pos 0) (omega (arith, satisfied.count)) in omega (arith, ints))
    (cases_lt point points)

pub Walk-more : (edges : List Edge) (edge : Edge) (from to : ℕ) → Walk edges from to → Walk (edges ++ edge ∷ []) from to
Walk-more edges edge from to walk = record { steps = walk.steps; leads = walk.leads; within = λ other among. Contains-append_left edges (edge ∷ []) other (walk.within other among) }

-- an edge that leads back up to its own point
pub cycle_alone : (edges : List Edge) (edge : Edge) (old : List ℤ) → edge.from ≡ edge.to → value_at old edge.to <ℤ (value_at old edge.from +ℤ edge.gap) → HasPositiveCycle (edges ++ edge ∷ [])
cycle_alone edges edge old same more = record {
  cycle = edge ∷ [];
  within = λ other among. ⊎_elim (λ is. subst (Contains (edges ++ edge ∷ [])) is (Contains-push edges edge)) (λ none. absurd (omega (arith, none.1))) (Contains-cons_cases edge [] other among);
  closed = sym same;
  simple = ((λ k d below. absurd (omega arith)), tt);
  positive = let values = ap (value_at old) same in omega (arith, ints);
}

-- the edge's second point would have to raise its first
pub cycle_through : (edges : List Edge) (edge : Edge) (old : List ℤ) (raised : ℤ) → raised ≡ value_at old edge.from +ℤ edge.gap → Exceeds edges edge.to raised edge.from old → HasPositiveCycle (edges ++ edge ∷ [])
cycle_through edges edge old raised is_raised exceeds =
    let walk = exceeds.0 in
    let more = exceeds.1 in
    let round : Walk (edges ++ edge ∷ []) edge.from edge.from = record {
      steps = edge ∷ walk.steps;
      leads = (refl, walk.leads);
      within = λ other among. ⊎_elim (λ is. subst (Contains (edges ++ edge ∷ [])) is (Contains-push edges edge)) (λ rest. Contains-append_left edges (edge ∷ []) other (walk.within other rest)) (Contains-cons_cases edge walk.steps other among);
    } in
    cycle_from_walk (edges ++ edge ∷ []) edge.from round (omega (arith, ints))

-- whether the values could be raised tells whether they keep the edge as well
pub kept_or_cycle : (edges : List Edge) (edge : Edge) (old : List ℤ) (raised : ℤ) → raised ≡ value_at old edge.from +ℤ edge.gap → (new : List ℤ) (done : Bool)
    → MatchBool done (Raises edges edge.to raised edge.from old new) (Exceeds edges edge.to raised edge.from old)
    → MatchBool done (All (KeepsEdge (value_at new)) (edges ++ edge ∷ [])) (HasPositiveCycle (edges ++ edge ∷ []))
kept_or_cycle edges edge old raised is_raised new true raises =
    All-push (KeepsEdge (value_at new)) edges edge raises.keeps (let stays = raises.fixed_stays in let enough = raises.started in omega (arith, ints))
kept_or_cycle edges edge old raised is_raised new false exceeds = cycle_through edges edge old raised is_raised exceeds

module _ (points : ℕ) (edges : List Edge) (edge : Edge) (old : List ℤ) (satisfied : AreSatisfied points edges old) where
  -- the values keep the further edge already
  pub satisfied_already : KeepsEdge (value_at old) edge → AreSatisfied points (edges ++ edge ∷ []) old
  unfolding Walk-more
  satisfied_already keeps = record {
    count = satisfied.count;
    keeps = All-push (KeepsEdge (value_at old)) edges edge satisfied.keeps keeps;
    low = satisfied.low;
    walked = λ point within. let walked = satisfied.walked point within in (walked.0, Walk-more edges edge walked.0 point walked.1, walked.2);
  }

  module _ (raised : ℤ) (is_raised : raised ≡ value_at old edge.from +ℤ edge.gap) (begins : edge.from < points) where
    -- a walk that leads on from the edge begins with the walk to it
    through : (to : ℕ) (walk : Walk edges edge.to to) → (first : ℕ) × (longer : Walk (edges ++ edge ∷ []) first to) × (raised +ℤ gap_sum walk.steps ≡ gap_sum longer.steps)
    through to walk =
        let walked = satisfied.walked edge.from begins in
        let before = walked.1 in
        let value = walked.2 in
        let sum = gap_sum-append before.steps (edge ∷ walk.steps) in (
          walked.0,
          record {
            steps = before.steps ++ edge ∷ walk.steps;
            leads = LeadsFrom-append walked.0 edge.from to before.steps (edge ∷ walk.steps) before.leads (refl, walk.leads);
            within = λ other among. ⊎_elim
                (λ first. Contains-append_left edges (edge ∷ []) other (before.within other first))
                (λ later. ⊎_elim (λ is. subst (Contains (edges ++ edge ∷ [])) is (Contains-push edges edge)) (λ rest. Contains-append_left edges (edge ∷ []) other (walk.within other rest)) (Contains-cons_cases edge walk.steps other later))
                (Contains-append_cases before.steps (edge ∷ walk.steps) other among);
          },
          omega (arith, ints),
        )

    pub satisfied_raised : (new : List ℤ) → length new ≡ length old → Raises edges edge.to raised edge.from old new → AreSatisfied points (edges ++ edge ∷ []) new
    unfolding Walk-more
    satisfied_raised new count raises = record {
      count = count ∙ satisfied.count;
      keeps = All-push (KeepsEdge (value_at new)) edges edge raises.keeps (let stays = raises.fixed_stays in let enough = raises.started in omega (arith, ints));
      low = λ point. let was = satisfied.low point in let rose = raises.low point in omega (arith, ints);
      walked = λ point within.
          ⊎_elim
          (λ same. let walked = satisfied.walked point within in (walked.0, Walk-more edges edge walked.0 point walked.1, same ∙ walked.2))
          (λ up. let longer = through point up.0 in (longer.0, longer.1, up.1 ∙ longer.2))
          (raises.each point);
    }

-- without an edge each point may be at 0
pub satisfied_nothing : (points : ℕ) (values : List ℤ) → values ≡ replicate points (pos 0) → AreSatisfied points [] values
satisfied_nothing points values all = record {
  count = ap length all ∙ length-replicate points (pos 0);
  keeps = λ k d below. absurd (omega arith);
  low = λ point. let is = nothing point in omega (arith, ints);
  walked = λ point within. (point, record { steps = []; leads = refl; within = λ edge among. among }, nothing point);
}
  where
    nothing : (point : ℕ) → value_at values point ≡ pos 0
    nothing point =
        ap (λ xs. value_at xs point) all ∙ ⊎_elim (λ within. get_or-replicate points point (pos 0) (pos 0) within) (λ past. get_or_past (replicate points (pos 0)) point (pos 0) (let n : length (replicate points (pos 0)) ≡ points = length-replicate points (pos 0) in omega arith)) (cases_lt point points)

-- after values were raised for the edge
pub satisfied_too : (points : ℕ) (edges : List Edge) (edge : Edge) (old : List ℤ) (satisfied : AreSatisfied points edges old) (raised : ℤ) → raised ≡ value_at old edge.from +ℤ edge.gap → edge.from < points
    → (new : List ℤ) → length new ≡ length old → (done : Bool) → IsTrue done → MatchBool done (Raises edges edge.to raised edge.from old new) (Exceeds edges edge.to raised edge.from old)
    → AreSatisfied points (edges ++ edge ∷ []) new
satisfied_too points edges edge old satisfied raised is_raised begins new count true is raises = satisfied_raised points edges edge old satisfied raised is_raised begins new count raises
satisfied_too points edges edge old satisfied raised is_raised begins new count false is exceeds = absurd (true≢false (sym is))

-- satisfied values can be raised
pub satisfied_kept : (points : ℕ) (edges : List Edge) (values : List ℤ) → points ≤ 65536 → All (IsEdge points) edges → AreSatisfied points edges values → AreKept points edges values
satisfied_kept points edges values few each satisfied = record {
  few = few;
  count = satisfied.count;
  keeps = satisfied.keeps;
  low = satisfied.low;
  high = satisfied_modest points edges values few each satisfied;
}

-- where all values keep the edges there is a schedule, or there is a cycle
pub schedule_or_cycle : (edges : List Edge) (values : List ℤ) (done : Bool) → MatchBool done (All (KeepsEdge (value_at values)) edges) (HasPositiveCycle edges)
    → MatchBool done ((value : ℕ → ℤ) × IsSchedule edges value) (HasPositiveCycle edges)
schedule_or_cycle edges values true keeps = schedule_from_kept edges values keeps
schedule_or_cycle edges values false found = found

-- a further edge takes no cycle away
pub HasPositiveCycle-within : (edges more : List Edge) → ((edge : Edge) → Contains edges edge → Contains more edge) → HasPositiveCycle edges → HasPositiveCycle more
HasPositiveCycle-within edges more within found = record {
  cycle = found.cycle;
  within = λ edge among. within edge (found.within edge among);
  closed = found.closed;
  simple = found.simple;
  positive = found.positive;
}
