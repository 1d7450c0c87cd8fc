-- Raising values until the edges are kept.
use Rattle.std.proofs.Common.{◌≡◌, ◌≢◌, ℕ, suc, zero, ◌+◌, ◌<◌, ◌≤◌, ℤ, pos, ◌+ℤ◌, ◌-ℤ◌, ◌≤ℤ◌, ◌<ℤ◌, ◌⊎◌, inl, inr, ⊎_elim, true, false, List, [], ◌∷◌, ◌++◌, length, set, Option, Some, None, refl, sym, ap, ◌∙◌, subst, arith}
use Rattle.std.specs.Prelude.{Contains, All, slice_get, ⊤}
use Rattle.std.proofs.lemmas.Int.{ints}
use Rattle.std.proofs.lemmas.List.{append-nil, append_assoc, length-append}
use Rattle.std.proofs.lemmas.List.Elements.{All-push, All-nil, All-append, All-tail, All-contains, Contains-append_left, Contains-push, Contains-push_cases}
use Rattle.std.proofs.lemmas.Bool.{cases_eq, cases_lt}
use Rattle.temporal_core.specs.declared.edges.Edge.{Edge}
use Rattle.temporal_core.specs.Schedule.{KeepsEdge}
use Rattle.temporal_core.specs.Cycle.{LeadsFrom, gap_sum}
use Rattle.temporal_core.specs.Satisfied.{IsLastFrom, value_at, Walk, RaisesEnd, RaisesFrom, IsStopped, Raises, Exceeds}
use Rattle.eu_name.proofs.Members.{get_from_contains, get_below, contains_from_get, get_same}
use Rattle.temporal_core.proofs.Members.{all_from_contains}
use Rattle.temporal_core.proofs.Values.{value_at-set_same, value_at-set_other, total-set}

-- the place comes after the link, and so was told
abbrev pub IsAfter : Option ℕ → ℕ → Type 0
IsAfter None place = Unit {0}
IsAfter (Some link) place = link < place

-- the link is a place whose edge begins at the point, if it is one
abbrev pub IsFrom : List Edge → ℕ → Option ℕ → Type 0
IsFrom edges point None = Unit {0}
IsFrom edges point (Some link) = (link < length edges) × ((edge : Edge) → slice_get edges link ≡ Some edge → edge.from ≡ point)

-- how many places are not told yet
abbrev pub untold : Option ℕ → ℕ
untold None = 0
untold (Some link) = link + 1

pub IsFrom-last : (edges : List Edge) (point limit : ℕ) (link : Option ℕ) → limit ≤ length edges → IsLastFrom edges point limit link → IsFrom edges point link
IsFrom-last edges point limit None within last = tt
IsFrom-last edges point limit (Some link) within last = (omega (arith, last.0), last.1)

pub untold_falls : (edges : List Edge) (point place : ℕ) (link : Option ℕ) → IsLastFrom edges point place link → untold link < place + 1
untold_falls edges point place None last = omega arith
untold_falls edges point place (Some link) last = omega (arith, last.0)

-- past the last edge from the point nothing is told, since there is nothing
pub RaisesFrom-start : (edges : List Edge) (point fixed : ℕ) (values : List ℤ) (queue : List ℕ) (link : Option ℕ) → IsLastFrom edges point (length edges) link
    → RaisesFrom edges (IsAfter link) point fixed values queue values queue
RaisesFrom-start edges point fixed values queue link last = record {
  each = λ end. inl refl;
  fixed_stays = refl;
  keeps = λ place edge after at from. absurd (none link last place edge after at from);
  pushed = [];
  queued = sym (append-nil queue);
  points = All-nil (λ end. end < length values);
  gain = omega (arith, ints);
}
  where
    none : (link : Option ℕ) → IsLastFrom edges point (length edges) link → (place : ℕ) (edge : Edge) → IsAfter link place → slice_get edges place ≡ Some edge → edge.from ≡ point → ⊥
    none None last place edge after at from = last place edge (get_below edges place edge at) at from
    none (Some link) last place edge after at from = last.2 place edge after (get_below edges place edge at) at from

-- what is told after the next link was told before, or is the one at the link
told_next : (edges : List Edge) (point link : ℕ) (next : Option ℕ) → IsLastFrom edges point link next → (place : ℕ) (edge : Edge) → IsAfter next place → slice_get edges place ≡ Some edge → edge.from ≡ point → (place ≡ link) ⊎ (link < place)
told_next edges point link None last place edge after at from =
    ⊎_elim (λ below. absurd (last place edge below at from)) (λ past. ⊎_elim (λ same. inl same) (λ apart. inr (omega arith)) (cases_eq place link)) (cases_lt place link)
told_next edges point link (Some next) last place edge after at from =
    ⊎_elim (λ below. absurd (last.2 place edge after below at from)) (λ past. ⊎_elim (λ same. inl same) (λ apart. inr (omega arith)) (cases_eq place link)) (cases_lt place link)

module _ (edges : List Edge) (point fixed : ℕ) (old : List ℤ) (queue : List ℕ) (cur : List ℤ) (waiting : List ℕ) (link : ℕ) (edge : Edge) (raised : ℤ) (next : Option ℕ)
    (count : length cur ≡ length old) (at : slice_get edges link ≡ Some edge) (from : edge.from ≡ point) (end_within : edge.to < length old) (is_raised : raised ≡ value_at old point +ℤ edge.gap)
    (last : IsLastFrom edges point link next) (so_far : RaisesFrom edges (IsAfter (Some link)) point fixed old queue cur waiting) where
  -- values only rise
  rose : (end : ℕ) → value_at old end ≤ℤ value_at cur end
  rose end = elim (so_far.each end) [ inl same ↦ omega (arith, ints) | inr along ↦ let more = along.0.more in omega (arith, ints) ]

  -- the edge at the link wanted no more
  RaisesFrom-same : raised ≤ℤ value_at cur edge.to → RaisesFrom edges (IsAfter next) point fixed old queue cur waiting
  RaisesFrom-same enough = record {
    each = so_far.each;
    fixed_stays = so_far.fixed_stays;
    keeps = λ place other after there other_from.
        elim (told_next edges point link next last place other after there other_from) [
          | inl same ↦
              let it : other ≡ edge = get_same edges link other edge (subst (λ k. slice_get edges k ≡ Some other) same there) at in
              subst (λ (e : Edge). (value_at old point +ℤ e.gap) ≤ℤ value_at cur e.to) (sym it) (omega (arith, ints))
          | inr before ↦ so_far.keeps place other before there other_from
        ];
    pushed = so_far.pushed;
    queued = so_far.queued;
    points = so_far.points;
    gain = so_far.gain;
  }

  -- the edge at the link raised its second point
  RaisesFrom-more : value_at cur edge.to <ℤ raised → edge.to ≢ fixed → RaisesFrom edges (IsAfter next) point fixed old queue (set cur edge.to raised) (waiting ++ edge.to ∷ [])
  RaisesFrom-more less free =
      let written = value_at-set_same cur edge.to raised (omega arith) in
      let other_end = λ (end : ℕ) (apart : end ≢ edge.to). value_at-set_other cur edge.to end raised apart in
      let sum = total-set cur edge.to raised (omega arith) in
      let before = rose edge.to in
      let gain = so_far.gain in
      let one : length (so_far.pushed ++ edge.to ∷ []) ≡ length so_far.pushed + 1 = length-append so_far.pushed (edge.to ∷ []) in
      record {
        each = λ end.
            elim (cases_eq end edge.to) [
              | inl same ↦ inr (
                record {
                  edge = edge;
                  contained = contains_from_get edges link edge at;
                  from = from;
                  to = sym same;
                  raised = ap (value_at (set cur edge.to raised)) same ∙ written ∙ is_raised;
                  more = subst (λ e. value_at old e <ℤ value_at (set cur edge.to raised) e) (sym same) (omega (arith, ints));
                },
                subst (Contains (waiting ++ edge.to ∷ [])) (sym same) (Contains-push waiting edge.to),
              )
              | inr apart ↦ elim (so_far.each end) [
                | inl same ↦ inl (other_end end apart ∙ same)
                | inr along ↦
                    let more = along.0.more in
                    let stays = other_end end apart in
                    inr (
                      record {
                        edge = along.0.edge;
                        contained = along.0.contained;
                        from = along.0.from;
                        to = along.0.to;
                        raised = stays ∙ along.0.raised;
                        more = omega (arith, ints);
                      },
                      Contains-append_left waiting (edge.to ∷ []) end along.1,
                    )
              ]
            ];
        fixed_stays = other_end fixed (λ same. free (sym same)) ∙ so_far.fixed_stays;
        keeps = λ place other after there other_from.
            elim (told_next edges point link next last place other after there other_from) [
              | inl same ↦
                  let it : other ≡ edge = get_same edges link other edge (subst (λ k. slice_get edges k ≡ Some other) same there) at in
                  subst (λ (e : Edge). (value_at old point +ℤ e.gap) ≤ℤ value_at (set cur edge.to raised) e.to) (sym it) (omega (arith, ints))
              | inr earlier ↦
                  let kept = so_far.keeps place other earlier there other_from in
                  elim (cases_eq other.to edge.to) [
                    | inl same ↦ let here = ap (value_at (set cur edge.to raised)) same in let was = ap (value_at cur) same in omega (arith, ints)
                    | inr apart ↦ let stays = other_end other.to apart in omega (arith, ints)
                  ]
            ];
        pushed = so_far.pushed ++ edge.to ∷ [];
        queued = ap (λ q. q ++ edge.to ∷ []) so_far.queued ∙ append_assoc queue so_far.pushed (edge.to ∷ []);
        points = All-push (λ end. end < length old) so_far.pushed edge.to so_far.points end_within;
        gain = omega (arith, ints);
      }

  pub RaisesFrom-next : (new : List ℤ) (later : List ℕ) → RaisesEnd edge.to raised fixed cur waiting true new later → RaisesFrom edges (IsAfter next) point fixed old queue new later
  RaisesFrom-next new later (inl enough) =
      subst (λ values. RaisesFrom edges (IsAfter next) point fixed old queue values later) (sym enough.1)
      (subst (RaisesFrom edges (IsAfter next) point fixed old queue cur) (sym enough.2) (RaisesFrom-same enough.0))
  RaisesFrom-next new later (inr more) =
      subst (λ values. RaisesFrom edges (IsAfter next) point fixed old queue values later) (sym more.2)
      (subst (RaisesFrom edges (IsAfter next) point fixed old queue (set cur edge.to raised)) (sym more.3) (RaisesFrom-more more.0 more.1))

  pub IsStopped-next : (new : List ℤ) (later : List ℕ) → RaisesEnd edge.to raised fixed cur waiting false new later → IsStopped edges point fixed old
  IsStopped-next new later stop = record {
    edge = edge;
    contained = contains_from_get edges link edge at;
    from = from;
    to = stop.0;
    more = let fixed_is = so_far.fixed_stays in let end_is = ap (value_at cur) stop.0 in let less = stop.1 in omega (arith, ints);
  }

-- where no link is left, all is told
pub RaisesFrom-all : (edges : List Edge) (point fixed : ℕ) (old : List ℤ) (queue : List ℕ) (new : List ℤ) (later : List ℕ) (link : Option ℕ) → ((next : ℕ) → link ≡ Some next → ⊥)
    → RaisesFrom edges (IsAfter link) point fixed old queue new later → RaisesFrom edges (λ place. ⊤) point fixed old queue new later
RaisesFrom-all edges point fixed old queue new later None none raised = record {
  each = raised.each;
  fixed_stays = raised.fixed_stays;
  keeps = λ place edge told at from. raised.keeps place edge tt at from;
  pushed = raised.pushed;
  queued = raised.queued;
  points = raised.points;
  gain = raised.gain;
}
RaisesFrom-all edges point fixed old queue new later (Some next) none raised = absurd (none next refl)

-- while the values rise from the start: the edges that may not be kept begin at points of the queue
pub record IsRaising (edges : List Edge) (start : ℕ) (value : ℤ) (fixed : ℕ) (old cur : List ℤ) (queue : List ℕ) : Type 0 where
  pub waits : All (λ point. point < length old) queue
  pub pending : (edge : Edge) → Contains edges edge → KeepsEdge (value_at cur) edge ⊎ Contains queue edge.from
  pub started : value ≤ℤ value_at cur start
  pub fixed_stays : value_at cur fixed ≡ value_at old fixed
  pub each : (point : ℕ) → (value_at cur point ≡ value_at old point) ⊎ ((walk : Walk edges start point) × (value_at cur point ≡ value +ℤ gap_sum walk.steps))
  pub low : (point : ℕ) → value_at old point ≤ℤ value_at cur point
  pub high : (point : ℕ) → value_at cur point ≤ℤ (value_at old point +ℤ (value -ℤ value_at old start))

-- a walk goes on along an edge
LeadsFrom-push : (from via : ℕ) (steps : List Edge) (edge : Edge) → LeadsFrom from steps via → edge.from ≡ via → LeadsFrom from (steps ++ edge ∷ []) edge.to
LeadsFrom-push from via [] edge leads here = (here ∙ sym leads, refl)
LeadsFrom-push from via (step ∷ steps) edge leads here = (leads.0, LeadsFrom-push step.to via steps edge leads.1 here)

pub gap_sum-append : (one other : List Edge) → gap_sum (one ++ other) ≡ gap_sum one +ℤ gap_sum other
gap_sum-append [] other = omega (arith, ints)
gap_sum-append (edge ∷ one) other = let rest = gap_sum-append one other in omega (arith, ints)

module _ (edges : List Edge) (start : ℕ) (value : ℤ) (fixed : ℕ) (old : List ℤ) (within : start < length old) (other : start ≢ fixed) (more : value_at old start <ℤ value) (kept : All (KeepsEdge (value_at old)) edges) where
  pub IsRaising-start : IsRaising edges start value fixed old (set old start value) (start ∷ [])
  IsRaising-start =
      let written = value_at-set_same old start value within in
      record {
        waits = All-push (λ point. point < length old) [] start (All-nil (λ point. point < length old)) within;
        pending = λ edge contained. elim (cases_eq edge.from start) [
          | inl same ↦ inr (0, omega arith, sym same)
          | inr apart ↦ inl (let from = value_at-set_other old start edge.from value apart in let was = All-contains (KeepsEdge (value_at old)) edges edge kept contained in
              elim (cases_eq edge.to start) [
                | inl same ↦ let here = ap (value_at (set old start value)) same in let before = ap (value_at old) same in omega (arith, ints)
                | inr to_other ↦ let to = value_at-set_other old start edge.to value to_other in omega (arith, ints)
              ])
        ];
        started = omega (arith, ints);
        fixed_stays = value_at-set_other old start fixed value (λ same. other (sym same));
        each = λ point. elim (cases_eq point start) [
          | inl same ↦ inr (record { steps = []; leads = sym same; within = λ edge among. absurd (omega (arith, among.1)) }, ap (value_at (set old start value)) same ∙ written ∙ (let zero_more : value ≡ value +ℤ pos 0 = omega (arith, ints) in zero_more))
          | inr apart ↦ inl (value_at-set_other old start point value apart)
        ];
        low = λ point. elim (cases_eq point start) [
          | inl same ↦ let here = ap (value_at (set old start value)) same in let before = ap (value_at old) same in omega (arith, ints)
          | inr apart ↦ let stays = value_at-set_other old start point value apart in omega (arith, ints)
        ];
        high = λ point. elim (cases_eq point start) [
          | inl same ↦ let here = ap (value_at (set old start value)) same in let before = ap (value_at old) same in omega (arith, ints)
          | inr apart ↦ let stays = value_at-set_other old start point value apart in omega (arith, ints)
        ];
      }

  module _ (cur : List ℤ) (point : ℕ) (queue : List ℕ) (raising : IsRaising edges start value fixed old cur (point ∷ queue)) where
    -- a walk leads to the point, where an edge from it isn't kept
    walked : (edge : Edge) → Contains edges edge → edge.from ≡ point → value_at cur edge.to <ℤ (value_at cur point +ℤ edge.gap) → (walk : Walk edges start point) × (value_at cur point ≡ value +ℤ gap_sum walk.steps)
    walked edge contained from broken = ⊎_elim
        (λ same.
        let was = All-contains (KeepsEdge (value_at old)) edges edge kept contained in
        let begins = ap (value_at old) from in
        let rose = raising.low edge.to in
        absurd (omega (arith, ints)))
        (λ walk. walk)
        (raising.each point)

    pub IsRaising-stopped : IsStopped edges point fixed cur → Exceeds edges start value fixed old
    IsRaising-stopped stopped =
        let edge = stopped.edge in
        let ends = ap (value_at cur) stopped.to in
        let beyond = stopped.more in
        let walk = walked edge stopped.contained stopped.from (omega (arith, ints)) in
        let stays = raising.fixed_stays in
        let sum = gap_sum-append walk.0.steps (edge ∷ []) in
        let far : value_at old fixed <ℤ (value +ℤ gap_sum (walk.0.steps ++ edge ∷ [])) = let is = walk.1 in omega (arith, ints) in (
          record {
            steps = walk.0.steps ++ edge ∷ [];
            leads = subst (LeadsFrom start (walk.0.steps ++ edge ∷ [])) stopped.to (LeadsFrom-push start point walk.0.steps edge walk.0.leads stopped.from);
            within = λ other among. elim (Contains-push_cases walk.0.steps edge other among) [ inl before ↦ walk.0.within other before | inr same ↦ subst (Contains edges) same stopped.contained ];
          },
          far,
        )

    module _ (new : List ℤ) (later : List ℕ) (raised : RaisesFrom edges (λ place. ⊤) point fixed cur queue new later) (count : length cur ≡ length old) where
      -- no value falls
      rises : (end : ℕ) → value_at cur end ≤ℤ value_at new end
      rises end = elim (raised.each end) [ inl same ↦ omega (arith, ints) | inr along ↦ let up = along.0.more in omega (arith, ints) ]

      in_later : (other : ℕ) → Contains queue other → Contains later other
      in_later other among = subst (λ q. Contains q other) (sym raised.queued) (Contains-append_left queue raised.pushed other among)

      -- a point keeps its value or waits
      stays_or_waits : (other : ℕ) → (value_at new other ≡ value_at cur other) ⊎ Contains later other
      stays_or_waits other = elim (raised.each other) [ inl same ↦ inl same | inr along ↦ inr along.1 ]

      pending_next : (edge : Edge) → Contains edges edge → ((edge.from ≡ point) ⊎ (edge.from ≡ point → ⊥)) → ((value_at new edge.from ≡ value_at cur edge.from) ⊎ Contains later edge.from) → KeepsEdge (value_at new) edge ⊎ Contains later edge.from
      pending_next edge contained of_point (inr waits) = inr waits
      pending_next edge contained (inl from) (inl same) =
          let place = get_from_contains edges edge contained in
          let keeps = raised.keeps place.0 edge tt place.1 from in
          let begins = ap (value_at cur) from in
          inl (omega (arith, ints))
      pending_next edge contained (inr elsewhere) (inl same) =
          ⊎_elim (λ keeps. inl (let up = rises edge.to in omega (arith, ints))) (λ waits. inr (in_later edge.from (of_rest edge.from elsewhere waits))) (raising.pending edge contained)
        where
          of_rest : (from : ℕ) → (from ≡ point → ⊥) → Contains (point ∷ queue) from → Contains queue from
          of_rest from apart (zero, below, is) = absurd (apart (sym is))
          of_rest from apart (suc k, below, is) = (k, omega (arith, below), is)

      pub IsRaising-next : IsRaising edges start value fixed old new later
      IsRaising-next = record {
        waits = subst (All (λ end. end < length old)) (sym raised.queued)
            (All-append (λ end. end < length old) queue raised.pushed (All-tail (λ end. end < length old) point queue raising.waits) (subst (λ n. All (λ end. end < n) raised.pushed) count raised.points));
        pending = λ edge contained. pending_next edge contained (cases_eq edge.from point) (stays_or_waits edge.from);
        started = let was = raising.started in let up = rises start in omega (arith, ints);
        fixed_stays = raised.fixed_stays ∙ raising.fixed_stays;
        each = λ end. elim (raised.each end) [
          | inl same ↦ elim (raising.each end) [ inl as_before ↦ inl (same ∙ as_before) | inr walk ↦ inr (walk.0, same ∙ walk.1) ]
          | inr along ↦
              let edge = along.0.edge in
              let ends = ap (value_at cur) along.0.to in
              let up = along.0.more in
              let is = along.0.raised in
              let walk = walked edge along.0.contained along.0.from (omega (arith, ints)) in
              let before = walk.1 in
              let sum = gap_sum-append walk.0.steps (edge ∷ []) in
              inr (
                record {
                  steps = walk.0.steps ++ edge ∷ [];
                  leads = subst (LeadsFrom start (walk.0.steps ++ edge ∷ [])) along.0.to (LeadsFrom-push start point walk.0.steps edge walk.0.leads along.0.from);
                  within = λ other among. elim (Contains-push_cases walk.0.steps edge other among) [ inl first ↦ walk.0.within other first | inr same ↦ subst (Contains edges) same along.0.contained ];
                },
                omega (arith, ints),
              )
        ];
        low = λ end. let was = raising.low end in let up = rises end in omega (arith, ints);
        high = λ end. elim (raised.each end) [
          | inl same ↦ let was = raising.high end in omega (arith, ints)
          | inr along ↦
              let edge = along.0.edge in
              let is = along.0.raised in
              let top_of = raising.high point in
              let keeps = All-contains (KeepsEdge (value_at old)) edges edge kept along.0.contained in
              let begins = ap (value_at old) along.0.from in
              let ends = ap (value_at old) along.0.to in
              omega (arith, ints)
        ];
      }

  pub IsRaising-end : (new : List ℤ) → IsRaising edges start value fixed old new [] → Raises edges start value fixed old new
  IsRaising-end new raising = record {
    keeps = all_from_contains (KeepsEdge (value_at new)) edges (λ edge contained. elim (raising.pending edge contained) [ inl keeps ↦ keeps | inr waits ↦ absurd (omega (arith, waits.1)) ]);
    started = raising.started;
    fixed_stays = raising.fixed_stays;
    each = raising.each;
    low = raising.low;
    high = raising.high;
  }
