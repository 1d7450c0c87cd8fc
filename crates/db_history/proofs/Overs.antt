-- Going over decisions to settle them, and the flags of those that stay.
use Rattle.std.proofs.Common.{◌≡◌, ℕ, ◌+◌, ◌<◌, Bool, true, false, List, [], ◌∷◌, ◌++◌, length, take, drop, get_or, inl, inr, refl, sym, ap, ◌∙◌, subst, arith}
use Rattle.std.specs.Prelude.{Contains}
use Rattle.std.proofs.lemmas.List.{append-nil, append_assoc, length-append, length-take-le, take_more}
use Rattle.std.proofs.lemmas.List.Elements.{Contains-push, Contains-append_left}
use Rattle.decision_log.specs.Taking.{kept_of}
use Rattle.decision_log.proofs.Places.{cut_at}
use Rattle.model_core.specs.declared.decision.Decision.{Decision}
use Rattle.model_core.specs.declared.model.Model.{Model}
use Rattle.model_core.specs.History.{History, standing}
use Rattle.plan_defs.specs.History.{IsHistory}
use Rattle.plan_defs.specs.Refusals.{IsAdmissible}
use Rattle.plan_defs.specs.Settling.{IsSettled}
use Rattle.db_history.specs.Settled.{GoesOver, AllStay, SettlesWithout}
use Rattle.db_history.specs.Subjects.{TakesOutAt}
use Rattle.db_history.proofs.Fronts.{settles_both, front_settled, whole}

-- flags of two lists, one after the other
kept_both : (flags more : List Bool) (one other : List Decision) → length flags ≡ length one → kept_of (flags ++ more) (one ++ other) ≡ kept_of flags one ++ kept_of more other
kept_both [] more [] other count = refl
kept_both [] more (decision ∷ one) other count = absurd (omega (arith, count))
kept_both (flag ∷ flags) more [] other count = absurd (omega (arith, count))
kept_both (true ∷ flags) more (decision ∷ one) other count =
    let rest = kept_both flags more one other (omega (arith, count)) in ap (λ (list : List Decision). decision ∷ list) rest
kept_both (false ∷ flags) more (decision ∷ one) other count = kept_both flags more one other (omega (arith, count))

-- the flags of a list with one between
Contains-here : (one other : List Bool) → Contains (one ++ false ∷ other) false
Contains-here one other =
    subst (λ (l : List Bool). Contains l false) (append_assoc one (false ∷ []) other) (Contains-append_left (one ++ false ∷ []) other false (Contains-push one false))

-- the front with the next item
next_item : (decisions : List Decision) (place : ℕ) (item : Decision) → place < length decisions → item ≡ get_or decisions place item → take (place + 1) decisions ≡ take place decisions ++ item ∷ []
next_item decisions place item within is = take_more decisions place item within ∙ ap (λ (d : Decision). take place decisions ++ d ∷ []) (sym is)

-- nothing is gone over
pub over_none : (model : Model) (list : List Decision) (flags : List Bool) → GoesOver model [] list flags list flags
over_none model list flags = record {
  flags = [];
  flagged = sym (append-nil flags);
  count = refl;
  kept = sym (append-nil list);
  settles = refl;
}

-- one after the other
pub over_both : (model : Model) (one other : List Decision) (a b c : List Decision) (f g h : List Bool)
    → GoesOver model one a f b g → GoesOver model other b g c h → GoesOver model (one ++ other) a f c h
over_both model one other a b c f g h first second = record {
  flags = first.flags ++ second.flags;
  flagged = second.flagged ∙ (ap (λ (list : List Bool). list ++ second.flags) first.flagged ∙ append_assoc f first.flags second.flags);
  count = omega (arith, length-append first.flags second.flags, length-append one other, first.count, second.count);
  kept = second.kept ∙ (ap (λ (list : List Decision). list ++ kept_of second.flags other) first.kept
      ∙ (append_assoc a (kept_of first.flags one) (kept_of second.flags other)
      ∙ ap (λ (list : List Decision). a ++ list) (sym (kept_both first.flags second.flags one other first.count))));
  settles = settles_both model a one other b c first.settles second.settles;
}

-- the decision stays
pub over_stays : (model : Model) (decision : Decision) (old new : List Decision) (old_flags new_flags : List Bool)
    → IsAdmissible model old decision → new ≡ old ++ decision ∷ [] → new_flags ≡ old_flags ++ true ∷ [] → GoesOver model (decision ∷ []) old old_flags new new_flags
over_stays model decision old new old_flags new_flags admissible list flags = record {
  flags = true ∷ [];
  flagged = flags;
  count = refl;
  kept = list;
  settles = inl (admissible, list);
}

-- or goes
pub over_goes : (model : Model) (decision : Decision) (old : List Decision) (old_flags new_flags : List Bool)
    → (IsAdmissible model old decision → ⊥) → new_flags ≡ old_flags ++ false ∷ [] → GoesOver model (decision ∷ []) old old_flags old new_flags
over_goes model decision old old_flags new_flags hindered flags = record {
  flags = false ∷ [];
  flagged = flags;
  count = refl;
  kept = sym (append-nil old);
  settles = inr (hindered, refl);
}

-- all stay so far
pub all_none : AllStay [] []
all_none = record { count = refl; kept = refl }

pub all_more : (decisions : List Decision) (decision : Decision) (flags : List Bool) → AllStay decisions flags → AllStay (decisions ++ decision ∷ []) (flags ++ true ∷ [])
all_more decisions decision flags stay = record {
  count = omega (arith, length-append flags (true ∷ []), length-append decisions (decision ∷ []), stay.count);
  kept = kept_both flags (true ∷ []) decisions (decision ∷ []) stay.count ∙ ap (λ (list : List Decision). list ++ decision ∷ []) stay.kept;
}

-- so it is with one more of the list
pub all_pushed : (decisions : List Decision) (place : ℕ) (item copied : Decision) (kept new : List Decision) (flags new_flags : List Bool)
    → place < length decisions → item ≡ get_or decisions place item → copied ≡ item
    → kept ≡ take place decisions → AllStay (take place decisions) flags → new ≡ kept ++ copied ∷ [] → new_flags ≡ flags ++ true ∷ []
    → (new ≡ take (place + 1) decisions) × AllStay (take (place + 1) decisions) new_flags
all_pushed decisions place item copied kept new flags new_flags within is copy front stay pushed flagged =
    let next = next_item decisions place item within is in (
      pushed ∙ (ap (λ (list : List Decision). list ++ copied ∷ []) front ∙ (ap (λ (d : Decision). take place decisions ++ d ∷ []) copy ∙ sym next)),
      subst (λ (list : List Decision). AllStay list new_flags) (sym next)
          (subst (λ (list : List Bool). AllStay (take place decisions ++ item ∷ []) list) (sym flagged) (all_more (take place decisions) item flags stay)),
    )

pub over_pushed : (model : Model) (decisions : List Decision) (place : ℕ) (item : Decision) (a b c : List Decision) (f g h : List Bool)
    → place < length decisions → item ≡ get_or decisions place item
    → GoesOver model (take place decisions) a f b g → GoesOver model (item ∷ []) b g c h → GoesOver model (take (place + 1) decisions) a f c h
over_pushed model decisions place item a b c f g h within is first second =
    subst (λ (list : List Decision). GoesOver model list a f c h) (sym (next_item decisions place item within is))
    (over_both model (take place decisions) (item ∷ []) a b c f g h first second)

-- the decision at the place goes, those before it stay, and the rest is gone over
pub settles_without : (model : Model) (decisions : List Decision) (place : ℕ) (list settled : List Decision) (first middle flags : List Bool)
    → IsSettled model decisions → place < length decisions → list ≡ take place decisions → AllStay (take place decisions) first → middle ≡ first ++ false ∷ []
    → GoesOver model (drop (place + 1) decisions) list middle settled flags
    → SettlesWithout model place decisions settled flags
settles_without model decisions place list settled first middle flags is within here stay added goes =
    let front = take place decisions in
    let decision = (cut_at decisions place within).here in
    let back = drop (place + 1) decisions in
    let parts : decisions ≡ front ++ decision ∷ back = whole model decisions is place within in
    let over : GoesOver model back front middle settled flags = subst (λ (l : List Decision). GoesOver model back l middle settled flags) here goes in
    let all : flags ≡ first ++ (false ∷ over.flags) =
    over.flagged ∙ (ap (λ (l : List Bool). l ++ over.flags) added ∙ append_assoc first (false ∷ []) over.flags) in
    record {
      out = record {
        front = front;
        decision = decision;
        back = back;
        parts = parts;
        place_is = length-take-le place decisions (omega (arith, within));
        settles = settles_both model [] front back front settled (front_settled model decisions is front (decision ∷ back) parts) over.settles;
      };
      count = omega (arith, ap length all, length-append first (false ∷ over.flags), stay.count, over.count, ap length parts, length-append front (decision ∷ back));
      kept = ap (λ (f : List Bool). kept_of f decisions) all
          ∙ (ap (λ (l : List Decision). kept_of (first ++ (false ∷ over.flags)) l) parts
          ∙ (kept_both first (false ∷ over.flags) front (decision ∷ back) stay.count
          ∙ (ap (λ (l : List Decision). l ++ kept_of over.flags back) stay.kept ∙ sym over.kept)));
      some = subst (λ (l : List Bool). Contains l false) (sym all) (Contains-here first over.flags);
    }

-- a decision taken out and the rest settled makes a history
pub taken_out_is : (model : Model) (history : History) (place : ℕ) (list : List Decision) → IsHistory model history → TakesOutAt model place (standing history) list → IsHistory model (list ∷ history)
taken_out_is model [] place list is out = absurd is
taken_out_is model (decisions ∷ former) place list is out =
    (inr (record { front = out.front; decision = out.decision; back = out.back; parts = out.parts; settles = out.settles }), is)
