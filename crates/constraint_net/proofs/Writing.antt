-- Which cells the steps since a place have written.
use Rattle.std.proofs.Common.{◌≡◌, ℕ, ◌+◌, ◌≤◌, pos, List, [], ◌∷◌, ◌++◌, length, inl, inr, sym, ap, ◌∙◌, subst, arith}
use Rattle.std.specs.Prelude.{Option, Some, None, option_to_list}
use Rattle.std.proofs.lemmas.Bool.{cases_eq}
use Rattle.std.proofs.lemmas.List.{length-set, length_push, get_or_append_left, get_or-set_other}
use Rattle.std.proofs.lemmas.List.Elements.{Contains-append_left, Contains-append_right}
use Rattle.domain_core.specs.Domain.{Domain, Range}
use Rattle.cell_store.specs.Cells.{Celled, domain_at, IsPlace, StepsFrom, IsStep}
use Rattle.constraint_net.specs.Marks.{HaveChanged}
use Rattle.constraint_net.proofs.Alerting.{one_place, place_before}

-- what has changed between two places is among the numbers
pub record AreWritten (numbers : List ℕ) (there now : List Domain) : Type 0 where
  pub fewer : length there ≤ length now
  pub changed : HaveChanged numbers there now

abbrev pub WrittenFrom : ℕ → ℕ → Celled → List ℕ → Type 0
WrittenFrom place later cells numbers =
    (there now : List Domain) → IsPlace cells place there → IsPlace cells later now → AreWritten numbers there now

pub written_none : (place : ℕ) (cells : Celled) → WrittenFrom place place cells []
written_none place cells = λ there now p q.
    let same = one_place cells place there now p q in
    record { fewer = omega (arith, ap length same); changed = λ variable below. inl (ap (λ list. domain_at list variable) (sym same)) }

written_by : (there now next : List Domain) (written : Option ℕ) (numbers : List ℕ) → AreWritten numbers there now → StepsFrom now written next
    → AreWritten (numbers ++ option_to_list written) there next
written_by there now next None numbers p (added, is) = record {
  fewer = omega (arith, p.fewer, ap length is, length_push now added);
  changed = λ variable below. elim (p.changed variable below) [
    | inl same ↦ inl (ap (λ list. domain_at list variable) is ∙ get_or_append_left now (added ∷ []) (Range (pos 0) (pos 0)) variable (omega (arith, below, p.fewer)) ∙ same)
    | inr among ↦ inr (Contains-append_left numbers [] variable among)
  ];
}
written_by there now next (Some cell) numbers p (left, (within, is)) = record {
  fewer = omega (arith, p.fewer, ap length is, length-set now cell left);
  changed = λ variable below. elim (cases_eq variable cell) [
    | inl here ↦ inr (Contains-append_right numbers (cell ∷ []) variable (0, omega arith, sym here))
    | inr apart ↦ elim (p.changed variable below) [
      | inl same ↦ inl (ap (λ list. domain_at list variable) is ∙ get_or-set_other now cell variable left (Range (pos 0) (pos 0)) apart ∙ same)
      | inr among ↦ inr (Contains-append_left numbers (cell ∷ []) variable among)
    ]
  ];
}

pub written_more : (place step : ℕ) (cells : Celled) (written : Option ℕ) (old new : List ℕ) → WrittenFrom place step cells old → IsStep step cells written
    → new ≡ old ++ option_to_list written → WrittenFrom place (step + 1) cells new
written_more place step cells written old new p step_is is = λ there next at_there at_next.
    let now = place_before cells step next at_next in
    subst (λ numbers. AreWritten numbers there next) (sym is) (written_by there now.0 next written old (p there now.0 at_there now.1) (step_is.led now.0 next now.1 at_next))
