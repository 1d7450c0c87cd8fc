use Rattle.std.proofs.Common.{◌≡◌, ℕ, ℤ, ◌+◌, false, Option, Some, None, Vec, Global, refl, sym, ap, ◌∙◌, subst}
use Rattle.std.specs.Prelude.{not}
use Rattle.std.specs.Option.{is_some}
use Rattle.std.proofs.lemmas.Bool.{both_ways, true≢false}
use Rattle.flow_envelope.specs.Latest.{bound_at, AreFree}
use Rattle.flow_envelope.proofs.Gathering.{free_more, free_passed}
use Rattle.flow_envelope.proofs.joined.free_points.Goals as goal
use Rattle.flow_envelope.proofs.joined.free_points.Goals.{then-is_none+in_ok-push, else-is_none}

none_from : (one : Option ℤ) → is_some one ≡ false → one ≡ None
none_from None is = refl
none_from (Some number) is = absurd (true≢false is)

pub loop-point-preserved : goal.loop-point-preserved
loop-point-preserved c =
    let bounds = c.args.bounds.now in
    let point = c.loop-point.point in
    let before = c.loop-point.free.items in
    elim c.if-is_none.branch [
      | then-is_none+in_ok-push w ↦ subst (AreFree bounds (point + 1)) (sym (ap (λ (v : Vec ℕ Global). v.items) w.free-is ∙ w.in_ok-push.ensures.items))
          (free_more bounds point before c.loop-point.invariant c.loop-point-test.true (none_from (bound_at bounds point) (c.is_none.ensures ∙ ap not w.if-is_none.true)))
      | else-is_none w ↦ subst (AreFree bounds (point + 1)) (sym (ap (λ (v : Vec ℕ Global). v.items) w.free-is))
          (free_passed bounds point before c.loop-point.invariant (λ none. both_ways (is_some (bound_at bounds point)) (ap is_some none) (c.is_none.ensures ∙ ap not w.if-is_none.false)))
    ]
