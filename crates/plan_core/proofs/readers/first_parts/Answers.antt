use Rattle.std.proofs.Common.{[], ◌∷◌, inl, inr, refl, codes}
use Rattle.std.proofs.lemmas.Result.{err_from_is_err_and}
use Rattle.model_core.specs.declared.variable.ValueKind.TheVariants as kinds
use Rattle.plan_core.proofs.Lining.{part_kept}
use Rattle.plan_core.proofs.readers.first_parts.Goals as goal

pub returns-in_err-end : goal.returns-in_err-end
returns-in_err-end c =
    let p = err_from_is_err_and c.from_residual-in_err-end.result c.from_residual-in_err-end.ensures.1 in
    rw (p.1, p.2) (inr (c.in_ok-start.start, (c.one_part.new.cursor.rest.now, (c.in_ok-start.ensures, inl c.in_err-end.ensures))))

pub returns-in_err-duration : goal.returns-in_err-duration
returns-in_err-duration c =
    let p = err_from_is_err_and c.from_residual-in_err-duration.result c.from_residual-in_err-duration.ensures.1 in
    rw (p.1, p.2) (inr (c.in_ok-start.start, (c.one_part.new.cursor.rest.now, (c.in_ok-start.ensures, inr (c.in_ok-end.end, (c.one_part-2.new.cursor.rest.now, (c.in_ok-end.ensures, inl c.in_err-duration.ensures)))))))

pub returns-in_err-object : goal.returns-in_err-object
returns-in_err-object c =
    let p = err_from_is_err_and c.from_residual-in_err-object.result c.from_residual-in_err-object.ensures.1 in
    rw (p.1, p.2) (inr (
      c.in_ok-start.start,
      (
        c.one_part.new.cursor.rest.now,
        (
          c.in_ok-start.ensures,
          inr (
            c.in_ok-end.end,
            (
              c.one_part-2.new.cursor.rest.now,
              (
                c.in_ok-end.ensures,
                inr (c.in_ok-duration.duration, (c.one_part-3.new.cursor.rest.now, (c.in_ok-duration.ensures, inl c.in_err-object.ensures))),
              ),
            ),
          ),
        ),
      ),
    ))

pub returns : goal.returns
returns c =
    let start = part_kept c.args.model.now (codes "start") kinds.Int c.args.cursor.now.rest.now c.one_part.new.cursor.rest.now c.in_ok-start.start c.requires c.in_ok-start.ensures in
    let end = part_kept c.args.model.now (codes "end") kinds.Int c.one_part.new.cursor.rest.now c.one_part-2.new.cursor.rest.now c.in_ok-end.end c.requires c.in_ok-end.ensures in
    let duration = part_kept c.args.model.now (codes "duration") kinds.Int c.one_part-2.new.cursor.rest.now c.one_part-3.new.cursor.rest.now c.in_ok-duration.duration c.requires c.in_ok-duration.ensures in
    let object = part_kept c.args.model.now (codes "object") kinds.Object c.one_part-3.new.cursor.rest.now c.one_part-4.new.cursor.rest.now c.in_ok-object.object c.requires c.in_ok-object.ensures in (
      c.in_ok-start.start,
      (
        c.one_part.new.cursor.rest.now,
        (
          c.in_ok-start.ensures,
          (
            c.in_ok-end.end,
            (
              c.one_part-2.new.cursor.rest.now,
              (
                c.in_ok-end.ensures,
                (
                  c.in_ok-duration.duration,
                  (
                    c.one_part-3.new.cursor.rest.now,
                    (
                      c.in_ok-duration.ensures,
                      (
                        c.in_ok-object.object,
                        (
                          c.one_part-4.new.cursor.rest.now,
                          (
                            c.in_ok-object.ensures,
                            (λ i. start i ∷ (end i ∷ (duration i ∷ (object i ∷ []))), refl),
                          ),
                        ),
                      ),
                    ),
                  ),
                ),
              ),
            ),
          ),
        ),
      ),
    )
