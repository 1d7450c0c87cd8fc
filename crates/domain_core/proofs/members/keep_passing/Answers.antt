use Rattle.std.proofs.Common.{◌≡◌, ◌<◌, length, get_or, ℤ, true, false, sym, ap, ◌∙◌, subst, w32, to_z, of_z, arith}
use Rattle.std.proofs.lemmas.Int.{ints}
use Rattle.domain_core.specs.Domain.{IsValue}
use Rattle.domain_core.proofs.Fronts.{was_there, sifted_take, sifted_leave, sifted_all}
use Rattle.domain_core.proofs.members.keep_passing.Goals as goal
use Rattle.domain_core.proofs.members.keep_passing.Goals.{then-passes, else-passes}

pub passes-requires : goal.passes-requires
passes-requires g c =
    let passed = λ (value : ℤ). g.F.Fn.post c.args.passes (value, tt) true in
    let failed = λ (value : ℤ). g.F.Fn.post c.args.passes (value, tt) false in
    let old = c.args.members.now.items in
    let items = c.loop-read.members.items in
    let read = c.loop-read.read in
    let x = c.index-member.result.now in
    let z = to_z w32 (of_z w32 x) in
    let e : z ≡ x = omega (arith, ints) in
    let read_is : z ≡ get_or items read z = e ∙ c.index-member.ensures ∙ ap (get_or items read) (sym e) in
    let within : read < length items = omega (arith, c.loop-read.invariant.long, c.len-read-end.ensures, c.loop-read-test.true) in
    let was = was_there passed failed old items c.loop-read.kept read z c.requires.are.ascending c.loop-read.invariant within read_is in
    c.requires.callable z (subst IsValue was (c.requires.are.values read z (omega (arith, c.loop-read.invariant.long, within))))

pub loop-read-preserved : goal.loop-read-preserved
loop-read-preserved g c =
    let passed = λ (value : ℤ). g.F.Fn.post c.args.passes (value, tt) true in
    let failed = λ (value : ℤ). g.F.Fn.post c.args.passes (value, tt) false in
    let old = c.args.members.now.items in
    let items = c.loop-read.members.items in
    let read = c.loop-read.read in
    let x = c.index-member.result.now in
    let z = to_z w32 (of_z w32 x) in
    let e : z ≡ x = omega (arith, ints) in
    let read_is : z ≡ get_or items read z = e ∙ c.index-member.ensures ∙ ap (get_or items read) (sym e) in
    let within : read < length items = omega (arith, c.loop-read.invariant.long, c.len-read-end.ensures, c.loop-read-test.true) in
    elim c.if-passes.branch [
      | then-passes w ↦
          rw (w.members-is, w.kept-is)
          (sifted_take passed failed old items c.loop-read.kept read z c.requires.are.ascending c.loop-read.invariant within read_is
          (subst (λ answer. g.F.Fn.post c.args.passes (z, tt) answer) w.if-passes.true c.passes.ensures))
      | else-passes w ↦
          rw (w.members-is, w.kept-is)
          (sifted_leave passed failed old items c.loop-read.kept read z c.requires.are.ascending c.loop-read.invariant within read_is
          (subst (λ answer. g.F.Fn.post c.args.passes (z, tt) answer) w.if-passes.false c.passes.ensures))
    ]

pub returns : goal.returns
returns g c = sifted_all _ _ _ _ _ _ c.loop-read.invariant (omega arith)
