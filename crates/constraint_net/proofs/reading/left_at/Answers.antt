use Rattle.std.proofs.Common.{◌≡◌, ℕ, ◌-◌, pos, [], ◌∷◌, ◌++◌, length, take, drop, sym, ap, ◌∙◌, arith}
use Rattle.std.proofs.lemmas.List.{length-map}
use Rattle.domain_core.specs.Domain.{Range}
use Rattle.cell_store.specs.Cells.{present}
use Rattle.constraint_net.specs.Arguments.{domain_of, domains_of}
use Rattle.constraint_net.proofs.Spreading.{led_to, split_others}
use Rattle.constraint_net.proofs.reading.left_at.Goals as goal

pub returns : goal.returns
returns g c =
    let args = c.args.args.now in
    let cells = present c.args.cells.now in
    let domains = domains_of cells args in
    let place = c.args.place in
    let own = c.read-own.result.now in
    let one = c.read.result in
    let other = c.read-2.result in
    let few = g.met.C.Narrow.few c.args.constraint.now in
    let long : length domains ≡ length args = length-map args (domain_of cells) in
    let split = split_others domains place c.first_beside.result c.last_beside.result one other own (Range (pos 0) (pos 0))
    (omega (arith, few.0, c.requires.count, long)) (omega (arith, few.1, c.requires.count, long)) (omega (arith, c.requires.place, long))
    c.first_beside.ensures.first c.first_beside.ensures.later
    (λ e. omega (arith, c.last_beside.ensures.last (omega (arith, e, long)), long)) (λ below. omega (arith, c.last_beside.ensures.before (omega (arith, below, long)), long))
    c.read-own.ensures c.read.ensures c.read-2.ensures in
    record {
      before = led_to c.split_at.result.0.now;
      own = own;
      after = led_to c.split_at.result.1.now;
      at = length-map c.split_at.result.0.now (λ other. other.now) ∙ c.split_at.ensures.front_len;
      are = split ∙ ap (λ (n : ℕ). led_to (take place (take n (one ∷ other ∷ []))) ++ own ∷ led_to (drop place (take n (one ∷ other ∷ [])))) (ap (λ (n : ℕ). n - 1) long)
          ∙ (λ i. led_to (sym c.split_at.ensures.front i) ++ own ∷ led_to (sym c.split_at.ensures.back i));
      leaves = c.left_between.ensures;
    }
