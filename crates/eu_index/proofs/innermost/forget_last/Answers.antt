use Rattle.std.proofs.Common.{◌-◌, length, take, sym, ap, ◌∙◌}
use Rattle.eu_index.proofs.Hiding.{popped}
use Rattle.eu_index.proofs.innermost.forget_last.Goals as goal

pub returns-clause-indexed : goal.returns-clause-indexed
returns-clause-indexed g c =
    popped c.args.last.now.entries c.set_last.new.last.entries c.args.seen.now.items c.pop.new.self.items c.in-Some.field-0-1.now
    c.in-Some.gone.now c.requires (sym c.as_slice.ensures.value ∙ c.in-Some.ensures.cases.0)
    (c.pop.ensures.rest ∙ ap (λ n. take (n - 1) c.args.seen.now.items) (sym c.as_slice.ensures.len ∙ ap length c.as_slice.ensures.value))
    c.in_ok-set_last-in-Some.ensures.ok
