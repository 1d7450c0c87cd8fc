use Rattle.std.proofs.Common.{◌≡◌, List, set, sym, ap, subst, arith}
use Rattle.std.proofs.lemmas.List.{get_or_read}
use Rattle.flow_envelope.specs.declared.labels.Label.{Label}
use Rattle.flow_envelope.specs.Pairs.{pair_at}
use Rattle.flow_envelope.specs.Labels.{label_at, AreGrown}
use Rattle.flow_envelope.proofs.Leading.{grown_adder, grown_taker}
use Rattle.flow_envelope.proofs.labels.visit.Goals as goal

pub returns-then-taker-gt0-clause-grown : goal.returns-then-taker-gt0-clause-grown
returns-then-taker-gt0-clause-grown c =
    let old = c.args.labels.now in
    let new = c.label_adder.new.labels in
    let place = (pair_at c.args.pairs.now c.args.place).from in
    let label = get_or_read old.adders.items place c.index.result.now c.requires.from c.index.ensures (record { rank = 0; via = 0 }) in
    let none : (label_at old.adders.items place).rank ≡ 0 = omega (arith, ap (λ (l : Label). l.rank) label, c.if-adder-gt0.false) in
    let made : List Label = set old.adders.items place (record { rank = old.next; via = c.args.place }) in
    subst (λ (list : List Label). AreGrown old.adders.items old.takers.items list new.takers.items old.next new.next) (sym c.label_adder.ensures.adders)
    (subst (λ (list : List Label). AreGrown old.adders.items old.takers.items made list old.next new.next) (sym c.label_adder.ensures.takers)
    (subst (λ n. AreGrown old.adders.items old.takers.items made old.takers.items old.next n) (sym c.label_adder.ensures.next)
    (grown_adder old.adders.items old.takers.items place old.next c.args.place c.requires.from none c.requires.some)))

pub returns-clause-grown : goal.returns-clause-grown
returns-clause-grown c =
    let old = c.args.labels.now in
    let new = c.label_taker.new.labels in
    let place = (pair_at c.args.pairs.now c.args.place).to in
    let label = get_or_read old.takers.items place c.index-2.result.now c.requires.to c.index-2.ensures (record { rank = 0; via = 0 }) in
    let none : (label_at old.takers.items place).rank ≡ 0 = omega (arith, ap (λ (l : Label). l.rank) label, c.if-taker-gt0.false) in
    let made : List Label = set old.takers.items place (record { rank = old.next; via = c.args.place }) in
    subst (λ (list : List Label). AreGrown old.adders.items old.takers.items list new.takers.items old.next new.next) (sym c.label_taker.ensures.adders)
    (subst (λ (list : List Label). AreGrown old.adders.items old.takers.items old.adders.items list old.next new.next) (sym c.label_taker.ensures.takers)
    (subst (λ n. AreGrown old.adders.items old.takers.items old.adders.items made old.next n) (sym c.label_taker.ensures.next)
    (grown_taker old.adders.items old.takers.items place old.next c.args.place c.requires.to none c.requires.some)))
