use Rattle.std.proofs.Common.{◌∙◌, sym, ap, arith}
use Rattle.nddl_symbols.proofs.Steps.{decls_read, goes_whole_file}
use Rattle.nddl_symbols.proofs.joining.+joining.Goals as goal

pub join_file-returns : goal.join_file-returns
join_file-returns t c =
    let files = c.args.files.now in
    let file = c.index-files-number.result in
    goes_whole_file files c.args.number c.args.levels c.as_slice-decls.result.now c.args.sites.now c.loop-i.i c.loop-i.next c.loop-i.sites
    (omega (arith, c.if-levels-eq0.false)) (c.as_slice-decls.ensures ∙ (sym (ap (λ f. f.decls) c.index-files-number.is) ∙ decls_read files c.args.number file c.requires c.index-files-number.is))
    c.loop-i-test.false c.loop-i.invariant
