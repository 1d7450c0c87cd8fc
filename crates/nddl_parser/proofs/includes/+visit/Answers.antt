use Rattle.std.proofs.Common.{◌-◌, ◌+◌, List, drop, refl, subst, Err}
use Rattle.std.specs.Prelude.{Option}
use Rattle.std.proofs.lemmas.Result.{err_from_is_err_and}
use Rattle.eu_io.specs.declared.shelf.FileEntry.{FileEntry}
use Rattle.nddl_parser.specs.declared.include.Include.{Include}
use Rattle.nddl_parser.specs.Outcomes.{TellsOutcome}
use Rattle.nddl_parser.specs.Visits.{ComesOf, Visits, FollowsIncludes}
use Rattle.nddl_parser.proofs.VisitLemmas.{says_more, takes_on, taken_fault, passed, follows_left}
use Rattle.nddl_parser.proofs.includes.+visit.Goals as goal

pub visit-returns-in_err-includes-clause-told : goal.visit-returns-in_err-includes-clause-told
visit-returns-in_err-includes-clause-told g t c =
    let p = err_from_is_err_and c.from_residual.result c.from_residual.ensures.1 in
    rw (p.1, p.2) (taken_fault (g.R.TextReader.reads c.args.reader.now) (g.F.Shelf.files c.args.shelf.now) c.args.levels c.args.ask.now c.args.before c.take_file.new.read
    c.in_err-includes.field-0.0 c.in_err-includes.ensures.taken)

pub visit-returns-clause-told : goal.visit-returns-clause-told
visit-returns-clause-told g t c =
    let reads = g.R.TextReader.reads c.args.reader.now in
    let files = g.F.Shelf.files c.args.shelf.now in
    let inner = Visits reads files (c.args.levels - 1) in
    let file = c.args.ask.now.name in
    let read = c.take_file.new.read in
    let P : Option (List FileEntry) → Type 0 = λ held. TellsOutcome (FollowsIncludes (Visits reads held (c.args.levels - 1)) file c.as_slice.result.now read) c.follow.result in
    let Q : List Include → Type 0 = λ l. FollowsIncludes inner file l read c.follow.result in
    says_more (FollowsIncludes inner file c.as_slice.result.now read) (Visits reads files c.args.levels c.args.ask.now c.args.before) c.follow.result
    (λ follows. takes_on reads files c.args.levels c.args.ask.now c.args.before read c.in_ok-includes.includes c.follow.result c.in_ok-includes.ensures.taken
    (subst Q c.as_slice.ensures follows))
    (subst P c.in_ok-includes.ensures.kept c.follow.ensures.told)

pub follow-returns-in_err-read-clause-told : goal.follow-returns-in_err-read-clause-told
follow-returns-in_err-read-clause-told g t c =
    let p = err_from_is_err_and c.from_residual.result c.from_residual.ensures.1 in
    let reads = g.R.TextReader.reads c.args.reader.now in
    let inner = Visits reads (g.F.Shelf.files c.args.shelf.now) c.args.levels in
    let file = c.args.file.now in
    let include = c.include-item.result in
    let items = c.args.includes.now in
    let rest = drop (c.loop-include.include-index + 1) items in
    let read = c.loop-include.read in
    let fault = c.in_err-read.field-0.0 in
    let P : Option (List FileEntry) → Type 0 = λ held. TellsOutcome (ComesOf (Visits reads held c.args.levels) file include read) (Err fault) in
    rw (p.1, p.2) (says_more (ComesOf inner file include read) (FollowsIncludes inner file items c.args.before) (Err fault)
    (λ pass. c.loop-include.invariant.goes_on (Err fault)
    (follows_left inner file items c.loop-include.include-index include read (Err fault) c.loop-include-test.true c.include-item.is
    (passed inner file include rest read (Err fault) (Err fault) pass refl)))
    (subst P c.loop-include.invariant.kept c.in_err-read.ensures.told))
