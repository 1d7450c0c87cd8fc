-- The levels that are left fall, or one include is read of those that are followed.
use Rattle.std.proofs.Common.{◌≡◌, ◌*◌, ◌+◌, drop}
use Rattle.nddl_parser.specs.Outcomes.{FilesOutcome}
use Rattle.nddl_parser.specs.Visits.{Visits, FollowsIncludes}
use Rattle.nddl_parser.proofs.includes.+visit.Given as goal

abbrev pub decreases-visit : goal.decreases-visit
decreases-visit g l = 3 * l.levels

abbrev pub decreases-follow : goal.decreases-follow
decreases-follow g l = 3 * l.levels + 2

abbrev pub decreases-enter : goal.decreases-enter
decreases-enter g l = 3 * l.levels + 1

-- what comes of the includes from here on comes of all of them
abbrev pub invariant-follow-loop-include : goal.invariant-follow-loop-include
invariant-follow-loop-include g l = record {
  goes_on : (outcome : FilesOutcome)
      → FollowsIncludes (Visits (g.R.TextReader.reads l.reader) (g.F.Shelf.files l.fn.shelf) l.levels) l.file (drop l.include-index l.includes) l.read outcome
      → FollowsIncludes (Visits (g.R.TextReader.reads l.reader) (g.F.Shelf.files l.fn.shelf) l.levels) l.file l.includes l.fn.before outcome;
  kept : g.F.Shelf.files l.shelf ≡ g.F.Shelf.files l.fn.shelf;
  counted : g.F.Shelf.faults l.shelf ≡ g.F.Shelf.faults l.fn.shelf;
}
