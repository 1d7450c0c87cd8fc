use Rattle.std.proofs.Common.{◌≡◌, ◌++◌, drop, map}
use Rattle.std.specs.List.{filter_map}
use Rattle.nddl_symbols.specs.Joined.{decl_in}
use Rattle.nddl_types.proofs.files.list_decls.Given as goal

-- those so far and those of the sites that are left are all
abbrev pub invariant-loop-site : goal.invariant-loop-site
invariant-loop-site l =
    map (λ decl. decl.now) l.decls.items ++ filter_map (decl_in l.files) (drop l.site-index l.sites) ≡ filter_map (decl_in l.files) l.sites
