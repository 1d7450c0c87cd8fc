-- The block on the side that opens is asked for.
use Rattle.std.proofs.Common.{sym, subst}
use Rattle.std.specs.Prelude.{Contains, OnOk}
use Rattle.model_core.specs.Blocks.{IsBlock}
use Rattle.model_core.specs.Entries.{Entries}
use Rattle.db_store.specs.declared.key.OpenBlock.{OpenBlock}
use Rattle.db_posting.specs.Origins.{content_now}
use Rattle.db_opening.specs.Opened.{AskForBlock}
use Rattle.db_posting.specs.Underway.{StaysUnderway}
use Rattle.db_fixpoint.specs.Reading.{block_named}
use Rattle.db_fixpoint.proofs.FollowedBranches.{Opened, guard_stands, guard_there, behind_is, behind_stays, follows_opened, follows_none}
use Rattle.db_fixpoint.proofs.branches.follow.Goals as goal

pub open_side-requires-clause-one_stands : goal.open_side-requires-clause-one_stands
open_side-requires-clause-one_stands c =
    let s = c.requires.stands in
    (guard_stands c.args.model.now c.requires.lawful c.args.store.now c.is_sound.ensures c.args.block.now s.0 s.1 c.args.place c.args.guard s.2.0 s.2.1 s.2.2).0

pub open_side-requires-clause-other_stands : goal.open_side-requires-clause-other_stands
open_side-requires-clause-other_stands c =
    let s = c.requires.stands in
    (guard_stands c.args.model.now c.requires.lawful c.args.store.now c.is_sound.ensures c.args.block.now s.0 s.1 c.args.place c.args.guard s.2.0 s.2.1 s.2.2).1

pub open_side-requires-clause-one_there : goal.open_side-requires-clause-one_there
open_side-requires-clause-one_there c =
    let s = c.requires.stands in
    (guard_there c.args.model.now c.requires.lawful c.args.store.now c.is_sound.ensures c.args.block.now s.0 s.1 c.args.place c.args.guard s.2.0 s.2.1 s.2.2).0

pub open_side-requires-clause-other_there : goal.open_side-requires-clause-other_there
open_side-requires-clause-other_there c =
    let s = c.requires.stands in
    (guard_there c.args.model.now c.requires.lawful c.args.store.now c.is_sound.ensures c.args.block.now s.0 s.1 c.args.place c.args.guard s.2.0 s.2.1 s.2.2).1

pub open-requires-clause-there : goal.open-requires-clause-there
open-requires-clause-there c =
    let s = c.requires.stands in
    subst (λ (b : OpenBlock). (x : Entries) × IsBlock c.args.model.now (block_named c.args.store.now b) x) (sym c.in_ok-behind-in-Some.ensures)
    (behind_is c.args.model.now c.requires.lawful c.args.store.now c.is_sound.ensures c.args.block.now s.0 s.1 c.args.place c.args.guard s.2.0 s.2.1 s.2.2 c.in-Some.side)

pub returns-in_ok-behind-in-Some-clause-underway : goal.returns-in_ok-behind-in-Some-clause-underway
returns-in_ok-behind-in-Some-clause-underway c =
    let s = c.requires.stands in
    let old = c.args.store.now in
    behind_stays c.args.model.now c.requires.lawful old c.is_sound.ensures c.args.block.now s.0 s.1 c.args.place c.args.guard s.2.0 s.2.1 s.2.2 c.in-Some.side
    (subst (Opened c.args.model.now c.requires.lawful old c.is_sound.ensures c.args.block.now s.0 s.1 c.args.place c.args.guard s.2.0 s.2.1 s.2.2) c.in-Some.is c.in_ok-side.ensures)
    c.open.new.store c.open.result
    (subst (λ (b : OpenBlock). StaysUnderway c.args.model.now (AskForBlock c.args.model.now (content_now old) (block_named old b)) old c.open.result c.open.new.store)
    c.in_ok-behind-in-Some.ensures c.open.ensures.underway)

pub returns-in_ok-behind-in-Some-clause-followed : goal.returns-in_ok-behind-in-Some-clause-followed
returns-in_ok-behind-in-Some-clause-followed c =
    let s = c.requires.stands in
    let old = c.args.store.now in
    follows_opened c.args.model.now c.requires.lawful old c.is_sound.ensures c.args.block.now s.0 s.1 c.args.place c.args.guard s.2.0 s.2.1 s.2.2 c.in-Some.side
    (subst (Opened c.args.model.now c.requires.lawful old c.is_sound.ensures c.args.block.now s.0 s.1 c.args.place c.args.guard s.2.0 s.2.1 s.2.2) c.in-Some.is c.in_ok-side.ensures)
    c.open.new.store c.open.result
    (subst (λ (b : OpenBlock). OnOk c.open.result (Contains c.open.new.store.blocks b)) c.in_ok-behind-in-Some.ensures c.open.ensures.open) c.open.ensures.tokens

pub returns-in-None-clause-followed : goal.returns-in-None-clause-followed
returns-in-None-clause-followed c =
    let s = c.requires.stands in
    let old = c.args.store.now in
    follows_none c.args.model.now c.requires.lawful old c.is_sound.ensures c.args.block.now s.0 s.1 c.args.place c.args.guard s.2.0 s.2.1 s.2.2
    (subst (Opened c.args.model.now c.requires.lawful old c.is_sound.ensures c.args.block.now s.0 s.1 c.args.place c.args.guard s.2.0 s.2.1 s.2.2) c.in-None.is c.in_ok-side.ensures)
