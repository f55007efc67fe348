-- No turf has the id, its turf is passed over, or a zone is filled from it. Assumes nothing.
use native.Mathlib.Omega.{arith}
use mathlib.Core.Path.{refl, sym, ◌∙◌}
use mathlib.Core.List.{[]}
use lib.Ieee.Bits.{is_true}
use Rattle.scratch.specs.View.{found_in}
use Rattle.rules_board.specs.Board.{turf_count, link_count}
use Rattle.turfs.specs.Tables.{board_at}
use Rattle.fill_tests.proofs.Passed.{is_new}
use Rattle.fill_all.specs.Held.{asked}
use Rattle.fill_all.proofs.After.{fill-ready, after-asks}
use Rattle.fill_all.proofs.Hot.{row-none, after-fills, fills-id, fills-unknown, row-in}
use Rattle.fill_all.proofs.hot_id.Goals as goal

pub find-requires : goal.find-requires
find-requires c = is_true _ c.requires.accepted.ascends

pub returns-in_default : goal.returns-in_default
returns-in_default c = λ hot.
    let args = c.args in
    let p = c.requires in
    let b = board_at args.tables args.gases in
    let q = asked hot args.settings in
    fills-unknown b _ q _ p.hot_fits.stored p.hot_fits.room (sym (c.find.ensures b refl) ∙ c.in_default.is)

pub passed_over-requires : goal.passed_over-requires
passed_over-requires c =
    let args = c.args in
    let p = c.requires in
    let b = board_at args.tables args.gases in
    let found = sym (c.find.ensures b refl) in
    let is_at = c.in-Some.is in
    let row = row-in p.accepted _ _ found _ is_at in
    record {
      accepted = p.accepted;
      fact = record { sizes = p.hot_fits.stored.sizes; words = p.hot_fits.stored.words; row = row };
    }

pub returns-then-passed_over : goal.returns-then-passed_over
returns-then-passed_over c = λ hot.
    let args = c.args in
    let p = c.requires in
    let b = board_at args.tables args.gases in
    let q = asked hot args.settings in
    let found = sym (c.find.ensures b refl) in
    let is_at = c.in-Some.is in
    fills-id b _ q _ _ p.hot_fits.going (found ∙ is_at) (row-none q p.hot_fits.stored p.hot_fits.room _ _ (c.passed_over.ensures q refl) c.if-passed_over.true)

pub overflow_cast-seed : goal.overflow_cast-seed
overflow_cast-seed c =
    let args = c.args in
    let p = c.requires in
    let b = board_at args.tables args.gases in
    let found = sym (c.find.ensures b refl) in
    let is_at = c.in-Some.is in
    let row = row-in p.accepted _ _ found _ is_at in
    omega (arith, row, p.accepted.turfs.1)

pub overflow_cast-seed-2 : goal.overflow_cast-seed-2
overflow_cast-seed-2 c = omega (arith, c.requires.hot_fits.stored.zones, c.requires.accepted.turfs.1)

pub flood_fill-t-requires : goal.flood_fill-t-requires
flood_fill-t-requires c =
    let args = c.args in
    let p = c.requires in
    let b = board_at args.tables args.gases in
    let q = asked [] args.settings in
    let found = sym (c.find.ensures b refl) in
    let is_at = c.in-Some.is in
    let row = row-in p.accepted _ _ found _ is_at in
    let pass = c.passed_over.ensures q refl in
    let left = c.if-passed_over.false in
    let new = is_new b args.gas.now q _ (found_in (turf_count b) (link_count b) args.words.now) pass left in
    record {
      accepted = p.accepted;
      zone_fits = fill-ready p.accepted args.gas.now q _ p.hot_fits.stored p.hot_fits.room row new;
      tests_le_allowance = p.hot_fits.room.tests;
    }

pub after_fill-requires : goal.after_fill-requires
after_fill-requires c =
    let args = c.args in
    let p = c.requires in
    let b = board_at args.tables args.gases in
    let q = asked [] args.settings in
    let found = sym (c.find.ensures b refl) in
    let is_at = c.in-Some.is in
    let row = row-in p.accepted _ _ found _ is_at in
    let pass = c.passed_over.ensures q refl in
    let left = c.if-passed_over.false in
    let new = is_new b args.gas.now q _ (found_in (turf_count b) (link_count b) args.words.now) pass left in
    let whole = after-asks p.accepted args.gas.now q _ p.hot_fits.stored p.hot_fits.room row new c.flood_fill-t.ensures in
    record {
      keep_fits = whole.0;
      pushed_fits = whole.1.0;
      spans = whole.1.1;
    }

pub shape_of-words : goal.shape_of-words
shape_of-words c = c.after_fill.auto.words ∙ c.flood_fill-t.auto.words

pub shape_of-floats : goal.shape_of-floats
shape_of-floats c = c.after_fill.auto.floats

pub shape_of-events : goal.shape_of-events
shape_of-events c = c.flood_fill-t.auto.events

pub returns : goal.returns
returns c = λ hot.
    let args = c.args in
    let p = c.requires in
    let b = board_at args.tables args.gases in
    let q = asked hot args.settings in
    let found = sym (c.find.ensures b refl) in
    let is_at = c.in-Some.is in
    let row = row-in p.accepted _ _ found _ is_at in
    let pass = c.passed_over.ensures q refl in
    let left = c.if-passed_over.false in
    let new = is_new b args.gas.now q _ (found_in (turf_count b) (link_count b) args.words.now) pass left in
    fills-id b _ q _ _ p.hot_fits.going (found ∙ is_at)
    (after-fills p.accepted args.gas.now q _ p.hot_fits.stored p.hot_fits.room row new pass left c.flood_fill-t.ensures c.after_fill.ensures)
