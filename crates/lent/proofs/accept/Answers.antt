-- The tests stand in the definition's order, so the first that fails gives its number. Assumes nothing.
use mathlib.Core.Path.{◌≡◌}
use mathlib.Core.Bool.{true}
use lib.ListN.{length}
use native.Mathlib.Omega.{arith}
use Rattle.rules_board.specs.Refuse.{sizes_fit, tables_fit}
use Rattle.turfs.specs.Tables.{board_of}
use Rattle.turfs.proofs.Tables.{sizes-of, starts-of}
use Rattle.lent_room.specs.Areas.{room_of}
use Rattle.lent.specs.Given.{lent}
use Rattle.lent.proofs.Numbers.{refusal-is, small_of}
use Rattle.lent.proofs.accept.Goals as goal

pub tables_fit-requires : goal.tables_fit-requires
tables_fit-requires c =
    let b = board_of c.args.tables.now c.args.gases in
    let sized : sizes_fit b ≡ true = grind arith in
    sizes-of b sized

pub links_fit-requires : goal.links_fit-requires
links_fit-requires c =
    let b = board_of c.args.tables.now c.args.gases in
    let sized : sizes_fit b ≡ true = grind arith in
    let fit : tables_fit b (length c.args.gas.now) ≡ true = grind arith in
    record { small = small_of b (sizes-of b sized).small; starts_value = starts-of b (length c.args.gas.now) fit }

pub areas_fit-requires : goal.areas_fit-requires
areas_fit-requires c =
    let b = board_of c.args.tables.now c.args.gases in
    let sized : sizes_fit b ≡ true = grind arith in
    small_of b (sizes-of b sized).small

pub returns-then-not-extra : goal.returns-then-not-extra
returns-then-not-extra c =
    let b = board_of c.args.tables.now c.args.gases in
    refusal-is b (lent c.args.gas.now c.args.events.now c.args.words.now c.args.floats.now) (room_of b c.args.room) c.args.extra 1 (grind arith)

pub returns-then-not-tables_fit : goal.returns-then-not-tables_fit
returns-then-not-tables_fit c =
    let b = board_of c.args.tables.now c.args.gases in
    refusal-is b (lent c.args.gas.now c.args.events.now c.args.words.now c.args.floats.now) (room_of b c.args.room) c.args.extra 2 (grind arith)

pub returns-then-not-ascending : goal.returns-then-not-ascending
returns-then-not-ascending c =
    let b = board_of c.args.tables.now c.args.gases in
    refusal-is b (lent c.args.gas.now c.args.events.now c.args.words.now c.args.floats.now) (room_of b c.args.room) c.args.extra 3 (grind arith)

pub returns-then-not-links_fit : goal.returns-then-not-links_fit
returns-then-not-links_fit c =
    let b = board_of c.args.tables.now c.args.gases in
    refusal-is b (lent c.args.gas.now c.args.events.now c.args.words.now c.args.floats.now) (room_of b c.args.room) c.args.extra 4 (grind arith)

pub returns-then-not-extra-2 : goal.returns-then-not-extra-2
returns-then-not-extra-2 c =
    let b = board_of c.args.tables.now c.args.gases in
    refusal-is b (lent c.args.gas.now c.args.events.now c.args.words.now c.args.floats.now) (room_of b c.args.room) c.args.extra 5 (grind arith)

pub returns-then-not-extra-3 : goal.returns-then-not-extra-3
returns-then-not-extra-3 c =
    let b = board_of c.args.tables.now c.args.gases in
    refusal-is b (lent c.args.gas.now c.args.events.now c.args.words.now c.args.floats.now) (room_of b c.args.room) c.args.extra 6 (grind arith)

pub returns-then-not-areas_fit : goal.returns-then-not-areas_fit
returns-then-not-areas_fit c =
    let b = board_of c.args.tables.now c.args.gases in
    refusal-is b (lent c.args.gas.now c.args.events.now c.args.words.now c.args.floats.now) (room_of b c.args.room) c.args.extra 7 (grind arith)

pub returns-else-not-areas_fit : goal.returns-else-not-areas_fit
returns-else-not-areas_fit c =
    let b = board_of c.args.tables.now c.args.gases in
    refusal-is b (lent c.args.gas.now c.args.events.now c.args.words.now c.args.floats.now) (room_of b c.args.room) c.args.extra 0 (grind arith)
