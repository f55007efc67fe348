-- The rows: document 01's P1 to P12 and six-node boards, and for each misreading and each way to cheat a board that shows it.
use Rattle.std.specs.Prelude.{List, [], ◌∷◌, ◌++◌, Bool, ℕ, replicate, Float}
use Rattle.basics.specs.Loops.{same}
use Rattle.basics.specs.Floats.{0f, of_count, of_word, whole, exact}
use Rattle.rules_board.specs.Board.{Board}
use Rattle.rules_board.specs.Draw.{to, lock, turf, disabled, planet, space, draw, sharing, with_gases, pair_with, twenty, board_a, chain, locked_pair, locked_chain, as_is, star, four, ring, six, breached, twins}
use Rattle.rules_events.specs.Events.{encode_all}
use Rattle.rules_events.specs.Lister.{listing}
use Rattle.rules_events.specs.Worked.{p1_bytes}
use Rattle.rules_events.specs.declared.Event.{Event}
use Rattle.rules_events.specs.declared.Event.TheVariants.{DepressurizeWanted, PlanetWanted, Pressure, Firelock, Target, HighPressure, Difference, FloorRip}
use Rattle.rules_lent.specs.Lent.{Lent, words_room, floats_room}
use Rattle.rules_lent.specs.Worked.{lend, less_area, less_words, less_floats}
use Rattle.rules_equalize.specs.Equalize.{Ask, filled_all, planned_all}
use Rattle.rules_equalize.specs.Result.{equalize_room}
use Rattle.rules_equalize.specs.Worked.{ask, limited, allowed, threshold, done, cancelled, equalizes, refused}
use Rattle.rules_planet.specs.Planet.{planet_room}
use Rattle.rules_planet.specs.Worked.{walks_planet}
use Rattle.rules_depressurize.specs.Depressurize.{breach_of, depressurize_room}
use Rattle.rules_depressurize.specs.Worked.{depressurizes, chain_events}
use Rattle.rules_back.specs.Worked.{difference, loops_of_chain}

-- which turfs have the fast mark after planning
unfoldable pub marks : Board → Ask → List Float → List ℕ → Bool
marks b q gas ms = same (planned_all b gas (filled_all b gas q)).fast ms

-- the words, floats and event bytes of the three calls that a board needs
unfoldable pub rooms : Board → List ℕ → Bool
rooms b ns = same (words_room b ∷ floats_room b ∷ equalize_room b ∷ depressurize_room b ∷ planet_room b ∷ []) ns

-- bytes that events are written as
unfoldable pub writes : List Event → List ℕ → Bool
writes es bs = same (encode_all es) bs

-- P1's event
abbrev pub p1 : List Event
p1 = Pressure 0 (of_count 8) 10 20 ∷ []

-- P1 to P12, and the six-node boards
unfoldable pub document_rows : List Bool
document_rows =
    -- P1
    equalizes board_a (ask (10 ∷ [])) [] (whole (32 ∷ 16 ∷ [])) (done 2 4 1 1 20) (whole (24 ∷ 24 ∷ [])) p1
    ∷ writes p1 p1_bytes
    -- "3 0 41000000 10 20"
    ∷ same (listing p1_bytes) (51 ∷ 32 ∷ 48 ∷ 32 ∷ 52 ∷ 49 ∷ 48 ∷ 48 ∷ 48 ∷ 48 ∷ 48 ∷ 48 ∷ 32 ∷ 49 ∷ 48 ∷ 32 ∷ 50 ∷ 48 ∷ 10 ∷ [])
    -- P2, P3, P4
    ∷ equalizes board_a (allowed 4 (ask (10 ∷ []))) [] (whole (32 ∷ 16 ∷ [])) (done 2 4 1 1 20) (whole (24 ∷ 24 ∷ [])) p1
    ∷ equalizes board_a (allowed 3 (ask (10 ∷ []))) [] (whole (32 ∷ 16 ∷ [])) (cancelled 2 4 0) (whole (32 ∷ 16 ∷ [])) []
    ∷ equalizes board_a (allowed 2 (ask (10 ∷ []))) [] (whole (32 ∷ 16 ∷ [])) (cancelled 0 3 0) (whole (32 ∷ 16 ∷ [])) []
    -- P5: 9.5, then 10
    ∷ equalizes board_a (ask (10 ∷ [])) [] (exact (0x4118_0000 ∷ 0x4180_0000 ∷ [])) (done 0 2 0 1 0) (exact (0x4118_0000 ∷ 0x4180_0000 ∷ [])) []
    ∷ equalizes board_a (ask (10 ∷ [])) [] (whole (10 ∷ 16 ∷ [])) (done 2 4 1 1 20) (whole (13 ∷ 13 ∷ [])) (Pressure 0 (of_count 3) 20 10 ∷ [])
    -- P6
    ∷ equalizes board_a (ask (10 ∷ [])) [] (whole (32 ∷ 32 ∷ [])) (done 0 2 0 1 0) (whole (32 ∷ 32 ∷ [])) []
    ∷ equalizes board_a (threshold 0 (ask (10 ∷ []))) [] (whole (32 ∷ 32 ∷ [])) (done 2 4 1 1 0) (whole (32 ∷ 32 ∷ [])) []
    -- P7
    ∷ equalizes (pair_with (space twenty)) (ask (10 ∷ [])) [] (whole (32 ∷ 0 ∷ [])) (done 0 4 0 1 8) (whole (32 ∷ 0 ∷ [])) (DepressurizeWanted 10 ∷ [])
    ∷ writes (DepressurizeWanted 10 ∷ []) (8 ∷ 0 ∷ 1 ∷ 0 ∷ 0x0a ∷ 0 ∷ 0 ∷ 0 ∷ [])
    ∷ equalizes (pair_with (disabled (space twenty))) (ask (10 ∷ [])) [] (whole (32 ∷ 0 ∷ [])) (done 0 3 0 1 8) (whole (32 ∷ 0 ∷ [])) (DepressurizeWanted 10 ∷ [])
    -- P8, P9
    ∷ equalizes (pair_with (planet twenty)) (limited 1 (ask (10 ∷ []))) [] (whole (32 ∷ 16 ∷ [])) (done 2 4 1 1 0) (whole (32 ∷ 16 ∷ [])) []
    ∷ equalizes (pair_with (planet twenty)) (limited 2 (ask (10 ∷ []))) [] (whole (32 ∷ 16 ∷ [])) (done 2 4 1 1 20) (whole (24 ∷ 24 ∷ [])) p1
    -- P10
    ∷ equalizes chain (ask (20 ∷ [])) [] (whole (64 ∷ 11 ∷ 0 ∷ [])) (done 3 5 1 1 40) (whole (25 ∷ 25 ∷ 25 ∷ []))
    (Pressure 0 (of_count 39) 10 20 ∷ Pressure 0 (of_count 25) 20 30 ∷ [])
    -- P11: turns 1, then none
    ∷ equalizes twins (ask (10 ∷ 30 ∷ [])) (1 ∷ []) (whole (32 ∷ 16 ∷ 32 ∷ 16 ∷ [])) (done 4 6 2 1 40) (whole (24 ∷ 24 ∷ 24 ∷ 24 ∷ []))
    (Pressure 1 (of_count 8) 30 40 ∷ Pressure 0 (of_count 8) 10 20 ∷ [])
    ∷ equalizes twins (ask (10 ∷ 30 ∷ [])) [] (whole (32 ∷ 16 ∷ 32 ∷ 16 ∷ [])) (done 4 6 2 1 40) (whole (24 ∷ 24 ∷ 24 ∷ 24 ∷ []))
    (Pressure 0 (of_count 8) 10 20 ∷ Pressure 1 (of_count 8) 30 40 ∷ [])
    -- P12: limit 10, then limit 0
    ∷ depressurizes (pair_with (space twenty)) (breach_of 10 10 0) (32 ∷ 0 ∷ []) 2 84 (0 ∷ 0 ∷ [])
    (Target 20 20 ∷ Target 10 20 ∷ HighPressure 10 ∷ difference 10 0 ∷ difference 10 0 ∷ FloorRip 10 0f ∷ [])
    ∷ depressurizes (pair_with (space twenty)) (breach_of 10 0 0) (32 ∷ 0 ∷ []) 0 0 (32 ∷ 0 ∷ []) []
    -- P12 with arrows towards space
    ∷ depressurizes (pair_with (space twenty)) (breach_of 10 10 1) (32 ∷ 0 ∷ []) 2 84 (0 ∷ 0 ∷ [])
    (Target 20 20 ∷ Target 10 20 ∷ HighPressure 10 ∷ Difference 10 0f 10 20 ∷ Difference 20 0f 10 20 ∷ FloorRip 10 0f ∷ [])
    -- six nodes, three givers: fast pass; two givers: none
    ∷ marks six (ask (1 ∷ [])) (whole (20 ∷ 0 ∷ 20 ∷ 0 ∷ 20 ∷ 0 ∷ [])) (replicate 6 1)
    ∷ marks six (ask (1 ∷ [])) (whole (30 ∷ 30 ∷ 0 ∷ 0 ∷ 0 ∷ 0 ∷ [])) (replicate 6 0)
    ∷ []

-- all hot, with room for every limit
abbrev pub ask_all : List ℕ → Ask
ask_all hot = limited 100 (allowed 1000 (ask hot))

-- 20 and 30 have one mixture, and 30 a link of one way
abbrev pub one_way : Board
one_way = sharing (0 ∷ 1 ∷ 1 ∷ []) 2 (draw (turf 10 (to 1 ∷ []) ∷ turf 20 (to 2 ∷ to 0 ∷ []) ∷ turf 30 (to 0 ∷ to 1 ∷ []) ∷ []))

-- six turfs, 10, 50 and 60 with one mixture, some links of one way
abbrev pub tangle : Board
tangle = sharing (3 ∷ 5 ∷ 4 ∷ 0 ∷ 3 ∷ 3 ∷ []) 6 (draw (
    turf 10 (to 1 ∷ to 5 ∷ to 2 ∷ [])
    ∷ turf 20 (to 4 ∷ to 2 ∷ to 3 ∷ to 5 ∷ [])
    ∷ turf 30 (to 1 ∷ to 3 ∷ [])
    ∷ turf 40 (to 5 ∷ to 4 ∷ [])
    ∷ turf 50 (to 0 ∷ to 5 ∷ to 3 ∷ [])
    ∷ turf 60 (to 3 ∷ to 4 ∷ to 0 ∷ [])
    ∷ []))

-- the misreadings that P1 to P12 let pass
unfoldable pub misread_rows : List Bool
misread_rows =
    -- as many givers as takers: takers take
    equalizes four (ask_all (10 ∷ 20 ∷ 30 ∷ 40 ∷ [])) [] (whole (32 ∷ 0 ∷ 0 ∷ 16 ∷ [])) (done 4 6 1 1 60) (whole (12 ∷ 12 ∷ 12 ∷ 12 ∷ []))
    (Pressure 0 (of_count 8) 10 20 ∷ Pressure 0 (of_count 12) 10 30 ∷ Pressure 0 (of_count 4) 40 20 ∷ [])
    -- delta 0 takes
    ∷ equalizes ring (ask_all (10 ∷ 20 ∷ 30 ∷ 40 ∷ [])) [] (whole (16 ∷ 24 ∷ 16 ∷ 40 ∷ [])) (done 4 6 1 1 40) (whole (24 ∷ 24 ∷ 24 ∷ 24 ∷ []))
    (Pressure 0 (of_count 8) 10 30 ∷ Pressure 0 (of_count 16) 40 10 ∷ [])
    -- the planned amount is recorded, not what moved
    ∷ equalizes one_way (ask_all (10 ∷ 20 ∷ 30 ∷ [])) [] (whole (0 ∷ 24 ∷ [])) (done 3 5 1 1 40) (exact (0x4180_0000 ∷ 0x40ff_ffff ∷ []))
    (Pressure 0 (of_count 16) 20 10 ∷ Pressure 0 (of_count 8) 30 20 ∷ [])
    -- givers in a ring: lifted weights in use are not written over
    ∷ equalizes tangle (ask_all (10 ∷ 20 ∷ 30 ∷ 40 ∷ 50 ∷ 60 ∷ [])) [] (whole (0 ∷ 24 ∷ 8 ∷ 16 ∷ 8 ∷ 0 ∷ [])) (done 6 8 1 1 140)
    (exact (0x402a_aaae ∷ 0x41c0_0000 ∷ 0x4100_0000 ∷ 0x402a_aaa8 ∷ 0x4115_5555 ∷ 0x4115_5555 ∷ []))
    (Pressure 0 (of_word 0x4115_5555) 10 20
    ∷ Pressure 0 (of_word 0x400e_38e4) 10 30
    ∷ Pressure 0 (of_word 0x4131_c71d) 50 40
    ∷ Pressure 0 (of_word 0x402a_aaa8) 40 60
    ∷ Pressure 0 (of_word 0x408e_38e4) 60 50
    ∷ Pressure 0 (of_word 0x409c_71c6) 60 10
    ∷ Pressure 0 (of_word 0x3f63_8e40) 30 40
    ∷ [])
    -- a disabled turf is reached from space
    ∷ depressurizes (draw (space (turf 10 (to 1 ∷ [])) ∷ disabled (turf 20 (to 0 ∷ [])) ∷ [])) (breach_of 10 100 0) (0 ∷ 8 ∷ []) 2 84 (0 ∷ 0 ∷ [])
    (Target 10 10 ∷ Target 20 10 ∷ HighPressure 20 ∷ difference 20 0 ∷ difference 20 0 ∷ FloorRip 20 0f ∷ [])
    -- the planet turf's total is not added
    ∷ equalizes star (limited 3 (ask (10 ∷ []))) [] (whole (32 ∷ 16 ∷ 16 ∷ 8 ∷ [])) (done 4 6 1 1 20) (whole (24 ∷ 16 ∷ 16 ∷ 16 ∷ []))
    (Pressure 0 (of_count 8) 10 40 ∷ [])
    ∷ []

-- two chains, 10 - 20 - 30 and 40 - 50 - 60
abbrev pub chains : Board
chains = draw (
    turf 10 (to 1 ∷ [])
    ∷ turf 20 (to 0 ∷ to 2 ∷ [])
    ∷ turf 30 (to 1 ∷ [])
    ∷ turf 40 (to 4 ∷ [])
    ∷ turf 50 (to 3 ∷ to 5 ∷ [])
    ∷ turf 60 (to 4 ∷ [])
    ∷ [])

-- each rule that a cheat could drop
unfoldable pub rule_rows : List Bool
rule_rows =
    -- a turn is one node, c mod the unfinished zones; a used-up list goes on with the lowest zone
    equalizes chains (ask (10 ∷ 40 ∷ [])) (3 ∷ 0 ∷ []) (whole (32 ∷ 8 ∷ 32 ∷ 32 ∷ 8 ∷ 32 ∷ [])) (done 6 8 2 1 80) (replicate 6 (of_count 24))
    (Pressure 1 (of_count 8) 40 50 ∷ Pressure 0 (of_count 8) 10 20 ∷ Pressure 0 (of_count 8) 30 20 ∷ Pressure 1 (of_count 8) 60 50 ∷ [])
    -- every entry counts, the later ones too; entries left over are ignored
    ∷ equalizes chains (ask (10 ∷ 40 ∷ [])) (1 ∷ 1 ∷ 1 ∷ 1 ∷ 1 ∷ 1 ∷ 1 ∷ []) (whole (32 ∷ 8 ∷ 32 ∷ 32 ∷ 8 ∷ 32 ∷ [])) (done 6 8 2 1 80) (replicate 6 (of_count 24))
    (Pressure 1 (of_count 8) 40 50 ∷ Pressure 1 (of_count 8) 60 50 ∷ Pressure 0 (of_count 8) 10 20 ∷ Pressure 0 (of_count 8) 30 20 ∷ [])
    -- two gases
    ∷ equalizes (with_gases 2 board_a) (ask (10 ∷ [])) [] (whole (24 ∷ 8 ∷ 12 ∷ 4 ∷ [])) (done 2 4 1 1 20) (whole (18 ∷ 6 ∷ 18 ∷ 6 ∷ [])) p1
    -- kind 2
    ∷ equalizes (locked_pair (planet twenty)) (ask (10 ∷ [])) [] (whole (32 ∷ 16 ∷ [])) (done 2 4 1 1 28) (whole (24 ∷ 24 ∷ [])) (PlanetWanted 10 ∷ p1)
    -- kind 1, then kind 2, of one neighbour
    ∷ equalizes (locked_pair (planet (space twenty))) (ask (10 ∷ [])) [] (whole (32 ∷ 0 ∷ [])) (done 0 4 0 1 16) (whole (32 ∷ 0 ∷ []))
    (DepressurizeWanted 10 ∷ PlanetWanted 10 ∷ [])
    -- the first turf's own immutability isn't tested; an immutable mixture gives and doesn't lose
    ∷ equalizes (draw (space (turf 10 (to 1 ∷ [])) ∷ twenty ∷ [])) (ask (10 ∷ [])) [] (whole (32 ∷ 16 ∷ [])) (done 2 4 1 1 20) (whole (32 ∷ 24 ∷ [])) p1
    -- two turfs, one mixture: recorded, not moved
    ∷ equalizes (sharing (0 ∷ 1 ∷ 1 ∷ []) 2 chain) (ask (10 ∷ [])) [] (whole (64 ∷ 16 ∷ [])) (done 3 5 1 1 40) (whole (32 ∷ 48 ∷ []))
    (Pressure 0 (of_count 32) 10 20 ∷ Pressure 0 (of_count 16) 20 30 ∷ [])
    -- the same, with sums that round
    ∷ equalizes (sharing (0 ∷ 1 ∷ 1 ∷ []) 2 chain) (ask (10 ∷ [])) [] (whole (95 ∷ 13 ∷ [])) (done 3 5 1 1 40) (exact (0x4221_5556 ∷ 0x4287_5555 ∷ []))
    (Pressure 0 (of_word 0x425a_aaaa) 10 20 ∷ Pressure 0 (of_word 0x41da_aaaa) 20 30 ∷ [])
    -- an ignored zone's links are owned as before: 30 and 35 have no edge in the zone of 40
    ∷ equalizes breached (ask (10 ∷ 40 ∷ [])) [] (whole (64 ∷ 0 ∷ 100 ∷ 0 ∷ 12 ∷ [])) (done 3 7 1 1 8) (whole (64 ∷ 0 ∷ 100 ∷ 0 ∷ 12 ∷ []))
    (DepressurizeWanted 10 ∷ [])
    -- a break at the planet limit leaves a turf in two zones: not apart
    ∷ equalizes (draw (planet (turf 10 (to 1 ∷ [])) ∷ twenty ∷ [])) (limited 0 (ask (10 ∷ 20 ∷ []))) [] (whole (32 ∷ 16 ∷ [])) (done 3 4 2 0 0) (whole (32 ∷ 16 ∷ [])) []
    -- kind 4; the limit counts from 1 on both walks
    ∷ depressurizes (locked_chain as_is space) (breach_of 10 2 0) (32 ∷ 16 ∷ 4 ∷ []) 2 160 (0 ∷ 0 ∷ 4 ∷ []) (chain_events loops_of_chain)
    -- the limit on the way out
    ∷ depressurizes (draw (turf 10 (to 1 ∷ []) ∷ turf 20 (to 0 ∷ to 2 ∷ []) ∷ space (turf 30 (to 1 ∷ [])) ∷ [])) (breach_of 20 1 0) (32 ∷ 16 ∷ 4 ∷ []) 2 84 (32 ∷ 0 ∷ 4 ∷ [])
    (Target 30 30 ∷ Target 20 30 ∷ HighPressure 20 ∷ difference 20 4 ∷ difference 20 4 ∷ FloorRip 20 (of_count 4) ∷ [])
    -- outcome 1, events so far staying
    ∷ depressurizes (draw (turf 10 (lock 1 ∷ to 2 ∷ []) ∷ space twenty ∷ planet (turf 30 (to 0 ∷ [])) ∷ [])) (breach_of 10 10 0) (32 ∷ 0 ∷ 4 ∷ []) 1 24 (32 ∷ 0 ∷ 4 ∷ [])
    (Firelock 10 20 ∷ Target 20 20 ∷ [])
    -- a planetary turf expands, within the limit
    ∷ walks_planet (draw (planet (turf 10 (lock 1 ∷ [])) ∷ turf 20 (to 0 ∷ lock 2 ∷ []) ∷ turf 30 (to 1 ∷ lock 3 ∷ []) ∷ turf 40 (to 2 ∷ []) ∷ []))
    2 10 (32 ∷ 0 ∷ 4 ∷ 4 ∷ []) 24 (Firelock 10 20 ∷ Firelock 20 30 ∷ [])
    -- no planetary turf met: it ends after the first
    ∷ walks_planet (locked_chain planet as_is) 10 10 (32 ∷ 0 ∷ 4 ∷ []) 12 (Firelock 10 20 ∷ [])
    -- immutable ends it
    ∷ walks_planet (draw (planet (turf 10 (lock 1 ∷ lock 2 ∷ [])) ∷ space (turf 20 []) ∷ turf 30 (lock 3 ∷ []) ∷ turf 40 (to 2 ∷ []) ∷ []))
    10 10 (32 ∷ 0 ∷ 4 ∷ 4 ∷ []) 24 (Firelock 10 20 ∷ Firelock 10 30 ∷ [])
    -- unknown ids
    ∷ equalizes board_a (ask (11 ∷ [])) [] (whole (32 ∷ 16 ∷ [])) (done 0 2 0 1 0) (whole (32 ∷ 16 ∷ [])) []
    ∷ depressurizes (pair_with (space twenty)) (breach_of 11 10 0) (32 ∷ 0 ∷ []) 0 0 (32 ∷ 0 ∷ []) []
    ∷ walks_planet (locked_pair (planet twenty)) 10 11 (32 ∷ 0 ∷ []) 0 []
    ∷ []

-- what A is lent
abbrev pub given_a : Lent
given_a = lend board_a (equalize_room board_a) (whole (32 ∷ 16 ∷ []))

-- A with other tables
abbrev pub tables_a : List ℕ → List ℕ → List ℕ → List ℕ → ℕ → Board
tables_a ids flags starts neighbours gases = record {
  ids = ids;
  flags = flags;
  planetary = 0 ∷ 0 ∷ [];
  mixtures = 0 ∷ 1 ∷ [];
  starts = starts;
  neighbours = neighbours;
  link_flags = 0 ∷ 0 ∷ [];
  immutable = 0 ∷ 0 ∷ [];
  gases = gases;
}

-- A with these amounts
abbrev pub lent_amounts : List Float → Lent
lent_amounts gas = lend board_a (equalize_room board_a) gas

-- the refusals, each before the next one, and rooms
unfoldable pub refusal_rows : List Bool
refusal_rows =
    refused (tables_a (10 ∷ 20 ∷ []) (2 ∷ 2 ∷ []) (0 ∷ 1 ∷ 2 ∷ []) (1 ∷ 0 ∷ []) 0) (ask (10 ∷ [])) [] given_a 1
    ∷ refused (tables_a (20 ∷ 10 ∷ []) (2 ∷ []) (0 ∷ 1 ∷ 2 ∷ []) (1 ∷ 0 ∷ []) 1) (ask (10 ∷ [])) [] given_a 2
    ∷ refused (tables_a (20 ∷ 20 ∷ []) (2 ∷ 2 ∷ []) (0 ∷ 1 ∷ 2 ∷ []) (0 ∷ 0 ∷ []) 1) (ask (10 ∷ [])) [] given_a 3
    ∷ refused (tables_a (10 ∷ 20 ∷ []) (2 ∷ 2 ∷ []) (0 ∷ 1 ∷ 2 ∷ []) (0 ∷ 0 ∷ []) 1) (ask (10 ∷ [])) [] given_a 4
    ∷ refused (tables_a (10 ∷ 20 ∷ []) (2 ∷ 2 ∷ []) (0 ∷ 2 ∷ 2 ∷ []) (1 ∷ 1 ∷ []) 1) (ask (10 ∷ [])) [] (lent_amounts (exact (0x7fc0_0000 ∷ 0 ∷ []))) 4
    ∷ refused board_a (ask (10 ∷ 10 ∷ [])) [] (lent_amounts (exact (0x7f80_0000 ∷ 0 ∷ []))) 5
    ∷ refused board_a (ask (10 ∷ [])) [] (lent_amounts (exact (0x5380_0001 ∷ 0 ∷ []))) 5
    ∷ refused board_a (ask (10 ∷ [])) [] (lent_amounts (exact (0x8000_0000 ∷ 0 ∷ []))) 5
    ∷ refused board_a (threshold 0xbf00_0000 (ask (10 ∷ []))) [] given_a 5
    ∷ refused board_a (ask (10 ∷ 10 ∷ [])) [] (less_area 4 given_a) 6
    ∷ refused board_a (ask (10 ∷ [])) [] (less_area 4 given_a) 7
    ∷ refused board_a (ask (10 ∷ [])) [] (less_words 4 given_a) 7
    ∷ refused board_a (ask (10 ∷ [])) [] (less_floats 4 given_a) 7
    ∷ rooms board_a (60 ∷ 12 ∷ 72 ∷ 168 ∷ 24 ∷ [])
    ∷ []

-- all of them
unfoldable pub rows : List Bool
rows = document_rows ++ (misread_rows ++ (rule_rows ++ refusal_rows))
