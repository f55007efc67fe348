-- A call is refused as its number says, when nothing is changed; else it is filled, played in time, and its scratch cleared. Assumes nothing.
use Prim.Native.Nat.{ℕ, ◌+◌, ◌≤◌}
use native.Mathlib.Omega.{arith}
use mathlib.Core.Path.{◌≡◌, refl, ◌∙◌}
use mathlib.Core.List.{List}
use borrow.Author.Tests.{eq-eqb, ne_eqb}
use lib.Dec.{ltb}
use lib.Ieee.{Float}
use lib.ListN.{length}
use Rattle.basics.specs.Floats.{0f}
use Rattle.basics.proofs.Loops.{cond_both}
use Rattle.rules_board.specs.Board.{Board, turf_count, link_count}
use Rattle.turfs.specs.Tables.{Accepted}
use Rattle.events.proofs.Sizes.{size}
use Rattle.events.proofs.Areas.{wrote-length}
use Rattle.rules_lent.specs.Lent.{Lent, words_room, floats_room, after}
use Rattle.lent_room.specs.Areas.{cleared_first}
use Rattle.lent.specs.Given.{lent}
use Rattle.std.specs.Prelude.{Ok, Err}
use Rattle.lent.specs.Given.{number_of}
use Rattle.lent.specs.declared.Refusal.{Refusal}
use Rattle.lent.proofs.Told.{number-some}
use Rattle.call_answers.specs.Told.{equalize_answer}
use Rattle.lent.proofs.Passed.{Passed}
use Rattle.lent.proofs.Numbers.{bare}
use Rattle.fill_all.specs.Held.{FillsAll}
use Rattle.fill_all.specs.declared.Filling.{Filling}
use Rattle.fill_all.proofs.Asked.{extra, let_pass, let_links}
use Rattle.rules_finish.specs.Turns.{node_count}
use Rattle.rules_equalize.specs.Equalize.{Ask, Equalized, filled_all, cancel, played, equalize}
use Rattle.rules_equalize.specs.Result.{equalize_room, refused_equalize, equalize_number, equalize_done, equalize_result}
use Rattle.rules_equalize.specs.declared.EqualizeAnswer.{EqualizeAnswer}
use Rattle.laws_equalize.proofs.Zones.{node-room, zone-room, test_room}
use Rattle.laws_equalize.proofs.Room.{events-room}
use Rattle.call_equalize.specs.Parts.{CallFills, CallFilled, Comes}
use Rattle.call_equalize.specs.declared.Counts.{Counts}

-- counts that fit the answer
record Few (o : Equalized) : Type 0 where
  processed : o.processed ≤ 28672
  tests : o.tests ≤ 4098
  zones : o.zones ≤ 4096

module _ (b : Board) (q : Ask) (turns : List ℕ) (l : Lent) where
  -- ---- not refused

  module _ (z : equalize_number b q turns l ≡ 0) where
    passed : Passed b l (equalize_room b) (extra b q turns l)
    passed = let_pass b q turns l z

    -- what it leaves
    module _ (s : Filling) (w₁ a₁ : List ℕ) (f₁ : List Float) (d : FillsAll (turf_count b) (link_count b) (filled_all b l.gas q) s l.words w₁ l.floats f₁ l.area a₁) where
      pub fills : CallFills b q s l (lent l.gas a₁ w₁ f₁)
      fills = record { gas = refl; fills = d }

      pub filled : length w₁ ≡ length l.words → length f₁ ≡ length l.floats → CallFilled b s (lent l.gas a₁ w₁ f₁)
      filled lw lf = record {
        board = passed.board;
        links = let_links b q turns l z;
        area = omega (arith, passed.area, wrote-length d.wrote.wrote);
        words = omega (arith, passed.words, lw);
        floats = omega (arith, passed.floats, lf);
        asked = q;
        lent = l;
        fills = fills;
      }

    -- every count of the answer is small
    counts : Few (equalize b l.gas q turns)
    unfolding equalize cancel played
    counts =
        let a : Accepted b (length l.gas) = passed.board in
        let all = filled_all b l.gas q in
        let t : all.tests ≤ 4096 = omega (arith, test_room b a l.gas q, a.turfs.1) in
        let n : node_count all.zones ≤ 28672 = omega (arith, node-room b a l.gas q, a.turfs.1, a.links) in
        let k : length all.zones ≤ 4096 = omega (arith, zone-room b a l.gas q, a.turfs.1) in
        let first : Few (cancel b l.gas q 0 all.tests all.events) = record { processed = omega arith; tests = omega (arith, t); zones = omega arith } in
        let second : Few (cancel b l.gas q 0 (all.tests + 1) all.events) = record { processed = omega arith; tests = omega (arith, t); zones = omega arith } in
        let third : Few (cancel b l.gas q (node_count all.zones) (all.tests + 2) all.events) = record { processed = n; tests = omega (arith, t); zones = omega arith } in
        let last : Few (played b l.gas q turns all) = record { processed = n; tests = omega (arith, t); zones = k } in
        cond_both Few all.cancelled (cancel b l.gas q 0 all.tests all.events) _ first
        (cond_both Few (ltb q.allowance (all.tests + 1)) (cancel b l.gas q 0 (all.tests + 1) all.events) _ second
        (cond_both Few (ltb q.allowance (all.tests + 2)) (cancel b l.gas q (node_count all.zones) (all.tests + 2) all.events) (played b l.gas q turns all) third last))

    module _ {r : Counts} {l' : Lent} (c : Comes b (equalize b l.gas q turns) r l l') where
      pub few-processed : r.processed ≤ 28672
      few-processed = omega (arith, c.processed, counts.processed)

      pub few-tests : r.tests ≤ 4098
      few-tests = omega (arith, c.tests, counts.tests)

      pub few-zones : r.zones ≤ 4096
      few-zones = omega (arith, c.zones, counts.zones)

      pub few_bytes : r.used ≤ 557056
      few_bytes = omega (arith, c.events.wrote.end, events-room b l.gas passed.board q turns, passed.board.turfs.1, passed.board.links)

  -- ---- the answers

  module _ {number : ℕ} (r : number ≡ equalize_number b q turns l) where
    pub refused-is : (f : Refusal) → number ≡ number_of f → record { answer = equalize_answer (Err f); lent = l } ≡ equalize_result b q turns l
    unfolding equalize_result
    refused-is f e = rw (← r, e, ne_eqb (number_of f) 0 (number-some f))

    pub answered : number ≡ 0 → {o : Counts} {l₁ : Lent} → Comes b (equalize b l.gas q turns) o l l₁ → (w' : List ℕ) (f' : List Float)
        → w' ≡ cleared_first 0 (words_room (bare b)) l₁.words → f' ≡ cleared_first 0f (floats_room (bare b)) l₁.floats
        → record { answer = equalize_answer (Ok (record { cancelled = o.cancelled; processed = o.processed; tests = o.tests; zones = o.zones; apart = o.apart; bytes = o.used })); lent = lent l₁.gas l₁.area w' f' }
        ≡ equalize_result b q turns l
    unfolding equalize_result equalize_done after words_room floats_room
    answered z {o} {l₁} c w' f' cw cf =
        let u : o.used ≡ size (equalize b l.gas q turns).events = c.events.wrote.end ∙ omega arith in
        rw (← r, eq-eqb number 0 z, cw, cf, c.words, c.floats, c.gas, c.events.wrote.bytes, c.cancelled, c.processed, c.tests, c.zones, c.apart, u)
