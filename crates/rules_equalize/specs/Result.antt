-- The whole of a call of equalize: its answer and every lent cell, for each input and refusal.
use Rattle.std.specs.Prelude.{List, ℕ, ◌+◌, ◌*◌, eqb, length, if◌then◌else◌}
use Rattle.rules_board.specs.Board.{Board, turf_count, link_count}
use Rattle.rules_events.specs.Events.{encode_all}
use Rattle.rules_lent.specs.Lent.{Lent, Result, refusal, after}
use Rattle.rules_equalize.specs.Equalize.{Ask, Equalized, equalize}
use Rattle.rules_equalize.specs.declared.EqualizeAnswer.{EqualizeAnswer}

-- 20E+16N event bytes
abbrev pub equalize_room : Board → ℕ
equalize_room b = 20 * link_count b + 16 * turf_count b

-- a refusal: its number with all else zero
abbrev pub refused_equalize : ℕ → EqualizeAnswer
refused_equalize n = record { number = n; cancelled = 0; processed = 0; tests = 0; zones = 0; apart = 0; bytes = 0 }

module _ (b : Board) (q : Ask) (turns : List ℕ) (l : Lent) where
  -- the number that the call answers
  unfoldable pub equalize_number : ℕ
  equalize_number = refusal b l (equalize_room b) (record { hot = q.hot; turns = turns; threshold = q.threshold })

  -- a call that was done
  unfoldable pub equalize_done : Equalized → Result EqualizeAnswer
  equalize_done e = record {
    answer = record {
      number = 0;
      cancelled = e.cancelled;
      processed = e.processed;
      tests = e.tests;
      zones = e.zones;
      apart = e.apart;
      bytes = length (encode_all e.events);
    };
    lent = after b l e.gas e.events;
  }

  -- the call
  unfoldable pub equalize_result : Result EqualizeAnswer
  equalize_result =
      let n = equalize_number in
      let refused : Result EqualizeAnswer = record { answer = refused_equalize n; lent = l } in
      if eqb n 0 then equalize_done (equalize b l.gas q turns) else refused
