-- Finishing by turns, over the event area that a call was lent: what was lent past the events is as it was. Assumes nothing.
use mathlib.Core.Path.{◌≡◌, ap, ◌∙◌}
use mathlib.Core.List.{List, ◌++◌}
use Prim.Native.Nat.{ℕ, ◌≤◌}
use native.Mathlib.Omega.{arith}
use lib.ListN.{length, drop}
use Rattle.basics.proofs.Parts.{drop-later}
use Rattle.rules_board.specs.Board.{Board, turf_count, link_count}
use Rattle.rules_events.specs.Events.{encode_all}
use Rattle.events.specs.Area.{HoldsEvents}
use Rattle.rules_events.specs.declared.Event.{Event}
use Rattle.events.proofs.Areas.{wrote-rest, wrote-length}
use Rattle.rules_finish.specs.Finish.{Done}
use Rattle.rules_finish.specs.Turns.{Zone, finish_all}
use Rattle.scratch.specs.View.{owner_in}
use Rattle.finish_send.specs.Areas.{FinishAreas, Written, weight_on}
use Rattle.finish_send.proofs.Shown.{holds_written}
use Rattle.finish_turns.specs.Turning.{Same, FinishesAll}

-- events held past those that were held, over the same lent area
pub holds_later : {es es' : List Event} {used used' : ℕ} {lent area area' : List ℕ} → HoldsEvents es used lent area → used ≤ used' → length area' ≡ length area → drop used' area' ≡ drop used' area
    → Written es' used' area' → HoldsEvents es' used' lent area'
holds_later {es} {es'} {used} {used'} {lent} {area} {area'} h l s p w = record {
  wrote = record {
    bytes = w.wrote.bytes ∙ ap (λ (x : List ℕ). encode_all es' ++ x) (p ∙ drop-later used used' area lent l (wrote-rest h.wrote));
    end = w.wrote.end;
    room = omega (arith, w.wrote.room, s, wrote-length h.wrote);
  };
}

-- what a call has then
pub record Ends (b : Board) (lent : List ℕ) (a : FinishAreas) (d : Done) : Type 0 where
  pub gas : a.gas ≡ d.gas
  pub weight : weight_on b a.floats ≡ d.weight
  pub events : HoldsEvents d.events a.used lent a.events

pub finished : (b : Board) (count : ℕ) (turns ws ws' : List ℕ) (a a' : FinishAreas) → FinishesAll b count turns ws ws' a a' → (zones : List Zone) → Same (turf_count b) (link_count b) count ws zones
    → (lent : List ℕ) (d : Done) → Ends b lent a d → Ends b lent a' (finish_all b (owner_in (link_count b) ws) zones turns d)
finished b count turns ws ws' a a' q zones s lent d h =
    let v = q.done zones s d (record { gas = h.gas; weight = h.weight; events = holds_written h.events }) in
    record { gas = v.gas; weight = v.weight; events = holds_later h.events q.kept.grown q.kept.events q.kept.past v.events }
