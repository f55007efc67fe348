-- A turf's edges one by one, as the code goes through them.
use Rattle.std.specs.Prelude.{◌≡◌, List, Bool, true, false, ◌&&◌, ℕ, ◌+◌, ◌*◌, ◌-◌, ◌≤◌, ◌<◌, eqb, length, get_or, set, Float, if◌then◌else◌}
use Rattle.std.specs.Float.{nan}
use Rattle.std.specs.Float.Ieee.{lt}
use Rattle.basics.specs.Loops.{run, up_from}
use Rattle.basics.specs.Floats.{0f}
use Rattle.basics.specs.Lists.{count}
use Rattle.rules_board.specs.Board.{Board, turf_count, link_count, mixture_count, mix_of, end}
use Rattle.rules_mixture.specs.Mixture.{total, move_air}
use Rattle.rules_events.specs.Events.{encode}
use Rattle.events.specs.Area.{Wrote}
use Rattle.rules_events.specs.declared.Event.TheVariants.{Pressure}
use Rattle.rules_plan.specs.Edges.{alter, owned}
use Rattle.plan_edges.specs.Steps.{back_link}
use Rattle.rules_finish.specs.Lifted.{Held, send_held, givers_held, above}
use Rattle.finish_send.specs.declared.Turf.{Turf}
use Rattle.finish_send.specs.declared.Span.{Span}
use Rattle.scratch.specs.Layout.{reverse_at}
use Rattle.scratch.specs.View.{owner_in, reverse_in}
use Rattle.finish_send.specs.Areas.{FinishAreas, Shows, FinishFits, Kept, unfinished_on, due, lifted_on, lifted_from}

-- above 0, or below it
abbrev pub on_side : Bool → Float → Bool
on_side up x = if up then lt 0f x else lt x 0f

-- zone z owns the link j, whose float from `base` on is above 0, or below it
abbrev pub is_marked : List ℕ → List Float → ℕ → ℕ → Bool → ℕ → Bool
is_marked words floats z base up j = eqb (get_or words j 0) (z + 1) && on_side up (get_or floats (base + j) nan)

-- r is the first place from k on that passes, and `to` where none does
pub record Next (p : ℕ → Bool) (k to r : ℕ) : Type 0 where
  pub low : k ≤ r
  pub high : r ≤ to
  pub none : (j : ℕ) → k ≤ j → j < r → p j ≡ false
  pub here : r < to → p r ≡ true

-- the weight of the link k copied, where the zone owns it
abbrev pub save_at : List ℕ → ℕ → ℕ → ℕ → List Float → List Float
save_at words z up k f = if eqb (get_or words k 0) (z + 1) then set f (up + k) (get_or f k nan) else f

-- 0 left in it
abbrev pub zero_at : List ℕ → ℕ → ℕ → List Float → List Float
zero_at words z k f = if eqb (get_or words k 0) (z + 1) then set f k 0f else f

-- both
abbrev pub lift_at : List ℕ → ℕ → ℕ → ℕ → List Float → List Float
lift_at words z up k f = if eqb (get_or words k 0) (z + 1) then set (set f (up + k) (get_or f k nan)) k 0f else f

-- air moves where the mixtures differ
abbrev pub shared : Board → ℕ → ℕ → Float → List Float → List Float
shared b r a x gas = if eqb (mix_of b r) (mix_of b a) then gas else move_air b (mix_of b r) (mix_of b a) x gas

-- ---- one edge

-- what moving air between two turfs may rely on
pub record MoveFits (b : Board) (row to : ℕ) (gas : List Float) : Type 0 where
  pub small : length b.mixtures ≤ 4096
  pub mixed : (row < length b.mixtures) × (to < length b.mixtures)
  pub mixes : (mix_of b row < mixture_count b) × (mix_of b to < mixture_count b)
  pub amounts : length gas ≡ mixture_count b * b.gases

-- what sending x over the link k may rely on
pub record SendFits (b : Board) (row k z : ℕ) (x : Float) (words : List ℕ) (a : FinishAreas) : Type 0 where
  pub zone : z < 4096
  pub turfs : turf_count b ≤ 4096
  pub links : link_count b ≤ 24576
  pub link : k < link_count b
  pub area : reverse_at (link_count b) (link_count b) ≤ length words
  pub back : get_or words (reverse_at k (link_count b)) 0 ≤ link_count b
  pub weights : link_count b ≤ length a.floats
  pub rows : (row < turf_count b) × (end b k < turf_count b)
  pub moves : MoveFits b row (end b k) a.gas
  pub room : a.used + 20 ≤ length a.events
  pub positive : above x ≡ true

-- the reverse weight, the air, the record
pub record Sends (b : Board) (row k z : ℕ) (x : Float) (words : List ℕ) (a a' : FinishAreas) : Type 0 where
  pub weights : a'.floats ≡ alter (back_link (reverse_in (link_count b) words) (owner_in (link_count b) words) z k) (λ y. 0f) a.floats
  pub air : a'.gas ≡ shared b row (end b k) x a.gas
  pub event : Wrote (encode (Pressure z x (get_or b.ids row 0) (get_or b.ids (end b k) 0))) a.used a'.used a.events a'.events

-- ---- the edges of a turf

module _ (b : Board) (owner : List ℕ) (z : ℕ) where
  -- One link of the turf r: a lifted weight above 0 is sent, where the zone owns the link. With `stop` the givers are finished first where the turf is short.
  unfoldable pub pair_as : Bool → (ℕ → Held → Held) → ℕ → ℕ → Held → Held
  pair_as stop f r k h =
      let x = get_or h.lifted k nan in
      let short = stop && lt (total b h.done.gas r) x in
      if owned b owner z k && above x then send_held b owner z r k x (if short then givers_held b owner z f r h else h) else h

-- how many links from k up to `to` have something to send
unfoldable pub to_send : Board → List ℕ → List Float → ℕ → ℕ → ℕ → ℕ
to_send b words floats z k to = count (is_marked words floats z (lifted_from b) true) (up_from k (to - k))

-- the turf r, its links from `from` up to `to`
pub record Going (b : Board) (words : List ℕ) (z r from to : ℕ) (a : FinishAreas) : Type 0 where
  pub ready : FinishFits b words a.gas a.floats
  pub zone : z < 4096
  pub row : r < turf_count b
  pub low : get_or b.starts r 0 ≤ from
  pub order : from ≤ to
  pub high : to ≤ get_or b.starts (r + 1) 0
  pub room : due b a + 20 * to_send b words a.floats z from to ≤ length a.events

-- all links of the turf r from `from` up to `at` were gone through
pub record Progress (b : Board) (words : List ℕ) (stop : Bool) (z r from to at : ℕ) (a a' : FinishAreas) : Type 0 where
  pub kept : Kept b a a'
  pub low : from ≤ at
  pub high : at ≤ to
  pub lifted : lifted_on b a'.floats ≡ lifted_on b a.floats
  pub fewer : unfinished_on b words z a'.floats ≤ unfinished_on b words z a.floats
  pub room : due b a' + 20 * to_send b words a'.floats z at to ≤ due b a + 20 * to_send b words a.floats z from to
  pub shows : (f : ℕ → Held → Held) (h : Held) → Shows b a h → Shows b a' (run (pair_as b (owner_in (link_count b) words) z stop f r) (up_from from (at - from)) h)

-- and there the turf is short, or the links are at their end
pub record SentTo (b : Board) (words : List ℕ) (stop : Bool) (z r from to at : ℕ) (a a' : FinishAreas) : Type 0 where
  pub made : Progress b words stop z r from to at a a'
  pub whole : stop ≡ false → at ≡ to
  pub short : at < to → (is_marked words a'.floats z (lifted_from b) true at ≡ true) × (lt (total b a'.gas r) (get_or a'.floats (lifted_from b + at) nan) ≡ true)

-- the same of the turf and the links in hand
abbrev pub SentOver : Board → List ℕ → Turf → Span → FinishAreas → ℕ → FinishAreas → Type 0
SentOver b words t l a at a' = SentTo b words l.stop t.zone.number t.row l.from l.to at a a'
