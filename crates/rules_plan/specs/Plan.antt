-- `process_zone`: the weights of one zone's edges.
use Rattle.std.specs.Prelude.{List, [], ◌∷◌, reverse, Bool, not, ◌&&◌, ◌||◌, ℕ, ◌+◌, ◌-◌, eqb, ltb, length, get_or, set, Float, if◌then◌else◌}
use Rattle.std.specs.Int.Count.{count_leading_zeros}
use Rattle.std.specs.Float.{nan}
use Rattle.std.specs.Float.Ieee.{lt, le, ne, neg}
use Rattle.basics.specs.Loops.{run, times, keep, member, snoc}
use Rattle.basics.specs.Floats.{0f, ◌+f◌, ◌-f◌, ◌/f◌, of_count}
use Rattle.rules_board.specs.Board.{Board, turf_count, end}
use Rattle.rules_mixture.specs.Mixture.{total}
use Rattle.rules_plan.specs.Edges.{edges_of, adjust}
use Rattle.rules_plan.specs.declared.MonstermosInfo.{MonstermosInfo}
use Rattle.rules_plan.specs.declared.Side.{Side}
use Rattle.rules_plan.specs.declared.Side.TheVariants.{Giving, Taking}

-- by link: the weights; by row: the planning state
pub record Plan : Type 0 where
  pub weight : List Float
  pub delta : List Float
  pub amount : List Float
  pub direction : List ℕ
  pub fast : List ℕ

-- a turf's planning state
abbrev pub load : Plan → ℕ → MonstermosInfo
load s r = record { delta = get_or s.delta r nan; amount = get_or s.amount r nan; direction = get_or s.direction r 0; fast = get_or s.fast r 0 }

-- a turf's planning state set anew
abbrev pub store : Plan → ℕ → MonstermosInfo → Plan
store s r i = record {
  weight = s.weight;
  delta = set s.delta r i.delta;
  amount = set s.amount r i.amount;
  direction = set s.direction r i.direction;
  fast = set s.fast r i.fast;
}

-- the weights set anew
abbrev pub reweigh : (List Float → List Float) → Plan → Plan
reweigh f s = record { weight = f s.weight; delta = s.delta; amount = s.amount; direction = s.direction; fast = s.fast }

-- a planning state with another delta
abbrev pub with_delta : Float → MonstermosInfo → MonstermosInfo
with_delta x i = record { delta = x; amount = i.amount; direction = i.direction; fast = i.fast }

-- a planning state with another amount
abbrev pub with_amount : Float → MonstermosInfo → MonstermosInfo
with_amount x i = record { delta = i.delta; amount = x; direction = i.direction; fast = i.fast }

-- how many there are, as a float
abbrev pub count_of : List ℕ → Float
count_of xs = of_count (length xs)

-- floor(log2 n), from the leading zeros
abbrev pub log2 : ℕ → ℕ
log2 n = 31 - count_leading_zeros 32 n

-- ---- what the two sides ask: one search serves `give_to_takers` and `take_from_givers`

-- delta above 0 is a giver, else a taker
abbrev pub gives : Float → Bool
gives x = lt 0f x

-- the turfs that give, or that take
abbrev pub picks : Side → Float → Bool
picks Giving x = gives x
picks Taking x = not (gives x)

-- the turf in hand has nothing more to give, or to take
abbrev pub settled : Side → Float → Bool
settled Giving x = le x 0f
settled Taking x = le 0f x

-- the turf that is met can take, or give
abbrev pub wants : Side → Float → Bool
wants Giving y = lt y 0f
wants Taking y = lt 0f y

-- the turf that is met has room for all that the turf in hand has left, and some over
abbrev pub more : Side → Float → Float → Bool
more Giving x y = lt x (neg y)
more Taking x y = lt (neg x) y

-- `partition` and the two `filter`s of `process_zone`
unfoldable pub chosen : Side → List ℕ → Plan → List ℕ
chosen side nodes s = keep (λ r. picks side (get_or s.delta r nan)) nodes

-- ---- one search

-- what it has come to; the queue is an `IndexSet`, the rows in order of insertion
pub record Seek : Type 0 where
  pub queue : List ℕ
  pub looked : ℕ  -- `queue_idx`
  pub plan : Plan

-- `if giver_info.mole_delta <= 0.0 { break; }`, and its twin
abbrev pub stopped : Side → ℕ → Seek → Bool
stopped side g s = settled side (load s.plan g).delta

-- The turf in hand, g with delta x, and the turf that is met, a with delta y. The four branches of the Rust:
--   giving, y < 0 and -y > x:   a.amount -= x; y += x; x = 0    we don't have enough gas
--   giving, y < 0, else:        a.amount += y; x += y; y = 0    we have enough gas
--   taking, y > 0 and y > -x:   a.amount -= x; y += x; x = 0    they have enough gas
--   taking, y > 0, else:        a.amount += y; x += y; y = 0    they don't have enough gas
unfoldable pub trade : Side → ℕ → ℕ → Plan → Plan
trade side g a s =
    let x = (load s g).delta in
    let i = load s a in
    let can = wants side i.delta in
    let all = more side x i.delta in
    let met : MonstermosInfo = record {
      delta = if can then (if all then i.delta +f x else 0f) else i.delta;
      amount = if can then (if all then i.amount -f x else i.amount +f i.delta) else i.amount;
      direction = i.direction;
      fast = i.fast;
    } in
    store (store s a met) g (with_delta (if can then (if all then 0f else x +f i.delta) else x) (load s g))

-- a turf met for the first time, from r
unfoldable pub meet : Side → ℕ → ℕ → ℕ → Plan → Plan
meet side g r a s =
    let i = load s a in
    trade side g a (store s a (record { delta = i.delta; amount = 0f; direction = r + 1; fast = i.fast }))

-- a neighbour, a, of the turf r: a new one joins the queue and is met
unfoldable pub seek_to : Side → ℕ → ℕ → ℕ → Seek → Seek
seek_to side g r a s =
    let next : Seek = record { queue = snoc s.queue a; looked = s.looked; plan = meet side g r a s.plan } in
    if stopped side g s || member a s.queue then s else next

module _ (b : Board) (owner : List ℕ) (z : ℕ) where
  -- ---- `monstermos_fast_process`

  -- x moles from r to a
  unfoldable pub fast_move : ℕ → Float → ℕ → Plan → Plan
  fast_move r x a s =
      let p = reweigh (adjust b owner z r a x) s in
      let q = store p r (with_delta ((load p r).delta -f x) (load p r)) in
      store q a (with_delta ((load q a).delta +f x) (load q a))

  -- `eligible_adjacents`
  unfoldable pub eligible : Plan → ℕ → List ℕ
  eligible s r = keep (λ k. eqb (get_or s.fast (end b k) 0) 0) (edges_of b owner z r)

  -- one turf of the fast pass: a giver shares its delta among the eligible
  unfoldable pub fast_turf : ℕ → Plan → Plan
  fast_turf r s =
      let i = load s r in
      let p = store s r (record { delta = i.delta; amount = i.amount; direction = i.direction; fast = 1 }) in
      let ks = if gives i.delta then eligible p r else [] in
      let x = i.delta /f count_of ks in
      run (λ k t. fast_move r x (end b k) t) ks p

  -- ---- `give_to_takers` and `take_from_givers`

  -- one edge of the turf r
  unfoldable pub seek_link : Side → ℕ → ℕ → ℕ → Seek → Seek
  seek_link side g r k s = seek_to side g r (end b k) s

  -- one turf of the queue
  unfoldable pub seek_row : Side → ℕ → ℕ → Seek → Seek
  seek_row side g r s =
      let t = run (seek_link side g r) (edges_of b owner z r) s in
      record { queue = t.queue; looked = t.looked + 1; plan = t.plan }

  -- `while let Some(&cur_index) = queue.get_index(queue_idx)`
  unfoldable pub seek_next : Side → ℕ → Seek → Seek
  seek_next side g s = if ltb s.looked (length s.queue) && not (stopped side g s) then seek_row side g (get_or s.queue s.looked 0) s else s

  -- a turf hands its amount on to the turf d that it points at
  unfoldable pub drain_to : ℕ → ℕ → Plan → Plan
  drain_to r d s =
      let i = load s r in
      let p = reweigh (adjust b owner z r d i.amount) s in
      let q = store p d (with_amount ((load p d).amount +f i.amount) (load p d)) in
      store q r (with_amount 0f i)

  -- `for cur_index in queue.drain(..).rev()`
  unfoldable pub drain : ℕ → Plan → Plan
  drain r s =
      let i = load s r in
      if ne i.amount 0f && not (eqb i.direction 0) then drain_to r (i.direction - 1) s else s

  -- one giver, or one taker: the search, then the way back
  unfoldable pub serve : Side → ℕ → Plan → Plan
  serve side g s =
      let p = store s g (record { delta = (load s g).delta; amount = 0f; direction = 0; fast = (load s g).fast }) in
      let t = times (seek_next side g) (turf_count b) (record { queue = g ∷ []; looked = 0; plan = p }) in
      run drain (reverse t.queue) t.plan

  -- ---- `process_zone`

  -- both counts above floor(log2 n): the fast pass
  unfoldable pub fast_pass : List ℕ → Plan → Plan
  fast_pass nodes s =
      let n = log2 (length nodes) in
      if ltb n (length (chosen Giving nodes s)) && ltb n (length (chosen Taking nodes s)) then run fast_turf nodes s else s

  -- fewer givers than takers: givers give; else takers take
  unfoldable pub share_out : List ℕ → Plan → Plan
  share_out nodes s =
      let side = if ltb (length (chosen Giving nodes s)) (length (chosen Taking nodes s)) then Giving else Taking in
      run (serve side) (chosen side nodes s) s

  -- `mole_delta: mixture.total_moles() - average_moles`
  unfoldable pub deltas : List Float → List ℕ → Float → Plan → Plan
  deltas gas nodes average s =
      run (λ r t. store t r (record { delta = total b gas r -f average; amount = 0f; direction = 0; fast = 0 })) nodes s

  -- the zone z with these nodes and this total
  unfoldable pub planned_zone : List Float → List ℕ → Float → Plan → Plan
  planned_zone gas nodes moles s = share_out nodes (fast_pass nodes (deltas gas nodes (moles /f count_of nodes) s))
