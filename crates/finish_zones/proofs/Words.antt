-- Stores among the turns and the unfinished zones leave the owners, the reverses and the zones: each array is a part of its own. Assumes nothing.
use mathlib.Core.Path.{◌≡◌, refl, sym, ap, ap₂, ◌∙◌, subst}
use mathlib.Core.List.{List, map}
use Prim.Native.Nat.{ℕ, ◌+◌, ◌-◌, ◌≤◌, ◌<◌}
use native.Mathlib.Omega.{arith}
use lib.ListN.{length, get_or, set, take, drop, length-set, length-drop}
use lib.Seq.{take-set-le, drop-set-lt, drop-set-add, take-set-lt, get_or-drop, get_or-take, take-take, length-take-le}
use Rattle.basics.specs.Loops.{up_from}
use Rattle.basics.specs.Floats.{0f}
use Rattle.basics.specs.Lists.{All}
use Rattle.basics.proofs.Loops.{All-get_or}
use Rattle.basics.proofs.Parts.{part-front, drop-later}
use Rattle.scratch.specs.Layout.{reverse_at, turns_at, live_at, starts_at, zone_nodes_at}
use Rattle.scratch.specs.View.{owner_in, reverse_in}
use Rattle.finish_zones.specs.Zones.{start_of, node_count_of, zone_nodes, zones_in, turns_of, next_in, live_in, Laid, ZoneOpen, Beside}

module _ (n e : ℕ) where
  pub beside_none : (ws : List ℕ) → Beside n e ws ws
  beside_none ws = record { size = refl; front = refl; rest = refl }

  pub beside-then : {ws ws' ws'' : List ℕ} → Beside n e ws ws' → Beside n e ws' ws'' → Beside n e ws ws''
  beside-then h k = record { size = k.size ∙ h.size; front = k.front ∙ h.front; rest = k.rest ∙ h.rest }

  -- a store among the turns, and one among the unfinished zones
  pub beside-next : (ws : List ℕ) (z v : ℕ) → z < n → Beside n e ws (set ws (turns_at n e + z) v)
  beside-next ws z v h = record {
    size = length-set ws (turns_at n e + z) v;
    front = take-set-le (turns_at n e) ws (turns_at n e + z) v (omega arith);
    rest = drop-set-lt (starts_at n e) ws (turns_at n e + z) v (omega arith);
  }

  pub beside-live : (ws : List ℕ) (i v : ℕ) → i < n → Beside n e ws (set ws (live_at n e + i) v)
  beside-live ws i v h = record {
    size = length-set ws (live_at n e + i) v;
    front = take-set-le (turns_at n e) ws (live_at n e + i) v (omega arith);
    rest = drop-set-lt (starts_at n e) ws (live_at n e + i) v (omega arith);
  }

  module _ {ws ws' : List ℕ} (q : Beside n e ws ws') where
    pub start-same : (z : ℕ) → start_of n e ws' z ≡ start_of n e ws z
    start-same z = sym (get_or-drop (starts_at n e) ws' z 0) ∙ ap (λ (l : List ℕ). get_or l z 0) q.rest ∙ get_or-drop (starts_at n e) ws z 0

    pub size_same : (z : ℕ) → node_count_of n e ws' z ≡ node_count_of n e ws z
    size_same z = ap₂ (λ (x y : ℕ). x - y) (start-same (z + 1)) (start-same z)

    pub nodes-same : (z : ℕ) → zone_nodes n e ws' z ≡ zone_nodes n e ws z
    nodes-same z =
        ap₂ (λ (k m : ℕ). take k (drop (zone_nodes_at n e + m) ws')) (size_same z) (start-same z)
        ∙ ap (take (node_count_of n e ws z)) (drop-later (starts_at n e) (zone_nodes_at n e + start_of n e ws z) ws' ws (omega arith) q.rest)

    pub zones-same : (count : ℕ) → zones_in n e count ws' ≡ zones_in n e count ws
    unfolding zones_in
    zones-same count = λ i. map (λ z. record { nodes = nodes-same z i; moles = 0f }) (up_from 0 count)

    pub laid_beside : (z : ℕ) → Laid n e ws z → Laid n e ws' z
    laid_beside z l = record {
      below = l.below;
      rise = omega (arith, l.rise, start-same z, start-same (z + 1));
      within = omega (arith, l.within, start-same (z + 1), q.size);
      rows = subst (All (λ r. r < n)) (sym (nodes-same z)) l.rows;
    }

    pub owner-beside : owner_in e ws' ≡ owner_in e ws
    owner-beside = sym (take-take e (turns_at n e) ws' (omega arith)) ∙ ap (take e) q.front ∙ take-take e (turns_at n e) ws (omega arith)

    pub reverse-beside : starts_at n e ≤ length ws → reverse_in e ws' ≡ reverse_in e ws
    reverse-beside l =
        part-front e e ws' (omega (arith, q.size))
        ∙ ap (drop e) (sym (take-take (reverse_at e e) (turns_at n e) ws' (omega arith)) ∙ ap (take (reverse_at e e)) q.front ∙ take-take (reverse_at e e) (turns_at n e) ws (omega arith))
        ∙ sym (part-front e e ws (omega arith))

  -- ---- what a store among the turns changes

  pub next-set : (count : ℕ) (ws : List ℕ) (z v : ℕ) → z < count → next_in n e count (set ws (turns_at n e + z) v) ≡ set (next_in n e count ws) z v
  next-set count ws z v h = ap (take count) (drop-set-add (turns_at n e) ws z v) ∙ take-set-lt count (drop (turns_at n e) ws) z v h

  pub live-next : (k : ℕ) (ws : List ℕ) (z v : ℕ) → z < n → live_in (live_at n e) k (set ws (turns_at n e + z) v) ≡ live_in (live_at n e) k ws
  live-next k ws z v h = ap (take k) (drop-set-lt (live_at n e) ws (turns_at n e + z) v (omega arith))

  -- ---- a zone's nodes

  module _ {ws : List ℕ} {z : ℕ} (l : Laid n e ws z) where
    pub nodes-length : length (zone_nodes n e ws z) ≡ node_count_of n e ws z
    nodes-length = length-take-le (node_count_of n e ws z) (drop (zone_nodes_at n e + start_of n e ws z) ws)
        (omega (arith, length-drop (zone_nodes_at n e + start_of n e ws z) ws, l.within, l.rise))

    pub node_at : (i : ℕ) → i < node_count_of n e ws z → get_or ws (zone_nodes_at n e + start_of n e ws z + i) 0 ≡ get_or (zone_nodes n e ws z) i 0
    node_at i h = sym (get_or-take (node_count_of n e ws z) (drop (zone_nodes_at n e + start_of n e ws z) ws) i 0 h ∙ get_or-drop (zone_nodes_at n e + start_of n e ws z) ws i 0)

pub next-at : (n e count : ℕ) (ws : List ℕ) (z : ℕ) → z < count → get_or (next_in n e count ws) z 0 ≡ turns_of n e ws z
next-at n e count ws z h = get_or-take count (drop (turns_at n e) ws) z 0 h ∙ get_or-drop (turns_at n e) ws z 0

pub live_in-at : (live k : ℕ) (ws : List ℕ) (p : ℕ) → p < k → get_or (live_in live k ws) p 0 ≡ get_or ws (live + p) 0
live_in-at live k ws p h = get_or-take k (drop live ws) p 0 h ∙ get_or-drop live ws p 0

-- ---- what the code reads

-- where a zone's nodes start and end
pub starts-read : (n e : ℕ) (ws : List ℕ) (z first : ℕ) → first ≡ starts_at n e + z → (get_or ws first 0 ≡ start_of n e ws z) × (get_or ws (first + 1) 0 ≡ start_of n e ws (z + 1))
starts-read n e ws z first h = (ap (λ (i : ℕ). get_or ws i 0) h, ap (λ (i : ℕ). get_or ws i 0) (omega (arith, h)))

-- the next node of an open zone is one of the words, and a row
module _ (n e : ℕ) {ws : List ℕ} {z : ℕ} (o : ZoneOpen n e ws z) (first turn nodes : ℕ) (ef : first ≡ starts_at n e + z) (et : turn ≡ turns_at n e + z) (en : nodes ≡ zone_nodes_at n e) where
  from_is : get_or ws first 0 ≡ start_of n e ws z
  from_is = ap (λ (i : ℕ). get_or ws i 0) ef

  had_is : get_or ws turn 0 ≡ turns_of n e ws z
  had_is = ap (λ (i : ℕ). get_or ws i 0) et

  abbrev place : ℕ
  place = nodes + get_or ws first 0 + get_or ws turn 0

  pub row_within : place < length ws
  row_within = omega (arith, from_is, had_is, en, o.some, o.laid.within, o.laid.rise)

  pub row_is : get_or ws place 0 ≡ get_or (zone_nodes n e ws z) (turns_of n e ws z) 0
  row_is = ap (λ (i : ℕ). get_or ws i 0) (omega (arith, from_is, had_is, en)) ∙ node_at n e o.laid (turns_of n e ws z) o.some
