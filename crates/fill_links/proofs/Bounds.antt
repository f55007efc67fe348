-- What bounds a walk: a link pushes one row, and asks for 16 bytes, only where it finds one; it adds a node only where it takes a link that had no owner.
-- Assumes nothing.
use Prim.Native.Nat.{ℕ, ◌+◌, ◌*◌, ◌≤◌, ◌<◌}
use native.Mathlib.Omega.{arith}
use mathlib.Core.Path.{◌≡◌, refl, ap, ◌∙◌}
use mathlib.Core.Logic.{◌≢◌}
use mathlib.Core.List.{List, [], ◌∷◌}
use mathlib.Core.Bool.{Bool, true, false, cond}
use lib.Dec.{eqb}
use lib.ListN.{length, get_or, set, length-set, length-append}
use lib.Seq.{get_or-set_other}
use borrow.Author.Tests.{eq-eqb, ne_eqb}
use Rattle.basics.specs.Loops.{snoc}
use Rattle.basics.specs.Lists.{All, one, count}
use Rattle.basics.proofs.Lists.{All-snoc, count_set, count-length}
use Rattle.rules_fill.specs.Fill.{Reach, insert}
use Rattle.fill_links.specs.Steps.{edge_to, mark_found, push, ask_space, ask_planet, discover, reach_met}
use Rattle.fill_links.specs.Held.{zeros, Bounds, Bounded}
use Rattle.fill_links.specs.declared.Met.{Met}
use Rattle.laws_fill.proofs.Owned.{insert-length}

-- ---- how many are 0

pub zeros-some : (xs : List ℕ) (i : ℕ) → i < length xs → get_or xs i 0 ≡ 0 → 1 ≤ zeros xs
unfolding zeros
zeros-some xs i l e =
    let c : count (λ x. eqb x 0) (set xs i 1) + one (eqb (get_or xs i 0) 0) ≡ count (λ x. eqb x 0) xs + 0 = count_set (λ x. eqb x 0) xs i 1 0 l in
    let o : one (eqb (get_or xs i 0) 0) ≡ 1 = ap one (eq-eqb (get_or xs i 0) 0 e) in
    omega arith

-- a store of what isn't 0: one less, if there was a 0
pub zeros-set : (xs : List ℕ) (i y : ℕ) (t : Bool) → i < length xs → eqb (get_or xs i 0) 0 ≡ t → 0 < y → zeros (set xs i y) + one t ≡ zeros xs
unfolding zeros
zeros-set xs i y t l e h =
    let c : count (λ x. eqb x 0) (set xs i y) + one (eqb (get_or xs i 0) 0) ≡ count (λ x. eqb x 0) xs + one (eqb y 0) = count_set (λ x. eqb x 0) xs i y 0 l in
    let o : one (eqb (get_or xs i 0) 0) ≡ one t = ap one e in
    let z : one (eqb y 0) ≡ 0 = ap one (ne_eqb y 0 (λ i. omega (arith, i))) in
    omega arith

pub zeros-most : (xs : List ℕ) → zeros xs ≤ length xs
unfolding zeros
zeros-most xs = count-length (λ x. eqb x 0) xs

-- ---- one link

module _ (m : Met) (k z id n e kept : ℕ) (r : Reach) {used : ℕ} {area : List ℕ} (b : Bounded n e z kept r used area) (hk : k < e) (hm : m.row < n) where
  -- room for one more node
  pub node-room : get_or r.owner k 0 ≡ 0 → kept + length r.nodes < n + e
  node-room free = omega (arith, zeros-some r.owner k (rw b.owners hk) free, b.nodes, b.zone)

  pub queue-room : get_or r.found m.row 0 ≡ 0 → length r.queue < n
  queue-room new = omega (arith, zeros-some r.found m.row (rw b.marks hm) new, b.line)

  pub bytes-room : get_or r.found m.row 0 ≡ 0 → used + 16 ≤ length area
  bytes-room new = omega (arith, zeros-some r.found m.row (rw b.marks hm) new, b.bytes)

  fresh : (os : List ℕ) → length os ≡ e → get_or os k 0 ≡ 0 → zeros (set os k (z + 1)) + 1 ≡ zeros os
  fresh os l o = zeros-set os k (z + 1) true (rw l hk) (eq-eqb (get_or os k 0) 0 o) (omega arith)

  pub bounds-met : get_or r.owner k 0 ≡ 0 → {used' : ℕ} {area' : List ℕ} → used' ≤ used + 16 * one (eqb (get_or r.found m.row 0) 0) → length area' ≡ length area
      → Bounded n e z kept (reach_met m k z id r) used' area'
  unfolding reach_met edge_to mark_found push discover ask_space ask_planet
  bounds-met free {used'} {area'} u la = go (eqb (get_or r.found m.row 0) 0) refl u r.ignored m.on
    where
      a : ℕ
      a = m.row

      nodes : (on : Bool) → kept + length (cond on (insert a r.nodes) r.nodes) + zeros (cond on (set r.owner k (z + 1)) r.owner) ≤ z + 1 + e
      nodes true = omega (arith, fresh r.owner b.owners free, insert-length a r.nodes, b.nodes)
      nodes false = b.nodes

      owners : (on : Bool) → length (cond on (set r.owner k (z + 1)) r.owner) ≡ e
      owners true = length-set r.owner k (z + 1) ∙ b.owners
      owners false = b.owners

      marks : length (set r.found a 1) ≡ n
      marks = length-set r.found a 1 ∙ b.marks

      less : (t : Bool) → eqb (get_or r.found a 0) 0 ≡ t → zeros (set r.found a 1) + one t ≡ zeros r.found
      less t e = zeros-set r.found a 1 t (rw b.marks hm) e (omega arith)

      rows : (on : Bool) → All (λ x. x < n) (cond on (snoc r.queue a) r.queue)
      rows true = All-snoc (λ x. x < n) r.queue a b.rows hm
      rows false = b.rows

      line : (on : Bool) → length (cond on (snoc r.queue a) r.queue) ≤ length r.queue + 1
      line true = omega (arith, length-append r.queue (a ∷ []))
      line false = omega arith

      both : (on : Bool) → eqb (get_or r.found a 0) 0 ≡ true → used' ≤ used + 16
          → Bounds n e z kept (set r.found a 1) (cond on (snoc r.queue a) r.queue) (cond on (insert a r.nodes) r.nodes) (cond on (set r.owner k (z + 1)) r.owner) used' area'
      both on e v = record {
        zone = b.zone;
        marks = marks;
        owners = owners on;
        rows = rows on;
        line = omega (arith, line on, less true e, b.line);
        nodes = nodes on;
        bytes = omega (arith, v, less true e, b.bytes, la);
      }

      go : (t : Bool) → eqb (get_or r.found a 0) 0 ≡ t → used' ≤ used + 16 * one t → (ig on : Bool)
          → Bounded n e z kept (cond t (cond ig
          (record { found = set r.found a 1; queue = cond on (snoc r.queue a) r.queue; nodes = cond on (insert a r.nodes) r.nodes; owner = cond on (set r.owner k (z + 1)) r.owner; ignored = r.ignored; events = r.events })
          (ask_planet m id (ask_space m id (record { found = set r.found a 1; queue = cond on (snoc r.queue a) r.queue; nodes = cond on (insert a r.nodes) r.nodes; owner = cond on (set r.owner k (z + 1)) r.owner; ignored = r.ignored; events = r.events }))))
          (record { found = set r.found a 1; queue = r.queue; nodes = cond on (insert a r.nodes) r.nodes; owner = cond on (set r.owner k (z + 1)) r.owner; ignored = r.ignored; events = r.events })) used' area'
      go true e v true on = both on e (omega (arith, v))
      go true e v false on = both on e (omega (arith, v))
      go false e v ig on = record {
        zone = b.zone;
        marks = marks;
        owners = owners on;
        rows = b.rows;
        line = omega (arith, less false e, b.line);
        nodes = nodes on;
        bytes = omega (arith, v, less false e, b.bytes, la);
      }

-- another link keeps its owner
pub met-beside : (m : Met) (k z id : ℕ) (r : Reach) (j : ℕ) → j ≢ k → get_or (reach_met m k z id r).owner j 0 ≡ get_or r.owner j 0
unfolding reach_met edge_to mark_found push discover ask_space ask_planet
met-beside m k z id r j ne = go (eqb (get_or r.found m.row 0) 0) r.ignored m.on
  where
    own : Bool → Reach → List ℕ
    own on s = cond on (set s.owner k (z + 1)) s.owner

    same : (on : Bool) → get_or (own on r) j 0 ≡ get_or r.owner j 0
    same true = get_or-set_other r.owner k j (z + 1) 0 ne
    same false = refl

    go : (t ig on : Bool) → get_or (cond t (cond ig
        (record { found = set r.found m.row 1; queue = cond m.on (snoc r.queue m.row) r.queue; nodes = cond m.on (insert m.row r.nodes) r.nodes; owner = own on r; ignored = r.ignored; events = r.events })
        (ask_planet m id (ask_space m id (record { found = set r.found m.row 1; queue = cond m.on (snoc r.queue m.row) r.queue; nodes = cond m.on (insert m.row r.nodes) r.nodes; owner = own on r; ignored = r.ignored; events = r.events }))))
        (record { found = set r.found m.row 1; queue = r.queue; nodes = cond m.on (insert m.row r.nodes) r.nodes; owner = own on r; ignored = r.ignored; events = r.events })).owner j 0 ≡ get_or r.owner j 0
    go true true on = same on
    go true false on = same on
    go false ig on = same on
