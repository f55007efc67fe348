-- What planning and finishing ask of the words that filling leaves: where a zone's nodes stand, that there is one, that they are different rows below N. The
-- words are the definition's zones, whose laws say so. Assumes nothing.
use Prim.Native.Nat.{ℕ, ◌+◌, ◌-◌, ◌≤◌, ◌<◌}
use native.Mathlib.Omega.{arith}
use native.Mathlib.Nat.{zero-add}
use mathlib.Core.Path.{◌≡◌, ap, ◌∙◌, sym, subst}
use mathlib.Core.List.{List, [], map}
use lib.Ieee.{Float, nan}
use lib.ListN.{length, get_or, take, drop, length-drop, length-map}
use lib.Seq.{drop-drop, length-take-le}
use Rattle.basics.specs.Loops.{up_from}
use Rattle.basics.specs.Regions.{base}
use Rattle.basics.specs.Floats.{0f}
use Rattle.basics.proofs.Lists.{up_from-length, map-up}
use Rattle.basics.proofs.Regions.{cut-get, region-part}
use Rattle.basics.proofs.Parts.{take_in}
use Rattle.scratch.specs.Layout.{word_sizes, float_sizes, starts_at, zone_nodes_at, moles_at}
use Rattle.scratch.specs.View.{owner_in, starts_in, nodes_in, moles_in}
use Rattle.rules_board.specs.Board.{Board, turf_count, link_count}
use Rattle.turfs.specs.Tables.{Accepted}
use Rattle.turfs.proofs.Line.{Line}
use Rattle.rules_finish.specs.Turns.{Zone, zone_at}
use Rattle.rules_equalize.specs.Equalize.{Ask, Filled, filled_all}
use Rattle.laws_equalize.proofs.Zones.{zone-has}
use Rattle.fill_all.specs.Held.{zone_in, FilledView, filled_view, FillsAll}
use Rattle.fill_all.specs.declared.Filling.{Filling}

module _ {n e : ℕ} {all : Filled} {r : Filling} {w w' : List ℕ} {f f' : List Float} {area area' : List ℕ} (d : FillsAll n e all r w w' f f' area area') where
  -- the word that says where zone i's nodes start
  abbrev pub at : ℕ → ℕ
  at i = get_or w' (starts_at n e + i) 0

  -- the words that are zone i's nodes
  abbrev pub rows_of : ℕ → List ℕ
  rows_of i = take (at (i + 1) - at i) (drop (zone_nodes_at n e + at i) w')

  pub starts-word : (i : ℕ) → i ≤ r.zones → at i ≡ get_or (starts_in n e w') i 0
  starts-word i l = cut-get (word_sizes n e) w' 0 10 i (starts_at n e + i) (omega arith) (omega (arith, d.stored.zones)) (omega arith)

  -- they start one after the other
  pub starts-rise : (i : ℕ) → i < r.zones → at i ≤ at (i + 1)
  starts-rise i l = omega (arith, starts-word i (omega arith), starts-word (i + 1) (omega arith), d.stored.rise i l)

  pub starts-below : (i : ℕ) → i ≤ r.zones → at i ≤ r.nodes
  starts-below i l = omega (arith, starts-word i l, d.stored.below i l)

  -- at most N+E in all
  pub nodes-few : r.nodes ≤ n + e
  nodes-few = omega (arith, d.stored.nodes, d.stored.zones)

  -- they are the zones that planning looks at
  pub zones-are : all.zones ≡ map (zone_in (starts_in n e w') (nodes_in n e w') (moles_in n e f')) (up_from 0 r.zones)
  unfolding filled_view
  zones-are = sym (ap (λ (v : FilledView). v.filled.zones) d.same)

  -- as many zones as the answer says
  pub zones-count : length all.zones ≡ r.zones
  zones-count = ap length zones-are ∙ length-map (up_from 0 r.zones) _ ∙ up_from-length 0 r.zones

  zone-is : (i : ℕ) → i < r.zones → zone_at all.zones i ≡ zone_in (starts_in n e w') (nodes_in n e w') (moles_in n e f') i
  zone-is i l =
      let g : ℕ → Zone = zone_in (starts_in n e w') (nodes_in n e w') (moles_in n e f') in
      ap (λ (zs : List Zone). zone_at zs i) zones-are ∙ map-up g 0 r.zones i (record { nodes = []; moles = 0f }) l ∙ ap g (zero-add i)

  -- the words are the zone's nodes
  pub rows_are : (i : ℕ) → i < r.zones → (zone_at all.zones i).nodes ≡ rows_of i
  rows_are i l =
      let a : ℕ = at i in
      let c : ℕ = at (i + 1) in
      let p : base (word_sizes n e) 11 + a ≡ zone_nodes_at n e + a = omega arith in
      ap (λ (z : Zone). z.nodes) (zone-is i l)
      ∙ ap (λ (x : ℕ). take (get_or (starts_in n e w') (i + 1) 0 - x) (drop x (nodes_in n e w'))) (sym (starts-word i (omega arith)))
      ∙ ap (λ (x : ℕ). take (x - a) (drop a (nodes_in n e w'))) (sym (starts-word (i + 1) (omega arith)))
      ∙ ap (λ (x : List ℕ). take (c - a) (drop a x)) (region-part (word_sizes n e) w' 11 (omega arith))
      ∙ take_in (drop (base (word_sizes n e) 11) w') a (c - a) (n + e) (omega (arith, starts-rise i l, starts-below (i + 1) (omega arith), nodes-few))
      ∙ ap (take (c - a)) (drop-drop a (base (word_sizes n e) 11) w')
      ∙ ap (λ (x : ℕ). take (c - a) (drop x w')) p

  -- as many as there are between two starts
  pub rows-length : (i : ℕ) → i < r.zones → length (rows_of i) ≡ at (i + 1) - at i
  rows-length i l = length-take-le (at (i + 1) - at i) (drop (zone_nodes_at n e + at i) w')
      (rw (length-drop (zone_nodes_at n e + at i) w') (omega (arith, starts-rise i l, starts-below (i + 1) (omega arith), nodes-few, d.stored.words)))

  -- the float is the zone's total
  pub moles-are : (i : ℕ) → i < r.zones → (zone_at all.zones i).moles ≡ get_or f' (moles_at n e + i) nan
  moles-are i l = ap (λ (z : Zone). z.moles) (zone-is i l) ∙ sym (cut-get (float_sizes n e) f' nan 3 i (moles_at n e + i) (omega arith) (omega (arith, d.stored.zones)) (omega arith))

  pub tests-are : r.tests ≡ all.tests
  unfolding filled_view
  tests-are = ap (λ (v : FilledView). v.filled.tests) d.same

  -- the owners of the links, whose laws are those of the definition
  pub owners-are : owner_in e w' ≡ all.owner
  unfolding filled_view
  owners-are = ap (λ (v : FilledView). v.filled.owner) d.same

-- a zone that filling kept has a node, and its nodes are different rows below N
module _ {b : Board} {m : ℕ} (h : Accepted b m) (gas : List Float) (q : Ask) {r : Filling} {w w' : List ℕ} {f f' : List Float} {area area' : List ℕ}
    (d : FillsAll (turf_count b) (link_count b) (filled_all b gas q) r w w' f f' area area') where
  pub rows-line : (i : ℕ) → i < r.zones → Line b (rows_of d i)
  rows-line i l = subst (Line b) (rows_are d i l) (zone-has b h gas q i (omega (arith, zones-count d))).1

  pub rows-some : (i : ℕ) → i < r.zones → at d i < at d (i + 1)
  rows-some i l = omega (arith, (zone-has b h gas q i (omega (arith, zones-count d))).0, ap length (rows_are d i l), rows-length d i l)
