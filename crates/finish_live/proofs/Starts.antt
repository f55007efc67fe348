-- Taking a place out moves each later one down by one; going through the zones puts each one with nodes at the end of the unfinished ones. Assumes nothing.
use mathlib.Core.Path.{◌≡◌, refl, sym, ap, ap₂, ◌∙◌, subst}
use mathlib.Core.Logic.{◌⊎◌, inl, inr}
use mathlib.Core.List.{List, [], ◌∷◌, ◌++◌, append-nil}
use mathlib.Core.Bool.{Bool, true, false, cond}
use Prim.Native.Nat.{ℕ, ◌+◌, ◌-◌, ◌≤◌, ◌<◌}
use native.Mathlib.Omega.{arith}
use native.Mathlib.Nat.{zero-add}
use native.Mathlib.Numerals.{add-one}
use native.Mathlib.Decide.{ℕ_discrete, dec_lt}
use lib.Dec.{ltb}
use lib.ListN.{length, get_or, set, take, drop, length-set, length-drop}
use lib.Seq.{ext_get_or, take-take, length-take-le, get_or-set_same, get_or-set_other, take-suc-set, drop-set-add}
use borrow.Author.Tests.{lt-ltb, le-ltb}
use Rattle.std.specs.List.{CopiedTo, SameBelow, SameFrom}
use Rattle.basics.specs.Loops.{keep, cons_if, up_from}
use Rattle.basics.proofs.Loops.{keep_append, up-append}
use Rattle.basics.proofs.Parts.{take-alike, drop-alike, part-front, drop-later}
use Rattle.scratch.specs.Layout.{turns_at, live_at, starts_at}
use Rattle.finish_zones.specs.Zones.{node_count_of, turns_of, next_in, live_in, without, Laid, Beside}
use Rattle.finish_live.specs.Live.{TakenOut, StartsZone, Started, SettlesZone}
use Rattle.finish_live.proofs.Alike.{without-length, without-low, without-high}
use Rattle.finish_zones.proofs.Words.{beside_none, beside-then, beside-next, beside-live, laid_beside, size_same, live-next, live_in-at}

-- ---- taking a place out

-- the places from p up to i were moved down
pub record Moved (p count live i : ℕ) (ws ws' : List ℕ) : Type 0 where
  pub low : p ≤ i
  pub high : i < count
  pub size : length ws' ≡ length ws
  pub same : (j : ℕ) → (j < live + p) ⊎ (live + i ≤ j) → get_or ws' j 0 ≡ get_or ws j 0
  pub down : (j : ℕ) → p ≤ j → j < i → get_or ws' (live + j) 0 ≡ get_or ws (live + (j + 1)) 0

module _ (p count live : ℕ) (ws : List ℕ) where
  pub moved_end : (i : ℕ) (ws' : List ℕ) → Moved p count live i ws ws' → live + count ≤ length ws → count ≤ i + 1 → TakenOut p count live ws ws'
  moved_end i ws' m l h = record {
    size = m.size;
    front = take-alike live ws' ws m.size (λ j x. m.same j (inl (omega arith)));
    rest = drop-alike (live + count) ws' ws m.size (λ j x. m.same j (inr (omega (arith, m.high))));
    left = ext_get_or 0 (live_in live (count - 1) ws') (without p old) (long ∙ sym (without-length p old inside ∙ ap (λ (k : ℕ). k - 1) old-long)) (λ j x. each j (omega (arith, long, x)) (dec_lt j p));
  }
    where
      old : List ℕ
      old = live_in live count ws

      old-long : length old ≡ count
      old-long = length-take-le count (drop live ws) (omega (arith, length-drop live ws))

      inside : p < length old
      inside = omega (arith, old-long, m.low, m.high)

      long : length (live_in live (count - 1) ws') ≡ count - 1
      long = length-take-le (count - 1) (drop live ws') (omega (arith, length-drop live ws', m.size))

      each : (j : ℕ) → j < count - 1 → Dec (j < p) → get_or (live_in live (count - 1) ws') j 0 ≡ get_or (without p old) j 0
      each j x (yes q) = live_in-at live (count - 1) ws' j x ∙ m.same (live + j) (inl (omega arith)) ∙ sym (without-low p old inside j q ∙ live_in-at live count ws j (omega arith))
      each j x (no q) = live_in-at live (count - 1) ws' j x ∙ m.down j (omega arith) (omega arith) ∙ sym (without-high p old inside j (omega arith) ∙ live_in-at live count ws (j + 1) (omega arith))

-- what stands behind the place p was copied down by one
pub copied_out : (p count live : ℕ) (ws ws' : List ℕ) → p < count → live + count ≤ length ws → length ws' ≡ length ws
    → CopiedTo ws ws' (live + p + 1) (live + p) (live + count - (live + p + 1)) × SameBelow ws ws' (live + p) × SameFrom ws ws' (live + p + (live + count - (live + p + 1)))
    → TakenOut p count live ws ws'
copied_out p count live ws ws' h l s by = moved_end p count live ws (count - 1) ws' (record {
  low = omega arith;
  high = omega arith;
  size = s;
  same = λ j q. elim q [ inl x ↦ by.1 j 0 x | inr x ↦ by.2 j 0 (omega arith) ];
  down = λ j x y. by.0 (live + j) 0 (omega arith) (omega arith) ∙ ap (λ (k : ℕ). get_or ws k 0) (omega arith);
}) l (omega arith)

-- ---- what it leaves

module _ (n e : ℕ) where
  beside-out : (p count : ℕ) (ws ws' : List ℕ) → count ≤ n → TakenOut p count (live_at n e) ws ws' → Beside n e ws ws'
  beside-out p count ws ws' h t = record {
    size = t.size;
    front = sym (take-take (turns_at n e) (live_at n e) ws' (omega arith)) ∙ ap (take (turns_at n e)) t.front ∙ take-take (turns_at n e) (live_at n e) ws (omega arith);
    rest = drop-later (live_at n e + count) (starts_at n e) ws' ws (omega arith) t.rest;
  }

  next-out : (p count : ℕ) (ws ws' : List ℕ) → starts_at n e ≤ length ws → TakenOut p count (live_at n e) ws ws' → next_in n e n ws' ≡ next_in n e n ws
  next-out p count ws ws' l t = part-front (turns_at n e) n ws' (omega (arith, t.size)) ∙ ap (drop (turns_at n e)) t.front ∙ sym (part-front (turns_at n e) n ws (omega arith))

-- ---- a zone whose node had its turn

module _ (n e z p count : ℕ) (ws : List ℕ) (l : Laid n e ws z) (h : (p < count) × (count ≤ n)) (had size : ℕ) (eh : had ≡ turns_of n e ws z) (es : size ≡ node_count_of n e ws z) where
  abbrev Stays : Bool → List ℕ
  Stays t = cond t (live_in (live_at n e) count ws) (without p (live_in (live_at n e) count ws))

  pub settles_none : had < size → SettlesZone n e z p count count ws ws
  settles_none q = record {
    beside = beside_none n e ws;
    next = refl;
    less = omega arith;
    live = ap Stays (sym (lt-ltb (turns_of n e ws z) (node_count_of n e ws z) (omega (arith, q, eh, es))));
  }

  pub settles_out : (live : ℕ) (ws' : List ℕ) → live ≡ live_at n e → size ≤ had → TakenOut p count live ws ws' → SettlesZone n e z p count (count - 1) ws ws'
  settles_out live ws' el q t' =
      let t : TakenOut p count (live_at n e) ws ws' = subst (λ (i : ℕ). TakenOut p count i ws ws') el t' in
      record {
        beside = beside-out n e p count ws ws' h.1 t;
        next = next-out n e p count ws ws' (omega (arith, l.within)) t;
        less = omega arith;
        live = t.left ∙ ap Stays (sym (le-ltb (turns_of n e ws z) (node_count_of n e ws z) (omega (arith, q, eh, es))));
      }

-- ---- the start

module _ (n e z live : ℕ) (ws : List ℕ) (l : Laid n e ws z) (at : ℕ) (ea : at ≡ turns_at n e + z) where
  stored : Beside n e ws (set ws at 0)
  stored = subst (λ (i : ℕ). Beside n e ws (set ws i 0)) (sym ea) (beside-next n e ws z 0 l.below)

  pub starts_none : (r : ℕ) → r ≡ node_count_of n e (set ws at 0) z → r ≡ 0 → StartsZone n e z live live ws (set ws at 0)
  starts_none r x q =
      let s : ltb 0 (node_count_of n e ws z) ≡ false = le-ltb 0 (node_count_of n e ws z) (omega (arith, x, q, size_same n e stored z)) in
      record {
        words = ap (λ (i : ℕ). set ws i 0) ea ∙ ap (λ (t : Bool). cond t (set (set ws (turns_at n e + z) 0) (live_at n e + live) z) (set ws (turns_at n e + z) 0)) (sym s);
        count = ap (λ (t : Bool). cond t (live + 1) live) (sym s);
      }

  pub starts-some : (r spot : ℕ) → r ≡ node_count_of n e (set ws at 0) z → (r ≡ 0 → ⊥) → spot ≡ live_at n e + live → StartsZone n e z live (live + 1) ws (set (set ws at 0) spot z)
  starts-some r spot x q el =
      let s : ltb 0 (node_count_of n e ws z) ≡ true = lt-ltb 0 (node_count_of n e ws z) (omega (arith, x, q, size_same n e stored z)) in
      record {
        words = ap₂ (λ (i k : ℕ). set (set ws i 0) k z) ea el ∙ ap (λ (t : Bool). cond t (set (set ws (turns_at n e + z) 0) (live_at n e + live) z) (set ws (turns_at n e + z) 0)) (sym s);
        count = ap (λ (t : Bool). cond t (live + 1) live) (sym s);
      }

module _ (n e : ℕ) (ws : List ℕ) where
  pub started_none : Started n e 0 0 ws ws
  unfolding keep up_from
  started_none = record { beside = beside_none n e ws; few = omega arith; none = λ j h. absurd (omega arith); live = refl }

  abbrev has : ℕ → Bool
  has j = ltb 0 (node_count_of n e ws j)

  one_more : (z : ℕ) (t : Bool) → has z ≡ t → keep has (up_from 0 (z + 1)) ≡ keep has (up_from 0 z) ++ cons_if t z []
  unfolding keep up_from
  one_more z t x = ap (keep has) (up-append 0 z 1 ∙ ap (λ (k : ℕ). up_from 0 z ++ (k ∷ [])) (zero-add z)) ∙ keep_append has (up_from 0 z) (z ∷ []) ∙ ap (λ (y : Bool). keep has (up_from 0 z) ++ cons_if y z []) x

  module _ (z live : ℕ) (ws' : List ℕ) (s : Started n e z live ws ws') (h : z < n) (room : starts_at n e ≤ length ws) where
    abbrev ws₁ : List ℕ
    ws₁ = set ws' (turns_at n e + z) 0

    none-now : (j : ℕ) → j < z + 1 → Dec (j ≡ z) → turns_of n e ws₁ j ≡ 0
    none-now j q (yes x) = ap (λ (k : ℕ). get_or ws₁ (turns_at n e + k) 0) x ∙ get_or-set_same ws' (turns_at n e + z) 0 0 (omega (arith, s.beside.size))
    none-now j q (no x) = get_or-set_other ws' (turns_at n e + z) (turns_at n e + j) 0 0 (λ i. x (omega (arith, i))) ∙ s.none j (omega (arith, x))

    pub started_next : (r : ℕ) (ws'' : List ℕ) → StartsZone n e z live r ws' ws'' → Started n e (z + 1) r ws ws''
    started_next r ws'' q = go (has z) refl
      where
        same : ltb 0 (node_count_of n e ws' z) ≡ has z
        same = ap (ltb 0) (size_same n e s.beside z)

        go : (t : Bool) → has z ≡ t → Started n e (z + 1) r ws ws''
        go true x =
            let w : ws'' ≡ set ws₁ (live_at n e + live) z = q.words ∙ ap (λ (t : Bool). cond t (set ws₁ (live_at n e + live) z) ws₁) (same ∙ x) in
            let c : r ≡ live + 1 = q.count ∙ ap (λ (t : Bool). cond t (live + 1) live) (same ∙ x) in
            rw (w, c) (record {
              beside = beside-then n e s.beside (beside-then n e (beside-next n e ws' z 0 h) (beside-live n e ws₁ live z (omega (arith, s.few))));
              few = omega (arith, s.few);
              none = λ j i. get_or-set_other ws₁ (live_at n e + live) (turns_at n e + j) z 0 (λ y. omega (arith, y)) ∙ none-now j i (ℕ_discrete j z);
              live =
                  ap (take (live + 1)) (drop-set-add (live_at n e) ws₁ live z) ∙ ap (λ (k : ℕ). take k (set (drop (live_at n e) ws₁) live z)) (add-one live)
                  ∙ take-suc-set (drop (live_at n e) ws₁) live z (omega (arith, length-drop (live_at n e) ws₁, length-set ws' (turns_at n e + z) 0, s.beside.size, s.few))
                  ∙ ap (λ (l : List ℕ). l ++ (z ∷ [])) (live-next n e live ws' z 0 h ∙ s.live) ∙ sym (one_more z true x);
            })
        go false x =
            let w : ws'' ≡ ws₁ = q.words ∙ ap (λ (t : Bool). cond t (set ws₁ (live_at n e + live) z) ws₁) (same ∙ x) in
            let c : r ≡ live = q.count ∙ ap (λ (t : Bool). cond t (live + 1) live) (same ∙ x) in
            rw (w, c) (record {
              beside = beside-then n e s.beside (beside-next n e ws' z 0 h);
              few = omega (arith, s.few);
              none = λ j i. none-now j i (ℕ_discrete j z);
              live = live-next n e live ws' z 0 h ∙ s.live ∙ sym (one_more z false x ∙ append-nil (keep has (up_from 0 z)));
            })
