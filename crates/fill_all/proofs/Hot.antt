-- A hot turf: passed over, or a zone is filled from it; and hot ids one after the other. Where filling stands the laws of the definition hold, so each fill has what it
-- asks. Assumes nothing.
use Prim.Native.Nat.{ℕ, ◌<◌}
use native.Mathlib.Omega.{arith}
use mathlib.Core.Path.{◌≡◌, refl, ap, ◌∙◌, subst}
use mathlib.Core.List.{List}
use mathlib.Core.Bool.{Bool, true, false, cond}
use lib.Ieee.{Float}
use lib.ListN.{get_or}
use Rattle.std.specs.Prelude.{Option, Some, None}
use Rattle.basics.specs.Lists.{Found}
use Rattle.scratch.specs.View.{found_in}
use Rattle.rules_board.specs.Board.{Board, turf_count, link_count, row_of}
use Rattle.turfs.specs.Tables.{Accepted}
use Rattle.turfs.proofs.Accepted.{row_below}
use Rattle.rules_fill.specs.Fill.{fill}
use Rattle.fill_links.proofs.Does.{does-as}
use Rattle.fill_zone.specs.Held.{Begins}
use Rattle.fill_zone.specs.declared.Flood.{Flood}
use Rattle.rules_equalize.specs.Equalize.{Ask, Filled, passed_over, hot_row, hot_id}
use Rattle.fill_all.specs.Held.{filled_view, on_filled, Stored, FillOpen, Fills, After}
use Rattle.fill_all.specs.declared.Filling.{Filling}
use Rattle.fill_all.proofs.After.{fills-none, kept_fills, dropped_fills}

-- ---- passed over

module _ (b : Board) (gas : List Float) (q : Ask) (r : ℕ) where
  pub row-passed : (s : Filled) → passed_over b gas q r s.found ≡ true → s ≡ hot_row b gas q (Some r) s
  unfolding hot_row
  row-passed s t = rw t

module _ (b : Board) (gas : List Float) (q : Ask) (i : ℕ) where
  pub id-unknown : (s : Filled) → row_of b i ≡ None → s ≡ hot_id b gas q i s
  unfolding hot_id hot_row
  id-unknown s e = rw e (go s.cancelled)
    where
      go : (t : Bool) → s ≡ cond t s s
      go true = refl
      go false = refl

  pub id-known : (s : Filled) → s.cancelled ≡ false → (r : ℕ) → row_of b i ≡ Some r → hot_row b gas q (Some r) s ≡ hot_id b gas q i s
  unfolding hot_id
  id-known s c r e = rw (c, e)

-- ---- the turf at `row`

pub row-none : {b : Board} (q : Ask) {s : Filling} {w : List ℕ} {f : List Float} {area : List ℕ} → Stored (turf_count b) (link_count b) s w f → FillOpen b q.allowance s w area → (row : ℕ) (gas : List Float)
    → {t : Bool} → passed_over b gas q row (found_in (turf_count b) (link_count b) w) ≡ t → t ≡ true → Fills (turf_count b) (link_count b) (hot_row b gas q (Some row)) s s w w f f area area
unfolding filled_view
row-none {b} q {s} {w} {f} st op row gas p t =
    fills-none (hot_row b gas q (Some row)) st (omega (arith, op.bytes)) (λ es. row-passed b gas q row (filled_view (turf_count b) (link_count b) s w f es).filled (p ∙ t))

pub after-fills : {b : Board} {m : ℕ} (h : Accepted b m) (gas : List Float) (q : Ask) (row : ℕ) {s : Filling} {w : List ℕ} {f : List Float} {area : List ℕ} (st : Stored (turf_count b) (link_count b) s w f)
    (op : FillOpen b q.allowance s w area) (hr : row < turf_count b) (new : get_or (found_in (turf_count b) (link_count b) w) row 0 ≡ 0)
    → {x : Bool} → passed_over b gas q row (found_in (turf_count b) (link_count b) w) ≡ x → x ≡ false → {t : Flood} {w₁ area₁ : List ℕ}
    → Begins (turf_count b) (link_count b) s.zones s.nodes s.used (λ found owner es. fill b gas q.limit q.allowance s.zones row found owner es s.tests) t w w₁ area area₁
    → {r : Filling} {w' : List ℕ} {f' : List Float} → After (turf_count b) (link_count b) b.starts s t r w₁ w' f f'
    → Fills (turf_count b) (link_count b) (hot_row b gas q (Some row)) s r w w' f f' area area₁
after-fills {b} h gas q row {s} {w} {f} {area} st op hr new pass off {t} {w₁} {area₁} B {r} {w'} {f'} a = go t.reach.ignored refl
  where
    go : (x : Bool) → t.reach.ignored ≡ x → Fills (turf_count b) (link_count b) (hot_row b gas q (Some row)) s r w w' f f' area area₁
    go true i = dropped_fills h gas q row st op hr new B (λ es. pass ∙ off) i (a.drops i)
    go false i = kept_fills h gas q row st op hr new B (λ es. pass ∙ off) i (a.keeps i)

-- ---- the hot id i

pub fills-id : (b : Board) (gas : List Float) (q : Ask) (i row : ℕ) {s s' : Filling} {w w' : List ℕ} {f f' : List Float} {area area' : List ℕ} → s.cancelled ≡ false → row_of b i ≡ Some row
    → Fills (turf_count b) (link_count b) (hot_row b gas q (Some row)) s s' w w' f f' area area' → Fills (turf_count b) (link_count b) (hot_id b gas q i) s s' w w' f f' area area'
unfolding filled_view
fills-id b gas q i row {s} {w = w} {f = f} c e d = record {
  stored = d.stored;
  does = does-as d.does (λ es. ap (λ (x : Filled). on_filled (λ _. x) (filled_view (turf_count b) (link_count b) s w f es)) (id-known b gas q i (filled_view (turf_count b) (link_count b) s w f es).filled c row e));
}

pub fills-unknown : (b : Board) (gas : List Float) (q : Ask) (i : ℕ) {s : Filling} {w : List ℕ} {f : List Float} {area : List ℕ} → Stored (turf_count b) (link_count b) s w f → FillOpen b q.allowance s w area
    → row_of b i ≡ None → Fills (turf_count b) (link_count b) (hot_id b gas q i) s s w w f f area area
fills-unknown b gas q i {s} {w} {f} st op e = fills-none (hot_id b gas q i) st (omega (arith, op.bytes)) (λ es. id-unknown b gas q i (filled_view (turf_count b) (link_count b) s w f es).filled e)

pub row-in : {b : Board} {m : ℕ} → Accepted b m → (i : ℕ) (o : Option ℕ) → row_of b i ≡ o → (row : ℕ) → o ≡ Some row → row < turf_count b
row-in {b} h i o e row a = subst (λ (x : Option ℕ). Found (λ r. r < turf_count b) x) (e ∙ a) (row_below b i)
