-- The two later clock tests: cancelled there, or played. Assumes nothing.
use Prim.Native.Nat.{ℕ, ◌+◌, ◌*◌, ◌≤◌, ◌<◌}
use native.Mathlib.Omega.{arith}
use mathlib.Core.Path.{◌≡◌, refl, ap, ◌∙◌, sym, subst}
use mathlib.Core.Bool.{Bool, true, false, cond}
use mathlib.Core.List.{List}
use lib.Dec.{ltb}
use borrow.Author.Tests.{lt-ltb, le-ltb}
use Rattle.basics.proofs.Regions.{later_same}
use Rattle.rules_board.specs.Board.{Board, turf_count, link_count, mixture_count}
use Rattle.rules_lent.specs.Lent.{Lent, words_room, floats_room}
use Rattle.scratch.specs.Layout.{word_sizes, float_sizes}
use Rattle.fill_all.specs.Held.{FilledView}
use Rattle.fill_all.specs.Held as fill
use Rattle.fill_all.specs.declared.Filling.{Filling}
use Rattle.fill_all.proofs.Words.{tests-are}
use Rattle.rules_equalize.specs.Equalize.{Ask, Equalized, filled_all, cancel, played, equalize}
use Rattle.call_equalize.specs.Parts.{cancelled_at, CallFills, CallFilled, Comes}
use Rattle.call_equalize.specs.declared.Counts.{Counts}
use Rattle.call_equalize.proofs.Between.{processed-is}

-- the last of four ways
third : {A : Type 0} (p q r : Bool) (x y z w : A) → p ≡ false → q ≡ false → r ≡ false → cond p x (cond q y (cond r z w)) ≡ w
third p q r x y z w a b c = rw (a, b, c)

module _ {b : Board} {s : Filling} {l : Lent} (x : CallFilled b s l) (turns : List ℕ) (allowance : ℕ) (q : Ask) (l₀ : Lent) (a : q.allowance ≡ allowance) (d : CallFills b q s l₀ l) where
  stopped : (processed tests : ℕ) → Comes b (cancel b l₀.gas q processed tests (filled_all b l₀.gas q).events) (cancelled_at processed tests s.used) l₀ l
  unfolding cancel words_room floats_room fill.filled_view
  stopped processed tests = record {
    cancelled = refl;
    processed = refl;
    tests = refl;
    zones = refl;
    apart = refl;
    gas = d.gas;
    events = d.fills.wrote;
    words = later_same (word_sizes (turf_count b) (link_count b)) (16 * turf_count b + 4 * link_count b + 2 * mixture_count b + 16) l₀.words l.words (omega arith) (ap (λ (v : FilledView). v.around.rest_w) d.fills.same);
    floats = later_same (float_sizes (turf_count b) (link_count b)) (4 * turf_count b + 2 * link_count b) l₀.floats l.floats (omega arith) (ap (λ (v : FilledView). v.around.rest_r) d.fills.same);
  }

  cancelled-is : (filled_all b l₀.gas q).cancelled ≡ s.cancelled
  unfolding fill.filled_view
  cancelled-is = sym (ap (λ (v : FilledView). v.filled.cancelled) d.fills.same)

  pub over-filling : s.cancelled ≡ true → {r : Counts} → r ≡ cancelled_at 0 s.tests s.used → Comes b (equalize b l₀.gas q turns) r l₀ l
  unfolding equalize
  over-filling t e = rw (e, cancelled-is ∙ t, ← tests-are d.fills) (stopped 0 s.tests)

  module _ (on : s.cancelled ≡ false) where
    pub over_first : allowance < s.tests + 1 → {r : Counts} → r ≡ cancelled_at 0 (s.tests + 1) s.used → Comes b (equalize b l₀.gas q turns) r l₀ l
    unfolding equalize
    over_first t e = rw (e, cancelled-is ∙ on, ← tests-are d.fills, lt-ltb q.allowance (s.tests + 1) (omega (arith, a, t))) (stopped 0 (s.tests + 1))

    module _ (in-time : s.tests + 1 ≤ allowance) where
      pub over_last : allowance < s.tests + 2 → {r : Counts} → r ≡ cancelled_at s.nodes (s.tests + 2) s.used → Comes b (equalize b l₀.gas q turns) r l₀ l
      unfolding equalize
      over_last t e =
          rw (
            e,
            cancelled-is ∙ on,
            ← tests-are d.fills,
            le-ltb q.allowance (s.tests + 1) (omega (arith, a, in-time)),
            lt-ltb q.allowance (s.tests + 2) (omega (arith, a, t)),
            ← processed-is b q l₀ l s d x.board x.links x.area x.words x.floats,
          ) (stopped s.nodes (s.tests + 2))

      pub not_over : s.tests + 2 ≤ allowance → {r : Counts} {l' : Lent} → Comes b (played b l₀.gas q turns (filled_all b l₀.gas q)) r l₀ l' → Comes b (equalize b l₀.gas q turns) r l₀ l'
      unfolding equalize
      not_over t {r} {l'} c =
          let tests : ℕ = (filled_all b l₀.gas q).tests in
          subst (λ (o : Equalized). Comes b o r l₀ l')
          (sym (third (filled_all b l₀.gas q).cancelled (ltb q.allowance (tests + 1)) (ltb q.allowance (tests + 2)) _ _ _ _ (cancelled-is ∙ on)
          (le-ltb q.allowance (tests + 1) (omega (arith, a, in-time, tests-are d.fills))) (le-ltb q.allowance (tests + 2) (omega (arith, a, t, tests-are d.fills))))) c
