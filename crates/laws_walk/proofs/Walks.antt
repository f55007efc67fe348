-- A walk from a turf: no turf joins the queue twice, so it comes to rest within as many steps as there are turfs; a firelock is written only for a turf that joins.
-- Assumes nothing.
use mathlib.Core.Path.{◌≡◌, refl, sym, ap, ◌∙◌, subst}
use mathlib.Core.Logic.{◌⊎◌, inl, inr}
use mathlib.Core.List.{[], ◌∷◌}
use mathlib.Core.Bool.{Bool, true, false, not, ◌&&◌, cond, and-false}
use Prim.Native.Nat.{ℕ, ◌+◌, ◌*◌, ◌≤◌, ◌<◌}
use native.Mathlib.Nat.{le_refl}
use native.Mathlib.Omega.{arith}
use lib.Dec.{T, ltb, leb, ltb→lt}
use lib.ListN.{length, get_or, length-append, get_or-append}
use borrow.Author.Tests.{le-ltb}
use Rattle.basics.specs.Loops.{times, member, snoc}
use Rattle.basics.proofs.Loops.{All-any, run-keeps, times-keeps, times-rests, and_right}
use Rattle.rules_board.specs.Board.{Board, turf_count, id_of, end, enabled, firelock, links_of}
use Rattle.turfs.proofs.Line.{Line, line-snoc}
use Rattle.rules_events.specs.Events.{kind_of, size_of}
use Rattle.rules_events.specs.declared.Event.{Event}
use Rattle.rules_events.specs.declared.Event.TheVariants.{Firelock}
use Rattle.events.proofs.Sizes.{size, size-snoc}
use Rattle.rules_walk.specs.Walk.{Walk, advance, walk_link, spread, walk_next, walk}
use Rattle.rules_walk.specs.Worked as worked  -- checked before the laws

-- where a walk from r starts
abbrev pub start_walk : ℕ → Walk
start_walk r = record { queue = r ∷ []; walked = 0; space = []; planet = false; ended = false; events = [] }

-- a walk that goes on has a turf to visit
abbrev pub going : Walk → Bool
going s = not s.ended && ltb s.walked (length s.queue)

module _ (b : Board) (ends : (k : ℕ) → end b k < turf_count b) where
  -- from s to t the queue grew at its end, and the events by at most a firelock a turf; the rest is as it was
  pub record Spread (s t : Walk) : Type 0 where
    pub line : Line b t.queue
    pub front : (i : ℕ) → i < length s.queue → get_or t.queue i 0 ≡ get_or s.queue i 0
    pub longer : length s.queue ≤ length t.queue
    pub bytes : size t.events + 12 * length s.queue ≤ size s.events + 12 * length t.queue
    pub walked : t.walked ≡ s.walked
    pub space : t.space ≡ s.space

  spread-refl : (s : Walk) → Line b s.queue → Spread s s
  spread-refl s l = record { line = l; front = λ i h. refl; longer = le_refl (length s.queue); bytes = le_refl (size s.events + 12 * length s.queue); walked = refl; space = refl }

  link-spreads : (s₀ : Walk) (r k : ℕ) (s : Walk) → Spread s₀ s → Spread s₀ (walk_link b r k s)
  unfolding walk_link
  link-spreads s₀ r k s q = go (member a s.queue) refl (firelock b k)
    where
      a : ℕ
      a = end b k

      lock : Event
      lock = Firelock (id_of b r) (id_of b a)

      twelve : size (snoc s.events lock) ≡ size s.events + 12
      twelve = size-snoc s.events lock ∙ ap (λ (n : ℕ). size s.events + n) (unfold size_of kind_of in refl)

      step : Bool → Bool → Walk
      step t f = record {
        queue = cond (not t) (snoc s.queue a) s.queue;
        walked = s.walked;
        space = s.space;
        planet = s.planet;
        ended = s.ended;
        events = cond (not t && f) (snoc s.events lock) s.events;
      }

      go : (t : Bool) → member a s.queue ≡ t → (f : Bool) → Spread s₀ (step t f)
      go true e f = record { line = q.line; front = q.front; longer = q.longer; bytes = q.bytes; walked = q.walked; space = q.space }
      go false e f = record {
        line = line-snoc b s.queue a (ends k) e q.line;
        front = λ i h. get_or-append s.queue (a ∷ []) 0 i (omega (arith, h, q.longer)) ∙ q.front i h;
        longer = omega (arith, length-append s.queue (a ∷ []), q.longer);
        bytes = wrote f;
        walked = q.walked;
        space = q.space;
      }
        where
          wrote : (f : Bool) → size (cond f (snoc s.events lock) s.events) + 12 * length s₀.queue ≤ size s₀.events + 12 * length (snoc s.queue a)
          wrote true = omega (arith, twelve, length-append s.queue (a ∷ []), q.bytes)
          wrote false = omega (arith, length-append s.queue (a ∷ []), q.bytes)

  pub spreads : (limit r : ℕ) (s : Walk) → Line b s.queue → Spread s (spread b limit r s)
  unfolding spread
  spreads limit r s l =
      run-keeps (λ k. Unit {0}) (Spread s) (walk_link b r) (λ k t u h. link-spreads s r k t h) _ s (All-any _ (λ k. tt) (cond (enabled b r && leb s.walked limit) (links_of b r) [])) (spread-refl s l)

-- spreading counts no place on
pub spread-walked : (b : Board) (limit r : ℕ) (s : Walk) → (spread b limit r s).walked ≡ s.walked
unfolding spread walk_link
spread-walked b limit r s =
    run-keeps (λ k. Unit {0}) (λ t. t.walked ≡ s.walked) (walk_link b r) (λ k t u h. h) _ s (All-any _ (λ k. tt) (cond (enabled b r && leb s.walked limit) (links_of b r) [])) refl

-- ---- the loop

module _ (b : Board) (visit : ℕ → Walk → Walk) where
  pub still : (s : Walk) → going s ≡ false → walk_next b visit s ≡ s
  unfolding walk_next
  still s e = rw e

  pub visited : (s : Walk) → going s ≡ true → walk_next b visit s ≡ visit (get_or s.queue s.walked 0) (advance s)
  unfolding walk_next
  visited s e = rw e

  -- an invariant of the visits
  pub walk-keeps : (P : Walk → Type 0) → ((s : Walk) → s.walked < length s.queue → P s → P (visit (get_or s.queue s.walked 0) (advance s))) → (r : ℕ) → P (start_walk r) → P (walk b visit r)
  unfolding walk
  walk-keeps P h r q = times-keeps P (walk_next b visit) next (turf_count b) (start_walk r) q
    where
      next : (s : Walk) → P s → P (walk_next b visit s)
      next s p = go (going s) refl
        where
          go : (t : Bool) → going s ≡ t → P (walk_next b visit s)
          go true e = rw (visited s e) (h s (ltb→lt s.walked (length s.queue) (and_right (not s.ended) (ltb s.walked (length s.queue)) (subst T (sym e) tt))) p)
          go false e = rw (still s e) p

  -- as many steps as there are turfs bring a walk to rest, where its queue is no longer than that
  pub walk-rests : ((r : ℕ) (s : Walk) → (visit r s).walked ≡ s.walked) → (r : ℕ) → length (walk b visit r).queue ≤ turf_count b → going (walk b visit r) ≡ false
  unfolding walk
  walk-rests kept r l =
      go (times-rests (walk_next b visit) going (λ s. s.walked) still (λ s e. ap (λ (t : Walk). t.walked) (visited s e) ∙ kept (get_or s.queue s.walked 0) (advance s)) (turf_count b) (start_walk r))
    where
      w : Walk
      w = times (walk_next b visit) (turf_count b) (start_walk r)

      go : (going w ≡ false) ⊎ (w.walked ≡ 0 + turf_count b) → going w ≡ false
      go (inl e) = e
      go (inr e) = ap (λ (t : Bool). not w.ended && t) (le-ltb w.walked (length w.queue) (omega (arith, e, l))) ∙ and-false (not w.ended)
