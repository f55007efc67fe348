-- Requests of a link, and a neighbour that is found: each request is eight bytes after those that were written. Assumes nothing.
use Prim.Native.Nat.{ℕ, ◌+◌, ◌≤◌}
use native.Mathlib.Omega.{arith}
use mathlib.Core.Path.{◌≡◌, refl, ap, ◌∙◌, sym, subst}
use mathlib.Core.List.{List, [], ◌∷◌, ◌++◌, append-nil}
use mathlib.Core.Bool.{Bool, true, false, ◌||◌}
use lib.ListN.{length}
use Rattle.rules_events.specs.Events.{encode, encode_all, kind_of, size_of}
use Rattle.events.specs.Area.{Wrote}
use Rattle.rules_events.specs.declared.Event.{Event}
use Rattle.rules_events.specs.declared.Event.TheVariants.{DepressurizeWanted, PlanetWanted}
use Rattle.events.proofs.Areas.{wrote_none}
use Rattle.events.proofs.Sizes.{encode-size}
use Rattle.rules_fill.specs.Fill.{Reach}
use Rattle.fill_links.specs.Steps.{push, ask_space, ask_planet, discover}
use Rattle.fill_links.specs.Held.{ReachView, reach_view, on_reach, with_events, ReachFits, FillDoes, Moves, Asks, Discovers}
use Rattle.fill_links.specs.declared.Reached.{Reached}
use Rattle.fill_links.specs.declared.Met.{Met}
use Rattle.fill_links.proofs.Does.{does-plain, does-then, does-as}

-- ---- one request

pub space-size : (id : ℕ) → length (encode (DepressurizeWanted id)) ≡ 8
unfolding size_of kind_of
space-size id = encode-size (DepressurizeWanted id)

pub planet-size : (id : ℕ) → length (encode (PlanetWanted id)) ≡ 8
unfolding size_of kind_of
planet-size id = encode-size (PlanetWanted id)

or_false : (t : Bool) → t || false ≡ t
or_false true = refl
or_false false = refl

or_true : (t : Bool) → t || true ≡ true
or_true true = refl
or_true false = refl

module _ {f : Reach → Reach} {s : Reached} {area : List ℕ} where
  asks_none : s.used + 8 ≤ length area → ((r : Reach) → f r ≡ with_events r.ignored (r.events ++ []) r) → Asks f s s area area
  asks_none l g = record {
    counts = (refl, refl);
    more = [];
    same = λ r i. g r ∙ ap (λ (t : Bool). with_events t (r.events ++ []) r) i;
    wrote = unfold encode_all in wrote_none s.used area (omega arith);
    few = omega arith;
  }

  asks_one : (e : Event) → length (encode e) ≡ 8 → (ig : Bool) → ((r : Reach) → r.ignored ≡ s.ignored → f r ≡ with_events ig (r.events ++ (e ∷ [])) r)
      → {used : ℕ} {area' : List ℕ} → Wrote (encode e) s.used used area area'
      → Asks f s (record { queued = s.queued; nodes = s.nodes; ignored = ig; used = used }) area area'
  unfolding encode_all
  asks_one e size ig g {used} {area'} w = record {
    counts = (refl, refl);
    more = e ∷ [];
    same = g;
    wrote = subst (λ (bs : List ℕ). Wrote bs s.used used area area') (sym (append-nil (encode e))) w;
    few = omega (arith, w.end, size);
  }

module _ (m : Met) (id : ℕ) (s : Reached) (area : List ℕ) where
  pub space-none : s.used + 8 ≤ length area → m.space ≡ false → Asks (ask_space m id) s s area area
  unfolding ask_space
  space-none l o = asks_none l (λ r. simp (o, or_false))

  pub space-one : m.space ≡ true → {used : ℕ} {area' : List ℕ} → Wrote (encode (DepressurizeWanted id)) s.used used area area'
      → Asks (ask_space m id) s (record { queued = s.queued; nodes = s.nodes; ignored = true; used = used }) area area'
  unfolding ask_space
  space-one o w = asks_one (DepressurizeWanted id) (space-size id) true (λ r i. simp (o, or_true)) w

  pub planet-none : s.used + 8 ≤ length area → m.planet ≡ false → Asks (ask_planet m id) s s area area
  unfolding ask_planet
  planet-none l o = asks_none l (λ r. simp o)

  pub planet-one : m.planet ≡ true → {used : ℕ} {area' : List ℕ} → Wrote (encode (PlanetWanted id)) s.used used area area'
      → Asks (ask_planet m id) s (record { queued = s.queued; nodes = s.nodes; ignored = s.ignored; used = used }) area area'
  unfolding ask_planet
  planet-one o w = asks_one (PlanetWanted id) (planet-size id) s.ignored (λ r i. simp o (ap (λ (t : Bool). with_events t (r.events ++ (PlanetWanted id ∷ [])) r) i)) w

-- ---- as steps of the walk

module _ {n e kept : ℕ} {f : Reach → Reach} {s s' : Reached} where
  pub moves-does : {w w' area : List ℕ} → Moves n e kept f s s' w w' → s.used ≤ length area → FillDoes (on_reach f) (reach_view n e kept s w) (reach_view n e kept s' w') s.used s'.used area area
  moves-does {w} {w'} {area} d l =
      subst (λ (u : ℕ). FillDoes (on_reach f) (reach_view n e kept s w) (reach_view n e kept s' w') s.used u area area) (sym d.used) (does-plain l d.same)

  module _ {area area' : List ℕ} (a : Asks f s s' area area') {w : List ℕ} where
    pub asks_fit : ReachFits n e kept s w → ReachFits n e kept s' w
    asks_fit h = record {
      sizes = h.sizes;
      words = h.words;
      nodes = rw a.counts.1 h.nodes;
      queue = rw a.counts.0 h.queue;
      line = rw a.counts.1 h.line;
    }

module _ (n e kept : ℕ) {f : Reach → Reach} {s s' : Reached} (w : List ℕ) where
  pub asks_does : {area area' : List ℕ} → Asks f s s' area area' → FillDoes (on_reach f) (reach_view n e kept s w) (reach_view n e kept s' w) s.used s'.used area area'
  unfolding reach_view
  asks_does a = record {
    more = a.more;
    same = λ es. rw (a.counts.0, a.counts.1) (sym (ap (λ (r : Reach). on_reach (λ _. r) (reach_view n e kept s w es)) (a.same (reach_view n e kept s w es).reach refl)));
    wrote = a.wrote;
  }

-- ---- a neighbour that is found now

discover-ignored : (m : Met) (id : ℕ) (r : Reach) → r.ignored ≡ true → push m r ≡ discover m id r
unfolding discover push
discover-ignored m id r i = simp i

discover-asks : (m : Met) (id : ℕ) (r : Reach) → r.ignored ≡ false → ask_planet m id (ask_space m id (push m r)) ≡ discover m id r
unfolding discover push
discover-asks m id r i = simp i

push-ignored : (m : Met) {n e kept : ℕ} {s t : Reached} {w w' : List ℕ} → Moves n e kept (push m) s t w w' → t.ignored ≡ s.ignored
unfolding reach_view push
push-ignored m d = ap (λ (v : ReachView). v.reach.ignored) (d.same [])

module _ (m : Met) (id : ℕ) {n e kept : ℕ} {s t : Reached} {w w' : List ℕ} (d : Moves n e kept (push m) s t w w') (area : List ℕ) (l : s.used + 16 ≤ length area) where
  view-ignored : (b : Bool) → t.ignored ≡ b → (es : List Event) → (reach_view n e kept s w es).reach.ignored ≡ b
  unfolding reach_view
  view-ignored b i es = sym (push-ignored m d) ∙ i

  pub found-ignored : t.ignored ≡ true → Discovers n e kept (discover m id) s t w w' area area
  found-ignored i = record {
    fit = d.fit;
    does = does-as (moves-does d (omega arith)) (λ es. ap (λ (r : Reach). on_reach (λ _. r) (reach_view n e kept s w es)) (discover-ignored m id _ (view-ignored _ i es)));
    few = omega (arith, d.used);
  }

  pub found-asks : t.ignored ≡ false → {u r : Reached} {area₁ area' : List ℕ} → Asks (ask_space m id) t u area area₁ → Asks (ask_planet m id) u r area₁ area'
      → Discovers n e kept (discover m id) s r w w' area area'
  found-asks i a a' = record {
    fit = asks_fit a' (asks_fit a d.fit);
    does =
        does-as (does-then (does-then (moves-does d (omega arith)) (asks_does n e kept w' a)) (asks_does n e kept w' a'))
        (λ es. ap (λ (r : Reach). on_reach (λ _. r) (reach_view n e kept s w es)) (discover-asks m id _ (view-ignored _ i es)));
    few = omega (arith, d.used, a.few, a'.few);
  }
