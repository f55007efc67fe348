-- What the areas show is what the code reads, and a reverse weight set to 0 changes the weights alone: each array is a part of its own. Assumes nothing.
use mathlib.Core.Path.{◌≡◌, refl, ap, ap₂, ◌∙◌, sym, subst}
use mathlib.Core.List.{List, [], ◌∷◌, ◌++◌}
use mathlib.Core.Bool.{Bool, true, false, cond}
use Prim.Native.Nat.{ℕ, ◌+◌, ◌-◌, ◌≤◌, ◌<◌}
use native.Mathlib.Omega.{arith}
use lib.Dec.{eqb}
use lib.ListN.{length, get_or, set, drop}
use lib.Seq.{get_or-take, drop-drop}
use lib.Ieee.{Float, nan}
use Rattle.basics.specs.Regions.{cut}
use Rattle.basics.proofs.Regions.{cut-set, cut-get}
use Rattle.basics.specs.Loops.{snoc}
use Rattle.basics.specs.Floats.{0f}
use Rattle.std.specs.Prelude.{Option, Some, None}
use Rattle.basics.specs.Lists.{Found}
use Rattle.rules_board.specs.Board.{Board, turf_count, link_count, mixture_count, mix_of, id_of, end}
use Rattle.rules_mixture.specs.Mixture.{move_air}
use Rattle.mixture.proofs.Parts.{Fits, move-fits}
use Rattle.rules_events.specs.Events.{encode, encode_all}
use Rattle.events.specs.Area.{Wrote, HoldsEvents}
use Rattle.rules_events.specs.declared.Event.TheVariants.{Pressure}
use Rattle.rules_events.specs.declared.Event.{Event}
use Rattle.events.proofs.Areas.{wrote-length, wrote-rest, adds_one, adds_adds}
use Rattle.rules_plan.specs.Edges.{alter}
use Rattle.laws_plan.proofs.Sizes.{alter-size}
use Rattle.reverse_links.specs.Reverse.{InRow}
use Rattle.plan_edges.specs.Steps.{back_link}
use Rattle.plan_state.proofs.Links.{edge-back, reverse-within}
use Rattle.rules_finish.specs.Finish.{send}
use Rattle.rules_finish.specs.Lifted.{Held, send_held}
use Rattle.scratch.specs.View.{owner_in, reverse_in}
use Rattle.finish_send.specs.Areas.{FinishAreas, Written, floats_of, lifted_from, weight_on, lifted_on, others, Shows, FinishFits, Kept}
use Rattle.finish_send.specs.Sending.{shared, Sends}
use Rattle.finish_send.proofs.Edge.{back_below, pressure_size}

-- ---- what the code reads

pub owner_at : (e k : ℕ) (words : List ℕ) → k < e → get_or words k 0 ≡ get_or (owner_in e words) k 0
owner_at e k words h = sym (get_or-take e words k 0 h)

pub reverse-at : (e k : ℕ) (words : List ℕ) → k < e → get_or words (e + k) 0 ≡ get_or (reverse_in e words) k 0
reverse-at e k words h = sym (get_or-take e (drop e words) k 0 h ∙ lib.Seq.get_or-drop e words k 0)

module _ (b : Board) (f : List Float) (k : ℕ) (h : k < link_count b) where
  pub weight-at : get_or f k nan ≡ get_or (weight_on b f) k nan
  weight-at = cut-get (floats_of b) f nan 0 k k (omega arith) h (omega arith)

  pub lifted-at : get_or f (lifted_from b + k) nan ≡ get_or (lifted_on b f) k nan
  lifted-at = cut-get (floats_of b) f nan 2 k (lifted_from b + k) (omega arith) h (omega arith)

-- ---- a weight set to 0

cut-alter : (b : Board) (s : Option ℕ) (f : List Float) → Found (λ k. k < link_count b) s
    → cut (floats_of b) (alter s (λ y. 0f) f) ≡ set (cut (floats_of b) f) 0 (alter s (λ y. 0f) (weight_on b f))
cut-alter b (Some k) f h = cut-set (floats_of b) f 0 k 0f k (omega arith) h (omega arith)
cut-alter b None f h = refl

module _ (b : Board) (s : Option ℕ) (f f' : List Float) (h : Found (λ k. k < link_count b) s) (e : f' ≡ alter s (λ y. 0f) f) where
  cuts : cut (floats_of b) f' ≡ set (cut (floats_of b) f) 0 (alter s (λ y. 0f) (weight_on b f))
  cuts = ap (cut (floats_of b)) e ∙ cut-alter b s f h

  pub altered_weight : weight_on b f' ≡ alter s (λ y. 0f) (weight_on b f)
  altered_weight = ap (λ (l : List (List Float)). get_or l 0 []) cuts

  pub altered_lifted : lifted_on b f' ≡ lifted_on b f
  altered_lifted = ap (λ (l : List (List Float)). get_or l 2 []) cuts

  pub altered_others : others b f' ≡ others b f
  unfolding others
  altered_others = ap (λ (l : List (List Float)). get_or l 1 [] ∷ get_or l 3 [] ∷ get_or l 4 [] ∷ []) cuts

-- ---- nothing changed, and one change after the other

pub kept-none : (b : Board) (a : FinishAreas) → Kept b a a
kept-none b a = record { gas = refl; floats = refl; events = refl; rest = refl; grown = omega arith; past = refl }

pub kept_then : {b : Board} {a a' a'' : FinishAreas} → Kept b a a' → Kept b a' a'' → Kept b a a''
kept_then {b} {a} {a'} {a''} k l = record {
  gas = l.gas ∙ k.gas;
  floats = l.floats ∙ k.floats;
  events = l.events ∙ k.events;
  rest = l.rest ∙ k.rest;
  grown = omega (arith, k.grown, l.grown);
  past = l.past ∙ after (a''.used - a'.used) (omega (arith, l.grown));
}
  where
    after : (d : ℕ) → d + a'.used ≡ a''.used → drop a''.used a'.events ≡ drop a''.used a.events
    after d e =
        let q : a''.used ≡ a'.used + d = omega (arith, e) in
        rw q (sym (drop-drop d a'.used a'.events) ∙ ap (drop d) k.past ∙ drop-drop d a'.used a.events)

-- ---- the events

-- what an area holds doesn't turn on what was lent
pub holds_written : {es : List Event} {used : ℕ} {lent area : List ℕ} → HoldsEvents es used lent area → Written es used area
holds_written {es} {used} {lent} {area} h = record {
  wrote = record {
    bytes = h.wrote.bytes ∙ ap (λ (l : List ℕ). encode_all es ++ l) (sym (wrote-rest h.wrote));
    end = h.wrote.end;
    room = omega (arith, h.wrote.room, wrote-length h.wrote);
  };
}

-- one more was written
pub written-more : (e : Event) {es : List Event} {used used' : ℕ} {area area' : List ℕ} → Written es used area → Wrote (encode e) used used' area area' → Written (snoc es e) used' area'
written-more e h w = holds_written (adds_adds h (adds_one e w))

-- ---- one edge

-- the same air, the same length
shared-fits : (b : Board) (r a : ℕ) (x : Float) (gas : List Float) → Fits b gas → mix_of b r < mixture_count b → mix_of b a < mixture_count b → length (shared b r a x gas) ≡ length gas
shared-fits b r a x gas f h l = go (eqb (mix_of b r) (mix_of b a))
  where
    go : (t : Bool) → length (cond t gas (move_air b (mix_of b r) (mix_of b a) x gas)) ≡ length gas
    go true = refl
    go false = move-fits b (mix_of b r) (mix_of b a) x h l gas f ∙ sym f

module _ (b : Board) (words : List ℕ) (z r k : ℕ) (a a' : FinishAreas) (ready : FinishFits b words a.gas a.floats) (row : r < turf_count b) (i : InRow b.starts r k) (below : k < link_count b)
    (x : Float)
    (s : Sends b r k z x words a a') where
  abbrev back : Option ℕ
  back = back_link (reverse_in (link_count b) words) (owner_in (link_count b) words) z k

  back_in : Found (λ j. j < link_count b) back
  back_in = back_below (link_count b) k z words below
      (subst (λ (p : ℕ). p ≤ link_count b) (sym (reverse-at (link_count b) k words below)) (reverse-within b (turf_count b) ready.linked (owner_in (link_count b) words) z (reverse_in (link_count b) words) ready.reverse r k row i))

  pub sent_kept : Kept b a a'
  sent_kept = record {
    gas = ap length s.air ∙ shared-fits b r (end b k) x a.gas ready.board.fits (ready.board.mixed r) (ready.board.mixed (end b k));
    floats = ap length s.weights ∙ alter-size back (λ y. 0f) a.floats;
    events = wrote-length s.event;
    rest = altered_others b back a.floats a'.floats back_in s.weights;
    grown = omega (arith, s.event.end);
    past = wrote-rest s.event;
  }

  pub sent_lifted : lifted_on b a'.floats ≡ lifted_on b a.floats
  sent_lifted = altered_lifted b back a.floats a'.floats back_in s.weights

  pub sent_weight : weight_on b a'.floats ≡ alter back (λ y. 0f) (weight_on b a.floats)
  sent_weight = altered_weight b back a.floats a'.floats back_in s.weights

  pub sent_used : a'.used ≡ a.used + 20
  sent_used = rw pressure_size at s.event.end

  pub sent_shows : (h : Held) → Shows b a h → Shows b a' (send_held b (owner_in (link_count b) words) z r k x h)
  unfolding send
  sent_shows h v = record {
    gas = s.air ∙ ap (shared b r (end b k) x) v.gas;
    weight = sent_weight ∙ ap₂ (λ (o : Option ℕ) (w : List Float). alter o (λ y. 0f) w)
        (sym (edge-back b (turf_count b) ready.linked (owner_in (link_count b) words) z (reverse_in (link_count b) words) ready.reverse r k row i)) v.weight;
    lifted = sent_lifted ∙ v.lifted;
    events = written-more (Pressure z x (id_of b r) (id_of b (end b k))) v.events s.event;
  }
