-- Zone after zone is the run of the definition, over zones that stay what they are. Assumes nothing.
use Prim.Native.Nat.{ℕ, ◌+◌, ◌-◌, ◌≤◌, ◌<◌}
use native.Mathlib.Omega.{arith}
use native.Mathlib.Nat.{zero-add}
use mathlib.Core.Path.{◌≡◌, refl, ap, ap₂, ◌∙◌, sym, subst}
use mathlib.Core.Logic.{inl, inr, ⊎_elim}
use mathlib.Core.List.{List, [], ◌∷◌, ◌++◌, map}
use lib.ListN.{length, get_or, set, take, drop, replicate, length-map, length-replicate}
use lib.Seq.{get_or-drop}
use lib.Ieee.{Float, nan}
use Rattle.basics.specs.Floats.{0f}
use Rattle.basics.specs.Loops.{run, up_from}
use Rattle.basics.specs.Regions.{cut, base}
use Rattle.basics.proofs.Loops.{run-both, run_up, run-up_end}
use Rattle.basics.proofs.Lists.{up_from-length, up_from-below, map-up}
use Rattle.basics.proofs.Regions.{cut-part, cut-clear, cut-rest}
use Rattle.rules_board.specs.Board.{Board, turf_count, link_count}
use Rattle.rules_plan.specs.Plan.{Plan, planned_zone}
use Rattle.scratch.specs.Layout.{plan_words, plan_floats, reverse_at, direction_at, fast_at, queue_at, found_at, starts_at, zone_nodes_at, lifted_at, moles_at}
use Rattle.scratch.specs.View.{owner_in, reverse_in}
use Rattle.rules_finish.specs.Turns.{Zone, zone_at}
use Rattle.rules_equalize.specs.Equalize.{planned_all}
use Rattle.reverse_links.specs.Reverse.{Reverses}
use Rattle.reverse_links.specs.Words.{Outside, But}
use Rattle.plan_state.specs.Held.{Area, area, plan_view_in, PlanView, plan_view, PlanFits, Frame, nodes_of}
use Rattle.plan_state.specs.Pairs.{firsts, seconds}
use Rattle.plan_state.proofs.Pairs.{firsts-all, seconds-all}
use Rattle.plan_state.proofs.Stores.{frame-none, frame_then, owner_at}
use Rattle.plan_state.proofs.Nodes.{rest-is}
use Rattle.plan_zone.specs.Zone.{Plans}
use Rattle.plan_all.specs.Zones.{zone_of, filled_of, ZoneReady, Zoned, blank, Blanks, plan_zones, PlansAll}
use Rattle.plan_all.proofs.Zones.{Alike, zone-alike, zoned_alike, alike_then, frame-alike, region-same, moles-at, nodes-handed}

-- ---- a blank plan

-- the floats past the plan's
pub floats-rest : (n e : ℕ) (a : Area) → (plan_view n e a).rest_f ≡ drop (lifted_at n e) a.floats
unfolding plan_view
floats-rest n e a =
    let k : e + (n + n + 0) ≡ lifted_at n e = omega arith in
    cut-rest (plan_floats n e) a.floats ∙ ap (λ (m : ℕ). drop m a.floats) k

blanked : {n e : ℕ} {w : List ℕ} {f : List Float} (w₁ w₂ : List ℕ) (f' : List Float) → PlanFits n e (area w f)
    → w₁ ≡ take (direction_at 0 e) w ++ (replicate (n + n) 0 ++ drop (n + n) (drop (direction_at 0 e) w))
    → w₂ ≡ take (fast_at 0 n e) w₁ ++ (replicate n 0 ++ drop n (drop (fast_at 0 n e) w₁))
    → f' ≡ replicate (lifted_at n e) 0f ++ drop (lifted_at n e) f
    → length w₂ ≡ length w → length w₁ ≡ length w → length f' ≡ length f → Blanks n e (area w f) (area w₂ f')
unfolding plan_view
blanked {n} {e} {w} {f} w₁ w₂ f' h q₁ q₂ q l₂ l₁ l =
    let c₁ : cut (plan_words n e) w₁ ≡ set (cut (plan_words n e) w) 2 (replicate (n + n) 0) =
    ap (cut (plan_words n e)) q₁
    ∙ cut-part (plan_words n e) w 2 (replicate (n + n) 0) (direction_at 0 e) (n + n) (omega arith) (omega (arith, h.words)) (omega arith) refl (length-replicate {A = ℕ} (n + n) 0) in
    let c₂ : cut (plan_words n e) w₂ ≡ set (set (cut (plan_words n e) w) 2 (replicate (n + n) 0)) 3 (replicate n 0) =
    ap (cut (plan_words n e)) q₂
    ∙ cut-part (plan_words n e) w₁ 3 (replicate n 0) (fast_at 0 n e) n (omega arith) (omega (arith, h.words, l₁)) (omega arith) refl (length-replicate {A = ℕ} n 0)
    ∙ ap (λ (x : List (List ℕ)). set x 3 (replicate n 0)) c₁ in
    let k : lifted_at n e ≡ base (plan_floats n e) (length (plan_floats n e)) = omega arith in
    let t : drop (lifted_at n e) f ≡ drop (n + n) (drop e f) = sym (floats-rest n e (area w f)) in
    let c : cut (plan_floats n e) f' ≡ replicate e 0f ∷ replicate (n + n) 0f ∷ drop (n + n) (drop e f) ∷ [] =
    ap (cut (plan_floats n e)) (q ∙ ap₂ (λ (m : ℕ) (x : List Float). replicate m 0f ++ x) k t) ∙ cut-clear 0f (plan_floats n e) (drop (n + n) (drop e f)) in
    let v : plan_view n e (area w₂ f') ≡ plan_view_in (set (set (cut (plan_words n e) w) 2 (replicate (n + n) 0)) 3 (replicate n 0)) (replicate e 0f ∷ replicate (n + n) 0f ∷ drop (n + n) (drop e f) ∷ []) =
    ap₂ plan_view_in c₂ c in
    record {
      fit = record { words = omega (arith, h.words, l₂); floats = omega (arith, h.floats, l); turfs = h.turfs; links = h.links };
      frame = record {
        owner = ap (λ (x : PlanView). x.owner) v;
        reverse = ap (λ (x : PlanView). x.reverse) v;
        rest_w = ap (λ (x : PlanView). x.rest_w) v;
        rest_f = ap (λ (x : PlanView). x.rest_f) v;
      };
      plan = ap (λ (x : PlanView). x.plan) v ∙ halves n e;
    }
  where
    -- pairs of zeros are zeros
    halves : (n e : ℕ) → record { weight = replicate e 0f; delta = firsts (replicate (n + n) 0f); amount = seconds (replicate (n + n) 0f); direction = firsts (replicate (n + n) 0); fast = replicate n 0 } ≡ blank n e
    halves n e = rw (firsts-all n (n + n) 0f refl, seconds-all n (n + n) 0f refl, firsts-all {A = ℕ} n (n + n) 0 refl) refl

-- the same, with the places as the code has them
pub blanked_at : {n e : ℕ} {w : List ℕ} {f : List Float} (w₁ w₂ : List ℕ) (f' : List Float) {i k q l : ℕ} → PlanFits n e (area w f)
    → i ≡ direction_at 0 e → k ≡ fast_at 0 n e → q ≡ queue_at n e → l ≡ lifted_at n e
    → w₁ ≡ take i w ++ (replicate (k - i) 0 ++ drop (k - i) (drop i w)) → w₂ ≡ take k w₁ ++ (replicate (q - k) 0 ++ drop (q - k) (drop k w₁)) → f' ≡ replicate l 0f ++ drop l f
    → length w₂ ≡ length w → length w₁ ≡ length w → length f' ≡ length f → Blanks n e (area w f) (area w₂ f')
blanked_at {n} w₁ w₂ f' {i} {k} {q} h ei ek eq el c₁ c₂ c =
    let s₁ : k - i ≡ n + n = omega (arith, ei, ek) in
    let s₂ : q - k ≡ n = omega (arith, ek, eq) in
    blanked w₁ w₂ f' h (rw (s₁, ei) at c₁) (rw (s₂, ek) at c₂) (rw el at c)

-- ---- one zone

pub zone-planned : {n e z s q m : ℕ} {w : List ℕ} {f : List Float} {a' : Area} (b : Board) (gas : List Float) → s ≡ starts_at n e → z < n → ZoneReady n e z w f → q ≡ zone_nodes_at n e → m ≡ moles_at n e + z
    → Plans n e (λ o p. planned_zone b o z gas (nodes_of n e (plan_view n e (area w f)) (q + get_or w (s + z) 0) (get_or w (s + z + 1) 0 - get_or w (s + z) 0)) (get_or f m nan) p) (area w f) a'
    → Plans n e (λ o p. planned_zone b o z gas (zone_of n e w f z).nodes (zone_of n e w f z).moles p) (area w f) a'
zone-planned {n} {e} {z} {w = w} {f} b gas es h t eq em d = record {
  fit = d.fit;
  frame = d.frame;
  plan = d.plan
      ∙ ap₂ (λ (xs : List ℕ) (m : Float). planned_zone b (plan_view n e (area w f)).owner z gas xs m (plan_view n e (area w f)).plan) (nodes-handed es h t eq) (ap (λ (k : ℕ). get_or f k nan) em ∙ moles-at n e z w f h);
}

-- ---- zone after zone

-- the zones from z on come, from here, to all zones from the start
pub record Going (n e zones : ℕ) (b : Board) (gas : List Float) (a a' : Area) (z : ℕ) : Type 0 where
  pub fit : PlanFits n e a'
  pub frame : Frame n e a a'
  pub on : plan_zones b gas (zone_of n e a.words a.floats) (up_from z (zones - z)) (plan_view n e a).owner (plan_view n e a').plan
      ≡ plan_zones b gas (zone_of n e a.words a.floats) (up_from 0 zones) (plan_view n e a).owner (plan_view n e a).plan

pub going_start : {n e zones : ℕ} (b : Board) (gas : List Float) {a : Area} → PlanFits n e a → Going n e zones b gas a a 0
going_start {n} {e} {zones} b gas {a} h =
    let k : zones - 0 ≡ zones = omega arith in
    record {
      fit = h;
      frame = frame-none;
      on = ap (λ (m : ℕ). plan_zones b gas (zone_of n e a.words a.floats) (up_from 0 m) (plan_view n e a).owner (plan_view n e a).plan) k;
    }

pub going_next : {n e zones z : ℕ} {b : Board} {gas : List Float} {a a' a'' : Area} → Going n e zones b gas a a' z → z < zones
    → Plans n e (λ o p. planned_zone b o z gas (zone_of n e a'.words a'.floats z).nodes (zone_of n e a'.words a'.floats z).moles p) a' a''
    → Going n e zones b gas a a'' (z + 1)
going_next {n} {e} {zones} {z} {b} {gas} {a} {a'} {a''} g l d =
    let f : ℕ → Plan → Plan = λ y q. planned_zone b (plan_view n e a).owner y gas (zone_of n e a.words a.floats y).nodes (zone_of n e a.words a.floats y).moles q in
    let s : (plan_view n e a'').plan ≡ f z (plan_view n e a').plan =
    d.plan
    ∙ ap (λ (o : List ℕ). planned_zone b o z gas (zone_of n e a'.words a'.floats z).nodes (zone_of n e a'.words a'.floats z).moles (plan_view n e a').plan) g.frame.owner
    ∙ ap (λ (y : ℕ → Zone). planned_zone b (plan_view n e a).owner z gas (y z).nodes (y z).moles (plan_view n e a').plan) (zone-alike (frame-alike g.frame)) in
    record {
      fit = d.fit;
      frame = frame_then g.frame d.frame;
      on = ap (run f (up_from (z + 1) (zones - (z + 1)))) s ∙ sym (run_up f z zones (plan_view n e a').plan l) ∙ g.on;
    }

pub going_end : {n e zones z : ℕ} {b : Board} {gas : List Float} {a a' : Area} → Going n e zones b gas a a' z → zones ≤ z
    → Plans n e (plan_zones b gas (zone_of n e a.words a.floats) (up_from 0 zones)) a a'
going_end {n} {e} {zones} {z} {b} {gas} {a} {a'} g l = record {
  fit = g.fit;
  frame = g.frame;
  plan = sym (run-up_end (λ y q. planned_zone b (plan_view n e a).owner y gas (zone_of n e a.words a.floats y).nodes (zone_of n e a.words a.floats y).moles q) z zones (plan_view n e a').plan l) ∙ g.on;
}

-- ---- what the definition says of the zones as they stand in the areas

-- a zone of the list is the zone itself
pub zone-is : (zone : ℕ → Zone) (zones z : ℕ) → z < zones → zone_at (map zone (up_from 0 zones)) z ≡ zone z
zone-is zone zones z l = map-up zone 0 zones z _ l ∙ ap zone (zero-add z)

pub all-planned : (n e zones : ℕ) (b : Board) (gas : List Float) (w : List ℕ) (f : List Float) → turf_count b ≡ n → link_count b ≡ e
    → plan_zones b gas (zone_of n e w f) (up_from 0 zones) (owner_in e w) (blank n e) ≡ planned_all b gas (filled_of n e zones w f)
unfolding planned_all
all-planned n e zones b gas w f en ee =
    let o : List ℕ = owner_in e w in
    let zs : List Zone = map (zone_of n e w f) (up_from 0 zones) in
    let g : ℕ → Plan → Plan = λ z p. planned_zone b o z gas (zone_of n e w f z).nodes (zone_of n e w f z).moles p in
    let h : ℕ → Plan → Plan = λ z p. planned_zone b o z gas (zone_at zs z).nodes (zone_at zs z).moles p in
    let k : length zs ≡ zones = length-map (up_from 0 zones) (zone_of n e w f) ∙ up_from-length 0 zones in
    run-both (λ z. z < 0 + zones) (λ p q. p ≡ q) g h
    (λ z p q l s. ap (g z) s ∙ ap (λ (v : Zone). planned_zone b o z gas v.nodes v.moles q) (sym (zone-is (zone_of n e w f) zones z (omega (arith, l)))))
    (up_from 0 zones) (blank n e) (blank n e) (up_from-below 0 zones) refl
    ∙ ap (λ (m : ℕ). run h (up_from 0 m) (blank n e)) (sym k)
    ∙ ap₂ (λ (m j : ℕ). run h (up_from 0 (length zs)) (blank m j)) (sym en) (sym ee)

-- ---- all of it

module _ {n e zones : ℕ} {w w₁ w₂ : List ℕ} {f f₂ : List Float} (z : Zoned n e zones w f) (b₁ : But e (reverse_at e e) w w₁) (k : Blanks n e (area w₁ f) (area w₂ f₂)) where
  -- the reverses are none of the zones' words
  found_alike : Alike n e w w₁ f f
  found_alike = record {
    starts = region-same n e 10 b₁ (omega arith) (omega (arith, z.room.words)) (λ i l m. inr (omega (arith, l)));
    nodes = region-same n e 11 b₁ (omega arith) (omega (arith, z.room.words)) (λ i l m. inr (omega (arith, l)));
    moles = refl;
  }

  owners-stay : owner_in e w₁ ≡ owner_in e w
  owners-stay = region-same n e 0 b₁ (omega arith) (omega (arith, z.room.words)) (λ i l m. inl (omega (arith, m)))

  all_alike : Alike n e w w₂ f f₂
  all_alike = alike_then found_alike (frame-alike k.frame)

  pub cleared-zoned : length w₂ ≡ length w₁ → length f₂ ≡ length f → Zoned n e zones w₂ f₂
  cleared-zoned l m = zoned_alike all_alike (l ∙ b₁.len) m z

  pub cleared-reverses : {b : Board} → Reverses b n (reverse_in e w₁) → Reverses b n (plan_view n e (area w₂ f₂)).reverse
  unfolding plan_view
  cleared-reverses {b} v = subst (Reverses b n) (sym k.frame.reverse) v

  module _ {w₃ : List ℕ} {f₃ : List Float} (fr : Frame n e (area w₂ f₂) (area w₃ f₃)) where
    since : Frame n e (area w₁ f) (area w₃ f₃)
    since = frame_then k.frame fr

    word-stays : (i : ℕ) → Outside e (found_at n e) i → get_or w₃ i 0 ≡ get_or w₁ i 0
    word-stays i (inl l) = owner_at n e i w₃ f₃ l ∙ ap (λ (r : List ℕ). get_or r i 0) since.owner ∙ sym (owner_at n e i w₁ f l)
    word-stays i (inr l) =
        let q : found_at n e + (i - found_at n e) ≡ i = omega (arith, l) in
        let past_top : (v : List ℕ) → get_or v i 0 ≡ get_or (drop (found_at n e) v) (i - found_at n e) 0 =
        λ v. ap (λ (j : ℕ). get_or v j 0) (sym q) ∙ sym (get_or-drop (found_at n e) v (i - found_at n e) 0) in
        past_top w₃ ∙ ap (λ (r : List ℕ). get_or r (i - found_at n e) 0) (sym (rest-is n e (area w₃ f₃)) ∙ since.rest_w ∙ rest-is n e (area w₁ f)) ∙ sym (past_top w₁)

  pub planned-all : {w₃ : List ℕ} {f₃ : List Float} {b : Board} {gas : List Float} → Plans n e (plan_zones b gas (zone_of n e w₂ f₂) (up_from 0 zones)) (area w₂ f₂) (area w₃ f₃)
      → length w₃ ≡ length w₁ → length f₃ ≡ length f → turf_count b ≡ n → link_count b ≡ e
      → Reverses b n (reverse_in e w₁)
      → PlansAll n e zones b gas w w₃ f f₃
  unfolding plan_view
  planned-all {w₃} {f₃} {b} {gas} d l m en ee v = record {
    words = record {
      len = l ∙ b₁.len;
      same = λ i o. word-stays d.frame i o ∙ b₁.same i (⊎_elim (λ q. inl q) (λ q. inr (omega (arith, q))) o);
    };
    floats = (m, sym (floats-rest n e (area w₃ f₃)) ∙ (since d.frame).rest_f ∙ floats-rest n e (area w₁ f));
    reverses = subst (Reverses b n) (sym (since d.frame).reverse) v;
    plan = d.plan
        ∙ ap (λ (y : ℕ → Zone). plan_zones b gas y (up_from 0 zones) (plan_view n e (area w₂ f₂)).owner (plan_view n e (area w₂ f₂)).plan) (zone-alike all_alike)
        ∙ ap₂ (plan_zones b gas (zone_of n e w f) (up_from 0 zones)) (k.frame.owner ∙ owners-stay) k.plan
        ∙ all-planned n e zones b gas w f en ee;
  }
