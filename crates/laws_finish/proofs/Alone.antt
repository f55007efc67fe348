-- Finishing in one zone changes nothing outside the zone, and what it does turns on nothing outside it: it reads and stores only weights of the zone's edges, and
-- amounts of mixtures at their ends. Assumes nothing.
use mathlib.Core.Path.{◌≡◌, refl, sym, ap, ◌∙◌, subst}
use mathlib.Core.Logic.{◌≢◌}
use mathlib.Core.List.{List, []}
use mathlib.Core.Bool.{Bool, true, false, ◌&&◌, cond}
use Prim.Native.Nat.{ℕ, zero, suc, ◌+◌, ◌<◌}
use lib.Dec.{T, eqb, eqb→eq}
use lib.ListN.{length, get_or, set, length-set}
use lib.Seq.{get_or-set_other}
use lib.Ieee.{Float, nan, lt}
use Rattle.basics.specs.Loops.{run, keep}
use Rattle.basics.specs.Floats.{0f}
use Rattle.std.specs.Prelude.{Option, Some, None}
use Rattle.basics.specs.Lists.{All, Found}
use Rattle.basics.proofs.Loops.{All-map, All-imp, All-any, keep_all, map-like, run-both, run-keeps, cond_both, first_passes, and_left, set-like}
use Rattle.rules_board.specs.Board.{Board, mixture_count, id_of, mix_of, immutable_mix, end, links_of}
use Rattle.rules_mixture.specs.Mixture.{amounts, total, total_mix, sum, move_air}
use Rattle.mixture.proofs.Parts.{Fits, move-fits, move_apart, move_like}
use Rattle.rules_events.specs.Compared.{records}
use Rattle.events.proofs.Compared.{others, other_record, same-record, no_other}
use Rattle.rules_plan.specs.Edges.{edges_of, edge, alter}
use Rattle.laws_plan.proofs.Sizes.{alter-size}
use Rattle.rules_finish.specs.Finish.{Done, Pair, zero_lifted, positive, negative, pairs, finish_givers, send, finish_pair, finish}
use Rattle.laws_finish.proofs.Weights.{lift_size}

-- b's rows name mixtures that there are; In says which mixtures are in the zone z, whose edges end at turfs with such mixtures
module _ (b : Board) (owner : List ℕ) (z : ℕ) (In : ℕ → Type 0)
    (mixed : (r : ℕ) → mix_of b r < mixture_count b) (ends : (k : ℕ) → get_or owner k 0 ≡ z + 1 → In (mix_of b (end b k))) where
  abbrev Own : ℕ → Type 0
  Own k = get_or owner k 0 ≡ z + 1

  edges_own : (r : ℕ) → All Own (edges_of b owner z r)
  unfolding edges_of
  edges_own r =
      All-imp (λ k. T (eqb (get_or owner k 0) (z + 1)) × Unit {0}) Own (edges_of b owner z r) (λ k h. eqb→eq (get_or owner k 0) (z + 1) h.0)
      (keep_all (λ k. eqb (get_or owner k 0) (z + 1)) (λ k. Unit {0}) (links_of b r) (All-any (λ k. Unit {0}) (λ k. tt) (links_of b r)))

  edge-own : (r a : ℕ) → Found Own (edge b owner z r a)
  unfolding edge
  edge-own r a = first_passes Own (λ k. eqb (get_or owner k 0) (z + 1) && eqb (end b k) a) (links_of b r)
      (λ k t. eqb→eq (get_or owner k 0) (z + 1) (and_left (eqb (get_or owner k 0) (z + 1)) (eqb (end b k) a) t))

  abbrev There : Pair → Type 0
  There p = In (mix_of b p.to)

  pairs-there : (r : ℕ) (w : List Float) → All There (pairs b owner z r w)
  unfolding pairs
  pairs-there r w = All-map There _ (edges_of b owner z r) (All-imp Own (λ k. In (mix_of b (end b k))) (edges_of b owner z r) ends (edges_own r))

  positive-there : (ps : List Pair) → All There ps → All There (positive ps)
  positive-there ps h = All-imp _ There (positive ps) (λ p q. q.1) (keep_all (λ p. lt 0f p.amount) There ps h)

  negative-there : (ps : List Pair) → All There ps → All (λ a. In (mix_of b a)) (negative ps)
  negative-there ps h =
      All-map (λ a. In (mix_of b a)) (λ p. p.to) (keep (λ p. lt p.amount 0f) ps)
      (All-imp _ There (keep (λ p. lt p.amount 0f) ps) (λ p q. q.1) (keep_all (λ p. lt p.amount 0f) There ps h))

  -- ---- what stays beside it

  -- from s, zone z's work came to t
  pub record Beside (s t : Done) : Type 0 where
    pub fits : Fits b t.gas
    pub air : (m : ℕ) → (In m → T (immutable_mix b m)) → amounts b t.gas m ≡ amounts b s.gas m
    pub size : length t.weight ≡ length s.weight
    pub weights : (k : ℕ) → get_or owner k 0 ≢ z + 1 → get_or t.weight k nan ≡ get_or s.weight k nan
    pub logs : (y : ℕ) → y ≢ z → records y t.events ≡ records y s.events
    pub rest : others t.events ≡ others s.events

  alter-beside : (o : Option ℕ) (f : Float → Float) (w : List Float) → Found Own o → (k : ℕ) → get_or owner k 0 ≢ z + 1 → get_or (alter o f w) k nan ≡ get_or w k nan
  alter-beside (Some j) f w own k h = get_or-set_other w j k (f (get_or w j nan)) nan (λ e. h (ap (λ (x : ℕ). get_or owner x 0) e ∙ own))
  alter-beside None f w own k h = refl

  send-beside : (s₀ : Done) (r : ℕ) (p : Pair) (s : Done) → In (mix_of b r) → There p → Beside s₀ s → Beside s₀ (send b owner z r p s)
  unfolding send
  send-beside s₀ r p s hr hp q =
      let x = mix_of b r in
      let y = mix_of b p.to in
      let t = eqb x y in
      let moved = move_air b x y p.amount s.gas in
      record {
        fits = cond_both (Fits b) t s.gas moved q.fits (move-fits b x y p.amount (mixed r) (mixed p.to) s.gas q.fits);
        air = λ m i. cond_both (λ g. amounts b g m ≡ amounts b s₀.gas m) t s.gas moved (q.air m i)
            (move_apart b x y p.amount (mixed r) (mixed p.to) s.gas q.fits m
            (λ e. i (subst In (sym e) hr)) (λ e. i (subst In (sym e) hp))
            ∙ q.air m i);
        size = alter-size (edge b owner z p.to r) (λ v. 0f) s.weight ∙ q.size;
        weights = λ k h. alter-beside (edge b owner z p.to r) (λ v. 0f) s.weight (edge-own p.to r) k h ∙ q.weights k h;
        logs = λ w h. other_record w z p.amount (id_of b r) (id_of b p.to) s.events h ∙ q.logs w h;
        rest = no_other z p.amount (id_of b r) (id_of b p.to) s.events ∙ q.rest;
      }

  lift_beside : (ks : List ℕ) (w : List Float) → All Own ks → (k : ℕ) → get_or owner k 0 ≢ z + 1 → get_or (zero_lifted ks w) k nan ≡ get_or w k nan
  unfolding zero_lifted
  lift_beside ks w a k h =
      run-keeps Own (λ u. get_or u k nan ≡ get_or w k nan) (λ j u. set u j 0f)
      (λ j u own e. get_or-set_other u j k 0f nan (λ i. h (ap (λ (x : ℕ). get_or owner x 0) i ∙ own)) ∙ e) ks w a refl

  pub finish-beside : (n : ℕ) (s₀ : Done) (r : ℕ) (s : Done) → In (mix_of b r) → Beside s₀ s → Beside s₀ (finish b owner z n r s)
  unfolding finish finish_pair finish_givers
  finish-beside zero s₀ r s hr q = q
  finish-beside (suc n) s₀ r s hr q =
      let es = edges_of b owner z r in
      let ps = pairs b owner z r s.weight in
      let lifted : Done = record { gas = s.gas; weight = zero_lifted es s.weight; events = s.events } in
      let up : Beside s₀ lifted = record {
        fits = q.fits;
        air = q.air;
        size = lift_size es s.weight ∙ q.size;
        weights = λ k h. lift_beside es s.weight (edges_own r) k h ∙ q.weights k h;
        logs = q.logs;
        rest = q.rest;
      } in
      run-keeps There (Beside s₀) (finish_pair b owner z (λ a t. finish b owner z n a t) r ps)
      (λ p t hp qt. send-beside s₀ r p _ hr hp
      (run-keeps (λ a. In (mix_of b a)) (Beside s₀) (λ a u. finish b owner z n a u) (λ a u ha qu. finish-beside n s₀ a u ha qu)
      (negative (cond (lt (total b t.gas r) p.amount) ps [])) t
      (negative-there _ (cond_both (All There) (lt (total b t.gas r) p.amount) ps [] (pairs-there r s.weight) tt)) qt))
      (positive ps) lifted (positive-there ps (pairs-there r s.weight)) up

  -- ---- what it turns on

  -- s and t are the same to zone z
  pub record Alike (s t : Done) : Type 0 where
    pub fits : Fits b s.gas
    pub fits' : Fits b t.gas
    pub air : (m : ℕ) → In m → amounts b s.gas m ≡ amounts b t.gas m
    pub size : length s.weight ≡ length t.weight
    pub weights : (k : ℕ) → get_or owner k 0 ≡ z + 1 → get_or s.weight k nan ≡ get_or t.weight k nan
    pub logs : records z s.events ≡ records z t.events

  alter-like : (o : Option ℕ) (w v : List Float) (k : ℕ) → length w ≡ length v → get_or w k nan ≡ get_or v k nan → get_or (alter o (λ x. 0f) w) k nan ≡ get_or (alter o (λ x. 0f) v) k nan
  alter-like (Some j) w v k l e = set-like w v j k 0f nan l e
  alter-like None w v k l e = e

  send-alike : (r : ℕ) (p : Pair) (s t : Done) → In (mix_of b r) → There p → Alike s t → Alike (send b owner z r p s) (send b owner z r p t)
  unfolding send
  send-alike r p s t hr hp q =
      let x = mix_of b r in
      let y = mix_of b p.to in
      let moved : List Float → List Float = move_air b x y p.amount in
      let go : (e : Bool) (m : ℕ) → In m → amounts b (cond e s.gas (moved s.gas)) m ≡ amounts b (cond e t.gas (moved t.gas)) m =
      λ e. elim e as (λ k. (m : ℕ) → In m → amounts b (cond k s.gas (moved s.gas)) m ≡ amounts b (cond k t.gas (moved t.gas)) m) [
        | true ↦ q.air
        | false ↦ λ m i. move_like b x y p.amount (mixed r) (mixed p.to) s.gas t.gas q.fits q.fits' (q.air x hr) (q.air y hp) m (q.air m i)
      ] in
      let o = edge b owner z p.to r in
      record {
        fits = cond_both (Fits b) (eqb x y) s.gas (moved s.gas) q.fits (move-fits b x y p.amount (mixed r) (mixed p.to) s.gas q.fits);
        fits' = cond_both (Fits b) (eqb x y) t.gas (moved t.gas) q.fits' (move-fits b x y p.amount (mixed r) (mixed p.to) t.gas q.fits');
        air = go (eqb x y);
        size = alter-size o (λ v. 0f) s.weight ∙ q.size ∙ sym (alter-size o (λ v. 0f) t.weight);
        weights = λ k h. alter-like o s.weight t.weight k q.size (q.weights k h);
        logs = same-record z _ s.events t.events q.logs;
      }

  lift_like : (ks : List ℕ) (w v : List Float) (k : ℕ) → length w ≡ length v → get_or w k nan ≡ get_or v k nan → get_or (zero_lifted ks w) k nan ≡ get_or (zero_lifted ks v) k nan
  unfolding zero_lifted
  lift_like ks w v k l e =
      (run-both (λ j. Unit {0}) (λ u x. (length u ≡ length x) × (get_or u k nan ≡ get_or x k nan)) (λ j u. set u j 0f) (λ j u. set u j 0f)
      (λ j u x h q. (length-set u j 0f ∙ q.0 ∙ sym (length-set x j 0f), set-like u x j k 0f nan q.0 q.1))
      ks w v (All-any (λ j. Unit {0}) (λ j. tt) ks) (l, e)).1

  pairs_like : (r : ℕ) (s t : Done) → Alike s t → pairs b owner z r s.weight ≡ pairs b owner z r t.weight
  unfolding pairs
  pairs_like r s t q =
      map-like _ _ (edges_of b owner z r)
      (All-imp Own _ (edges_of b owner z r) (λ k own. ap (λ (x : Float). record { to = end b k; amount = x }) (q.weights k own)) (edges_own r))

  pub finish-alike : (n : ℕ) (r : ℕ) (s t : Done) → In (mix_of b r) → Alike s t → Alike (finish b owner z n r s) (finish b owner z n r t)
  unfolding finish finish_pair finish_givers total total_mix
  finish-alike zero r s t hr q = q
  finish-alike (suc n) r s t hr q =
      let es = edges_of b owner z r in
      let ps = pairs b owner z r s.weight in
      let f : ℕ → Done → Done = λ a u. finish b owner z n a u in
      let up : Done → Done = λ u. record { gas = u.gas; weight = zero_lifted es u.weight; events = u.events } in
      let there = pairs-there r s.weight in
      let upq : Alike (up s) (up t) = record {
        fits = q.fits;
        fits' = q.fits';
        air = q.air;
        size = lift_size es s.weight ∙ q.size ∙ sym (lift_size es t.weight);
        weights = λ k h. lift_like es s.weight t.weight k q.size (q.weights k h);
        logs = q.logs;
      } in
      subst (λ (qs : List Pair). Alike (run (finish_pair b owner z f r ps) (positive ps) (up s)) (run (finish_pair b owner z f r qs) (positive qs) (up t)))
      (pairs_like r s t q)
      (run-both There Alike (finish_pair b owner z f r ps) (finish_pair b owner z f r ps)
      (λ p u v hp qu. send-alike r p _ _ hr hp
      (subst
      (λ (e : Bool). Alike (run f (negative (cond (lt (sum (amounts b u.gas (mix_of b r))) p.amount) ps [])) u) (run f (negative (cond e ps [])) v))
      (ap (λ (x : List Float). lt (sum x) p.amount) (qu.air (mix_of b r) hr))
      (run-both (λ a. In (mix_of b a)) Alike f f (λ a x y ha qx. finish-alike n a x y ha qx)
      (negative (cond (lt (sum (amounts b u.gas (mix_of b r))) p.amount) ps [])) u v
      (negative-there _ (cond_both (All There) (lt (sum (amounts b u.gas (mix_of b r))) p.amount) ps [] there tt)) qu)))
      (positive ps) (up s) (up t) (positive-there ps there) upq)
