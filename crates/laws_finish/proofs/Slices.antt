-- Finishing as code does it, with the lifted weights in a second slice that all turfs share, comes to what `finish` says. A turf with no positive weight
-- only has its weights set to 0, so no call writes over lifted weights that are still in use; no mark of finished turfs is needed. Assumes nothing.
use mathlib.Core.Path.{◌≡◌, refl, sym, ap, ◌∙◌, subst}
use mathlib.Core.Logic.{◌⊎◌, inl, inr}
use mathlib.Core.List.{List, [], ◌∷◌, map}
use mathlib.Core.Bool.{Bool, true, false, not, cond}
use Prim.Native.Nat.{ℕ, zero, suc, ◌<◌}
use native.Mathlib.Decide.{ℕ_discrete, dec_lt}
use native.Mathlib.Omega.{arith}
use lib.Dec.{T, eqb, eqb→eq, eqb_refl}
use lib.ListN.{length, get_or, set, length-set, get_or-eq_default}
use lib.Seq.{get_or-set_same, get_or-set_other, set_out}
use lib.Ieee.{Float, nan, lt}
use Rattle.basics.specs.Loops.{run, keep, member}
use Rattle.basics.specs.Floats.{0f}
use Rattle.basics.specs.Lists.{All}
use Rattle.basics.proofs.Loops.{All-any, All-imp, All-map, run-keeps, run-both, run-keep, run-map, every-all, cond_both}
use Rattle.basics.proofs.Lists.{All-keep, members, member-has, or_left, or_right, or_cases, all-every, keep-none}
use Rattle.basics.proofs.Tests.{not_of}
use Rattle.rules_board.specs.Board.{Board, end, links_of}
use Rattle.turfs.specs.Tables.{Accepted, source}
use Rattle.turfs.proofs.Accepted.{sources}
use Rattle.rules_mixture.specs.Mixture.{total}
use Rattle.rules_plan.specs.Edges.{owned, edges_of, edge}
use Rattle.laws_plan.proofs.Sizes.{alter-size}
use Rattle.rules_finish.specs.Finish.{Done, Pair, positive, negative, pairs, finish_givers, send, finish_pair, finish}
use Rattle.rules_finish.specs.Lifted.{Held, save, quiet, cleared, givers_held, send_held, pair_held, finish_held, above}
use Rattle.laws_finish.proofs.Weights.{lift_size, Below, lift_below, alter-below, lift_zero}

pub save-other : (ks : List ℕ) (w l : List Float) (k : ℕ) → (T (member k ks) → ⊥) → get_or (save ks w l) k nan ≡ get_or l k nan
unfolding save run member
save-other [] w l k h = refl
save-other (j ∷ ks) w l k h =
    save-other ks w (set l j (get_or w j nan)) k (λ m. h (or_right (eqb k j) (member k ks) m))
    ∙ get_or-set_other l j k (get_or w j nan) nan (λ e. h (or_left (eqb k j) (member k ks) (subst (λ (x : ℕ). T (eqb k x)) e (eqb_refl k))))

save-kept : (ks : List ℕ) (w l : List Float) (k : ℕ) → get_or l k nan ≡ get_or w k nan → get_or (save ks w l) k nan ≡ get_or w k nan
unfolding save
save-kept ks w l k h = run-keeps (λ j. Unit {0}) (λ v. get_or v k nan ≡ get_or w k nan) (λ j v. set v j (get_or w j nan)) (λ j v u e. one j v e) ks l (All-any _ (λ j. tt) ks) h
  where
    one : (j : ℕ) (v : List Float) → get_or v k nan ≡ get_or w k nan → get_or (set v j (get_or w j nan)) k nan ≡ get_or w k nan
    one j v e = go (ℕ_discrete k j) (dec_lt j (length v))
      where
        go : Dec (k ≡ j) → Dec (j < length v) → get_or (set v j (get_or w j nan)) k nan ≡ get_or w k nan
        go (no ne) l' = get_or-set_other v j k (get_or w j nan) nan ne ∙ e
        go (yes i) (yes l') = ap (λ (x : ℕ). get_or (set v j (get_or w j nan)) x nan) i ∙ get_or-set_same v j (get_or w j nan) nan l' ∙ ap (λ (x : ℕ). get_or w x nan) (sym i)
        go (yes i) (no l') = ap (λ (u : List Float). get_or u k nan) (set_out v j (get_or w j nan) (omega arith)) ∙ e

pub save-here : (ks : List ℕ) (w l : List Float) (k : ℕ) → length l ≡ length w → T (member k ks) → get_or (save ks w l) k nan ≡ get_or w k nan
unfolding save run member
save-here [] w l k e m = absurd m
save-here (j ∷ ks) w l k e m = go (or_cases (eqb k j) (member k ks) m) (λ n. save-here ks w (set l j (get_or w j nan)) k (length-set l j (get_or w j nan) ∙ e) n)
  where
    go : T (eqb k j) ⊎ T (member k ks) → (T (member k ks) → get_or (save ks w (set l j (get_or w j nan))) k nan ≡ get_or w k nan) → get_or (save ks w (set l j (get_or w j nan))) k nan ≡ get_or w k nan
    go (inr n) ih = ih n
    go (inl i) ih = save-kept ks w (set l j (get_or w j nan)) k (pick (dec_lt j (length l)))
      where
        q : k ≡ j
        q = eqb→eq k j i

        pick : Dec (j < length l) → get_or (set l j (get_or w j nan)) k nan ≡ get_or w k nan
        pick (yes t) = ap (λ (x : ℕ). get_or (set l j (get_or w j nan)) x nan) q ∙ get_or-set_same l j (get_or w j nan) nan t ∙ ap (λ (x : ℕ). get_or w x nan) (sym q)
        pick (no t) =
            get_or-eq_default (set l j (get_or w j nan)) nan {n = k} (omega (arith, q, length-set l j (get_or w j nan)))
            ∙ sym (get_or-eq_default w nan {n = k} (omega (arith, q, e)))

-- what a send keeps, the givers and an edge keep where what finishes a giver does
module _ (b : Board) (owner : List ℕ) (z : ℕ) (Q : Held → Type 0) (sends : (r k : ℕ) (x : Float) (g : Held) → Q g → Q (send_held b owner z r k x g)) (f : ℕ → Held → Held) (i : (a : ℕ) (h : Held) → Q h → Q (f a h)) where
  pub givers_keep : (r : ℕ) (h : Held) → Q h → Q (givers_held b owner z f r h)
  unfolding givers_held
  givers_keep r h q = run-keeps (λ j. Unit {0}) Q _ (λ j g u e. cond_both Q (lt (get_or g.lifted j nan) 0f) (f (end b j) g) g (i (end b j) g e) e)
      (edges_of b owner z r) h (All-any _ (λ j. tt) (edges_of b owner z r)) q

  pub pair_keeps : (r k : ℕ) (h : Held) → Q h → Q (pair_held b owner z f r k h)
  unfolding pair_held
  pair_keeps r k h q =
      let x = get_or h.lifted k nan in
      let t = lt (total b h.done.gas r) x in
      let g = cond t (givers_held b owner z f r h) h in
      cond_both Q (above x) (send_held b owner z r k x g) h (sends r k x g (cond_both Q t (givers_held b owner z f r h) h (givers_keep r h q) q)) q

-- ---- a turf with no positive weight

no_false : (t : Bool) → T (not t) → t ≡ false
no_false true h = absurd h
no_false false h = refl

module _ (b : Board) (owner : List ℕ) (z r : ℕ) (w : List Float) where
  pub quiet_is : T (quiet b owner z r w) → (k : ℕ) → T (member k (edges_of b owner z r)) → above (get_or w k nan) ≡ false
  unfolding quiet
  quiet_is t k m = no_false (above (get_or w k nan))
      (member-has (λ j. T (not (above (get_or w j nan)))) k (edges_of b owner z r) (every-all (λ j. not (above (get_or w j nan))) (edges_of b owner z r) t) m)

  pub is_quiet : ((k : ℕ) → T (member k (edges_of b owner z r)) → above (get_or w k nan) ≡ false) → T (quiet b owner z r w)
  unfolding quiet
  is_quiet h = all-every (λ j. not (above (get_or w j nan))) (edges_of b owner z r)
      (All-imp (λ j. T (member j (edges_of b owner z r))) (λ j. T (not (above (get_or w j nan)))) (edges_of b owner z r) (λ j m. not_of (above (get_or w j nan)) (h j m)) (members (edges_of b owner z r)))

-- ---- the theorem

-- a link leaves one turf
module _ (b : Board) (owner : List ℕ) (z : ℕ) (src : ℕ → ℕ) (srcs : (r : ℕ) → All (λ k. src k ≡ r) (edges_of b owner z r)) where
  abbrev pub Mine : ℕ → ℕ → Type 0
  Mine r k = T (member k (edges_of b owner z r))

  abbrev pub Quiet : ℕ → List Float → Type 0
  Quiet r w = (k : ℕ) → Mine r k → above (get_or w k nan) ≡ false

  pub one-row : (r r' k : ℕ) → Mine r k → Mine r' k → r ≡ r'
  one-row r r' k m m' = sym (member-has (λ j. src j ≡ r) k (edges_of b owner z r) (srcs r) m) ∙ member-has (λ j. src j ≡ r') k (edges_of b owner z r') (srcs r') m'

  -- the weights went down from w₀, and the link K has the lifted weight c
  pub record Holds (K : ℕ) (w₀ : List Float) (c : Float) (h : Held) : Type 0 where
    pub below : Below h.done.weight w₀
    pub kept : get_or h.lifted K nan ≡ c

  -- a link whose turf has no positive weight keeps its lifted weight
  module _ (K : ℕ) (w₀ : List Float) (c : Float) (safe : (r : ℕ) → Mine r K → Quiet r w₀) where
    abbrev H : Held → Type 0
    H h = Holds K w₀ c h

    send-holds : (r k : ℕ) (x : Float) (g : Held) → H g → H (send_held b owner z r k x g)
    unfolding send
    send-holds r k x g e = record { below = alter-below (edge b owner z (end b k) r) g.done.weight w₀ e.below; kept = e.kept }

    pub finish-holds : (n r : ℕ) (h : Held) → H h → H (finish_held b owner z n r h)
    unfolding finish_held
    finish-holds zero r h q = q
    finish-holds (suc n) r h q = go (quiet b owner z r h.done.weight) refl (λ a g e. finish-holds n a g e)
      where
        es : List ℕ
        es = edges_of b owner z r

        loud : quiet b owner z r h.done.weight ≡ false → T (member K es) → ⊥
        loud e m = subst T e (is_quiet b owner z r h.done.weight (λ k i. q.below k (safe r m k i)))

        go : (t : Bool) → quiet b owner z r h.done.weight ≡ t → ((a : ℕ) (g : Held) → H g → H (finish_held b owner z n a g))
            → H (cond t (record { done = cleared b owner z r h.done; lifted = h.lifted })
            (run (pair_held b owner z (λ a g. finish_held b owner z n a g) r) es (record { done = cleared b owner z r h.done; lifted = save es h.done.weight h.lifted })))
        go true e ih = record { below = lift_below es h.done.weight w₀ q.below; kept = q.kept }
        go false e ih = run-keeps (λ k. Unit {0}) H (pair_held b owner z (λ a g. finish_held b owner z n a g) r) (λ k g u i. pair_keeps b owner z H send-holds (λ a g'. finish_held b owner z n a g') ih r k g i) es _
            (All-any _ (λ k. tt) es) (record { below = lift_below es h.done.weight w₀ q.below; kept = save-other es h.done.weight h.lifted K (loud e) ∙ q.kept })

  -- ---- sizes

  abbrev Sized : ℕ → Held → Type 0
  Sized e h = (length h.lifted ≡ e) × (length h.done.weight ≡ e)

  save-size : (ks : List ℕ) (w l : List Float) (e : ℕ) → length l ≡ e → length (save ks w l) ≡ e
  unfolding save
  save-size ks w l e h = run-keeps (λ k. Unit {0}) (λ v. length v ≡ e) (λ k v. set v k (get_or w k nan)) (λ k v u i. length-set v k (get_or w k nan) ∙ i) ks l (All-any _ (λ k. tt) ks) h

  send-sized : (e r k : ℕ) (x : Float) (g : Held) → Sized e g → Sized e (send_held b owner z r k x g)
  unfolding send
  send-sized e r k x g s = (s.0, alter-size (edge b owner z (end b k) r) (λ y. 0f) g.done.weight ∙ s.1)

  finish-sized : (e n r : ℕ) (h : Held) → Sized e h → Sized e (finish_held b owner z n r h)
  unfolding finish_held
  finish-sized e zero r h q = q
  finish-sized e (suc n) r h q =
      let es = edges_of b owner z r in
      let up : Held = record { done = cleared b owner z r h.done; lifted = save es h.done.weight h.lifted } in
      cond_both (Sized e) (quiet b owner z r h.done.weight) (record { done = cleared b owner z r h.done; lifted = h.lifted }) (run (pair_held b owner z (λ a g. finish_held b owner z n a g) r) es up)
      (q.0, lift_size es h.done.weight ∙ q.1)
      (run-keeps (λ k. Unit {0}) (Sized e) (pair_held b owner z (λ a g. finish_held b owner z n a g) r) (λ k g u i. pair_keeps b owner z (Sized e) (send-sized e) (λ a g'. finish_held b owner z n a g') (λ a g' j. finish-sized e n a g' j) r k g i)
      es up (All-any _ (λ k. tt) es) (save-size es h.done.weight h.lifted e q.0, lift_size es h.done.weight ∙ q.1))

  -- ---- the two agree

  module _ (r : ℕ) (w : List Float) (e : ℕ) where
    abbrev es : List ℕ
    es = edges_of b owner z r

    abbrev pair : ℕ → Pair
    pair k = record { to = end b k; amount = get_or w k nan }

    abbrev ps : List Pair
    ps = map pair es

    -- midway through the turf r, whose weights were w: its lifted weights stand, and it has no positive weight left
    record Midway (g : Held) (t : Done) : Type 0 where
      agree : g.done ≡ t
      stand : (k : ℕ) → Mine r k → get_or g.lifted k nan ≡ get_or w k nan
      still : Quiet r g.done.weight
      sized : Sized e g

    cond-midway : (c : Bool) (g g' : Held) (t t' : Done) → Midway g t → Midway g' t' → Midway (cond c g g') (cond c t t')
    cond-midway true g g' t t' a d = a
    cond-midway false g g' t t' a d = d

    module _ (n : ℕ) (same : (a : ℕ) (h : Held) → Sized e h → (finish_held b owner z n a h).done ≡ finish b owner z n a h.done) where
      abbrev f : ℕ → Held → Held
      f a h = finish_held b owner z n a h

      abbrev f' : ℕ → Done → Done
      f' a t = finish b owner z n a t

      call : (a : ℕ) (g : Held) (t : Done) → Midway g t → Midway (f a g) (f' a t)
      call a g t q = record {
        agree = same a g q.sized ∙ ap (f' a) q.agree;
        stand = λ k m. (held k m).kept ∙ q.stand k m;
        still = λ k m. (held k m).below k (q.still k m);
        sized = finish-sized e n a g q.sized;
      }
        where
          held : (k : ℕ) → Mine r k → Holds k g.done.weight (get_or g.lifted k nan) (f a g)
          held k m = finish-holds k g.done.weight (get_or g.lifted k nan) (λ r' m' j i. q.still j (subst (λ (x : ℕ). Mine x j) (one-row r' r k m' m) i)) n a g
              (record { below = λ j i. i; kept = refl })

      givers_midway : (g : Held) (t : Done) → Midway g t → Midway (givers_held b owner z f r g) (run f' (negative ps) t)
      unfolding givers_held
      givers_midway g t q =
          subst (Midway (givers_held b owner z f r g))
          (sym (run-map (λ p. p.to) f' (keep (λ p. lt p.amount 0f) ps) t ∙ run-keep (λ p. lt p.amount 0f) (λ p u. f' p.to u) ps t
          ∙ run-map pair (λ p u. cond (lt p.amount 0f) (f' p.to u) u) es t))
          (run-both (Mine r) Midway (λ j u. cond (lt (get_or u.lifted j nan) 0f) (f (end b j) u) u) (λ j u. cond (lt (get_or w j nan) 0f) (f' (end b j) u) u)
          (λ j u v m i. subst (λ (x : Float). Midway (cond (lt x 0f) (f (end b j) u) u) (cond (lt (get_or w j nan) 0f) (f' (end b j) v) v)) (sym (i.stand j m))
          (cond-midway (lt (get_or w j nan) 0f) (f (end b j) u) u (f' (end b j) v) v (call (end b j) u v i) i))
          es g t (members es) q)

      send-midway : (k : ℕ) (g : Held) (t : Done) → Midway g t → Midway (send_held b owner z r k (get_or w k nan) g) (send b owner z r (pair k) t)
      unfolding send
      send-midway k g t q = record {
        agree = ap (send b owner z r (pair k)) q.agree;
        stand = q.stand;
        still = λ j m. alter-below (edge b owner z (end b k) r) g.done.weight g.done.weight (λ i h. h) j (q.still j m);
        sized = (q.sized.0, alter-size (edge b owner z (end b k) r) (λ x. 0f) g.done.weight ∙ q.sized.1);
      }

      pair_midway : (k : ℕ) (g : Held) (t : Done) → Mine r k → Midway g t → Midway (pair_held b owner z f r k g) (cond (above (get_or w k nan)) (finish_pair b owner z f' r ps (pair k) t) t)
      unfolding pair_held finish_pair finish_givers
      pair_midway k g t m q =
          subst (λ (x : Float). Midway (cond (above x) (send_held b owner z r k x (cond (lt (total b g.done.gas r) x) (givers_held b owner z f r g) g)) g) (cond (above (get_or w k nan)) (finish_pair b owner z f' r ps (pair k) t) t))
          (sym (q.stand k m))
          (cond-midway (above (get_or w k nan)) (send_held b owner z r k (get_or w k nan) (cond (lt (total b g.done.gas r) (get_or w k nan)) (givers_held b owner z f r g) g)) g
          (finish_pair b owner z f' r ps (pair k) t) t
          (send-midway k (cond (lt (total b g.done.gas r) (get_or w k nan)) (givers_held b owner z f r g) g) (run f' (negative (cond (lt (total b t.gas r) (get_or w k nan)) ps [])) t)
          (subst (λ (d : Done). Midway (cond (lt (total b g.done.gas r) (get_or w k nan)) (givers_held b owner z f r g) g) (run f' (negative (cond (lt (total b d.gas r) (get_or w k nan)) ps [])) t)) q.agree
          (short (lt (total b g.done.gas r) (get_or w k nan)))))
          q)
        where
          short : (c : Bool) → Midway (cond c (givers_held b owner z f r g) g) (run f' (negative (cond c ps [])) t)
          short true = givers_midway g t q
          short false = unfold run keep in q

  -- Finishing with the lifted weights in a slice is finishing.
  pub same-done : (n r : ℕ) (h : Held) (e : ℕ) → Sized e h → (finish_held b owner z n r h).done ≡ finish b owner z n r h.done
  unfolding finish_held finish pairs run
  same-done zero r h e q = refl
  same-done (suc n) r h e q = go (quiet b owner z r h.done.weight) refl (λ a g s. same-done n a g e s)
    where
      w : List Float
      w = h.done.weight

      up : Held
      up = record { done = cleared b owner z r h.done; lifted = save (es r w e) w h.lifted }

      goal : Done
      goal = run (finish_pair b owner z (λ a t. finish b owner z n a t) r (ps r w e)) (positive (ps r w e)) (cleared b owner z r h.done)

      none : Quiet r w → All (λ p. above p.amount ≡ false) (ps r w e)
      none u = All-map (λ p. above p.amount ≡ false) (pair r w e) (es r w e) (All-imp (Mine r) _ (es r w e) (λ k m. u k m) (members (es r w e)))

      go : (t : Bool) → quiet b owner z r w ≡ t → ((a : ℕ) (g : Held) → Sized e g → (finish_held b owner z n a g).done ≡ finish b owner z n a g.done)
          → (cond t (record { done = cleared b owner z r h.done; lifted = h.lifted }) (run (pair_held b owner z (λ a g. finish_held b owner z n a g) r) (es r w e) up)).done ≡ goal
      go true t ih =
          ap (λ (qs : List Pair). run (finish_pair b owner z (λ a u. finish b owner z n a u) r (ps r w e)) qs (cleared b owner z r h.done))
          (sym (keep-none (λ p. above p.amount) (ps r w e) (none (quiet_is b owner z r w (subst T (sym t) tt)))))
      go false t ih =
          (run-both (Mine r) (Midway r w e) (pair_held b owner z (λ a g. finish_held b owner z n a g) r) (λ k u. cond (above (get_or w k nan)) (finish_pair b owner z (λ a t'. finish b owner z n a t') r (ps r w e) (pair r w e k) u) u)
          (λ k g u m i. pair_midway r w e n ih k g u m i) (es r w e) up (cleared b owner z r h.done) (members (es r w e))
          (record {
            agree = refl;
            stand = λ k m. save-here (es r w e) w h.lifted k (q.0 ∙ sym q.1) m;
            still = λ k m. lift_zero (es r w e) w k m;
            sized = (save-size (es r w e) w h.lifted e q.0, lift_size (es r w e) w ∙ q.1);
          })).agree
          ∙ sym (run-keep (λ p. above p.amount) (finish_pair b owner z (λ a t'. finish b owner z n a t') r (ps r w e)) (ps r w e) (cleared b owner z r h.done)
          ∙ run-map (pair r w e) (λ p u. cond (above p.amount) (finish_pair b owner z (λ a t'. finish b owner z n a t') r (ps r w e) p u) u) (es r w e) (cleared b owner z r h.done))

-- The same on an accepted board, whose links are of one turf each.
pub held-done : (b : Board) {g : ℕ} → Accepted b g → (owner : List ℕ) (z n r : ℕ) (h : Held) → length h.lifted ≡ length h.done.weight
    → (finish_held b owner z n r h).done ≡ finish b owner z n r h.done
held-done b a owner z n r h e =
    same-done b owner z (source b.starts) (λ q. unfold edges_of in All-keep (λ k. source b.starts k ≡ q) (owned b owner z) (links_of b q) (sources b a q)) n r h (length h.done.weight) (e, refl)
