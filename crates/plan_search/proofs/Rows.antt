-- The links of one turf in a search: a loop over its links is a loop over its edges, and a settled turf ends it. Assumes nothing.
use Prim.Native.Nat.{ℕ, ◌+◌, ◌-◌, ◌≤◌, ◌<◌}
use native.Mathlib.Omega.{arith}
use mathlib.Core.Path.{◌≡◌, refl, ap, ◌∙◌, sym}
use mathlib.Core.List.{List}
use mathlib.Core.Bool.{Bool, true, false, cond}
use lib.Dec.{eqb}
use lib.ListN.{get_or}
use lib.Ieee.{Float, nan}
use Rattle.basics.specs.Loops.{run, up_from}
use Rattle.basics.proofs.Loops.{run-append, run-keep, run_up, run-up_end, up-append, run-still, All-any}
use Rattle.scratch.specs.Layout.{delta_at}
use Rattle.rules_board.specs.Board.{Board, links_of}
use Rattle.rules_plan.specs.Edges.{edges_of}
use Rattle.rules_plan.specs.Plan.{Seek, settled, seek_to, seek_link}
use Rattle.rules_plan.specs.declared.Side.{Side}
use Rattle.plan_state.specs.Held.{Area, area, plan_view}
use Rattle.plan_state.proofs.Stores.{frame_then, delta-at}
use Rattle.plan_trade.specs.Search.{Seeking, seek_of, Leaves, Sought, LeadsOver, KeepsMet, KeepsIdle, Passes}
use Rattle.plan_trade.specs.Steps.{along}
use Rattle.plan_trade.specs.Hands.{Unsettled, along_all, SearchGoes}
use Rattle.plan_trade.specs.declared.Hand.{Hand}
use Rattle.plan_trade.proofs.Seeks.{leaves_none, keeps-none, idle-none, idle_then, to-settled}

-- ---- in a loop: what is left to do, f, from here on comes to what the whole, f₀, comes to from the start

pub leaves-then : {n e : ℕ} {a b c : Area} → Leaves n e a b → Leaves n e b c → Leaves n e a c
leaves-then l m = record { frame = frame_then l.frame m.frame; list = m.list ∙ l.list }

pub record Onward (n e : ℕ) (f f₀ : List ℕ → Seek → Seek) (count count' : ℕ) (a a' : Area) : Type 0 where
  pub seeking : Seeking n e count' a'
  pub rest : Leaves n e a a'
  pub on : (looked : ℕ) → f (plan_view n e a).owner (seek_of (plan_view n e a') count' looked) ≡ f₀ (plan_view n e a).owner (seek_of (plan_view n e a) count looked)

pub onward-start : {n e count : ℕ} {f f₀ : List ℕ → Seek → Seek} {a : Area} → Seeking n e count a → ((o : List ℕ) (s : Seek) → f o s ≡ f₀ o s) → Onward n e f f₀ count count a a
onward-start h s = record { seeking = h; rest = leaves_none; on = λ looked. s _ _ }

pub onward-next : {n e count count' count'' : ℕ} {f f₀ : List ℕ → Seek → Seek} {a a' a'' : Area} (h f' : List ℕ → Seek → Seek) → Onward n e f f₀ count count' a a'
    → Sought n e h count' count'' a' a'' → ((o : List ℕ) (s : Seek) → f o s ≡ f' o (h o s)) → Onward n e f' f₀ count count'' a a''
onward-next {n} {e} {count' = c'} {a = a} {a' = a'} h f' b d s = record {
  seeking = d.seeking;
  rest = leaves-then b.rest d.rest;
  on = λ looked.
      ap (f' (plan_view n e a).owner) (d.same looked ∙ ap (λ (o : List ℕ). h o (seek_of (plan_view n e a') c' looked)) b.rest.frame.owner)
      ∙ sym (s _ _) ∙ b.on looked;
}

pub onward-end : {n e count count' : ℕ} {f f₀ : List ℕ → Seek → Seek} {a a' : Area} → Onward n e f f₀ count count' a a'
    → ((o : List ℕ) (looked : ℕ) → f o (seek_of (plan_view n e a') count' looked) ≡ seek_of (plan_view n e a') count' looked) → Sought n e f₀ count count' a a'
onward-end b s = record { seeking = b.seeking; rest = b.rest; same = λ looked. sym (s _ looked) ∙ b.on looked }

-- a step by another name
pub sought-as : {n e count count' : ℕ} {f f' : List ℕ → Seek → Seek} {a a' : Area} → Sought n e f count count' a a' → ((o : List ℕ) (s : Seek) → f o s ≡ f' o s)
    → Sought n e f' count count' a a'
sought-as d s = record { seeking = d.seeking; rest = d.rest; same = λ looked. d.same looked ∙ s _ _ }

-- links among others
pub keeps-within : {n e z r from to i j : ℕ} {neighbours : List ℕ} {c c' : ℕ} {A B : Area} → from ≤ i → j ≤ to → KeepsMet n e z r i j neighbours c c' A B → KeepsMet n e z r from to neighbours c c' A B
keeps-within h l k = record { keeps = λ starts t m. k.keeps starts (λ x y u. t x (omega (arith, h, y)) (omega (arith, l, u))) m }

pub keeps_then : {n e z r from to : ℕ} {neighbours : List ℕ} {c c' c'' : ℕ} {A B C : Area} → KeepsMet n e z r from to neighbours c c' A B → KeepsMet n e z r from to neighbours c' c'' B C
    → KeepsMet n e z r from to neighbours c c'' A C
keeps_then k l = record { keeps = λ starts t m. l.keeps starts t (k.keeps starts t m) }

-- a loop over the numbers from i up to e, by way of j
pub run-between : {S : Type 0} (f : ℕ → S → S) (i j e : ℕ) (s : S) → i ≤ j → j ≤ e → run f (up_from i (e - i)) s ≡ run f (up_from j (e - j)) (run f (up_from i (j - i)) s)
run-between f i j e s h l =
    let k : e - i ≡ (j - i) + (e - j) = omega arith in
    let q : i + (j - i) ≡ j = omega arith in
    ap (λ (m : ℕ). run f (up_from i m) s) k
    ∙ ap (λ (xs : List ℕ). run f xs s) (up-append i (j - i) (e - j))
    ∙ run-append f (up_from i (j - i)) (up_from (i + (j - i)) (e - j)) s
    ∙ ap (λ (m : ℕ). run f (up_from m (e - j)) (run f (up_from i (j - i)) s)) q

-- ---- the loop over a row's links: those from i on are left, and the turf in hand isn't settled

pub record Row (h : Hand) (r from to : ℕ) (neighbours : List ℕ) (count first c f i : ℕ) (a a' : Area) : Type 0 where
  pub on : Onward h.layout.turfs h.layout.links (along_all h r neighbours i to) (along_all h r neighbours from to) count c a a'
  pub met : KeepsMet h.layout.turfs h.layout.links h.z r from to neighbours count c a a'
  pub idle : KeepsIdle h.layout.turfs h.layout.links count first c f a a'
  pub unsettled : Unsettled h a'

module _ {h : Hand} {r from to : ℕ} {neighbours : List ℕ} where
  pub row-start : {count first : ℕ} {A : Area} → Seeking h.layout.turfs h.layout.links count A → Unsettled h A → Row h r from to neighbours count first count first from A A
  row-start s t = record { on = onward-start s (λ o u. refl); met = keeps-none; idle = idle-none; unsettled = t }

  -- the links up to j, with nothing to trade
  pub row-passes : {count first c c' f i j : ℕ} {A B C : Area} → Row h r from to neighbours count first c f i A B → h.g < h.layout.turfs → from ≤ i → i ≤ j → j ≤ to
      → Passes h.side h.layout.turfs h.layout.links (λ b o s. run (along h.side b r neighbours h.z o) (up_from i (j - i)) s) h.z r i to neighbours c c' B C
      → Row h r from to neighbours count first c' f j A C
  row-passes {i = i} {j = j} t hg k l m p = record {
    on = onward-next _ _ t.on (p.sought h.g hg t.unsettled) (λ o s. run-between (along h.side h.g r neighbours h.z o) i j to s l m);
    met = keeps_then t.met (keeps-within k (omega arith) p.met);
    idle = idle_then t.idle (p.idle _);
    unsettled = ap (settled h.side) (p.deltas h.g hg) ∙ t.unsettled;
  }

  -- one link
  pub row_next : {count first c c' f f' i : ℕ} {A B C : Area} → Row h r from to neighbours count first c f i A B → from ≤ i → i < to
      → SearchGoes h r i (i + 1) neighbours (λ o s. along h.side h.g r neighbours h.z o i s) c f c' f' B C → Unsettled h C → Row h r from to neighbours count first c' f' (i + 1) A C
  row_next {i = i} t k l d u = record {
    on = onward-next _ _ t.on d.sought (λ o s. run_up (along h.side h.g r neighbours h.z o) i to s l);
    met = keeps_then t.met (keeps-within k (omega arith) d.met);
    idle = idle_then t.idle d.idle;
    unsettled = u;
  }

  -- no link is left
  pub row-end : {count first c f i : ℕ} {A B : Area} → Row h r from to neighbours count first c f i A B → to ≤ i
      → SearchGoes h r from to neighbours (along_all h r neighbours from to) count first c f A B
  row-end t l = record { sought = onward-end t.on (λ o looked. run-up_end _ _ _ _ l); met = t.met; idle = t.idle }

-- ---- a settled turf

along-settled : (side : Side) (g r : ℕ) (neighbours : List ℕ) (z n e count : ℕ) (w : List ℕ) (f : List Float) → g < n → settled side (get_or f (delta_at g e) nan) ≡ true
    → (xs o : List ℕ) (looked : ℕ) → run (along side g r neighbours z o) xs (seek_of (plan_view n e (area w f)) count looked) ≡ seek_of (plan_view n e (area w f)) count looked
unfolding along
along-settled side g r neighbours z n e count w f hg t xs o looked =
    run-still (along side g r neighbours z o) xs s (All-any _ (λ k. pick (eqb (get_or o k 0) (z + 1)) (get_or neighbours k 0)) xs)
  where
    s : Seek
    s = seek_of (plan_view n e (area w f)) count looked

    pick : (b : Bool) (a : ℕ) → cond b (seek_to side g r a (seek_of (plan_view n e (area w f)) count looked)) (seek_of (plan_view n e (area w f)) count looked) ≡ seek_of (plan_view n e (area w f)) count looked
    pick true a = sym (to-settled side g r a (seek_of (plan_view n e (area w f)) count looked) (rw (delta-at n e g w f hg) at t))
    pick false a = refl

-- a link that settles the turf in hand ends the row
pub row_settled : {h : Hand} {r from to : ℕ} {neighbours : List ℕ} {count first c c' f f' i : ℕ} {A B : Area} (w : List ℕ) (fs : List Float) → Row h r from to neighbours count first c f i A B → from ≤ i → i < to
    → SearchGoes h r i (i + 1) neighbours (λ o s. along h.side h.g r neighbours h.z o i s) c f c' f' B (area w fs) → h.g < h.layout.turfs
    → settled h.side (get_or fs (delta_at h.g h.layout.links) nan) ≡ true → SearchGoes h r from to neighbours (along_all h r neighbours from to) count first c' f' A (area w fs)
row_settled {h} {r} {from} {to} {neighbours} {c' = c'} {i = i} w fs t k l d hg u = record {
  sought = onward-end {f = along_all h r neighbours (i + 1) to}
      (onward-next _ (along_all h r neighbours (i + 1) to) t.on d.sought (λ o s. run_up (along h.side h.g r neighbours h.z o) i to s l))
      (λ o looked. along-settled h.side h.g r neighbours h.z h.layout.turfs h.layout.links c' w fs hg u (up_from (i + 1) (to - (i + 1))) o looked);
  met = keeps_then t.met (keeps-within k (omega arith) d.met);
  idle = idle_then t.idle d.idle;
}

-- ---- all links of a turf

-- a loop over them is a loop over the turf's edges
pub links-are : (b : Board) (z : ℕ) (side : Side) (g r : ℕ) (o : List ℕ) (s : Seek)
    → run (along side g r b.neighbours z o) (up_from (get_or b.starts r 0) (get_or b.starts (r + 1) 0 - get_or b.starts r 0)) s ≡ run (seek_link b o z side g r) (edges_of b o z r) s
unfolding along seek_link edges_of links_of
links-are b z side g r o s = sym (run-keep (λ k. eqb (get_or o k 0) (z + 1)) (λ k u. seek_to side g r (get_or b.neighbours k 0) u) (links_of b r) s)

-- each of them leads from the turf
pub links-lead : {n : ℕ} {starts neighbours : List ℕ} {r : ℕ} → r < n → (k : ℕ) → get_or starts r 0 ≤ k → k < get_or starts (r + 1) 0 → LeadsOver n starts neighbours r k (get_or neighbours k 0)
links-lead h k l m = record { row = h; link = record { from = l; to = m }; ends = refl }
