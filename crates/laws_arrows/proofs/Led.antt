-- The order outward: each of its turfs is space, without a direction, or points at one that joined before it and has a link to it. Assumes nothing.
use mathlib.Core.Path.{◌≡◌, sym, ap, ◌∙◌, subst}
use mathlib.Core.Logic.{◌≢◌, ◌⊎◌, inl, inr}
use mathlib.Core.List.{List, [], ◌∷◌}
use mathlib.Core.Bool.{false}
use Prim.Native.Nat.{ℕ, ◌+◌, ◌<◌}
use native.Mathlib.Decide.{dec_lt}
use native.Mathlib.Omega.{arith}
use lib.Dec.{T}
use lib.ListN.{length, get_or, set, length-append, length-set, length-replicate, get_or-append}
use lib.Seq.{get_or-set_same, get_or-set_other, get_or_at}
use Rattle.basics.specs.Loops.{member, snoc}
use Rattle.basics.specs.Lists.{All}
use Rattle.basics.proofs.Loops.{All-get_or}
use Rattle.basics.proofs.Lists.{not_member, replicate-at}
use Rattle.rules_board.specs.Board.{Board, turf_count, end, immutable, links_of}
use Rattle.turfs.specs.Tables.{Accepted}
use Rattle.rules_events.specs.declared.Event.{Event}
use Rattle.rules_out.specs.Out.{Out, out_to, outward}
use Rattle.laws_depressurize.proofs.Outward.{outward-keeps}

module _ (b : Board) where
  -- the turf at the place i of the order points at the one at the place `to`, which has a link to it
  pub record Pointed (order direction : List ℕ) (i : ℕ) : Type 0 where
    pub to : ℕ
    pub before : to < i
    pub aims : get_or direction (get_or order i 0) 0 ≡ get_or order to 0 + 1
    pub link : ℕ
    pub own : T (member link (links_of b (get_or order to 0)))
    pub ends : end b link ≡ get_or order i 0

  -- or it is space
  abbrev pub Aims : List ℕ → List ℕ → ℕ → Type 0
  Aims order direction i = (T (immutable b (get_or order i 0)) × (get_or direction (get_or order i 0) 0 ≡ 0)) ⊎ Pointed order direction i

  pub record Led (s : Out) : Type 0 where
    pub sized : length s.direction ≡ turf_count b
    pub aims : (i : ℕ) → i < length s.order → Aims s.order s.direction i

module _ (b : Board) {n : ℕ} (h : Accepted b n) (limit : ℕ) where
  joined : (s : Out) (p k : ℕ) → p < length s.order → T (member k (links_of b (get_or s.order p 0))) → member (end b k) s.order ≡ false → Led b s → Led b (out_to b (get_or s.order p 0) (end b k) s)
  unfolding out_to
  joined s p k inside own e q = record {
    sized = length-set s.direction a (get_or s.order p 0 + 1) ∙ q.sized;
    aims = λ i l. go i l (dec_lt i (length s.order));
  }
    where
      a : ℕ
      a = end b k

      order : List ℕ
      order = snoc s.order a

      direction : List ℕ
      direction = set s.direction a (get_or s.order p 0 + 1)

      front : (i : ℕ) → i < length s.order → get_or order i 0 ≡ get_or s.order i 0
      front i l = get_or-append s.order (a ∷ []) 0 i l

      -- the turf at a place as before has the direction as before
      still : (i : ℕ) → i < length s.order → get_or direction (get_or order i 0) 0 ≡ get_or s.direction (get_or s.order i 0) 0
      still i l = ap (λ (x : ℕ). get_or direction x 0) (front i l) ∙ get_or-set_other s.direction a (get_or s.order i 0) (get_or s.order p 0 + 1) 0 (All-get_or (λ y. y ≢ a) s.order i 0 (not_member a s.order e) l)

      before : (i : ℕ) → i < length s.order → Aims b s.order s.direction i → Aims b order direction i
      before i l (inl u) = inl (subst (λ (x : ℕ). T (immutable b x)) (sym (front i l)) u.0, still i l ∙ u.1)
      before i l (inr u) =
          let m = u.before in
          let f = sym (front u.to (omega arith)) in
          inr (record {
            to = u.to;
            before = m;
            aims = still i l ∙ u.aims ∙ ap (λ (x : ℕ). x + 1) f;
            link = u.link;
            own = subst (λ (x : ℕ). T (member u.link (links_of b x))) f u.own;
            ends = u.ends ∙ sym (front i l);
          })

      go : (i : ℕ) → i < length order → Dec (i < length s.order) → Aims b order direction i
      go i l (yes m) = before i m (q.aims i m)
      go i l (no m) =
          let z : length s.order ≡ i = omega (arith, length-append s.order (a ∷ [])) in
          let c : a < length s.direction = omega (arith, h.ends k, q.sized) in
          let at = get_or_at s.order a [] 0 i z in
          let f = sym (front p inside) in
          inr (record {
            to = p;
            before = omega arith;
            aims = ap (λ (x : ℕ). get_or direction x 0) at ∙ get_or-set_same s.direction a (get_or s.order p 0 + 1) 0 c ∙ ap (λ (x : ℕ). x + 1) f;
            link = k;
            own = subst (λ (x : ℕ). T (member k (links_of b x))) f own;
            ends = sym at;
          })

  pub outward-led : (space : List ℕ) (es : List Event) → All (λ r. T (immutable b r)) space → Led b (outward b limit space es)
  outward-led space es q = outward-keeps b limit (Led b) (λ s i. record { sized = i.sized; aims = i.aims }) joined space es (record {
    sized = length-replicate (turf_count b) 0;
    aims = λ i l. inl (All-get_or (λ r. T (immutable b r)) space i 0 q l, replicate-at {A = ℕ} (turf_count b) (get_or space i 0) 0);
  })
