-- Stores in the work areas: links without owner, the rows of a queue one after the other. Assumes nothing.
use Prim.Native.Nat.{ℕ, suc, ◌+◌, ◌-◌, ◌≤◌, ◌<◌}
use native.Mathlib.Omega.{arith}
use native.Mathlib.Numerals.{add-one}
use mathlib.Core.Path.{◌≡◌, refl, ap, ap₂, ◌∙◌, sym}
use mathlib.Core.List.{List, [], ◌∷◌, ◌++◌, append-nil, append_assoc}
use lib.ListN.{length, get_or, set, take, drop, replicate, length-replicate, length-take, length-drop, drop_of_length-le}
use lib.Seq.{sets, sets-eq, length-sets, length-take-le, drop-drop, get_or-take, take-suc}
use Rattle.basics.specs.Loops.{run}
use Rattle.basics.specs.Regions.{cut}
use Rattle.basics.proofs.Loops.{run-append}
use Rattle.basics.proofs.Regions.{cut-set, cut-get}
use Rattle.scratch.specs.Layout.{word_sizes, queue_at, marks_at}
use Rattle.scratch.specs.View.{owner_in, queue_in}
use Rattle.fill_links.proofs.Stores.{queue_long}
use Rattle.fill_ignored.specs.Held.{give_back, pushed, GaveBack}
use Rattle.fill_ignored.specs.Asked.{Spans}

-- the middle of a list, cleared
pub emptied : (k : ℕ) (mid ys : List ℕ) → length mid ≤ k → ys ≡ replicate k 0 ++ drop k mid → ys ≡ replicate k 0
emptied k mid ys l e = e ∙ ap (λ (r : List ℕ). replicate k 0 ++ r) (drop_of_length-le mid l) ∙ append-nil (replicate k 0)

pub mid_short : (k a : ℕ) (w : List ℕ) → length (take k (drop a w)) ≤ k
mid_short k a w = omega (arith, length-take k (drop a w))

-- a part that was cleared
pub part-cleared : (w ys : List ℕ) (a k : ℕ) → a + k ≤ length w → ys ≡ replicate k 0 ++ drop k (take k (drop a w)) → take a w ++ (ys ++ drop k (drop a w)) ≡ sets w a (replicate k 0)
part-cleared w ys a k l e =
    ap (λ (r : List ℕ). take a w ++ (r ++ drop k (drop a w))) (emptied k (take k (drop a w)) ys (mid_short k a w) e)
    ∙ ap (λ (r : List ℕ). take a w ++ (replicate k 0 ++ r)) (drop-drop k a w ∙ ap (λ (j : ℕ). drop (a + j) w) (sym (length-replicate {A = ℕ} k 0)))
    ∙ sym (sets-eq (replicate k 0) w a (rw (length-replicate {A = ℕ} k 0) l) ∙ append_assoc (take a w) (replicate k 0) (drop (a + length (replicate {A = ℕ} k 0)) w))

pub row_back : (starts w ys : List ℕ) (r from to : ℕ) → from ≡ get_or starts r 0 → to ≡ get_or starts (r + 1) 0 → get_or starts r 0 ≤ get_or starts (r + 1) 0 → get_or starts (r + 1) 0 ≤ length w
    → ys ≡ replicate (to - from) 0 ++ drop (to - from) (take (to - from) (drop from w)) → take from w ++ (ys ++ drop (to - from) (drop from w)) ≡ give_back starts r w
row_back starts w ys r from to ef et h k e =
    part-cleared w ys from (to - from) (omega arith) e ∙ ap₂ (λ (x y : ℕ). sets w x (replicate (y - x) 0)) ef et

-- the same where its links were all set to 0
pub row_filled : (starts w ys : List ℕ) (r from to : ℕ) → from ≡ get_or starts r 0 → to ≡ get_or starts (r + 1) 0 → get_or starts r 0 ≤ get_or starts (r + 1) 0 → get_or starts (r + 1) 0 ≤ length w
    → ys ≡ replicate (length (take (to - from) (drop from w))) 0 → take from w ++ (ys ++ drop (to - from) (drop from w)) ≡ give_back starts r w
row_filled starts w ys r from to ef et h k e =
    let mine : List ℕ = take (to - from) (drop from w) in
    let l : length mine ≡ to - from = length-take-le (to - from) (drop from w) (omega (arith, length-drop from w)) in
    let none : drop (to - from) mine ≡ [] = drop_of_length-le mine (omega (arith, l)) in
    row_back starts w ys r from to ef et h k (rw (none, append-nil) (e ∙ ap (λ (m : ℕ). replicate m 0) l))

-- ---- the owners among the words

cut-sets : (n e : ℕ) (vs w : List ℕ) (i : ℕ) → i + length vs ≤ e → cut (word_sizes n e) (sets w i vs) ≡ set (cut (word_sizes n e) w) 0 (sets (owner_in e w) i vs)
cut-sets n e [] w i h = refl
cut-sets n e (v ∷ vs) w i h =
    cut-sets n e vs (set w i v) (suc i) (omega arith)
    ∙ ap (λ (ws : List (List ℕ)). set ws 0 (sets (get_or ws 0 []) (suc i) vs)) (cut-set (word_sizes n e) w 0 i v i (omega arith) (omega arith) (omega arith))

-- i of the rows that were pushed gave back
pub record Backing (n e : ℕ) (starts : List ℕ) (queued i : ℕ) (w w' : List ℕ) : Type 0 where
  pub done : cut (word_sizes n e) w' ≡ set (cut (word_sizes n e) w) 0 (run (give_back starts) (take i (pushed n e queued w)) (owner_in e w))
  pub long : length w' ≡ length w
  pub within : i ≤ queued

pub backing-start : (n e : ℕ) (starts : List ℕ) (queued : ℕ) (w : List ℕ) → Backing n e starts queued 0 w w
unfolding run
backing-start n e starts queued w = record { done = refl; long = refl; within = omega arith }

module _ {n e : ℕ} {starts : List ℕ} {queued i : ℕ} {w w' : List ℕ} (v : Backing n e starts queued i w w') (long : marks_at n e + n ≤ length w) (few : queued ≤ n) (l : i < queued) (at : ℕ) (ea : at ≡ queue_at n e) where
  pub back-row : get_or w' (at + i) 0 ≡ get_or (pushed n e queued w) i 0
  back-row =
      cut-get (word_sizes n e) w' 0 4 i (at + i) (omega arith) (omega arith) (omega arith)
      ∙ ap (λ (ws : List (List ℕ)). get_or (get_or ws 4 []) i 0) v.done
      ∙ sym (get_or-take queued (queue_in n e w) i 0 l)

  pub backing-next : (r : ℕ) → r ≡ get_or (pushed n e queued w) i 0 → get_or starts r 0 ≤ get_or starts (r + 1) 0 → get_or starts (r + 1) 0 ≤ e → {w'' : List ℕ} → w'' ≡ give_back starts r w' → Backing n e starts queued (i + 1) w w''
  backing-next r er rise end {w''} q =
      let rows : List ℕ = pushed n e queued w in
      let o : List ℕ = owner_in e w in
      let len : length rows ≡ queued = length-take-le queued (queue_in n e w) (omega (arith, queue_long n e w long)) in
      let one : run (give_back starts) (take (i + 1) rows) o ≡ give_back starts (get_or rows i 0) (run (give_back starts) (take i rows) o) =
      ap (λ (j : ℕ). run (give_back starts) (take j rows) o) (add-one i) ∙ ap (λ (x : List ℕ). run (give_back starts) x o) (take-suc rows i 0 (omega (arith, len))) ∙ last (take i rows) (get_or rows i 0) o in
      record {
        done = ap (cut (word_sizes n e)) q
            ∙ cut-sets n e (replicate (get_or starts (r + 1) 0 - get_or starts r 0) 0) w' (get_or starts r 0) (omega (arith, length-replicate {A = ℕ} (get_or starts (r + 1) 0 - get_or starts r 0) 0))
            ∙ ap (λ (ws : List (List ℕ)). set ws 0 (give_back starts r (get_or ws 0 []))) v.done
            ∙ ap (λ (x : ℕ). set (cut (word_sizes n e) w) 0 (give_back starts x (run (give_back starts) (take i rows) o))) er
            ∙ ap (λ (x : List ℕ). set (cut (word_sizes n e) w) 0 x) (sym one);
        long = ap length q ∙ length-sets w' (get_or starts r 0) (replicate (get_or starts (r + 1) 0 - get_or starts r 0) 0) ∙ v.long;
        within = omega arith;
      }
    where
      last : (xs : List ℕ) (x : ℕ) (o : List ℕ) → run (give_back starts) (xs ++ (x ∷ [])) o ≡ give_back starts x (run (give_back starts) xs o)
      last xs x o = unfold run in run-append (give_back starts) xs (x ∷ []) o

-- what a row that gives back is asked
pub back-asks : {n e : ℕ} {starts : List ℕ} (w : List ℕ) → Spans n e starts → marks_at n e + n ≤ length w → (r : ℕ) → r < n
    → (r + 1 < length starts) × ((get_or starts r 0 ≤ get_or starts (r + 1) 0) × (get_or starts (r + 1) 0 ≤ length w))
back-asks w p long r l = (omega (arith, p.count), (p.rise r l, omega (arith, p.end r l)))
