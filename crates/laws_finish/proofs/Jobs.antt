-- Any two lists of jobs that give each zone the same turfs in the same order come to the same gas, records of each zone and other
-- records: seen by a zone, the run of all the jobs is the run of its own. Assumes nothing.
use mathlib.Core.Path.{◌≡◌, refl, sym, ap, ◌∙◌, subst}
use mathlib.Core.Logic.{◌≢◌, ◌⊎◌, inl, inr}
use mathlib.Core.List.{List, [], ◌∷◌, map}
use Prim.Native.Nat.{ℕ, zero, suc, ◌+◌, ◌*◌, ◌/◌, ◌%◌, ◌<◌}
use native.Mathlib.Nat.{mod-lt, div-add-mod'}
use native.Mathlib.Decide.{ℕ_discrete}
use native.Mathlib.Omega.{arith}
use lib.Dec.{T, eqb}
use lib.ListN.{get_or, drop}
use lib.Seq.{ext_get_or, get_or-take, get_or-drop}
use lib.Ieee.{Float, nan}
use borrow.Author.Tests.{eq-eqb, ne_eqb}
use Rattle.basics.specs.Loops.{run, keep}
use Rattle.basics.specs.Lists.{All}
use Rattle.basics.proofs.Loops.{run-keeps}
use Rattle.rules_board.specs.Board.{Board, link_count, mixture_count, mix_of, immutable_mix, end}
use Rattle.rules_mixture.specs.Mixture.{amounts, part}
use Rattle.mixture.proofs.Parts.{Fits}
use Rattle.rules_events.specs.Compared.{records}
use Rattle.events.proofs.Compared.{others}
use Rattle.rules_finish.specs.Finish.{Done, finish}
use Rattle.laws_finish.specs.Jobs.{Job, work}
use Rattle.laws_finish.proofs.Alone.{Beside, Alike, finish-beside, finish-alike}

-- the turfs that a list of jobs gives to a zone
unfoldable pub rows_of : ℕ → List Job → List ℕ
rows_of z js = map (λ j. j.row) (keep (λ j. eqb j.zone z) js)

pub rows-mine : (z : ℕ) (j : Job) (js : List Job) → j.zone ≡ z → rows_of z (j ∷ js) ≡ j.row ∷ rows_of z js
unfolding rows_of keep
rows-mine z j js e = rw (eq-eqb j.zone z e)

pub rows_other : (z : ℕ) (j : Job) (js : List Job) → j.zone ≢ z → rows_of z (j ∷ js) ≡ rows_of z js
unfolding rows_of keep
rows_other z j js e = rw (ne_eqb j.zone z e)

-- two gases with the same amounts in every mixture
gas-ext : (b : Board) (s t : List Float) → zero < b.gases → Fits b s → Fits b t → ((m : ℕ) → amounts b s m ≡ amounts b t m) → s ≡ t
unfolding amounts
gas-ext b s t g fs ft h = ext_get_or nan s t (fs ∙ sym ft) (λ i l. sym (at s i) ∙ ap (λ (x : List Float). get_or x (i % b.gases) nan) (h (i / b.gases)) ∙ at t i)
  where
    at : (x : List Float) (i : ℕ) → get_or (part b.gases (i / b.gases) x) (i % b.gases) nan ≡ get_or x i nan
    at x i =
        get_or-take b.gases (drop (i / b.gases * b.gases) x) (i % b.gases) nan (mod-lt i g)
        ∙ get_or-drop (i / b.gases * b.gases) x (i % b.gases) nan
        ∙ ap (λ (k : ℕ). get_or x k nan) (div-add-mod' i b.gases)

-- demand 3's comparison: the gas, the others, and each zone's pressure records in order
pub record Agrees (s t : Done) : Type 0 where
  pub gas : s.gas ≡ t.gas
  pub rest : others s.events ≡ others t.events
  pub logs : (z : ℕ) → records z s.events ≡ records z t.events

-- In z m: the mixture m is in the zone z
module _ (b : Board) (owner : List ℕ) (In : ℕ → ℕ → Type 0)
    (mixed : (r : ℕ) → mix_of b r < mixture_count b)
    (ends : (z k : ℕ) → get_or owner k 0 ≡ z + 1 → In z (mix_of b (end b k)))
    (aparted : (y z : ℕ) → y ≢ z → (m : ℕ) → In y m → In z m → T (immutable_mix b m)) where
  abbrev Same : ℕ → Done → Done → Type 0
  Same z s t = Alike b owner z (In z) mixed (ends z) s t

  abbrev pub JobIn : Job → Type 0
  JobIn j = In j.zone (mix_of b j.row)

  abbrev solo : ℕ → List ℕ → Done → Done
  solo z rs s = run (λ r u. finish b owner z (suc (link_count b)) r u) rs s

  besides : (y : ℕ) (r : ℕ) (s : Done) → In y (mix_of b r) → Fits b s.gas → Beside b owner y (In y) mixed (ends y) s (finish b owner y (suc (link_count b)) r s)
  besides y r s i f = finish-beside b owner y (In y) mixed (ends y) (suc (link_count b)) s r s i
      (record { fits = f; air = λ m u. refl; size = refl; weights = λ k h. refl; logs = λ w h. refl; rest = refl })

  -- a job of another zone changes nothing for zone z
  other_job : (z y r : ℕ) (s t : Done) → y ≢ z → In y (mix_of b r) → Same z s t → Same z (finish b owner y (suc (link_count b)) r s) t
  other_job z y r s t ne i q =
      let p = besides y r s i q.fits in
      record {
        fits = p.fits;
        fits' = q.fits';
        air = λ m h. p.air m (λ k. aparted y z ne m k h) ∙ q.air m h;
        size = p.size ∙ q.size;
        weights = λ k own. p.weights k (λ e. ne (omega (arith, e, own))) ∙ q.weights k own;
        logs = p.logs z (λ e. ne (sym e)) ∙ q.logs;
      }

  -- the run of all the jobs, seen by zone z, is the run of its own
  alone : (z : ℕ) (js : List Job) (s t : Done) → All JobIn js → Same z s t → Same z (run (work b owner) js s) (solo z (rows_of z js) t)
  unfolding run work rows_of keep
  alone z [] s t a q = q
  alone z (j ∷ js) s t a q = go (λ u p. alone z js (work b owner j s) u a.1 p) (ℕ_discrete j.zone z)
    where
      later : Done
      later = run (work b owner) js (work b owner j s)

      go : ((u : Done) → Same z (work b owner j s) u → Same z later (solo z (rows_of z js) u))
          → Dec (j.zone ≡ z) → Same z later (solo z (rows_of z (j ∷ js)) t)
      go ih (yes e) =
          subst (λ (rs : List ℕ). Same z later (solo z rs t)) (sym (rows-mine z j js e))
          (ih (finish b owner z (suc (link_count b)) j.row t)
          (subst (λ (y : ℕ). Same z (finish b owner y (suc (link_count b)) j.row s) (finish b owner z (suc (link_count b)) j.row t)) (sym e)
          (finish-alike b owner z (In z) mixed (ends z) (suc (link_count b)) j.row s t (subst (λ (y : ℕ). In y (mix_of b j.row)) e a.0) q)))
      go ih (no ne) =
          subst (λ (rs : List ℕ). Same z later (solo z rs t)) (sym (rows_other z j js ne))
          (ih t (other_job z j.zone j.row s t ne a.0 q))

  -- what no zone can change stays
  record Rest (s₀ s : Done) : Type 0 where
    fits : Fits b s.gas
    air : (m : ℕ) → ((z : ℕ) → In z m → T (immutable_mix b m)) → amounts b s.gas m ≡ amounts b s₀.gas m
    rest : others s.events ≡ others s₀.events

  rest : (js : List Job) (s : Done) → Fits b s.gas → All JobIn js → Rest s (run (work b owner) js s)
  unfolding work
  rest js s f a = run-keeps JobIn (Rest s) (work b owner)
      (λ j t i q.
      let p = besides j.zone j.row t i q.fits in
      record { fits = p.fits; air = λ m h. p.air m (h j.zone) ∙ q.air m h; rest = p.rest ∙ q.rest })
      js s a (record { fits = f; air = λ m h. refl; rest = refl })

  pub agree : zero < b.gases → ((m : ℕ) → ((z : ℕ) × In z m) ⊎ ((z : ℕ) → In z m → T (immutable_mix b m)))
      → (js ks : List Job) (s : Done) → Fits b s.gas → All JobIn js → All JobIn ks → ((z : ℕ) → rows_of z js ≡ rows_of z ks)
      → Agrees (run (work b owner) js s) (run (work b owner) ks s)
  agree g in_one js ks s f aj ak h =
      let start : (z : ℕ) → Same z s s = λ z. record { fits = f; fits' = f; air = λ m i. refl; size = refl; weights = λ k i. refl; logs = refl } in
      let one : (z : ℕ) → Same z (run (work b owner) js s) (solo z (rows_of z js) s) = λ z. alone z js s s aj (start z) in
      let two : (z : ℕ) → Same z (run (work b owner) ks s) (solo z (rows_of z js) s) =
      λ z. subst (λ (rs : List ℕ). Same z (run (work b owner) ks s) (solo z rs s)) (sym (h z)) (alone z ks s s ak (start z)) in
      let rj = rest js s f aj in
      let rk = rest ks s f ak in
      let at : (m : ℕ) → ((z : ℕ) × In z m) ⊎ ((z : ℕ) → In z m → T (immutable_mix b m))
      → amounts b (run (work b owner) js s).gas m ≡ amounts b (run (work b owner) ks s).gas m = λ m d. elim d [
        | inl w ↦ (one w.0).air m w.1 ∙ sym ((two w.0).air m w.1)
        | inr u ↦ rj.air m u ∙ sym (rk.air m u)
      ] in
      record {
        gas = gas-ext b (run (work b owner) js s).gas (run (work b owner) ks s).gas g rj.fits rk.fits (λ m. at m (in_one m));
        rest = rj.rest ∙ sym rk.rest;
        logs = λ z. (one z).logs ∙ sym (two z).logs;
      }
