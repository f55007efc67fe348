-- A part on its own: refused as equalize's number says, when nothing is changed; else its own promise, on tables that the refusals let pass. Assumes nothing.
use Prim.Native.Nat.{ℕ}
use native.Mathlib.Omega.{arith}
use native.Mathlib.Decide.{ℕ_discrete}
use mathlib.Core.Path.{◌≡◌, refl, ◌∙◌, sym}
use mathlib.Core.List.{List, []}
use mathlib.Core.Bool.{true, false, true≢false}
use lib.Ieee.{Float}
use lib.ListN.{length}
use Rattle.rules_board.specs.Board.{Board, turf_count, link_count}
use Rattle.rules_lent.specs.Lent.{Lent}
use Rattle.lent.specs.Given.{lent, number_of}
use Rattle.lent.specs.declared.Refusal.{Refusal}
use Rattle.lent.proofs.Told.{number-some}
use Rattle.plan_all.specs.Zones.{Plannable, Zoned, PlansAll}
use Rattle.plan_all.proofs.Asked.{plan-asks}
use Rattle.rules_equalize.specs.Equalize.{Ask, filled_all}
use Rattle.rules_equalize.specs.Result.{equalize_number}
use Rattle.laws_equalize.proofs.Zones.{test_room}
use Rattle.laws_equalize.proofs.Room.{requests-bytes}
use Rattle.fill_all.specs.Held.{start, FillsAll}
use Rattle.fill_all.specs.declared.Filling.{Filling}
use Rattle.fill_all.proofs.Asked.{let_pass, let_links}
use Rattle.fill_all.proofs.Words.{nodes-few, tests-are}
use Rattle.stages.specs.Stages.{StageFills, Few, StagePlans}
use Rattle.stages.proofs.Planning.{plan-comes}

module _ (b : Board) (q : Ask) (l : Lent) where
  pub refused-fills : (f : Refusal) {number : ℕ} → number ≡ number_of f → number ≡ equalize_number b q [] l → StageFills b q l l (number_of f) start
  refused-fills f e r = record { refusal = sym e ∙ r; refused = λ _. (refl, refl); done = λ z. absurd (number-some f z) }

  module _ {number : ℕ} (r : number ≡ equalize_number b q [] l) where
    module _ (z : number ≡ 0) where
      pub done-fills : {l' : Lent} {s : Filling} → FillsAll (turf_count b) (link_count b) (filled_all b l.gas q) s l.words l'.words l.floats l'.floats l.area l'.area → StageFills b q l l' 0 s
      done-fills d = record { refusal = sym z ∙ r; refused = λ n. absurd (n refl); done = λ _. d }

  -- every count of the answer is small
  pub few : {l' : Lent} {number : ℕ} {s : Filling} → StageFills b q l l' number s → Few s
  few {l'} {number} {s} f = go (ℕ_discrete number 0)
    where
      go : Dec (number ≡ 0) → Few s
      go (no z) = let e = (f.refused z).0 in rw e (record { zones = omega arith; nodes = omega arith; tests = omega arith; used = omega arith })
      go (yes z) =
          let d = f.done z in
          let a = (let_pass b q [] l (sym f.refusal ∙ z)).board in
          record {
            zones = omega (arith, d.stored.zones, a.turfs.1);
            nodes = omega (arith, nodes-few d, a.turfs.1, a.links);
            tests = omega (arith, tests-are d, test_room b a l.gas q, a.turfs.1);
            used = omega (arith, d.wrote.wrote.end, requests-bytes b l.gas a q, a.turfs.1);
          }

  -- a refusal, or a clock that ran out: nothing is planned
  pub refused-plans : {l' : Lent} {number : ℕ} {s : Filling} → StageFills b q l l' number s → (number ≡ 0 → ⊥) → StagePlans b q l l' number s
  refused-plans {l'} f z = record { left = l'; fills = f; refused = λ _. refl; cancelled = λ _. refl; planned = λ e. absurd (z e) }

  pub cancelled-plans : {l' : Lent} {number : ℕ} {s : Filling} → StageFills b q l l' number s → s.cancelled ≡ true → StagePlans b q l l' number s
  cancelled-plans {l'} f c = record { left = l'; fills = f; refused = λ _. refl; cancelled = λ _. refl; planned = λ _ k. absurd (true≢false (sym c ∙ k)) }

  -- filling is done: the tables are such as planning asks for, and then planned
  module _ {left : Lent} {number : ℕ} {s : Filling} (f : StageFills b q l left number s) (z : number ≡ 0) where
    passes : equalize_number b q [] l ≡ 0
    passes = sym f.refusal ∙ z

    pub plan-ready : length left.words ≡ length l.words → length left.floats ≡ length l.floats
        → Plannable b l.gas × Zoned (turf_count b) (link_count b) s.zones left.words left.floats
    plan-ready lw lf =
        let p = let_pass b q [] l passes in
        plan-asks b q l.gas s (f.done z) p.board (let_links b q [] l passes) (omega (arith, lw, p.words)) (omega (arith, lf, p.floats))

    pub planned-plans : s.cancelled ≡ false → {w : List ℕ} {r : List Float}
        → PlansAll (turf_count b) (link_count b) s.zones b l.gas left.words w left.floats r → StagePlans b q l (lent l.gas left.area w r) number s
    planned-plans c r = record {
      left = left;
      fills = f;
      refused = λ n. absurd (n z);
      cancelled = λ k. absurd (true≢false (sym k ∙ c));
      planned = λ _ _. plan-comes b q l left s (f.done z) refl r;
    }
