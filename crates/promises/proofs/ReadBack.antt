-- Whatever a call writes, its reader reads back: over the public promise of each of the three calls, a run of the reader over the bytes written gives exactly
-- the definition's events, then the end. Every amount is a finite f32 (laws_finite), every id a u32 by its table's type. Assumes nothing.
use mathlib.Core.Path.{◌≡◌, refl, sym, ap, ◌∙◌, subst}
use mathlib.Core.List.{List, ◌++◌}
use mathlib.Core.Bool.{Bool, cond}
use Prim.Native.Nat.{ℕ, ◌<◌}
use native.Mathlib.Decide.{ℕ_discrete}
use native.Mathlib.Omega.{arith}
use lib.Dec.{eqb}
use lib.ListN.{length, get_or, take}
use lib.Seq.{take_at}
use borrow.Author.Tests.{ne_eqb}
use Rattle.basics.specs.Lists.{All}
use Rattle.rules_board.specs.Board.{Board}
use Rattle.rules_events.specs.Events.{encode_all}
use Rattle.rules_events.specs.Readings.{Readable}
use Rattle.rules_events.specs.declared.Event.{Event}
use Rattle.events.proofs.Sizes.{size}
use Rattle.events.proofs.ReadAll.{read_area}
use Rattle.events.proofs.Numbers.{read_event_is}
use Rattle.rules_lent.specs.Lent.{Lent, Result, no_extra, after}
use Rattle.lent.proofs.Passed.{passed}
use Rattle.rules_equalize.specs.Equalize.{Ask, equalize}
use Rattle.rules_equalize.specs.Result.{equalize_room, equalize_number, equalize_done, equalize_result}
use Rattle.rules_equalize.specs.declared.EqualizeAnswer.{EqualizeAnswer}
use Rattle.rules_planet.specs.Planet.{planet_walk, planet_room, planet_number, planet_done, planet_result}
use Rattle.rules_planet.specs.declared.PlanetAnswer.{PlanetAnswer}
use Rattle.rules_depressurize.specs.declared.Breach.{Breach}
use Rattle.rules_depressurize.specs.Depressurize.{depressurize, depressurize_room, depressurize_number, depressurize_done, depressurize_result}
use Rattle.rules_depressurize.specs.declared.DepressurizeAnswer.{DepressurizeAnswer}
use Rattle.call_answers.specs.Answers.{Answers, Words, equalize_numbers, planet_numbers, depressurize_numbers}
use Rattle.laws_equalize.proofs.Room.{events-room}
use Rattle.laws_planet.proofs.Room.{planet-room}
use Rattle.laws_depressurize.proofs.Room.{depressurize-room}
use Rattle.laws_finite.proofs.Calls.{equalize-call, planet-call, depressurize-call}
use Rattle.promises.specs.ReadsBack.{ReadsBack}

-- events that are read back, written at the start of an area
starts_with : (es : List Event) (t : List ℕ) → All Readable es → size es < 4294967296 → ReadsBack (take (size es) (encode_all es ++ t)) es
starts_with es t h l = record {
  run = read_area es t h;
  exported = λ o. read_event_is (take (size es) (encode_all es ++ t)) o (subst (λ (s : List ℕ). length s < 4294967296) (sym (take_at (encode_all es) t (size es) refl)) l);
}

-- a result is either that of a refusal, whose number is not 0, or that of a call that was done
done-is : {A : Type 0} (n : ℕ) (refused done : A) (number : A → ℕ) → number refused ≡ n → number (cond (eqb n 0) done refused) ≡ 0 → (n ≡ 0) × (cond (eqb n 0) done refused ≡ done)
done-is {A} n refused done number e z = elim (ℕ_discrete n 0) [
  | yes i ↦ (i, rw i)
  | no i ↦ absurd (i (sym e ∙ sym (ap (λ (t : Bool). number (cond t done refused)) (ne_eqb n 0 i)) ∙ z))
]

-- the call was not refused, and its outcome is that of one that was done
pub equalize-done : (b : Board) (l : Lent) (q : Ask) (turns : List ℕ) (o : Result EqualizeAnswer) → o ≡ equalize_result b q turns l → o.answer.number ≡ 0
    → (equalize_number b q turns l ≡ 0) × (o ≡ equalize_done b q turns l (equalize b l.gas q turns))
unfolding equalize_result
equalize-done b l q turns o p z =
    let d = done-is (equalize_number b q turns l) _ (equalize_done b q turns l (equalize b l.gas q turns)) (λ (x : Result EqualizeAnswer). x.answer.number) refl (sym (ap (λ (x : Result EqualizeAnswer). x.answer.number) p) ∙ z) in
    (d.0, p ∙ d.1)

-- the same of depressurize
pub depressurize-done : (b : Board) (l : Lent) (q : Breach) (o : Result DepressurizeAnswer) → o ≡ depressurize_result b q l → o.answer.number ≡ 0
    → (depressurize_number b q l ≡ 0) × (o ≡ depressurize_done b q l (depressurize b l.gas q))
unfolding depressurize_result
depressurize-done b l q o p z =
    let d = done-is (depressurize_number b q l) _ (depressurize_done b q l (depressurize b l.gas q)) (λ (x : Result DepressurizeAnswer). x.answer.number) refl (sym (ap (λ (x : Result DepressurizeAnswer). x.answer.number) p) ∙ z) in
    (d.0, p ∙ d.1)

module _ (b : Board) (ids : Words b.ids) (l : Lent) where
  -- what equalize wrote is read back
  pub equalize-reads : (q : Ask) (turns : List ℕ) (o : Result EqualizeAnswer) → o ≡ equalize_result b q turns l → o.answer.number ≡ 0
      → ReadsBack (take o.answer.bytes o.lent.area) (equalize b l.gas q turns).events
  unfolding equalize_number equalize_done after
  equalize-reads q turns o p z =
      let d = equalize-done b l q turns o p z in
      let a = (passed b l (equalize_room b) _ d.0).board in
      rw d.1 (starts_with (equalize b l.gas q turns).events _ (equalize-call b ids l q turns d.0) (omega (arith, events-room b l.gas a q turns, a.turfs.1, a.links)))

  -- what depressurize wrote is read back
  pub depressurize-reads : (q : Breach) (o : Result DepressurizeAnswer) → o ≡ depressurize_result b q l → o.answer.number ≡ 0 → ReadsBack (take o.answer.bytes o.lent.area) (depressurize b l.gas q).events
  unfolding depressurize_number depressurize_done after
  depressurize-reads q o p z =
      let d = depressurize-done b l q o p z in
      let a = (passed b l (depressurize_room b) no_extra d.0).board in
      rw d.1 (starts_with (depressurize b l.gas q).events _ (depressurize-call b ids l q d.0) (omega (arith, depressurize-room b a l.gas q, a.turfs.1)))

  -- what the planet walk wrote is read back
  pub planet-reads : (limit id : ℕ) (o : Result PlanetAnswer) → o ≡ planet_result b limit id l → o.answer.number ≡ 0 → ReadsBack (take o.answer.bytes o.lent.area) (planet_walk b limit id)
  unfolding planet_result planet_number planet_done after
  planet-reads limit id o p z =
      let d = done-is (planet_number b limit id l) _ (planet_done b limit id l (planet_walk b limit id)) (λ (x : Result PlanetAnswer). x.answer.number) refl (sym (ap (λ (x : Result PlanetAnswer). x.answer.number) p) ∙ z) in
      let a = (passed b l (planet_room b) no_extra d.0).board in
      rw (p ∙ d.1) (starts_with (planet_walk b limit id) _ (planet-call b ids l limit id) (omega (arith, planet-room b a limit id, a.turfs.1)))

-- ---- the exported calls, by what they returned, wrote into the answer and left

module _ (b : Board) (l : Lent) (n : ℕ) (a : List ℕ) (left : Lent) (z : n ≡ 0) where
  pub katmos_equalize_reads : (q : Ask) (turns : List ℕ) → Answers equalize_numbers b (equalize_result b q turns l) n a left → ReadsBack (take (get_or a 6 0) left.area) (equalize b l.gas q turns).events
  katmos_equalize_reads q turns h = rw (h.written, h.lent) (equalize-reads b h.ids l q turns (equalize_result b q turns l) refl (sym h.returned ∙ z))

  pub katmos_depressurize_reads : (q : Breach) → Answers depressurize_numbers b (depressurize_result b q l) n a left → ReadsBack (take (get_or a 2 0) left.area) (depressurize b l.gas q).events
  katmos_depressurize_reads q h = rw (h.written, h.lent) (depressurize-reads b h.ids l q (depressurize_result b q l) refl (sym h.returned ∙ z))

  pub katmos_planet_reads : (limit id : ℕ) → Answers planet_numbers b (planet_result b limit id l) n a left → ReadsBack (take (get_or a 1 0) left.area) (planet_walk b limit id)
  katmos_planet_reads limit id h = rw (h.written, h.lent) (planet-reads b h.ids l limit id (planet_result b limit id l) refl (sym h.returned ∙ z))
