-- The setting `arrows` over what the exported function promises: two calls that differ in it alone leave the same but for the arrows, and those towards space lead there.
-- Assumes nothing.
use mathlib.Core.Path.{◌≡◌, refl, sym, ap, ◌∙◌, subst}
use mathlib.Core.Logic.{◌≢◌}
use mathlib.Core.List.{List, ◌++◌, map}
use mathlib.Core.Bool.{Bool, true, false, cond}
use Prim.Native.Nat.{ℕ}
use lib.Dec.{eqb}
use lib.ListN.{drop}
use lib.Seq.{drop_at}
use Rattle.basics.specs.Lists.{All}
use Rattle.rules_board.specs.Board.{Board}
use Rattle.rules_events.specs.Events.{encode_all}
use Rattle.rules_events.specs.Readings.{Readings}
use Rattle.rules_events.specs.declared.Event.{Event}
use Rattle.events.proofs.Sizes.{size}
use Rattle.rules_lent.specs.Lent.{Lent, Result, no_extra, after}
use Rattle.lent.proofs.Passed.{passed}
use Rattle.rules_depressurize.specs.Depressurize.{Depressurized, breach_of, depressurize, depressurize_room, depressurize_number, depressurize_done, depressurize_result}
use Rattle.rules_depressurize.specs.declared.DepressurizeAnswer.{DepressurizeAnswer}
use Rattle.rules_depressurize.specs.declared.Breach.{Breach}
use Rattle.call_answers.specs.Answers.{Answers, depressurize_numbers}
use Rattle.laws_arrows.specs.Arrows.{as_loop, looped, ArrowIs, LeadsOut}
use Rattle.laws_arrows.proofs.Settings.{size-kept, settings_agree}
use Rattle.laws_arrows.proofs.Leads.{arrows_lead}
use Rattle.promises.specs.Arrows.{depressurize_events, SameButArrows}
use Rattle.promises.proofs.ReadBack.{depressurize-done, katmos_depressurize_reads}

-- ---- results

-- two results: the same answer, gas, words, floats and, past the bytes written, area
record Alike (o o' : Result DepressurizeAnswer) : Type 0 where
  answer : o.answer ≡ o'.answer
  gas : o.lent.gas ≡ o'.lent.gas
  words : o.lent.words ≡ o'.lent.words
  floats : o.lent.floats ≡ o'.lent.floats
  rest : drop o.answer.bytes o.lent.area ≡ drop o'.answer.bytes o'.lent.area

module _ (b : Board) (l : Lent) where
  -- a call that was refused leaves what it was lent
  refused-left : (q : Breach) → (depressurize_result b q l).answer.number ≢ 0 → (depressurize_result b q l).lent ≡ l
  unfolding depressurize_result depressurize_done
  refused-left q = go (eqb (depressurize_number b q l) 0)
    where
      either : Bool → Result DepressurizeAnswer
      either t = cond t (depressurize_done b q l (depressurize b l.gas q)) (record { answer = record { number = depressurize_number b q l; outcome = 0; bytes = 0 }; lent = l })

      go : (t : Bool) → (either t).answer.number ≢ 0 → (either t).lent ≡ l
      go true ne = absurd (ne refl)
      go false ne = refl

  done-alike : (q q' : Breach) (d : Depressurized) → Alike (depressurize_done b q l d) (depressurize_done b q' l (looped d))
  unfolding depressurize_done after
  done-alike q q' d =
      let past : (es : List Event) → drop (size es) (encode_all es ++ drop (size es) l.area) ≡ drop (size es) l.area = λ es. drop_at (encode_all es) (drop (size es) l.area) (size es) refl in
      let s = size-kept d.events in
      record {
        answer = λ i. record { number = 0; outcome = d.outcome; bytes = sym s i };
        gas = refl;
        words = refl;
        floats = refl;
        rest = past d.events ∙ ap (λ (m : ℕ). drop m l.area) (sym s) ∙ sym (past (map as_loop d.events));
      }

  results_alike : (id limit arrows : ℕ) → Alike (depressurize_result b (breach_of id limit arrows) l) (depressurize_result b (breach_of id limit 0) l)
  unfolding depressurize_result depressurize_number
  results_alike id limit arrows = go (eqb (depressurize_number b q l) 0)
    where
      q : Breach
      q = breach_of id limit arrows

      q' : Breach
      q' = breach_of id limit 0

      d : Depressurized
      d = depressurize b l.gas q

      refused : Result DepressurizeAnswer
      refused = record { answer = record { number = depressurize_number b q l; outcome = 0; bytes = 0 }; lent = l }

      go : (t : Bool) → Alike (cond t (depressurize_done b q l d) refused) (cond t (depressurize_done b q' l (depressurize b l.gas q')) refused)
      go true = subst (λ (e : Depressurized). Alike (depressurize_done b q l d) (depressurize_done b q' l e)) (sym (settings_agree b arrows l.gas id limit)) (done-alike q q' d)
      go false = record { answer = refl; gas = refl; words = refl; floats = refl; rest = refl }

-- ---- calls of the exported function, by what they returned, wrote into the answer and left

module _ (b : Board) (l : Lent) (id limit : ℕ) where
  -- a call with a setting
  abbrev Call : ℕ → ℕ → List ℕ → Lent → Type 0
  Call arrows n a left = Answers depressurize_numbers b (depressurize_result b (breach_of id limit arrows) l) n a left

  found : (arrows n : ℕ) (a : List ℕ) (left : Lent) → Call arrows n a left → n ≡ 0 → depressurize_events a left ≡ (depressurize b l.gas (breach_of id limit arrows)).events
  found arrows n a left x z = ap (λ (r : Readings). r.events) (katmos_depressurize_reads b l n a left z (breach_of id limit arrows) x).run

  -- the setting changes the arrows alone
  pub katmos_settings_agree : (arrows n n' : ℕ) (a a' : List ℕ) (left left' : Lent) → Call arrows n a left → Call 0 n' a' left' → SameButArrows l n n' a a' left left'
  katmos_settings_agree arrows n n' a a' left left' x x' =
      let c = results_alike b l id limit arrows in
      let same : n ≡ n' = x.returned ∙ ap (λ (r : DepressurizeAnswer). r.number) c.answer ∙ sym x'.returned in
      record {
        returned = same;
        answer = x.written ∙ ap depressurize_numbers c.answer ∙ sym x'.written;
        gas = ap (λ (r : Lent). r.gas) x.lent ∙ c.gas ∙ sym (ap (λ (r : Lent). r.gas) x'.lent);
        words = ap (λ (r : Lent). r.words) x.lent ∙ c.words ∙ sym (ap (λ (r : Lent). r.words) x'.lent);
        floats = ap (λ (r : Lent). r.floats) x.lent ∙ c.floats ∙ sym (ap (λ (r : Lent). r.floats) x'.lent);
        records = λ z. found 0 n' a' left' x' (sym same ∙ z) ∙ ap (λ (d : Depressurized). d.events) (settings_agree b arrows l.gas id limit) ∙ ap (map as_loop) (sym (found arrows n a left x z));
        rest = rw (x.written, x.lent, x'.written, x'.lent) c.rest;
        refused = λ ne. (
          x.lent ∙ refused-left b l (breach_of id limit arrows) (λ e. ne (x.returned ∙ e)),
          x'.lent ∙ refused-left b l (breach_of id limit 0) (λ e. ne (same ∙ x'.returned ∙ e)),
        );
      }

  -- towards space every arrow leads out
  pub katmos_arrows_lead : (arrows n : ℕ) (a : List ℕ) (left : Lent) → Call arrows n a left → n ≡ 0 → arrows ≢ 0 → All (ArrowIs (LeadsOut b (depressurize_events a left))) (depressurize_events a left)
  unfolding depressurize_number
  katmos_arrows_lead arrows n a left x z out =
      let q = breach_of id limit arrows in
      let p = passed b l (depressurize_room b) no_extra (depressurize-done b l q (depressurize_result b q l) refl (sym x.returned ∙ z)).0 in
      subst (λ (es : List Event). All (ArrowIs (LeadsOut b es)) es) (sym (found arrows n a left x z)) (arrows_lead b p.board l.gas id limit arrows out)
