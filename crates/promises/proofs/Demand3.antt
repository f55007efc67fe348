-- Demand 3 over the public promise: of two calls that differ in the turns alone, and read off their bytes. Assumes nothing.
use Prim.Native.Nat.{ℕ}
use mathlib.Core.Path.{◌≡◌, refl, ap, ◌∙◌, sym, subst}
use mathlib.Core.Logic.{◌⊎◌, inl, inr}
use mathlib.Core.List.{List}
use lib.ListN.{get_or}
use Rattle.rules_board.specs.Board.{Board}
use Rattle.rules_events.specs.Compared.{requests, records}
use Rattle.rules_events.specs.Readings.{Readings}
use Rattle.rules_events.specs.declared.Event.{Event}
use Rattle.rules_lent.specs.Lent.{Lent, Result}
use Rattle.rules_equalize.specs.Equalize.{Ask, equalize}
use Rattle.rules_equalize.specs.Result.{equalize_result}
use Rattle.rules_equalize.specs.declared.EqualizeAnswer.{EqualizeAnswer}
use Rattle.rules_equalize.specs.Same.{SameCall, read_events, SameRead}
use Rattle.laws_equalize.proofs.Demand3.{demand_3_call}
use Rattle.call_answers.specs.Answers.{Words, Answers, equalize_numbers}
use Rattle.promises.specs.ReadsBack.{found_events, SameOutcome}
use Rattle.promises.proofs.ReadBack.{equalize-done, equalize-reads, katmos_equalize_reads}

module _ (b : Board) (q : Ask) (l : Lent) (turns turns' : List ℕ) (o o' : Result EqualizeAnswer) (p : o ≡ equalize_result b q turns l) (p' : o' ≡ equalize_result b q turns' l)
    (z : o.answer.number ≡ 0) (z' : o'.answer.number ≡ 0) (h : (o.answer.cancelled ≡ 1) ⊎ (o.answer.apart ≡ 1)) where
  abbrev es : List Event
  es = (equalize b l.gas q turns).events

  abbrev es' : List Event
  es' = (equalize b l.gas q turns').events

  -- the same gas, counts, words, floats and requests and, zone by zone, the same records in the same order
  pub demand_3_promise : SameCall l o o' es es'
  demand_3_promise =
      let c = demand_3_call b q turns turns' l (equalize-done b l q turns o p z).0 (equalize-done b l q turns' o' p' z').0 (subst (λ (x : Result EqualizeAnswer). (x.answer.cancelled ≡ 1) ⊎ (x.answer.apart ≡ 1)) p h) in
      subst (λ (x : Result EqualizeAnswer). SameCall l x o' es es') (sym p) (subst (λ (x : Result EqualizeAnswer). SameCall l (equalize_result b q turns l) x es es') (sym p') c)

  -- the same, read off the bytes by the reader
  pub demand_3_read : Words b.ids → SameRead o o'
  demand_3_read ids =
      let r : read_events o ≡ es = ap (λ (x : Readings). x.events) (equalize-reads b ids l q turns o p z).run in
      let r' : read_events o' ≡ es' = ap (λ (x : Readings). x.events) (equalize-reads b ids l q turns' o' p' z').run in
      record { requests = ap requests r ∙ demand_3_promise.requests ∙ sym (ap requests r'); records = λ n. ap (records n) r ∙ demand_3_promise.records n ∙ sym (ap (records n) r') }

-- ---- two calls of the exported function, by what they returned, wrote into the answer and left

module _ (b : Board) (q : Ask) (l : Lent) (turns turns' : List ℕ) (n n' : ℕ) (a a' : List ℕ) (left left' : Lent)
    (x : Answers equalize_numbers b (equalize_result b q turns l) n a left) (x' : Answers equalize_numbers b (equalize_result b q turns' l) n' a' left') (z : n ≡ 0) (z' : n' ≡ 0) where
  -- cancelled, or apart
  pub katmos_demand_3 : (get_or a 1 0 ≡ 1) ⊎ (get_or a 5 0 ≡ 1) → SameOutcome a a' left left'
  katmos_demand_3 h =
      let c = demand_3_promise b q l turns turns' (equalize_result b q turns l) (equalize_result b q turns' l) refl refl (sym x.returned ∙ z) (sym x'.returned ∙ z') (either h) in
      let found : found_events a left ≡ (equalize b l.gas q turns).events = ap (λ (r : Readings). r.events) (katmos_equalize_reads b l n a left z q turns x).run in
      let found' : found_events a' left' ≡ (equalize b l.gas q turns').events = ap (λ (r : Readings). r.events) (katmos_equalize_reads b l n' a' left' z' q turns' x').run in
      record {
        answer = x.written ∙ ap equalize_numbers c.counts ∙ sym x'.written;
        gas = ap (λ (r : Lent). r.gas) x.lent ∙ c.gas ∙ sym (ap (λ (r : Lent). r.gas) x'.lent);
        words = ap (λ (r : Lent). r.words) x.lent ∙ c.words ∙ sym (ap (λ (r : Lent). r.words) x'.lent);
        floats = ap (λ (r : Lent). r.floats) x.lent ∙ c.floats ∙ sym (ap (λ (r : Lent). r.floats) x'.lent);
        requests = ap requests found ∙ c.requests ∙ sym (ap requests found');
        records = λ k. ap (records k) found ∙ c.records k ∙ sym (ap (records k) found');
      }
    where
      either : (get_or a 1 0 ≡ 1) ⊎ (get_or a 5 0 ≡ 1) → ((equalize_result b q turns l).answer.cancelled ≡ 1) ⊎ ((equalize_result b q turns l).answer.apart ≡ 1)
      either (inl e) = inl (sym (ap (λ (w : List ℕ). get_or w 1 0) x.written) ∙ e)
      either (inr e) = inr (sym (ap (λ (w : List ℕ). get_or w 5 0) x.written) ∙ e)
