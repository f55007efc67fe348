-- Two outcomes that the promise of a call allows for one input are equal as the code tells them too: a call answers a `Result`, and its promise speaks of that answer's numbers.
-- Each kind of answer is read back from its numbers, so that two with the same numbers are the same. Assumes nothing.
use Rattle.std.specs.Prelude.{◌≡◌, ℕ, Bool, true, false, List, eqb, Result, Ok, Err, if◌then◌else◌}
use mathlib.Core.Path.{refl, ap, ◌∙◌, sym}
use Rattle.rules_board.specs.Board.{Board}
use Rattle.rules_events.specs.Events.{Put, Written, put, put_fields}
use Rattle.rules_events.specs.declared.Event.{Event}
use Rattle.rules_lent.specs.Lent as rules
use Rattle.rules_lent.specs.Lent.{Lent, Extra, refusal}
use Rattle.rules_equalize.specs.Equalize.{Ask, bit}
use Rattle.rules_equalize.specs.Result.{equalize_result}
use Rattle.rules_equalize.specs.declared.EqualizeAnswer.{EqualizeAnswer}
use Rattle.rules_depressurize.specs.declared.Breach.{Breach}
use Rattle.rules_depressurize.specs.Depressurize.{depressurize_result}
use Rattle.rules_depressurize.specs.declared.DepressurizeAnswer.{DepressurizeAnswer}
use Rattle.rules_planet.specs.Planet.{planet_result}
use Rattle.rules_planet.specs.declared.PlanetAnswer.{PlanetAnswer}
use Rattle.events.specs.Records.{written, left}
use Rattle.events.specs.declared.Unwritten.{Unwritten}
use Rattle.events.specs.declared.Unwritten.TheVariants.{NotFinite, NoRoom, NoKind}
use Rattle.lent.specs.Given.{number_of, refusal_number}
use Rattle.lent.specs.declared.Refusal.{Refusal}
use Rattle.lent.specs.declared.Refusal.TheVariants.{Sizes, Tables, Ids, Links, Amounts, Hot, Areas}
use Rattle.call_answers.specs.Told.{equalize_answer, planet_answer, depressurize_answer, outcome_number}
use Rattle.call_answers.specs.declared.EqualizeDone.{EqualizeDone}
use Rattle.call_answers.specs.declared.DepressurizeDone.{DepressurizeDone}
use Rattle.call_answers.specs.declared.Outcome.{Outcome}
use Rattle.call_answers.specs.declared.Outcome.TheVariants.{NoSpace, Planet, Emptied}

-- what is read back from its numbers is told by them alone
alike : {A B : Type 0} (tell : A → B) (back : B → A) → ((x : A) → back (tell x) ≡ x) → (x y : A) → tell x ≡ tell y → x ≡ y
alike tell back h x y e = sym (h x) ∙ ap back e ∙ h y

-- ---- each kind of answer, read back

-- a bool by its bit
abbrev flag : ℕ → Bool
flag n = eqb n 1

flag-bit : (x : Bool) → flag (bit x) ≡ x
flag-bit true = refl
flag-bit false = refl

-- a refusal by its number
abbrev refusal_of : ℕ → Refusal
refusal_of n =
    if eqb n 1 then Sizes else if eqb n 2 then Tables else if eqb n 3 then Ids else if eqb n 4 then Links else if eqb n 5 then Amounts else if eqb n 6 then Hot else Areas

-- an answer by its number: done with this where that is 0
abbrev told_as : {A : Type 0} → ℕ → A → Result A Refusal
told_as n a = if eqb n 0 then Ok a else Err (refusal_of n)

told-refused : {A : Type 0} (a : A) (r : Refusal) → told_as (number_of r) a ≡ Err r
told-refused a Sizes = refl
told-refused a Tables = refl
told-refused a Ids = refl
told-refused a Links = refl
told-refused a Amounts = refl
told-refused a Hot = refl
told-refused a Areas = refl

-- equalize's, the planet walk's, depressurize's
abbrev equalize_back : EqualizeAnswer → Result EqualizeDone Refusal
equalize_back a = told_as a.number (record { cancelled = flag a.cancelled; processed = a.processed; tests = a.tests; zones = a.zones; apart = flag a.apart; bytes = a.bytes })

equalize-back : (r : Result EqualizeDone Refusal) → equalize_back (equalize_answer r) ≡ r
equalize-back (Ok a) = λ i. Ok (record { cancelled = flag-bit a.cancelled i; processed = a.processed; tests = a.tests; zones = a.zones; apart = flag-bit a.apart i; bytes = a.bytes })
equalize-back (Err r) = told-refused _ r

abbrev planet_back : PlanetAnswer → Result ℕ Refusal
planet_back a = told_as a.number a.bytes

planet-back : (r : Result ℕ Refusal) → planet_back (planet_answer r) ≡ r
planet-back (Ok n) = refl
planet-back (Err r) = told-refused _ r

-- an outcome by its number
abbrev outcome_of : ℕ → Outcome
outcome_of n = if eqb n 0 then NoSpace else if eqb n 1 then Planet else Emptied

outcome-back : (o : Outcome) → outcome_of (outcome_number o) ≡ o
outcome-back NoSpace = refl
outcome-back Planet = refl
outcome-back Emptied = refl

abbrev depressurize_back : DepressurizeAnswer → Result DepressurizeDone Refusal
depressurize_back a = told_as a.number (record { outcome = outcome_of a.outcome; bytes = a.bytes })

depressurize-back : (r : Result DepressurizeDone Refusal) → depressurize_back (depressurize_answer r) ≡ r
depressurize-back (Ok a) = λ i. Ok (record { outcome = outcome-back a.outcome i; bytes = a.bytes })
depressurize-back (Err r) = told-refused _ r

-- that of the refusals alone
accept-back : (r : Result Unit Refusal) → told_as (refusal_number r) tt ≡ r
accept-back (Ok a) = refl
accept-back (Err r) = told-refused _ r

-- the writer's
abbrev unwritten_of : ℕ → Unwritten
unwritten_of n = if eqb n 5 then NotFinite else if eqb n 7 then NoRoom else NoKind

abbrev written_back : Written → Result ℕ Unwritten
written_back w = if eqb w.number 0 then Ok w.next else Err (unwritten_of w.number)

written-back : (r : Result ℕ Unwritten) → written_back (written r) ≡ r
written-back (Ok n) = refl
written-back (Err NotFinite) = refl
written-back (Err NoRoom) = refl
written-back (Err NoKind) = refl

-- ---- the calls

module _ {A D : Type 0} (answer : D → A) (back : A → D) (h : (d : D) → back (answer d) ≡ d) (x : rules.Result A) where
  -- two outcomes that an equation with one result allows
  told-once : (d d' : D) (l l' : Lent) → record { answer = answer d; lent = l } ≡ x → record { answer = answer d'; lent = l' } ≡ x → (d ≡ d') × (l ≡ l')
  told-once d d' l l' p p' =
      let e = p ∙ sym p' in
      (alike answer back h d d' (ap (λ (o : rules.Result A). o.answer) e), ap (λ (o : rules.Result A). o.lent) e)

pub equalize-told-once : (b : Board) (q : Ask) (turns : List ℕ) (l : Lent) (r r' : Result EqualizeDone Refusal) (m m' : Lent)
    → record { answer = equalize_answer r; lent = m } ≡ equalize_result b q turns l → record { answer = equalize_answer r'; lent = m' } ≡ equalize_result b q turns l → (r ≡ r') × (m ≡ m')
equalize-told-once b q turns l = told-once equalize_answer equalize_back equalize-back (equalize_result b q turns l)

pub depressurize-told-once : (b : Board) (q : Breach) (l : Lent) (r r' : Result DepressurizeDone Refusal) (m m' : Lent)
    → record { answer = depressurize_answer r; lent = m } ≡ depressurize_result b q l → record { answer = depressurize_answer r'; lent = m' } ≡ depressurize_result b q l → (r ≡ r') × (m ≡ m')
depressurize-told-once b q l = told-once depressurize_answer depressurize_back depressurize-back (depressurize_result b q l)

pub planet-told-once : (b : Board) (limit id : ℕ) (l : Lent) (r r' : Result ℕ Refusal) (m m' : Lent)
    → record { answer = planet_answer r; lent = m } ≡ planet_result b limit id l → record { answer = planet_answer r'; lent = m' } ≡ planet_result b limit id l → (r ≡ r') × (m ≡ m')
planet-told-once b limit id l = told-once planet_answer planet_back planet-back (planet_result b limit id l)

-- ---- the refusals

pub refusal-told-once : (b : Board) (l : Lent) (room : ℕ) (x : Extra) (r r' : Result Unit Refusal) → refusal_number r ≡ refusal b l room x → refusal_number r' ≡ refusal b l room x → r ≡ r'
refusal-told-once b l room x r r' p p' = alike refusal_number (λ n. told_as n tt) accept-back r r' (p ∙ sym p')

-- ---- the writer

-- two outcomes that an equation with what the definition writes allows
put-told : (x : Put) (r r' : Result ℕ Unwritten) (a a' : List ℕ) → left r a ≡ x → left r' a' ≡ x → (r ≡ r') × (a ≡ a')
put-told x r r' a a' p p' =
    let e = p ∙ sym p' in
    (alike written written_back written-back r r' (ap (λ (o : Put). o.answer) e), ap (λ (o : Put). o.area) e)

pub put-told-once : (event : Event) (area : List ℕ) (offset : ℕ) (r r' : Result ℕ Unwritten) (a a' : List ℕ) → left r a ≡ put event area offset → left r' a' ≡ put event area offset → (r ≡ r') × (a ≡ a')
put-told-once event area offset = put-told (put event area offset)

pub put_fields-told-once : (kind f0 f1 f2 f3 : ℕ) (area : List ℕ) (offset : ℕ) (r r' : Result ℕ Unwritten) (a a' : List ℕ)
    → left r a ≡ put_fields kind f0 f1 f2 f3 area offset → left r' a' ≡ put_fields kind f0 f1 f2 f3 area offset → (r ≡ r') × (a ≡ a')
put_fields-told-once kind f0 f1 f2 f3 area offset = put-told (put_fields kind f0 f1 f2 f3 area offset)
