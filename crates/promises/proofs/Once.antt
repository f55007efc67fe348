-- Two outcomes that the promise of a function of the library allows for one input are equal: number, counts and every lent cell. Each promise is an equation with the
-- definition's result, or says the answer and every cell place by place. Assumes nothing.
use mathlib.Core.Path.{◌≡◌, ap, ◌∙◌, sym}
use mathlib.Core.List.{List, ◌++◌}
use Prim.Native.Nat.{ℕ}
use lib.ListN.{take, drop}
use Rattle.rules_board.specs.Board.{Board}
use Rattle.events.specs.Area.{Wrote}
use Rattle.rules_events.specs.Events.{Put, put, read_at}
use Rattle.rules_events.specs.Lister.{listing}
use Rattle.rules_events.specs.declared.Event.{Event}
use Rattle.rules_events.specs.declared.Reading.{Reading}
use Rattle.rules_lent.specs.Lent.{Lent, Result, Extra, refusal}
use Rattle.rules_equalize.specs.Equalize.{Ask}
use Rattle.rules_equalize.specs.Result.{equalize_result}
use Rattle.rules_equalize.specs.declared.EqualizeAnswer.{EqualizeAnswer}
use Rattle.rules_depressurize.specs.declared.Breach.{Breach}
use Rattle.rules_depressurize.specs.Depressurize.{depressurize_result}
use Rattle.rules_depressurize.specs.declared.DepressurizeAnswer.{DepressurizeAnswer}
use Rattle.rules_planet.specs.Planet.{planet_result}
use Rattle.rules_planet.specs.declared.PlanetAnswer.{PlanetAnswer}

-- an equation with one result allows one outcome
once : {A : Type 0} (x o o' : A) → o ≡ x → o' ≡ x → o ≡ o'
once x o o' p p' = p ∙ sym p'

-- ---- the calls

pub equalize-once : (b : Board) (q : Ask) (turns : List ℕ) (l : Lent) (o o' : Result EqualizeAnswer) → o ≡ equalize_result b q turns l → o' ≡ equalize_result b q turns l → o ≡ o'
equalize-once b q turns l = once (equalize_result b q turns l)

pub depressurize-once : (b : Board) (q : Breach) (l : Lent) (o o' : Result DepressurizeAnswer) → o ≡ depressurize_result b q l → o' ≡ depressurize_result b q l → o ≡ o'
depressurize-once b q l = once (depressurize_result b q l)

pub planet-once : (b : Board) (limit id : ℕ) (l : Lent) (o o' : Result PlanetAnswer) → o ≡ planet_result b limit id l → o' ≡ planet_result b limit id l → o ≡ o'
planet-once b limit id l = once (planet_result b limit id l)

-- ---- events

pub read_once : (area : List ℕ) (offset : ℕ) (o o' : Reading) → o ≡ read_at area offset → o' ≡ read_at area offset → o ≡ o'
read_once area offset = once (read_at area offset)

pub put-once : (e : Event) (area : List ℕ) (offset : ℕ) (o o' : Put) → o ≡ put e area offset → o' ≡ put e area offset → o ≡ o'
put-once e area offset = once (put e area offset)

-- ---- the refusals

pub refusal-once : (b : Board) (l : Lent) (room : ℕ) (x : Extra) (n n' : ℕ) → n ≡ refusal b l room x → n' ≡ refusal b l room x → n ≡ n'
refusal-once b l room x = once (refusal b l room x)

-- ---- the lister's text

-- bytes written at a place: how far they go, and the whole area
pub wrote-once : (bs : List ℕ) (at to to' : ℕ) (area a a' : List ℕ) → Wrote bs at to area a → Wrote bs at to' area a' → (to ≡ to') × (a ≡ a')
wrote-once bs at to to' area a a' w w' =
    let e : to ≡ to' = w.end ∙ sym w'.end in
    (e, w.bytes ∙ ap (λ (x : ℕ). take at area ++ (bs ++ drop x area)) e ∙ sym w'.bytes)

pub list-once : (input out a a' : List ℕ) (n n' : ℕ) → Wrote (listing input) 0 n out a → Wrote (listing input) 0 n' out a' → (n ≡ n') × (a ≡ a')
list-once input out a a' n n' = wrote-once (listing input) 0 n n' out a a'
