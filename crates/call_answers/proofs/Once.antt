-- Two outcomes that the promise of an exported function allows for one input are equal: what it returned, the answer and every lent cell. Assumes nothing.
use mathlib.Core.Path.{◌≡◌, ap, ◌∙◌, sym}
use mathlib.Core.List.{List}
use Prim.Native.Nat.{ℕ}
use Rattle.rules_board.specs.Board.{Board}
use Rattle.events.specs.Interface.{WriteEvent}
use Rattle.rules_lent.specs.Lent.{Lent, Result}
use Rattle.call_answers.specs.Answers.{Answers, ReadAnswers, WriteAnswers}

-- a call
pub answers_once : {A : Type 0} (numbers : A → List ℕ) (b : Board) (o : Result A) (n n' : ℕ) (a a' : List ℕ) (l l' : Lent) → Answers numbers b o n a l → Answers numbers b o n' a' l' → (n ≡ n') × ((a ≡ a') × (l ≡ l'))
answers_once numbers b o n n' a a' l l' x y = (x.returned ∙ sym y.returned, (x.written ∙ sym y.written, x.lent ∙ sym y.lent))

-- the reader
pub read_answers_once : (area : List ℕ) (offset n n' : ℕ) (a a' : List ℕ) → ReadAnswers area offset n a → ReadAnswers area offset n' a' → (n ≡ n') × (a ≡ a')
read_answers_once area offset n n' a a' x y = (x.returned ∙ sym y.returned, x.written ∙ sym y.written)

-- the writer
pub write_answers_once : (kind f0 f1 f2 f3 : ℕ) (area : List ℕ) (offset n n' : ℕ) (a a' s s' : List ℕ) → WriteAnswers kind f0 f1 f2 f3 area offset n a s → WriteAnswers kind f0 f1 f2 f3 area offset n' a' s'
    → (n ≡ n') × ((a ≡ a') × (s ≡ s'))
write_answers_once kind f0 f1 f2 f3 area offset n n' a a' s s' x y =
    let e = x.done ∙ sym y.done in
    (x.returned ∙ sym y.returned, (ap (λ (w : WriteEvent). w.answer) e, ap (λ (w : WriteEvent). w.area) e))
