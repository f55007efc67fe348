-- The answers of the definitions, as the calls tell them: a refusal has its number, and all else is zero.
use Rattle.std.specs.Prelude.{ℕ, Result, Ok, Err}
use Rattle.lent.specs.Given.{number_of}
use Rattle.lent.specs.declared.Refusal.{Refusal}
use Rattle.rules_equalize.specs.Equalize.{bit}
use Rattle.rules_equalize.specs.Result.{refused_equalize}
use Rattle.rules_equalize.specs.declared.EqualizeAnswer.{EqualizeAnswer}
use Rattle.rules_planet.specs.declared.PlanetAnswer.{PlanetAnswer}
use Rattle.rules_depressurize.specs.declared.DepressurizeAnswer.{DepressurizeAnswer}
use Rattle.call_answers.specs.declared.EqualizeDone.{EqualizeDone}
use Rattle.call_answers.specs.declared.DepressurizeDone.{DepressurizeDone}
use Rattle.call_answers.specs.declared.Outcome.{Outcome}
use Rattle.call_answers.specs.declared.Outcome.TheVariants.{NoSpace, Planet, Emptied}

-- equalize's
abbrev pub equalize_answer : Result EqualizeDone Refusal → EqualizeAnswer
equalize_answer (Ok a) = record { number = 0; cancelled = bit a.cancelled; processed = a.processed; tests = a.tests; zones = a.zones; apart = bit a.apart; bytes = a.bytes }
equalize_answer (Err r) = refused_equalize (number_of r)

-- the planet walk's: how many bytes it wrote
abbrev pub planet_answer : Result ℕ Refusal → PlanetAnswer
planet_answer (Ok bytes) = record { number = 0; bytes = bytes }
planet_answer (Err r) = record { number = number_of r; bytes = 0 }

-- an outcome's number
abbrev pub outcome_number : Outcome → ℕ
outcome_number NoSpace = 0
outcome_number Planet = 1
outcome_number Emptied = 2

-- depressurize's
abbrev pub depressurize_answer : Result DepressurizeDone Refusal → DepressurizeAnswer
depressurize_answer (Ok a) = record { number = 0; outcome = outcome_number a.outcome; bytes = a.bytes }
depressurize_answer (Err r) = record { number = number_of r; outcome = 0; bytes = 0 }
