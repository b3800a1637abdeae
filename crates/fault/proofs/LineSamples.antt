-- Worked fields and lines that go wrong: the computed places are those at fault by the rules, and a broken limit is at
-- the place of its number.
use mathlib.Core.Path.{◌≡◌, refl}
use mathlib.Core.List.{List, [], ◌∷◌, map}
use Prim.Native.Nat.{ℕ}
use Rattle.answers.specs.Refusals.{broken_line, outside_limits}
use Rattle.std.specs.Prelude.{Err}
use Rattle.text.specs.Quoted.{bytes}
use Rattle.text.specs.Number.{rest_of, number_of}
use Rattle.text.specs.Line.{Line}
use Rattle.text.proofs.LineExamples.{seat_line, Case, case, reads, refused_with, misformed, misformed_right, outside}
use Rattle.text.proofs.LineExamples.{outside_right}
use Rattle.text.proofs.CountExamples as Count
use Rattle.text.proofs.CountExamples.{fit_line, stack_line, unstacked, unstacked_right}
use Rattle.fault.specs.Rules.{Just, Numeral, LineThen}
use Rattle.fault.specs.Faulty.{Faulty}
use Rattle.fault.specs.Reached.{LineStops}
use Rattle.fault.proofs.Rules.{Some}
use Rattle.fault.proofs.Numeral.{number_faulty}
use Rattle.fault.proofs.Line.{line_refused}

-- so of every case
abbrev pub Every : (Case → Type 0) → List Case → Type 0
Every P [] = Unit {0}
Every P (c ∷ cs) = P c × Every P cs

-- ---- fields

abbrev NoNumber : Case → Type 0
NoNumber c = Faulty Numeral (bytes c.text) c.place

no_numbers : (cs : List Case)
    → map (λ (c : Case). number_of (bytes c.text)) cs ≡ map (λ (c : Case). Err c.place) cs
    → Every NoNumber cs
no_numbers [] e = tt
no_numbers (c ∷ cs) e = (number_faulty (bytes c.text) c.place (cc), no_numbers cs (cc))

fields : List Case
fields = case "" 0 ∷ case "07" 1 ∷ case "12x" 2 ∷ case "x12" 0 ∷ case "10000000000" 10 ∷ case "-" 0 ∷ []

fields_wrong : Every NoNumber fields
unfolding fields number_of rest_of
fields_wrong = no_numbers fields refl

-- ---- lines, with nothing after them

some_end : Some (Just [])
some_end = record { rest = []; whole = refl }

abbrev Wrong : Line → Case → Type 0
Wrong l c = Faulty (LineThen l (Just [])) (bytes c.text) c.place

wrong : (l : Line) (cs : List Case) → map (reads l) cs ≡ map (refused_with broken_line) cs → Every (Wrong l) cs
wrong l [] e = tt
wrong l (c ∷ cs) e =
    ((line_refused l (bytes c.text) broken_line c.place some_end (cc)).form refl, wrong l cs (cc))

abbrev Stops : ℕ → Line → Case → Type 0
Stops number l c = LineStops number l (bytes c.text) c.place

stop : (number : ℕ) (l : Line) (cs : List Case) → map (reads l) cs ≡ map (refused_with number) cs
    → Every (Stops number l) cs
stop number l [] e = tt
stop number l (c ∷ cs) e =
    ((line_refused l (bytes c.text) number c.place some_end (cc)).limits, stop number l cs (cc))

seats_wrong : Every (Wrong seat_line) misformed
seats_wrong = wrong seat_line misformed misformed_right

seats_stop : Every (Stops broken_line seat_line) misformed × Every (Stops outside_limits seat_line) outside
seats_stop = (stop broken_line seat_line misformed misformed_right, stop outside_limits seat_line outside outside_right)

-- with a number that may be left out
fits_wrong : Every (Wrong fit_line) Count.misformed × Every (Wrong stack_line) unstacked
fits_wrong = (wrong fit_line Count.misformed Count.misformed_right, wrong stack_line unstacked unstacked_right)

fits_stop : Every (Stops broken_line fit_line) Count.misformed × Every (Stops outside_limits fit_line) Count.outside
fits_stop = (
  stop broken_line fit_line Count.misformed Count.misformed_right,
  stop outside_limits fit_line Count.outside Count.outside_right,
)
