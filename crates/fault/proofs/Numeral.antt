-- The number reader tells the place in its field: some number is written with the bytes before it, and none with the
-- byte there.
use mathlib.Core.Path.{◌≡◌, refl, ap, ◌∙◌}
use mathlib.Core.Logic.{◌↔◌}
use mathlib.Core.List.{List, [], ◌∷◌, ◌++◌}
use Prim.Native.Nat.{ℕ, suc}
use native.Mathlib.Omega.{arith}
use lib.ListN.{take}
use Rattle.ground.proofs.Booleans.{false_true}
use Rattle.text.specs.Number.{NumberRead}
use Rattle.std.specs.Prelude.{Ok, Err}
use Rattle.text.specs.Number.{number_of}
use Rattle.text.proofs.NumberTrip.{read_writes, read_small, written_reads}
use Rattle.fault.specs.Rules.{Numeral}
use Rattle.fault.specs.Faulty.{Faulty}
use Rattle.fault.proofs.Rules.{one_place}
use Rattle.fault.proofs.Stopped.{begun_nothing, number_stops}

-- a field that reads as a number is one as it is written
pub value_numeral : (f : List ℕ) (n : ℕ) → number_of f ≡ Ok n → Numeral f
value_numeral f n v = record { value = n; few = omega (arith, read_small f n v); written = read_writes f n v }

-- and one that is refused is none
numeral_reads : (f : List ℕ) (at : ℕ) → number_of f ≡ Err at → Numeral f → ⊥
numeral_reads f at e q =
    let v : number_of f ≡ Ok q.value = rw q.written (written_reads q.value q.few) in
    false_true (cc)

-- the place is at fault
pub number_faulty : (f : List ℕ) (at : ℕ) → number_of f ≡ Err at → Faulty Numeral f at
unfolding number_of
number_faulty [] at e =
    let y : 0 ≡ at = cc in
    rw (← y) (record {
      inside = omega arith;
      wrong = numeral_reads [] 0 refl;
      sound = begun_nothing;
      stuck = λ h. absurd (omega arith);
    })
number_faulty (b ∷ s) at e =
    let p = number_stops b s at e in
    record {
      inside = omega (arith, p.inside);
      wrong = numeral_reads (b ∷ s) at e;
      sound = p.begun;
      stuck = λ h q. numeral_reads (take (suc at) (b ∷ s) ++ q.rest) at (p.always q.rest) q.whole;
    }

-- and no other
pub number_place : (f : List ℕ) (i : ℕ) → (number_of f ≡ Err i) ↔ Faulty Numeral f i
number_place f i = (number_faulty f i, told (number_of f) refl)
  where
    told : (r : NumberRead) → number_of f ≡ r → Faulty Numeral f i → number_of f ≡ Err i
    told (Err j) e p = e ∙ ap Err (one_place (number_faulty f j e) p)
    told (Ok n) e p = absurd (p.wrong (value_numeral f n e))
