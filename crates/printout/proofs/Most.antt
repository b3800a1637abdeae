-- What is printed is never longer than 60 bytes, two lines of two figures of ten digits each.
use mathlib.Core.Path.{◌≡◌, refl}
use mathlib.Core.Bool.{Bool, true, false, not}
use mathlib.Core.Logic.{◌⊎◌, inl, inr}
use mathlib.Core.List.{List, [], ◌∷◌, ◌++◌}
use Prim.Native.Nat.{ℕ, ◌+◌, ◌*◌, ◌≤◌, ◌<◌}
use native.Mathlib.Omega.{arith}
use borrow.Author.Tests.{ltb-true, ltb-false}
use lib.Dec.{ltb}
use lib.ListN.{length, drop, length-append}
use Rattle.text.specs.Quoted.{bytes}
use Rattle.text.specs.Number.{eleven_digits, digits_of}
use Rattle.text.specs.Line.{closer, numbers_text, line_text}
use Rattle.text.proofs.Number.{length_digits_ten}
use Rattle.ground.proofs.Booleans.{either}
use Rattle.answers.specs.Answer.{Answer}
use Rattle.answers.specs.Answer.{Refused, RefusedAt, Done, Count, Plate}
use Rattle.form.specs.Parts.{Rows}
use Rattle.form.specs.Outcome.{Verdict, right, wrong}
use Rattle.sheet.specs.Lines.{most_bytes}
use Rattle.sheet.specs.SheetText.{read_sheet}
use Rattle.sheet.specs.EngineText.{read_engines, powers_of, weights_of}
use Rattle.sheet.proofs.SheetText.{sheet_fault, sheet_most}
use Rattle.sheet.proofs.EngineText.{engines_fault, engines_most}
use Rattle.capacity.specs.Whole.{is_below}
use Rattle.capacity.specs.Weights.{boat_m}
use Rattle.capacity.specs.PlateA.{marked_a, lacks_power, plate_a}
use Rattle.capacity.specs.PlateC.{marked_c, rows_right, lacks_row, live_load, lacks_tests, persons, plate_c}
use Rattle.capacity.specs.Kinds.{kind_a, kind_c, plate_of}
use Rattle.sheet.specs.Sheet.{words_ok}
use Rattle.capacity.proofs.Most.{marked_most, c_most}
use Rattle.capacity.proofs.Power.{power_most}
use Rattle.capacity.proofs.Persons.{persons_most}
use Rattle.printout.specs.Input.{most_input, sheet_part, engine_part}
use Rattle.printout.specs.Printed.{figures, input_text, plate_text, plates_text, rows_printed, printed}
use Rattle.printout.proofs.Printed.{rows_fault, rows_plates, read_ok, printed_long, printed_fault, printed_rows}

abbrev pub most_printed : ℕ
most_printed = 60

-- figures that add up to ten digits at most take eleven bytes each, the ending one included
abbrev together : List ℕ → ℕ
together [] = 0
together (n ∷ ns) = n + together ns

numbers_most_lem : (ns : List ℕ) → together ns < eleven_digits
    → length (numbers_text (figures [] (length ns)).limits ns) ≤ 11 * length ns
unfolding numbers_text
numbers_most_lem [] h = omega arith
numbers_most_lem (n ∷ ns) h =
    let rest : List ℕ = numbers_text (figures [] (length ns)).limits ns in
    let end : ℕ = closer (figures [] (length ns)).limits ns in
    let few = length_digits_ten n (omega arith) in
    omega (arith, length-append (digits_of n) (end ∷ rest), few, numbers_most_lem ns (omega arith))

figures_most : (tag ns : List ℕ) → together ns < eleven_digits
    → length (line_text (figures tag (length ns)) ns) ≤ length tag + 11 * length ns
figures_most tag ns h =
    omega (arith, length-append tag (numbers_text (figures [] (length ns)).limits ns), numbers_most_lem ns h)

-- a text's refusal is 2 or 3
low : {number : ℕ} → (number ≡ 2) ⊎ (number ≡ 3) → number ≤ 3
low (inl e) = omega arith
low (inr e) = omega arith

input_most : (number line byte : ℕ) → number ≤ 3
    → (line ≤ most_bytes + 1) × (byte ≤ most_bytes + 1)
    → length (input_text number line byte) ≤ most_printed
input_most number line byte h (p, q) =
    omega (arith, figures_most (bytes "INPUT\t") (number ∷ line ∷ byte ∷ []) (omega arith))

-- a plate's figures together, or its refusal
abbrev sum_of : Answer → ℕ
sum_of (Refused number) = number
sum_of (RefusedAt number line byte) = 0
sum_of Done = 0
sum_of (Count n) = 0
sum_of (Plate load figure) = load + figure

-- a plate's line, of any letters
plate_most : (l k : ℕ) (a : Answer) → sum_of a < eleven_digits
    → length (plate_text (bytes "PLATE\t" ++ (l ∷ 9 ∷ [])) (bytes "REFUSED\t" ++ (k ∷ 9 ∷ [])) a) ≤ 30
plate_most l k (Refused number) h =
    omega (arith, figures_most (bytes "REFUSED\t" ++ (k ∷ 9 ∷ [])) (number ∷ []) (omega arith))
plate_most l k (RefusedAt number line byte) h = omega arith
plate_most l k Done h = omega arith
plate_most l k (Count n) h = omega arith
plate_most l k (Plate a b) h =
    omega (arith, figures_most (bytes "PLATE\t" ++ (l ∷ 9 ∷ [])) (a ∷ b ∷ []) (omega arith))

both_most : (a b : ℕ) → a ≤ 30 → b ≤ 30 → a + b ≤ most_printed
both_most a b h k = omega arith

abbrev Low : Answer → Type 0
Low a = sum_of a ≤ 320000

module _ (s : List ℕ) (b : words_ok s ≡ true) where
  a_small : (m : ℕ) → Low (plate_a m s)
  unfolding plate_a
  a_small m =
      either Low (is_below (marked_a m s) 1) (omega arith)
      (either Low (lacks_power s) (omega arith) (omega (arith, marked_most s b m, power_most s b)))

  c_small : (m : ℕ) (ps ws : List ℕ) → Low (plate_c m s ps ws)
  unfolding plate_c
  c_small m ps ws =
      let live = live_load m s ps ws in
      either Low (not (rows_right ps ws)) (omega arith)
      (either Low (is_below (marked_c m s) 1) (omega arith)
      (either Low (lacks_row s ps) (omega arith)
      (either Low (lacks_tests s live) (omega arith)
      (either Low (is_below (persons s live) 1) (omega arith) (omega (arith, c_most s b m, persons_most s live b))))))

  plates_most : (ps ws : List ℕ) → length (plates_text s ps ws) ≤ most_printed
  unfolding plates_text
  plates_most ps ws =
      rw length-append
      (both_most _ _ (plate_most _ _ (plate_of kind_a s) (omega (arith, a_small (boat_m s))))
      (plate_most _ _ (plate_of (kind_c ps ws) s) (omega (arith, c_small (boat_m s) ps ws))))

  rows_most : (t : List ℕ) → length (rows_printed s t) ≤ most_printed
  rows_most t = go (read_engines t) refl
    where
      go : (q : Verdict Rows) → read_engines t ≡ q → length (rows_printed s t) ≤ most_printed
      go (right rows) e = rw (rows_plates s t e) (plates_most (powers_of rows) (weights_of rows))
      go (wrong number line byte) e =
          rw (rows_fault s t e)
          (input_most number line byte (low (engines_fault t number line byte e)) (engines_most t number line byte e))

-- of any input
pub printed_most : (t : List ℕ) → length (printed t) ≤ most_printed
printed_most t = go (ltb most_input (length t)) refl
  where
    sheet : length t ≤ most_input
        → (q : Verdict (List ℕ))
        → read_sheet (sheet_part t) ≡ q
        → length (printed t) ≤ most_printed
    sheet h (right s) e =
        rw (printed_rows t h e) (rows_most (drop 1 s) (read_ok (sheet_part t) s e) (engine_part t))
    sheet h (wrong number line byte) e =
        let u : List ℕ = sheet_part t in
        rw (printed_fault t h e)
        (input_most number line byte (low (sheet_fault u number line byte e)) (sheet_most u number line byte e))

    go : (u : Bool) → ltb most_input (length t) ≡ u → length (printed t) ≤ most_printed
    go true e =
        rw (printed_long t (ltb-true most_input (length t) e))
        (input_most 2 0 0 (omega arith) (omega arith, omega arith))
    go false e = sheet (ltb-false most_input (length t) e) (read_sheet (sheet_part t)) refl
