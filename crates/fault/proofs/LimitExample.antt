-- Limits are no line rules: a text of samples that breaks one, and is by the rules.
use mathlib.Core.Path.{refl}
use mathlib.Core.Bool.{Bool}
use mathlib.Core.Logic.{inl}
use mathlib.Core.List.{List, []}
use Prim.Native.Nat.{ℕ}
use native.Mathlib.Omega.{arith}
use Rattle.answers.specs.Refusals.{outside_limits}
use Rattle.text.specs.Quoted.{feed, bytes}
use Rattle.text.specs.Field.{field_of, agreed}
use Rattle.text.specs.Number.{number_of, rest_of, digits_in, digits_of}
use Rattle.text.specs.declared.Rule.TheVariants.{Plain}
use Rattle.text.specs.Line.{Line, read_entry, read_numbers, read_line}
use Rattle.form.specs.Parts.{one_line, kind_of}
use Rattle.form.specs.Reading.{read_rows, read_parts}
use Rattle.form.proofs.Examples.{round_line, square_line, shelf_line, note_line, end_line, store}
use Rattle.fault.specs.Rules.{Rule, Just, in_digits, Entry, PartThen, ByRules}
use Rattle.fault.specs.Faulty.{Begun}
use Rattle.fault.specs.Reached.{PartsStop}
use Rattle.fault.proofs.Theorems.{limit_place, limit_ended}
use Rattle.fault.proofs.Examples.{store_made, store_said}

-- no round crate has 0, and the text is by the rules nevertheless
zero_right : ByRules store (bytes "ROUND\t0\nEND\n")
unfolding store round_line square_line shelf_line note_line end_line digits_of digits_in
zero_right =
    record {
      count = 1;
      enough = omega arith;
      few = omega arith;
      by = inl (record {
        one = bytes "ROUND\t";
        two = bytes "0\nEND\n";
        joined = refl;
        by_one = refl;
        by_two = inl (record {
          one = bytes "0\n";
          two = bytes "END\n";
          joined = refl;
          by_one = zero;
          by_two = none (none end);
        });
      });
    }
  where
    zero : Entry Plain feed (bytes "0\n")
    zero =
        record {
          one = bytes "0";
          two = bytes "\n";
          joined = refl;
          by_one = in_digits (record { value = 0; few = omega arith; written = refl });
          by_two = refl;
        }

    end : PartThen (one_line end_line) (Just []) (bytes "END\n")
    end =
        record {
          count = 1;
          enough = omega arith;
          few = omega arith;
          by = inl (record { one = bytes "END\n"; two = []; joined = refl; by_one = refl; by_two = refl });
        }

    none : {most : ℕ} {up : Bool} {kinds : List Line} {S : Rule} {t : List ℕ} → S t
        → PartThen (record { least = 0; most = most; rising = up; kinds = kinds }) S t
    none s = record { count = 0; enough = omega arith; few = omega arith; by = s }

-- it is refused with 3, at the 0
zero_outside : PartsStop outside_limits store.parts (bytes "ROUND\t0\nEND\n") 6
unfolding store round_line square_line shelf_line note_line end_line
    read_parts read_rows kind_of read_line read_numbers read_entry agreed field_of number_of rest_of
zero_outside = limit_place store store_made store_said (bytes "ROUND\t0\nEND\n") 6 refl

-- whatever stands after it: some text by the rules begins with the first 8 bytes
zero_ended : Begun (ByRules store) (bytes "ROUND\t0\n")
unfolding store round_line square_line shelf_line note_line end_line
    read_parts read_rows kind_of read_line read_numbers read_entry agreed field_of number_of rest_of
zero_ended = (limit_ended store store_made store_said (bytes "ROUND\t0\nROUND 1\n") 6 refl).begun
