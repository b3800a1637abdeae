-- A line with its count and one without, put together by the rules, whatever the limits say; and where a limit is
-- broken in such lines, put together too. Nothing is read here.
use mathlib.Core.Path.{refl}
use mathlib.Core.Logic.{inl, inr}
use mathlib.Core.List.{[], ◌∷◌}
use Prim.Native.Nat.{ℕ, ◌<◌}
use native.Mathlib.Omega.{arith}
use Rattle.answers.specs.Refusals.{outside_limits}
use Rattle.text.specs.declared.Rule as Number
use Rattle.text.specs.Quoted.{tab, feed, bytes}
use Rattle.text.specs.Number.{eleven_digits, digits_in, digits_of}
use Rattle.text.specs.declared.Rule.TheVariants.{Plain, Product}
use Rattle.text.specs.Limit.{ranging, ranging_count, all_hold}
use Rattle.text.proofs.CountExamples.{fit_line}
use Rattle.fault.specs.Rules.{Rule, Just, Field, in_digits, FieldsThen, LineThen}
use Rattle.fault.specs.Reached.{as_due, short, Outside, in_limit, tabbed, NumbersStop}
use Rattle.fault.proofs.Stopped.{small_numeral}
use Rattle.fault.proofs.Entry.{entered}

-- ---- by the rules

number : (rule : Number.Rule) (n : ℕ) → n < eleven_digits → Field rule (digits_of n)
number rule n h = in_digits (small_numeral n h)

-- a weight above the most that ends its line
short_by : LineThen fit_line (Just []) (bytes "FIT\t1\t500001\n")
unfolding fit_line digits_of digits_in
short_by =
    let weight = entered Plain feed refl (Just []) (bytes "500001") [] (number Plain 500001 (omega arith)) refl in
    let S : Rule = FieldsThen (ranging 1 500000 ∷ ranging_count 1 99 500000 ∷ []) (Just []) in
    record {
      one = bytes "FIT\t";
      two = bytes "1\t500001\n";
      joined = refl;
      by_one = refl;
      by_two =
          inl
          (entered Plain tab refl S (bytes "1") (bytes "500001\n") (number Plain 1 (omega arith)) (inr (refl, weight)));
    }

-- and one with a count, both outside their limits
whole_by : LineThen fit_line (Just []) (bytes "FIT\t1\t500001\t0\n")
unfolding fit_line digits_of digits_in
whole_by =
    let count = entered (Product 500000) feed refl (Just []) (bytes "0") [] (number (Product 500000) 0 (omega arith)) refl in
    let C : Rule = FieldsThen (ranging_count 1 99 500000 ∷ []) (Just []) in
    let S : Rule = FieldsThen (ranging 1 500000 ∷ ranging_count 1 99 500000 ∷ []) (Just []) in
    let n = number Plain 500001 (omega arith) in
    let weight = entered Plain tab refl C (bytes "500001") (bytes "0\n") n (inl count) in
    record {
      one = bytes "FIT\t";
      two = bytes "1\t500001\t0\n";
      joined = refl;
      by_one = refl;
      by_two =
          inl (entered Plain tab refl S (bytes "1") (bytes "500001\t0\n") (number Plain 1 (omega arith)) (inl weight));
    }

-- ---- outside its limit

-- a weight above the most, that ends its line
weight_short : Outside (ranging 1 500000) (ranging_count 1 99 500000 ∷ []) 1 (bytes "500001\n")
unfolding digits_of digits_in
weight_short =
    record {
      value = 500001;
      end = feed;
      rest = [];
      few = omega arith;
      ended = short refl refl;
      text = refl;
      outside = refl;
    }

-- 99 of 5051, in the third field
count_stops : NumbersStop outside_limits fit_line.limits 0 (bytes "1\t5051\t99\n") 7
unfolding fit_line tabbed all_hold digits_of digits_in
count_stops =
    record {
      before = 1 ∷ 5051 ∷ [];
      done = ranging 1 24 ∷ ranging 1 500000 ∷ [];
      here = ranging_count 1 99 500000;
      later = [];
      rest = bytes "99\n";
      into = 0;
      limits = refl;
      many = refl;
      held = refl;
      text = refl;
      place = refl;
      stops =
          in_limit refl refl (record {
            value = 99;
            end = feed;
            rest = [];
            few = omega arith;
            ended = as_due refl;
            text = refl;
            outside = refl;
          });
    }
