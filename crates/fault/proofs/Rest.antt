-- What stands after a line: a text by "a line, and then a text by S" has a rest by S, and any other rule that the rest
-- is by may take the place of S.
use mathlib.Core.Logic.{inl, inr}
use mathlib.Core.List.{List, [], ◌∷◌}
use Prim.Native.Nat.{ℕ}
use Rattle.text.specs.Quoted.{feed}
use Rattle.text.specs.declared.Limit.{Limit}
use Rattle.text.specs.Line.{Line, ender}
use Rattle.fault.specs.Rules.{Rule, Just, Then, Entry, FieldsThen, LineThen, OneThen}

pub record Rest (W : Rule → Rule) (S : Rule) (t : List ℕ) : Type 1 where
  pub rest : List ℕ
  pub by : S rest
  pub again : (T : Rule) → T rest → W T t

module _ (S : Rule) where
  -- the same after a text by R
  then_rest : (R : Rule) (W : Rule → Rule) (t : List ℕ) (w : Then R (W S) t) → Rest W S w.two
      → Rest (λ T. Then R (W T)) S t
  then_rest R W t w r =
      record {
        rest = r.rest;
        by = r.by;
        again = λ T x.
            record { one = w.one; two = w.two; joined = w.joined; by_one = w.by_one; by_two = r.again T x };
      }

  -- all of it is the rest
  whole_rest : (t : List ℕ) → S t → Rest (λ T. T) S t
  whole_rest t s = record { rest = t; by = s; again = λ T x. x }

  fields_rest : (ls : List Limit) (t : List ℕ) → FieldsThen ls S t → Rest (FieldsThen ls) S t
  fields_rest [] t s = whole_rest t s
  fields_rest (l ∷ ls) t (inl w) =
      let r = then_rest (Entry l.rule (ender ls)) (FieldsThen ls) t w (fields_rest ls w.two w.by_two) in
      record { rest = r.rest; by = r.by; again = λ T x. inl (r.again T x) }
  fields_rest (l ∷ ls) t (inr (q, w)) =
      let r = then_rest (Entry l.rule feed) (λ T. T) t w (whole_rest w.two w.by_two) in
      record { rest = r.rest; by = r.by; again = λ T x. inr (q, r.again T x) }

  line_rest : (l : Line) (t : List ℕ) → LineThen l S t → Rest (LineThen l) S t
  line_rest l t w =
      then_rest (Just l.tag) (FieldsThen l.limits) t w (fields_rest l.limits w.two w.by_two)

  pub one_rest : (ls : List Line) (t : List ℕ) → OneThen ls S t → Rest (OneThen ls) S t
  one_rest [] t w = absurd w
  one_rest (l ∷ ls) t (inl w) =
      let r = line_rest l t w in
      record { rest = r.rest; by = r.by; again = λ T x. inl (r.again T x) }
  one_rest (l ∷ ls) t (inr w) =
      let r = one_rest ls t w in
      record { rest = r.rest; by = r.by; again = λ T x. inr (r.again T x) }
