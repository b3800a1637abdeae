-- What work makes of a sheet and of what the boat weighs by it: a piece of it, and so the calls of a block.
use Prim.Native.Nat.{ℕ, ◌+◌}
use native.Mathlib.Omega.{arith}
use mathlib.Core.Path.{◌≡◌, refl, sym, ap, ◌∙◌}
use mathlib.Core.Bool.{true, false, cond, true≢false}
use mathlib.Core.List.{List, [], ◌∷◌}
use lib.Dec.{eqb}
use lib.ListN.{length}
use lib.IntN.{ℤ, pos, ◌+ℤ◌, ◌-ℤ◌, +ℤ_idr, +ℤ_assoc}
use borrow.Author.Tests.{eqb-true}
use Rattle.ground.proofs.Booleans.{by_test, not_false}
use Rattle.answers.specs.Answer.{Answer}
use Rattle.answers.specs.Answer.{Done}
use Rattle.answers.specs.Values.{is_refusal}
use Rattle.sheet.specs.Places.{sheet_words}
use Rattle.capacity.specs.Weights.{boat_m}
use Rattle.capacity.proofs.Whole.{of_pos, sum_of, less_of, is_sub}
use Rattle.capacity.proofs.LineSet.{boat_set}
use Rattle.register.specs.Refusals.{set_own, or_refused, sheet_of}
use Rattle.register.specs.Calls.{Work, set_fitting, replace, try_plate, open_hull, work}
use Rattle.register.proofs.Own.{set_fits}
use Rattle.history.specs.Replies.{Reply, accepted}
use Rattle.history.specs.Runs.{Event, ◌⇒◌}
use Rattle.history.specs.Told.{worked, redo}
use Rattle.history.specs.Weights.{work_moves, block_moves}
use Rattle.history.proofs.Model.{work_says}

-- ---- a piece of work

-- what work that is accepted has passed
pub no_refusal : (refusal : ℕ) (a : Answer) → is_refusal (or_refused refusal a) ≡ false → refusal ≡ 0
no_refusal refusal a e =
    by_test (eqb refusal 0) (eqb-true refusal 0) (λ z. absurd (true≢false (rw z at e)))

-- b grams with c more and d less
shifted : (a b c d : ℕ) → a + d ≡ b + c → pos a ≡ pos b +ℤ (pos c -ℤ pos d)
shifted a b c d e =
    is_sub (b + c) d (of_pos a) (omega arith)
    ∙ sym (is_sub (b + c) d (sum_of (of_pos b) (less_of (of_pos c) (of_pos d))) (omega arith))

work_moves_lem : (w : Work) (s : List ℕ)
    → length s ≡ sheet_words
    → accepted (work_says w s) ≡ true
    → pos (boat_m (worked w s)) ≡ pos (boat_m s) +ℤ work_moves w s
unfolding work_says
work_moves_lem (set_fitting line weight count) s n a =
    let z = no_refusal (set_own s line weight count) Done (not_false _ a) in
    let p = set_fits s line weight count z in
    shifted _ _ _ _ (boat_set weight count s line n p.low p.high)
work_moves_lem (replace t) s n a = shifted (boat_m (sheet_of t)) (boat_m s) (boat_m (sheet_of t)) (boat_m s) (omega arith)
work_moves_lem (try_plate k) s n a = sym (+ℤ_idr (pos (boat_m s)))

-- ---- a block

-- t is the sheet that the calls b make of s, and what it weighs has moved by what they moved it
pub record Made (b : List Event) (s t : List ℕ) : Type 0 where
  pub sheet : t ≡ redo b s
  pub weight : pos (boat_m t) ≡ pos (boat_m s) +ℤ block_moves b s

pub made_opened : (d h : ℕ) (r : Reply) (s : List ℕ) → Made ((open_hull d h ⇒ r) ∷ []) s s
unfolding redo block_moves
made_opened d h r s = record { sheet = refl; weight = sym (+ℤ_idr (pos (boat_m s))) }

pub made_worked : {b : List Event} {s t : List ℕ} (d : ℕ) (w : Work)
    → length t ≡ sheet_words
    → Made b s t
    → Made ((work d w ⇒ work_says w t) ∷ b) s (cond (accepted (work_says w t)) (worked w t) t)
unfolding redo block_moves
made_worked {b} {s} {t} d w n m =
    by_test (accepted (work_says w t))
    (λ a.
    record {
      sheet = rw (a, redo) (ap (worked w) m.sheet);
      weight = rw (a, block_moves)
          (work_moves_lem w t n a
          ∙ ap (λ (z : ℤ). z +ℤ work_moves w t) m.weight
          ∙ +ℤ_assoc (pos (boat_m s)) (block_moves b s) (work_moves w t)
          ∙ ap (λ (l : List ℕ). pos (boat_m s) +ℤ (block_moves b s +ℤ work_moves w l)) m.sheet);
    })
    (λ a.
    record {
      sheet = rw (a, redo) m.sheet;
      weight = rw (a, block_moves) (m.weight ∙ ap (λ (z : ℤ). pos (boat_m s) +ℤ z) (sym (+ℤ_idr (block_moves b s))));
    })
