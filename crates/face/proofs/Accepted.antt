-- Between demand 3 and C: C reads refusal 0 exactly where a call was accepted, since no call refuses by 0.
use mathlib.Core.Path.{◌≡◌, refl, sym, ◌∙◌}
use mathlib.Core.Bool.{Bool, true, false, not, ◌&&◌, true≢false}
use mathlib.Core.Logic.{◌↔◌}
use mathlib.Core.List.{List}
use Prim.Native.Nat.{ℕ}
use lib.Dec.{leb}
use Rattle.answers.specs.Refusals.{bad_memory, empty_line}
use Rattle.answers.specs.Answer.{Answer}
use Rattle.answers.specs.Answer.{Refused, RefusedAt, Done, Count, Plate}
use Rattle.sheet.specs.SheetText.{read_sheet}
use Rattle.sheet.specs.EngineText.{read_engines}
use Rattle.sheet.specs.TextCalls.{read_answer, write_answer, engines_answer}
use Rattle.sheet.proofs.Listed.{read_listed, write_listed, engines_listed}
use Rattle.answers.proofs.Outcomes.{OfList}
use Rattle.register.specs.Calls.{Call, lent, fresh_step, step}
use Rattle.register.proofs.Effects.{Untouched, refused_leaves}
use Rattle.register.proofs.Listed.{fresh_listed, step_listed}
use Rattle.history.specs.Replies.{accepted, reply}
use Rattle.answers.specs.Values.{faced, is_refusal}

-- a refusal of the list is not 0
not_none : (n : ℕ) → (leb bad_memory n && leb n empty_line) ≡ true → n ≡ 0 → ⊥
not_none n h e = true≢false (sym h ∙ rw e refl)

-- C reads refusal 0 exactly where the answer is none
abbrev Told : Answer → Type 0
Told a = ((faced a).refusal ≡ 0) ↔ (not (is_refusal a) ≡ true)

zero_taken : (a : Answer) → OfList a → Told a
zero_taken (Refused n) h = (λ e. absurd (not_none n h e), λ e. absurd (true≢false (sym e)))
zero_taken (RefusedAt n line byte) h = (λ e. absurd (not_none n h e), λ e. absurd (true≢false (sym e)))
zero_taken Done h = (λ e. refl, λ e. refl)
zero_taken (Count n) h = (λ e. refl, λ e. refl)
zero_taken (Plate a b) h = (λ e. refl, λ e. refl)

-- every call on the register, in whatever memory
pub zero_accepted : (m : List ℕ) (c : Call) → ((faced (reply m c).answer).refusal ≡ 0) ↔ (accepted (reply m c) ≡ true)
unfolding reply
zero_accepted m c = zero_taken (reply m c).answer (step_listed m c)

-- where C reads any other refusal, nothing lent was changed
pub refusal_leaves : (m : List ℕ) (c : Call)
    → ((faced (step m c).answer).refusal ≡ 0 → ⊥)
    → Untouched (step m c) m (lent c)
refusal_leaves m c n = go (is_refusal (step m c).answer) refl
  where
    go : (b : Bool) → is_refusal (step m c).answer ≡ b → Untouched (step m c) m (lent c)
    go true e = refused_leaves m c e
    go false e = absurd (n ((zero_taken (step m c).answer (step_listed m c)).1 (rw e refl)))

-- the calls that are no part of a run
pub zero_fresh : (m : List ℕ) → Told (fresh_step m).answer
zero_fresh m = zero_taken (fresh_step m).answer (fresh_listed m)

pub zero_read : (t : List ℕ) → Told (read_answer (read_sheet t))
zero_read t = zero_taken (read_answer (read_sheet t)) (read_listed t)

pub zero_written : (s : List ℕ) (room : ℕ) → Told (write_answer s room)
zero_written s room = zero_taken (write_answer s room) (write_listed s room)

pub zero_engines : (t : List ℕ) (a b : ℕ) → Told (engines_answer (read_engines t) a b)
zero_engines t a b = zero_taken (engines_answer (read_engines t) a b) (engines_listed t a b)
