-- What comes first. What calls share decides before what only this call asks, whatever that would say; and a memory
-- that is not well formed comes before all. And writing a hull is never outside the limits: its sheet is within them,
-- or the memory was refused.
use mathlib.Core.Path.{◌≡◌, refl}
use mathlib.Core.Bool.{Bool, true, false, cond}
use mathlib.Core.List.{List, ◌∷◌}
use Prim.Native.Nat.{ℕ, ◌<◌}
use native.Mathlib.Omega.{arith}
use borrow.Author.Tests.{eqb-true, ne_eqb}
use lib.Dec.{eqb, leb, ltb}
use lib.ListN.{length}
use Rattle.answers.specs.Refusals.{bad_memory, outside_limits}
use Rattle.answers.specs.Answer.{Answer}
use Rattle.answers.specs.Answer.{Refused, RefusedAt, Done, Count, Plate}
use Rattle.ground.proofs.Booleans.{either}
use Rattle.sheet.specs.Sheet.{sheet_ok}
use Rattle.sheet.specs.SheetText.{sheet_text}
use Rattle.sheet.specs.TextCalls.{write_answer}
use Rattle.sheet.proofs.Words.{numbered}
use Rattle.memory.specs.Layout.{hull_count, hull_sheet}
use Rattle.memory.specs.Formed.{formed}
use Rattle.memory.proofs.Sound.{sound}
use Rattle.register.specs.Refusals.{hull_refusal}
use Rattle.register.specs.Calls.{write, Call, new_hull, open_hull, work, save, drop_draft, ask, shared, step}
use Rattle.register.proofs.Refusals.{hull_unformed, desk_unformed, room_unformed, open_unformed, hull_goes}

pub shared_first : (m : List ℕ) (c : Call) → (shared m c ≡ 0 → ⊥) → (step m c).answer ≡ Refused (shared m c)
shared_first m c n = rw (ne_eqb (shared m c) 0 n) refl

-- ---- a memory that is not well formed

shared_unformed : (m : List ℕ) (c : Call) → formed m ≡ false → bad_memory ≡ shared m c
shared_unformed m (new_hull t) e = room_unformed m e
shared_unformed m (open_hull d h) e = open_unformed m d h e
shared_unformed m (work d w) e = desk_unformed m d e
shared_unformed m (save d) e = desk_unformed m d e
shared_unformed m (drop_draft d) e = desk_unformed m d e
shared_unformed m (ask h q) e = hull_unformed m h e

pub memory_first : (m : List ℕ) (c : Call) → formed m ≡ false → (step m c).answer ≡ Refused bad_memory
memory_first m c e = rw (← shared_unformed m c e) refl

-- ---- writing a hull

-- an entered hull's sheet is within the limits, its number included
pub hull_within : (m : List ℕ) (h : ℕ) → formed m ≡ true → h < hull_count m → sheet_ok (h ∷ hull_sheet m h) ≡ true
hull_within m h e l =
    let s = sound m e in numbered h (hull_sheet m h) (omega (arith, s.few)) (s.hulls h l).sheet.within

abbrev is_outside : Answer → Bool
is_outside (Refused number) = eqb number outside_limits
is_outside (RefusedAt number line byte) = eqb number outside_limits
is_outside Done = false
is_outside (Count n) = false
is_outside (Plate a b) = false

abbrev Inside : Answer → Type 0
Inside a = is_outside a ≡ false

hull_inside : (m : List ℕ) (h : ℕ) → Inside (Refused (hull_refusal m h))
unfolding hull_refusal
hull_inside m h = either P (formed m) (either P (ltb h (hull_count m)) refl refl) refl
  where
    P : ℕ → Type 0
    P n = Inside (Refused n)

pub never_outside : (m : List ℕ) (h : ℕ) (out : List ℕ) → Inside (step m (ask h (write out))).answer
never_outside m h out = go (eqb (hull_refusal m h) 0) refl
  where
    fits : Bool
    fits = leb (length (sheet_text (h ∷ hull_sheet m h))) (length out)

    go : (t : Bool)
        → eqb (hull_refusal m h) 0 ≡ t
        → Inside (cond t (write_answer (h ∷ hull_sheet m h) (length out)) (Refused (hull_refusal m h)))
    go true z =
        let g = hull_goes m h (eqb-true (hull_refusal m h) 0 z) in
        rw (hull_within m h g.ok g.entered) (either Inside fits refl refl)
    go false z = hull_inside m h
