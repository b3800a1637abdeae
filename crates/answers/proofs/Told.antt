-- What the code answers is told whole in 01's numbers: no two answers of the code are the same in them.
use mathlib.Core.Path.{◌≡◌, refl, sym, ap, ◌∙◌}
use mathlib.Core.List.{List, [], ◌∷◌}
use Prim.Native.Nat.{ℕ}
use lib.ListN.{get_or}
use Rattle.std.specs.Prelude.{Result, Ok, Err}
use Rattle.answers.specs.declared.Refusal.{Refusal}
use Rattle.answers.specs.declared.Refusal.TheVariants as By
use Rattle.answers.specs.declared.TextFault.{TextFault}
use Rattle.answers.specs.declared.Figures as Of
use Rattle.answers.specs.declared.Figures.TheVariants as Code
use Rattle.answers.specs.declared.Refused as Why
use Rattle.answers.specs.declared.Refused.TheVariants as Because
use Rattle.answers.specs.Answer.{Answer, Refused, RefusedAt, Done, Count, Plate}
use Rattle.answers.specs.Refusals.{number}
use Rattle.answers.specs.Values.{in_numbers}

-- ---- a refusal, by its number

abbrev refusals : List Refusal
refusals =
    By.BadMemory ∷ By.BrokenLine ∷ By.OutsideLimits ∷ By.Full ∷ By.NoHull ∷ By.NoDesk ∷ By.NoDraft ∷ By.EditedSince
    ∷ By.EditsSpent ∷ By.BadRows ∷ By.NoRow ∷ By.NoLoad ∷ By.NoPower ∷ By.Untested ∷ By.NoPersons ∷ By.NoRoom
    ∷ By.EmptyLine ∷ []

-- the refusal of a number of the list
abbrev pub numbered : ℕ → Refusal
numbered n = get_or (By.BadMemory ∷ refusals) n By.BadMemory

pub back : (r : Refusal) → numbered (number r) ≡ r
back By.BadMemory = refl
back By.BrokenLine = refl
back By.OutsideLimits = refl
back By.Full = refl
back By.NoHull = refl
back By.NoDesk = refl
back By.NoDraft = refl
back By.EditedSince = refl
back By.EditsSpent = refl
back By.BadRows = refl
back By.NoRow = refl
back By.NoLoad = refl
back By.NoPower = refl
back By.Untested = refl
back By.NoPersons = refl
back By.NoRoom = refl
back By.EmptyLine = refl

-- no two have one number
pub number_tells : {r q : Refusal} → number r ≡ number q → r ≡ q
number_tells {r} {q} e = sym (back r) ∙ ap numbered e ∙ back q

-- ---- an answer

abbrev read_back : Answer → Result Of.Figures Why.Refused
read_back (Refused n) = Err (Because.Plain (numbered n))
read_back (RefusedAt n line byte) = Err (Because.InText (record { refusal = numbered n; line = line; byte = byte }))
read_back Done = Ok Code.Done
read_back (Count n) = Ok (Code.Count n)
read_back (Plate load figure) = Ok (Code.Plate load figure)

told : (a : Result Of.Figures Why.Refused) → read_back (in_numbers a) ≡ a
told (Ok Code.Done) = refl
told (Ok (Code.Count n)) = refl
told (Ok (Code.Plate load figure)) = refl
told (Err (Because.Plain r)) = rw (back r)
told (Err (Because.InText f)) = rw (back f.refusal)

pub answer_tells : {a b : Result Of.Figures Why.Refused} → in_numbers a ≡ in_numbers b → a ≡ b
answer_tells {a} {b} e = sym (told a) ∙ ap read_back e ∙ told b
