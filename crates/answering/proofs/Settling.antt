-- A call that nothing refuses is what comes next; so is one on a text that is read.
use mathlib.Core.Path.{◌≡◌, refl, sym}
use mathlib.Core.List.{List}
use Prim.Native.Nat.{ℕ}
use Rattle.form.specs.Outcome.{right}
use Rattle.answers.specs.Answer.{Answer}
use Rattle.answers.specs.Answer.{Done}
use Rattle.answers.specs.Settled.{Settled}
use Rattle.sheet.specs.SheetText.{read_sheet}
use Rattle.register.specs.Refusals.{or_refused, leaves, on_text}

-- it answers r and leaves y, as one that answers a, makes x and was lent m should
abbrev pub Left : Answer → List ℕ → List ℕ → Answer → List ℕ → Type 0
Left a x m r y = Settled a (leaves a x m) r y

module _ {refusal f : ℕ} (e : f ≡ refusal) where
  pub passed : (a : Answer) (x m : List ℕ) {r : Answer} {y : List ℕ}
      → f ≡ 0
      → Left a x m r y
      → Left (or_refused refusal a) x m r y
  passed a x m z p = rw (sym e, z) p

-- nothing refuses it
pub done : {x y : List ℕ} → y ≡ x → Settled Done x Done y
done e = record { answered = refl; kept = e }

-- ---- a text that is read

module _ (t : List ℕ) (a : Answer) (x : List ℕ) where
  pub text_passed : (m : List ℕ) {s y : List ℕ} {r : Answer}
      → read_sheet t ≡ right s
      → Left a x m r y
      → Left (on_text t a) x m r y
  text_passed m e p = rw (e, on_text) p
