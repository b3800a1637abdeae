-- What the code answers of a text is told whole in 01's numbers: no two of its answers are the same in them.
use mathlib.Core.Path.{◌≡◌, refl, sym, ap, ◌∙◌}
use Prim.Native.Nat.{ℕ}
use Rattle.std.specs.Prelude.{Result, Ok, Err}
use Rattle.answers.specs.declared.TextFault.{TextFault}
use Rattle.answers.proofs.Told.{numbered, back}
use Rattle.text.specs.declared.Taken as Code
use Rattle.text.specs.declared.Fault as Why
use Rattle.text.specs.Read.{EntryRead, Number, Misread, entry_told, LineRead, Taken, Fault, line_told}
use Rattle.text.specs.Read.{TextRead, Whole, Wrong, text_told}

abbrev entry_back : EntryRead → Result Code.Taken Why.Fault
entry_back (Number n k) = Ok (record { number = n; len = k })
entry_back (Misread n at) = Err (record { refusal = numbered n; at = at })

entry : (r : Result Code.Taken Why.Fault) → entry_back (entry_told r) ≡ r
entry (Ok e) = refl
entry (Err f) = rw (back f.refusal)

pub entry_tells : {r q : Result Code.Taken Why.Fault} → entry_told r ≡ entry_told q → r ≡ q
entry_tells {r} {q} e = sym (entry r) ∙ ap entry_back e ∙ entry q

abbrev line_back : LineRead → Result ℕ Why.Fault
line_back (Taken k) = Ok k
line_back (Fault n at) = Err (record { refusal = numbered n; at = at })

line : (r : Result ℕ Why.Fault) → line_back (line_told r) ≡ r
line (Ok k) = refl
line (Err f) = rw (back f.refusal)

pub line_tells : {r q : Result ℕ Why.Fault} → line_told r ≡ line_told q → r ≡ q
line_tells {r} {q} e = sym (line r) ∙ ap line_back e ∙ line q

abbrev text_back : TextRead → Result ℕ TextFault
text_back (Whole n) = Ok n
text_back (Wrong n l b) = Err (record { refusal = numbered n; line = l; byte = b })

text : (r : Result ℕ TextFault) → text_back (text_told r) ≡ r
text (Ok n) = refl
text (Err f) = rw (back f.refusal)

pub text_tells : {r q : Result ℕ TextFault} → text_told r ≡ text_told q → r ≡ q
text_tells {r} {q} e = sym (text r) ∙ ap text_back e ∙ text q
