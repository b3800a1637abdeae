-- The single text as a caller sees it, over the very terms that the calls promise.
use mathlib.Core.Path.{◌≡◌, refl, ap, ◌∙◌}
use mathlib.Core.Bool.{true}
use mathlib.Core.List.{List}
use Prim.Native.Nat.{ℕ, ◌≤◌}
use native.Mathlib.Omega.{arith}
use borrow.Author.Tests.{le-leb}
use lib.ListN.{length, take, drop}
use lib.Seq.{take-append_seam}
use Rattle.answers.specs.Answer.{Done, Count}
use Rattle.form.specs.Outcome.{Verdict, right, wrong}
use Rattle.sheet.specs.Sheet.{sheet_ok}
use Rattle.sheet.specs.SheetText.{read_sheet, sheet_text}
use Rattle.sheet.specs.Renewed.{renewed, is_new}
use Rattle.sheet.specs.TextCalls.{read_answer, read_into, write_answer, write_into}
use Rattle.sheet.proofs.SheetText.{written_reads, reads_written}

-- a sheet was written: the call answered how many bytes its text has, and those bytes are the text
pub record Wrote (s out : List ℕ) : Type 0 where
  pub answer : write_answer s (length out) ≡ Count (length (sheet_text s))
  pub bytes : take (length (sheet_text s)) (write_into s out) ≡ sheet_text s

pub wrote : (s out : List ℕ) → sheet_ok s ≡ true → length (sheet_text s) ≤ length out → Wrote s out
wrote s out h r =
    let n = le-leb (length (sheet_text s)) (length out) r in
    let seam = take-append_seam (sheet_text s) (drop (length (sheet_text s)) out) in
    record { answer = rw (h, n); bytes = rw (h, n) seam }

-- reading what was written gives the sheet
pub write_then_read : (s out before : List ℕ) → sheet_ok s ≡ true
    → length (sheet_text s) ≤ length out
    → read_into (read_sheet (take (length (sheet_text s)) (write_into s out))) before ≡ s
write_then_read s out before h r =
    ap (λ (t : List ℕ). read_into (read_sheet t) before) (wrote s out h r).bytes ∙ rw (written_reads s h)

done_right : (q : Verdict (List ℕ)) → read_answer q ≡ Done → (s : List ℕ) × (q ≡ right s)
done_right (right s) e = (s, refl)
done_right (wrong number line byte) e = let z : ◌≡◌ {A = ℕ} 0 1 = cc in absurd (omega arith)

-- the text t was read, and what was read was written: the bytes u came out
pub record WroteBack (t before out u : List ℕ) : Type 0 where
  pub answer : write_answer (read_into (read_sheet t) before) (length out) ≡ Count (length u)
  pub bytes : take (length u) (write_into (read_into (read_sheet t) before) out) ≡ u

written_back : (t before out u s : List ℕ) → read_sheet t ≡ right s → sheet_ok s ≡ true → u ≡ sheet_text s
    → length u ≤ length out
    → WroteBack t before out u
written_back t before out u s e ok q r =
    let p = wrote s out ok (rw q at r) in
    record { answer = rw (e, q) p.answer; bytes = rw (e, q) p.bytes }

-- writing what was read gives the text renewed, 02 (vi), and so the text itself where its FIT lines have three numbers
pub read_then_write : (t before out : List ℕ) → read_answer (read_sheet t) ≡ Done
    → (length (renewed t) ≤ length out → WroteBack t before out (renewed t))
    × (is_new t ≡ true → length t ≤ length out → WroteBack t before out t)
read_then_write t before out d =
    let k = done_right (read_sheet t) d in
    let w = reads_written t k.0 k.1 in (
      λ r. written_back t before out (renewed t) k.0 k.1 w.within w.text r,
      λ n r. written_back t before out t k.0 k.1 w.within (w.same n) r,
    )
