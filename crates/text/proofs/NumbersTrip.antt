-- From the numbers of a line to their text and back, and from a text that reads to its numbers and back, be there fewer
-- than limits where some may be left out.
use mathlib.Core.Path.{◌≡◌, refl, sym, ◌∙◌}
use mathlib.Core.Bool.{true, false, and-false}
use mathlib.Core.List.{List, [], ◌∷◌, ◌++◌, append_assoc}
use Prim.Native.Nat.{ℕ, ◌+◌}
use native.Mathlib.Nat.{add-zero}
use native.Mathlib.Omega.{arith}
use lib.Dec.{ltb}
use lib.ListN.{length, drop}
use Rattle.text.specs.Read.{LineRead}
use Rattle.text.specs.Read.{Taken, Fault}
use Rattle.text.specs.Quoted.{tab, feed}
use Rattle.text.specs.Number.{eleven_digits}
use Rattle.text.specs.declared.Limit.{Limit}
use Rattle.text.specs.Limit.{counts, holds, spare, all_hold}
use Rattle.text.specs.Line.{Reading, ender, stops_short, read_entry, read_numbers}
use Rattle.text.specs.Read.{shift_by}
use Rattle.text.specs.Line.{entry_text, closer, numbers_text}
use Rattle.ground.proofs.Booleans.{both_hold, false_true, by_test}
use Rattle.text.proofs.Line.{numbers_short, numbers_whole, short_spare}
use Rattle.text.proofs.Led.{Led, led_more, led_none}
use Rattle.text.proofs.Limits.{narrow, readable, readable_narrow, readable_some, holds_small}
use Rattle.text.proofs.Entry.{by_entry}
use Rattle.text.proofs.EntryTrip.{after_field_lem, after_entry_lem, entry_long, Back, entry_back, entry_forth}

-- how a reading that went well after k bytes went
pub shift_taken : (j : ℕ) (r : LineRead) (k : ℕ) → shift_by j r ≡ Taken k → (i : ℕ) × (r ≡ Taken i) × (k ≡ j + i)
shift_taken j (Taken i) k e = (i, refl, cc)
shift_taken j (Fault number at) k e = let z : ◌≡◌ {A = ℕ} 0 1 = cc in absurd (omega arith)

-- ---- numbers

abbrev pub got : ℕ → List ℕ → Reading
got k ns = record { ended = Taken k; numbers = ns }

-- of some numbers
some_forth : (l : Limit) (ls : List Limit) (last n : ℕ) (ns rest : List ℕ) → narrow (l ∷ ls) ≡ true
    → all_hold (l ∷ ls) last (n ∷ ns) ≡ true
    → read_numbers (l ∷ ls) last (numbers_text (l ∷ ls) (n ∷ ns) ++ rest)
    ≡ got (length (numbers_text (l ∷ ls) (n ∷ ns))) (n ∷ ns)
unfolding numbers_text all_hold narrow read_numbers
some_forth l [] last n [] rest w h =
    let hs = both_hold (holds l last n) true h in
    let ws = both_hold (ltb l.high eleven_digits) true w in
    let x : List ℕ = entry_text l n in
    let f = entry_forth l last feed n rest refl hs.0 (holds_small l last n ws.0 hs.0) in
    rw (append_assoc x (feed ∷ []) rest, f, entry_long x [] feed)
some_forth l [] last n (k ∷ ns) rest w h = false_true (both_hold (holds l last n) false h).1
some_forth l (m ∷ ls) last n [] rest w h =
    let hs = both_hold (holds l last n) (counts m.rule) h in
    let ws = both_hold (ltb l.high eleven_digits) (narrow (m ∷ ls)) w in
    let x : List ℕ = entry_text l n in
    let f = entry_forth l last feed n rest refl hs.0 (holds_small l last n ws.0 hs.0) in
    let c : stops_short (m ∷ ls) (x ++ (feed ∷ rest)) ≡ true = rw (after_field_lem l n feed rest refl, hs.1) in
    rw (append_assoc x (feed ∷ []) rest, numbers_short l (m ∷ ls) last (x ++ (feed ∷ rest)) c, f, entry_long x [] feed)
some_forth l (m ∷ ls) last n (k ∷ ns) rest w h =
    let hs = both_hold (holds l last n) (all_hold (m ∷ ls) n (k ∷ ns)) h in
    let ws = both_hold (ltb l.high eleven_digits) (narrow (m ∷ ls)) w in
    let x : List ℕ = entry_text l n in
    let more : List ℕ = numbers_text (m ∷ ls) (k ∷ ns) in
    let u : List ℕ = more ++ rest in
    let f = entry_forth l last tab n u refl hs.0 (holds_small l last n ws.0 hs.0) in
    let c : stops_short (m ∷ ls) (x ++ (tab ∷ u)) ≡ false =
    rw (after_field_lem l n tab u refl, and-false (counts m.rule)) in
    let r = some_forth m ls n k ns rest ws.1 hs.1 in
    rw (
      append_assoc x (tab ∷ more) rest,
      numbers_whole l (m ∷ ls) last (x ++ (tab ∷ u)) c,
      f,
      after_entry_lem l n tab u,
      r,
      entry_long x more tab,
    )

pub numbers_forth : (ls : List Limit) (last : ℕ) (ns rest : List ℕ) → readable ls ≡ true → all_hold ls last ns ≡ true
    → read_numbers ls last (numbers_text ls ns ++ rest) ≡ got (length (numbers_text ls ns)) ns
unfolding read_numbers numbers_text all_hold
numbers_forth [] last [] rest w h = refl
numbers_forth [] last (n ∷ ns) rest w h = false_true h
numbers_forth (l ∷ ls) last [] rest w h = false_true (sym (readable_some (l ∷ ls) w) ∙ h)
numbers_forth (l ∷ ls) last (n ∷ ns) rest w h = some_forth l ls last n ns rest (readable_narrow (l ∷ ls) w) h

-- what reads as numbers is what they are written as, and each may stand where it does
pub record BackAll (ls : List Limit) (last : ℕ) (x t : List ℕ) (k : ℕ) (ns : List ℕ) : Type 0 where
  pub led : Led x t k
  pub held : all_hold ls last ns ≡ true

-- a number is ended as it must be, where those after it are read
closer_due : (ls : List Limit) (last : ℕ) (t : List ℕ) (k : ℕ) → (read_numbers ls last t).ended ≡ Taken k
    → closer ls (read_numbers ls last t).numbers ≡ ender ls
closer_due [] last t k e = refl
closer_due (l ∷ ls) last t k e =
    by_test (stops_short ls t)
    (λ c.
    let q = numbers_short l ls last t c in
    by_entry (read_entry l last feed t) (λ n j v. rw (q, v) refl)
    (λ number at v.
    let f : Fault number at ≡ Taken k = rw (q, v) at e in
    false_true (cc)))
    (λ c.
    let q = numbers_whole l ls last t c in
    by_entry (read_entry l last (ender ls) t) (λ n j v. rw (q, v) refl)
    (λ number at v.
    let f : Fault number at ≡ Taken k = rw (q, v) at e in
    false_true (cc)))

-- the last number of a line, others being left out
short_back : (l : Limit) (ls : List Limit) (last : ℕ) (t : List ℕ) (n k : ℕ) → spare ls ≡ true
    → Back l last feed t n k
    → BackAll (l ∷ ls) last (numbers_text (l ∷ ls) (n ∷ [])) t k (n ∷ [])
unfolding numbers_text all_hold
short_back l [] last t n k s b = false_true s
short_back l (m ∷ ls) last t n k s b = record { led = b.led; held = rw b.held s }

pub numbers_back : (ls : List Limit) (last : ℕ) (t : List ℕ) (k : ℕ)
    → (read_numbers ls last t).ended ≡ Taken k
    → BackAll ls last (numbers_text ls (read_numbers ls last t).numbers) t k (read_numbers ls last t).numbers
unfolding numbers_text all_hold read_numbers
numbers_back [] last t k e =
    let z : 0 ≡ k = cc in
    rw (← z) (record { led = led_none t; held = refl })
numbers_back (l ∷ ls) last t k e =
    by_test (stops_short ls t)
    (λ c.
    let q = numbers_short l ls last t c in
    by_entry (read_entry l last feed t)
    (λ n j v.
    let f : Taken (j + 0) ≡ Taken k = rw (q, v) at e in
    let z : j + 0 ≡ k = cc in
    let b : Back l last feed t n k = rw (← z, add-zero j) (entry_back l last feed t n j v) in
    rw (q, v) (short_back l ls last t n k (short_spare ls t c) b))
    (λ number at v.
    let f : Fault number at ≡ Taken k = rw (q, v) at e in
    false_true (cc)))
    (λ c.
    let q = numbers_whole l ls last t c in
    by_entry (read_entry l last (ender ls) t)
    (λ n j v.
    let b = entry_back l last (ender ls) t n j v in
    let rest : Reading = read_numbers ls n (drop j t) in
    let s = shift_taken j rest.ended k (rw (q, v) at e) in
    let p = numbers_back ls n (drop j t) s.0 s.1 in
    let a = append_assoc (entry_text l n) (ender ls ∷ []) (numbers_text ls rest.numbers) in
    let d = closer_due ls n (drop j t) s.0 s.1 in
    rw (q, v, d) (record { led = rw s.2 (rw a at (led_more b.led p.led)); held = rw (b.held, p.held) }))
    (λ number at v.
    let f : Fault number at ≡ Taken k = rw (q, v) at e in
    false_true (cc)))
