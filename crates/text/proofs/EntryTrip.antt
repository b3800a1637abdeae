-- A number with its ending byte that is written reads back, and what reads as one is what it is written as.
use mathlib.Core.Path.{◌≡◌, refl, sym, ap, ◌∙◌}
use mathlib.Core.Bool.{true, false, ◌&&◌, ◌||◌, and-false}
use mathlib.Core.List.{List, [], ◌∷◌, ◌++◌, append-nil, append_assoc}
use Prim.Native.Nat.{ℕ, ◌+◌, ◌<◌}
use native.Mathlib.Omega.{arith}
use borrow.Author.Tests.{eq-eqb}
use lib.Dec.{eqb}
use lib.ListN.{length, drop, length-append}
use lib.Seq.{drop-append_seam, drop-drop}
use Rattle.ground.proofs.Booleans.{both_hold, by_test}
use Rattle.text.specs.Number.{NumberRead}
use Rattle.std.specs.Prelude.{Ok, Err}
use Rattle.text.specs.Read.{EntryRead}
use Rattle.text.specs.Read.{Number, Misread}
use Rattle.text.specs.Quoted.{tab, feed, dash}
use Rattle.text.specs.Field.{field_of, begins}
use Rattle.text.specs.Number.{eleven_digits, number_of, digits_of}
use Rattle.text.specs.declared.Limit.{Limit}
use Rattle.text.specs.Limit.{or_none, is_none, within, holds}
use Rattle.text.specs.Line.{ender, closer, judged, read_entry, entry_text}
use Rattle.text.proofs.Field.{begins_cons, field_split, field_stop, field_more}
use Rattle.text.proofs.NumberTrip.{read_writes, written_reads, field_digits, no_dash}
use Rattle.text.proofs.Limits.{none_zero, within_some, holds_within, within_holds}
use Rattle.text.proofs.Entry.{dash_ended, taken}
use Rattle.text.proofs.Led.{Led}

-- ---- a number and the byte that ends it

abbrev pub Ends : ℕ → Type 0
Ends e = (eqb e tab || eqb e feed) ≡ true

pub ender_ends : (ls : List Limit) → Ends (ender ls)
ender_ends [] = refl
ender_ends (l ∷ ls) = refl

closer_ends : (ls : List Limit) (ns : List ℕ) → Ends (closer ls ns)
closer_ends [] ns = refl
closer_ends (l ∷ ls) [] = refl
closer_ends (l ∷ ls) (n ∷ ns) = refl

-- the field of what is written is just that
pub entry_field : (l : Limit) (n e : ℕ) (rest : List ℕ) → Ends e → field_of (entry_text l n ++ (e ∷ rest)) ≡ entry_text l n
entry_field l n e rest w =
    by_test (is_none l n) (λ d. rw d (field_more dash (e ∷ rest) refl ∙ rw (field_stop e rest w)))
    (λ d. rw d (field_digits n (e ∷ rest) ∙ rw (field_stop e rest w, append-nil)))

-- what follows the field of what is written, and what follows its ending byte
module _ (l : Limit) (n e : ℕ) (u : List ℕ) where
  pub after_field_lem : Ends e → drop (length (field_of (entry_text l n ++ (e ∷ u)))) (entry_text l n ++ (e ∷ u)) ≡ e ∷ u
  after_field_lem w = rw (entry_field l n e u w) (drop-append_seam (entry_text l n) (e ∷ u))

  pub after_entry_lem : drop (length (entry_text l n) + 1) (entry_text l n ++ (e ∷ u)) ≡ u
  after_entry_lem = sym (drop-drop 1 (length (entry_text l n)) _) ∙ rw (drop-append_seam (entry_text l n) (e ∷ u))

-- how long an entry is, with its end and what follows
pub entry_long : (x y : List ℕ) (e : ℕ) → length x + 1 + length y ≡ length (x ++ (e ∷ y))
entry_long x y e = rw length-append (omega arith)

module _ (l : Limit) (last e n : ℕ) (rest : List ℕ) (w : Ends e) (h : holds l last n ≡ true) (m : n < eleven_digits)
  where
    none_forth : is_none l n ≡ true → read_entry l last e (dash ∷ e ∷ rest) ≡ Number n 2
    none_forth d =
        let r : (or_none l.rule && true) ≡ true = rw (both_hold (or_none l.rule) (eqb n 0) d).0 in
        let z = none_zero l n d in
        dash_ended (record { dashed = r }) (eq-eqb e e refl) ∙ rw z

    some_forth : is_none l n ≡ false → read_entry l last e (digits_of n ++ (e ∷ rest)) ≡ Number n (length (digits_of n) + 1)
    some_forth d =
        taken
        (record {
          undashed = rw (no_dash n (e ∷ rest), and-false);
          field = sym (field_digits n (e ∷ rest) ∙ rw (field_stop e rest w, append-nil));
          read = written_reads n m;
        })
        (rw (drop-append_seam (digits_of n) (e ∷ rest)) (eq-eqb e e refl))
        (holds_within l last n h d)

    pub entry_forth : read_entry l last e (entry_text l n ++ (e ∷ rest)) ≡ Number n (length (entry_text l n) + 1)
    entry_forth = by_test (is_none l n) (λ d. rw d (none_forth d)) (λ d. rw d (some_forth d))

-- what reads as n is what n is written as, and n may stand there
pub record Back (l : Limit) (last e : ℕ) (t : List ℕ) (n k : ℕ) : Type 0 where
  pub led : Led (entry_text l n ++ (e ∷ [])) t k
  pub held : holds l last n ≡ true

module _ (l : Limit) (last e : ℕ) (t : List ℕ) where
  -- so of an entry that reads as a number
  abbrev Returns : EntryRead → Type 0
  Returns (Number n k) = Back l last e t n k
  Returns (Misread number at) = Unit {0}

  none_back : (or_none l.rule && begins dash t) ≡ true → begins e (drop 1 t) ≡ true → Back l last e t 0 2
  none_back d b =
      let p = both_hold (or_none l.rule) (begins dash t) d in
      let r : is_none l 0 ≡ true = rw p.0 in
      let s : t ≡ dash ∷ e ∷ drop 2 t =
      begins_cons dash t p.1
      ∙ ap (λ (x : List ℕ). dash ∷ x) (begins_cons e (drop 1 t) b ∙ rw (drop-drop 1 1 t)) in
      record { led = record { start = rw r s; count = rw r }; held = rw r }

  value_back : (m : ℕ)
      → number_of (field_of t) ≡ Ok m
      → begins e (drop (length (field_of t)) t) ≡ true
      → within l last m ≡ true
      → Back l last e t m (length (field_of t) + 1)
  value_back m v b i =
      let f : field_of t ≡ digits_of m = read_writes (field_of t) m v in
      let s : t ≡ field_of t ++ (e ∷ drop (length (field_of t) + 1) t) =
      sym (field_split t)
      ∙ ap (λ (x : List ℕ). field_of t ++ x)
      (begins_cons e (drop (length (field_of t)) t) b ∙ rw (drop-drop 1 (length (field_of t)) t)) in
      let r = within_some l last m i in
      record {
        led = record { start = rw (r, append_assoc, ← f) s; count = rw (r, length-append, f) };
        held = within_holds l last m i;
      }

  judged_back : (r : NumberRead)
      → number_of (field_of t) ≡ r
      → Returns (judged r l last e (length (field_of t)) (drop (length (field_of t)) t))
  judged_back (Err at) v = tt
  judged_back (Ok m) v =
      by_test (begins e (drop (length (field_of t)) t))
      (λ b. by_test (within l last m) (λ i. rw (b, i) (value_back m v b i)) (λ i. rw (b, i) tt)) (λ b. rw b tt)

  returned : Returns (read_entry l last e t)
  unfolding read_entry
  returned =
      by_test (or_none l.rule && begins dash t)
      (λ d. by_test (begins e (drop 1 t)) (λ b. rw (d, b) (none_back d b)) (λ b. rw (d, b) tt))
      (λ d. rw d (judged_back (number_of (field_of t)) refl))

  pub entry_back : (n k : ℕ) → read_entry l last e t ≡ Number n k → Back l last e t n k
  entry_back n k v = rw v at returned
