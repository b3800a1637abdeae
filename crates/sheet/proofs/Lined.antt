-- A line as it is written: no line feed in it but at its end, and a tab before each number.
use mathlib.Core.Path.{◌≡◌, refl, ap, ◌∙◌}
use mathlib.Core.Logic.{◌≢◌}
use mathlib.Core.Bool.{true, false, true≢false, ◌||◌}
use mathlib.Core.List.{List, [], ◌∷◌, ◌++◌, append_assoc}
use Prim.Native.Nat.{ℕ, suc, ◌+◌}
use native.Mathlib.Omega.{arith}
use borrow.Author.Tests.{eq-eqb, ne_eqb, eqb-false}
use lib.Dec.{eqb}
use lib.ListN.{length}
use Rattle.text.specs.Quoted.{tab, feed}
use Rattle.text.specs.Field.{field_of}
use Rattle.text.specs.declared.Limit.{Limit}
use Rattle.text.specs.Limit.{holds, all_hold}
use Rattle.text.specs.Line.{Line, entry_text, numbers_text, line_text}
use Rattle.text.specs.Place.{feeds}
use Rattle.ground.proofs.Booleans.{both_hold, false_true, by_test, by_equal}
use Rattle.text.proofs.Field.{field_stop, field_more}
use Rattle.text.proofs.EntryTrip.{entry_field}
use Rattle.text.proofs.Place.{feeds_other, feeds_append}
use Rattle.sheet.specs.Renewed.{tabs}

-- x is one line, with so many tabs
pub record Lined (x : List ℕ) (many : ℕ) : Type 0 where
  pub before : List ℕ
  pub free : feeds before ≡ 0
  pub tabbed : tabs before ≡ many
  pub whole : x ≡ before ++ (feed ∷ [])

-- ---- tabs

tabs_tab : (t : List ℕ) → tabs (tab ∷ t) ≡ suc (tabs t)
unfolding tabs
tabs_tab t = refl

tabs_other : (b : ℕ) (t : List ℕ) → b ≢ tab → tabs (b ∷ t) ≡ tabs t
unfolding tabs
tabs_other b t n = rw (ne_eqb b tab n, tabs)

pub tabs_append : (x y : List ℕ) → tabs (x ++ y) ≡ tabs x + tabs y
unfolding tabs
tabs_append [] y = omega arith
tabs_append (b ∷ x) y =
    let ih = tabs_append x y in
    by_equal b tab (λ e. rw (eq-eqb b tab e, tabs) (omega arith)) (λ n. rw (ne_eqb b tab n, tabs) ih)

-- ---- a field has neither

neither : (b : ℕ) → (eqb b tab || eqb b feed) ≡ false → (b ≢ tab) × (b ≢ feed)
neither b h =
    by_test (eqb b tab) (λ e. absurd (true≢false (rw e at h)))
    (λ e. (eqb-false b tab e, eqb-false b feed (rw e at h)))

field_free : (t : List ℕ) → (feeds (field_of t) ≡ 0) × (tabs (field_of t) ≡ 0)
unfolding field_of tabs feeds
field_free [] = (refl, refl)
field_free (b ∷ t) =
    by_test (eqb b tab || eqb b feed) (λ e. rw (field_stop b t e) (refl, refl))
    (λ e.
    let n = neither b e in
    let ih = field_free t in
    rw (field_more b t e)
    (feeds_other b (field_of t) n.1 ∙ ih.0, tabs_other b (field_of t) n.0 ∙ ih.1))

pub entry_free : (l : Limit) (n : ℕ) → (feeds (entry_text l n) ≡ 0) × (tabs (entry_text l n) ≡ 0)
entry_free l n = rw (entry_field l n feed [] refl) at (field_free (entry_text l n ++ (feed ∷ [])))

-- ---- numbers, and a line

numbers_lined : (l : Limit) (ls : List Limit) (last n : ℕ) (ns : List ℕ) → all_hold (l ∷ ls) last (n ∷ ns) ≡ true
    → Lined (numbers_text (l ∷ ls) (n ∷ ns)) (length ns)
unfolding numbers_text all_hold
numbers_lined l [] last n [] h =
    record { before = entry_text l n; free = (entry_free l n).0; tabbed = (entry_free l n).1; whole = refl }
numbers_lined l [] last n (k ∷ ns) h = false_true (both_hold (holds l last n) false h).1
numbers_lined l (m ∷ ls) last n [] h =
    record { before = entry_text l n; free = (entry_free l n).0; tabbed = (entry_free l n).1; whole = refl }
numbers_lined l (m ∷ ls) last n (k ∷ ns) h =
    let p = numbers_lined m ls n k ns (both_hold (holds l last n) (all_hold (m ∷ ls) n (k ∷ ns)) h).1 in
    let x : List ℕ = entry_text l n in
    let e = entry_free l n in
    let f : feeds (tab ∷ p.before) ≡ feeds p.before = feeds_other tab p.before (λ z. omega arith) in
    record {
      before = x ++ (tab ∷ p.before);
      free = omega (arith, feeds_append x (tab ∷ p.before), e.0, f, p.free);
      tabbed = omega (arith, tabs_append x (tab ∷ p.before), e.1, tabs_tab p.before, p.tabbed);
      whole =
          ap (λ (y : List ℕ). x ++ (tab ∷ y)) p.whole
          ∙ rw (append_assoc x (tab ∷ p.before) (feed ∷ []));
    }

-- of numbers within their limits, of which there is one at least
pub line_lined : (l : Line) (n : ℕ) (ns : List ℕ) → feeds l.tag ≡ 0 → all_hold l.limits 0 (n ∷ ns) ≡ true
    → Lined (line_text l (n ∷ ns)) (tabs l.tag + length ns)
unfolding all_hold
line_lined l n ns f h = go l.limits h
  where
    go : (ls : List Limit) → all_hold ls 0 (n ∷ ns) ≡ true
        → Lined (l.tag ++ numbers_text ls (n ∷ ns)) (tabs l.tag + length ns)
    go [] h = false_true h
    go (m ∷ ls) h =
        let p = numbers_lined m ls 0 n ns h in
        record {
          before = l.tag ++ p.before;
          free = omega (arith, feeds_append l.tag p.before, f, p.free);
          tabbed = omega (arith, tabs_append l.tag p.before, p.tabbed);
          whole = ap (λ (y : List ℕ). l.tag ++ y) p.whole ∙ rw (append_assoc l.tag p.before (feed ∷ []));
        }
