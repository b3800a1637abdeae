-- A sheet in the memory, which stands within it, is within its limits and weighed, and a text's sheet as the calls read
-- it.
use mathlib.Core.Path.{◌≡◌, ap, ◌∙◌}
use mathlib.Core.Bool.{true}
use mathlib.Core.List.{List}
use Prim.Native.Nat.{ℕ, ◌-◌, ◌<◌}
use native.Mathlib.Omega.{arith}
use lib.ListN.{length, take, drop, length-drop}
use lib.Seq.{take_all}
use Rattle.text.specs.Read.{Whole}
use Rattle.sheet.specs.Places.{sheet_words}
use Rattle.sheet.specs.SheetText.{read_sheet}
use Rattle.sheet.proofs.SheetText.{sheet_count}
use Rattle.reading.specs.Filled.{Heard}
use Rattle.reading.proofs.Heard.{heard_right}
use Rattle.sheet.specs.Sheet.{words_ok}
use Rattle.sheet.proofs.Words.{words_length}
use Rattle.capacity.proofs.Weights.{fit_most_lem}
use Rattle.capacity.proofs.LineSet.{line_light}
use Rattle.capacity.proofs.Most.{boat_most_lem}
use Rattle.memory.specs.Layout.{Sized, most_hulls, hull_sheet, draft_hull, draft_sheet}
use Rattle.memory.specs.Formed.{formed}
use Rattle.memory.specs.Asked.{AtHull, AtDesk, ToOpen, ToSet, ToSave}
use Rattle.memory.proofs.Sound.{sound}
use Rattle.register.specs.Refusals.{hull_refusal, open_refusal, desk_refusal, set_own, save_own, sheet_of}
use Rattle.register.proofs.Refusals.{hull_goes, open_goes, desk_goes}
use Rattle.register.proofs.Own.{set_fits, save_unspent}
use Rattle.register.proofs.Keeps.{text_words_lem}

-- ---- a hull's sheet, and a draft's, where nothing refuses the call

pub sized : (m : List ℕ) → formed m ≡ true → Sized m
sized m e = (sound m e).size

pub at_hull : {m : List ℕ} {h : ℕ} → hull_refusal m h ≡ 0 → AtHull m h
at_hull {m} {h} z =
    let g = hull_goes m h z in
    let s = sound m g.ok in
    record { size = s.size; hull = omega (arith, s.few, g.entered) }

pub at_desk_lem : {m : List ℕ} {d : ℕ} → desk_refusal m d ≡ 0 → AtDesk m d
at_desk_lem {m} {d} z = let g = desk_goes m d z in record { size = (sound m g.ok).size; desk = g.desk }

-- what the plates ask of it
pub hull_in_limits : (m : List ℕ) (h : ℕ) → hull_refusal m h ≡ 0 → words_ok (hull_sheet m h) ≡ true
hull_in_limits m h z = let g = hull_goes m h z in ((sound m g.ok).hulls h g.entered).sheet.within

pub draft_in_limits : (m : List ℕ) (d : ℕ) → desk_refusal m d ≡ 0 → words_ok (draft_sheet m d) ≡ true
draft_in_limits m d z = (desk_goes m d z).draft.sheet.within

pub ruleset hull_laws = (at_hull, hull_in_limits)

-- ---- what the changes to the memory ask

pub to_open : (m : List ℕ) (d h : ℕ) → open_refusal m d h ≡ 0 → ToOpen m d h
to_open m d h z =
    let g = open_goes m d h z in
    let s = sound m g.ok in
    record { size = s.size; desk = g.desk; hull = omega (arith, s.few, g.entered) }

module _ (m : List ℕ) (d : ℕ) (z : desk_refusal m d ≡ 0) where
  pub to_set : (line w c : ℕ) → set_own (draft_sheet m d) line w c ≡ 0 → ToSet m d line w c
  to_set line w c y =
      let g = at_desk_lem z in
      let s : List ℕ = draft_sheet m d in
      let k = (desk_goes m d z).draft.sheet in
      let p = set_fits s line w c y in
      record {
        line = record { size = g.size; desk = g.desk; first = p.low; last = p.high };
        old = omega (arith, line_light s line (words_length s k.within) p.low p.high, k.weight_is);
        room = omega (arith, boat_most_lem s k.within, fit_most_lem w c p.fits, k.weight_is);
      }

  pub draft_hull_in : draft_hull m d < most_hulls
  draft_hull_in = let g = desk_goes m d z in omega (arith, (sound m g.ok).few, g.draft.entered)

  pub to_save : save_own m d ≡ 0 → ToSave m d
  to_save y =
      let g = desk_goes m d z in
      let s = sound m g.ok in
      record {
        size = s.size;
        desk = g.desk;
        hull = draft_hull_in;
        number = omega (arith, save_unspent m d y, (s.hulls _ g.draft.entered).number);
      }

pub ruleset draft_laws = (at_desk_lem, draft_in_limits, draft_hull_in, to_save)

-- ---- a text's sheet

module _ (t : List ℕ) {n : ℕ} {o : List ℕ} (p : Heard (read_sheet t) (Whole n) o) where
  sheet_long : length (drop 1 o) ≡ sheet_words
  sheet_long = length-drop 1 o ∙ ap (λ (n : ℕ). n - 1) (sheet_count t o (heard_right p))

  pub read_lent : take sheet_words (drop 1 o) ≡ sheet_of t
  read_lent = take_all sheet_words (drop 1 o) (omega (arith, sheet_long)) ∙ rw (heard_right p, sheet_of)

  -- and it is within the limits
  pub read_within : words_ok (take sheet_words (drop 1 o)) ≡ true
  read_within = rw read_lent (text_words_lem t o (heard_right p))

  pub read_long : length (take sheet_words (drop 1 o)) ≡ sheet_words
  read_long = ap length (take_all sheet_words (drop 1 o) (omega (arith, sheet_long))) ∙ sheet_long
