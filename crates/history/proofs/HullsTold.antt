-- The sheet and the weight of every hull are what the history tells of them.
use Prim.Native.Nat.{ℕ, ◌<◌}
use native.Mathlib.Omega.{arith}
use mathlib.Core.Path.{◌≡◌, refl, sym, ap, ◌∙◌}
use mathlib.Core.List.{List, [], ◌∷◌}
use lib.IntN.{ℤ, pos, ◌+ℤ◌, +ℤ_idr, +ℤ_assoc}
use lib.Dec.{eqb}
use borrow.Author.Tests.{eqb-false}
use Rattle.answers.specs.Answer.{Count}
use Rattle.capacity.specs.Weights.{boat_m}
use Rattle.register.specs.Calls.{Call, new_hull, open_hull, work, save, drop_draft, ask}
use Rattle.history.specs.Replies.{Reply, says}
use Rattle.history.specs.Runs.{Event, ◌⇒◌}
use Rattle.history.specs.History.{block}
use Rattle.history.specs.Told.{opening, is_save_of}
use Rattle.history.specs.Weights.{no_mark, mark, sheet_told, block_moves, entered_weight, differences, together}
use Rattle.history.specs.Weights.{weight_told}
use Rattle.history.proofs.Tools.{at_or, self}
use Rattle.history.proofs.Moves.{Made}
use Rattle.history.proofs.Model.{Draft, Register, State, refusal, enter, store}
use Rattle.history.proofs.ModelStep.{fresh, state_of, events_of}
use Rattle.history.proofs.Rules.{Refuses}
use Rattle.history.proofs.Rules.{Way, new_enters, new_unread, open_done, work_taken, save_done, drop_done}
use Rattle.history.proofs.Rules.{ask_done, refused}
use Rattle.history.proofs.SomeRule.{by_ways}
use Rattle.history.proofs.AllReady.{Drafts, drafts}
use Rattle.history.proofs.HistoryTells.{Tells, drawn}
use Rattle.history.proofs.TellsEvery.{history_tells}

pub record TellsHulls (R : Register) (past : List Event) : Type 0 where
  pub sheet : (h : ℕ) → h < R.entered → (R.hull h).sheet ≡ sheet_told h past
  pub weight : (h : ℕ) → h < R.entered → pos (boat_m (R.hull h).sheet) ≡ weight_told h past

-- ---- every rule

module _ {R : Register} {past : List Event} (f : TellsHulls R past) where
  -- an event that is nothing to any hull
  same : (e : Event) → ((h : ℕ) → mark h e past ≡ no_mark) → TellsHulls R (e ∷ past)
  unfolding sheet_told entered_weight differences
  same e n =
      record {
        sheet = λ h l. rw (n h, sheet_told) (f.sheet h l);
        weight = λ h l. rw (n h, entered_weight, differences) (f.weight h l);
      }

  entered_told : (t : List ℕ) → TellsHulls (enter R t) ((new_hull t ⇒ says (Count R.entered)) ∷ past)
  unfolding mark sheet_told entered_weight differences together
  entered_told t =
      let n : ℕ = R.entered in
      record {
        sheet =
            at_or n _ (λ l. rw (self, sheet_told) refl)
            (λ h x l. rw (x, sheet_told) (f.sheet h (omega (arith, eqb-false h n x))));
        weight =
            at_or n _ (λ l. rw (self, entered_weight, differences) (sym (+ℤ_idr _)))
            (λ h x l. rw (x, entered_weight, differences) (f.weight h (omega (arith, eqb-false h n x))));
      }

  -- a draft of which the block of its desk is told
  module _ (d k : ℕ) (y : Draft) (l : y.hull < R.entered) where
    saved_told :
        ((h : ℕ) → is_save_of h (save d ⇒ says (Count k)) past ≡ eqb h y.hull)
        → Made (block d past) (R.hull y.hull).sheet y.sheet
        → TellsHulls (store R y) ((save d ⇒ says (Count k)) ∷ past)
    unfolding mark sheet_told entered_weight differences together
    saved_told is m =
        let b : List Event = block d past in
        let told : (R.hull y.hull).sheet ≡ sheet_told y.hull past = f.sheet y.hull l in
        record {
          sheet =
              at_or y.hull _ (λ i. rw (is, self, sheet_told, ← told) m.sheet)
              (λ h x i. rw (is, x, sheet_told) (f.sheet h i));
          weight =
              at_or y.hull _
              (λ i.
              rw (is, self, entered_weight, differences, ← told)
              (m.weight
              ∙ ap (λ (z : ℤ). z +ℤ block_moves b (R.hull y.hull).sheet) (f.weight y.hull l)
              ∙ +ℤ_assoc (pos (entered_weight y.hull past)) (together (differences y.hull past))
              (block_moves b (R.hull y.hull).sheet)))
              (λ h x i. rw (is, x, entered_weight, differences) (f.weight h i));
        }

module _ {s : State} {past : List Event} (f : TellsHulls s.register past) (z : Tells s past) (ready : Drafts s past)
  where
    told_refused : (c : Call) {n : ℕ} → Refuses s c n → TellsHulls s.register ((c ⇒ refusal c n) ∷ past)
    unfolding mark is_save_of
    told_refused (new_hull t) p = same f _ (λ h. refl)
    told_refused (open_hull d k) p = same f _ (λ h. refl)
    told_refused (work d w) p = same f _ (λ h. refl)
    told_refused (save d) p = same f _ (λ h. refl)
    told_refused (drop_draft d) p = same f _ (λ h. refl)
    told_refused (ask k q) p = same f _ (λ h. refl)

    told_step : {c : Call} {t : State} {r : Reply} → Way s c t r → TellsHulls t.register ((c ⇒ r) ∷ past)
    unfolding mark is_save_of
    told_step (new_enters {t} r p e) = entered_told f t
    told_step (new_unread n line byte p e) = same f _ (λ h. refl)
    told_step (open_done p q) = same f _ (λ h. refl)
    told_step (work_taken y p q) = same f _ (λ h. refl)
    told_step (save_done {d} y p q u l) =
        let o = drawn (block d past) (opening d past) y (sym (z.drafts d) ∙ q) in
        let hull : o.from.hull ≡ y.hull = ap (λ (x : Draft). x.hull) o.draft in
        let r = ready d y q in
        saved_told f d _ y r.hull (λ h. rw (o.is, hull) refl) (r.made u l)
    told_step (drop_done y p q) = same f _ (λ h. refl)
    told_step (ask_done p) = same f _ (λ h. refl)
    told_step (refused p) = told_refused _ p

-- ---- every run

pub hulls_told : (cs : List Call) → TellsHulls (state_of cs).register (events_of cs)
unfolding state_of events_of fresh
hulls_told [] = record { sheet = λ h l. absurd (omega arith); weight = λ h l. absurd (omega arith) }
hulls_told (c ∷ cs) =
    by_ways (state_of cs) c (λ t r. TellsHulls t.register ((c ⇒ r) ∷ events_of cs))
    (λ t r p. told_step (hulls_told cs) (history_tells cs) (drafts cs) p)
